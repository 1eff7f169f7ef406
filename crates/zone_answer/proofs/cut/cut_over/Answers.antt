use Rattle.std.proofs.Common.{◌∙◌, refl, sym, ap, subst, arith, ℕ, ◌+◌, ◌-◌}
use Rattle.zone_model.specs.Names.{ancestor}
use Rattle.zone_answer.specs.Standing.{ShowsAbove}
use Rattle.zone_answer.proofs.CutLaws.{none_to_origin, none_to_next, cut_found, none_over}
use Rattle.zone_answer.proofs.cut.cut_over.Goals as goal

pub loop-labels-init : goal.loop-labels-init
loop-labels-init g c = record { same = refl; none = λ zone shows. none_to_origin c.args.origin.now c.args.name.now zone c.labels-labels.result c.labels-labels.ensures }

pub delegated-requires-clause-shown : goal.delegated-requires-clause-shown
delegated-requires-clause-shown g c =
    (c.requires.shown.0, subst (λ s. ShowsAbove (g.V.Reading.holds s) (g.V.Reading.lies s) c.args.name.now c.args.above.now c.requires.shown.0) (sym c.loop-labels.invariant.same) c.requires.shown.1)

pub returns-in-Some-clause-cut : goal.returns-in-Some-clause-cut
returns-in-Some-clause-cut g c zone shows =
    let now = subst (λ s. ShowsAbove (g.V.Reading.holds s) (g.V.Reading.lies s) c.args.name.now c.args.above.now zone) (sym c.loop-labels.invariant.same) shows in
    cut_found c.args.origin.now c.args.name.now zone c.delegated.new.item c.loop-labels.labels (record { name = ancestor (c.loop-labels.labels + 1) c.args.name.now; len = c.in-Some.len }) c.requires.under (omega arith) (omega arith) (c.loop-labels.invariant.none zone shows) (c.in-Some.ensures.cut zone now)

pub loop-labels-preserved : goal.loop-labels-preserved
loop-labels-preserved g c = record {
  same = c.delegated.ensures.same ∙ c.loop-labels.invariant.same;
  none = λ zone shows.
      let now = subst (λ s. ShowsAbove (g.V.Reading.holds s) (g.V.Reading.lies s) c.args.name.now c.args.above.now zone) (sym c.loop-labels.invariant.same) shows in
      none_to_next c.args.origin.now c.args.name.now zone c.loop-labels.labels c.requires.under (omega arith) (omega arith) (c.loop-labels.invariant.none zone shows) (c.in_default.ensures.cut zone now);
}

pub returns-clause-cut : goal.returns-clause-cut
returns-clause-cut g c zone shows =
    none_over c.args.origin.now c.args.name.now zone c.loop-labels.labels c.saturating_sub-last.result (c.saturating_sub-last.ensures ∙ ap (λ (n : ℕ). n - 1) c.labels.ensures) (omega arith) (c.loop-labels.invariant.none zone shows)
