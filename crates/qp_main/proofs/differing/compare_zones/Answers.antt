use Rattle.std.proofs.Common.{rules, ◌≡◌, ◌∙◌, ℕ, Bool, cond, eqb, List, length, ap}
use Rattle.zone_model.specs.Names.{Name}
use Rattle.zone_model.specs.Versions.{Operation}
use Rattle.zone_diff.specs.Differences.{difference}
use Rattle.zone_diff.specs.Texts.{text_in}
use Rattle.job_report.specs.Pieces.{pieces_text}
use Rattle.qp_main.specs.declared.status.Status.TheVariants as status
use Rattle.qp_main.specs.Saids.{second_said, zone_said}
use Rattle.qp_main.proofs.DifferLemmas.{told}
use Rattle.qp_main.proofs.StopLemmas.{first_stops, second_stops}
use Rattle.qp_main.proofs.differing.compare_zones.Goals as goal

pub returns-in_err-before-clause-stops : goal.returns-in_err-before-clause-stops
returns-in_err-before-clause-stops c =
    let i = c.args.invocation.now in
    let told = first_stops c.args.comparison.style c.args.comparison.serial i.origin (zone_said i.origin c.args.input) (second_said i.origin c.args.input) _ c.in_err-before.ensures.stops in search (rules, told)

pub returns-in_err-after-clause-stops : goal.returns-in_err-after-clause-stops
returns-in_err-after-clause-stops c =
    let i = c.args.invocation.now in
    let told = second_stops c.args.comparison.style c.args.comparison.serial i.origin (zone_said i.origin c.args.input) (second_said i.origin c.args.input) c.in_ok-before.before.pairs _ c.in_ok-before.ensures.zone c.in_err-after.ensures.stops in search (rules, told)

pub returns-clause-told : goal.returns-clause-told
returns-clause-told c =
    let i = c.args.invocation.now in
    let style = c.args.comparison.style in
    let serial = c.args.comparison.serial in
    let before = c.in_ok-before.before.pairs in
    let after = c.in_ok-after.after.pairs in
    let operations : List Operation = difference serial before after in
    let text : pieces_text c.of.result ≡ text_in style i.origin operations = c.of.ensures ∙ c.in_ok-text.ensures.text ∙ ap (λ (n : Name). text_in style n operations) c.in_ok-before.ensures.origin in
    let ended : c.status_of.result ≡ cond (eqb (length operations) 0) status.Done status.Differ =
    c.status_of.ensures ∙ ap (λ (l : List ℕ). cond (eqb (length l) 0) status.Done status.Differ) c.deref.ensures.value ∙ ap (λ (b : Bool). cond b status.Done status.Differ) c.in_ok-text.ensures.nothing in
    told style serial i.origin c.args.input before after c.in_ok-before.ensures.of_origin c.in_ok-after.ensures.of_origin c.in_ok-after.ensures.short c.in_ok-before.ensures.zone c.in_ok-after.ensures.zone c.status_of.result (pieces_text c.of.result) text ended
