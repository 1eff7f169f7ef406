use Rattle.std.proofs.Common.{◌∙◌, Some, arith, ap}
use Rattle.std.proofs.lemmas.Option.{slice_get_within}
use Rattle.zone_model.proofs.NameLemmas.{same_name-true}
use Rattle.zone_server.proofs.FindLaws.{differs, none_further}
use Rattle.zone_server.proofs.finding.zone_of.Goals as goal

pub loop-zone-preserved : goal.loop-zone-preserved
loop-zone-preserved g c =
    none_further c.args.zones.now.origins.items c.args.origin.now c.loop-zone.zone c.origin.result.now c.loop-zone.invariant c.origin.ensures
    (differs c.origin.result.now c.args.origin.now (let e = c.eq.ensures in let f = c.if-eq.false in cc))

pub returns-then-eq-clause-found : goal.returns-then-eq-clause-found
returns-then-eq-clause-found g c =
    c.origin.ensures ∙ ap Some (same_name-true c.origin.result.now c.args.origin.now (let e = c.eq.ensures in let f = c.if-eq.true in cc))

pub returns-clause-none : goal.returns-clause-none
returns-clause-none g c = λ none zone other at.
    let lt = slice_get_within c.args.zones.now.origins.items zone other at in
    c.loop-zone.invariant zone other (omega (arith, lt)) at
