use Rattle.std.proofs.Common.{ap, sym, subst, List, [], ◌∷◌, None}
use Rattle.std.proofs.lemmas.Result.{on_ok_weaker}
use Rattle.zone_model.specs.Records.{Rrset, joined}
use Rattle.rr_data.specs.Places.{StandsAt}
use Rattle.rr_data.proofs.PlaceLemmas.{replaces}
use Rattle.rr_data.proofs.RisingLemmas.{records_rise}
use Rattle.rr_data.proofs.entry.add_to.Goals as goal

pub returns-in-Ok-clause-ok : goal.returns-in-Ok-clause-ok
returns-in-Ok-clause-ok c =
    let stands : StandsAt c.args.rtype c.args.sets.now.items c.in-Ok.at = subst (λ (l : List Rrset). StandsAt c.args.rtype l c.in-Ok.at) c.deref.ensures.value c.in-Ok.ensures in
    on_ok_weaker c.add.result (λ e. replaces c.args.rtype c.args.sets.now.items c.in-Ok.at c.index_mut-set.result.now c.add.new.self (joined c.args.rtype c.args.ttl c.args.added) c.index_mut-set.ensures.value stands (ap (λ (s : Rrset). s ∷ []) (sym e))) c.add.ensures.ok

pub add-requires : goal.add-requires
add-requires c =
    let stands : StandsAt c.args.rtype c.args.sets.now.items c.in-Ok.at = subst (λ (l : List Rrset). StandsAt c.args.rtype l c.in-Ok.at) c.deref.ensures.value c.in-Ok.ensures in
    records_rise None c.args.sets.now.items c.in-Ok.at c.index_mut-set.result.now c.requires stands.within c.index_mut-set.ensures.value
