use Rattle.std.proofs.Common.{◌≡◌, ◌∙◌, ◌<◌, List, sym, ap, subst, arith, None, nat_cmp}
use Rattle.std.specs.declared.cmp.Ordering.TheVariants.{Less}
use Rattle.std.proofs.lemmas.Cmp.{ranked}
use Rattle.zone_model.specs.Records.{Rrset, rrset_of, IsEntry}
use Rattle.rr_data.proofs.RisingLemmas.{none_from}
use Rattle.rr_data.proofs.entry.Entry.find_set.Goals as goal

pub returns-in-Less : goal.returns-in-Less
returns-in-Less c =
    let sets = c.deref-set-items.result.now in
    let here = c.set-item.result in
    let rises = subst IsEntry (sym c.deref-set-items.ensures.value) c.self.invariant in
    let lower : c.args.rtype < here.rtype = ranked c.args.rtype here.rtype Less (sym c.in-Less.is ∙ c.cmp.ensures ∙ ap (nat_cmp c.args.rtype) c.rtype.ensures) in
    ap (rrset_of c.args.rtype) (sym c.self.view_is ∙ sym c.deref-set-items.ensures.value) ∙ c.loop-set.invariant
    ∙ none_from c.args.rtype None sets c.loop-set.set-index here rises (omega (arith, c.loop-set-test.true)) c.set-item.is lower
