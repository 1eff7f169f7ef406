use Rattle.std.proofs.Common.{◌∙◌, sym, ap, subst}
use Rattle.zone_model.specs.Names.{Name}
use Rattle.zone_model.specs.Records.{Entry, IsItem, with_rr}
use Rattle.master_file.specs.Owned.{kept_view, IsKept}
use Rattle.master_file.specs.declared.owned.Several.{Several}
use Rattle.master_file.proofs.OwnedLemmas.{single_is}
use Rattle.master_file.proofs.owned.Owned.add.Goals as goal

pub returns-in_ok-new-in-Single : goal.returns-in_ok-new-in-Single
returns-in_ok-new-in-Single c =
    let is : IsItem c.in-Single.octets.items c.args.self.now.0 c.args.self.now.1 = single_is c.in-Single.octets.items c.args.self.now (subst IsKept c.in-Single.is c.self.invariant) (ap kept_view (sym c.in-Single.is) ∙ c.self.view_is) in
    let same = c.in_ok-several-in-Single.ensures.is c.args.self.now.0 c.args.self.now.1 (rw c.deref.ensures.value is) in
    ap (λ (s : Several). (s.owner, s.entry)) c.in_ok-new-in-Single.ensures.ok
    ∙ ap (λ (n : Name). (n, c.add_to.new.several.entry)) (c.in_ok-add_to-in-Single.ensures.owner ∙ same.0)
    ∙ ap (λ (e : Entry). (c.args.self.now.0, e)) (c.in_ok-add_to-in-Single.ensures.entry ∙ ap (with_rr c.args.rtype c.args.time c.args.rdata) same.1)
