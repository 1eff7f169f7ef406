use Rattle.std.proofs.Common.{◌≡◌, ◌∙◌, sym, ap, subst, rules, is_some}
use Rattle.zone_model.specs.Records.{Entry, IsItem, rrset_of}
use Rattle.master_file.specs.Owned.{kept_view, IsKept}
use Rattle.master_file.proofs.OwnedLemmas.{single_is}
use Rattle.master_file.proofs.owned.Owned.has_set.Goals as goal

pub returns-in_ok-several-in-Single : goal.returns-in_ok-several-in-Single
returns-in_ok-several-in-Single c =
    let is : IsItem c.in-Single.octets.items c.args.self.now.0 c.args.self.now.1 = single_is c.in-Single.octets.items c.args.self.now (subst IsKept c.in-Single.is c.self.invariant) (ap kept_view (sym c.in-Single.is) ∙ c.self.view_is) in
    let same = c.in_ok-several-in-Single.ensures.is c.args.self.now.0 c.args.self.now.1 (rw c.deref.ensures.value is) in
    subst (λ (e : Entry). c.is_some.result ≡ is_some (rrset_of c.args.rtype e)) same.1 (search rules)
