use Rattle.std.proofs.Common.{◌≡◌, ◌∙◌, sym, ap, subst, ℕ, List, length}
use Rattle.std.proofs.lemmas.List.{take_at}
use Rattle.zone_model.specs.Records.{IsItem}
use Rattle.master_file.specs.Owned.{kept_view, IsKept}
use Rattle.master_file.proofs.OwnedLemmas.{single_is}
use Rattle.master_file.proofs.owned.Owned.encode.Goals as goal

pub returns-in-Single-clause-item : goal.returns-in-Single-clause-item
returns-in-Single-clause-item c =
    let is : IsItem c.in-Single.octets.items c.args.self.now.0 c.args.self.now.1 = single_is c.in-Single.octets.items c.args.self.now (subst IsKept c.in-Single.is c.self.invariant) (ap kept_view (sym c.in-Single.is) ∙ c.self.view_is) in
    let copied : c.copy_from_slice.new.self ≡ c.in-Single.octets.items = c.copy_from_slice.ensures.after ∙ c.deref.ensures.value in
    let whole : length c.copy_from_slice.new.self ≡ c.len-len.result = ap (λ (l : List ℕ). length l) copied ∙ sym (ap (λ (l : List ℕ). length l) c.deref.ensures.value) ∙ c.deref.ensures.len ∙ sym c.len-len.ensures in
    subst (λ (l : List ℕ). IsItem l c.args.self.now.0 c.args.self.now.1) (sym (take_at c.copy_from_slice.new.self _ c.len-len.result whole ∙ copied)) is
