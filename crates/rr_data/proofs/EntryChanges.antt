-- What a call leaves of an entry.
use Rattle.std.proofs.Common.{◌≡◌, ◌∙◌, refl, sym, ap, subst, ℕ, List, [], Option, Some, None, Result, Ok, Err, OnOk, OnErr}
use Rattle.std.specs.Option.{option_map}
use Rattle.zone_model.specs.declared.DataRefusal.{DataRefusal}
use Rattle.zone_model.specs.Names.{Name}
use Rattle.zone_model.specs.Records.{Entry, IsEntry, IsItem}
use Rattle.zone_model.specs.Items.{item_of}
use Rattle.zone_model.specs.Data.{ahead}
use Rattle.zone_model.proofs.SplitLemmas.{IsBytes}
use Rattle.zone_model.proofs.ItemLemmas.{item_back, item_sound}

-- an entry is left whether the call gave something or not
pub after_either : {T E : Type 0} (r : Result T E) (old new wanted : Entry) → OnOk r (new ≡ wanted) → OnErr r (new ≡ old) → IsEntry old → IsEntry wanted → IsEntry new
after_either (Ok x) old new wanted h k o w = subst (λ (e : Entry). IsEntry e) (sym h) w
after_either (Err x) old new wanted h k o w = subst (λ (e : Entry). IsEntry e) (sym k) o

-- what is read is an item
pub decoded : (bytes : List ℕ) (entry : Entry) → IsBytes bytes → Some entry ≡ option_map (λ x. x.1) (item_of bytes) → (owner : Name) × IsItem bytes owner entry
decoded bytes entry b h = by_item (item_of bytes) (item_sound bytes) h
  where
    by_item : (o : Option (Name × Entry)) → ((x : Name × Entry) → IsBytes bytes → o ≡ Some x → IsItem bytes x.0 x.1) → Some entry ≡ option_map (λ x. x.1) o → (owner : Name) × IsItem bytes owner entry
    by_item None f k = absurd cc
    by_item (Some x) f k = let e : x.1 ≡ entry = cc in (x.0, subst (λ (y : Entry). IsItem bytes x.0 y) e (f x b refl))

-- what is not read is none
pub not_decoded : (bytes : List ℕ) → None ≡ option_map (λ x. x.1) (item_of bytes) → (owner : Name) (entry : Entry) → IsItem bytes owner entry → ⊥
not_decoded bytes h owner entry k =
    let e : None ≡ Some entry = h ∙ ap (option_map (λ (x : Name × Entry). x.1)) (item_back bytes owner entry k) in
    absurd cc

pub nothing_ahead : (r : Result (List ℕ) DataRefusal) (octets : List ℕ) → ahead [] r ≡ Ok octets → r ≡ Ok octets
nothing_ahead (Ok x) octets h = h
nothing_ahead (Err e) octets h = absurd cc

-- octets are one item at most
pub item_once : (bytes : List ℕ) (a b : Name) (e f : Entry) → IsItem bytes a e → IsItem bytes b f → (a ≡ b) × (e ≡ f)
item_once bytes a b e f h k =
    let s : Some (a, e) ≡ Some (b, f) = sym (item_back bytes a e h) ∙ item_back bytes b f k in
    let p : (a, e) ≡ (b, f) = cc in
    (ap (λ (x : Name × Entry). x.0) p, ap (λ (x : Name × Entry). x.1) p)
