-- What is found in the table of types. Each law is a test of all its rows, which is computed.
use Rattle.std.proofs.Common.{◌≡◌, ℕ, ◌≤◌, Bool, true, false, cond, ◌&&◌, eqb, leb, List, [], ◌∷◌, length, refl, subst, Option, Some, None}
use borrow.Author.Tests.{leb-true}
use Rattle.std.specs.List.{find, list_all}
use Rattle.std.specs.Option.{option_map}
use Rattle.zone_model.specs.Types.{Field, Form, Fields, Strings, NamedType, named_types, type_numbered, form_of}

-- what is found passes its test, and each test that all pass
pub found_passes : {A : Type 0} (p q : A → Bool) (xs : List A) (x : A) → list_all p xs ≡ true → find q xs ≡ Some x → (p x ≡ true) × (q x ≡ true)
found_passes p q [] x h f = absurd cc
found_passes {A = A} p q (y ∷ ys) x h f = by_test (found_passes p q ys x) (p y) (q y) refl refl h f
  where
    by_test : (list_all p ys ≡ true → find q ys ≡ Some x → (p x ≡ true) × (q x ≡ true)) → (a b : Bool) → p y ≡ a → q y ≡ b
        → (a && list_all p ys) ≡ true → cond b (Some y) (find q ys) ≡ Some x → (p x ≡ true) × (q x ≡ true)
    by_test rest false b ea eb h f = absurd cc
    by_test rest true true ea eb h f = let s : y ≡ x = cc in subst (λ (z : A). (p z ≡ true) × (q z ≡ true)) s (ea, eb)
    by_test rest true false ea eb h f = rest h f

few_in : Form → Bool
few_in (Fields fields) = leb (length fields) 255
few_in Strings = true

-- a row of fields is short
pub few_fields : (rtype : ℕ) (fields : List Field) → form_of rtype ≡ Some (Fields fields) → length fields ≤ 255
unfolding few_in
few_fields rtype fields h = by_found (type_numbered rtype) refl h
  where
    by_found : (o : Option NamedType) → type_numbered rtype ≡ o → option_map (λ (t : NamedType). t.form) o ≡ Some (Fields fields) → length fields ≤ 255
    by_found None e k = absurd cc
    by_found (Some t) e k =
        let few = (found_passes (λ (t : NamedType). few_in t.form) (λ (t : NamedType). eqb t.number rtype) named_types t refl e).0 in
        let s : t.form ≡ Fields fields = cc in
        leb-true (length fields) 255 (subst (λ form. few_in form ≡ true) s few)
