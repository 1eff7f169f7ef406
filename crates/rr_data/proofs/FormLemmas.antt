-- Octets of a type's form.
use Rattle.std.proofs.Common.{◌≡◌, ◌∙◌, ℕ, ◌-◌, ◌<◌, zero, suc, length, drop, Bool, true, false, ◌&&◌, leb, List, ◌++◌, ◌∷◌, [], ap, refl, arith}
use Rattle.std.specs.List.{list_all}
use Rattle.zone_model.specs.DataForms.{strings_fit}

and_both : (a b : Bool) → (a && b) ≡ true → (a ≡ true) × (b ≡ true)
and_both true b h = (refl, h)
and_both false b h = absurd cc

both_and : (a b : Bool) → a ≡ true → b ≡ true → (a && b) ≡ true
both_and true b h k = k
both_and false b h k = absurd cc

pub all_append : (p : ℕ → Bool) (a b : List ℕ) → list_all p a ≡ true → list_all p b ≡ true → list_all p (a ++ b) ≡ true
all_append p [] b h k = k
all_append p (x ∷ a) b h k = let f = and_both (p x) (list_all p a) h in both_and (p x) (list_all p (a ++ b)) f.0 (all_append p a b f.1 k)

pub ruleset digits_rules = (all_append)

pub strings_more : (left n : ℕ) (octets rest : List ℕ) → 0 < left → octets ≡ n ∷ rest → strings_fit left octets ≡ (leb n (length rest) && strings_fit (left - 1) (drop n rest))
unfolding strings_fit
strings_more zero n octets rest h e = absurd (omega arith)
strings_more (suc left) n octets rest h e = ap (strings_fit (suc left)) e ∙ ap (λ (k : ℕ). leb n (length rest) && strings_fit k (drop n rest)) (omega arith)

pub strings_end : (left : ℕ) (octets : List ℕ) → length octets ≡ 0 → strings_fit left octets ≡ true
unfolding strings_fit
strings_end left [] h = refl
strings_end left (x ∷ octets) h = absurd (omega arith)

pub ruleset strings_rules = (strings_more, strings_end)
