-- Octets pushed one by one.
use Rattle.std.proofs.Common.{◌≡◌, ◌∙◌, ℕ, ◌+◌, ◌-◌, ◌*◌, ◌≤◌, ◌<◌, length, drop, get_or, ◌&&◌, Bool, true, false, cond, leb, eqb, List, ◌++◌, ◌∷◌, [], Option, Some, None, ap, sym, refl, append_assoc, arith}
use Rattle.std.proofs.lemmas.Bool.Decides.{nat_tests}
use Rattle.std.specs.Char.{is_ascii_digit}
use Rattle.zone_text.specs.Escapes.{last_digit, behind_view, Unescapes}
use Rattle.zone_text.specs.declared.escapes.Behind.{Behind}
use Rattle.zone_text.specs.declared.escapes.Behind.TheVariants.{Plain, Slash, One, Two}
use Rattle.std.proofs.lemmas.List.{drop_more, drop_all}
use Rattle.zone_model.specs.DataWords as says
use Rattle.zone_model.specs.DataWords.{octets_from}
use Rattle.std.specs.Option.{option_map}

pub push_front : (old : List ℕ) (c : ℕ) (o : Option (List ℕ)) → option_map (λ cs. old ++ cs) (option_map (λ cs. c ∷ cs) o) ≡ option_map (λ cs. (old ++ c ∷ []) ++ cs) o
push_front old c None = refl
push_front old c (Some cs) = ap Some (sym (append_assoc old (c ∷ []) cs))

pub plain_push : (old new text : List ℕ) (b : says.Behind) (c : ℕ) → b ≡ says.Plain → new ≡ old ++ c ∷ [] → (c ≡ 92 → ⊥) → option_map (λ cs. old ++ cs) (octets_from b (c ∷ text)) ≡ option_map (λ cs. new ++ cs) (octets_from says.Plain text)
unfolding octets_from
plain_push old new text b c p e n =
    let t : eqb c 92 ≡ false = grind (arith, nat_tests) in
    ap (λ (k : says.Behind). option_map (λ cs. old ++ cs) (octets_from k (c ∷ text))) p
    ∙ ap (λ b. option_map (λ cs. old ++ cs) (cond b (octets_from says.Slash text) (option_map (λ cs. c ∷ cs) (octets_from says.Plain text)))) t
    ∙ push_front old c (octets_from says.Plain text) ∙ ap (λ (l : List ℕ). option_map (λ cs. l ++ cs) (octets_from says.Plain text)) (sym e)

two_value : (v c w : ℕ) (t : Bool) → cond t (Some (10 * v + (c - 48))) None ≡ Some w → (t ≡ true) × (10 * v + (c - 48) ≡ w)
two_value v c w true h = (refl, cc)
two_value v c w false h = absurd cc

pub two_push : (old new text : List ℕ) (b : says.Behind) (v c w : ℕ) → b ≡ says.Two v → last_digit v c ≡ Some w → new ≡ old ++ w ∷ [] → option_map (λ cs. old ++ cs) (octets_from b (c ∷ text)) ≡ option_map (λ cs. new ++ cs) (octets_from says.Plain text)
unfolding octets_from
two_push old new text b v c w p d e =
    let f = two_value v c w (is_ascii_digit c && leb (10 * v + (c - 48)) 255) d in
    ap (λ (k : says.Behind). option_map (λ cs. old ++ cs) (octets_from k (c ∷ text))) p
    ∙ ap (λ b. option_map (λ cs. old ++ cs) (cond b (option_map (λ cs. (10 * v + (c - 48)) ∷ cs) (octets_from says.Plain text)) None)) f.0
    ∙ ap (λ (n : ℕ). option_map (λ cs. old ++ cs) (option_map (λ cs. n ∷ cs) (octets_from says.Plain text))) f.1
    ∙ push_front old w (octets_from says.Plain text) ∙ ap (λ (l : List ℕ). option_map (λ cs. l ++ cs) (octets_from says.Plain text)) (sym e)

pub two_bad : (text : List ℕ) (b : says.Behind) (v c : ℕ) → b ≡ says.Two v → last_digit v c ≡ None → octets_from b (c ∷ text) ≡ None
unfolding octets_from
two_bad text b v c p d = ap (λ (k : says.Behind). octets_from k (c ∷ text)) p ∙ by_test (is_ascii_digit c && leb (10 * v + (c - 48)) 255) d
  where
    by_test : (t : Bool) → cond t (Some (10 * v + (c - 48))) None ≡ None → cond t (option_map (λ cs. (10 * v + (c - 48)) ∷ cs) (octets_from says.Plain text)) None ≡ None
    by_test true h = absurd cc
    by_test false h = refl

none_of : (old : List ℕ) (o : Option (List ℕ)) → option_map (λ cs. old ++ cs) o ≡ None → o ≡ None
none_of old None h = refl
none_of old (Some cs) h = absurd cc

-- a byte more
pub unescape_on : (first now new text : List ℕ) (i : ℕ) (b : says.Behind) (o : Option Behind) (next : Behind) → i < length text → o ≡ Some next
    → option_map (λ cs. first ++ cs) (octets_from says.Plain text) ≡ option_map (λ cs. now ++ cs) (octets_from b (drop i text))
    → ((rest : List ℕ) → Unescapes now new o rest (octets_from b (get_or text i 0 ∷ rest)))
    → option_map (λ cs. first ++ cs) (octets_from says.Plain text) ≡ option_map (λ cs. new ++ cs) (octets_from (behind_view next) (drop (i + 1) text))
unescape_on first now new text i b o next lt e h f =
    let g : Unescapes now new (Some next) (drop (i + 1) text) (octets_from b (get_or text i 0 ∷ drop (i + 1) text)) = rw e at (f (drop (i + 1) text)) in
    h ∙ ap (λ (l : List ℕ). option_map (λ cs. now ++ cs) (octets_from b l)) (drop_more text i 0 lt) ∙ g

pub unescape_bad : (first now new text : List ℕ) (i : ℕ) (b : says.Behind) (o : Option Behind) → i < length text → o ≡ None
    → option_map (λ cs. first ++ cs) (octets_from says.Plain text) ≡ option_map (λ cs. now ++ cs) (octets_from b (drop i text))
    → ((rest : List ℕ) → Unescapes now new o rest (octets_from b (get_or text i 0 ∷ rest)))
    → octets_from says.Plain text ≡ None
unescape_bad first now new text i b o lt e h f =
    let g : octets_from b (get_or text i 0 ∷ drop (i + 1) text) ≡ None = rw e at (f (drop (i + 1) text)) in
    none_of first (octets_from says.Plain text) (h ∙ ap (λ (l : List ℕ). option_map (λ cs. now ++ cs) (octets_from b l)) (drop_more text i 0 lt) ∙ ap (λ (x : Option (List ℕ)). option_map (λ cs. now ++ cs) x) g)

ends_open : (b : Behind) → (b ≡ Plain → ⊥) → octets_from (behind_view b) [] ≡ None
unfolding octets_from
ends_open Plain n = absurd (n refl)
ends_open Slash n = refl
ends_open (One v) n = refl
ends_open (Two v) n = refl

pub unescape_open : (first now text : List ℕ) (i : ℕ) (b : Behind) → length text ≤ i → (b ≡ Plain → ⊥)
    → option_map (λ cs. first ++ cs) (octets_from says.Plain text) ≡ option_map (λ cs. now ++ cs) (octets_from (behind_view b) (drop i text))
    → octets_from says.Plain text ≡ None
unescape_open first now text i b le n h =
    none_of first (octets_from says.Plain text) (h ∙ ap (λ (l : List ℕ). option_map (λ cs. now ++ cs) (octets_from (behind_view b) l)) (drop_all i text le) ∙ ap (λ (x : Option (List ℕ)). option_map (λ cs. now ++ cs) x) (ends_open b n))

pub ruleset string_rules = (push_front, plain_push, two_push, two_bad)
