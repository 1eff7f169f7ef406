-- Strings printed one by one.
use Rattle.std.proofs.Common.{◌≡◌, ◌∙◌, ℕ, zero, suc, ◌-◌, ◌<◌, ◌≤◌, true, false, cond, eqb, List, [], ◌∷◌, ◌++◌, length, refl, sym, ap, arith, Option, Some, None, option_and_then, append_assoc}
use Rattle.std.specs.Option.{option_map}
use Rattle.zone_model.specs.Splits.{split_octets}
use Rattle.zone_model.specs.DataText.{strings_text, quoted_text}
use Rattle.rr_data.specs.Printing.{PrintsFields}

abbrev on : ℕ → List ℕ × List ℕ → Option (List ℕ)
on left x = cond (eqb (length x.1) 0) (Some (quoted_text x.0)) (option_map (λ t. quoted_text x.0 ++ (32 ∷ []) ++ t) (strings_text left x.1))

more : (left n : ℕ) (octets behind : List ℕ) → 0 < left → octets ≡ n ∷ behind → strings_text left octets ≡ option_and_then (on (left - 1)) (split_octets n behind)
unfolding strings_text
more zero n octets behind h e = absurd (omega arith)
more (suc left) n octets behind h e = ap (strings_text (suc left)) e ∙ ap (λ (k : ℕ). option_and_then (on k) (split_octets n behind)) (omega arith)

none_of : (first now : List ℕ) (wanted x : Option (List ℕ)) → option_map (λ t. first ++ t) wanted ≡ option_map (λ t. now ++ t) x → x ≡ None → wanted ≡ None
none_of first now None x h e = refl
none_of first now (Some w) None h e = absurd cc
none_of first now (Some w) (Some x) h e = absurd cc

-- no octets are left
pub none_left : (left : ℕ) (octets first now : List ℕ) (wanted : Option (List ℕ)) → option_map (λ t. first ++ t) wanted ≡ option_map (λ t. now ++ t) (strings_text left octets) → length octets ≡ 0 → wanted ≡ None
unfolding strings_text
none_left left octets first now wanted h e = none_of first now wanted (strings_text left octets) h (nothing left octets e)
  where
    nothing : (left : ℕ) (octets : List ℕ) → length octets ≡ 0 → strings_text left octets ≡ None
    nothing left [] e = refl
    nothing left (n ∷ octets) e = absurd (omega arith)

-- no string may come any more
pub none_more : (left : ℕ) (octets first now : List ℕ) (wanted : Option (List ℕ)) → option_map (λ t. first ++ t) wanted ≡ option_map (λ t. now ++ t) (strings_text left octets) → left ≤ 0 → wanted ≡ None
unfolding strings_text
none_more left octets first now wanted h e = none_of first now wanted (strings_text left octets) h (nothing left octets e)
  where
    nothing : (left : ℕ) (octets : List ℕ) → left ≤ 0 → strings_text left octets ≡ None
    nothing zero [] e = refl
    nothing zero (n ∷ octets) e = refl
    nothing (suc left) octets e = absurd (omega arith)

-- the string is cut off
pub string_cut : (left n : ℕ) (octets behind first now : List ℕ) (wanted : Option (List ℕ)) → option_map (λ t. first ++ t) wanted ≡ option_map (λ t. now ++ t) (strings_text left octets) → 0 < left → octets ≡ n ∷ behind → None ≡ split_octets n behind → wanted ≡ None
string_cut left n octets behind first now wanted h lt e s =
    none_of first now wanted (strings_text left octets) h (more left n octets behind lt e ∙ ap (option_and_then (on (left - 1))) (sym s))

-- the last string
pub string_last : (left n : ℕ) (octets behind string others first now new : List ℕ) (wanted : Option (List ℕ)) → option_map (λ t. first ++ t) wanted ≡ option_map (λ t. now ++ t) (strings_text left octets) → 0 < left → octets ≡ n ∷ behind → Some (string, others) ≡ split_octets n behind → eqb (length others) 0 ≡ true → new ≡ now ++ quoted_text string → PrintsFields true first new wanted
string_last left n octets behind string others first now new wanted h lt e s t p =
    let x : strings_text left octets ≡ Some (quoted_text string) = more left n octets behind lt e ∙ ap (option_and_then (on (left - 1))) (sym s) ∙ ap (λ b. cond b (Some (quoted_text string)) (option_map (λ t. quoted_text string ++ (32 ∷ []) ++ t) (strings_text (left - 1) others))) t in
    printed first now new (quoted_text string) wanted (h ∙ ap (option_map (λ t. now ++ t)) x) p
  where
    printed : (first now new text : List ℕ) (wanted : Option (List ℕ)) → option_map (λ t. first ++ t) wanted ≡ Some (now ++ text) → new ≡ now ++ text → PrintsFields true first new wanted
    printed first now new text None h p = absurd cc
    printed first now new text (Some w) h p = let e : first ++ w ≡ now ++ text = cc in (w, refl, p ∙ sym e)

-- a string and a space, and more strings
pub string_next : (left n : ℕ) (octets behind string others first now mid new : List ℕ) (wanted : Option (List ℕ)) → option_map (λ t. first ++ t) wanted ≡ option_map (λ t. now ++ t) (strings_text left octets) → 0 < left → octets ≡ n ∷ behind → Some (string, others) ≡ split_octets n behind → eqb (length others) 0 ≡ false → mid ≡ now ++ quoted_text string → new ≡ mid ++ (32 ∷ [])
    → option_map (λ t. first ++ t) wanted ≡ option_map (λ t. new ++ t) (strings_text (left - 1) others)
string_next left n octets behind string others first now mid new wanted h lt e s t p q =
    h ∙ ap (option_map (λ t. now ++ t)) (more left n octets behind lt e ∙ ap (option_and_then (on (left - 1))) (sym s) ∙ ap (λ b. cond b (Some (quoted_text string)) (option_map (λ t. quoted_text string ++ (32 ∷ []) ++ t) (strings_text (left - 1) others))) t)
    ∙ pushed now (quoted_text string) (strings_text (left - 1) others) ∙ ap (λ (l : List ℕ). option_map (λ t. l ++ t) (strings_text (left - 1) others)) (sym (q ∙ ap (λ (l : List ℕ). l ++ (32 ∷ [])) p))
  where
    pushed : (now q : List ℕ) (o : Option (List ℕ)) → option_map (λ t. now ++ t) (option_map (λ t. q ++ (32 ∷ []) ++ t) o) ≡ option_map (λ t. ((now ++ q) ++ (32 ∷ [])) ++ t) o
    pushed now q None = refl
    pushed now q (Some t) = ap Some (sym (ap (λ (l : List ℕ). l ++ t) (append_assoc now q (32 ∷ [])) ∙ append_assoc now (q ++ (32 ∷ [])) t))

pub ruleset strings_text_rules = (none_left, none_more)
