-- Data pushed piece by piece.
use Rattle.std.proofs.Common.{◌≡◌, ◌∙◌, ℕ, ◌+◌, ◌-◌, ◌<◌, ◌≤◌, length, set, Bool, true, false, List, ◌++◌, ◌∷◌, [], Option, Some, None, Ok, Err, ap, sym, refl, arith, ltb, cond, length-append}
use Rattle.std.proofs.lemmas.Bool.Decides.{nat_tests}
use Rattle.std.specs.Option.{option_map}
use Rattle.zone_model.specs.declared.DataRefusal.TheVariants.{LongString}
use Rattle.zone_model.specs.Data.{string_octets, ahead}
use Rattle.zone_text.specs.Pushing.{PushesAll}

some_of : (front now : List ℕ) (o : Option (List ℕ)) → option_map (λ cs. front ++ cs) o ≡ Some now → (cs : List ℕ) × (o ≡ Some cs) × (now ≡ front ++ cs)
some_of front now None h = absurd cc
some_of front now (Some cs) h = (cs, refl, cc)

set_front : (old cs : List ℕ) (n : ℕ) → set ((old ++ 0 ∷ []) ++ cs) (length old) n ≡ old ++ n ∷ cs
set_front [] cs n = refl
set_front (x ∷ old) cs n = ap (λ (l : List ℕ). x ∷ l) (set_front old cs n)

pub string_long : (old now : List ℕ) (at : ℕ) (o : Option (List ℕ)) → option_map (λ cs. (old ++ 0 ∷ []) ++ cs) o ≡ Some now → 255 < length now - length old - 1 → string_octets at o ≡ Err (LongString at)
string_long old now at o h l =
    let s = some_of (old ++ 0 ∷ []) now o h in
    let n : length now ≡ length old + 1 + length s.0 = ap length s.2 ∙ length-append (old ++ 0 ∷ []) s.0 ∙ ap (λ (k : ℕ). k + length s.0) (length-append old (0 ∷ [])) in
    let t : ltb 255 (length s.0) ≡ true = grind (arith, nat_tests) in
    ap (string_octets at) s.1 ∙ ap (λ b. cond b (Err (LongString at)) (Ok (length s.0 ∷ s.0))) t

pub string_short : (old now new : List ℕ) (at : ℕ) (o : Option (List ℕ)) → option_map (λ cs. (old ++ 0 ∷ []) ++ cs) o ≡ Some now → length now - length old - 1 ≤ 255 → new ≡ set now (length old) (length now - length old - 1) → ahead old (string_octets at o) ≡ Ok new
string_short old now new at o h l e =
    let s = some_of (old ++ 0 ∷ []) now o h in
    let n : length now ≡ length old + 1 + length s.0 = ap length s.2 ∙ length-append (old ++ 0 ∷ []) s.0 ∙ ap (λ (k : ℕ). k + length s.0) (length-append old (0 ∷ [])) in
    let m : length now - length old - 1 ≡ length s.0 = omega arith in
    let t : ltb 255 (length s.0) ≡ false = grind (arith, nat_tests) in
    ap (λ x. ahead old (string_octets at x)) s.1 ∙ ap (λ b. ahead old (cond b (Err (LongString at)) (Ok (length s.0 ∷ s.0)))) t
    ∙ ap Ok (sym (set_front old s.0 (length s.0)) ∙ ap (λ (l : List ℕ). set l (length old) (length s.0)) (sym s.2) ∙ ap (set now (length old)) (sym m) ∙ sym e)

pub string_done : (old mid now : List ℕ) (b : Bool) (at start n : ℕ) (o : Option (List ℕ)) → mid ≡ old ++ 0 ∷ [] → b ≡ true → PushesAll b mid now o → start ≡ length old → n ≡ length now → n - start - 1 ≤ 255 → ahead old (string_octets at o) ≡ Ok (set now start (n - start - 1))
string_done old mid now b at start n o m t p s e l =
    let q : option_map (λ cs. (old ++ 0 ∷ []) ++ cs) o ≡ Some now = rw m at (rw t at p) in
    let small : length now - length old - 1 ≤ 255 = omega arith in
    let value : length now - length old - 1 ≡ n - start - 1 = omega arith in
    string_short old now (set now start (n - start - 1)) at o q small (ap (λ (k : ℕ). set now k (n - start - 1)) s ∙ ap (set now (length old)) (sym value))

pub ruleset string_rules = (string_long, string_short)

pub ruleset strings_rules = (string_short)
