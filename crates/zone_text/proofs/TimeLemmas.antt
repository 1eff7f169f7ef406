-- Times that are too great.
use Rattle.std.proofs.Common.{◌≡◌, ℕ, zero, suc, ◌+◌, ◌-◌, ◌*◌, ◌<◌, ◌≤◌, Bool, true, false, cond, List, [], ◌∷◌, length, drop, get_or, sym, ap, ◌∙◌, refl, arith, Option, Some, None, leb, eqb, option_and_then, unwrap_or}
use Rattle.std.proofs.lemmas.Bool.Decides.{nat_tests}
use Rattle.std.proofs.lemmas.List.{drop_more}
use Rattle.std.specs.Char.{is_ascii_digit, to_ascii_lowercase}
use Rattle.zone_model.specs.Texts.{at_most}
use Rattle.zone_model.specs.DataWords.{groups, seconds, most_time}

unit_case : (k x : ℕ) (b : Bool) (o : Option ℕ) → 0 < x → (o ≡ Some k → 0 < k) → cond b (Some x) o ≡ Some k → 0 < k
unit_case k x true o h f e = let same : x ≡ k = cc in omega arith
unit_case k x false o h f e = f e

seconds-positive : (c k : ℕ) → seconds c ≡ Some k → 0 < k
seconds-positive c k =
    unit_case k 604800 (eqb c 119) _ (omega arith) (unit_case k 86400 (eqb c 100) _ (omega arith) (unit_case k 3600 (eqb c 104) _ (omega arith)
    (unit_case k 60 (eqb c 109) _ (omega arith) (unit_case k 1 (eqb c 115) None (omega arith) (λ e. absurd cc)))))

both_none : (b : Bool) (x y : Option ℕ) → option_and_then (at_most most_time) x ≡ None → option_and_then (at_most most_time) y ≡ None → option_and_then (at_most most_time) (cond b x y) ≡ None
both_none true x y h k = h
both_none false x y h k = k

grows : (sum n k : ℕ) → 0 < k → sum + n ≤ sum + n * k
grows sum n zero h = absurd (omega arith)
grows sum n (suc k) h = omega arith

unit_late : (sum n : ℕ) (text : List ℕ) (o : Option ℕ) → ((k : ℕ) → o ≡ Some k → 0 < k) → most_time < sum + n → ((m : ℕ) → most_time < m → option_and_then (at_most most_time) (groups m None text) ≡ None)
    → option_and_then (at_most most_time) (option_and_then (λ k. groups (sum + n * k) None text) o) ≡ None
unit_late sum n text None p h f = refl
unit_late sum n text (Some k) p h f = let g : sum + n ≤ sum + n * k = grows sum n k (p k refl) in f (sum + n * k) (omega arith)

pub too_late : (text : List ℕ) (sum : ℕ) (open_group : Option ℕ) → most_time < sum + unwrap_or open_group 0 → option_and_then (at_most most_time) (groups sum open_group text) ≡ None
unfolding groups
too_late [] sum None h = let e : leb sum most_time ≡ false = grind (arith, nat_tests) in rw e refl
too_late [] sum (Some n) h = refl
too_late (c ∷ text) sum None h = both_none (is_ascii_digit c) (groups sum (Some (0 + (c - 48))) text) None (too_late text sum (Some (0 + (c - 48))) (omega arith)) refl
too_late (c ∷ text) sum (Some n) h =
    both_none (is_ascii_digit c) (groups sum (Some (10 * n + (c - 48))) text) (option_and_then (λ k. groups (sum + n * k) None text) (seconds (to_ascii_lowercase c)))
    (too_late text sum (Some (10 * n + (c - 48))) (omega arith))
    (unit_late sum n text (seconds (to_ascii_lowercase c)) (seconds-positive (to_ascii_lowercase c)) h (λ m k. too_late text m None (omega arith)))

one_digit : (sum c : ℕ) (text : List ℕ) (p : Option ℕ) → is_ascii_digit c ≡ true → groups sum p (c ∷ text) ≡ groups sum (Some (10 * unwrap_or p 0 + (c - 48))) text
unfolding groups
one_digit sum c text None d = ap (λ b. cond b (groups sum (Some (0 + (c - 48))) text) None) d
one_digit sum c text (Some n) d = ap (λ b. cond b (groups sum (Some (10 * n + (c - 48))) text) (option_and_then (λ k. groups (sum + n * k) None text) (seconds (to_ascii_lowercase c)))) d

one_unit : (sum n k c : ℕ) (text : List ℕ) → is_ascii_digit c ≡ false → seconds (to_ascii_lowercase c) ≡ Some k → groups sum (Some n) (c ∷ text) ≡ groups (sum + n * k) None text
unfolding groups
one_unit sum n k c text d s =
    ap (λ b. cond b (groups sum (Some (10 * n + (c - 48))) text) (option_and_then (λ k. groups (sum + n * k) None text) (seconds (to_ascii_lowercase c)))) d
    ∙ ap (option_and_then (λ k. groups (sum + n * k) None text)) s

-- the group that is open is too great
pub digit_late : (text : List ℕ) (sum i : ℕ) (pending : Option ℕ) → i < length text → groups 0 None text ≡ groups sum pending (drop i text) → is_ascii_digit (get_or text i 0) ≡ true
    → most_time < sum + (10 * unwrap_or pending 0 + (get_or text i 0 - 48)) → None ≡ option_and_then (at_most most_time) (groups 0 None text)
digit_late text sum i pending lt e d h =
    let d10 : most_time < sum + unwrap_or (Some (10 * unwrap_or pending 0 + (get_or text i 0 - 48))) 0 = h in
    sym (ap (option_and_then (at_most most_time)) (e ∙ ap (groups sum pending) (drop_more text i 0 lt) ∙ one_digit sum (get_or text i 0) (drop (i + 1) text) pending d) ∙ too_late (drop (i + 1) text) sum (Some (10 * unwrap_or pending 0 + (get_or text i 0 - 48))) d10)

-- the sum is too great
pub sum_late : (text : List ℕ) (sum i n k : ℕ) → i < length text → groups 0 None text ≡ groups sum (Some n) (drop i text) → is_ascii_digit (get_or text i 0) ≡ false
    → seconds (to_ascii_lowercase (get_or text i 0)) ≡ Some k → most_time < sum + n * k → None ≡ option_and_then (at_most most_time) (groups 0 None text)
sum_late text sum i n k lt e d s h =
    sym (ap (option_and_then (at_most most_time)) (e ∙ ap (groups sum (Some n)) (drop_more text i 0 lt) ∙ one_unit sum n k (get_or text i 0) (drop (i + 1) text) d s) ∙ too_late (drop (i + 1) text) (sum + n * k) None (omega arith))

pub ruleset time_rules = (digit_late, sum_late)
