-- The first line feed behind bytes that have none.
use Rattle.std.proofs.Common.{◌≡◌, ◌∙◌, ℕ, ◌+◌, ◌-◌, ◌<◌, ◌≤◌, Bool, true, false, cond, eqb, ltb, List, length, take, drop, get_or, refl, sym, ap, arith, length-drop, Some, None, inl, inr}
use Rattle.std.specs.Option.{option_map}
use Rattle.std.specs.List.{position, position_or_len}
use Rattle.std.proofs.lemmas.Bool.{cases_lt}
use Rattle.std.proofs.lemmas.Bool.Decides.{nat_tests}
use Rattle.std.proofs.lemmas.Grind.{common_steps}
use Rattle.std.proofs.lemmas.List.{drop-drop, length-take-le, get_or-drop, get_or-take}
use Rattle.std.proofs.lemmas.List.Sums.{fails_before_first, passes_at_first, position_or_len_is}
use Rattle.zone_text.proofs.LineLemmas.{found, missed}
use Rattle.session_lines.specs.Taking.{IsUnbroken, line_end}

abbrev is_feed : ℕ → Bool
is_feed b = eqb b 10

-- none of the first bytes is one
none_in : (k : ℕ) (bytes : List ℕ) → k ≤ length bytes → IsUnbroken (take k bytes) → (j : ℕ) → j < k → is_feed (get_or bytes j 0) ≡ false
none_in k bytes le whole j lt =
    let far = missed is_feed (take k bytes) whole in
    let short : length (take k bytes) ≡ k = length-take-le k bytes le in
    let same : get_or (take k bytes) j 0 ≡ get_or bytes j 0 = get_or-take k bytes j 0 lt in
    ap is_feed (sym same) ∙ fails_before_first is_feed (take k bytes) j 0 (omega arith)

-- nor of some that follow
none_behind : (k n : ℕ) (bytes : List ℕ) → k ≤ length bytes → IsUnbroken (take k bytes) → n ≤ position_or_len is_feed (drop k bytes) → (j : ℕ) → j < k + n → is_feed (get_or bytes j 0) ≡ false
none_behind k n bytes le whole far j lt = elim (cases_lt j k) [
  | inl m ↦ none_in k bytes le whole j m
  | inr m ↦ (let i : ℕ = j - k in
      let at : k + i ≡ j = omega arith in
      ap (λ (x : ℕ). is_feed (get_or bytes x 0)) (sym at) ∙ ap is_feed (sym (get_or-drop k bytes i 0)) ∙ fails_before_first is_feed (drop k bytes) i 0 (omega arith))
]

pub found_behind : (k n : ℕ) (bytes : List ℕ) → k ≤ length bytes → IsUnbroken (take k bytes) → position is_feed (drop k bytes) ≡ Some n → position is_feed bytes ≡ Some (k + n)
found_behind k n bytes le whole e =
    let f = found (drop k bytes) n e in
    let len = length-drop k bytes in
    let here : is_feed (get_or bytes (k + n) 0) ≡ true =
    ap is_feed (sym (get_or-drop k bytes n 0)) ∙ ap (λ (x : ℕ). is_feed (get_or (drop k bytes) x 0)) (sym f.0) ∙ passes_at_first is_feed (drop k bytes) 0 (omega arith) in
    let is : position_or_len is_feed bytes ≡ k + n = position_or_len_is is_feed bytes (k + n) 0 (omega arith) (none_behind k n bytes le whole (omega arith)) (λ _. here) in
    let inside : ltb (k + n) (length bytes) ≡ true = grind (arith, nat_tests) in
    ap (λ (x : ℕ). cond (ltb x (length bytes)) (Some x) None) is ∙ ap (λ (t : Bool). cond t (Some (k + n)) None) inside

pub missed_behind : (k : ℕ) (bytes : List ℕ) → k ≤ length bytes → IsUnbroken (take k bytes) → position is_feed (drop k bytes) ≡ None → IsUnbroken bytes
missed_behind k bytes le whole e =
    let far = missed is_feed (drop k bytes) e in
    let len = length-drop k bytes in
    let is : position_or_len is_feed bytes ≡ length bytes = position_or_len_is is_feed bytes (length bytes) 0 (omega arith) (λ j lt. none_behind k (length bytes - k) bytes le whole (omega arith) j (omega arith)) (λ lt. absurd (omega arith)) in
    let outside : ltb (length bytes) (length bytes) ≡ false = grind (arith, nat_tests) in
    ap (λ (x : ℕ). cond (ltb x (length bytes)) (Some x) None) is ∙ ap (λ (t : Bool). cond t (Some (length bytes)) None) outside

-- how many bytes the first line has, as it is found behind bytes that were searched
pub line_found : (k n : ℕ) (pending rest bytes : List ℕ) → bytes ≡ pending → rest ≡ drop k pending → k ≤ length pending → IsUnbroken (take k pending) → Some n ≡ position is_feed rest → Some (k + n + 1) ≡ line_end bytes
line_found k n pending rest bytes b r le whole e =
    let there : position is_feed (drop k pending) ≡ Some n = ap (position is_feed) (sym r) ∙ sym e in
    ap (option_map (λ x. x + 1)) (sym (ap (position is_feed) b ∙ found_behind k n pending le whole there))

pub line_missed : (k : ℕ) (pending rest bytes : List ℕ) → bytes ≡ pending → rest ≡ drop k pending → k ≤ length pending → IsUnbroken (take k pending) → None ≡ position is_feed rest → None ≡ line_end bytes
line_missed k pending rest bytes b r le whole e =
    let there : position is_feed (drop k pending) ≡ None = ap (position is_feed) (sym r) ∙ sym e in
    ap (option_map (λ x. x + 1)) (sym (ap (position is_feed) b ∙ missed_behind k pending le whole there))

-- what is searched, of all bytes and of those that are not done with
pub searched_rest : (from searched : ℕ) (items all : List ℕ) → all ≡ items → from ≤ searched → searched ≤ length items → take (length all - searched) (drop searched all) ≡ drop (searched - from) (drop from items)
searched_rest from searched items all e le inside =
    let whole : take (length items - searched) (drop searched items) ≡ drop searched items = grind (arith, common_steps) in
    let at : from + (searched - from) ≡ searched = omega arith in
    ap (λ (l : List ℕ). take (length l - searched) (drop searched l)) e ∙ whole ∙ sym (drop-drop (searched - from) from items ∙ ap (λ (k : ℕ). drop k items) at)

-- all bytes were searched
pub unbroken_all : (from searched n : ℕ) (items all : List ℕ) → all ≡ items → from ≤ searched → searched ≤ length items → IsUnbroken (take (searched - from) (drop from items)) → n ≡ length items
    → None ≡ position is_feed (take (length all - searched) (drop searched all)) → IsUnbroken (take (n - from) (drop from items))
unbroken_all from searched n items all e le inside whole len none =
    let size = length-drop from items in
    let there : position is_feed (drop (searched - from) (drop from items)) ≡ None = ap (position is_feed) (sym (searched_rest from searched items all e le inside)) ∙ sym none in
    let same : take (n - from) (drop from items) ≡ drop from items = grind (arith, common_steps) in
    ap (position is_feed) same ∙ missed_behind (searched - from) (drop from items) (omega arith) whole there
