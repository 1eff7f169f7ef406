-- The octets of an item, as its cells' words give them.
use Rattle.std.proofs.Common.{◌≡◌, ℕ, zero, suc, ◌+◌, ◌-◌, ◌<◌, ◌≤◌, inl, inr, List, [], ◌∷◌, ◌++◌, length, take, drop, get_or, slice_index, arith, refl, sym, ◌∙◌, ap, get_or-drop, get_or-take, length-take, length-take-le, length-append, append-nil, take-append-drop, ext_get_or}
use Rattle.std.proofs.lemmas.Nat.{le_bytes_8}
use Rattle.std.proofs.lemmas.List.{length-drop, drop_at, drop_all, get_or_past, get_or-append_right, get_or_append_left}
use Rattle.std.proofs.lemmas.Bool.{cases_lt}
use Rattle.std.specs.Int.{w64, from_le_bytes, to_le_bytes}
use Rattle.packed_node.specs.declared.Cell.{Cell}
use borrow.Rule.Slice.PartMut.{put_mid, post_of}

-- what was written to a part of a slice stands there
pub put_mid_at : (a n : ℕ) (xs ys : List ℕ) (k : ℕ) → a ≤ length xs → k < length ys → get_or (put_mid a n xs ys) (a + k) 0 ≡ get_or ys k 0
put_mid_at a n xs ys k l m =
    let e : (a + k) - a ≡ k = omega arith in
    let whole : length (take a xs) ≡ a = length-take-le a xs l in
    get_or-append_right (take a xs) (ys ++ post_of a n xs) a (a + k) 0 whole (omega arith)
    ∙ ap (λ i. get_or (ys ++ post_of a n xs) i 0) e ∙ get_or_append_left ys (post_of a n xs) 0 k m

-- and what is before it stays
pub put_mid_before : (a n : ℕ) (xs ys : List ℕ) (k : ℕ) → a ≤ length xs → k < a → get_or (put_mid a n xs ys) k 0 ≡ get_or xs k 0
put_mid_before a n xs ys k l m =
    let whole : length (take a xs) ≡ a = length-take-le a xs l in
    get_or_append_left (take a xs) (ys ++ post_of a n xs) 0 k (omega arith) ∙ get_or-take a xs k 0 m

pub put_mid_past : (a n : ℕ) (xs ys : List ℕ) (k : ℕ) → a ≤ length xs → length ys ≤ n → length xs ≤ a + n → a + n ≤ k → get_or (put_mid a n xs ys) k 0 ≡ 0
put_mid_past a n xs ys k l m p q =
    let front = length-take-le a xs l in
    let post = length-drop n (drop a xs) in
    let behind = length-drop a xs in
    let b = length-append ys (post_of a n xs) in
    let c = length-append (take a xs) (ys ++ post_of a n xs) in
    get_or_past (put_mid a n xs ys) k 0 (omega arith)

-- the end of a slice that was written
pub put_mid_end : (a n : ℕ) (xs ys : List ℕ) → a ≤ length xs → length xs ≤ a + n → drop a (put_mid a n xs ys) ≡ ys
put_mid_end a n xs ys l m =
    let whole : length (take a xs) ≡ a = length-take-le a xs l in
    let behind = length-drop a xs in
    drop_at (take a xs) (ys ++ post_of a n xs) a whole ∙ ap (λ (zs : List ℕ). ys ++ zs) (drop_all n (drop a xs) (omega arith)) ∙ append-nil ys

-- the first eight octets
abbrev eight : List ℕ → List ℕ
eight xs =
    slice_index xs 0 ∷ (slice_index xs 1 ∷ (slice_index xs 2 ∷ (slice_index xs 3 ∷ (slice_index xs 4 ∷ (slice_index xs 5 ∷ (slice_index xs 6 ∷ (slice_index xs 7 ∷ [])))))))

at_eight : (xs : List ℕ) (k : ℕ) → k < 8 → get_or (eight xs) k 0 ≡ get_or xs k 0
at_eight xs zero l = refl
at_eight xs (suc zero) l = refl
at_eight xs (suc (suc zero)) l = refl
at_eight xs (suc (suc (suc zero))) l = refl
at_eight xs (suc (suc (suc (suc zero)))) l = refl
at_eight xs (suc (suc (suc (suc (suc zero))))) l = refl
at_eight xs (suc (suc (suc (suc (suc (suc zero)))))) l = refl
at_eight xs (suc (suc (suc (suc (suc (suc (suc zero))))))) l = refl
at_eight xs (suc (suc (suc (suc (suc (suc (suc (suc k)))))))) l = absurd (omega arith)

low_eight : (xs : List ℕ) → ((i : ℕ) → slice_index xs i < 256) → (k : ℕ) → get_or (eight xs) k 0 < 256
low_eight xs low k = elim (cases_lt k 8) [
  | inl l ↦ (let e = at_eight xs k l in let f = low k in omega arith)
  | inr g ↦ (let e = get_or_past (eight xs) k 0 g in omega arith)
]

-- the octets that a word was made of
pub octet_of_word : (xs : List ℕ) (word k : ℕ) → ((i : ℕ) → slice_index xs i < 256) → word ≡ from_le_bytes w64 xs → k < 8 → slice_index (to_le_bytes w64 word) k ≡ slice_index xs k
octet_of_word xs word k low is l =
    let bytes : to_le_bytes w64 word ≡ eight xs = le_bytes_8 (eight xs) word refl (low_eight xs low) is in
    ap (λ ys. slice_index ys k) bytes ∙ at_eight xs k l

pub same_cell : (c d : Cell) → c.big ≡ d.big → c.small ≡ d.small → c ≡ d
same_cell c d e f i = record { big = e i; small = f i }

-- an octet of an item, from the word of the eight octets that begin at `start`
pub octet_there : (item : List ℕ) (word start i : ℕ) → ((k : ℕ) → slice_index item k < 256) → word ≡ from_le_bytes w64 (drop start item) → start ≤ i → i < start + 8 →
    slice_index (to_le_bytes w64 word) (i - start) ≡ slice_index item i
octet_there item word start i low is l m =
    let e : start + (i - start) ≡ i = omega arith in
    octet_of_word (drop start item) word (i - start) (λ k. let f = get_or-drop start item k 0 in let h = low (start + k) in omega arith) is (omega arith)
    ∙ get_or-drop start item (i - start) 0 ∙ ap (slice_index item) e

-- a word is told by its eight octets
pub same_word : (a b : List ℕ) → ((k : ℕ) → k < 8 → slice_index a k ≡ slice_index b k) → from_le_bytes w64 a ≡ from_le_bytes w64 b
same_word a b h =
    let e0 = h 0 (omega arith) in let e1 = h 1 (omega arith) in let e2 = h 2 (omega arith) in let e3 = h 3 (omega arith) in
    let e4 = h 4 (omega arith) in let e5 = h 5 (omega arith) in let e6 = h 6 (omega arith) in let e7 = h 7 (omega arith) in
    cc

-- the word of an item against that of other octets
pub words_agree : (item octets : List ℕ) (word other start : ℕ) → ((i : ℕ) → slice_index item i < 256) → ((i : ℕ) → slice_index octets i < 256) → word ≡ from_le_bytes w64 (drop start item) → other ≡ from_le_bytes w64 (drop start octets) → word ≡ other
    → (i : ℕ) → start ≤ i → i < start + 8 → slice_index item i ≡ slice_index octets i
words_agree item octets word other start low small is of same i l m =
    sym (octet_there item word start i low is l m) ∙ ap (λ (w : ℕ). slice_index (to_le_bytes w64 w) (i - start)) same ∙ octet_there octets other start i small of l m

pub words_alike : (item octets : List ℕ) (word other start : ℕ) → word ≡ from_le_bytes w64 (drop start item) → other ≡ from_le_bytes w64 (drop start octets) → ((i : ℕ) → start ≤ i → i < start + 8 → slice_index item i ≡ slice_index octets i) → word ≡ other
words_alike item octets word other start is of same =
    is ∙ same_word (drop start item) (drop start octets) (λ k l. get_or-drop start item k 0 ∙ same (start + k) (omega arith) (omega arith) ∙ sym (get_or-drop start octets k 0)) ∙ sym of

-- octets that an item begins with, place by place
pub begins_at : (item octets : List ℕ) → length octets ≤ length item → ((i : ℕ) → i < length octets → slice_index item i ≡ slice_index octets i) → (rest : List ℕ) × (item ≡ octets ++ rest)
begins_at item octets short same =
    let front : take (length octets) item ≡ octets = ext_get_or 0 (take (length octets) item) octets (omega (arith, length-take (length octets) item)) (λ i l. get_or-take (length octets) item i 0 (omega (arith, length-take (length octets) item)) ∙ same i (omega (arith, length-take (length octets) item))) in
    (drop (length octets) item, sym (take-append-drop (length octets) item) ∙ ap (λ (l : List ℕ). l ++ drop (length octets) item) front)

pub at_beginning : (item octets rest : List ℕ) → item ≡ octets ++ rest → (i : ℕ) → i < length octets → slice_index item i ≡ slice_index octets i
at_beginning item octets rest e i l = ap (λ (x : List ℕ). slice_index x i) e ∙ get_or_append_left octets rest 0 i l
