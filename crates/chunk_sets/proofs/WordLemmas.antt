-- Bits of words: what a change of a bit, or of all words, makes of them, and where the first bit is.
use Rattle.std.proofs.Common.{◌≡◌, ◌≢◌, ℕ, ◌+◌, ◌-◌, ◌*◌, ◌/◌, ◌%◌, ◌^◌, ◌<◌, ◌≤◌, true, false, not, List, length, replicate, slice_index, slice_index_or, slice_set, w64, ◌∙◌, sym, ap, subst, inl, inr, take, drop, below_more, arith}
use borrow.Author.Count.{below_none}
use Rattle.std.specs.Prelude.{◌==◌, ◌&&◌, bit_and, bit_or, Option, None, Some, IfNone}
use Rattle.std.specs.Int.{bit_at, bit_not, trailing_zeros, trailing_ones}
use Rattle.std.proofs.lemmas.Bool.{cases_eq, cases_lt}
use Rattle.std.proofs.lemmas.Bool.Decides.{nat_tests}
use Rattle.std.proofs.lemmas.List.{get_or-take, get_or-drop, get_or-set_same, get_or-set_other, get_or_past, get_or_read, get_or-replicate, length-replicate}
use Rattle.std.proofs.lemmas.Nat.{shr-shr, shr_le, le_or_l, le_or_r}
use Rattle.std.proofs.lemmas.Nat.Bits.{bit_at-zero, bit_at-lt, bit_at_and, bit_at_not, bit_at_above, bit_at_ones, shr_and_one, bit_at-trailing_zeros, bit_at-trailing_ones}
use Rattle.std.proofs.lemmas.Nat.Bits.{bit_at_set_same, bit_at_set_other, bit_at_clear_same, bit_at_clear_other}
use Rattle.chunk_sets.specs.ChunkSets.{has_bit, IsFirstBit}

set_bit : (words : List ℕ) (k : ℕ) → bit_at (slice_index words (k / 64)) (k % 64) ≡ 1 → has_bit words k ≡ true
unfolding has_bit
set_bit words k e = ap (λ b. b == 1) e

clear_bit : (words : List ℕ) (k : ℕ) → bit_at (slice_index words (k / 64)) (k % 64) ≡ 0 → has_bit words k ≡ false
unfolding has_bit
clear_bit words k e = ap (λ b. b == 1) e

-- a word that is 0 has no bit
pub no_bit : (words : List ℕ) (k : ℕ) → slice_index words (k / 64) ≡ 0 → has_bit words k ≡ false
no_bit words k z = clear_bit words k (ap (λ w. bit_at w (k % 64)) z ∙ bit_at-zero (k % 64))

pub no_bits : (m k : ℕ) → has_bit (replicate m 0) k ≡ false
no_bits m k = no_bit (replicate m 0) k (elim (cases_lt (k / 64) m) [
  | inl l ↦ get_or-replicate m (k / 64) 0 0 l
  | inr past ↦ get_or_past (replicate m 0) (k / 64) 0 (subst (λ j. j ≤ k / 64) (sym (length-replicate m 0)) past)
])

-- the test of a bit, and the words with a bit set and cleared, as they are computed of the word x
pub bit_tested : (words : List ℕ) (c x : ℕ) → c / 64 < length words → x ≡ slice_index_or words (c / 64) x → (bit_and (x / 2 ^ (c % 64)) 1 == 1) ≡ has_bit words c
unfolding has_bit
bit_tested words c x within read = ap (λ b. b == 1) (shr_and_one x (c % 64)) ∙ ap (λ w. bit_at w (c % 64) == 1) (get_or_read words (c / 64) x within read 0)

abbrev pub with_bit : List ℕ → ℕ → ℕ → List ℕ
with_bit words c x = slice_set words (c / 64) (bit_or x (1 * 2 ^ (c % 64) % 2 ^ 64))

abbrev pub without_bit : List ℕ → ℕ → ℕ → List ℕ
without_bit words c x = slice_set words (c / 64) (bit_and x (bit_not w64 (1 * 2 ^ (c % 64) % 2 ^ 64)))

module _ (words : List ℕ) (c x : ℕ) (within : c / 64 < length words) (read : x ≡ slice_index_or words (c / 64) x) where
  x_is : (i : ℕ) → bit_at x i ≡ bit_at (slice_index words (c / 64)) i
  x_is i = ap (λ w. bit_at w i) (get_or_read words (c / 64) x within read 0)

  -- a word that is put decides its own bits
  same_bit : (word : ℕ) → has_bit (slice_set words (c / 64) word) c ≡ (bit_at word (c % 64) == 1)
  unfolding has_bit
  same_bit word = ap (λ w. bit_at w (c % 64) == 1) (get_or-set_same words (c / 64) word 0 within)

  other_bit : (word : ℕ) → ((i : ℕ) → i < 64 → i ≢ c % 64 → bit_at word i ≡ bit_at (slice_index words (c / 64)) i)
      → (k : ℕ) → k ≢ c → has_bit (slice_set words (c / 64) word) k ≡ has_bit words k
  unfolding has_bit
  other_bit word kept k other = ap (λ b. b == 1) (elim (cases_eq (k / 64) (c / 64)) [
    | inl same ↦ rw (same, get_or-set_same words (c / 64) word 0 within) (kept (k % 64) (omega arith) (λ e. other (omega arith)))
    | inr apart ↦ ap (λ w. bit_at w (k % 64)) (get_or-set_other words (c / 64) (k / 64) word 0 apart)
  ])

  pub set_here : has_bit (with_bit words c x) c ≡ true
  set_here = same_bit _ ∙ ap (λ b. b == 1) (bit_at_set_same w64 x (c % 64) (omega arith))

  pub set_others : (k : ℕ) → k ≢ c → has_bit (with_bit words c x) k ≡ has_bit words k
  set_others = other_bit _ (λ i small other. bit_at_set_other w64 x (c % 64) (omega arith) i other ∙ x_is i)

  pub clear_here : has_bit (without_bit words c x) c ≡ false
  clear_here = same_bit _ ∙ ap (λ b. b == 1) (bit_at_clear_same w64 x (c % 64) (omega arith))

  pub clear_others : (k : ℕ) → k ≢ c → has_bit (without_bit words c x) k ≡ has_bit words k
  clear_others = other_bit _ (λ i small other. bit_at_clear_other w64 x (c % 64) (omega arith) i small other ∙ x_is i)

-- the bits of others are cleared
pub bits_left : (words others new : List ℕ) (k : ℕ) → slice_index others (k / 64) < 2 ^ 64
    → slice_index new (k / 64) ≡ bit_and (slice_index words (k / 64)) (bit_not w64 (slice_index others (k / 64)))
    → has_bit new k ≡ (has_bit words k && not (has_bit others k))
unfolding has_bit
bits_left words others new k small e =
    let x = slice_index words (k / 64) in
    let y = slice_index others (k / 64) in
    let both = bit_at_and x (bit_not w64 y) (k % 64) in
    let turned = bit_at_not w64 y (k % 64) small (omega arith) in
    let p = bit_at-lt x (k % 64) in
    let q = bit_at-lt y (k % 64) in
    ap (λ w. bit_at w (k % 64) == 1) e ∙ grind (arith, nat_tests, both, turned, p, q)

-- The first bit from a place on: the bits of the place's word from there on, shifted to the front.
module _ (words : List ℕ) (from left : ℕ) (small : slice_index words (from / 64) < 2 ^ 64) (shifted : left ≡ slice_index words (from / 64) / 2 ^ (from % 64)) where
  bit_of_left : (j : ℕ) → bit_at left j ≡ bit_at (slice_index words (from / 64)) (from % 64 + j)
  bit_of_left j = ap (λ w. bit_at w j) shifted ∙ ap (λ w. w % 2) (shr-shr (slice_index words (from / 64)) (from % 64) j)

  bit_from : (k : ℕ) → from ≤ k → k / 64 ≡ from / 64 → bit_at (slice_index words (k / 64)) (k % 64) ≡ bit_at left (k - from)
  bit_from k le same =
      ap (λ i. bit_at (slice_index words i) (k % 64)) same
      ∙ ap (bit_at (slice_index words (from / 64))) (let e : k % 64 ≡ from % 64 + (k - from) = omega arith in e)
      ∙ sym (bit_of_left (k - from))

  pub none_left : left ≡ 0 → (k : ℕ) → from ≤ k → k / 64 ≡ from / 64 → has_bit words k ≡ false
  none_left z k le same = clear_bit words k (bit_from k le same ∙ ap (λ w. bit_at w (k - from)) z ∙ bit_at-zero (k - from))

  module _ (some : 0 < left) where
    lowest : (trailing_zeros w64 left < 64) × (bit_at left (trailing_zeros w64 left) ≡ 1) × ((i : ℕ) → i < trailing_zeros w64 left → bit_at left i ≡ 0)
    lowest = bit_at-trailing_zeros w64 left some (let d = shr_le (slice_index words (from / 64)) (from % 64) in omega arith)

    -- the word has 64 bits, and this one is set
    in_word : from % 64 + trailing_zeros w64 left < 64
    in_word = elim (cases_lt (from % 64 + trailing_zeros w64 left) 64) [
      | inl l ↦ l
      | inr past ↦ (
          let z = bit_at_above (slice_index words (from / 64)) 64 (from % 64 + trailing_zeros w64 left) small past in
          let o = lowest.1 in
          let e = bit_of_left (trailing_zeros w64 left) in
          absurd (omega arith))
    ]

    pub found_left : IsFirstBit words from (from + trailing_zeros w64 left)
    found_left =
        let t = trailing_zeros w64 left in
        let l = in_word in
        let back : from + t - from ≡ t = omega arith in
        record {
          at_or_after = omega arith;
          set = set_bit words (from + t) (bit_from (from + t) (omega arith) (omega arith) ∙ ap (bit_at left) back ∙ lowest.1);
          none_between = λ k le lt. clear_bit words k (bit_from k le (omega arith) ∙ lowest.2 (k - from) (omega arith));
        }

-- nothing in the place's word, so what is behind it
module _ (words : List ℕ) (from : ℕ) (none : (j : ℕ) → from ≤ j → j / 64 ≡ from / 64 → has_bit words j ≡ false) where
  pub found_later : (k : ℕ) → IsFirstBit words (64 * (from / 64 + 1)) k → IsFirstBit words from k
  found_later k f = record {
    at_or_after = let o = f.at_or_after in omega arith;
    set = f.set;
    none_between = λ j le lt. elim (cases_eq (j / 64) (from / 64)) [ inl here ↦ none j le here | inr later ↦ f.none_between j (omega arith) lt ];
  }

  pub none_later : ((j : ℕ) → 64 * (from / 64 + 1) ≤ j → has_bit words j ≡ false) → (j : ℕ) → from ≤ j → has_bit words j ≡ false
  none_later rest j le = elim (cases_eq (j / 64) (from / 64)) [ inl here ↦ none j le here | inr later ↦ rest j (omega arith) ]

-- the first word that isn't 0
pub found_word : (words : List ℕ) (from position : ℕ) → slice_index words position < 2 ^ 64 → from ≤ position → ((i : ℕ) → from ≤ i → i < position → slice_index words i ≡ 0)
    → 0 < slice_index words position → IsFirstBit words (64 * from) (64 * position + trailing_zeros w64 (slice_index words position))
found_word words from position small le none some =
    let at : 64 * position / 64 ≡ position = omega arith in
    let front : 64 * position % 64 ≡ 0 = omega arith in
    let whole : slice_index words position ≡ slice_index words (64 * position / 64) / 2 ^ (64 * position % 64) = rw (at, front) (omega arith) in
    let f = found_left words (64 * position) (slice_index words position) (rw at small) whole some in
    record {
      at_or_after = omega arith;
      set = f.set;
      none_between = λ k l lt. elim (cases_lt k (64 * position)) [
        | inl before ↦ no_bit words k (none (k / 64) (omega arith) (omega arith))
        | inr inside ↦ f.none_between k inside lt
      ];
    }

-- eight words of which no bit is set
or_zero : (a b : ℕ) → bit_or a b ≡ 0 → (a ≡ 0) × (b ≡ 0)
or_zero a b h = let l = le_or_l a b in let r = le_or_r a b in (omega arith, omega arith)

abbrev pub bits_of_four : List ℕ → ℕ → ℕ
bits_of_four words i = bit_or (bit_or (bit_or (slice_index words i) (slice_index words (i + 1))) (slice_index words (i + 2))) (slice_index words (i + 3))

pub eight_clear : (words : List ℕ) → bit_or (bits_of_four words 0) (bits_of_four words 4) ≡ 0 → (i : ℕ) → i < 8 → slice_index words i ≡ 0
eight_clear words h =
    let halves = or_zero (bits_of_four words 0) (bits_of_four words 4) h in
    let a = four 0 halves.0 in
    let b = four 4 halves.1 in
    let P : ℕ → Type 0 = λ i. slice_index words i ≡ 0 in
    below_more P 7 (below_more P 6 (below_more P 5 (below_more P 4 (below_more P 3 (below_more P 2 (below_more P 1 (below_more P 0 (below_none P) a.0) a.1) a.2) a.3) b.0) b.1) b.2) b.3
  where
    four : (i : ℕ) → bits_of_four words i ≡ 0
        → (slice_index words i ≡ 0) × (slice_index words (i + 1) ≡ 0) × (slice_index words (i + 2) ≡ 0) × (slice_index words (i + 3) ≡ 0)
    four i e =
        let p = or_zero _ _ e in
        let q = or_zero _ _ p.0 in
        let r = or_zero _ _ q.0 in
        (r.0, r.1, q.1, p.1)

pub clear_eight : (words : List ℕ) → ((i : ℕ) → i < 8 → slice_index words i ≡ 0) → bit_or (bits_of_four words 0) (bits_of_four words 4) ≡ 0
clear_eight words z =
    let a = z 0 (omega arith) in
    let b = z 1 (omega arith) in
    let c = z 2 (omega arith) in
    let d = z 3 (omega arith) in
    let e = z 4 (omega arith) in
    let f = z 5 (omega arith) in
    let g = z 6 (omega arith) in
    let h = z 7 (omega arith) in
    rw (a, b, c, d, e, f, g, h)

-- they stand behind words that are clear
pub eight_more : (words : List ℕ) (from position n : ℕ) → n ≡ 8 → ((i : ℕ) → from ≤ i → i < position → slice_index words i ≡ 0) → ((i : ℕ) → i < 8 → slice_index (take n (drop position words)) i ≡ 0)
    → (i : ℕ) → from ≤ i → i < position + 8 → slice_index words i ≡ 0
eight_more words from position n is before clear i le lt = elim (cases_lt i position) [
  | inl l ↦ before i le l
  | inr past ↦ (
      let e : position + (i - position) ≡ i = omega arith in
      ap (slice_index words) (sym e) ∙ sym (get_or-take n (drop position words) (i - position) 0 (omega arith) ∙ get_or-drop position words (i - position) 0) ∙ clear (i - position) (omega arith))
]

-- The first bit that is clear: full words, and the first that isn't.
pub all_full : (words : List ℕ) (i : ℕ) → ((j : ℕ) → j < i → slice_index words j ≡ 2 ^ 64 - 1) → (k : ℕ) → k < 64 * i → has_bit words k ≡ true
all_full words i full k l = set_bit words k (ap (λ w. bit_at w (k % 64)) (full (k / 64) (omega arith)) ∙ bit_at_ones 64 (k % 64) (omega arith))

module _ (words : List ℕ) (i : ℕ) (full : (j : ℕ) → j < i → slice_index words j ≡ 2 ^ 64 - 1) (short : slice_index words i + 1 < 2 ^ 64) where
  abbrev clear : ℕ
  clear = trailing_ones w64 (slice_index words i)

  lowest_clear : (clear < 64) × (bit_at (slice_index words i) clear ≡ 0) × ((j : ℕ) → j < clear → bit_at (slice_index words i) j ≡ 1)
  lowest_clear = bit_at-trailing_ones w64 (slice_index words i) short

  pub set_before : (k : ℕ) → k < 64 * i + clear → has_bit words k ≡ true
  set_before k lt = elim (cases_lt k (64 * i)) [
    | inl m ↦ all_full words i full k m
    | inr here ↦ (
        let t = lowest_clear.0 in
        let e : k / 64 ≡ i = omega arith in
        set_bit words k (ap (λ j. bit_at (slice_index words j) (k % 64)) e ∙ lowest_clear.2 (k % 64) (omega arith)))
  ]

  pub clear_at : has_bit words (64 * i + clear) ≡ false
  clear_at =
      let l = lowest_clear.0 in
      let at : (64 * i + clear) / 64 ≡ i = omega arith in
      let low : (64 * i + clear) % 64 ≡ clear = omega arith in
      clear_bit words (64 * i + clear) (rw (at, low) lowest_clear.1)

-- what is known where there is no value
pub on_none : {P Q : Type 0} (r : Option ℕ) → (P → Q) → IfNone r P → IfNone r Q
on_none None f h = f h
on_none (Some k) f h = tt
