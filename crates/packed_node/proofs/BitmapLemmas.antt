-- Counting the set bits below a position one by one gives the population count of the bits below it.
use Rattle.std.proofs.Common.{◌≡◌, ℕ, zero, suc, ◌+◌, ◌*◌, ◌/◌, ◌%◌, ◌^◌, ◌<◌, ◌≤◌, cond, eqb, count_ones, count_by, fold, arith, refl, sym, ◌∙◌, ap}
use Rattle.std.proofs.lemmas.Nat.{ones_cat, mod-pow-add, shr-shr, pow-add, pow_pos}
use Rattle.std.proofs.Math.Nat.{mul-div_cancel, mul-mod_left, mul-lt-mul_of_pos_right, mul-le-mul_right, mod-lt}
use Rattle.std.specs.List.{range_with_len}
use Rattle.std.specs.Int.{bit_at}
use Rattle.packed_node.specs.Bitmaps.{has_position}
use lib.Count

ones_zero : count_ones 0 ≡ 0
unfolding lib.Count.ones
ones_zero = refl

ones_of_bit : (b : ℕ) → b < 2 → count_ones b ≡ cond (eqb b 1) 1 0
unfolding lib.Count.ones
ones_of_bit zero l = refl
ones_of_bit (suc zero) l = refl
ones_of_bit (suc (suc b)) l = absurd (omega arith)

-- the lowest bit, and those above it
first_bit : (x n : ℕ) → count_ones (x % 2 ^ suc n) ≡ cond (eqb (x % 2) 1) 1 0 + count_ones (x / 2 % 2 ^ n)
first_bit x n =
    let m : suc n ≡ n + 1 = omega arith in
    let split : x % 2 ^ suc n ≡ (x / 2 % 2 ^ n) * 2 ^ 1 + x % 2 = ap (λ k. x % 2 ^ k) m ∙ mod-pow-add x n 1 in
    let low : x % 2 < 2 ^ 1 = omega arith in
    let bit = ones_of_bit (x % 2) low in
    let cat = ones_cat 1 (x / 2 % 2 ^ n) (x % 2) low in
    ap count_ones split ∙ cat ∙ omega arith

-- n bits from a on, beginning the count at s
count_from : (bitmap s a n : ℕ) → fold (λ k p. k + cond (has_position bitmap p) 1 0) s (range_with_len a n) ≡ s + count_ones (bitmap / 2 ^ a % 2 ^ n)
count_from bitmap s a zero =
    let e : bitmap / 2 ^ a % 2 ^ 0 ≡ 0 = omega arith in
    let z = ap count_ones e ∙ ones_zero in omega arith
count_from bitmap s a (suc n) =
    let next = count_from bitmap (s + cond (has_position bitmap a) 1 0) (a + 1) n in
    let higher : bitmap / 2 ^ (a + 1) ≡ bitmap / 2 ^ a / 2 = sym (shr-shr bitmap a 1) in
    let same = ap (λ x. count_ones (x % 2 ^ n)) higher in
    let first = first_bit (bitmap / 2 ^ a) n in
    next ∙ omega arith

pub count_below : (bitmap n : ℕ) → count_by (has_position bitmap) (range_with_len 0 n) ≡ count_ones (bitmap % 2 ^ n)
count_below bitmap n =
    let e : bitmap / 2 ^ 0 ≡ bitmap = omega arith in
    let f = ap (λ x. count_ones (x % 2 ^ n)) e in
    count_from bitmap 0 0 n ∙ omega arith

-- the bits up to a position, shifted up so that its own is the highest of 64
pub record UpTo (bitmap p word : ℕ) : Type 0 where
  pub low : bit_at bitmap p ≡ 0 → word < 2 ^ 63
  pub high : bit_at bitmap p ≡ 1 → 2 ^ 63 ≤ word
  pub ones : bit_at bitmap p ≡ 1 → count_ones word ≡ count_ones (bitmap % 2 ^ p) + 1

pub up_to : (bitmap p k word : ℕ) → p + k ≡ 63 → word ≡ bitmap * 2 ^ k % 2 ^ 64 → UpTo bitmap p word
up_to bitmap p k word e is =
    let bit = bitmap / 2 ^ p % 2 in
    let low = bitmap % 2 ^ p in
    let below : low < 2 ^ p = mod-lt bitmap (pow_pos p) in
    let all : 64 ≡ (1 + p) + k = omega arith in
    let shifted : word ≡ bitmap % 2 ^ (1 + p) * 2 ^ k =
    is ∙ ap (λ (n : ℕ). bitmap * 2 ^ k % 2 ^ n) all ∙ mod-pow-add (bitmap * 2 ^ k) (1 + p) k
    ∙ (let d = mul-div_cancel bitmap (pow_pos k) in let z = mul-mod_left bitmap (2 ^ k) in ap (λ (x : ℕ). x % 2 ^ (1 + p) * 2 ^ k + bitmap * 2 ^ k % 2 ^ k) d ∙ (omega arith)) in
    let parts : bitmap % 2 ^ (1 + p) ≡ bit * 2 ^ p + low = mod-pow-add bitmap 1 p in
    let top : 2 ^ p * 2 ^ k ≡ 2 ^ 63 = sym (pow-add 2 p k) ∙ ap (λ (n : ℕ). 2 ^ n) e in
    record {
      low = λ zero.
          let none : bitmap % 2 ^ (1 + p) ≡ low = parts ∙ ap (λ (b : ℕ). b * 2 ^ p + low) zero ∙ (omega arith) in
          let here = mul-lt-mul_of_pos_right below (pow_pos k) in
          let same = shifted ∙ ap (λ (x : ℕ). x * 2 ^ k) none in omega arith;
      high = λ one.
          let some : bitmap % 2 ^ (1 + p) ≡ 2 ^ p + low = parts ∙ ap (λ (b : ℕ). b * 2 ^ p + low) one ∙ (omega arith) in
          let here : 2 ^ p * 2 ^ k ≤ bitmap % 2 ^ (1 + p) * 2 ^ k = mul-le-mul_right (2 ^ k) (omega arith) in
          omega arith;
      ones = λ one.
          let some : bitmap % 2 ^ (1 + p) ≡ 1 * 2 ^ p + low = parts ∙ ap (λ (b : ℕ). b * 2 ^ p + low) one in
          let cat = ones_cat p 1 low below in
          let single = ones_of_bit 1 (omega arith) in
          let zeros = ones_cat k (bitmap % 2 ^ (1 + p)) 0 (pow_pos k) in
          let same : word ≡ bitmap % 2 ^ (1 + p) * 2 ^ k + 0 = omega arith in
          let word_is = ap count_ones same in
          let rest_is = ap count_ones some in
          let none = ones_zero in
          omega arith;
    }
