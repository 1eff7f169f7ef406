-- The first octets of a word, and the last ones.
use Rattle.std.proofs.Common.{◌≡◌, ℕ, zero, suc, ◌+◌, ◌-◌, ◌*◌, ◌/◌, ◌%◌, ◌^◌, ◌<◌, ◌≤◌, List, length, drop, slice_index, arith, refl, sym, ◌∙◌, ap, get_or-drop}
use Rattle.std.proofs.Math.Nat.{pow-suc, mul_assoc}
use Rattle.std.proofs.lemmas.Nat.{pow-add, mod-mul-add, div-mul-add}
use Rattle.std.specs.Int.{w64, from_le_bytes}

-- the number of so many octets, the lowest first
abbrev number : ℕ → (ℕ → ℕ) → ℕ
number zero f = 0
number (suc n) f = f 0 + 256 * number n (λ i. f (suc i))

number-lt : (n : ℕ) (f : ℕ → ℕ) → ((i : ℕ) → f i < 256) → number n f < 256 ^ n
number-lt zero f low = omega arith
number-lt (suc n) f low = let more = number-lt n (λ i. f (suc i)) (λ i. low (suc i)) in let here = low 0 in omega (arith, pow-suc 256 n)

number-same : (n : ℕ) (f g : ℕ → ℕ) → ((i : ℕ) → i < n → f i ≡ g i) → number n f ≡ number n g
number-same zero f g same = refl
number-same (suc n) f g same =
    let more = number-same n (λ i. f (suc i)) (λ i. g (suc i)) (λ i l. same (suc i) (omega arith)) in
    let here = same 0 (omega arith) in
    omega arith

-- octets are told by their number
number-tells : (n : ℕ) (f g : ℕ → ℕ) → ((i : ℕ) → f i < 256) → ((i : ℕ) → g i < 256) → number n f ≡ number n g → (i : ℕ) → i < n → f i ≡ g i
number-tells zero f g low small e i l = absurd (omega arith)
number-tells (suc n) f g low small e zero l = let a = low 0 in let b = small 0 in omega arith
number-tells (suc n) f g low small e (suc i) l =
    let a = low 0 in let b = small 0 in
    number-tells n (λ j. f (suc j)) (λ j. g (suc j)) (λ j. low (suc j)) (λ j. small (suc j)) (omega arith) i (omega arith)

-- the first of them, and the others
number-split : (n m k : ℕ) (f : ℕ → ℕ) → n ≡ m + k → number n f ≡ number k (λ i. f (m + i)) * 256 ^ m + number m f
number-split n zero k f e =
    let same = number-same k f (λ i. f (0 + i)) (λ i l. ap f (let e : i ≡ 0 + i = omega arith in e)) in
    let all = ap (λ (n : ℕ). number n f) (let here : n ≡ k = omega arith in here) in
    omega (arith, same, all)
number-split zero (suc m) k f e = absurd (omega arith)
number-split (suc n) (suc m) k f e =
    let more = number-split n m k (λ i. f (suc i)) (omega arith) in
    let rest = number k (λ i. f (suc m + i)) in
    let same : number k (λ i. f (suc (m + i))) ≡ rest = number-same k (λ i. f (suc (m + i))) (λ i. f (suc m + i)) (λ i l. ap f (let e : suc (m + i) ≡ suc m + i = omega arith in e)) in
    let before : number k (λ i. f (suc (m + i))) * 256 ^ m ≡ rest * 256 ^ m = ap (λ (x : ℕ). x * 256 ^ m) same in
    let power : 256 ^ suc m ≡ 256 ^ m * 256 = omega (arith, pow-suc 256 m) in
    let whole : rest * 256 ^ suc m ≡ rest * 256 ^ m * 256 = ap (λ (x : ℕ). rest * x) power ∙ sym (mul_assoc rest (256 ^ m) 256) in
    omega arith

number-first : (n m k : ℕ) (f : ℕ → ℕ) → n ≡ m + k → ((i : ℕ) → f i < 256) → number n f % 256 ^ m ≡ number m f
number-first n m k f e low = ap (λ (x : ℕ). x % 256 ^ m) (number-split n m k f e) ∙ mod-mul-add (number k (λ i. f (m + i))) (256 ^ m) (number m f) (number-lt m f low)

number-last : (n m k : ℕ) (f : ℕ → ℕ) → n ≡ m + k → ((i : ℕ) → f i < 256) → number n f / 256 ^ m ≡ number k (λ i. f (m + i))
number-last n m k f e low = ap (λ (x : ℕ). x / 256 ^ m) (number-split n m k f e) ∙ div-mul-add (number k (λ i. f (m + i))) (256 ^ m) (number m f) (number-lt m f low)

word_number : (xs : List ℕ) → from_le_bytes w64 xs ≡ number 8 (slice_index xs)
word_number xs = omega arith

-- two ways to write the size of so many octets
power : (n : ℕ) → 256 ^ n ≡ 2 ^ (8 * n)
power zero = refl
power (suc n) =
    let e : 8 * suc n ≡ 8 * n + 8 = omega arith in
    rw (pow-suc 256 n, power n, e, pow-add 2 (8 * n) 8) refl

-- what is left of an item's word, and the last octets of the others
first_octets : (item : List ℕ) (start word left : ℕ) → ((i : ℕ) → slice_index item i < 256) → word ≡ from_le_bytes w64 (drop start item) → left ≤ 8
    → word % 2 ^ (8 * left) ≡ number left (λ i. slice_index item (start + i))
first_octets item start word left low is fits =
    let f = slice_index (drop start item) in
    let all : 8 ≡ left + (8 - left) = omega arith in
    let at : (i : ℕ) → f i ≡ slice_index item (start + i) = λ i. get_or-drop start item i 0 in
    ap (λ (x : ℕ). word % x) (sym (power left)) ∙ ap (λ (x : ℕ). x % 256 ^ left) (is ∙ word_number (drop start item))
    ∙ number-first 8 left (8 - left) f all (λ i. let e = at i in let h = low (start + i) in omega arith)
    ∙ number-same left f (λ i. slice_index item (start + i)) (λ i l. at i)

last_octets : (octets : List ℕ) (from word left : ℕ) → ((i : ℕ) → slice_index octets i < 256) → word ≡ from_le_bytes w64 (drop from octets) → left ≤ 8
    → word / 2 ^ (64 - 8 * left) ≡ number left (λ i. slice_index octets (from + (8 - left + i)))
last_octets octets from word left low is fits =
    let f = slice_index (drop from octets) in
    let all : 8 ≡ (8 - left) + left = omega arith in
    let at : (i : ℕ) → f i ≡ slice_index octets (from + i) = λ i. get_or-drop from octets i 0 in
    let bits : 64 - 8 * left ≡ 8 * (8 - left) = omega arith in
    ap (λ (x : ℕ). word / x) (ap (λ (n : ℕ). 2 ^ n) bits ∙ sym (power (8 - left))) ∙ ap (λ (x : ℕ). x / 256 ^ (8 - left)) (is ∙ word_number (drop from octets))
    ∙ number-last 8 (8 - left) left f all (λ i. let e = at i in let h = low (from + i) in omega arith)
    ∙ number-same left (λ i. f (8 - left + i)) (λ i. slice_index octets (from + (8 - left + i))) (λ i l. at (8 - left + i))

-- an item's word against the end of other octets, of which the last eight make a word
pub record Ends (item octets : List ℕ) (word last start left : ℕ) : Type 0 where
  pub agree : word % 2 ^ (8 * left) ≡ last / 2 ^ (64 - 8 * left) → (i : ℕ) → start ≤ i → i < start + 8 → i < length octets → slice_index item i ≡ slice_index octets i
  pub alike : ((i : ℕ) → start ≤ i → i < start + 8 → i < length octets → slice_index item i ≡ slice_index octets i) → word % 2 ^ (8 * left) ≡ last / 2 ^ (64 - 8 * left)

pub ends : (item octets : List ℕ) (word last start left : ℕ) → ((i : ℕ) → slice_index item i < 256) → ((i : ℕ) → slice_index octets i < 256) → word ≡ from_le_bytes w64 (drop start item) → last ≡ from_le_bytes w64 (drop (length octets - 8) octets)
    → 8 ≤ length octets → start + left ≡ length octets → left ≤ 8 → Ends item octets word last start left
ends item octets word last start left low small is of many end fits =
    let f : ℕ → ℕ = λ i. slice_index item (start + i) in
    let g : ℕ → ℕ = λ i. slice_index octets (length octets - 8 + (8 - left + i)) in
    let a = first_octets item start word left low is fits in
    let b = last_octets octets (length octets - 8) last left small of fits in
    let at : (i : ℕ) → g i ≡ slice_index octets (start + i) = λ i. ap (slice_index octets) (let e : length octets - 8 + (8 - left + i) ≡ start + i = omega arith in e) in
    record {
      agree = λ same i l m n.
          let k : start + (i - start) ≡ i = omega arith in
          ap (slice_index item) (sym k) ∙ number-tells left f g (λ j. low (start + j)) (λ j. small (length octets - 8 + (8 - left + j))) (sym a ∙ same ∙ b) (i - start) (omega arith) ∙ at (i - start) ∙ ap (slice_index octets) k;
      alike = λ same. a ∙ number-same left f g (λ i l. same (start + i) (omega arith) (omega arith) (omega arith) ∙ sym (at i)) ∙ sym b;
    }
