-- What holds of all elements of a list, and of numbers that rise to a last one.
use Rattle.std.proofs.Common.{◌≡◌, ℕ, ◌<◌, ◌≤◌, List, [], ◌∷◌, ◌++◌, Less, sym, arith}
use Rattle.std.proofs.lemmas.Cmp.{ranked}
use Rattle.std.specs.List.{AllByRecursion}
use Rattle.std.specs.List.Sorted.{IsStrictlySortedBy}
use Rattle.std.specs.Ordering.{nat_cmp}
pub use Rattle.dns_name.proofs.BodyLemmas.{all_append, all_push}

pub all_parts : {A : Type 0} (P : A → Type 0) (xs ys : List A) → AllByRecursion P (xs ++ ys) → AllByRecursion P xs × AllByRecursion P ys
all_parts P [] ys h = (tt, h)
all_parts P (x ∷ xs) ys h = let i = all_parts P xs ys h.1 in ((h.0, i.0), i.1)

pub all_weaker : {A : Type 0} (P Q : A → Type 0) (xs : List A) → ((x : A) → P x → Q x) → AllByRecursion P xs → AllByRecursion Q xs
all_weaker P Q [] f h = tt
all_weaker P Q (x ∷ xs) f h = (f x h.0, all_weaker P Q xs f h.1)

-- two facts of each give a third
pub all_both : {A : Type 0} (P Q R : A → Type 0) (xs : List A) → ((x : A) → P x → Q x → R x) → AllByRecursion P xs → AllByRecursion Q xs → AllByRecursion R xs
all_both P Q R [] f h k = tt
all_both P Q R (x ∷ xs) f h k = (f x h.0 k.0, all_both P Q R xs f h.1 k.1)

-- numbers that rise do so without the last, which is above them
pub older_rise : (last : ℕ) (older : List ℕ) → IsStrictlySortedBy nat_cmp (older ++ last ∷ []) → IsStrictlySortedBy nat_cmp older × AllByRecursion (λ n. n < last) older
unfolding IsStrictlySortedBy
older_rise last [] rising = (tt, tt)
older_rise last (n ∷ older) rising =
    let parts = all_parts (λ (m : ℕ). nat_cmp n m ≡ Less) older (last ∷ []) rising.0 in
    let more = older_rise last older rising.1 in
    ((parts.0, more.0), (ranked n last Less (sym parts.1.0), more.1))

-- what holds up to the last holds of them all
pub all_up_to : (P : ℕ → Type 0) (last : ℕ) (older : List ℕ) → ((n : ℕ) → n ≤ last → P n) → AllByRecursion (λ n. n < last) older → AllByRecursion P (older ++ last ∷ [])
all_up_to P last older most below = all_push P older last (all_weaker (λ n. n < last) P older (λ n l. most n (omega (arith, l))) below) (most last (omega arith))
