-- Commands that were each run by one of the workers were handed out to them.
use Rattle.std.proofs.Common.{◌≡◌, ◌∙◌, inl, inr, ℕ, zero, suc, ◌+◌, ◌<◌, ◌≤◌, Bool, true, false, cond, eqb, List, [], ◌∷◌, length, map, refl, sym, ap, arith, add-one}
use Rattle.std.proofs.lemmas.Bool.{cases_eq, cases_lt}
use Rattle.std.proofs.lemmas.Bool.Decides.{nat_tests}
use Rattle.std.proofs.lemmas.List.Sums.{sum_by-cons}
use Rattle.std.specs.List.{AllByRecursion, range_with_len}
use Rattle.std.specs.List.Sorted.{IsStrictlyIncreasing}
use Rattle.job_model.specs.Feeds.{FedPair, numbers_by, all_numbers, times_in, times_in_all, Fed}

-- ---- how often a number stands in the lists

-- the lists of some workers
abbrev lists_by : List ℕ → ℕ → List FedPair → List (List ℕ)
lists_by workers n fed = map (λ w. numbers_by w n fed) workers

times-cons : (number x : ℕ) (list : List ℕ) → times_in number (x ∷ list) ≡ cond (eqb x number) 1 0 + times_in number list
times-cons number x list = sum_by-cons (λ y. cond (eqb y number) 1 0) x list

all-cons : (number : ℕ) (list : List ℕ) (lists : List (List ℕ)) → times_in_all number (list ∷ lists) ≡ times_in number list + times_in_all number lists
all-cons number list lists = sum_by-cons (times_in number) list lists

-- the first command joins the list of its worker
first_in : (number w n : ℕ) (f : FedPair) (fed : List FedPair) (mine here : Bool) → eqb f.worker w ≡ mine → eqb n number ≡ here → times_in number (numbers_by w n (f ∷ fed)) ≡ cond here (cond mine 1 0) 0 + times_in number (numbers_by w (n + 1) fed)
first_in number w n f fed true here is at =
    ap (λ (b : Bool). times_in number (cond b (n ∷ numbers_by w (n + 1) fed) (numbers_by w (n + 1) fed))) is
    ∙ times-cons number n (numbers_by w (n + 1) fed)
    ∙ ap (λ (b : Bool). cond b 1 0 + times_in number (numbers_by w (n + 1) fed)) at
first_in number w n f fed false true is at =
    ap (λ (b : Bool). times_in number (cond b (n ∷ numbers_by w (n + 1) fed) (numbers_by w (n + 1) fed))) is
    ∙ (let e : times_in number (numbers_by w (n + 1) fed) ≡ 0 + times_in number (numbers_by w (n + 1) fed) = omega arith in e)
first_in number w n f fed false false is at =
    ap (λ (b : Bool). times_in number (cond b (n ∷ numbers_by w (n + 1) fed) (numbers_by w (n + 1) fed))) is
    ∙ (let e : times_in number (numbers_by w (n + 1) fed) ≡ 0 + times_in number (numbers_by w (n + 1) fed) = omega arith in e)

same_test : (a b : ℕ) → eqb a b ≡ eqb b a
same_test a b = elim (cases_eq a b) [
  | inl e ↦ ap (λ (x : ℕ). eqb x b) e ∙ ap (λ (x : ℕ). eqb b x) (sym e)
  | inr m ↦ (let no : eqb a b ≡ false = grind arith in let on : eqb b a ≡ false = grind arith in no ∙ sym on)
]

-- so it does in the lists of some workers, as often as its worker stands among them
first_in_all : (number n : ℕ) (f : FedPair) (fed : List FedPair) (here : Bool) → eqb n number ≡ here → (workers : List ℕ) → times_in_all number (lists_by workers n (f ∷ fed)) ≡ cond here (times_in f.worker workers) 0 + times_in_all number (lists_by workers (n + 1) fed)
first_in_all number n f fed true at [] = refl
first_in_all number n f fed false at [] = refl
first_in_all number n f fed true at (w ∷ workers) =
    let one = first_in number w n f fed (eqb f.worker w) true refl at in
    let rest = first_in_all number n f fed true at workers in
    let same = ap {B = ℕ} (λ (b : Bool). cond b 1 0) (same_test f.worker w) in
    omega (arith, one, rest, same, times-cons f.worker w workers, all-cons number (numbers_by w n (f ∷ fed)) (lists_by workers n (f ∷ fed)), all-cons number (numbers_by w (n + 1) fed) (lists_by workers (n + 1) fed))
first_in_all number n f fed false at (w ∷ workers) =
    let one = first_in number w n f fed (eqb f.worker w) false refl at in
    let rest = first_in_all number n f fed false at workers in
    omega (arith, one, rest, all-cons number (numbers_by w n (f ∷ fed)) (lists_by workers n (f ∷ fed)), all-cons number (numbers_by w (n + 1) fed) (lists_by workers (n + 1) fed))

none_in : (number n : ℕ) (workers : List ℕ) → times_in_all number (lists_by workers n []) ≡ 0
none_in number n [] = refl
none_in number n (w ∷ workers) = let rest = none_in number n workers in omega (arith, rest, all-cons number [] (lists_by workers n []))

-- a number below the first one
below_none : (number n : ℕ) (fed : List FedPair) (workers : List ℕ) → number < n → times_in_all number (lists_by workers n fed) ≡ 0
below_none number n [] workers below = none_in number n workers
below_none number n (f ∷ fed) workers below =
    let no : eqb n number ≡ false = grind (arith, nat_tests) in
    let rest = below_none number (n + 1) fed workers (omega arith) in
    omega (arith, rest, first_in_all number n f fed false no workers)

range_none : (v first many : ℕ) → v < first → times_in v (range_with_len first many) ≡ 0
range_none v first zero below = refl
range_none v first (suc many) below =
    let no : eqb first v ≡ false = grind (arith, nat_tests) in
    let rest = range_none v (first + 1) many (omega arith) in
    let none = ap {B = ℕ} (λ (b : Bool). cond b 1 0) no in
    omega (arith, rest, none, times-cons v first (range_with_len (first + 1) many))

range_once : (v first many : ℕ) → first ≤ v → v < first + many → times_in v (range_with_len first many) ≡ 1
range_once v first zero above below = absurd (omega arith)
range_once v first (suc many) above below = elim (cases_eq first v) [
  | inl e ↦
      let yes : eqb first v ≡ true = grind arith in
      let rest = range_none v (first + 1) many (omega arith) in
      let one = ap {B = ℕ} (λ (b : Bool). cond b 1 0) yes in
      omega (arith, rest, one, times-cons v first (range_with_len (first + 1) many))
  | inr m ↦
      let no : eqb first v ≡ false = grind arith in
      let rest = range_once v (first + 1) many (omega arith) (omega arith) in
      let none = ap {B = ℕ} (λ (b : Bool). cond b 1 0) no in
      omega (arith, rest, none, times-cons v first (range_with_len (first + 1) many))
]

-- it was run by one of so many workers
abbrev pub IsAmong : ℕ → FedPair → Type 0
IsAmong workers f = (0 < f.worker) × (f.worker ≤ workers)

stands_once : (workers number n : ℕ) (fed : List FedPair) → AllByRecursion (IsAmong workers) fed → n ≤ number → number < n + length fed → times_in_all number (lists_by (range_with_len 1 workers) n fed) ≡ 1
stands_once workers number n [] among above below = absurd (omega arith)
stands_once workers number n (f ∷ fed) among above below = elim (cases_eq n number) [
  | inl e ↦
      let yes : eqb n number ≡ true = grind arith in
      let rest = below_none number (n + 1) fed (range_with_len 1 workers) (omega arith) in
      let one = range_once f.worker 1 workers (omega (arith, among.0.0)) (omega (arith, among.0.1)) in
      omega (arith, rest, one, first_in_all number n f fed true yes (range_with_len 1 workers))
  | inr m ↦
      let no : eqb n number ≡ false = grind arith in
      let rest = stands_once workers number (n + 1) fed among.1 (omega arith) (omega arith) in
      omega (arith, rest, first_in_all number n f fed false no (range_with_len 1 workers))
]

-- ---- the lists themselves

all_weaker : {X : Type 0} (P Q : X → Type 0) (xs : List X) → ((x : X) → P x → Q x) → AllByRecursion P xs → AllByRecursion Q xs
all_weaker P Q [] f a = tt
all_weaker P Q (x ∷ xs) f a = (f x a.0, all_weaker P Q xs f a.1)

abbrev Within : ℕ → ℕ → ℕ → Type 0
Within first end number = (first ≤ number) × (number < end)

numbers_within : (w n : ℕ) (fed : List FedPair) → AllByRecursion (Within n (n + length fed)) (numbers_by w n fed)
numbers_within w n [] = tt
numbers_within w n (f ∷ fed) =
    by_test (eqb f.worker w) (all_weaker (Within (n + 1) (n + 1 + length fed)) (Within n (n + suc (length fed))) (numbers_by w (n + 1) fed) (λ number within. (omega (arith, within.0), omega (arith, within.1))) (numbers_within w (n + 1) fed))
  where
    by_test : (b : Bool) → AllByRecursion (Within n (n + suc (length fed))) (numbers_by w (n + 1) fed) → AllByRecursion (Within n (n + suc (length fed))) (cond b (n ∷ numbers_by w (n + 1) fed) (numbers_by w (n + 1) fed))
    by_test true rest = ((omega arith, omega arith), rest)
    by_test false rest = rest

rising_cons : (x : ℕ) (xs : List ℕ) → AllByRecursion (λ y. x < y) xs → IsStrictlyIncreasing xs → IsStrictlyIncreasing (x ∷ xs)
rising_cons x [] above rising k l = absurd (omega arith)
rising_cons x (y ∷ ys) above rising zero l = above.0
rising_cons x (y ∷ ys) above rising (suc k) l = let step = rising k (omega arith) in rw add-one (rw add-one at step)

numbers_rise : (w n : ℕ) (fed : List FedPair) → IsStrictlyIncreasing (numbers_by w n fed)
numbers_rise w n [] = λ k l. absurd (omega arith)
numbers_rise w n (f ∷ fed) = by_test (eqb f.worker w) (numbers_rise w (n + 1) fed)
  where
    by_test : (b : Bool) → IsStrictlyIncreasing (numbers_by w (n + 1) fed) → IsStrictlyIncreasing (cond b (n ∷ numbers_by w (n + 1) fed) (numbers_by w (n + 1) fed))
    by_test true rest = rising_cons n (numbers_by w (n + 1) fed) (all_weaker (Within (n + 1) (n + 1 + length fed)) (λ y. n < y) (numbers_by w (n + 1) fed) (λ y within. omega (arith, within.0)) (numbers_within w (n + 1) fed)) rest
    by_test false rest = rest

each_list : (P : List ℕ → Type 0) (fed : List FedPair) (workers : List ℕ) → ((w : ℕ) → P (numbers_by w 1 fed)) → AllByRecursion P (lists_by workers 1 fed)
each_list P fed [] h = tt
each_list P fed (w ∷ workers) h = (h w, each_list P fed workers h)

pub workers_fed : (workers : ℕ) (fed : List FedPair) → AllByRecursion (IsAmong workers) fed → Fed (length fed) (all_numbers workers fed)
workers_fed workers fed among = record {
  once = λ number some few. stands_once workers number 1 fed among (omega arith) (omega arith);
  within = each_list (AllByRecursion (λ number. (0 < number) × (number ≤ length fed))) fed (range_with_len 1 workers)
      (λ w. all_weaker (Within 1 (1 + length fed)) (λ number. (0 < number) × (number ≤ length fed)) (numbers_by w 1 fed) (λ number within. (omega (arith, within.0), omega (arith, within.1))) (numbers_within w 1 fed));
  rising = each_list IsStrictlyIncreasing fed (range_with_len 1 workers) (λ w. numbers_rise w 1 fed);
}

-- ---- commands that were handed out were run by one of the workers

range_past : (v first many : ℕ) → first + many ≤ v → times_in v (range_with_len first many) ≡ 0
range_past v first zero past = refl
range_past v first (suc many) past =
    let no : eqb first v ≡ false = grind (arith, nat_tests) in
    let rest = range_past v (first + 1) many (omega arith) in
    let none = ap {B = ℕ} (λ (b : Bool). cond b 1 0) no in
    omega (arith, rest, none, times-cons v first (range_with_len (first + 1) many))

in_range : (v many : ℕ) → times_in v (range_with_len 1 many) ≡ 1 → (0 < v) × (v ≤ many)
in_range zero many once = absurd (let none = range_none 0 1 many (omega arith) in omega (arith, once, none))
in_range (suc v) many once = (
  omega arith,
  elim (cases_lt v many) [
    | inl below ↦ omega arith
    | inr past ↦ absurd (let none = range_past (suc v) 1 many (omega arith) in omega (arith, once, none))
  ],
)

once_among : (workers n : ℕ) (fed : List FedPair) → ((number : ℕ) → n ≤ number → number < n + length fed → times_in_all number (lists_by (range_with_len 1 workers) n fed) ≡ 1) → AllByRecursion (IsAmong workers) fed
once_among workers n [] once = tt
once_among workers n (f ∷ fed) once =
    let yes : eqb n n ≡ true = grind arith in
    let here = once n (omega arith) (omega arith) in
    let rest = below_none n (n + 1) fed (range_with_len 1 workers) (omega arith) in
    let one : times_in f.worker (range_with_len 1 workers) ≡ 1 = omega (arith, here, rest, first_in_all n n f fed true yes (range_with_len 1 workers)) in
    let more : (number : ℕ) → n + 1 ≤ number → number < n + 1 + length fed → times_in_all number (lists_by (range_with_len 1 workers) (n + 1) fed) ≡ 1 =
    λ number above below.
    let no : eqb n number ≡ false = grind (arith, nat_tests) in
    let same = once number (omega arith) (omega arith) in
    omega (arith, same, first_in_all number n f fed false no (range_with_len 1 workers)) in
    (in_range f.worker workers one, once_among workers (n + 1) fed more)

pub fed_among : (workers : ℕ) (fed : List FedPair) → Fed (length fed) (all_numbers workers fed) → AllByRecursion (IsAmong workers) fed
fed_among workers fed is = once_among workers 1 fed (λ number above below. is.once number (omega arith) (omega arith))
