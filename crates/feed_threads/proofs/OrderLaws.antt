-- Outcomes that are put into the places of their numbers.
use Rattle.std.proofs.Common.{◌≡◌, ◌∙◌, ◌⊎◌, inl, inr, ℕ, zero, suc, ◌+◌, ◌-◌, ◌<◌, ◌≤◌, Bool, true, false, cond, eqb, List, [], ◌∷◌, ◌++◌, length, map, get_or, set, replicate, Option, Some, None, Result, Ok, Err, IfOk, Vec, refl, sym, ap, subst, arith, append_assoc, append-nil, length-append, eq-eqb, eqb-true}
use Rattle.std.specs.Prelude.{Contains, IsSome, slice_get}
use Rattle.std.proofs.lemmas.Bool.Decides.{nat_tests}
use Rattle.std.proofs.lemmas.List.Sums.{sum_by-cons}
use Rattle.std.proofs.lemmas.Option.{slice_get_within, get_or_from_slice_get}
use Rattle.std.specs.List.{All, AllByRecursion, zip}
use Rattle.std.specs.Global.{Global}
use Rattle.std.proofs.lemmas.List.{length-map}
use Rattle.std.proofs.lemmas.List.Elements.{All-from_recursion, All-get_or}
use Rattle.std.proofs.lemmas.Map.Keys.{sorted_from_strictly_increasing}
use Rattle.std.specs.Ordering.{nat_cmp}
use Rattle.std.specs.List.Sorted.{IsStrictlyIncreasing, IsStrictlySortedBy}
use Rattle.job_report.specs.declared.outcomes.FedOutcome.{FedOutcome}
use Rattle.job_report.specs.declared.outcomes.Outcome.{Outcome}
use Rattle.feed_core.specs.Feeds.{list_at}
use Rattle.feed_core.specs.Rule.{times}
use Rattle.feed_threads.specs.declared.ordering.Served.{Served}
use Rattle.feed_threads.specs.Feeds.{AreInOrder, AreTaken, ArePlaced, IsBy, IsFree, IsServed, numbered, numbers_served, served_by}
use Rattle.job_commands.proofs.JobLaws.{here, there}
use Rattle.report_laws.proofs.ListLemmas.{all_both, all_parts, all_weaker, older_rise}

abbrev pub Places : Type 0
Places = List (Option FedOutcome)

abbrev Numbered : Type 0
Numbered = List (ℕ × Outcome)

-- ---- lists

abbrev In : {A : Type 0} → A → List A → Type 0
In x [] = ⊥
In x (y ∷ ys) = (y ≡ x) ⊎ In x ys

in_contains : {A : Type 0} (x : A) (xs : List A) → In x xs → Contains xs x
in_contains x [] i = absurd i
in_contains x (y ∷ ys) (inl e) = subst (λ (z : _). Contains (z ∷ ys) x) (sym e) (here x ys)
in_contains x (y ∷ ys) (inr more) = there y x ys (in_contains x ys more)

all_of : {X : Type 0} (P : X → Type 0) (xs : List X) → ((x : X) → P x) → AllByRecursion P xs
all_of P [] f = tt
all_of P (x ∷ xs) f = (f x, all_of P xs f)

each_in : {X : Type 0} (P : X → Type 0) (xs : List X) → ((x : X) → In x xs → P x) → AllByRecursion P xs
each_in P [] f = tt
each_in P (x ∷ xs) f = (f x (inl refl), each_in P xs (λ y i. f y (inr i)))

pub at_place : {X : Type 0} (P : X → Type 0) (xs : List X) (i : ℕ) (x : X) → AllByRecursion P xs → slice_get xs i ≡ Some x → P x
at_place P xs i x all e = subst P (get_or_from_slice_get xs i x x e) (All-get_or P xs i x (slice_get_within xs i x e) (All-from_recursion P xs all))

zip-push : (numbers : List ℕ) (os : List Outcome) (number : ℕ) (o : Outcome) → length numbers ≡ length os → zip (numbers ++ number ∷ []) (os ++ o ∷ []) ≡ zip numbers os ++ (number, o) ∷ []
zip-push [] [] number o alike = refl
zip-push [] (p ∷ os) number o alike = absurd (omega arith)
zip-push (n ∷ numbers) [] number o alike = absurd (omega arith)
zip-push (n ∷ numbers) (p ∷ os) number o alike = ap (λ (l : Numbered). (n, p) ∷ l) (zip-push numbers os number o (omega arith))

-- ---- one outcome more

-- its worker has served it, ahead of all that stands behind it
served_set : (places : Places) (i n w : ℕ) (o : FedOutcome) → o.worker ≡ w → slice_get places i ≡ Some None → AllByRecursion (λ e. n + i < e.0) (served_by w n places) → served_by w n (set places i (Some o)) ≡ (n + i, o.outcome) ∷ served_by w n places
served_set [] i n w o mine free above = absurd cc
served_set (p ∷ places) zero n w o mine free above =
    let none : p ≡ None = cc in
    ap (λ (b : Bool). cond b ((n, o.outcome) ∷ served_by w (n + 1) places) (served_by w (n + 1) places)) (eq-eqb o.worker w mine)
    ∙ ap (λ (k : ℕ). (k, o.outcome) ∷ served_by w (n + 1) places) (let e : n ≡ n + 0 = omega arith in e)
    ∙ ap (λ (q : Option FedOutcome). (n + 0, o.outcome) ∷ served_by w n (q ∷ places)) (sym none)
served_set (None ∷ places) (suc i) n w o mine free above =
    served_set places i (n + 1) w o mine free (all_weaker (λ (e : ℕ × Outcome). n + suc i < e.0) (λ (e : ℕ × Outcome). n + 1 + i < e.0) (served_by w (n + 1) places) (λ e l. omega (arith, l)) above)
    ∙ ap (λ (k : ℕ). (k, o.outcome) ∷ served_by w (n + 1) places) (let e : n + 1 + i ≡ n + suc i = omega arith in e)
served_set (Some q ∷ places) (suc i) n w o mine free above = by_test (λ further. served_set places i (n + 1) w o mine free further) (eqb q.worker w) above
  where
    rest : Numbered
    rest = served_by w (n + 1) places

    by_test : (AllByRecursion (λ (e : ℕ × Outcome). n + 1 + i < e.0) (served_by w (n + 1) places) → served_by w (n + 1) (set places i (Some o)) ≡ (n + 1 + i, o.outcome) ∷ served_by w (n + 1) places) → (b : Bool)
        → AllByRecursion (λ (e : ℕ × Outcome). n + suc i < e.0) (cond b ((n, q.outcome) ∷ served_by w (n + 1) places) (served_by w (n + 1) places))
        → cond b ((n, q.outcome) ∷ served_by w (n + 1) (set places i (Some o))) (served_by w (n + 1) (set places i (Some o))) ≡ (n + suc i, o.outcome) ∷ cond b ((n, q.outcome) ∷ served_by w (n + 1) places) (served_by w (n + 1) places)
    by_test more true further = let l : n + suc i < n = further.0 in absurd (omega (arith, l))
    by_test more false further =
        more (all_weaker (λ (e : ℕ × Outcome). n + suc i < e.0) (λ (e : ℕ × Outcome). n + 1 + i < e.0) (served_by w (n + 1) places) (λ e l. omega (arith, l)) further)
        ∙ ap (λ (k : ℕ). (k, o.outcome) ∷ served_by w (n + 1) places) (let e : n + 1 + i ≡ n + suc i = omega arith in e)

-- the others have served what they had
other_set : (places : Places) (i n w : ℕ) (o : FedOutcome) → (w ≡ o.worker → ⊥) → slice_get places i ≡ Some None → served_by w n (set places i (Some o)) ≡ served_by w n places
other_set [] i n w o other free = absurd cc
other_set (p ∷ places) zero n w o other free =
    let none : p ≡ None = cc in
    let no : eqb o.worker w ≡ false = (let differ = other in grind (arith, nat_tests)) in
    ap (λ (b : Bool). cond b ((n, o.outcome) ∷ served_by w (n + 1) places) (served_by w (n + 1) places)) no ∙ ap (λ (q : Option FedOutcome). served_by w n (q ∷ places)) (sym none)
other_set (None ∷ places) (suc i) n w o other free = other_set places i (n + 1) w o other free
other_set (Some q ∷ places) (suc i) n w o other free = ap (λ (l : Numbered). cond (eqb q.worker w) ((n, q.outcome) ∷ l) l) (other_set places i (n + 1) w o other free)

get-set_other : (places : Places) (i j : ℕ) (x : Option FedOutcome) → (i ≡ j → ⊥) → slice_get (set places i x) j ≡ slice_get places j
get-set_other [] i j x other = refl
get-set_other (p ∷ places) zero zero x other = absurd (other refl)
get-set_other (p ∷ places) zero (suc j) x other = refl
get-set_other (p ∷ places) (suc i) zero x other = refl
get-set_other (p ∷ places) (suc i) (suc j) x other = get-set_other places i j x (λ e. other (ap suc e))

by_set : (places : Places) (i low high : ℕ) (o : FedOutcome) → low < o.worker → o.worker ≤ high → AllByRecursion (IsBy low high) places → AllByRecursion (IsBy low high) (set places i (Some o))
by_set [] i low high o above below all = tt
by_set (p ∷ places) zero low high o above below all = ((above, below), all.1)
by_set (p ∷ places) (suc i) low high o above below all = (all.0, by_set places i low high o above below all.1)

none_by : (places : Places) (n w low high : ℕ) → w ≤ low → AllByRecursion (IsBy low high) places → served_by w n places ≡ []
none_by [] n w low high le all = refl
none_by (None ∷ places) n w low high le all = none_by places (n + 1) w low high le all.1
none_by (Some o ∷ places) n w low high le all =
    let above = all.0.0 in
    let no : eqb o.worker w ≡ false = grind (arith, nat_tests) in
    ap (λ (b : Bool). cond b ((n, o.outcome) ∷ served_by w (n + 1) places) (served_by w (n + 1) places)) no ∙ none_by places (n + 1) w low high le all.1

-- ---- a worker's outcomes, from the last one on

pub record Placing (served : Numbered) (start : Places) (w : ℕ) (numbers : List ℕ) (os : List Outcome) (places : Places) : Type 0 where
  pub alike : length numbers ≡ length os
  pub rising : IsStrictlySortedBy nat_cmp numbers
  pub free : AllByRecursion (IsFree places) numbers
  -- what was put in stands behind
  pub above : AllByRecursion (λ m. AllByRecursion (λ e. m < e.0) (served_by w 1 places)) numbers
  pub mine : zip numbers os ++ served_by w 1 places ≡ served
  pub others : (other : ℕ) → (other ≡ w → ⊥) → served_by other 1 places ≡ served_by other 1 start
  pub workers : (low high : ℕ) → low < w → w ≤ high → AllByRecursion (IsBy low high) start → AllByRecursion (IsBy low high) places

pub placing_begins : (places : Places) (w : ℕ) (numbers : List ℕ) (os : List Outcome) → length numbers ≡ length os → IsStrictlyIncreasing numbers → AllByRecursion (IsFree places) numbers → served_by w 1 places ≡ [] → Placing (zip numbers os) places w numbers os places
placing_begins places w numbers os alike rising free none = record {
  alike = alike;
  rising = sorted_from_strictly_increasing numbers rising;
  free = free;
  above = all_of (λ (m : ℕ). AllByRecursion (λ e. m < e.0) (served_by w 1 places)) numbers (λ m. subst (λ (l : Numbered). AllByRecursion (λ e. m < e.0) l) (sym none) tt);
  mine = ap (λ (l : Numbered). zip numbers os ++ l) none ∙ append-nil (zip numbers os);
  others = λ other differs. refl;
  workers = λ low high above below all. all;
}

pub placing_next : (served : Numbered) (start places : Places) (w number : ℕ) (numbers rest : List ℕ) (os more : List Outcome) (o : Outcome) → numbers ≡ rest ++ number ∷ [] → os ≡ more ++ o ∷ [] → Placing served start w numbers os places
    → Placing served start w rest more (set places (number - 1) (Some (record { worker = w; outcome = o })))
placing_next served start places w number numbers rest os more o is_numbers is_os p =
    let one : FedOutcome = record { worker = w; outcome = o } in
    let alike : length rest ≡ length more = (let e = p.alike in omega (arith, e, ap length is_numbers, ap length is_os, length-append rest (number ∷ []), length-append more (o ∷ []))) in
    let rising = older_rise number rest (subst (IsStrictlySortedBy nat_cmp) is_numbers p.rising) in
    let free = all_parts (IsFree places) rest (number ∷ []) (subst (AllByRecursion (IsFree places)) is_numbers p.free) in
    let above = all_parts (λ (m : ℕ). AllByRecursion (λ e. m < e.0) (served_by w 1 places)) rest (number ∷ []) (subst (AllByRecursion (λ m. AllByRecursion (λ e. m < e.0) (served_by w 1 places))) is_numbers p.above) in
    let at : 1 + (number - 1) ≡ number = (let some = free.1.0.0 in omega (arith, some)) in
    let put : served_by w 1 (set places (number - 1) (Some one)) ≡ (number, o) ∷ served_by w 1 places =
    served_set places (number - 1) 1 w one refl free.1.0.1 (subst (λ (k : ℕ). AllByRecursion (λ e. k < e.0) (served_by w 1 places)) (sym at) above.1.0)
    ∙ ap (λ (k : ℕ). (k, o) ∷ served_by w 1 places) at in
    record {
      alike = alike;
      rising = rising.0;
      free = all_both (IsFree places) (λ (m : ℕ). m < number) (IsFree (set places (number - 1) (Some one))) rest
          (λ m f below. (f.0, get-set_other places (number - 1) (m - 1) (Some one) (λ e. (let some = f.0 in absurd (omega (arith, e, below, some)))) ∙ f.1)) free.0 rising.1;
      above = all_both (λ (m : ℕ). AllByRecursion (λ e. m < e.0) (served_by w 1 places)) (λ (m : ℕ). m < number) (λ (m : ℕ). AllByRecursion (λ e. m < e.0) (served_by w 1 (set places (number - 1) (Some one)))) rest
          (λ m a below. subst (λ (l : Numbered). AllByRecursion (λ e. m < e.0) l) (sym put) (below, a)) above.0 rising.1;
      mine = ap (λ (l : Numbered). zip rest more ++ l) put ∙ sym (append_assoc (zip rest more) ((number, o) ∷ []) (served_by w 1 places))
          ∙ ap (λ (l : Numbered). l ++ served_by w 1 places) (sym (zip-push rest more number o alike) ∙ sym (ap (λ (l : List ℕ). zip l (more ++ o ∷ [])) is_numbers) ∙ sym (ap (zip numbers) is_os)) ∙ p.mine;
      others = λ other differs. other_set places (number - 1) 1 other one differs free.1.0.1 ∙ p.others other differs;
      workers = λ low high less most all. by_set places (number - 1) low high one less most (p.workers low high less most all);
    }

-- the place of the last number
pub last_place : (served : Numbered) (start places : Places) (w number : ℕ) (numbers rest : List ℕ) (os : List Outcome) → numbers ≡ rest ++ number ∷ [] → Placing served start w numbers os places → (0 < number) × (number - 1 < length places)
last_place served start places w number numbers rest os is p =
    let free = (all_parts (IsFree places) rest (number ∷ []) (subst (AllByRecursion (IsFree places)) is p.free)).1.0 in (free.0, slice_get_within places (number - 1) None free.1)

-- ---- what stands in a place

place_in : (places : Places) (i n : ℕ) (o : FedOutcome) → slice_get places i ≡ Some (Some o) → In (n + i, o.outcome) (served_by o.worker n places)
place_in [] i n o e = absurd cc
place_in (p ∷ places) zero n o e =
    let same : p ≡ Some o = cc in
    let at : n ≡ n + 0 = omega arith in
    subst (λ (q : Option FedOutcome). In (n + 0, o.outcome) (served_by o.worker n (q ∷ places))) (sym same)
    (subst (λ (b : Bool). In (n + 0, o.outcome) (cond b ((n, o.outcome) ∷ served_by o.worker (n + 1) places) (served_by o.worker (n + 1) places))) (sym (eq-eqb o.worker o.worker refl)) (inl (ap (λ (k : ℕ). (k, o.outcome)) at)))
place_in (None ∷ places) (suc i) n o e =
    let at : n + 1 + i ≡ n + suc i = omega arith in subst (λ (k : ℕ). In (k, o.outcome) (served_by o.worker (n + 1) places)) at (place_in places i (n + 1) o e)
place_in (Some q ∷ places) (suc i) n o e =
    let at : n + 1 + i ≡ n + suc i = omega arith in by_test (eqb q.worker o.worker) (subst (λ (k : ℕ). In (k, o.outcome) (served_by o.worker (n + 1) places)) at (place_in places i (n + 1) o e))
  where
    by_test : (b : Bool) → In (n + suc i, o.outcome) (served_by o.worker (n + 1) places) → In (n + suc i, o.outcome) (cond b ((n, q.outcome) ∷ served_by o.worker (n + 1) places) (served_by o.worker (n + 1) places))
    by_test true more = inr more
    by_test false more = more

-- what was served stands in some place
record StandsAt (places : Places) (n : ℕ) (e : ℕ × Outcome) : Type 0 where
  index : ℕ
  outcome : FedOutcome
  there : slice_get places index ≡ Some (Some outcome)
  number : e.0 ≡ n + index

stands_further : (p : Option FedOutcome) (places : Places) (n : ℕ) (e : ℕ × Outcome) → StandsAt places (n + 1) e → StandsAt (p ∷ places) n e
stands_further p places n e s = record { index = suc s.index; outcome = s.outcome; there = s.there; number = (let k = s.number in omega (arith, k)) }

served_at : (places : Places) (n w : ℕ) (e : ℕ × Outcome) → In e (served_by w n places) → StandsAt places n e
served_at [] n w e i = absurd i
served_at (None ∷ places) n w e i = stands_further None places n e (served_at places (n + 1) w e i)
served_at (Some o ∷ places) n w e i = by_test (λ more. served_at places (n + 1) w e more) (eqb o.worker w) i
  where
    by_test : (In e (served_by w (n + 1) places) → StandsAt places (n + 1) e) → (b : Bool) → In e (cond b ((n, o.outcome) ∷ served_by w (n + 1) places) (served_by w (n + 1) places)) → StandsAt (Some o ∷ places) n e
    by_test more true (inl same) = record { index = 0; outcome = o; there = refl; number = (let k = ap (λ (x : ℕ × Outcome). x.0) same in omega (arith, k)) }
    by_test more true (inr further) = stands_further (Some o) places n e (more further)
    by_test more false further = stands_further (Some o) places n e (more further)

number_in : (numbers : List ℕ) (os : List Outcome) (number : ℕ) (o : Outcome) → In (number, o) (zip numbers os) → In number numbers
number_in [] os number o i = absurd i
number_in (n ∷ numbers) [] number o i = absurd i
number_in (n ∷ numbers) (p ∷ os) number o (inl e) = inl (ap (λ (x : ℕ × Outcome). x.0) e)
number_in (n ∷ numbers) (p ∷ os) number o (inr more) = inr (number_in numbers os number o more)

outcome_in : (numbers : List ℕ) (os : List Outcome) (number : ℕ) → length numbers ≡ length os → In number numbers → (o : Outcome) × In (number, o) (zip numbers os)
outcome_in [] os number alike i = absurd i
outcome_in (n ∷ numbers) [] number alike i = absurd (omega arith)
outcome_in (n ∷ numbers) (p ∷ os) number alike (inl e) = (p, inl (ap (λ (k : ℕ). (k, p)) e))
outcome_in (n ∷ numbers) (p ∷ os) number alike (inr more) = let o = outcome_in numbers os number (omega arith) more in (o.0, inr o.1)

-- ---- the workers, from the last one on

record IsAt (w k : ℕ) (served : List Served) (places : Places) : Type 0 where
  one : Served
  there : slice_get served k ≡ Some one
  served_is : served_by (w + k) 1 places ≡ numbered one

placed_at : (w k : ℕ) (served : List Served) (places : Places) → ArePlaced w served places → k < length served → IsAt w k served places
placed_at w k [] places placed lt = absurd (omega arith)
placed_at w zero (v ∷ served) places placed lt = record { one = v; there = refl; served_is = subst (λ (n : ℕ). served_by n 1 places ≡ numbered v) (let e : w ≡ w + 0 = omega arith in e) placed.0 }
placed_at w (suc k) (v ∷ served) places placed lt =
    let more = placed_at (w + 1) k served places placed.1 (omega arith) in
    record { one = more.one; there = more.there; served_is = subst (λ (n : ℕ). served_by n 1 places ≡ numbered more.one) (let e : w + 1 + k ≡ w + suc k = omega arith in e) more.served_is }

placed_same : (w : ℕ) (served : List Served) (old new : Places) → ((v : ℕ) → w ≤ v → served_by v 1 new ≡ served_by v 1 old) → ArePlaced w served old → ArePlaced w served new
placed_same w [] old new same placed = tt
placed_same w (v ∷ served) old new same placed = (same w (omega arith) ∙ placed.0, placed_same (w + 1) served old new (λ u le. same u (omega (arith, le))) placed.1)

at_served : (all : List Served) (k : ℕ) (one : Served) (d : List ℕ) → slice_get all k ≡ Some one → get_or (numbers_served all) k d ≡ one.numbers.items
at_served [] k one d e = absurd cc
at_served (v ∷ all) zero one d e = let same : v ≡ one = cc in ap (λ (x : Served). x.numbers.items) same
at_served (v ∷ all) (suc k) one d e = at_served all k one d e

served_within : (all : List Served) (k : ℕ) (one : Served) → slice_get all k ≡ Some one → k < length (numbers_served all)
served_within [] k one e = absurd cc
served_within (v ∷ all) zero one e = omega arith
served_within (v ∷ all) (suc k) one e = let lt = served_within all k one e in omega arith

all_served : (P : List ℕ → Type 0) (all : List Served) (k : ℕ) (one : Served) → All P (numbers_served all) → slice_get all k ≡ Some one → P one.numbers.items
all_served P all k one h e = subst P (at_served all k one one.numbers.items e) (h k one.numbers.items (served_within all k one e))

get_behind : (front back : List Served) (k : ℕ) → slice_get (front ++ back) (length front + k) ≡ slice_get back k
get_behind [] back k = ap (slice_get back) (let e : 0 + k ≡ k = omega arith in e)
get_behind (v ∷ front) back k = ap (slice_get (v ∷ (front ++ back))) (let e : suc (length front) + k ≡ suc (length front + k) = omega arith in e) ∙ get_behind front back k

times_in : (number : ℕ) (list : List ℕ) → times number list ≡ 1 → In number list
times_in number [] one = absurd cc
times_in number (x ∷ list) one = by_test (λ more. times_in number list more) (eqb x number) refl
  where
    by_test : (times number list ≡ 1 → In number list) → (b : Bool) → eqb x number ≡ b → In number (x ∷ list)
    by_test more true e = inl (eqb-true x number e)
    by_test more false e = inr (more (let none = ap {B = ℕ} (λ (b : Bool). cond b 1 0) e in omega (arith, one, none, sum_by-cons (λ (y : ℕ). cond (eqb y number) 1 0) x list)))

-- What is left of the workers' outcomes, while those of the last workers are in their places.
pub record Ordering (all : List Served) (end : ℕ) (left : List Served) (places : Places) : Type 0 where
  pub done : List Served
  pub all_are : all ≡ left ++ done
  pub long : length places ≡ end - 1
  pub placed : ArePlaced (length left + 1) done places
  pub workers : AllByRecursion (IsBy (length left) (length all)) places

nobody : (count low high : ℕ) → AllByRecursion (IsBy low high) (replicate count None)
nobody zero low high = tt
nobody (suc count) low high = (tt, nobody count low high)

many_free : (count : ℕ) → length (replicate {A = Option FedOutcome} count None) ≡ count
many_free zero = refl
many_free (suc count) = ap suc (many_free count)

pub ordering_begins : (all : List Served) (end : ℕ) (places : Places) → places ≡ replicate (end - 1) None → Ordering all end all places
ordering_begins all end places free = record {
  done = [];
  all_are = sym (append-nil all);
  long = ap length free ∙ many_free (end - 1);
  placed = tt;
  workers = subst (AllByRecursion (IsBy (length all) (length all))) (sym free) (nobody (end - 1) (length all) (length all));
}

module _ (all left rest : List Served) (end : ℕ) (one : Served) (places : Places) (is : left ≡ rest ++ one ∷ []) (taken : AreTaken end (numbers_served all)) (alike : AllByRecursion IsServed all) (o : Ordering all end left places) where
  long_left : length left ≡ length rest + 1
  long_left = ap length is ∙ length-append rest (one ∷ [])

  all_is : all ≡ rest ++ (one ∷ o.done)
  all_is = o.all_are ∙ ap (λ (l : List Served). l ++ o.done) is ∙ append_assoc rest (one ∷ []) o.done

  -- the worker of a number of those that are left is this one
  one_there : slice_get all (length rest) ≡ Some one
  one_there = ap (λ (l : List Served). slice_get l (length rest)) all_is ∙ ap (slice_get (rest ++ (one ∷ o.done))) (let e : length rest ≡ length rest + 0 = omega arith in e) ∙ get_behind rest (one ∷ o.done) 0

  pub next_alike : IsServed one
  next_alike = at_place IsServed all (length rest) one alike one_there

  pub next_rising : IsStrictlyIncreasing one.numbers.items
  next_rising = all_served IsStrictlyIncreasing all (length rest) one taken.rising one_there

  pub next_none : served_by (length rest + 1) 1 places ≡ []
  next_none = none_by places 1 (length rest + 1) (length left) (length all) (omega (arith, long_left)) o.workers

  -- a number that another worker has taken
  taken_twice : (number k : ℕ) (other : Served) → slice_get all k ≡ Some other → (k ≡ length rest → ⊥) → (0 < number) × (number < end) → In number one.numbers.items → In number other.numbers.items → ⊥
  taken_twice number k other there differs within mine theirs =
      let s = taken.once number within.0 within.1 in
      let here' : Contains (list_at (numbers_served all) (length rest)) number = subst (λ (l : List ℕ). Contains l number) (sym (at_served all (length rest) one [] one_there)) (in_contains number one.numbers.items mine) in
      let there' : Contains (list_at (numbers_served all) k) number = subst (λ (l : List ℕ). Contains l number) (sym (at_served all k other [] there)) (in_contains number other.numbers.items theirs) in
      let first : length rest ≡ s.list = by_equal (λ differ. s.nowhere_else (length rest) (served_within all (length rest) one one_there) differ here') in
      let second : k ≡ s.list = by_equal (λ differ. s.nowhere_else k (served_within all k other there) differ there') in
      differs (second ∙ sym first)
    where
      by_equal : {a b : ℕ} → ((a ≡ b → ⊥) → ⊥) → a ≡ b
      by_equal {a} {b} h = by_test (eqb a b) refl
        where
          by_test : (t : Bool) → eqb a b ≡ t → a ≡ b
          by_test true e = eqb-true a b e
          by_test false e = absurd (h (λ same. (let yes = eq-eqb a b same in let no : true ≡ false = sym yes ∙ e in cc)))

  free_of : (number : ℕ) → In number one.numbers.items → (0 < number) × (number < end) → (p : Option FedOutcome) → slice_get places (number - 1) ≡ Some p → slice_get places (number - 1) ≡ Some None
  free_of number mine within None e = e
  free_of number mine within (Some outcome) e =
      let at : 1 + (number - 1) ≡ number = omega (arith, within.0) in
      let by = at_place (IsBy (length left) (length all)) places (number - 1) (Some outcome) o.workers e in
      let whole = ap length o.all_are ∙ length-append left o.done in
      let k = outcome.worker - (length left + 1) in
      let index : length left + 1 + k ≡ outcome.worker = omega (arith, by.0) in
      let is_at = placed_at (length left + 1) k o.done places o.placed (omega (arith, by.0, by.1, whole)) in
      let inside : In (number, outcome.outcome) (served_by outcome.worker 1 places) = subst (λ (n : ℕ). In (n, outcome.outcome) (served_by outcome.worker 1 places)) at (place_in places (number - 1) 1 outcome e) in
      let theirs : In (number, outcome.outcome) (numbered is_at.one) = subst (In (number, outcome.outcome)) (subst (λ (n : ℕ). served_by n 1 places ≡ numbered is_at.one) index is_at.served_is) inside in
      let there' : slice_get all (length left + k) ≡ Some is_at.one = ap (λ (l : List Served). slice_get l (length left + k)) o.all_are ∙ get_behind left o.done k ∙ is_at.there in
      absurd (taken_twice number (length left + k) is_at.one there' (λ same. absurd (omega (arith, same, long_left))) within mine (number_in is_at.one.numbers.items is_at.one.outcomes.list.items number outcome.outcome theirs))

  some_place : (ps : Places) (i : ℕ) → i < length ps → (p : Option FedOutcome) × (slice_get ps i ≡ Some p)
  some_place [] i lt = absurd (omega arith)
  some_place (p ∷ ps) zero lt = (p, refl)
  some_place (p ∷ ps) (suc i) lt = some_place ps i (omega arith)

  all_within : (numbers : List ℕ) → All (λ number. (0 < number) × (number < end)) numbers → AllByRecursion (λ number. (0 < number) × (number < end)) numbers
  all_within [] h = tt
  all_within (n ∷ numbers) h = (h 0 n (omega arith), all_within numbers (λ i d l. h (suc i) d (omega arith)))

  in_all : (P : ℕ → Type 0) (numbers : List ℕ) (number : ℕ) → AllByRecursion P numbers → In number numbers → P number
  in_all P [] number all' i = absurd i
  in_all P (n ∷ numbers) number all' (inl e) = subst P e all'.0
  in_all P (n ∷ numbers) number all' (inr more) = in_all P numbers number all'.1 more

  pub next_free : AllByRecursion (IsFree places) one.numbers.items
  next_free = each_in (IsFree places) one.numbers.items (λ number mine.
      let within = in_all (λ n. (0 < n) × (n < end)) one.numbers.items number (all_within one.numbers.items (all_served (All (λ n. (0 < n) × (n < end))) all (length rest) one taken.below one_there)) mine in
      let long = o.long in
      let place = some_place places (number - 1) (omega (arith, within.0, within.1, long)) in
      (within.0, free_of number mine within place.0 place.1))

  pub ordering_next : (new : Places) → length new ≡ length places → served_by (length rest + 1) 1 new ≡ numbered one → ((other : ℕ) → (other ≡ length rest + 1 → ⊥) → served_by other 1 new ≡ served_by other 1 places)
      → ((low high : ℕ) → low < length rest + 1 → length rest + 1 ≤ high → AllByRecursion (IsBy low high) places → AllByRecursion (IsBy low high) new) → Ordering all end rest new
  ordering_next new long mine others workers =
      let whole = ap length all_is ∙ length-append rest (one ∷ o.done) in
      record {
        done = one ∷ o.done;
        all_are = all_is;
        long = long ∙ o.long;
        placed = (
          mine,
          placed_same (length rest + 1 + 1) o.done places new (λ v le. others v (λ e. absurd (omega (arith, e, le))))
              (subst (λ (n : ℕ). ArePlaced n o.done places) (let e : length left + 1 ≡ length rest + 1 + 1 = omega (arith, long_left) in e) o.placed),
        );
        workers = workers (length rest) (length all) (omega arith) (omega (arith, whole))
            (all_weaker (IsBy (length left) (length all)) (IsBy (length rest) (length all)) places (λ p by. wider p by) o.workers);
      }
    where
      wider : (p : Option FedOutcome) → IsBy (length left) (length all) p → IsBy (length rest) (length all) p
      wider None by = tt
      wider (Some q) by = (omega (arith, by.0, long_left), by.1)

-- ---- all are in their places

apart : {A : Type 0} (x : A) → Some (Some x) ≡ Some None → ⊥
apart x e = cc

each_some : (places : Places) → ((i : ℕ) → slice_get places i ≡ Some None → ⊥) → AllByRecursion IsSome places
each_some [] h = tt
each_some (None ∷ places) h = absurd (h 0 refl)
each_some (Some o ∷ places) h = (refl, each_some places (λ i. h (suc i)))

module _ (all : List Served) (end : ℕ) (places : Places) (some : 0 < end) (taken : AreTaken end (numbers_served all)) (alike : AllByRecursion IsServed all) (o : Ordering all end [] places) where
  pub ordering_placed : ArePlaced 1 all places
  ordering_placed = subst (λ (l : List Served). ArePlaced 1 l places) (sym o.all_are) o.placed

  pub ordering_workers : AllByRecursion (IsBy 0 (length all)) places
  ordering_workers = o.workers

  never_free : (i : ℕ) → slice_get places i ≡ Some None → ⊥
  never_free i free =
      let inside = slice_get_within places i None free in
      let long = o.long in
      let s = taken.once (i + 1) (omega arith) (omega (arith, inside, long)) in
      let place = placed_at 1 s.list all places ordering_placed (by_length all s.list s.there) in
      let mine : In (i + 1) place.one.numbers.items = subst (In (i + 1)) (at_served all s.list place.one [] place.there) (times_in (i + 1) (list_at (numbers_served all) s.list) s.once) in
      let served = outcome_in place.one.numbers.items place.one.outcomes.list.items (i + 1) (at_place IsServed all s.list place.one alike place.there) mine in
      let at = served_at places 1 (1 + s.list) (i + 1, served.0) (subst (In (i + 1, served.0)) (sym place.served_is) served.1) in
      let number = at.number in
      let same : at.index ≡ i = omega (arith, number) in
      let there' : slice_get places i ≡ Some (Some at.outcome) = subst (λ (k : ℕ). slice_get places k ≡ Some (Some at.outcome)) same at.there in
      apart at.outcome (sym there' ∙ free)
    where
      by_length : (ws : List Served) (k : ℕ) → k < length (numbers_served ws) → k < length ws
      by_length [] k lt = lt
      by_length (w ∷ ws) zero lt = omega arith
      by_length (w ∷ ws) (suc k) lt = let more = by_length ws k (omega arith) in omega arith

  pub ordering_full : AllByRecursion IsSome places
  ordering_full = each_some places never_free

  pub ordered : {E : Type 0} (r : Result (Vec FedOutcome Global) E) → IfOk r (λ fed. map Some fed.items ≡ places) → IfOk r (λ fed. AreInOrder (end - 1) all fed.items)
  ordered (Ok fed) is = record {
    many = sym (length-map fed.items Some) ∙ ap length is ∙ o.long;
    placed = subst (λ (l : Places). ArePlaced 1 all l) (sym is) ordering_placed;
    by_workers = subst (AllByRecursion (IsBy 0 (length all))) (sym is) ordering_workers;
  }
  ordered (Err e) is = tt
