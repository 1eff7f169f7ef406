-- What the parts of all seats tell of their lists.
use Rattle.std.proofs.Common.{◌≡◌, ◌≢◌, ℕ, zero, suc, true, cond, ◌+◌, ◌<◌, ◌≤◌, ⊎_elim, List, [], ◌∷◌, length, get_or, sym, refl, ap, ◌∙◌, subst, arith}
use Rattle.std.specs.List.{All, Any, Contains, sum_by}
use Rattle.std.specs.List.Sorted.{IsStrictlyIncreasing}
use Rattle.std.proofs.lemmas.List.Sums.{sum_by-cons, get_or-le-sum_by}
use Rattle.std.proofs.lemmas.List.Folds.{fold-map}
use Rattle.std.proofs.lemmas.Bool.{cases_lt}
use Rattle.std.proofs.lemmas.List.Elements.{All-cons, All-head, All-map}
use Rattle.crossbeam_queue.specs.Passes.{Pass, view, IsSamePass}
use Rattle.feed_core.specs.declared.knowledge.Knowledge.{Knowledge}
use Rattle.feed_core.specs.Knowledge.{joined}
use Rattle.feed_core.specs.Rule.{times, once_below}
use Rattle.feed_core.specs.Steps.{KnowsAll}
use Rattle.feed_core.specs.Feeds.{Handout, Takings, lists_of, list_at, IsGathered, StandsOnce}
use Rattle.feed_core.proofs.Lists.{times_at, times-append, once_below_within, once_below_here}

not_there : (list : List ℕ) (number : ℕ) → times number list ≡ 0 → ¬ Contains list number
not_there list number none there =
    let at = times_at list there.0 number there.1 in
    let n : 1 ≤ times number list = subst (λ (n : ℕ). 1 ≤ times n list) there.2 at in
    omega arith

-- of lists in which a number stands once in all, one has it, and no other
record OfOne (number : ℕ) (lists : List (List ℕ)) : Type 0 where
  at : ℕ
  there : at < length lists
  once : times number (get_or lists at []) ≡ 1
  others : (other : ℕ) → other < length lists → other ≢ at → times number (get_or lists other []) ≡ 0

first_of_one : (number : ℕ) (list : List ℕ) (lists : List (List ℕ)) → times number list + sum_by (times number) lists ≡ 1 → 0 < times number list → OfOne number (list ∷ lists)
first_of_one number list lists one some = record { at = 0; there = omega arith; once = omega arith; others = none_later }
  where
    none_later : (other : ℕ) → other < length (list ∷ lists) → other ≢ 0 → times number (get_or (list ∷ lists) other []) ≡ 0
    none_later zero within apart = absurd (apart refl)
    none_later (suc other) within apart = let part = get_or-le-sum_by (times number) lists other [] (omega arith) in omega arith

later_of_one : (number : ℕ) (list : List ℕ) (lists : List (List ℕ)) → times number list ≡ 0 → OfOne number lists → OfOne number (list ∷ lists)
later_of_one number list lists none found = record { at = suc found.at; there = let there = found.there in omega arith; once = found.once; others = others }
  where
    others : (other : ℕ) → other < length (list ∷ lists) → other ≢ suc found.at → times number (get_or (list ∷ lists) other []) ≡ 0
    others zero within apart = none
    others (suc other) within apart = found.others other (omega arith) (λ e. apart (ap suc e))

of_one : (number : ℕ) (lists : List (List ℕ)) → sum_by (times number) lists ≡ 1 → OfOne number lists
of_one number [] one = absurd (omega arith)
of_one number (list ∷ lists) one =
    let all : times number list + sum_by (times number) lists ≡ 1 = sym (sum_by-cons (times number) list lists) ∙ one in
    ⊎_elim (first_of_one number list lists all) (λ (none : times number list ≤ 0). later_of_one number list lists (omega arith) (of_one number lists (omega arith))) (cases_lt 0 (times number list))

module _ (lists : List (List ℕ)) (answer : ℕ) (all : (number : ℕ) → sum_by (times number) lists ≡ once_below answer number) where
  pub stands_once : (number : ℕ) → 0 < number → number < answer → StandsOnce lists number
  stands_once number some below =
      let found = of_one number lists (all number ∙ once_below_here answer number some below) in record {
        list = found.at;
        there = found.there;
        once = found.once;
        nowhere_else = λ other within apart. not_there (list_at lists other) number (found.others other within apart);
      }

  pub all_below : All (All (λ number. (0 < number) × (number < answer))) lists
  all_below k d there k' d' within =
      let list = get_or lists k d in
      let number = get_or list k' d' in
      let stands = times_at list k' d' within in
      let part = get_or-le-sum_by (times number) lists k d there in
      let seen = all number in
      once_below_within answer number (omega arith)

-- who has gathered all parts knows of all lists
pub all_taken : (feed : Handout) (seats : List Takings) (whole : Pass ℕ Knowledge) (next : ℕ) → IsGathered feed seats whole → length seats ≡ feed.seats → KnowsAll (view whole) next
    → (number : ℕ) → sum_by (times number) (lists_of seats) ≡ once_below next number
all_taken feed seats whole next g long knows number =
    fold-map (λ a list. a + times number list) (λ (s : Takings). s.taken) 0 seats ∙ sym (g.taken number) ∙ knows (g.parts ∙ long ∙ sym g.whole) number

-- the same where no number is left, so that the count is below the next one
pub whole_count_taken : (feed : Handout) (seats : List Takings) (whole : Pass ℕ Knowledge) (count : ℕ) → IsGathered feed seats whole → length seats ≡ feed.seats → feed.count ≡ count → KnowsAll (view whole) ((view whole).put + 1)
    → (number : ℕ) → sum_by (times number) (lists_of seats) ≡ once_below (count + 1) number
whole_count_taken feed seats whole count g long same knows = all_taken feed seats whole (count + 1) g long (subst (λ (put : ℕ). KnowsAll (view whole) (put + 1)) (g.put ∙ same) knows)

pub all_rising : (seats : List Takings) → All (λ s. IsStrictlyIncreasing s.taken) seats → All IsStrictlyIncreasing (lists_of seats)
all_rising seats rising = All-map IsStrictlyIncreasing (λ (s : Takings). s.taken) seats rising

abbrev one_if_done : Takings → ℕ
one_if_done s = cond s.done 1 0

-- where none of the seats has had its end mark, none was told that no number is left
pub none_done : (seats : List Takings) → sum_by one_if_done seats ≡ 0 → Any (λ s. s.done ≡ true) seats → ⊥
none_done seats none (k, s, there, is, done) =
    let part = get_or-le-sum_by one_if_done seats k s there in
    let one : one_if_done (get_or seats k s) ≡ 1 = ap one_if_done is ∙ ap {B = ℕ} (λ b. cond b 1 0) done in
    omega arith

-- one seat's pass more
pub gathers : (feed : Handout) (out : List Takings) (s : Takings) (whole pass new : Pass ℕ Knowledge) → IsGathered feed out whole → IsGathered s.feed (s ∷ []) pass → s.feed ≡ feed
    → IsSamePass whole new → view new ≡ joined (view whole) (view pass) → IsGathered feed (s ∷ out) new
gathers feed out s whole pass new g one is same after = record {
  table = same.0 ∙ g.table;
  no_slots = same.2 ∙ g.no_slots;
  parts = let both = ap (λ v. v.parts) after in let p = g.parts in let q = one.parts in omega arith;
  whole = ap (λ v. v.whole) after ∙ g.whole;
  put = ap (λ v. v.put) after ∙ g.put;
  filled = ap (λ v. v.fills) after;
  taken = λ number.
      let both = ap (λ v. times number v.taken) after in
      let p = g.taken number in
      let q = one.taken number in
      omega (arith, times-append number (view whole).taken (view pass).taken, sum_by-cons (λ (t : Takings). times number t.taken) s out, sum_by-cons (λ (t : Takings). times number t.taken) s []);
  marked = ap (λ v. v.marks) after ∙ g.marked ∙ sym (ap (λ v. v.whole) after);
  ended =
      let both = ap (λ v. v.ends) after in
      let p = g.ended in
      let q = one.ended in
      omega (arith, sum_by-cons one_if_done s out, sum_by-cons one_if_done s []);
  rising = All-cons (λ (t : Takings). IsStrictlyIncreasing t.taken) s out (All-head (λ (t : Takings). IsStrictlyIncreasing t.taken) s [] one.rising) g.rising;
}
