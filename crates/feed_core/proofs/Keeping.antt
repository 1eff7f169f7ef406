-- Each step keeps the rule.
use Rattle.std.proofs.Common.{◌≡◌, ◌≢◌, ⊎_elim, ℕ, zero, suc, ◌+◌, ◌<◌, ◌≤◌, ◌⊎◌, true, false, cond, eqb, true≢false, List, [], ◌∷◌, ◌++◌, length, get_or, set, append_assoc, replicate, length-append, sym, refl, ap, ◌∙◌, subst, arith}
use Rattle.std.specs.Bool.{MatchBool}
use Rattle.std.specs.List.{All, sum_by, range_with_len}
use Rattle.std.proofs.lemmas.List.{append-nil, length-replicate}
use Rattle.std.proofs.lemmas.List.Elements.{All-nil, All-cons, All-push}
use Rattle.std.proofs.lemmas.List.FromFn.{length-range_with_len}
use Rattle.std.proofs.lemmas.List.Sums.{sum_by_push}
use Rattle.std.proofs.lemmas.Bool.{cases_lt}
use Rattle.std.proofs.lemmas.Bool.Decides.{nat_tests}
use mathlib.Core.Option.{some}
use lib.ListN.{get_elem?}
use Rattle.crossbeam_queue.specs.Fifo.{Pushes, Pops, Forks, Merges, Learns}
use Rattle.feed_core.specs.declared.knowledge.TheConstants.{END}
use Rattle.feed_core.specs.declared.knowledge.Knowledge.{Knowledge}
use Rattle.feed_core.specs.Knowledge.{alone, nobody, grown, giver_of, taker_of, joined, with_put, with_mark, with_taken, ended}
use Rattle.feed_core.specs.Rule.{times, once_below, Knows, Fits, IsHandedOut}
use Rattle.feed_core.specs.Steps.{KnowsAll, TakesNumber, TakesMark, takes, puts_number, holds_all, puts_mark, leaves_none}
use Rattle.crossbeam_queue.proofs.Lists.{at_set, set_else}
use Rattle.feed_core.proofs.Seats.{each, from_each, all_set, sum_set, part_of_sum, two_parts_of_sum, sum_of_one, squeezed}
use Rattle.feed_core.proofs.Lists.{times-push, times-append, times_at, once_below_first, once_below_more, once_below_within, range_more, replicate_more}

abbrev parts_of : Knowledge → ℕ
parts_of v = v.parts

abbrev ends_of : Knowledge → ℕ
ends_of v = v.ends

-- a seat's facts, and how the numbers stand before and after its step
module _ (views : List Knowledge) (id : ℕ) (v : Knowledge) (gone left marks whole total : ℕ) (at : get_elem? views id ≡ some v) (parts : sum_by parts_of views ≡ whole)
    (seats : All (Fits gone left marks whole total) views) where
  abbrev Here : Knowledge → Type 0
  Here = Fits gone left marks whole total

  mine : Here v
  mine = each Here views id v seats at

  -- another seat that has a part has less than all, if this one has some
  apart : (j : ℕ) (u : Knowledge) → j ≢ id → get_elem? views j ≡ some u → u.parts + v.parts ≤ whole
  apart j u other there = omega (arith, two_parts_of_sum parts_of views id j v u other at there)

  -- all fit after the step, if this seat does, and if each other one that has a part knows what is so then
  after_step : (gone' left' marks' whole' total' : ℕ) (w : Knowledge) → Fits gone' left' marks' whole' total' w
      → ((u : Knowledge) → u.parts + v.parts ≤ whole → 0 < u.parts → Knows gone left marks whole total u → Knows gone' left' marks' whole' total' u)
      → All (Fits gone' left' marks' whole' total') (set views id w)
  after_step gone' left' marks' whole' total' w fits others = all_set (Fits gone' left' marks' whole' total') views id w fits
      (λ j u other there. let was = each Here views j u seats there in record { idle = was.idle; few = was.few; knows = λ part. others u (apart j u other there) part (was.knows part) })

  -- who has all parts took all numbers that are gone
  knows_all : ((number : ℕ) → sum_by (λ u. times number u.taken) views ≡ once_below (gone + 1) number) → 0 < v.parts → KnowsAll v (gone + 1)
  knows_all once part all number =
      sym (sum_of_one parts_of (λ u. times number u.taken) views id v at (parts ∙ sym ((mine.knows part).whole_is) ∙ sym all)
      (from_each (λ u. u.parts ≡ 0 → times number u.taken ≡ 0) views (λ j u there none. ap (times number) ((each Here views j u seats there).idle none))))
      ∙ once number

  -- the numbers that a seat took are gone
  taken_gone : ((number : ℕ) → sum_by (λ u. times number u.taken) views ≡ once_below (gone + 1) number) → All (λ before. (0 < before) × (before < gone + 1)) v.taken
  taken_gone once k d there =
      let number = get_or v.taken k d in
      let stands = times_at v.taken k d there in
      let part = part_of_sum (λ u. times number u.taken) views id v at in
      let seen = once number in
      once_below_within (gone + 1) number (omega arith)

pub begins : IsHandedOut [] (alone 1 0 0 ∷ [])
begins = record {
  gone = 0;
  left = 0;
  marks = 0;
  whole = 1;
  total = 0;
  queued = refl;
  once = λ number. sym (once_below_first number);
  parts = refl;
  ends = refl;
  seats = All-cons (Fits 0 0 0 1 0) (alone 1 0 0) [] (record { idle = λ _. refl; few = omega arith; knows = λ _. record { whole_is = refl; put_is = refl; marks_is = refl; ended = λ e. absurd (omega arith); filling = λ _. (refl, refl, refl) } }) (All-nil (Fits 0 0 0 1 0));
}

-- who may still put numbers is alone, so all that is known of others is that they have no part
pub puts_keep : (n id : ℕ) (v : Knowledge) (number : ℕ) → 0 < v.parts → v.fills ≡ true → v.ends ≡ 0 → v.marks ≡ 0 → number ≡ v.put + 1 → Pushes IsHandedOut n id v number (puts_number v number)
puts_keep n id v number part filling not_done unmarked is items views _ r at =
    let w = with_put v in
    let knows = (mine views id v r.gone r.left r.marks r.whole r.total at r.parts r.seats).knows part in
    let none = knows.filling filling in
    let no_marks : r.marks ≡ 0 = (let here = none.2 in let all = knows.marks_is in omega arith) in (
      w,
      record {
        gone = r.gone;
        left = suc r.left;
        marks = r.marks;
        whole = r.whole;
        total = r.total;
        queued =
            ap (λ l. l ++ number ∷ []) (r.queued ∙ ap (λ m. range_with_len (r.gone + 1) r.left ++ replicate m END) no_marks ∙ append-nil (range_with_len (r.gone + 1) r.left))
            ∙ ap (λ k. range_with_len (r.gone + 1) r.left ++ k ∷ []) (let put = knows.put_is in let e : number ≡ (r.gone + 1) + r.left = omega arith in e)
            ∙ sym (range_more (r.gone + 1) r.left)
            ∙ sym (append-nil (range_with_len (r.gone + 1) (suc r.left)))
            ∙ sym (ap (λ m. range_with_len (r.gone + 1) (suc r.left) ++ replicate m END) no_marks);
        once = λ k. let moved = sum_set (λ u. times k u.taken) views id v w at in let was = r.once k in omega arith;
        parts = let moved = sum_set parts_of views id v w at in let was = r.parts in omega arith;
        ends = let moved = sum_set ends_of views id v w at in let was = r.ends in omega arith;
        seats = after_step views id v r.gone r.left r.marks r.whole r.total at r.parts r.seats r.gone (suc r.left) r.marks r.whole r.total w
            (record {
              idle = (mine views id v r.gone r.left r.marks r.whole r.total at r.parts r.seats).idle;
              few = (mine views id v r.gone r.left r.marks r.whole r.total at r.parts r.seats).few;
              knows = λ _. record { whole_is = knows.whole_is; put_is = let was = knows.put_is in omega arith; marks_is = knows.marks_is; ended = λ e. absurd (omega arith); filling = λ _. none };
            })
            (λ u few some _. let all = none.0 in absurd (omega arith));
      },
      refl,
    )

pub puts_learn : (id : ℕ) (v : Knowledge) → 0 < v.parts → v.fills ≡ true → Learns IsHandedOut id v (holds_all v)
puts_learn id v part filling items views r at =
    let knows = (mine views id v r.gone r.left r.marks r.whole r.total at r.parts r.seats).knows part in
    let none = knows.filling filling in
    let long = ap length r.queued in
    let put = knows.put_is in
    let gone = none.1 in
    let here = none.2 in
    let all = knows.marks_is in
    omega (arith, length-append (range_with_len (r.gone + 1) r.left) (replicate r.marks END), length-range_with_len (r.gone + 1) r.left, length-replicate r.marks END)

-- an end mark more, by who is alone
pub marks_keep : (n id : ℕ) (v : Knowledge) → 0 < v.parts → v.fills ≡ true → v.ends ≡ 0 → Pushes IsHandedOut n id v END (puts_mark v END)
marks_keep n id v part filling not_done items views _ r at =
    let w = with_mark v in
    let here = mine views id v r.gone r.left r.marks r.whole r.total at r.parts r.seats in
    let knows = here.knows part in
    let none = knows.filling filling in (
      w,
      record {
        gone = r.gone;
        left = r.left;
        marks = suc r.marks;
        whole = r.whole;
        total = suc r.total;
        queued = ap (λ l. l ++ END ∷ []) r.queued ∙ append_assoc (range_with_len (r.gone + 1) r.left) (replicate r.marks END) (END ∷ []) ∙ ap (λ l. range_with_len (r.gone + 1) r.left ++ l) (replicate_more r.marks END);
        once = λ k. let moved = sum_set (λ u. times k u.taken) views id v w at in let was = r.once k in omega arith;
        parts = let moved = sum_set parts_of views id v w at in let was = r.parts in omega arith;
        ends = let moved = sum_set ends_of views id v w at in let was = r.ends in omega arith;
        seats = after_step views id v r.gone r.left r.marks r.whole r.total at r.parts r.seats r.gone r.left (suc r.marks) r.whole (suc r.total) w
            (record {
              idle = here.idle;
              few = here.few;
              knows = λ _. record { whole_is = knows.whole_is; put_is = knows.put_is; marks_is = let was = knows.marks_is in omega arith; ended = λ e. absurd (omega arith); filling = λ _. (none.0, none.1, let same = none.2 in omega arith) };
            })
            (λ u few some _. let all = none.0 in absurd (omega arith));
      },
      refl,
    )

pub grows_keep : (id : ℕ) (v : Knowledge) → 0 < v.parts → v.fills ≡ true → Forks IsHandedOut id v (grown v) nobody
grows_keep id v part filling items views r at =
    let here = mine views id v r.gone r.left r.marks r.whole r.total at r.parts r.seats in
    let knows = here.knows part in
    let none = knows.filling filling in
    let w = grown v in
    let vs = set views id w in record {
      gone = r.gone;
      left = r.left;
      marks = r.marks;
      whole = r.whole + 1;
      total = r.total;
      queued = r.queued;
      once = λ k. let moved = sum_set (λ u. times k u.taken) views id v w at in let was = r.once k in omega (arith, sum_by_push (λ u. times k u.taken) vs nobody);
      parts = let moved = sum_set parts_of views id v w at in let was = r.parts in omega (arith, sum_by_push parts_of vs nobody);
      ends = let moved = sum_set ends_of views id v w at in let was = r.ends in omega (arith, sum_by_push ends_of vs nobody);
      seats = All-push (Fits r.gone r.left r.marks (r.whole + 1) r.total) vs nobody
          (after_step views id v r.gone r.left r.marks r.whole r.total at r.parts r.seats r.gone r.left r.marks (r.whole + 1) r.total w
          (record {
            idle = λ e. absurd (omega arith);
            few = let was = here.few in omega arith;
            knows = λ _. record { whole_is = let was = knows.whole_is in omega arith; put_is = knows.put_is; marks_is = knows.marks_is; ended = knows.ended; filling = λ _. (let all = none.0 in omega arith, none.1, none.2) };
          })
          (λ u few some _. let all = none.0 in absurd (omega arith)))
          nobody_fits;
    }
  where
    nobody_fits : Fits r.gone r.left r.marks (r.whole + 1) r.total nobody
    nobody_fits = record { idle = λ _. refl; few = omega arith; knows = λ some. absurd (omega arith) }

pub deals_keep : (id : ℕ) (v : Knowledge) → 0 < v.parts → v.taken ≡ [] → v.ends ≡ 0 → Forks IsHandedOut id v (giver_of v) (taker_of v)
deals_keep id v part nothing not_done items views r at =
    let here = mine views id v r.gone r.left r.marks r.whole r.total at r.parts r.seats in
    let knows = here.knows part in
    let w = giver_of v in
    let vs = set views id w in record {
      gone = r.gone;
      left = r.left;
      marks = r.marks;
      whole = r.whole;
      total = r.total;
      queued = r.queued;
      once = λ k. let moved = sum_set (λ u. times k u.taken) views id v w at in let was = r.once k in omega (arith, sum_by_push (λ u. times k u.taken) vs (taker_of v));
      parts = let moved = sum_set parts_of views id v w at in let was = r.parts in omega (arith, sum_by_push parts_of vs (taker_of v));
      ends = let moved = sum_set ends_of views id v w at in let was = r.ends in omega (arith, sum_by_push ends_of vs (taker_of v));
      seats = All-push (Fits r.gone r.left r.marks r.whole r.total) vs (taker_of v)
          (after_step views id v r.gone r.left r.marks r.whole r.total at r.parts r.seats r.gone r.left r.marks r.whole r.total w
          (record { idle = λ _. nothing; few = omega arith; knows = λ _. record { whole_is = knows.whole_is; put_is = knows.put_is; marks_is = knows.marks_is; ended = knows.ended; filling = λ e. absurd (true≢false (sym e)) } })
          (λ u few some k. k))
          (record {
            idle = λ _. refl;
            few = omega arith;
            knows = λ _. record { whole_is = knows.whole_is; put_is = knows.put_is; marks_is = knows.marks_is; ended = λ e. absurd (omega arith); filling = λ e. absurd (true≢false (sym e)) };
          });
    }

either_some : {P : Type 0} (a b : ℕ) → (0 < a → P) → (0 < b → P) → 0 < a + b → P
either_some a b left right any = ⊎_elim left (λ (none : a ≤ 0). right (omega arith)) (cases_lt 0 a)

pub joins_keep : (id : ℕ) (v : Knowledge) (other : ℕ) (u : Knowledge) → 0 < v.parts → 0 < u.parts → Merges IsHandedOut id v other u (joined v u) nobody
joins_keep id v other u part part' items views r at apart' at' =
    let Here : Knowledge → Type 0 = Fits r.gone r.left r.marks r.whole r.total in
    let both = joined v u in
    let vs = set views id both in
    let there : get_elem? views other ≡ some u = sym (set_else views id other both apart') ∙ at' in
    let knows = (each Here views id v r.seats at).knows part in
    let theirs = (each Here views other u r.seats there).knows part' in
    let fits : Here both = record {
      idle = λ e. absurd (omega arith);
      few = let mine' = (each Here views id v r.seats at).few in let theirs' = (each Here views other u r.seats there).few in omega arith;
      knows = λ _. record { whole_is = knows.whole_is; put_is = knows.put_is; marks_is = knows.marks_is; ended = either_some v.ends u.ends knows.ended theirs.ended; filling = λ e. absurd (true≢false (sym e)) };
    } in record {
      gone = r.gone;
      left = r.left;
      marks = r.marks;
      whole = r.whole;
      total = r.total;
      queued = r.queued;
      once = λ k.
          let first = sum_set (λ x. times k x.taken) views id v both at in
          let second = sum_set (λ x. times k x.taken) vs other u nobody at' in
          let was = r.once k in
          omega (arith, times-append k v.taken u.taken);
      parts = let first = sum_set parts_of views id v both at in let second = sum_set parts_of vs other u nobody at' in let was = r.parts in omega arith;
      ends = let first = sum_set ends_of views id v both at in let second = sum_set ends_of vs other u nobody at' in let was = r.ends in omega arith;
      seats = all_set Here vs other nobody (record { idle = λ _. refl; few = omega arith; knows = λ some'. absurd (omega arith) })
          (λ j x _ stands. ⊎_elim (λ (e : (j ≡ id) × (both ≡ x)). subst Here e.1 fits) (λ (e : (j ≢ id) × (get_elem? views j ≡ some x)). each Here views j x r.seats e.1) (at_set views id j both x stands));
    }

-- a number is above 0, which is the end mark
number_taken : (v : Knowledge) (number : ℕ) (w : Knowledge) → 0 < number → TakesNumber v number w → takes v number w
number_taken v number w above told =
    let number_is : eqb number END ≡ false = grind (arith, nat_tests) in subst (λ b. MatchBool b (TakesMark v w) (TakesNumber v number w)) (sym number_is) told

-- a seat that may take an end mark: it has had fewer than it has parts, or it has all parts
abbrev pub MayEnd : Knowledge → Type 0
MayEnd v = (v.ends < v.parts) ⊎ (v.parts ≡ v.whole)

-- what is so of a seat when the queue has end marks, one of which was put for each part
module _ (views : List Knowledge) (id : ℕ) (v : Knowledge) (gone left marks whole total : ℕ) (at : get_elem? views id ≡ some v) (parts : sum_by parts_of views ≡ whole)
    (ends : marks + sum_by ends_of views ≡ total) (seats : All (Fits gone left marks whole total) views) (part : 0 < v.parts) (marked : v.marks ≡ v.whole) where
  knows_here : Knows gone left marks whole total v
  knows_here = (mine views id v gone left marks whole total at parts seats).knows part

  all_few : All (λ u. u.ends ≤ u.parts) views
  all_few = from_each (λ u. u.ends ≤ u.parts) views (λ j u there. (each (Fits gone left marks whole total) views j u seats there).few)

  -- where one is left, the seat has had fewer than it has parts
  one_more : 0 < marks → MayEnd v → v.ends < v.parts
  one_more any may = ⊎_elim (λ h. h) (λ (all : v.parts ≡ v.whole).
      let whole_is = knows_here.whole_is in
      let marks_is = knows_here.marks_is in
      let mine_all = sum_of_one parts_of ends_of views id v at (parts ∙ sym (all ∙ whole_is)) (from_each (λ u. u.parts ≡ 0 → u.ends ≡ 0) views
      (λ j u there none. let few = (each (Fits gone left marks whole total) views j u seats there).few in omega arith)) in
      omega arith) may

  -- where none is left, the seat has had one for each of its parts
  no_more : marks ≡ 0 → v.parts ≤ v.ends
  no_more none =
      let whole_is = knows_here.whole_is in
      let marks_is = knows_here.marks_is in
      let side = squeezed ends_of parts_of views id v at all_few in
      omega arith

-- by what the queue begins with
takes_first : (id : ℕ) (v : Knowledge) → 0 < v.parts → v.fills ≡ false → v.marks ≡ v.whole → MayEnd v → (x : ℕ) (items : List ℕ) (views : List Knowledge) → get_elem? views id ≡ some v → (gone left marks whole total : ℕ)
    → x ∷ items ≡ range_with_len (gone + 1) left ++ replicate marks END → ((number : ℕ) → sum_by (λ u. times number u.taken) views ≡ once_below (gone + 1) number)
    → sum_by parts_of views ≡ whole → marks + sum_by ends_of views ≡ total → All (Fits gone left marks whole total) views → (w : Knowledge) × IsHandedOut items (set views id w) × takes v x w
takes_first id v part filled marked may x items views at gone (suc left) marks whole total queued once parts ends seats =
    let here = mine views id v gone (suc left) marks whole total at parts seats in
    let knows = here.knows part in
    let x_is : x ≡ gone + 1 = cc in
    let rest : items ≡ range_with_len (gone + 1 + 1) left ++ replicate marks END = cc in
    let w = with_taken v x in
    let not_done : v.ends ≡ 0 = ⊎_elim (λ (e : 0 < v.ends). let none = knows.ended e in absurd (omega arith)) (λ (none : v.ends ≤ 0). omega arith) (cases_lt 0 v.ends) in (
      w,
      record {
        gone = gone + 1;
        left = left;
        marks = marks;
        whole = whole;
        total = total;
        queued = rest;
        once = λ k.
            let moved = sum_set (λ u. times k u.taken) views id v w at in
            let was = once k in
            omega (arith, times-push k x v.taken, once_below_more (gone + 1) k (omega arith), ap {B = ℕ} (λ (y : ℕ). cond (eqb y k) 1 0) x_is);
        parts = let moved = sum_set parts_of views id v w at in omega arith;
        ends = let moved = sum_set ends_of views id v w at in omega arith;
        seats = after_step views id v gone (suc left) marks whole total at parts seats (gone + 1) left marks whole total w
            (record {
              idle = λ e. absurd (omega arith);
              few = here.few;
              knows = λ _. record { whole_is = knows.whole_is; put_is = let was = knows.put_is in omega arith; marks_is = knows.marks_is; ended = λ e. absurd (omega arith); filling = λ e. absurd (true≢false (sym e ∙ filled)) };
            })
            (λ u few some k. record { whole_is = k.whole_is; put_is = let was = k.put_is in omega arith; marks_is = k.marks_is; ended = λ e. let none = k.ended e in absurd (omega arith); filling = λ e. let all = (k.filling e).0 in absurd (omega arith) });
      },
      number_taken v x w (omega arith) (record {
        after = refl;
        above = subst (λ (n : ℕ). All (λ before. (0 < before) × (before < n)) v.taken) (sym x_is) (taken_gone views id v gone (suc left) marks whole total at parts seats once);
        within = (omega arith, let was = knows.put_is in omega arith);
        not_done = not_done;
        all = subst (λ (n : ℕ). KnowsAll v n) (sym x_is) (knows_all views id v gone (suc left) marks whole total at parts seats once part);
      }),
    )
takes_first id v part filled marked may x items views at gone zero (suc marks) whole total queued once parts ends seats =
    let here = mine views id v gone zero (suc marks) whole total at parts seats in
    let knows = here.knows part in
    let x_is : x ≡ END = cc in
    let rest : items ≡ replicate marks END = cc in
    let w = ended v in
    let one = one_more views id v gone zero (suc marks) whole total at parts ends seats part marked (omega arith) may in
    let put : gone + 1 ≡ v.put + 1 = (let was = knows.put_is in omega arith) in (
      w,
      record {
        gone = gone;
        left = zero;
        marks = marks;
        whole = whole;
        total = total;
        queued = rest;
        once = λ k. let moved = sum_set (λ u. times k u.taken) views id v w at in let was = once k in omega arith;
        parts = let moved = sum_set parts_of views id v w at in omega arith;
        ends = let moved = sum_set ends_of views id v w at in omega arith;
        seats = after_step views id v gone zero (suc marks) whole total at parts seats gone zero marks whole total w
            (record { idle = here.idle; few = omega arith; knows = λ _. record { whole_is = knows.whole_is; put_is = knows.put_is; marks_is = knows.marks_is; ended = λ _. refl; filling = λ e. absurd (true≢false (sym e ∙ filled)) } })
            (λ u few some k. record { whole_is = k.whole_is; put_is = k.put_is; marks_is = k.marks_is; ended = λ _. refl; filling = λ e. let all = (k.filling e).0 in absurd (omega arith) });
      },
      subst (λ (n : ℕ). takes v n w) (sym x_is) (record { after = refl; all = subst (λ (n : ℕ). KnowsAll v n) put (knows_all views id v gone zero (suc marks) whole total at parts seats once part) }),
    )
takes_first id v part filled marked may x items views at gone zero zero whole total queued once parts ends seats = absurd (let none : length (x ∷ items) ≡ 0 = ap length queued in omega arith)

pub takes_keep : (id : ℕ) (v : Knowledge) → 0 < v.parts → v.fills ≡ false → v.marks ≡ v.whole → MayEnd v → Pops IsHandedOut id v (takes v)
takes_keep id v part filled marked may x items views r at = takes_first id v part filled marked may x items views at r.gone r.left r.marks r.whole r.total r.queued r.once r.parts r.ends r.seats

-- a queue that was found empty
pub takes_learn : (id : ℕ) (v : Knowledge) → 0 < v.parts → v.marks ≡ v.whole → Learns IsHandedOut id v (leaves_none v)
takes_learn id v part marked items views r at empty =
    let long = ap length r.queued in
    let none : r.left + r.marks ≡ 0 = omega (arith, length-append (range_with_len (r.gone + 1) r.left) (replicate r.marks END), length-range_with_len (r.gone + 1) r.left, length-replicate r.marks END) in
    let knows = (mine views id v r.gone r.left r.marks r.whole r.total at r.parts r.seats).knows part in
    let put : r.gone + 1 ≡ v.put + 1 = (let was = knows.put_is in omega arith) in (
      no_more views id v r.gone r.left r.marks r.whole r.total at r.parts r.ends r.seats part marked (omega arith),
      subst (λ (n : ℕ). KnowsAll v n) put (knows_all views id v r.gone r.left r.marks r.whole r.total at r.parts r.seats r.once part),
    )
