-- What a gate was told of one list, by the worker of each command.
use Rattle.std.proofs.Common.{◌≡◌, ⊎_elim, ℕ, ◌+◌, ◌<◌, ◌≤◌, Bool, true, false, cond, eqb, List, [], ◌∷◌, length, map, Some, refl, sym, subst, arith, eq-eqb}
use Rattle.std.proofs.Math.Nat.{eq-or-lt_of_le}
use Rattle.std.specs.List.{AllByRecursion, zip}
use Rattle.job_report.specs.declared.outcomes.FedOutcome.{FedOutcome}
use Rattle.job_report.specs.declared.outcomes.Outcome.{Outcome}
use Rattle.job_commands.specs.Calls.{Call, IsHeard, next_number}
use Rattle.feed_threads.specs.Feeds.{AllFedHeard, AreInOrder, ArePlaced, EachHeard, FedHeard, IsBy, served_by}
use Rattle.feed_threads.specs.declared.ordering.Served.{Served}

-- what is so of numbers is so of pairs with them
zip_first : (P : ℕ → Type 0) (numbers : List ℕ) (os : List Outcome) → AllByRecursion P numbers → AllByRecursion (λ (e : ℕ × Outcome). P e.0) (zip numbers os)
zip_first P [] os all = tt
zip_first P (n ∷ numbers) [] all = tt
zip_first P (n ∷ numbers) (o ∷ os) all = (all.0, zip_first P numbers os all.1)

module _ (hears : Call → Type 0) where
  -- of each worker's outcomes, where they stand in order
  told_of : (first worker : ℕ) (served : List Served) (os : List FedOutcome) → FedHeard hears first served → ArePlaced first served (map Some os) → first ≤ worker → worker < first + length served → first + length served ≤ 4294967295
      → AllByRecursion (λ (e : ℕ × Outcome). IsHeard hears worker e.0) (served_by worker 1 (map Some os))
  told_of first worker [] os heard placed le lt few = absurd (omega (arith, le, lt))
  told_of first worker (v ∷ served) os heard placed le lt few =
      let next : next_number first ≡ first + 1 = omega (arith, few) in
      ⊎_elim
      (λ (same : first ≡ worker). subst (λ w. AllByRecursion (λ (e : ℕ × Outcome). IsHeard hears w e.0) (served_by w 1 (map Some os))) same
      (subst (AllByRecursion (λ (e : ℕ × Outcome). IsHeard hears first e.0)) (sym placed.0) (zip_first (IsHeard hears first) v.numbers.items v.outcomes.list.items heard.0)))
      (λ (less : first < worker). told_of (first + 1) worker served os (subst (λ n. FedHeard hears n served) next heard.1) placed.1 (omega (arith, less)) (omega (arith, lt)) (omega (arith, few)))
      (eq-or-lt_of_le le)

  -- the rest of them
  rest_of : (P : ℕ × Outcome → Type 0) (b : Bool) (e : ℕ × Outcome) (es : List (ℕ × Outcome)) → AllByRecursion P (cond b (e ∷ es) es) → AllByRecursion P es
  rest_of P true e es all = all.1
  rest_of P false e es all = all

  each_told : (workers number : ℕ) (os : List FedOutcome) → AllByRecursion (IsBy 0 workers) (map Some os)
      → ((worker : ℕ) → 0 < worker → worker ≤ workers → AllByRecursion (λ (e : ℕ × Outcome). IsHeard hears worker e.0) (served_by worker number (map Some os))) → EachHeard hears workers number os
  each_told workers number [] by each = tt
  each_told workers number (o ∷ os) by each =
      let here = subst (λ b. AllByRecursion (λ (e : ℕ × Outcome). IsHeard hears o.worker e.0) (cond b ((number, o.outcome) ∷ served_by o.worker (number + 1) (map Some os)) (served_by o.worker (number + 1) (map Some os)))) (eq-eqb o.worker o.worker refl) (each o.worker by.0.0 by.0.1) in
      (by.0.0, by.0.1, here.0, each_told workers (number + 1) os by.1 (λ worker some few. rest_of (λ e. IsHeard hears worker e.0) (eqb o.worker worker) (number, o.outcome) (served_by worker (number + 1) (map Some os)) (each worker some few)))

  -- of all commands
  pub all_told : (count workers : ℕ) (served : List Served) (os : List FedOutcome) → length served ≡ workers → length served ≤ 16 → FedHeard hears 1 served → AreInOrder count served os → AllFedHeard hears workers count os
  all_told count workers served os many few heard order = record {
    many = order.many;
    each = subst (λ n. EachHeard hears n 1 os) many (each_told (length served) 1 os order.by_workers (λ worker some le. told_of 1 worker served os heard order.placed some (omega (arith, le)) (omega (arith, few))));
  }
