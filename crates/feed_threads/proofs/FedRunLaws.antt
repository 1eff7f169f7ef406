-- What one list of commands comes to, by what each worker served.
use Rattle.std.proofs.Common.{◌≡◌, ◌∙◌, ◌⊎◌, inl, inr, ℕ, suc, ◌+◌, ◌-◌, ◌<◌, ◌≤◌, Bool, true, false, cond, eqb, List, [], ◌∷◌, ◌++◌, length, map, get_or, Some, refl, sym, ap, ap₂, subst, arith, append_assoc, length-append, eq-eqb}
use Rattle.std.proofs.lemmas.Bool.{cases_eq}
use Rattle.std.specs.List.{AllByRecursion, range_with_len, zip}
use Rattle.zone_model.specs.Names.{Name}
use Rattle.zone_model.specs.Versions.{Version}
use Rattle.job_model.specs.Commands.{Command, Compact}
use Rattle.job_model.specs.Outcomes.{Lawful, Pair, all_pairs, version_at}
use Rattle.job_model.specs.Feeds.{Fed, all_numbers, by_worker, pairs_by, passes_fed}
use Rattle.job_model.proofs.FeedLaws.{IsAmong, workers_fed}
use Rattle.job_report.specs.Feeds.{FedTell, fed_pairs}
use Rattle.job_report.specs.Outcomes.{outcome_view, pairs_of, job_pairs, Tells, EachTells, AllTell}
use Rattle.job_report.specs.declared.outcomes.FedOutcome.{FedOutcome}
use Rattle.job_report.specs.declared.outcomes.Outcome.{Outcome}
use Rattle.job_commands.specs.Runs.{IsRun}
use Rattle.feed_threads.specs.Feeds.{AreInOrder, ArePlaced, IsBy, IsFedRun, command_at, commands_at, commands_served, outcomes_served, served_by}
use Rattle.feed_threads.specs.declared.ordering.Served.{Served}

-- ---- commands by their numbers

-- these are the commands of a list from number n on
abbrev Aligned : List Command → ℕ → List Command → Type 0
Aligned all n [] = Unit {0}
Aligned all n (c ∷ cs) = (command_at all n ≡ c) × Aligned all (n + 1) cs

get_there : (front : List Command) (c : Command) (cs : List Command) → get_or (front ++ c ∷ cs) (length front) Compact ≡ c
get_there [] c cs = refl
get_there (d ∷ front) c cs = get_there front c cs

aligned_from : (front cs : List Command) → Aligned (front ++ cs) (length front + 1) cs
aligned_from front [] = tt
aligned_from front (c ∷ cs) =
    let at : length front + 1 - 1 ≡ length front = omega arith in
    let next : length (front ++ c ∷ []) + 1 ≡ length front + 1 + 1 = omega (arith, length-append front (c ∷ [])) in (
      ap (λ (k : ℕ). get_or (front ++ c ∷ cs) k Compact) at ∙ get_there front c cs,
      subst (λ (n : ℕ). Aligned (front ++ c ∷ cs) n cs) next (subst (λ (l : List Command). Aligned l (length (front ++ c ∷ []) + 1) cs) (append_assoc front (c ∷ []) cs) (aligned_from (front ++ c ∷ []) cs)),
    )

aligned : (all : List Command) → Aligned all 1 all
aligned all = aligned_from [] all

-- ---- what each worker ran

abbrev pair_at : List Command → ℕ × Outcome → Pair
pair_at all e = (command_at all e.0, outcome_view e.1)

by_served : (w n : ℕ) (all cs : List Command) (os : List FedOutcome) → Aligned all n cs → length cs ≡ length os → pairs_by w (fed_pairs cs os) ≡ map (pair_at all) (served_by w n (map Some os))
by_served w n all [] [] a alike = refl
by_served w n all [] (o ∷ os) a alike = absurd (omega arith)
by_served w n all (c ∷ cs) [] a alike = absurd (omega arith)
by_served w n all (c ∷ cs) (o ∷ os) a alike = by_test (eqb o.worker w) (by_served w (n + 1) all cs os a.1 (omega arith))
  where
    by_test : (b : Bool) → pairs_by w (fed_pairs cs os) ≡ map (pair_at all) (served_by w (n + 1) (map Some os))
        → cond b ((c, outcome_view o.outcome) ∷ pairs_by w (fed_pairs cs os)) (pairs_by w (fed_pairs cs os)) ≡ map (pair_at all) (cond b ((n, o.outcome) ∷ served_by w (n + 1) (map Some os)) (served_by w (n + 1) (map Some os)))
    by_test true e =
        ap (λ (l : List Pair). (c, outcome_view o.outcome) ∷ l) e ∙ ap (λ (x : Command). (x, outcome_view o.outcome) ∷ map (pair_at all) (served_by w (n + 1) (map Some os))) (sym a.0)
    by_test false e = e

served_pairs : (all : List Command) (numbers : List ℕ) (os : List Outcome) → pairs_of (commands_at all numbers) os ≡ map (pair_at all) (zip numbers os)
served_pairs all [] os = refl
served_pairs all (n ∷ numbers) [] = refl
served_pairs all (n ∷ numbers) (o ∷ os) = ap (λ (l : List Pair). pair_at all (n, o) ∷ l) (served_pairs all numbers os)

workers_are : (all : List Command) (os : List FedOutcome) → length all ≡ length os → (w : ℕ) (served : List Served) → ArePlaced w served (map Some os)
    → map (λ v. pairs_by v (fed_pairs all os)) (range_with_len w (length served)) ≡ job_pairs (commands_served all served) (outcomes_served served)
workers_are all os alike w [] placed = refl
workers_are all os alike w (v ∷ served) placed =
    ap₂ (λ (x : List Pair) (xs : List (List Pair)). x ∷ xs)
    (by_served w 1 all all os (aligned all) alike ∙ ap (map (pair_at all)) placed.0 ∙ sym (served_pairs all v.numbers.items v.outcomes.list.items))
    (workers_are all os alike (w + 1) served placed.1)

-- ---- each tells what is so

module _ (origin : Name) (set : ℕ → Version) (all : List Command) where
  abbrev TellsAt : ℕ × Outcome → Type 0
  TellsAt e = Tells origin set (command_at all e.0) e.1

  served_tell : (numbers : List ℕ) (os : List Outcome) → EachTells origin set (commands_at all numbers) os → AllByRecursion TellsAt (zip numbers os)
  served_tell [] [] t = tt
  served_tell [] (o ∷ os) t = absurd t
  served_tell (n ∷ numbers) [] t = absurd t
  served_tell (n ∷ numbers) (o ∷ os) t = (t.0, served_tell numbers os t.1)

  workers_tell : (os : List FedOutcome) (w : ℕ) (served : List Served) → ArePlaced w served (map Some os) → AllTell origin set (commands_served all served) (outcomes_served served) → (v : ℕ) → w ≤ v → v < w + length served
      → AllByRecursion TellsAt (served_by v 1 (map Some os))
  workers_tell os w [] placed t v above below = absurd (omega arith)
  workers_tell os w (one ∷ served) placed t v above below = by_case (λ further. workers_tell os (w + 1) served placed.1 t.1 v further (omega (arith, below))) (cases_eq w v)
    where
      by_case : (w + 1 ≤ v → AllByRecursion TellsAt (served_by v 1 (map Some os))) → (w ≡ v) ⊎ (w ≡ v → ⊥) → AllByRecursion TellsAt (served_by v 1 (map Some os))
      by_case more (inl e) = subst (λ (k : ℕ). AllByRecursion TellsAt (served_by k 1 (map Some os))) e (subst (AllByRecursion TellsAt) (sym placed.0) (served_tell one.numbers.items one.outcomes.list.items t.0))
      by_case more (inr differs) = more (let other = differs in omega arith)

  fed_tells : (most n : ℕ) (cs : List Command) (os : List FedOutcome) → Aligned all n cs → length cs ≡ length os → AllByRecursion (IsBy 0 most) (map Some os) → ((v : ℕ) → 0 < v → v ≤ most → AllByRecursion TellsAt (served_by v n (map Some os))) → FedTell origin set cs os
  fed_tells most n [] [] a alike by h = tt
  fed_tells most n [] (o ∷ os) a alike by h = absurd (omega arith)
  fed_tells most n (c ∷ cs) [] a alike by h = absurd (omega arith)
  fed_tells most n (c ∷ cs) (o ∷ os) a alike by h = (
    subst (λ (x : Command). Tells origin set x o.outcome) a.0 (head (eqb o.worker o.worker) (eq-eqb o.worker o.worker refl) (h o.worker by.0.0 by.0.1)),
    fed_tells most (n + 1) cs os a.1 (omega arith) by.1 (λ v some few. behind (eqb o.worker v) v (h v some few)),
  )
    where
      head : (b : Bool) → b ≡ true → AllByRecursion TellsAt (cond b ((n, o.outcome) ∷ served_by o.worker (n + 1) (map Some os)) (served_by o.worker (n + 1) (map Some os))) → TellsAt (n, o.outcome)
      head true e t = t.0
      head false e t = absurd cc

      behind : (b : Bool) (v : ℕ) → AllByRecursion TellsAt (cond b ((n, o.outcome) ∷ served_by v (n + 1) (map Some os)) (served_by v (n + 1) (map Some os))) → AllByRecursion TellsAt (served_by v (n + 1) (map Some os))
      behind true v t = t.1
      behind false v t = t

-- ---- all of it

among : (most : ℕ) (cs : List Command) (os : List FedOutcome) → length cs ≡ length os → AllByRecursion (IsBy 0 most) (map Some os) → AllByRecursion (IsAmong most) (fed_pairs cs os)
among most [] os alike by = tt
among most (c ∷ cs) [] alike by = tt
among most (c ∷ cs) (o ∷ os) alike by = (by.0, among most cs os (omega arith) by.1)

many_pairs : (cs : List Command) (os : List FedOutcome) → length cs ≡ length os → length (fed_pairs cs os) ≡ length cs
many_pairs [] os alike = refl
many_pairs (c ∷ cs) [] alike = absurd (omega arith)
many_pairs (c ∷ cs) (o ∷ os) alike = ap suc (many_pairs cs os (omega arith))

pub fed_run : (chunks workers : ℕ) (origin : Name) (zone : Version) (commands : List Command) (served : List Served) (os : List FedOutcome) (version names count : ℕ) → length served ≡ workers → AreInOrder (length commands) served os
    → IsRun chunks (passes_fed workers) origin zone (commands_served commands served) (outcomes_served served) version names count → IsFedRun chunks workers origin zone commands os version names
fed_run chunks workers origin zone commands served os version names count many o r =
    let alike : length commands ≡ length os = sym o.many in
    let same : by_worker workers (fed_pairs commands os) ≡ job_pairs (commands_served commands served) (outcomes_served served) =
    ap (λ (n : ℕ). by_worker n (fed_pairs commands os)) (sym many) ∙ workers_are commands os alike 1 served o.placed in
    let by : AllByRecursion (IsBy 0 workers) (map Some os) = subst (λ (n : ℕ). AllByRecursion (IsBy 0 n) (map Some os)) many o.by_workers in
    let tell : AllTell origin (version_at origin zone (all_pairs (by_worker workers (fed_pairs commands os)))) (commands_served commands served) (outcomes_served served) =
    subst (λ (ps : List (List Pair)). AllTell origin (version_at origin zone (all_pairs ps)) (commands_served commands served) (outcomes_served served)) (sym same) r.tell in
    record {
      handed_out = subst (λ (n : ℕ). Fed n (all_numbers workers (fed_pairs commands os))) (many_pairs commands os alike) (workers_fed workers (fed_pairs commands os) (among workers commands os alike by));
      lawful = subst (λ (ps : List (List Pair)). Lawful chunks (passes_fed workers) origin zone ps version) (sym same) r.lawful;
      tell = fed_tells origin (version_at origin zone (all_pairs (by_worker workers (fed_pairs commands os)))) commands workers 1 commands os (aligned commands) alike by
          (λ v some few. workers_tell origin (version_at origin zone (all_pairs (by_worker workers (fed_pairs commands os)))) commands os 1 served o.placed tell v (omega (arith, some)) (omega (arith, few, many)));
      names_are = r.names_are ∙ ap (λ (ps : List (List Pair)). length (version_at origin zone (all_pairs ps) version)) (sym same);
    }
