-- The cells of each version of a job, and of what its transactions work on, against what its commands are reckoned at.
use Rattle.std.proofs.Common.{◌≡◌, ◌∙◌, ℕ, zero, suc, ◌+◌, ◌-◌, ◌<◌, ◌≤◌, Bool, true, false, cond, ◌&&◌, eqb, eqb-true, List, [], ◌∷◌, ◌++◌, length, map, max, refl, sym, ap, subst, arith}
use Rattle.std.proofs.lemmas.List.{map-append}
use Rattle.std.specs.List.{AllByRecursion}
use Rattle.zone_model.specs.Names.{Name}
use Rattle.zone_model.specs.Versions.{Version, Operation}
use Rattle.zone_model.specs.Transactions.{Transaction}
use Rattle.master_file.specs.Rows.{CanBeDumped}
use Rattle.job_model.specs.Commands.{Command, Job}
use Rattle.job_model.specs.Sizes.{cell_count}
use Rattle.job_model.specs.Needs.{cells_of_operations, cells_of_commands, cells_of_workers, most_cells, longest, longest_of_workers, most_operations}
use Rattle.job_model.specs.Outcomes.{Pair, made, is_committed, asked_by, asked_at, version_at, all_pairs}
use Rattle.report_laws.specs.Changes.{IsSaid, AllSaid, AllAsked}
use Rattle.report_laws.specs.Versions.{AreOutcomesOf}
use Rattle.report_laws.proofs.ChangeLemmas.{IsZone, is_zone}
use Rattle.report_laws.proofs.ListLemmas.{all_append, all_both, all_parts, all_weaker}
use Rattle.report_laws.proofs.VersionLemmas.{AllPairs, asked_is}
use Rattle.report_laws.proofs.RunLemmas.{command_in}
use Rattle.need_laws.specs.Bounds.{AllWorkersAsk, IsSaidJob, base_of, WorksWithin, HaveFewCells, HaveFewOperations}
use Rattle.need_laws.proofs.StepLaws.{all_cells, zone_behind, cells_behind}

abbrev pub commands_of : List Pair → List Command
commands_of pairs = map (λ (pair : Pair). pair.0) pairs

-- ---- what pairs are reckoned at, and those of them that made the versions from 1 to n

abbrev cost : Pair → ℕ
cost pair = cells_of_operations (asked_by pair.0).operations

abbrev cost_of_all : List Pair → ℕ
cost_of_all pairs = cells_of_commands (commands_of pairs)

abbrev counted : ℕ → Pair → ℕ
counted zero pair = 0
counted (suc n) pair = cond (made (suc n) pair) (cost pair) (counted n pair)

abbrev counted_all : ℕ → List Pair → ℕ
counted_all n [] = 0
counted_all n (pair ∷ pairs) = counted n pair + counted_all n pairs

counted_most : (n : ℕ) (pair : Pair) → counted n pair ≤ cost pair
counted_most zero pair = omega arith
counted_most (suc n) pair = by_test (made (suc n) pair) (counted_most n pair)
  where
    by_test : (b : Bool) → counted n pair ≤ cost pair → cond b (cost pair) (counted n pair) ≤ cost pair
    by_test true l = omega arith
    by_test false l = l

counted_all_most : (n : ℕ) (pairs : List Pair) → counted_all n pairs ≤ cost_of_all pairs
counted_all_most n [] = omega arith
counted_all_most n (pair ∷ pairs) = let a = counted_most n pair in let b = counted_all_most n pairs in omega (arith, a, b)

counted_grows : (n : ℕ) (pair : Pair) → counted n pair ≤ counted (suc n) pair
counted_grows n pair = by_test (made (suc n) pair) (counted_most n pair)
  where
    by_test : (b : Bool) → counted n pair ≤ cost pair → counted n pair ≤ cond b (cost pair) (counted n pair)
    by_test true l = l
    by_test false l = omega arith

counted_all_grows : (n : ℕ) (pairs : List Pair) → counted_all n pairs ≤ counted_all (suc n) pairs
counted_all_grows n [] = omega arith
counted_all_grows n (pair ∷ pairs) = let a = counted_grows n pair in let b = counted_all_grows n pairs in omega (arith, a, b)

-- a pair that made none of these versions
not_counted : (n : ℕ) (pair : Pair) → ((j : ℕ) → 0 < j → j ≤ n → made j pair ≡ false) → counted n pair ≡ 0
not_counted zero pair none = refl
not_counted (suc n) pair none = ap (λ (b : Bool). cond b (cost pair) (counted n pair)) (none (suc n) (omega arith) (omega arith)) ∙ not_counted n pair (λ j some le. none j some (omega arith))

-- a command makes one version
other_version : (committed : Bool) (version j : ℕ) → (version ≡ j → ⊥) → (committed && eqb version j) ≡ false
other_version false version j other = refl
other_version true version j other = by_test (eqb version j) refl
  where
    by_test : (b : Bool) → eqb version j ≡ b → b ≡ false
    by_test true e = absurd (other (eqb-true version j e))
    by_test false e = refl

its_version : (committed : Bool) (version j : ℕ) → (committed && eqb version j) ≡ true → version ≡ j
its_version false version j e = absurd cc
its_version true version j e = eqb-true version j e

-- the transaction that made version n + 1 comes to those that made the ones before
one_version : (n : ℕ) (pairs : List Pair) → cells_of_operations (asked_at (suc n) pairs).operations + counted_all n pairs ≤ counted_all (suc n) pairs
one_version n [] = omega arith
one_version n (pair ∷ pairs) = by_test (made (suc n) pair) refl (one_version n pairs)
  where
    by_test : (b : Bool) → made (suc n) pair ≡ b → cells_of_operations (asked_at (suc n) pairs).operations + counted_all n pairs ≤ counted_all (suc n) pairs
        → cells_of_operations (cond b (asked_by pair.0) (asked_at (suc n) pairs)).operations + (counted n pair + counted_all n pairs) ≤ cond b (cost pair) (counted n pair) + counted_all (suc n) pairs
    by_test true e l =
        let is = its_version (is_committed pair.1.ended) pair.1.version (suc n) e in
        let none = not_counted n pair (λ j some le. other_version (is_committed pair.1.ended) pair.1.version j (λ same. omega (arith, is, same))) in
        let grows = counted_all_grows n pairs in
        omega (arith, none, grows)
    by_test false e l = omega (arith, l)

-- ---- versions

module _ (origin : Name) (zone : Version) (pairs : List Pair) (is : IsZone origin zone) (ask : AllPairs origin pairs) where
  pub version_zone : (v : ℕ) → IsZone origin (version_at origin zone pairs v)
  version_zone zero = is
  version_zone (suc v) = zone_behind origin (asked_at (suc v) pairs) (version_at origin zone pairs v) (asked_is origin (suc v) pairs ask) (version_zone v)

  version_cells : (v : ℕ) → cell_count (version_at origin zone pairs v) ≤ cell_count zone + counted_all v pairs
  version_cells zero = omega arith
  version_cells (suc v) =
      let a = cells_behind origin (asked_at (suc v) pairs) (version_at origin zone pairs v) (asked_is origin (suc v) pairs ask) (version_zone v) in
      let b = version_cells v in
      let c = one_version v pairs in
      omega (arith, a, b, c)

-- ---- what a transaction works on

front_cells : (front back : List Operation) → cells_of_operations front ≤ cells_of_operations (front ++ back)
front_cells [] back = omega arith
front_cells (first ∷ front) back = let l = front_cells front back in omega (arith, l)

-- a pair is reckoned beside those that made the versions up to the one that it was on
abbrev HasRoom : List Pair → Pair → Type 0
HasRoom pairs pair = (n : ℕ) → counted n pair ≡ 0 → cost pair + counted_all n pairs ≤ cost_of_all pairs

all_rooms : (pairs : List Pair) → AllByRecursion (HasRoom pairs) pairs
all_rooms [] = tt
all_rooms (pair ∷ pairs) = (
  λ n none. let l = counted_all_most n pairs in omega (arith, none, l),
  all_weaker (HasRoom pairs) (HasRoom (pair ∷ pairs)) pairs (λ x room n none. let l = room n none in let m = counted_most n pair in omega (arith, l, m)) (all_rooms pairs),
)

on_base : (pair : Pair) → counted (base_of pair.1) pair ≡ 0
on_base pair = by_test (is_committed pair.1.ended) refl
  where
    by_test : (b : Bool) → is_committed pair.1.ended ≡ b → counted (cond b (pair.1.version - 1) pair.1.version) pair ≡ 0
    by_test true e = not_counted (pair.1.version - 1) pair (λ j some le. other_version (is_committed pair.1.ended) pair.1.version j (λ same. omega (arith, same)))
    by_test false e = not_counted pair.1.version pair (λ j some le. ap (λ (c : Bool). c && eqb pair.1.version j) e)

-- what first operations make of a version, by what all of them are reckoned at
first_cells : (origin : Name) (version : Version) (t : Transaction) (most : ℕ) → IsZone origin version → AllSaid origin t → cell_count version + cells_of_operations t.operations ≤ most → WorksWithin most origin version t
first_cells origin version t most is said room front back working parts made =
    let a = all_cells origin front version working ((all_parts (IsSaid origin) front back (subst (AllByRecursion (IsSaid origin)) parts said)).0) is made in
    let b = front_cells front back in
    let c = ap cells_of_operations parts in
    omega (arith, a, b, c, room)

pub commands_few : (origin : Name) (zone : Version) (pairs : List Pair) → CanBeDumped origin zone → AllByRecursion (λ (pair : Pair). AllAsked origin pair.0) pairs → HaveFewCells (cell_count zone + cells_of_commands (map (λ (pair : Pair). pair.0) pairs)) origin zone pairs
commands_few origin zone pairs dumped ask = record { versions = versions; between = between; working = all_both (HasRoom pairs) (λ (pair : Pair). AllAsked origin pair.0) Works pairs works (all_rooms pairs) ask }
  where
    most : ℕ
    most = cell_count zone + cells_of_commands (map (λ (pair : Pair). pair.0) pairs)

    is : IsZone origin zone
    is = is_zone origin zone dumped

    versions : (v : ℕ) → cell_count (version_at origin zone pairs v) ≤ most
    versions v = let a = version_cells origin zone pairs is ask v in let b = counted_all_most v pairs in omega (arith, a, b)

    between : (v : ℕ) → WorksWithin most origin (version_at origin zone pairs v) (asked_at (v + 1) pairs)
    between v =
        let a = version_cells origin zone pairs is ask v in
        let b = one_version v pairs in
        let c = counted_all_most (suc v) pairs in
        let next : v + 1 ≡ suc v = omega arith in
        subst (λ (n : ℕ). WorksWithin most origin (version_at origin zone pairs v) (asked_at n pairs)) (sym next)
        (first_cells origin (version_at origin zone pairs v) (asked_at (suc v) pairs) most (version_zone origin zone pairs is ask v) (asked_is origin (suc v) pairs ask) (omega (arith, a, b, c)))

    Works : Pair → Type 0
    Works pair = WorksWithin most origin (version_at origin zone pairs (base_of pair.1)) (asked_by pair.0)

    works : (pair : Pair) → HasRoom pairs pair → AllAsked origin pair.0 → Works pair
    works pair room said =
        let base = base_of pair.1 in
        let a = version_cells origin zone pairs is ask base in
        let b = room base (on_base pair) in
        first_cells origin (version_at origin zone pairs base) (asked_by pair.0) most (version_zone origin zone pairs is ask base) said (omega (arith, a, b))

-- ---- of each worker's commands

cells-append : (xs ys : List Command) → cells_of_commands (xs ++ ys) ≡ cells_of_commands xs + cells_of_commands ys
cells-append [] ys = omega arith
cells-append (x ∷ xs) ys = let l = cells-append xs ys in omega (arith, l)

longest-append : (xs ys : List Command) → longest (xs ++ ys) ≡ max (longest xs) (longest ys)
longest-append [] ys = omega arith
longest-append (x ∷ xs) ys = let l = longest-append xs ys in omega (arith, l)

pub cells_together : (workers : List (List Pair)) → cells_of_commands (commands_of (all_pairs workers)) ≡ cells_of_workers (map (map (λ (pair : Pair). pair.0)) workers)
cells_together [] = refl
cells_together (pairs ∷ workers) =
    let a = ap cells_of_commands (map-append command_in pairs (all_pairs workers)) in
    let b = cells-append (commands_of pairs) (commands_of (all_pairs workers)) in
    let c = cells_together workers in
    omega (arith, a, b, c)

longest_together : (workers : List (List Pair)) → longest (commands_of (all_pairs workers)) ≡ longest_of_workers (map (map (λ (pair : Pair). pair.0)) workers)
longest_together [] = refl
longest_together (pairs ∷ workers) =
    let a = ap longest (map-append command_in pairs (all_pairs workers)) in
    let b = longest-append (commands_of pairs) (commands_of (all_pairs workers)) in
    let c = longest_together workers in
    omega (arith, a, b, c)

pairs_ask : (origin : Name) (pairs : List Pair) → AllByRecursion (AllAsked origin) (commands_of pairs) → AllPairs origin pairs
pairs_ask origin [] h = tt
pairs_ask origin (pair ∷ pairs) h = (h.0, pairs_ask origin pairs h.1)

pub all_ask : (origin : Name) (workers : List (List Pair)) → AllWorkersAsk origin (map (map (λ (pair : Pair). pair.0)) workers) → AllPairs origin (all_pairs workers)
all_ask origin [] h = tt
all_ask origin (pairs ∷ workers) h = all_append (λ (pair : Pair). AllAsked origin pair.0) pairs (all_pairs workers) (pairs_ask origin pairs h.0) (all_ask origin workers h.1)

pub jobs_few : (job : Job) → IsSaidJob job → (workers : List (List Pair)) → AreOutcomesOf job workers → HaveFewCells (most_cells job) job.origin job.zone (all_pairs workers)
jobs_few job said workers same =
    let few = commands_few job.origin job.zone (all_pairs workers) said.zone (all_ask job.origin workers (subst (AllWorkersAsk job.origin) (sym same) said.workers)) in
    subst (λ (n : ℕ). HaveFewCells (cell_count job.zone + n) job.origin job.zone (all_pairs workers)) (cells_together workers ∙ ap cells_of_workers same) few

-- ---- operations

made_short : (v : ℕ) (pairs : List Pair) → length (asked_at v pairs).operations ≤ longest (commands_of pairs)
made_short v [] = omega arith
made_short v (pair ∷ pairs) = by_test (made v pair) (made_short v pairs)
  where
    by_test : (b : Bool) → length (asked_at v pairs).operations ≤ longest (commands_of pairs) → length (cond b (asked_by pair.0) (asked_at v pairs)).operations ≤ max (length (asked_by pair.0).operations) (longest (commands_of pairs))
    by_test true l = omega arith
    by_test false l = omega (arith, l)

abbrev pub IsShort : ℕ → Pair → Type 0
IsShort most pair = length (asked_by pair.0).operations ≤ most

asked_short : (pairs : List Pair) → AllByRecursion (IsShort (longest (commands_of pairs))) pairs
asked_short [] = tt
asked_short (pair ∷ pairs) = (
  omega arith,
  all_weaker (IsShort (longest (commands_of pairs))) (IsShort (longest (commands_of (pair ∷ pairs)))) pairs (λ x l. omega (arith, l)) (asked_short pairs),
)

pub jobs_short : (job : Job) (workers : List (List Pair)) → AreOutcomesOf job workers → HaveFewOperations (most_operations job) (all_pairs workers)
jobs_short job workers same =
    subst (λ (n : ℕ). HaveFewOperations n (all_pairs workers)) (longest_together workers ∙ ap longest_of_workers same)
    (record { made = λ v. made_short v (all_pairs workers); asked = asked_short (all_pairs workers) })
