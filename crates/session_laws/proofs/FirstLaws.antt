-- The first commands of a worker whose outcomes are lawful are lawful without those behind them.
use Rattle.std.proofs.Common.{◌≡◌, ◌∙◌, ⊎_elim, ℕ, ◌+◌, ◌-◌, ◌/◌, ◌<◌, ◌≤◌, true, List, [], ◌∷◌, ◌++◌, length, Some, None, Ok, Err, IsOk, sym, ap, subst, arith, Contains, append-nil}
use Rattle.std.specs.List.{AllByRecursion}
use Rattle.std.specs.List.Sorted.{IsStrictlySortedBy}
use Rattle.std.specs.Ordering.{nat_cmp}
use Rattle.std.proofs.lemmas.List.Elements.{Contains-append_cases}
use Rattle.zone_model.specs.Names.{Name}
use Rattle.zone_model.specs.Versions.{Operation, Version, all_applied}
use Rattle.zone_model.specs.Transactions.{Transaction, all_met, no_changes, whole}
use Rattle.job_model.specs.declared.Ending.{Ending}
use Rattle.job_model.specs.declared.Ending.TheVariants.{Commit}
use Rattle.job_model.specs.Commands.{Command, Ask, Hold, AskHeld, Release, Block, Compact}
use Rattle.job_model.specs.Sizes.{cell_count}
use Rattle.job_model.specs.Outcomes.{Along, BlockEnds, BoundsSets, BoundsVersions, Cause, Rule, Full, Spent, Causes, Ended, Shown, Committed, RolledBack, Refused, EndsLawfully, WhyFull, Lawful, Pair, JudgedBy, WorkerProgress, asked_at, at_first, cells_kept, shown_in, progress_after, times_made, version_at}
use Rattle.session_laws.proofs.FrontLaws.{asked-same, version-same}
use Rattle.session_laws.proofs.ProgressLaws.{HeldBelow, NoneAbove, end_few, end_progress, held_shown, later_shown, none_made, rises, shown-append, split, times-append}
use Rattle.report_laws.proofs.ListLemmas.{all_parts, older_rise}

-- ---- judged by the same up to a version

module _ (chunks passes : ℕ) (origin : Name) (set set' : ℕ → Version) (made made' : ℕ → Transaction) (shown shown' : List ℕ) (k : ℕ)
    (sets : (v : ℕ) → v ≤ k → set v ≡ set' v) (mades : (j : ℕ) → 0 < j → j ≤ k → made j ≡ made' j) (older_shown : (w : ℕ) → w < k → Contains shown w → Contains shown' w) where
  abbrev from : JudgedBy
  from = record { chunks = chunks; passes = passes; origin = origin; set = set; made_by = made; shown = shown }

  abbrev to : JudgedBy
  to = record { chunks = chunks; passes = passes; origin = origin; set = set'; made_by = made'; shown = shown' }

  kept_same : (base : ℕ) (older : List ℕ) → base ≤ k → AllByRecursion (λ w. w < base) older → cells_kept set (older ++ base ∷ []) ≡ cells_kept set' (older ++ base ∷ [])
  kept_same base [] few below = ap (λ (x : Version). cell_count x + 0) (sets base few)
  kept_same base (v ∷ older) few below =
      let first = ap cell_count (sets v (let l = below.0 in omega (arith, l, few))) in
      let rest = kept_same base older few below.1 in
      omega (arith, first, rest)

  shown_same : (base : ℕ) (older : List ℕ) → base ≤ k → AllByRecursion (λ w. w < base) older → AllByRecursion (Contains shown) older → AllByRecursion (Contains shown') older
  shown_same base [] few below all = tt
  shown_same base (v ∷ older) few below all = (older_shown v (let l = below.0 in omega (arith, l, few)) all.0, shown_same base older few below.1 all.1)

  bounds_same : (base cells operations : ℕ) → base ≤ k → BoundsVersions to base cells operations → BoundsVersions from base cells operations
  bounds_same base cells operations few b = record {
    cells = λ v l. subst (λ (x : Version). cell_count x ≤ cells) (sym (sets v (omega (arith, l, few)))) (b.cells v l);
    operations = λ v p l. subst (λ (t : Transaction). length t.operations ≤ operations) (sym (mades v p (omega (arith, l, few)))) (b.operations v p l);
  }

  sets_same : (base : ℕ) (front : List Operation) (most : ℕ) → base ≤ k → BoundsSets to base front most → BoundsSets from base front most
  sets_same base front most few b = record {
    first = subst (λ (x : Version). cell_count x ≤ most) (sym (sets 0 (omega arith))) b.first;
    ways = λ v l begun rest all working made_of.
        b.ways v l begun rest (subst (λ (t : Transaction). t.operations ≡ begun ++ rest) (mades (v + 1) (omega arith) (omega (arith, l, few))) all) working
        (subst (λ (x : Version). all_applied origin begun x ≡ Ok working) (sets v (omega (arith, l, few))) made_of);
    sets = λ begun rest all working made_of. b.sets begun rest all working (subst (λ (x : Version). all_applied origin begun x ≡ Ok working) (sets base few) made_of);
  }

  full_same : (asked : Transaction) (base operation : ℕ) (kept : List ℕ) → base ≤ k → WhyFull from asked base operation kept → WhyFull to asked base operation kept
  full_same asked base operation kept few h =
      let below = (older_rise base h.older (subst (IsStrictlySortedBy nat_cmp) h.base_last h.rising)).1 in
      record {
        met = subst (λ (x : Version). all_met x asked.needs ≡ true) (sets base few) h.met;
        front = h.front;
        refused = h.refused;
        back = h.back;
        all = h.all;
        number = h.number;
        working = h.working;
        before = subst (λ (x : Version). all_applied origin h.front x ≡ Ok h.working) (sets base few) h.before;
        next = h.next;
        accepted = h.accepted;
        changes = h.changes;
        older = h.older;
        base_last = h.base_last;
        older_shown = shown_same base h.older few below h.older_shown;
        rising = h.rising;
        few = h.few;
        full = subst (λ (n : ℕ). chunks - chunks / 4 - 8 ≤ cell_count h.working + n) (ap (cells_kept set) h.base_last ∙ kept_same base h.older few below ∙ ap (cells_kept set') (sym h.base_last)) h.full;
        cramped = λ cells operations b l. h.cramped cells operations (bounds_same base cells operations few b) l;
        crowded = record { bound = λ most l some b. h.crowded.bound most l some (sets_same base h.front most few b) };
      }

  causes_same : (asked : Transaction) (ending : Ending) (base : ℕ) (cause : Cause) → base ≤ k → Causes from asked ending base cause → Causes to asked ending base cause
  causes_same asked ending base (Rule refusal) few h = subst (λ (x : Version). whole origin asked x ≡ Err refusal) (sets base few) h
  causes_same asked ending base (Full operation kept) few h = full_same asked base operation kept few h
  causes_same asked ending base Spent few h = (h.0, h.1, subst (λ (x : Version). IsOk (whole origin asked x)) (sets base few) h.2)

  block_same : (seen : ℕ) (asked : Transaction) (ending : Ending) (v : ℕ) (ended : Ended) → v ≤ k → BlockEnds from seen asked ending v ended → BlockEnds to seen asked ending v ended
  block_same seen asked ending v Shown few h = h
  block_same seen asked ending v Committed few h = (h.0, h.1, subst (λ (x : Version). IsOk (whole origin asked x)) (sets (v - 1) (omega (arith, few))) h.2)
  block_same seen asked ending v RolledBack few h = (h.0, h.1, subst (λ (x : Version). IsOk (whole origin asked x)) (sets v few) h.2)
  block_same seen asked ending v (Refused cause) few h = (h.0, causes_same asked ending v cause few h.1)

  ends_same : (progress : WorkerProgress) (command : Command) (v : ℕ) (ended : Ended) → v ≤ k → EndsLawfully from progress command v ended → EndsLawfully to progress command v ended
  ends_same progress (Ask question) v ended few h = h
  ends_same progress Hold v ended few h = h
  ends_same progress (AskHeld question) v ended few h = h
  ends_same progress Release v ended few h = h
  ends_same progress (Block _ asked ending) v ended few h = block_same progress.seen asked ending v ended few h
  ends_same progress Compact v ended few h = block_same progress.seen no_changes Commit v ended few h

  pub along_same : (progress : WorkerProgress) (pairs : List Pair) → NoneAbove k pairs → Along from progress pairs → Along to progress pairs
  along_same progress [] below along = tt
  along_same progress (pair ∷ pairs) below along = (ends_same progress pair.0 pair.1.version pair.1.ended below.0 along.0, along_same (progress_after progress pair.0 pair.1.version) pairs below.1 along.1)

-- ---- the first commands

-- what one worker's commands are judged by
abbrev alone : ℕ → ℕ → Name → Version → List Pair → JudgedBy
alone chunks passes origin zone pairs = record { chunks = chunks; passes = passes; origin = origin; set = version_at origin zone pairs; made_by = λ j. asked_at j pairs; shown = shown_in pairs }

-- what is lawful of one worker
pub record IsAlone (chunks passes : ℕ) (origin : Name) (zone : Version) (pairs : List Pair) (last : ℕ) : Type 0 where
  pub once : (j : ℕ) → 0 < j → j ≤ last → times_made j pairs ≡ 1
  pub below : NoneAbove last pairs
  pub along : Along (alone chunks passes origin zone pairs) at_first pairs

pub alone_of : (chunks passes : ℕ) (origin : Name) (zone : Version) (pairs : List Pair) (last : ℕ) → Lawful chunks passes origin zone (pairs ∷ []) last → IsAlone chunks passes origin zone pairs last
alone_of chunks passes origin zone pairs last h =
    let same = append-nil pairs in
    record {
      once = λ j p l. subst (λ (x : List Pair). times_made j x ≡ 1) same (h.once j p l);
      below = subst (NoneAbove last) same h.none_above;
      along = subst (λ (x : List Pair). Along (alone chunks passes origin zone x) at_first pairs) same h.along.0;
    }

pub lawful_of : (chunks passes : ℕ) (origin : Name) (zone : Version) (pairs : List Pair) (last : ℕ) → IsAlone chunks passes origin zone pairs last → Lawful chunks passes origin zone (pairs ∷ []) last
lawful_of chunks passes origin zone pairs last h =
    let same = sym (append-nil pairs) in
    record {
      once = λ j p l. subst (λ (x : List Pair). times_made j x ≡ 1) same (h.once j p l);
      none_above = subst (NoneAbove last) same h.below;
      along = (subst (λ (x : List Pair). Along (alone chunks passes origin zone x) at_first pairs) same h.along, tt);
    }

nothing_held : HeldBelow at_first
nothing_held w e = absurd (let no : None ≡ Some w = e in cc)

first_alone : (chunks passes : ℕ) (origin : Name) (zone : Version) (pairs more : List Pair) (last : ℕ) → IsAlone chunks passes origin zone (pairs ++ more) last
    → IsAlone chunks passes origin zone pairs (end_progress at_first pairs).seen
first_alone chunks passes origin zone pairs more last h =
    let all : JudgedBy = alone chunks passes origin zone (pairs ++ more) in
    let k : ℕ = (end_progress at_first pairs).seen in
    let parts = split all at_first pairs more h.along in
    let r = rises all at_first pairs nothing_held parts.0 in
    let few : k ≤ last = end_few last at_first pairs (omega arith) (all_parts (λ (pair : Pair). pair.1.version ≤ last) pairs more h.below).0 in
    let once : (j : ℕ) → 0 < j → j ≤ k → times_made j pairs ≡ 1 = λ j p l.
    let total = h.once j p (omega (arith, l, few)) in
    let none = none_made all (end_progress at_first pairs) more j r.held parts.1 l in
    omega (arith, total, none, times-append j pairs more) in
    let shown : (w : ℕ) → w < k → Contains (shown_in (pairs ++ more)) w → Contains (shown_in pairs) w = λ w l there.
    ⊎_elim (λ now. now) (λ later. shown_before all pairs more w l r.held parts.1 later) (Contains-append_cases (shown_in pairs) (shown_in more) w (subst (λ (x : List ℕ). Contains x w) (shown-append pairs more) there)) in
    record {
      once = once;
      below = r.below;
      along = along_same chunks passes origin (version_at origin zone (pairs ++ more)) (version_at origin zone pairs) (λ j. asked_at j (pairs ++ more)) (λ j. asked_at j pairs) (shown_in (pairs ++ more)) (shown_in pairs) k
          (λ v l. version-same origin zone pairs more k v once l) (λ j p l. asked-same j pairs more (once j p l)) shown at_first pairs r.below parts.0;
    }
  where
    shown_before : (s : JudgedBy) (xs ys : List Pair) (w : ℕ) → w < (end_progress at_first xs).seen → HeldBelow (end_progress at_first xs) → Along s (end_progress at_first xs) ys → Contains (shown_in ys) w → Contains (shown_in xs) w
    shown_before s xs ys w l below along there =
        ⊎_elim (λ late. absurd (omega (arith, late, l))) (λ held. ⊎_elim (λ before. absurd (let no : None ≡ Some w = before in cc)) (λ now. now) (held_shown at_first xs w held))
        (later_shown s (end_progress at_first xs) ys w below along there)

pub first_lawful : (chunks passes : ℕ) (origin : Name) (zone : Version) (pairs more : List Pair) (last : ℕ) → Lawful chunks passes origin zone ((pairs ++ more) ∷ []) last
    → (first : ℕ) × Lawful chunks passes origin zone (pairs ∷ []) first
first_lawful chunks passes origin zone pairs more last h =
    ((end_progress at_first pairs).seen, lawful_of chunks passes origin zone pairs _ (first_alone chunks passes origin zone pairs more last (alone_of chunks passes origin zone (pairs ++ more) last h)))
