-- Lawful outcomes are of their commands' kinds, and their numbers have 64 bits where the report is no longer than that.
use Rattle.std.proofs.Common.{◌≡◌, ℕ, zero, suc, ◌+◌, ◌<◌, ◌≤◌, ◌^◌, Bool, true, false, cond, eqb, List, [], ◌∷◌, ◌++◌, map, length, refl, sym, ap, subst, arith, length-append, eqb-true, codes, Some}
use Rattle.std.proofs.lemmas.Bool.{and_parts}
use Rattle.std.specs.List.{AllByRecursion}
use Rattle.std.specs.List.Sorted.{IsStrictlySortedBy}
use Rattle.std.specs.Ordering.{nat_cmp}
use Rattle.std.specs.Fmt.{decimal}
use Rattle.zone_model.specs.Names.{Name}
use Rattle.zone_model.specs.Versions.{Version, Operation}
use Rattle.zone_model.specs.Transactions.{Transaction, no_changes}
use Rattle.job_model.specs.declared.Ending.{Ending}
use Rattle.job_model.specs.declared.Ending.TheVariants.{Commit, Rollback}
use Rattle.job_model.specs.Commands.{Command, Ask, Hold, AskHeld, Release, Block, Compact}
use Rattle.job_model.specs.Outcomes.{Cause, Rule, Full, Spent, Ended, Shown, Committed, RolledBack, Refused, Outcome, Pair, is_committed, made, times_made, JudgedBy, judged_by, WhyFull, Causes, BlockEnds, WorkerProgress, at_first, progress_after, Shows, EndsLawfully, Along, all_pairs, AllAlong, Lawful}
use Rattle.job_model.specs.Reports.{head_text, command_text, worker_text, workers_text}
use Rattle.report_laws.proofs.EndLemmas.{SmallCause, SmallEnded, EndsCompaction}
use Rattle.report_laws.proofs.RunLemmas.{OfKind, IsPlain, command_in, AllPlain}
use Rattle.report_laws.proofs.ShortLemmas.{IsShort, AllShort}
use Rattle.report_laws.proofs.ListLemmas.{all_up_to, older_rise}

-- ---- no more versions than commands

-- how many commands made one of the versions 1 to n
unfoldable pub made_to : ℕ → List Pair → ℕ
made_to zero pairs = 0
made_to (suc n) pairs = times_made (suc n) pairs + made_to n pairs

unfoldable pub once_to : ℕ → Pair → ℕ
once_to zero pair = 0
once_to (suc n) pair = cond (made (suc n) pair) 1 0 + once_to n pair

pub nothing_made : (n : ℕ) → made_to n [] ≡ 0
unfolding made_to
nothing_made zero = refl
nothing_made (suc n) = let k = nothing_made n in omega (arith, k)

pub made_first : (n : ℕ) (pair : Pair) (pairs : List Pair) → made_to n (pair ∷ pairs) ≡ once_to n pair + made_to n pairs
unfolding made_to once_to
made_first zero pair pairs = refl
made_first (suc n) pair pairs = let k = made_first n pair pairs in omega (arith, k)

pub record AtMostOne (n : ℕ) (pair : Pair) : Type 0 where
  pub one : once_to n pair ≤ 1
  pub none : n < pair.1.version → once_to n pair ≡ 0

pub at_most_one : (n : ℕ) (pair : Pair) → AtMostOne n pair
unfolding once_to
at_most_one zero pair = record { one = omega arith; none = λ _. refl }
at_most_one (suc n) pair = by_test (at_most_one n pair) (made (suc n) pair) refl
  where
    by_test : AtMostOne n pair → (b : Bool) → made (suc n) pair ≡ b → AtMostOne (suc n) pair
    by_test few true is =
        let last : pair.1.version ≡ suc n = eqb-true pair.1.version (suc n) (and_parts (is_committed pair.1.ended) (eqb pair.1.version (suc n)) is).1 in
        let before : once_to n pair ≡ 0 = few.none (omega (arith, last)) in
        record { one = rw is (omega (arith, before)); none = λ (l : suc n < pair.1.version). absurd (omega (arith, l, last)) }
    by_test few false is = record { one = rw is (omega (arith, few.one)); none = λ (l : suc n < pair.1.version). let k = few.none (omega (arith, l)) in rw is (omega (arith, k)) }

few_made : (n : ℕ) (pairs : List Pair) → made_to n pairs ≤ length pairs
few_made n [] = let none = nothing_made n in omega (arith, none)
few_made n (pair ∷ pairs) =
    let first = made_first n pair pairs in
    let one = (at_most_one n pair).one in
    let more = few_made n pairs in
    omega (arith, first, one, more)

pub all_made : (n : ℕ) (pairs : List Pair) → ((j : ℕ) → 0 < j → j ≤ n → times_made j pairs ≡ 1) → made_to n pairs ≡ n
unfolding made_to
all_made zero pairs once = refl
all_made (suc n) pairs once =
    let now = once (suc n) (omega arith) (omega arith) in
    let more = all_made n pairs (λ (j : ℕ) (p : 0 < j) (l : j ≤ n). once j p (omega (arith, l))) in
    omega (arith, now, more)

-- ---- no more commands than octets

head_some : (w n v : ℕ) → 0 < length (head_text w n v)
head_some w n v = omega (arith, length-append (decimal w ++ codes "." ++ decimal n ++ codes " v" ++ decimal v) (codes " "))

worker_long : (origin : Name) (set : ℕ → Version) (w n : ℕ) (pairs : List Pair) → length pairs ≤ length (worker_text origin set w n pairs)
worker_long origin set w n [] = omega arith
worker_long origin set w n (pair ∷ pairs) =
    let some = head_some w n pair.1.version in
    let more = worker_long origin set w (n + 1) pairs in
    omega (arith, some, more, length-append (head_text w n pair.1.version ++ command_text origin set pair.0 pair.1) (worker_text origin set w (n + 1) pairs), length-append (head_text w n pair.1.version) (command_text origin set pair.0 pair.1))

workers_long : (origin : Name) (set : ℕ → Version) (w : ℕ) (ws : List (List Pair)) → length (all_pairs ws) ≤ length (workers_text origin set w ws)
workers_long origin set w [] = omega arith
workers_long origin set w (pairs ∷ ws) =
    let some = worker_long origin set w 1 pairs in
    let more = workers_long origin set (w + 1) ws in
    omega (arith, some, more, length-append pairs (all_pairs ws), length-append (worker_text origin set w 1 pairs) (workers_text origin set (w + 1) ws))

-- the last version of lawful outcomes is no greater than their text is long
pub last_small : (chunks passes : ℕ) (origin : Name) (zone : Version) (ws : List (List Pair)) (last : ℕ) (set : ℕ → Version) → Lawful chunks passes origin zone ws last → last ≤ length (workers_text origin set 1 ws)
last_small chunks passes origin zone ws last set lawful =
    let all = all_made last (all_pairs ws) lawful.once in
    let few = few_made last (all_pairs ws) in
    let long = workers_long origin set 1 ws in
    omega (arith, all, few, long)

-- ---- kinds and numbers

kept_small : (n base : ℕ) (older : List ℕ) → base < n → IsStrictlySortedBy nat_cmp (older ++ base ∷ []) → AllByRecursion (λ v. v < n) (older ++ base ∷ [])
kept_small n base older small sorted = all_up_to (λ v. v < n) base older (λ v l. omega (arith, l, small)) (older_rise base older sorted).1

full_small : (s : JudgedBy) (asked : Transaction) (base operation : ℕ) (kept : List ℕ) → base < 2 ^ 64 → length asked.operations < 2 ^ 64 → WhyFull s asked base operation kept → SmallCause (Full operation kept)
full_small s asked base operation kept small short full =
    let all = ap (λ (l : List Operation). length l) full.all in
    let number = full.number in (
      omega (arith, all, number, short, length-append full.front (full.refused ∷ full.back)),
      subst (λ (l : List ℕ). AllByRecursion (λ v. v < 2 ^ 64) l) (sym full.base_last) (kept_small (2 ^ 64) base full.older small (subst (λ (l : List ℕ). IsStrictlySortedBy nat_cmp l) full.base_last full.rising)),
    )

cause_small : (s : JudgedBy) (asked : Transaction) (ending : Ending) (base : ℕ) (cause : Cause) → base < 2 ^ 64 → length asked.operations < 2 ^ 64 → Causes s asked ending base cause → SmallCause cause
cause_small s asked ending base (Rule refusal) small short causes = tt
cause_small s asked ending base (Full operation kept) small short causes = full_small s asked base operation kept small short causes
cause_small s asked ending base Spent small short causes = tt

shown_from : (May : Type 0) (ended : Ended) → Shows May ended → ended ≡ Shown
shown_from May Shown shows = refl
shown_from May Committed shows = absurd shows
shown_from May RolledBack shows = absurd shows
shown_from May (Refused cause) shows = absurd shows

shown_plain : (command : Command) (May : Type 0) (o : Outcome) → ((ended : Ended) → ended ≡ Shown → OfKind command ended) → o.version < 2 ^ 64 → Shows May o.ended → IsPlain command o
shown_plain command May o kind small shows =
    let is = shown_from May o.ended shows in
    record { version = small; kind = kind o.ended is; small = subst SmallEnded (sym is) tt }

block_plain : (s : JudgedBy) (seen : ℕ) (asked : Transaction) (ending : Ending) (v : ℕ) (ended : Ended) → v < 2 ^ 64 → length asked.operations < 2 ^ 64 → BlockEnds s seen asked ending v ended → (ended ≡ Shown → ⊥) × SmallEnded ended
block_plain s seen asked ending v Shown small short ends = absurd ends
block_plain s seen asked ending v Committed small short ends = (λ (e : Committed ≡ Shown). cc, tt)
block_plain s seen asked ending v RolledBack small short ends = (λ (e : RolledBack ≡ Shown). cc, tt)
block_plain s seen asked ending v (Refused cause) small short ends = (λ (e : Refused cause ≡ Shown). cc, cause_small s asked ending v cause small short ends.1)

compaction_plain : (s : JudgedBy) (seen v : ℕ) (ended : Ended) → v < 2 ^ 64 → BlockEnds s seen no_changes Commit v ended → EndsCompaction ended × SmallEnded ended
compaction_plain s seen v Shown small ends = absurd ends
compaction_plain s seen v Committed small ends = (tt, tt)
compaction_plain s seen v RolledBack small ends = let never : Commit ≡ Rollback = ends.0 in absurd cc
compaction_plain s seen v (Refused cause) small ends = (tt, cause_small s no_changes Commit v cause small (omega arith) ends.1)

plain : (s : JudgedBy) (progress : WorkerProgress) (command : Command) (o : Outcome) → o.version < 2 ^ 64 → IsShort command → EndsLawfully s progress command o.version o.ended → IsPlain command o
plain s progress (Ask question) o small short ends = shown_plain (Ask question) (progress.seen ≤ o.version) o (λ (ended : Ended) (e : ended ≡ Shown). e) small ends
plain s progress Hold o small short ends = shown_plain Hold (progress.seen ≤ o.version) o (λ (ended : Ended) (e : ended ≡ Shown). e) small ends
plain s progress (AskHeld question) o small short ends = shown_plain (AskHeld question) (progress.held ≡ Some o.version) o (λ (ended : Ended) (e : ended ≡ Shown). e) small ends
plain s progress Release o small short ends = shown_plain Release (progress.held ≡ Some o.version) o (λ (ended : Ended) (e : ended ≡ Shown). e) small ends
plain s progress (Block _ asked ending) o small short ends =
    let told = block_plain s progress.seen asked ending o.version o.ended small (omega (arith, short)) ends in
    record { version = small; kind = told.0; small = told.1 }
plain s progress Compact o small short ends = let told = compaction_plain s progress.seen o.version o.ended small ends in record { version = small; kind = told.0; small = told.1 }

-- ---- all commands

along_plain : (s : JudgedBy) (progress : WorkerProgress) (last : ℕ) (pairs : List Pair) → last < 2 ^ 64 → AllByRecursion (λ pair. pair.1.version ≤ last) pairs → AllByRecursion IsShort (map command_in pairs) → Along s progress pairs → AllPlain pairs
along_plain s progress last [] small below short along = tt
along_plain s progress last (pair ∷ pairs) small below short along = (
  plain s progress pair.0 pair.1 (let l = below.0 in omega (arith, l, small)) short.0 along.0,
  along_plain s (progress_after progress pair.0 pair.1.version) last pairs small below.1 short.1 along.1,
)

both_of : (P : Pair → Type 0) (xs ys : List Pair) → AllByRecursion P (xs ++ ys) → AllByRecursion P xs × AllByRecursion P ys
both_of P [] ys all = (tt, all)
both_of P (x ∷ xs) ys all = let parts = both_of P xs ys all.1 in ((all.0, parts.0), parts.1)

all_along_plain : (s : JudgedBy) (last : ℕ) (ws : List (List Pair)) → last < 2 ^ 64 → AllByRecursion (λ pair. pair.1.version ≤ last) (all_pairs ws) → AllShort (map (map command_in) ws) → AllAlong s ws → AllByRecursion AllPlain ws
all_along_plain s last [] small below short along = tt
all_along_plain s last (pairs ∷ ws) small below short along =
    let parts = both_of (λ (pair : Pair). pair.1.version ≤ last) pairs (all_pairs ws) below in
    (along_plain s at_first last pairs small parts.0 short.0 along.0, all_along_plain s last ws small parts.1 short.1 along.1)

-- lawful outcomes of short blocks
pub lawful_plain : (chunks passes : ℕ) (origin : Name) (zone : Version) (ws : List (List Pair)) (last : ℕ) → last < 2 ^ 64 → AllShort (map (map command_in) ws) → Lawful chunks passes origin zone ws last → AllByRecursion AllPlain ws
lawful_plain chunks passes origin zone ws last small short lawful = all_along_plain (judged_by chunks passes origin zone ws) last ws small lawful.none_above short lawful.along
