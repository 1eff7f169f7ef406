-- Where a table is roomy for what is published and done, each step of a transaction leaves it so.
use Rattle.std.proofs.Common.{◌≡◌, ◌∙◌, ℕ, ◌+◌, ◌*◌, ◌/◌, ◌≤◌, List, [], ◌∷◌, ◌++◌, length, Option, sym, ap, subst, arith, append_assoc, append-nil, length-append}
use Rattle.std.specs.Prelude.{unwrap_or}
use Rattle.std.specs.List.{Contains}
use Rattle.std.proofs.lemmas.List.Elements.{All-filter, Contains-append_left, Contains-push}
use Rattle.std.proofs.lemmas.List.Sums.{fold-append}
use Rattle.trie_model.specs.Keys.{Entry}
use Rattle.trie_model.specs.Shape.{cells}
use Rattle.chunk_usage.specs.declared.space.Shortage.{Shortage}
use Rattle.trie_model.specs.Capacity.{is_roomy}
use Rattle.chunk_usage.specs.Handing.{Lacks, consumed}
use Rattle.chunk_usage.specs.Keeping.{closed, is_among, rows_of}
use Rattle.chunk_usage.specs.Ledger.{Ledger, Frozen, IsLedger, Row, free_count, is_bump}
use Rattle.shared_cells.specs.declared.view.Entry.{Entry as Commit}
use Rattle.shared_cells.specs.History.{StartsWith, version_after}
use Rattle.qp_multi.specs.declared.writer.WorkingVersion.{WorkingVersion}
use Rattle.qp_multi.specs.declared.meaning.Operation.{Operation}
use Rattle.qp_multi.specs.Bounds.{IsCramped}
use Rattle.qp_multi.specs.Capacity.{BoundsHistory, EachRoomy, RestsRoomy, WorksRoomy, given_count, most_at_rest}
use Rattle.qp_multi.specs.Crowds.{BoundsWork, EachSmall, RestsSmall, RowsAreFew, WorksSmall, most_met, row_size}
use Rattle.qp_multi.specs.Closings.{AllSeen}
use Rattle.qp_multi.specs.Operations.{applied}
use Rattle.qp_multi.specs.Passes.{first_version, version_seen}
use Rattle.qp_multi.specs.Tries.{Grown, Spares}
use Rattle.qp_multi.proofs.BoundLaws.{small_on, work_part}
use Rattle.qp_multi.proofs.CrowdLaws.{begins_small, closed_rests, rests_grown, spread_few, tried_small}
use Rattle.qp_multi.proofs.GivenLaws.{given_short, given_consumed, consumed_given}

-- ---- numbers that bound a history bound what it begins with

pub bounds_part : {c o : ℕ} (s t : AllSeen) → t.opening ≡ s.opening → StartsWith t.history s.history → BoundsHistory c o t → BoundsHistory c o s
bounds_part {c} {o} s t opening grows b = record {
  versions = λ part st. subst (λ (x : Option (List Entry)). cells (version_after applied (unwrap_or x []) part) ≤ c) opening
      (b.versions part (st.0 ++ grows.0, grows.1 ∙ ap (λ (h : List (Commit (List Operation))). h ++ grows.0) st.1 ∙ append_assoc part st.0 grows.0));
  commits = λ e h. b.commits e (subst (λ (hs : List (Commit (List Operation))). Contains hs e) (sym grows.1) (Contains-append_left s.history grows.0 e h));
}

pub same_part : (s t : AllSeen) → t.history ≡ s.history → StartsWith t.history s.history
same_part s t e = ([], e ∙ sym (append-nil s.history))

-- what they say of the version, and of the operations, that were published last

pub last_cells : {c o : ℕ} (s t : AllSeen) (entry : Commit (List Operation)) → t.opening ≡ s.opening → t.history ≡ s.history ++ entry ∷ [] → BoundsHistory c o t → cells (applied (version_seen s) entry.change) ≤ c
last_cells {c} s t entry opening history b =
    let all = b.versions t.history ([], sym (append-nil t.history)) in
    let e : version_after applied (first_version t) t.history ≡ applied (version_seen s) entry.change =
    ap (λ (x : Option (List Entry)). version_after applied (unwrap_or x []) t.history) opening ∙ ap (version_after applied (first_version s)) history
    ∙ fold-append (λ (x : List Entry) (y : Commit (List Operation)). applied x y.change) (first_version s) s.history (entry ∷ []) in
    subst (λ (es : List Entry). cells es ≤ c) e all

pub last_operations : {c o : ℕ} (s t : AllSeen) (entry : Commit (List Operation)) → t.history ≡ s.history ++ entry ∷ [] → BoundsHistory c o t → length entry.change ≤ o
last_operations s t entry history b = b.commits entry (subst (λ (hs : List (Commit (List Operation))). Contains hs entry) (sym history) (Contains-push s.history entry))

-- ---- what holds where a table is roomy, of another ledger of that table and of what was seen later

pub each_on : (u n : Ledger) (s t : AllSeen) {P Q : ℕ → ℕ → Type 0} → n.passes ≡ u.passes → length n.given ≡ length u.given → t.opening ≡ s.opening → StartsWith t.history s.history → ((c o : ℕ) → BoundsHistory c o t → P c o → Q c o) → EachRoomy u s P → EachRoomy n t Q
each_on u n s t passes wide opening history weaker each c o some b roomy =
    weaker c o b (each c o some (bounds_part s t opening history b)
    (subst (λ (p : ℕ). is_roomy p c o (length u.given)) passes (subst (λ (k : ℕ). is_roomy n.passes c o k) wide roomy)))

pub rest_same : (u n : Ledger) (c : ℕ) → n.passes ≡ u.passes → most_at_rest n c ≡ most_at_rest u c
rest_same u n c passes = ap (λ (p : ℕ). (p + 1) * most_met c + 2) passes

-- ---- numbers

more_passes : (p w : ℕ) → (p + 2) * w ≡ (p + 1) * w + w
more_passes p w = omega arith

pub some_passes : (p w : ℕ) → w ≤ (p + 1) * w
some_passes p w = let e : (p + 1) * w ≡ p * w + w = omega arith in omega arith

given_all : (u : Ledger) → length u.given ≤ given_count u + free_count u
given_all u = omega arith

-- a try finds room: of what was given before, 40 chunks more are given at most, and those are no more than the reserve leaves
pub no_shortage : (c o : ℕ) (u n : Ledger) (f : Shortage) (done : ℕ) → 1 ≤ o → is_roomy u.passes c o (length u.given) → length n.given ≡ length u.given → done ≤ o → consumed u ≤ 769 * (most_at_rest u c + 40 * done) → consumed n ≤ consumed u + 30760 → Lacks n f → ⊥
no_shortage c o u n f done some roomy wide few before after lacks =
    let w = most_met c in
    let a = more_passes u.passes w in
    let b = some_passes u.passes w in
    let g = given_short n f lacks in
    let h = given_all n in
    let none = lacks.0.none_free in omega arith

-- an evacuation finds a chunk for each 769 cells
pub none_wanting : (c o : ℕ) (u n : Ledger) (done many : ℕ) → is_roomy u.passes c o (length u.given) → done ≤ o → consumed u ≤ 769 * (most_at_rest u c + 40 * done) → many ≤ c → free_count n ≡ 0 → free_count u + 1 ≤ free_count n + (many / 769 + 1) → ⊥
none_wanting c o u n done many roomy few before fits none asks =
    let w = most_met c in
    let a = more_passes u.passes w in
    let g = given_consumed u in
    let h = given_all u in omega arith

-- ---- a transaction begins

pub begins_roomy : (u : Ledger) (s : AllSeen) → u.live ≡ u.last_live → ((k : ℕ) → is_bump u.bump k ≡ is_bump u.fender k) → RestsRoomy u s → WorksRoomy u s []
begins_roomy u s live bump r = record {
  rows = r.rows;
  consumes = λ c o some b roomy few. let a = r.given c o some b roomy in let e = consumed_given u in omega arith;
  rests = r.rests;
  works = λ most small some b within. begins_small most u live bump (r.rests most small some b);
}

pub closed_roomy : (u n : Ledger) (s : AllSeen) → n ≡ closed u → RestsRoomy u s → RestsRoomy n s
closed_roomy u n s after r = subst (λ (l : Ledger). RestsRoomy l s) (sym after) (record { rows = r.rows; given = r.given; rests = λ most small some b. closed_rests most u (r.rests most small some b) })

-- ---- an operation was tried

pub tried_rows : (u n : Ledger) (s t : AllSeen) → Grown u n → t.opening ≡ s.opening → t.history ≡ s.history → EachRoomy u s (λ c _. RowsAreFew c u.rows) → EachRoomy n t (λ c _. RowsAreFew c n.rows)
tried_rows u n s t grown opening history rows =
    let row : n.rows ≡ u.rows = ap (λ (f : Frozen). f.rows) grown.frozen in
    each_on u n s t (ap (λ (f : Frozen). f.passes) grown.frozen) grown.wide opening (same_part s t history) (λ c o b few. subst (RowsAreFew c) (sym row) few) rows

-- few chunks are met still

abbrev pub StaysEach : Ledger → Ledger → AllSeen → AllSeen → List Operation → List Operation → Type 0
StaysEach u n s t operations now =
    EachSmall n t (λ most. RestsSmall most n) × EachSmall n t (λ most. BoundsWork most t now → WorksSmall most n)

pub tried_each : (u n : Ledger) (s t : AllSeen) (operations more : List Operation) → IsLedger n → Spares u n → t.opening ≡ s.opening → t.history ≡ s.history → WorksRoomy u s operations → StaysEach u n s t operations (operations ++ more)
tried_each u n s t operations more is spares opening history r =
    let part = same_part s t history in (
      small_on u n s t spares.grown.wide opening part (λ most small b some rests. rests_grown most u n spares.grown rests) r.rests,
      small_on u n s t spares.grown.wide opening part (λ most small b some works within.
          tried_small most u n spares (spread_few u n is spares.grown spares.grown.meets) (works (work_part s t operations more opening history within))) r.works,
    )

-- it was done
pub done_roomy : (u n : Ledger) (s t : AllSeen) (operations : List Operation) (o : Operation) → IsLedger n → Spares u n → t.opening ≡ s.opening → t.history ≡ s.history → consumed n ≤ consumed u + 30760 → WorksRoomy u s operations → WorksRoomy n t (operations ++ o ∷ [])
done_roomy u n s t operations o is spares opening history cost r =
    let grown = spares.grown in
    let passes : n.passes ≡ u.passes = ap (λ (f : Frozen). f.passes) grown.frozen in
    let one = length-append operations (o ∷ []) in
    let each = tried_each u n s t operations (o ∷ []) is spares opening history r in
    record {
      rows = tried_rows u n s t grown opening history r.rows;
      consumes = each_on u n s t passes grown.wide opening (same_part s t history) (λ c m b before few. let a = before (omega arith) in let e = rest_same u n c passes in omega arith) r.consumes;
      rests = each.0;
      works = each.1;
    }

-- it found no room: so none of these numbers are such
pub cramped_of : (u n : Ledger) (s : AllSeen) (operations : List Operation) (f : Shortage) → length n.given ≡ length u.given → consumed n ≤ consumed u + 30760 → Lacks n f → WorksRoomy u s operations → EachRoomy u s (λ c o. length operations ≤ o → ⊥)
cramped_of u n s operations f wide cost lacks r c o some b roomy few = no_shortage c o u n f (length operations) some roomy wide few (r.consumes c o some b roomy few) cost lacks

pub short_roomy : (u n : Ledger) (s t : AllSeen) (operations : List Operation) (f : Shortage) → IsLedger n → Spares u n → t.opening ≡ s.opening → t.history ≡ s.history → consumed n ≤ consumed u + 30760 → Lacks n f → WorksRoomy u s operations → WorksRoomy n t operations
short_roomy u n s t operations f is spares opening history cost lacks r =
    let grown = spares.grown in
    let each = tried_each u n s t operations [] is spares opening history r in
    record {
      rows = tried_rows u n s t grown opening history r.rows;
      consumes = each_on u n s t (ap (λ (f : Frozen). f.passes) grown.frozen) grown.wide opening (same_part s t history) (λ c o b none few. absurd (none few)) (cramped_of u n s operations f grown.wide cost lacks r);
      rests = each.0;
      works = subst (λ (os : List Operation). EachSmall n t (λ most. BoundsWork most t os → WorksSmall most n)) (append-nil operations) each.1;
    }

-- ---- rows

pub rows_narrowed : (c : ℕ) (versions : List ℕ) (rows : List Row) → RowsAreFew c rows → RowsAreFew c (rows_of versions rows)
rows_narrowed c versions rows few = All-filter (λ (r : Row). is_among versions r.version) (λ (r : Row). row_size r ≤ most_met c) rows few

-- ---- of a working version

pub cramped_working : (d : WorkingVersion) → EachRoomy d.usage d.seat.place.me.0.seen (λ c o. length d.log.operations ≤ o → ⊥) → IsCramped d
cramped_working d none c o b roomy = none c o b.some b.history (subst (λ (p : ℕ). is_roomy p c o (length d.usage.given)) (sym d.agrees.passes) roomy) b.operations

pub each_cramped : (d : WorkingVersion) → IsCramped d → EachRoomy d.usage d.seat.place.me.0.seen (λ c o. length d.log.operations ≤ o → ⊥)
each_cramped d none c o some b roomy few = none c o (record { some = some; history = b; operations = few }) (subst (λ (p : ℕ). is_roomy p c o (length d.usage.given)) d.agrees.passes roomy)
