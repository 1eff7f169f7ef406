-- The steps of a transaction, and what they leave where a table is roomy.
use Rattle.std.proofs.Common.{◌≡◌, ◌∙◌, inl, inr, ℕ, ◌+◌, ◌-◌, ◌*◌, ◌/◌, ◌≤◌, nat_lt, Bool, true, false, List, [], ◌∷◌, ◌++◌, length, Option, Result, Ok, Err, refl, sym, ap, subst, arith, append-nil, length-append}
use Rattle.std.specs.Prelude.{IsOk, count_by}
use Rattle.std.proofs.lemmas.Bool.{cases_lt}
use Rattle.std.proofs.lemmas.List.Elements.{All-nil, All-push}
use Rattle.std.proofs.lemmas.List.{length-map}
use Rattle.trie_model.specs.Keys.{Entry}
use Rattle.trie_model.specs.Shape.{cells}
use Rattle.chunk_usage.specs.declared.space.Shortage.{Shortage}
use Rattle.trie_model.specs.Capacity.{is_roomy}
use Rattle.chunk_usage.specs.Counting.{sparse_count}
use Rattle.chunk_usage.specs.Handing.{consumed}
use Rattle.chunk_usage.specs.Keeping.{freed, frozen, kept_versions, narrowed, restored, rows_of}
use Rattle.chunk_usage.specs.Ledger.{Ledger, Frozen, Row, IsLedger, free_count, is_used, reserve_of, row_of}
use Rattle.shared_cells.specs.declared.view.Entry.{Entry as Commit}
use Rattle.shared_cells.specs.Cells.{Cells, HasCell}
use Rattle.shared_cells.specs.Views.{words_of}
use Rattle.qp_multi.specs.declared.change.TrieChange.{TrieChange}
use Rattle.trie_write.specs.declared.refusal.NotDone.{NotDone}
use Rattle.trie_write.specs.declared.refusal.NotDone.TheVariants as not_done
use Rattle.qp_multi.specs.declared.writer.WorkingVersion.{WorkingVersion}
use Rattle.qp_multi.specs.declared.meaning.Operation.{Operation}
use Rattle.qp_multi.specs.Bounds.{BoundsWorking, Crowds, HasRoom, IsCramped, IsCrowded, IsSmall, StaysSmall, WhereRoomy, WhereSmall}
use Rattle.qp_multi.specs.Capacity.{BoundsHistory, EachRoomy, RestsRoomy, WorksRoomy, given_count}
use Rattle.qp_multi.specs.Crowds.{BoundsWays, BoundsWork, EachSmall, RestsSmall, RowsAreFew, base_count, met_in, most_met, row_size}
use Rattle.qp_multi.specs.Changes.{LeadsItem, operation_of}
use Rattle.qp_multi.specs.Closings.{AllSeen}
use Rattle.qp_multi.specs.WorkingVersions.{Operates, Works, working_set}
use Rattle.qp_multi.specs.Keepings.{GoesOn}
use Rattle.qp_multi.specs.Movings.{FewThin}
use Rattle.qp_multi.specs.Operations.{applied}
use Rattle.qp_multi.specs.Passes.{Known, first_version, version_seen}
use Rattle.qp_multi.specs.Receipts.{Settles}
use Rattle.qp_multi.specs.Rooms.{MakesRoom}
use Rattle.qp_multi.specs.Tries.{Grown, Spares, Tried}
use Rattle.qp_multi.specs.Turns.{Agrees, cells_with}
use Rattle.qp_multi.proofs.CapacityLaws.{bounds_part, cramped_working, cramped_of, done_roomy, each_cramped, each_on, last_cells, last_operations, none_wanting, rows_narrowed, same_part, short_roomy, some_passes}
use Rattle.qp_multi.proofs.BoundLaws.{last_ways, small_on, ways_part, work_part, work_whole}
use Rattle.qp_multi.proofs.CauseLaws.{each_needed}
use Rattle.qp_multi.proofs.CrowdLaws.{base_same, published_small, spread_few, tried_small, undone_small}
use Rattle.qp_multi.proofs.GivenLaws.{given_at_rest, given_consumed}
use Rattle.qp_multi.proofs.GoesLaws.{words_go_on}
use Rattle.qp_multi.proofs.SmallLaws.{first_small, ready_small}
use Rattle.qp_multi.proofs.SettleLaws.{IsAlike}
use Rattle.qp_multi.proofs.ShortLaws.{few_consumed}
use Rattle.qp_multi.proofs.ThinLaws.{live_few, live_given, met_few, set_size}
use Rattle.qp_multi.proofs.WorkLaws.{set_stays}
use Rattle.qp_multi.proofs.WordsLaws.{freed_chunks}

-- ---- an operation was tried

pub tried_done : (c : TrieChange) (d : WorkingVersion) (w : Known) (n : Ledger) (new : Option ℕ) (operations : List Operation) → Works d → LeadsItem c → IsLedger n → Tried c d.root d.seat.place.me.0 d.usage w n (Ok new) → operations ≡ d.log.operations ++ operation_of c ∷ [] → HasRoom d → WorksRoomy n w.seen operations
tried_done c d w n new operations works leads is t log room =
    let on = words_go_on d.seat.place.me.0 w (words_of w.turn) t.same in
    subst (WorksRoomy n w.seen) (sym log)
    (done_roomy d.usage n d.seat.place.me.0.seen w.seen d.log.operations (operation_of c) is t.spares on.opening on.history (few_consumed d c n works leads t.consumes) room)

-- nothing more is known of what was published
kept_roomy : (s t : AllSeen) (u : Ledger) (operations : List Operation) → t.opening ≡ s.opening → t.history ≡ s.history → WorksRoomy u s operations → WorksRoomy u t operations
kept_roomy s t u operations opening history r =
    let part = same_part s t history in
    record {
      rows = each_on u u s t refl refl opening part (λ c o b few. few) r.rows;
      consumes = each_on u u s t refl refl opening part (λ c o b few. few) r.consumes;
      rests = small_on u u s t refl opening part (λ most small b some rests. rests) r.rests;
      works = small_on u u s t refl opening part (λ most small b some works within.
          works (work_part s t operations [] opening history (subst (BoundsWork most t) (sym (append-nil operations)) within))) r.works;
    }

pub tried_failed : (c : TrieChange) (d : WorkingVersion) (w : Known) (n : Ledger) (x : NotDone) → Works d → LeadsItem c → IsLedger n → Tried c d.root d.seat.place.me.0 d.usage w n (Err x) → HasRoom d → WorksRoomy n w.seen d.log.operations
tried_failed c d w n not_done.Refused works leads is t room =
    let on = words_go_on d.seat.place.me.0 w (words_of w.turn) t.same in
    subst (λ (u : Ledger). WorksRoomy u w.seen d.log.operations) (sym (t.denied refl)) (kept_roomy d.seat.place.me.0.seen w.seen d.usage d.log.operations on.opening on.history room)
tried_failed c d w n (not_done.Full f) works leads is t room =
    let on = words_go_on d.seat.place.me.0 w (words_of w.turn) t.same in
    short_roomy d.usage n d.seat.place.me.0.seen w.seen d.log.operations f is t.spares on.opening on.history (few_consumed d c n works leads t.consumes) (t.full f refl) room

pub tried_cramped : (c : TrieChange) (d : WorkingVersion) (w : Known) (n : Ledger) (f : Shortage) → Works d → LeadsItem c → Tried c d.root d.seat.place.me.0 d.usage w n (Err (not_done.Full f)) → HasRoom d → IsCramped d
tried_cramped c d w n f works leads t room = cramped_working d (cramped_of d.usage n d.seat.place.me.0.seen d.log.operations f t.spares.grown.wide (few_consumed d c n works leads t.consumes) (t.full f refl) room)

-- ---- the rows that are left

pub record KeepsRows (u n : Ledger) : Type 0 where
  pub passes : n.passes ≡ u.passes
  pub wide : length n.given ≡ length u.given
  pub rows : (c : ℕ) → RowsAreFew c u.rows → RowsAreFew c n.rows
  pub base : base_count n ≡ base_count u

pub keeps_grown : {u n : Ledger} → Grown u n → KeepsRows u n
keeps_grown {u} {n} g = record {
  passes = ap (λ (f : Frozen). f.passes) g.frozen;
  wide = g.wide;
  rows = λ c few. subst (RowsAreFew c) (sym (ap (λ (f : Frozen). f.rows) g.frozen)) few;
  base = base_same u n g.wide g.frozen;
}

keeps_narrowed : (u : Ledger) (versions : List ℕ) → KeepsRows u (freed (narrowed u versions))
keeps_narrowed u versions = record {
  passes = refl;
  wide = freed_chunks (narrowed u versions);
  rows = λ c few. rows_narrowed c versions u.rows few;
  base = ap (λ (k : ℕ). met_in k u.last_live u.fender) (freed_chunks (narrowed u versions));
}

pub keeps_round : (u n : Ledger) (versions : List ℕ) → n ≡ freed (narrowed u versions) → KeepsRows u n
keeps_round u n versions e = subst (KeepsRows u) (sym e) (keeps_narrowed u versions)

pub keeps_then : {u m n : Ledger} → KeepsRows u m → KeepsRows m n → KeepsRows u n
keeps_then a b = record { passes = b.passes ∙ a.passes; wide = b.wide ∙ a.wide; rows = λ c few. b.rows c (a.rows c few); base = b.base ∙ a.base }

pub keeps_made : {first left : WorkingVersion} → MakesRoom first left → KeepsRows first.usage left.usage
keeps_made {first} {left} m =
    keeps_then (keeps_round first.usage m.room.usage (kept_versions m.room.usage) m.before.round.frees)
    (keeps_then (keeps_grown m.evacuates.grown) (keeps_round m.emptied.usage left.usage (kept_versions left.usage) m.behind.round.frees))

pub each_kept : (u n : Ledger) (s t : AllSeen) → KeepsRows u n → t.opening ≡ s.opening → t.history ≡ s.history → EachRoomy u s (λ c _. RowsAreFew c u.rows) → EachRoomy n t (λ c _. RowsAreFew c n.rows)
each_kept u n s t k opening history rows = each_on u n s t k.passes k.wide opening (same_part s t history) (λ c o b few. k.rows c few) rows

pub rests_kept : (u n : Ledger) (s t : AllSeen) → KeepsRows u n → t.opening ≡ s.opening → t.history ≡ s.history → EachSmall u s (λ most. RestsSmall most u) → EachSmall n t (λ most. RestsSmall most n)
rests_kept u n s t k opening history =
    small_on u n s t k.wide opening (same_part s t history) (λ most small b some r. record { rows = k.rows most r.rows; base = let e = k.base in let a = r.base in omega arith })

-- an operation is done, or it isn't
pub no_fewer : {o : Operation} {denied : List Entry → Type 0} {old new : WorkingVersion} {B : Type 0} (r : Result (Unit {0}) NotDone) → Operates o denied old new (IsOk r) B → length old.log.operations ≤ length new.log.operations
no_fewer {o} {denied} {old} {new} (Ok x) h = let e = ap (λ (os : List Operation). length os) (h.done refl) ∙ length-append old.log.operations (o ∷ []) in omega arith
no_fewer {o} {denied} {old} {new} (Err x) h = let e = ap (λ (os : List Operation). length os) (h.stays (λ ok. cc)) in omega arith

-- the operations are as before, or one more
pub begins_with : {o : Operation} {denied : List Entry → Type 0} {old new : WorkingVersion} {B : Type 0} (r : Result (Unit {0}) NotDone) → Operates o denied old new (IsOk r) B → (more : List Operation) × (new.log.operations ≡ old.log.operations ++ more)
begins_with {o} {denied} {old} {new} (Ok x) h = (o ∷ [], h.done refl)
begins_with {o} {denied} {old} {new} (Err x) h = ([], h.stays (λ ok. cc) ∙ sym (append-nil old.log.operations))

-- where the numbers aren't those of a roomy table, nothing is said of what was given
pub cramped_room : (d first e : WorkingVersion) → HasRoom d → IsCramped d → KeepsRows d.usage e.usage → GoesOn d.seat.place.me.0 e.seat.place.me.0 → (more : List Operation) × (e.log.operations ≡ d.log.operations ++ more)
    → IsLedger first.usage → Spares d.usage first.usage → working_set first ≡ working_set d → length first.usage.given ≡ length d.usage.given → StaysSmall first e.usage → HasRoom e
cramped_room d first e room cramped keeps on more is spares same wide stays =
    let s = d.seat.place.me.0.seen in
    let t = e.seat.place.me.0.seen in
    let longer = ap (λ (os : List Operation). length os) more.1 ∙ length-append d.log.operations more.0 in
    record {
      rows = each_kept d.usage e.usage s t keeps on.opening on.history room.rows;
      consumes = each_on d.usage e.usage s t keeps.passes keeps.wide on.opening (same_part s t on.history) (λ c o b none few. absurd (none (omega arith))) (each_cramped d cramped);
      rests = rests_kept d.usage e.usage s t keeps on.opening on.history room.rests;
      works = small_on d.usage e.usage s t keeps.wide on.opening (same_part s t on.history) (λ most small b some works within.
          let before = work_part s t d.log.operations more.0 on.opening on.history (subst (BoundsWork most t) more.1 within) in
          let tried = tried_small most d.usage first.usage spares (spread_few d.usage first.usage is spares.grown spares.grown.meets) (works before) in
          let fits = subst (λ (es : List Entry). cells es ≤ most) (sym same) (work_whole s d.log.operations before) in
          stays most small (let k = keeps.wide in omega arith) fits tried) room.works;
    }

-- a first try found no room, and what made room and tried again found none
pub crowded_by : (old first d : WorkingVersion) (key : List ℕ) (written : ℕ) (kept : List ℕ) → HasRoom old → Crowds first d key written → GoesOn old.seat.place.me.0 d.seat.place.me.0 → d.log.operations ≡ old.log.operations
    → IsLedger first.usage → Spares old.usage first.usage → working_set first ≡ working_set old → length d.usage.given ≡ length old.usage.given → kept ≡ kept_versions d.usage → IsCrowded d key written (length kept)
crowded_by old first d key written kept room k on log is spares same wide told = record {
  path = k.path;
  on_path = k.on_path;
  few_twigs = k.few_twigs;
  bound = λ most small some b.
      let s = old.seat.place.me.0.seen in
      let t = d.seat.place.me.0.seen in
      let here : 4 ≤ length old.usage.given = subst (λ (n : ℕ). 4 ≤ n) wide some in
      let work = work_part s t old.log.operations [] on.opening on.history (subst (BoundsWork most t) (log ∙ sym (append-nil old.log.operations)) b.work) in
      let before = room.works most small here (ways_part s t on.opening (same_part s t on.history) b.history) work in
      let tried = tried_small most old.usage first.usage spares (spread_few old.usage first.usage is spares.grown spares.grown.meets) before in
      let fits = subst (λ (es : List Entry). cells es ≤ most) (sym same) (work_whole s old.log.operations work) in
      let count = ap (λ (vs : List ℕ). length vs) told ∙ length-map d.usage.rows (λ (r : Row). r.version) in
      let a = k.bound most small (subst (λ (n : ℕ). 4 ≤ n) (sym spares.grown.wide) here) fits tried in
      subst (λ (n : ℕ). length d.usage.given - reserve_of d.usage ≤ (n + 1) * most_met most + 1 + (written + k.path) / 769) (sym count) a;
}

-- ---- a working set is made ready for a commit

pub whole_where : (d e : WorkingVersion) (so : Type 0) → HasRoom d → free_count e.usage ≡ 0 → free_count d.usage + 1 ≤ free_count e.usage + (cells (working_set d) / 769 + 1) → WhereRoomy d so
whole_where d e so room none asks c o b fits roomy =
    let r = subst (λ (p : ℕ). is_roomy p c o (length d.usage.given)) (sym d.agrees.passes) roomy in
    absurd (none_wanting c o d.usage e.usage (length d.log.operations) (cells (working_set d)) r b.operations (room.consumes c o b.some b.history r b.operations) fits none asks)

pub alike_room : {first d : WorkingVersion} → IsAlike first d → HasRoom first → HasRoom d
alike_room {first} {d} e room =
    subst (λ (u : Ledger). WorksRoomy u d.seat.place.me.0.seen d.log.operations) (sym e.usage)
    (subst (λ (v : Known). WorksRoomy first.usage v.seen d.log.operations) (sym e.known)
    (subst (WorksRoomy first.usage first.seat.place.me.0.seen) (sym e.log) room))

-- where a number bounds the sets, it is so of that number: of another working version with the same sets
pub small_where : {so also : ℕ → Type 0} (d e : WorkingVersion) → e.seat.place.me.0.seen ≡ d.seat.place.me.0.seen → e.log.operations ≡ d.log.operations → length e.usage.given ≡ length d.usage.given → ((most : ℕ) → so most → also most) → WhereSmall d so → WhereSmall e also
small_where {so} {also} d e seen log wide then is most small some b =
    then most (is most small (subst (λ (k : ℕ). 4 ≤ k) wide some) (record {
      history = subst (BoundsWays most) seen b.history;
      work = subst (λ (s : AllSeen). BoundsWork most s d.log.operations) seen (subst (BoundsWork most e.seat.place.me.0.seen) log b.work);
    }))

-- what is so where the table is roomy, told of another working version with the same set
where_on : (d e : WorkingVersion) (so also : Type 0) → e.seat.place.me.0.seen ≡ d.seat.place.me.0.seen → e.log.operations ≡ d.log.operations → e.usage.passes ≡ d.usage.passes → length e.usage.given ≡ length d.usage.given → (so → also) → WhereRoomy d so → WhereRoomy e also
where_on d e so also seen log passes wide then is c o b fits roomy =
    then (is c o
    (record {
      some = b.some;
      history = subst (BoundsHistory c o) seen b.history;
      operations = subst (λ (os : List Operation). length os ≤ o) log b.operations;
    })
    (subst (λ (es : List Entry). cells es ≤ c) (ap (λ (s : AllSeen). applied (version_seen s) e.log.operations) seen ∙ ap (applied (version_seen d.seat.place.me.0.seen)) log) fits)
    (subst (λ (p : ℕ). is_roomy p c o (length d.usage.given)) (sym e.agrees.passes ∙ passes ∙ d.agrees.passes) (subst (λ (k : ℕ). is_roomy e.seat.passes c o k) wide roomy)))

pub alike_where : {first d : WorkingVersion} (so also : Type 0) → IsAlike first d → (so → also) → WhereRoomy d so → WhereRoomy first also
alike_where {first} {d} so also e then is =
    where_on d first so also (sym (ap (λ (v : Known). v.seen) e.known)) (sym e.log) (sym (ap (λ (u : Ledger). u.passes) e.usage)) (sym (ap (λ (u : Ledger). length u.given) e.usage)) then is

keeps_settled : {most : ℕ} {first d : WorkingVersion} {whole : Bool} → Settles most first d whole → KeepsRows first.usage d.usage
keeps_settled {most} {first} {d} s = elim (cases_lt most (sparse_count first.usage)) [
  | inl many ↦ keeps_grown (s.many many).grown
  | inr few ↦ subst (KeepsRows first.usage) (sym (s.few (omega arith)).0) (record { passes = refl; wide = refl; rows = λ c h. h; base = refl })
]

pub settled_rows : {most : ℕ} {first d : WorkingVersion} {whole : Bool} → Settles most first d whole → HasRoom first → EachRoomy d.usage d.seat.place.me.0.seen (λ c _. RowsAreFew c d.usage.rows)
settled_rows {most} {first} {d} s room = each_kept first.usage d.usage first.seat.place.me.0.seen d.seat.place.me.0.seen (keeps_settled s) (ap (λ (x : AllSeen). x.opening) s.seen) (ap (λ (x : AllSeen). x.history) s.seen) room.rows

pub settled_thin : {most : ℕ} {first d : WorkingVersion} {whole : Bool} → most ≤ 8 → Settles most first d whole → (whole ≡ true → FewThin most d.usage) → WhereRoomy first (whole ≡ true) → WhereRoomy d (FewThin 8 d.usage)
settled_thin {most} {first} {d} {whole} few s thin is =
    let k = keeps_settled s in
    where_on first d (whole ≡ true) (FewThin 8 d.usage) s.seen s.log k.passes k.wide (λ w. let a = thin w in omega arith) is

-- what is made ready for a commit meets few chunks
pub ready_where : (most : ℕ) (first d : WorkingVersion) (whole : Bool) → most ≤ 8 → IsLedger d.usage → Settles most first d whole → (whole ≡ true → FewThin most d.usage)
    → (whole ≡ false → (free_count d.usage ≡ 0) × (free_count first.usage + 1 ≤ free_count d.usage + (cells (working_set first) / 769 + 1))) → HasRoom first → WhereSmall first (IsSmall d.usage)
ready_where most first d whole few is s thin stopped room n fits some b =
    let same : working_set d ≡ working_set first = set_stays first d s.goes_on s.log in
    let all = subst (λ (es : List Entry). cells es ≤ n) (sym same) (work_whole first.seat.place.me.0.seen first.log.operations b.work) in
    ready_small n most first d whole fits some few is all s thin
    (λ none. let t = stopped none in (t.0, subst (λ (es : List Entry). free_count first.usage + 1 ≤ free_count d.usage + (cells es / 769 + 1)) (sym same) t.1))
    (room.works n fits some b.history b.work)

pub settled_small : {most : ℕ} {first d : WorkingVersion} {whole : Bool} → Settles most first d whole → WhereSmall first (IsSmall d.usage) → WhereSmall d (IsSmall d.usage)
settled_small {most} {first} {d} {whole} s is = small_where first d s.seen s.log (keeps_settled s).wide (λ n small. small) is

-- ---- no transaction is under way

-- what nothing needs was freed
rests_of : (cells : Cells) (l : Ledger) (count : ℕ) (s : AllSeen) → Agrees cells (freed l) count → l.live ≡ l.last_live → EachRoomy (freed l) s (λ c _. RowsAreFew c l.rows) → EachSmall (freed l) s (λ most. RestsSmall most (freed l)) → RestsRoomy (freed l) s
rests_of cells l count s agrees rest rows rests = record {
  rows = rows;
  given = λ c o some b roomy.
      let a = given_at_rest cells (freed l) count (most_met c) agrees rest (each_needed l) (rows c o some b roomy) in
      let e = ap (λ (p : ℕ). (p + 1) * most_met c + 2) agrees.passes in omega arith;
  rests = rests;
}

pub undone_rests : (cells : Cells) (u n : Ledger) (count : ℕ) (s t : AllSeen) → n ≡ freed (restored u) → Agrees cells n count → t.opening ≡ s.opening → t.history ≡ s.history → EachRoomy u s (λ c _. RowsAreFew c u.rows) → EachSmall u s (λ most. RestsSmall most u) → RestsRoomy n t
undone_rests cells u n count s t after agrees opening history rows rests =
    subst (λ (l : Ledger). RestsRoomy l t) (sym after)
    (rests_of cells (restored u) count t (subst (λ (l : Ledger). Agrees cells l count) after agrees) refl
    (each_on u (freed (restored u)) s t refl (freed_chunks (restored u)) opening (same_part s t history) (λ c o b few. few) rows)
    (small_on u (freed (restored u)) s t (freed_chunks (restored u)) opening (same_part s t history) (λ most small b some r. undone_small most u r) rests))

pub published_rests : (cells_now : Cells) (d : WorkingVersion) (n : Ledger) (count version : ℕ) (versions : List ℕ) (t : AllSeen) (entry : Commit (List Operation)) → IsLedger d.usage → Works d → n ≡ freed (narrowed (frozen d.usage version) versions) → Agrees cells_now n count
    → t.opening ≡ d.seat.place.me.0.seen.opening → t.history ≡ d.seat.place.me.0.seen.history ++ entry ∷ [] → entry.change ≡ d.log.operations
    → EachRoomy d.usage d.seat.place.me.0.seen (λ c _. RowsAreFew c d.usage.rows) → WhereRoomy d (FewThin 8 d.usage) → WhereSmall d (IsSmall d.usage) → RestsRoomy n t
published_rests cells_now d n count version versions t entry is works after agrees opening history change rows thin small =
    subst (λ (l : Ledger). RestsRoomy l t) (sym after) (rests_of cells_now (narrowed (frozen d.usage version) versions) count t (subst (λ (l : Ledger). Agrees cells_now l count) after agrees) refl few rests)
  where
    few : EachRoomy (freed (narrowed (frozen d.usage version) versions)) t (λ c _. RowsAreFew c (rows_of versions (frozen d.usage version).rows))
    few c o some b roomy =
        let before = bounds_part d.seat.place.me.0.seen t opening (entry ∷ [], history) b in
        let r : is_roomy d.usage.passes c o (length d.usage.given) = subst (λ (k : ℕ). is_roomy d.usage.passes c o k) (freed_chunks (narrowed (frozen d.usage version) versions)) roomy in
        let fits : cells (working_set d) ≤ c = subst (λ (os : List Operation). cells (applied (version_seen d.seat.place.me.0.seen) os) ≤ c) change (last_cells d.seat.place.me.0.seen t entry opening history b) in
        let done : length d.log.operations ≤ o = subst (λ (os : List Operation). length os ≤ o) change (last_operations d.seat.place.me.0.seen t entry history b) in
        let bounds : BoundsWorking c o d = record { some = some; history = before; operations = done } in
        let met = met_few d.usage (cells (working_set d)) is (thin c o bounds fits (subst (λ (p : ℕ). is_roomy p c o (length d.usage.given)) d.agrees.passes r)) (live_few (HasCell (cells_with d.usage d.seat.place.me.0.turn)) (is_used d.usage) d.usage d.root (working_set d) is works.stands) in
        let size = set_size d.usage.live in
        rows_narrowed c versions (d.usage.rows ++ record { version = version; chunks = row_of d.usage.live } ∷ [])
        (All-push (λ (x : Row). row_size x ≤ most_met c) d.usage.rows (record { version = version; chunks = row_of d.usage.live }) (rows c o some before r) (omega arith))

    rests : EachSmall (freed (narrowed (frozen d.usage version) versions)) t (λ most. RestsSmall most (freed (narrowed (frozen d.usage version) versions)))
    rests most fits some b =
        let s = d.seat.place.me.0.seen in
        let wide = freed_chunks (narrowed (frozen d.usage version) versions) in
        let now = small most fits (subst (λ (k : ℕ). 4 ≤ k) wide some) (record {
          history = ways_part s t opening (entry ∷ [], history) b;
          work = subst (BoundsWork most s) change (last_ways s t entry opening history b);
        }) in
        published_small most version d.usage (freed (narrowed (frozen d.usage version) versions)) versions is refl now.rows now.met

-- version 0 was written to few chunks
pub first_rests : (u n : Ledger) (es : List Entry) (t : AllSeen) → IsLedger u → u.rows ≡ [] → n ≡ frozen u 0 → consumed u ≤ cells es → first_version t ≡ es → RestsRoomy n t
first_rests u n es t is none after consumes first =
    subst (λ (l : Ledger). RestsRoomy l t) (sym after) (record {
      rows = λ c o some b roomy. let size = set_size u.live in let g = given_few c o b in
          subst (λ (rows : List Row). RowsAreFew c (rows ++ record { version = 0; chunks = row_of u.live } ∷ [])) (sym none)
          (All-push (λ (x : Row). row_size x ≤ most_met c) [] (record { version = 0; chunks = row_of u.live }) (All-nil (λ (x : Row). row_size x ≤ most_met c)) (omega arith));
      given = λ c o some b roomy. let g = given_few c o b in let e = some_passes u.passes (most_met c) in omega arith;
      rests = λ most small some b. first_small most u (frozen u 0) es is none refl consumes (subst (λ (xs : List Entry). cells xs ≤ most) first b.first);
    })
  where
    given_few : (c o : ℕ) → BoundsHistory c o t → (given_count u ≤ most_met c) × (count_by (nat_lt 0) u.live ≤ most_met c)
    given_few c o b =
        let fits : cells es ≤ c = subst (λ (xs : List Entry). cells xs ≤ c) first (b.versions [] (t.history, refl)) in
        let a = given_consumed u in
        let l = live_given u.live u.given is.counted is.counts.in_given in (omega arith, omega arith)
