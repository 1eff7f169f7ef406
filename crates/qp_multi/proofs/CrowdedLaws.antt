-- A call that makes room and finds none: how crowded its table is.
use Rattle.std.proofs.Common.{◌≡◌, ◌∙◌, ℕ, zero, suc, ◌+◌, ◌-◌, ◌*◌, ◌/◌, ◌≤◌, ◌==◌, nat_lt, Bool, true, false, cond, ◌||◌, if◌then◌else◌, List, length, slice_index, Option, Some, None, arith, refl, sym, ap, subst}
use Rattle.std.proofs.lemmas.Bool.Decides.{nat_tests}
use Rattle.packed_node.specs.declared.Cell.{Cell}
use Rattle.trie_model.specs.Extents.{row}
use Rattle.trie_model.specs.Keys.{Entry}
use Rattle.trie_model.specs.Shape.{cells}
use Rattle.chunk_usage.specs.declared.space.Shortage.{Shortage}
use Rattle.chunk_usage.specs.Ledger.{Ledger, Frozen, IsLedger, free_count, is_bump, is_given, is_used, reserve_of}
use Rattle.chunk_usage.specs.Handing.{Lacks, consumed}
use Rattle.chunk_usage.specs.Keeping.{kept_versions, narrowed}
use Rattle.evacuate.specs.declared.evacuation.EvacuationEnd.{EvacuationEnd}
use Rattle.evacuate.specs.declared.evacuation.EvacuationEnd.TheVariants as done
use Rattle.evacuate.specs.Evacuations.{IsDense, refused}
use Rattle.shared_cells.specs.Cells.{HasCell}
use Rattle.qp_multi.specs.WorkingVersions.{Works, working_set}
use Rattle.qp_multi.specs.Movings.{Evacuates}
use Rattle.qp_multi.specs.Rooms.{MakesRoom}
use Rattle.qp_multi.specs.Tries.{Spares}
use Rattle.qp_multi.specs.Turns.{cells_with}
use Rattle.qp_multi.specs.declared.writer.WorkingVersion.{WorkingVersion}
use Rattle.qp_multi.proofs.CauseLaws.{NeededBy, each_needed, live_of, open_once, open_one}
use Rattle.qp_multi.proofs.CountedLaws.{row_le}
use Rattle.qp_multi.proofs.MeetLaws.{row_add}
use Rattle.qp_multi.proofs.ThinLaws.{live_few}
use Rattle.qp_multi.proofs.WordsLaws.{freed_chunks}
use Rattle.trie_model.specs.Keys.{at}
use Rattle.trie_model.specs.Trees.{Tree, Twigs, count}
use Rattle.trie_model.specs.Trees.Tree.{leaf, branch}
use Rattle.trie_model.specs.Trees.Twigs.{none, twig}
use Rattle.trie_model.proofs.SizeLaws.{size, size_is, size_branch, twig_sizes}
use Rattle.trie_write.specs.Paths.{twigs_on_path, twigs_past}
use Rattle.trie_write.specs.Roots.{OnPath}
use Rattle.trie_space.specs.Standing.{Standing}
use Rattle.trie_read.specs.Reads.{EachTells}
use Rattle.zone_model.specs.Keys.{Leads}
use Rattle.qp_multi.specs.declared.change.TrieChange.{TrieChange}
use Rattle.qp_multi.specs.Changes.{written_by}
use Rattle.qp_multi.proofs.WorkLaws.{set_stays}
use Rattle.qp_multi.specs.Keepings.{GoesOn}
use Rattle.qp_multi.specs.Crowds.{RowsAreFew, WorksSmall, is_met, met_count, met_in, most_met}
use Rattle.qp_multi.proofs.CrowdLaws.{crowded, moved_small, round_small, spread_few, stopped_met, tried_small}

set_counts : (b : Bool) → b ≡ true → ◌≡◌ {A = ℕ} (cond b 1 0) 1
set_counts b h = ap (λ (x : Bool). cond {A = ℕ} x 1 0) h

times : (w : ℕ → ℕ) (r n : ℕ) → row (λ k. 257 * w k) r n ≡ 257 * row w r n
times w r zero = refl
times w r (suc n) = let a = times w (suc r) n in omega arith

each_dense : (u : Ledger) → IsDense u → (k : ℕ) → 257 * (if is_met u.live u.bump k then 1 else 0) ≤ 257 * open_one u.bump k + live_of u k
each_dense u is k = go (is_bump u.bump k) (nat_lt 0 (slice_index u.live k)) refl refl
  where
    go : (a b : Bool) → is_bump u.bump k ≡ a → nat_lt 0 (slice_index u.live k) ≡ b → 257 * (if a || b then 1 else 0) ≤ 257 * open_one u.bump k + live_of u k
    go true b p q = let e = set_counts (is_bump u.bump k) p in omega arith
    go false false p q = omega arith
    go false true p q = let a = is k (grind (arith, nat_tests, q)) p in omega arith

-- where all was moved a working set meets a chunk for each 257 of its cells, beside the bump chunk
pub dense_met : (u : Ledger) (c : ℕ) → IsDense u → row (live_of u) 0 (length u.given) ≤ c → met_count u ≤ c / 257 + 1
dense_met u c is all =
    let n = length u.given in
    let d = row_le (λ k. 257 * (if is_met u.live u.bump k then 1 else 0)) (λ k. 257 * open_one u.bump k + live_of u k) (each_dense u is) 0 n in
    let e = row_add (λ k. 257 * open_one u.bump k) (live_of u) 0 n in
    let g = times (λ k. if is_met u.live u.bump k then 1 else 0) 0 n in
    let h = times (open_one u.bump) 0 n in
    let j = open_once u.bump n in omega arith

-- what an evacuation leaves, however it ends
pub evacuated_met : (c : ℕ) (u : Ledger) (d : WorkingVersion) (end : EvacuationEnd) → c ≤ 768 → 1 ≤ reserve_of u → Works d → cells (working_set d) ≤ c → WorksSmall c u → Evacuates u d.usage end
    → free_count u + refused end ≤ free_count d.usage + (cells (working_set d) / 769 + 1) → met_count d.usage ≤ most_met c
evacuated_met c u d done.Whole small some works fits w e asks =
    let a = dense_met d.usage (cells (working_set d)) (e.whole refl) (live_few (HasCell (cells_with d.usage d.seat.place.me.0.turn)) (is_used d.usage) d.usage d.root (working_set d) e.ledger works.stands) in omega arith
evacuated_met c u d done.Stopped small some works fits w e asks =
    let used_up = (e.stopped refl).0 in
    stopped_met c (cells (working_set d)) u d.usage some fits small (let none = used_up.short.none_free in omega arith) asks (spread_few u d.usage e.ledger e.grown e.grown.meets) w

-- what the crates below would promise of the try
pub record TriedSmall (u n : Ledger) : Type 0 where
  pub ledger : IsLedger n
  pub spares : Spares u n

pub tried_works : (c : ℕ) (u n : Ledger) → TriedSmall u n → WorksSmall c u → WorksSmall c n
tried_works c u n t w = tried_small c u n t.spares (spread_few u n t.ledger t.spares.grown t.spares.grown.meets) w

-- the same set
pub same_set : (d e : WorkingVersion) → GoesOn d.seat.place.me.0 e.seat.place.me.0 → e.log.operations ≡ d.log.operations → working_set e ≡ working_set d
same_set d e on log = set_stays d e on log

-- what is left when room was made
pub room_small : (c : ℕ) (first left : WorkingVersion) → c ≤ 768 → 4 ≤ length first.usage.given → WorksSmall c first.usage → (m : MakesRoom first left) → Works m.emptied → cells (working_set m.emptied) ≤ c
    → free_count m.room.usage + refused m.done ≤ free_count m.emptied.usage + (cells (working_set m.emptied) / 769 + 1)
    → ((met_count left.usage ≤ most_met c) × ((k : ℕ) → is_given left.usage k ≡ true → NeededBy left.usage k)) × WorksSmall c left.usage
room_small c first left small some w m works fits asks = ((met, needed), behind)
  where
    at_room : WorksSmall c m.room.usage
    at_room = round_small c first.usage m.room.usage (kept_versions m.room.usage) m.before.round.frees w

    wide : length m.room.usage.given ≡ length first.usage.given
    wide = ap (λ (l : Ledger). length l.given) m.before.round.frees ∙ freed_chunks (narrowed first.usage (kept_versions m.room.usage))

    met_emptied : met_count m.emptied.usage ≤ most_met c
    met_emptied = evacuated_met c m.room.usage m.emptied m.done small (let e = wide in omega arith) works fits at_room m.evacuates asks

    behind : WorksSmall c left.usage
    behind = round_small c m.emptied.usage left.usage (kept_versions left.usage) m.behind.round.frees (moved_small c m.room.usage m.emptied.usage m.evacuates.grown met_emptied at_room)

    met : met_count left.usage ≤ most_met c
    met =
        let e = ap met_count m.behind.round.frees in
        let h = met_emptied in
        let g = ap (λ (k : ℕ). met_in k m.emptied.usage.live m.emptied.usage.bump) (freed_chunks (narrowed m.emptied.usage (kept_versions left.usage))) in omega arith

    needed : (k : ℕ) → is_given left.usage k ≡ true → NeededBy left.usage k
    needed = subst (λ (l : Ledger). (k : ℕ) → is_given l k ≡ true → NeededBy l k) (sym m.behind.round.frees) (each_needed (narrowed m.emptied.usage (kept_versions left.usage)))

-- a key's path has fewer twigs than the working set has cells
mutual
  path_size : (key : List ℕ) (t : Tree) → twigs_on_path key t + 1 ≤ size t
  path_size key (leaf e x) = omega arith
  path_size key (branch o r below) = let a = past_size key (at key o) below in let b = size_branch o r below in omega arith

  past_size : (key : List ℕ) (position : ℕ) (ts : Twigs) → count ts + twigs_past key position ts ≤ twig_sizes ts
  past_size key position none = omega arith
  past_size key position (twig p t rest) =
      let a = path_size key t in
      let b = past_size key position rest in
      let c = count_size rest in go (p == position) a b c
    where
      go : (b : Bool) → twigs_on_path key t + 1 ≤ size t → count rest + twigs_past key position rest ≤ twig_sizes rest → count rest ≤ twig_sizes rest → suc (count rest) + (if b then twigs_on_path key t else twigs_past key position rest) ≤ size t + twig_sizes rest
      go true a b c = omega arith
      go false a b c = omega arith

  count_size : (ts : Twigs) → count ts ≤ twig_sizes ts
  count_size none = omega arith
  count_size (twig p t rest) = let b = count_size rest in omega arith

pub path_cells : (has : ℕ → Cell → Type 0) (used : ℕ → Bool) (live : ℕ → ℕ) (root : Option ℕ) (key : List ℕ) (es : List Entry) → Standing has used live root es → EachTells Leads es → (n : ℕ) × OnPath has used live root key n × (n ≤ cells es)
path_cells has used live None key es s tells = (0, refl, omega arith)
path_cells has used live (Some r) key es s tells =
    (twigs_on_path key s.0, (s.0, es, s.1, tells, refl), (let a = path_size key s.0 in let e = ap cells (sym s.1.trie.holds) ∙ size_is 0 s.0 s.1.trie.shape in omega arith))

-- a try behind made room found none: the bound
pub last_crowded : (c : ℕ) (left d : WorkingVersion) (change : TrieChange) (f : Shortage) (path : ℕ) → RowsAreFew c left.usage.rows → met_count left.usage ≤ most_met c → ((k : ℕ) → is_given left.usage k ≡ true → NeededBy left.usage k)
    → Spares left.usage d.usage → consumed d.usage ≤ consumed left.usage + (written_by change + path) → Lacks d.usage f
    → length d.usage.given - reserve_of d.usage ≤ (length d.usage.rows + 1) * most_met c + 1 + (written_by change + path) / 769
last_crowded c left d change f path rows met needed spares cost lacks =
    let k = crowded c (written_by change + path) left.usage d.usage f rows met needed cost lacks in
    let more = ap (λ (x : Frozen). (length x.rows + 1) * most_met c) spares.grown.frozen in omega arith
