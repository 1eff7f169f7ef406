-- Why a call of a transaction finds no room.
use Rattle.std.proofs.Common.{◌≡◌, ◌∙◌, ℕ, ◌+◌, ◌≤◌, Bool, List, [], length, map, take, Contains, Option, Some, None, Err, refl, sym, ap, subst, arith, true}
use Rattle.std.specs.Prelude.{unwrap_or}
use Rattle.std.specs.List.{All, sum_by}
use Rattle.std.proofs.lemmas.List.Elements.{All-weaker}
use Rattle.pin_core.specs.declared.kept.Kept.{Kept}
use Rattle.trie_model.specs.Extents.{row}
use Rattle.trie_model.specs.Keys.{Entry}
use Rattle.trie_model.specs.Shape.{cells}
use Rattle.zone_model.specs.Keys.{Leads}
use Rattle.packed_node.specs.declared.Cell.{Cell}
use Rattle.trie_read.specs.Reads.{EachTells}
use Rattle.trie_write.specs.Paths.{branches_on_path}
use Rattle.trie_write.specs.Roots.{OnBranches}
use Rattle.trie_space.specs.Standing.{Standing}
use Rattle.chunk_usage.specs.declared.space.Shortage.{Shortage}
use Rattle.chunk_usage.specs.Ledger.{Ledger, Row, is_given, is_used}
use Rattle.chunk_usage.specs.Handing.{Lacks}
use Rattle.chunk_usage.specs.Keeping.{freed, kept_versions, narrowed}
use Rattle.std.proofs.lemmas.Simd.{map-map}
use Rattle.shared_cells.specs.declared.view.Entry.{Entry as Commit}
use Rattle.shared_cells.specs.History.{version_after}
use Rattle.shared_cells.specs.Views.{kept_in}
use Rattle.shared_cells.specs.Cells.{HasCell}
use Rattle.qp_multi.specs.declared.change.TrieChange.{TrieChange}
use Rattle.qp_multi.specs.declared.change.TrieChange.TheVariants as change
use Rattle.trie_write.specs.declared.refusal.NotDone.TheVariants as not_done
use Rattle.qp_multi.specs.declared.writer.WorkingVersion.{WorkingVersion}
use Rattle.qp_multi.specs.declared.refusal.OutOfSpace.{OutOfSpace}
use Rattle.qp_multi.specs.declared.meaning.Operation.{Operation}
use Rattle.qp_multi.specs.Operations.{applied}
use Rattle.qp_multi.specs.Meanings.{IsVersion}
use Rattle.qp_multi.specs.Passes.{Known, first_version}
use Rattle.qp_multi.specs.Turns.{cells_with, row_for}
use Rattle.qp_multi.specs.Changes.{key_of, written_by, asked_by, LeadsItem}
use Rattle.qp_multi.specs.WorkingVersions.{Works, working_set}
use Rattle.qp_multi.specs.Tries.{Tried, PathHas, PathHasEach}
use Rattle.qp_multi.specs.Keepings.{GoesOn, numbers_of, versions_in}
use Rattle.qp_multi.specs.Fulls.{WhyOutOfSpace, cells_kept, version_at}
use Rattle.qp_multi.proofs.CauseLaws.{NeededBy, each_needed, given_few, kept_images, live_of, many, met_or_opened, opened_is, few_taken, path_of, rows_met, some_live, some_row, taken}
use Rattle.qp_multi.proofs.RisenLaws.{with_bump}

-- what was seen is the same

pub version_at_on : {v w : Known} (n : ℕ) → GoesOn v w → version_at w n ≡ version_at v n
version_at_on {v} {w} n g =
    ap (λ (o : Option (List Entry)). version_after applied (unwrap_or o []) (take n w.seen.history)) g.opening
    ∙ ap (λ (h : List (Commit (List Operation))). version_after applied (first_version v.seen) (take n h)) g.history

pub cells_kept_on : {v w : Known} (versions : List ℕ) → GoesOn v w → cells_kept w versions ≡ cells_kept v versions
cells_kept_on {v} {w} versions g =
    ap (λ (o : Option (List Entry)). sum_by (λ n. cells (version_after applied (unwrap_or o []) (take n w.seen.history))) versions) g.opening
    ∙ ap (λ (h : List (Commit (List Operation))). sum_by (λ n. cells (version_after applied (first_version v.seen) (take n h))) versions) g.history

pub images_on : (v w x : Known) → GoesOn v x → kept_in x.turn ≡ kept_in w.turn → All (λ k. IsVersion k.image k.root (version_at v k.version)) (kept_in w.turn) → All (λ k. IsVersion k.image k.root (version_at x k.version)) (kept_in x.turn)
images_on v w x g same all =
    subst (All (λ (k : Kept). IsVersion k.image k.root (version_at x k.version))) (sym same)
    (All-weaker (λ (k : Kept). IsVersion k.image k.root (version_at v k.version)) (λ (k : Kept). IsVersion k.image k.root (version_at x k.version))
    (λ k h. subst (IsVersion k.image k.root) (sym (version_at_on k.version g)) h) (kept_in w.turn) all)

-- a call writes few cells beside the path's twigs
pub few_written : (c : TrieChange) → LeadsItem c → written_by c ≤ 4115
few_written (change.Insert key item) leads = let l = leads.short in omega arith
few_written (change.Replace key item) leads = let l = leads.short in omega arith
few_written (change.Delete key) leads = omega arith

-- how many twigs each branch on the path has
each_of : (has : ℕ → Cell → Type 0) (used : ℕ → Bool) (live : ℕ → ℕ) (root : Option ℕ) (key : List ℕ) (es : List Entry) → Standing has used live root es → EachTells Leads es → (branches : List ℕ) × OnBranches has used live root key branches
each_of has used live None key es s tells = ([], refl)
each_of has used live (Some r) key es s tells = (branches_on_path key s.0, (s.0, es, s.1, tells, refl))

pub cause_of : (u : Ledger) (room d : WorkingVersion) (c : TrieChange) (full : Shortage) (f : OutOfSpace) → room.usage ≡ freed (narrowed u (kept_versions room.usage)) → f.shortage.needed ≡ full.needed → versions_in f.kept ≡ kept_versions room.usage → Works room → All (λ k. IsVersion k.image k.root (version_at room.seat.place.me.0 k.version)) (kept_in room.seat.place.me.0.turn)
    → LeadsItem c → Tried c room.root room.seat.place.me.0 room.usage d.seat.place.me.0 d.usage (Err (not_done.Full full)) → d.root ≡ room.root → GoesOn room.seat.place.me.0 d.seat.place.me.0 → working_set d ≡ working_set room → Lacks d.usage full
    → WhyOutOfSpace room.usage d (key_of c) (written_by c) (asked_by c) f
cause_of u room d c full f after request same works images leads t root on set lacks =
    let m = room.usage in
    let v : Known = room.seat.place.me.0 in
    let w : Known = d.seat.place.me.0 in
    let key = key_of c in
    let kept = kept_in v.turn in
    let n = length m.given in
    let needed : (k : ℕ) → is_given m k ≡ true → NeededBy m k = subst (λ (l : Ledger). (k : ℕ) → is_given l k ≡ true → NeededBy l k) (sym after) (each_needed (narrowed u (kept_versions room.usage))) in
    let p = path_of {has = HasCell (cells_with m v.turn)} {used = is_used m} {live = live_of m} room.root key (working_set room) works.stands works.tells in
    let each = each_of (HasCell (cells_with m v.turn)) (is_used m) (live_of m) room.root key (working_set room) works.stands works.tells in
    let consumes = t.consumes p.n p.on_path in
    let rows : row (some_row m.rows) 0 n ≤ cells_kept w (versions_in f.kept) = (
    let a = rows_met n kept in
    let b = kept_images v kept images in
    let e : row (some_row m.rows) 0 n ≡ row (some_row (map (row_for n) kept)) 0 n = ap (λ (rs : List Row). row (some_row rs) 0 n) room.agrees.rows in
    let g : cells_kept w (versions_in f.kept) ≡ cells_kept v (numbers_of kept) = cells_kept_on (versions_in f.kept) on ∙ ap (cells_kept v) (same ∙ ap (map (λ (row : Row). row.version)) room.agrees.rows ∙ map-map (λ (row : Row). row.version) (row_for n) kept) in
    omega arith) in
    let few = given_few m needed in
    let meets = p.meets n in
    record {
      none_free = lacks.0.none_free;
      opened = with_bump m.bump (taken m d.usage);
      opened_here = opened_is m d.usage;
      path = p.n;
      on_path = subst (λ (r : Option ℕ). PathHas w d.usage r key p.n) (sym root) (t.path p.n p.on_path);
      branches = each.0;
      on_branches = subst (λ (r : Option ℕ). PathHasEach w d.usage r key each.0) (sym root) (t.branches each.0 each.1);
      needed = subst (λ (n : ℕ). Contains (asked_by c each.0) n) (sym request) (t.asked full refl each.0 each.1);
      few_opened = few_taken m d.usage full (written_by c + p.n) t.spares.grown.wide t.spares.grown.given consumes lacks;
      others_met = met_or_opened m d.usage needed t.spares.grown.wide t.spares.grown.frozen t.counts;
      many_cells =
          let a = many m d.usage full n (cells (working_set room)) (cells_kept w (versions_in f.kept)) (row (some_live (live_of m)) 0 n) (row (some_row m.rows) 0 n) p.b p.n (written_by c) refl t.spares.grown.wide few meets rows p.few (few_written c leads) consumes lacks in
          let b = ap cells set in
          let g = t.spares.grown.wide in omega arith;
    }
