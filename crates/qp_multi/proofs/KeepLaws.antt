-- What stays in place while chunks are freed, and when a transaction goes back to its base.
use Rattle.std.proofs.Common.{◌≡◌, ◌∙◌, inr, ℕ, ◌+◌, ◌/◌, ◌%◌, ◌<◌, ◌≤◌, ◌==◌, nat_lt, Bool, true, false, not, if◌then◌else◌, List, map, length, slice_index, Option, refl, sym, ap, subst, arith, eq-eqb}
use Rattle.std.specs.List.{Contains, list_any}
use Rattle.std.proofs.lemmas.List.FromFn.{get_or-map-range_with_len}
use Rattle.pin_core.specs.declared.kept.CellAt.{CellAt}
use Rattle.pin_core.specs.declared.kept.Kept.{Kept}
use Rattle.chunk_usage.specs.Ledger.{Ledger, Frozen, Row, IsLedger, filled, frozen_part, is_bump, is_used, is_given, is_mutable, is_in_row}
use Rattle.chunk_usage.specs.Keeping.{is_in_rows, is_needed, closed, freed, restored}
use Rattle.chunk_usage.specs.Rooms.{Grows}
use Rattle.trie_model.specs.Keys.{Entry}
use Rattle.trie_space.specs.Standing.{Standing}
use Rattle.trie_write.proofs.RootLaws.{standing_later}
use Rattle.qp_multi.specs.Passes.{Known}
use Rattle.qp_multi.specs.Bases.{StandsFor}
use Rattle.chunk_sets.proofs.FlagLemmas.{set_within}
use Rattle.chunk_usage.proofs.RecyclingLaws.{freed_by_chunk}
use Rattle.chunk_usage.proofs.SpaceLaws.{used_given}
use Rattle.trie_model.proofs.ExtentLaws.{both_true, first_true, second_true}
use Rattle.shared_cells.specs.Cells.{Cells, cells_of, given_chunks, kept_references, HasCell}
use Rattle.qp_multi.specs.Turns.{Agrees, row_for, cell_counts, current_image, is_immutable}
use Rattle.qp_multi.proofs.Lists.{either_true, all_of, all_from, any_from, in_map, of_map, in_flat}

pub immutable_used : (u : Ledger) (q : ℕ) → is_immutable u q ≡ true → is_used u q ≡ true
immutable_used u q h = first_true (is_used u q) (not (is_mutable u q)) h

pub immutable_old : (u : Ledger) (q : ℕ) → is_immutable u q ≡ true → is_mutable u q ≡ false
immutable_old u q h = go (is_mutable u q) (second_true (is_used u q) (not (is_mutable u q)) h)
  where
    go : (b : Bool) → not b ≡ true → b ≡ false
    go true h = sym h
    go false h = refl

pub immutable_of : (u : Ledger) (q : ℕ) → is_used u q ≡ true → is_mutable u q ≡ false → is_immutable u q ≡ true
immutable_of u q a b = both_true (is_used u q) (not (is_mutable u q)) a (ap not b)

module _ (cells : Cells) (u : Ledger) (is : IsLedger u) (count : ℕ) (wide : cells.chunks ≡ length u.given) (agrees : Agrees cells u count) where
  pub kept_immutable : (q : ℕ) → Contains (kept_references cells) q → is_immutable u q ≡ true
  kept_immutable q c = all_of (is_immutable u) (kept_references cells) q agrees.immutable c

  -- a cell of a kept version is in a chunk of that version's set
  pub kept_in_rows : (q : ℕ) → Contains (kept_references cells) q → is_in_rows u.rows (q / 1024) ≡ true
  kept_in_rows q c =
      let k = in_flat (λ (k : Kept). map (λ (c : CellAt). c.at) k.image) cells.kept q c in
      let at = of_map (λ (c : CellAt). c.at) k.0.image q k.2 in
      let inside : q / 1024 < cells.chunks = (let l = set_within u.given (q / 1024) (used_given u is q (immutable_used u q (kept_immutable q c))) in omega arith) in
      let meets : is_in_row (row_for cells.chunks k.0) (q / 1024) ≡ true =
      get_or-map-range_with_len (λ chunk. list_any (λ (c : CellAt). c.at / 1024 == chunk) k.0.image) 0 cells.chunks (q / 1024) (q / 1024) false inside (omega arith)
      ∙ any_from (λ (c : CellAt). c.at / 1024 == q / 1024) k.0.image at.0 at.1 (eq-eqb (at.0.at / 1024) (q / 1024) (ap (λ (n : ℕ). n / 1024) at.2)) in
      ap (λ (rows : List Row). is_in_rows rows (q / 1024)) agrees.rows
      ∙ any_from (λ (r : Row). is_in_row r (q / 1024)) (map (row_for cells.chunks) cells.kept) (row_for cells.chunks k.0) (in_map (row_for cells.chunks) cells.kept k.0 k.1) meets

row_needed : (l : Ledger) (k : ℕ) → is_in_rows l.rows k ≡ true → is_needed l k ≡ true
row_needed l k here = either_true (is_bump l.bump k) _ (inr (either_true (is_bump l.fender k) _ (inr (either_true (nat_lt 0 (slice_index l.live k)) _ (inr here)))))

pub freed_used : (l : Ledger) (q : ℕ) → is_used l q ≡ true → is_needed l (q / 1024) ≡ true → is_used (freed l) q ≡ true
freed_used l q u n = go (is_bump l.bump (q / 1024)) u
  where
    go : (b : Bool) → (if b then nat_lt (q % 1024) (filled l.bump) else is_given l (q / 1024)) ≡ true → (if b then nat_lt (q % 1024) (filled l.bump) else is_given (freed l) (q / 1024)) ≡ true
    go true u = u
    go false u = freed_by_chunk l (q / 1024) ∙ both_true (is_given l (q / 1024)) (is_needed l (q / 1024)) u n

-- chunks that nothing needs are freed
pub agrees_freed : (cells new : Cells) (u : Ledger) (count : ℕ) → IsLedger u → cells.chunks ≡ length u.given → new.chunks ≡ cells.chunks → new.kept ≡ cells.kept → given_chunks new ≡ (freed u).given → Agrees cells u count → Agrees new (freed u) count
agrees_freed cells new u count is wide chunks kept given a = record {
  given = given;
  rows = a.rows ∙ ap (λ (n : ℕ). map (row_for n) cells.kept) (sym chunks) ∙ ap (map (row_for new.chunks)) (sym kept);
  few_rows = a.few_rows;
  last_live = a.last_live ∙ ap (λ (n : ℕ). cell_counts n (current_image cells.kept)) (sym chunks) ∙ ap (λ (ks : List Kept). cell_counts new.chunks (current_image ks)) (sym kept);
  immutable = all_from (is_immutable (freed u)) (kept_references new) (λ q c.
      let old = subst (λ (ks : List Kept). Contains (kept_references (record cells { kept = ks })) q) kept c in
      let h = kept_immutable cells u is count wide a q old in
      immutable_of (freed u) q (freed_used u q (immutable_used u q h) (row_needed u (q / 1024) (kept_in_rows cells u is count wide a q old))) (immutable_old u q h));
  passes = a.passes;
}

-- where chunks, rows and the counts of the last freeze are as before, and what was immutable is so
agrees_like : (cells : Cells) (u new : Ledger) (count : ℕ) → new.given ≡ u.given → frozen_part new ≡ frozen_part u → ((q : ℕ) → is_immutable u q ≡ true → is_immutable new q ≡ true) → Agrees cells u count → Agrees cells new count
agrees_like cells u new count given frozen still a = record {
  given = a.given ∙ sym given;
  rows = ap (λ (f : Frozen). f.rows) frozen ∙ a.rows;
  few_rows = subst (λ (f : Frozen). length f.rows ≤ count + 1) (sym frozen) a.few_rows;
  last_live = ap (λ (f : Frozen). f.live) frozen ∙ a.last_live;
  immutable = all_from (is_immutable new) (kept_references cells) (λ q c. still q (all_of (is_immutable u) (kept_references cells) q a.immutable c));
  passes = ap (λ (f : Frozen). f.passes) frozen ∙ a.passes;
}

-- a transaction goes back to its base
pub agrees_restored : (cells : Cells) (u new : Ledger) (count : ℕ) → new ≡ restored u → ((q : ℕ) → is_used u q ≡ true → is_mutable u q ≡ false → is_used new q ≡ true) → Agrees cells u count → Agrees cells new count
agrees_restored cells u new count after used =
    agrees_like cells u new count (ap (λ (l : Ledger). l.given) after) (ap frozen_part after)
    (λ q h. immutable_of new q (used q (immutable_used u q h) (immutable_old u q h)) (ap (λ (l : Ledger). is_mutable l q) after ∙ immutable_old u q h))

-- the bump chunk counts as filled

pub agrees_closed : (cells : Cells) (u new : Ledger) (count : ℕ) → new ≡ closed u → Grows (is_used u) (is_used new) (is_mutable u) (is_mutable new) → Agrees cells u count → Agrees cells new count
agrees_closed cells u new count after grows =
    agrees_like cells u new count (ap (λ (l : Ledger). l.given) after) (ap frozen_part after)
    (λ q h. let used = immutable_used u q h in immutable_of new q (grows.stays q used) (grows.settled q used ∙ immutable_old u q h))

pub stands_closed : (v : Known) (u new : Ledger) (root : Option ℕ) (es : List Entry) → new ≡ closed u → Grows (is_used u) (is_used new) (is_mutable u) (is_mutable new) → StandsFor v u root es → StandsFor v new root es
stands_closed v u new root es after grows s = record {
  stands = subst (λ (n : ℕ). Standing (HasCell (cells_of n v.turn)) (is_used new) (λ k. slice_index new.live k) root es) (sym (ap (λ (l : Ledger). length l.given) after))
      (standing_later es root s.stands (λ q c used has. has) grows.stays (λ k. ap (λ (l : Ledger). slice_index l.live k) after));
  tells = s.tells;
}
