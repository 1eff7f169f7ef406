-- Items and twigs that lie in sparse chunks.
use Rattle.std.proofs.Common.{◌≡◌, inl, inr, ℕ, ◌-◌, ◌/◌, ◌<◌, ◌≤◌, true, false, List, length, arith, sym, ◌∙◌, ap, subst}
use Rattle.std.proofs.lemmas.Bool.{true≢false}
use Rattle.packed_node.specs.declared.Branch.{Branch}
use Rattle.packed_node.specs.declared.Cell.{Cell}
use Rattle.packed_node.specs.declared.Node.TheVariants as node
use Rattle.trie_model.specs.Extents.{Extents, first_of as first_cell_of, linked_cells, content_cells, AreExtents, IsRow, LiesAt, row, weigh_extents}
use Rattle.trie_model.specs.Extents.Extents.{last, linked}
use Rattle.trie_model.specs.Keys.{Entry}
use Rattle.trie_model.specs.Memory.{node_of}
use Rattle.trie_model.specs.Reach.{in_chunk, weigh_tree}
use Rattle.trie_model.specs.Trees.{Tree, IsTree}
use Rattle.trie_model.specs.Trees.Tree.{leaf, branch}
use Rattle.trie_model.proofs.ExtentLaws.{linked_is}
use Rattle.trie_model.proofs.NodeLaws.{branch_told}
use Rattle.chunk_usage.specs.Counting.{is_sparse}
use Rattle.chunk_usage.specs.Ledger.{Ledger}
use Rattle.chunk_usage.proofs.RowLemmas.{row_here, row_there}
use Rattle.trie_space.specs.Ways.{Fork}
use Rattle.evacuate.specs.Evacuations.{HasSparse}
use Rattle.evacuate.specs.Places.{Hung}
use Rattle.evacuate.specs.Sparse.{SparseExtents, LiesSparse}
use Rattle.evacuate.proofs.TreeLaws.{hung_tree, hung_hangs, row_of, row_met, width}

-- ---- a sparse chunk stays so

extents_stay : (l l1 : Ledger) → ((k : ℕ) → is_sparse l k ≡ true → is_sparse l1 k ≡ true) → (x : Extents) → SparseExtents l x → SparseExtents l1 x
extents_stay l l1 stay (last r) h = stay (r / 1024) h
extents_stay l l1 stay (linked r x) (inl h) = inl (stay (r / 1024) h)
extents_stay l l1 stay (linked r x) (inr h) = inr (extents_stay l l1 stay x h)

pub lies_stay : (l l1 : Ledger) → ((k : ℕ) → is_sparse l k ≡ true → is_sparse l1 k ≡ true) → (t : Tree) → LiesSparse l t → LiesSparse l1 t
lies_stay l l1 stay (leaf e x) h = extents_stay l l1 stay x h
lies_stay l l1 stay (branch o r below) h = stay (r / 1024) h

-- ---- and cells in it count

pub record Weighs (l : Ledger) (w : (ℕ → ℕ) → ℕ) : Type 0 where
  pub chunk : ℕ
  pub sparse : is_sparse l chunk ≡ true
  pub some : 0 < w (in_chunk chunk)

row_weighs : (r n : ℕ) → 0 < n → IsRow r n → 0 < row (in_chunk (r / 1024)) r n
row_weighs r n some is = let h = row_here r n is.together in omega arith

pub extents_weigh : (l : Ledger) (n : ℕ) (x : Extents) → 0 < n → AreExtents n x → SparseExtents l x → Weighs l (λ w. weigh_extents w n x)
extents_weigh l n (last r) some a h = record { chunk = r / 1024; sparse = h; some = row_weighs r (content_cells n) (omega arith) a.1 }
extents_weigh l n (linked r x) some a (inl h) = record { chunk = r / 1024; sparse = h; some = (let k = row_weighs r linked_cells (let e = linked_is in omega arith) a.1 in omega arith) }
extents_weigh l n (linked r x) some a (inr h) = let b = extents_weigh l (n - 4080) x (let z = a.0 in omega arith) a.2 h in record { chunk = b.chunk; sparse = b.sparse; some = (let z = b.some in omega arith) }

lies_weigh : (l : Ledger) (t : Tree) → IsTree 0 t → LiesSparse l t → Weighs l (λ w. weigh_tree w t)
lies_weigh l (leaf e x) h s = extents_weigh l (length e.item) x h.0.item.some h.1 s
lies_weigh l (branch o r below) h s = record {
  chunk = r / 1024;
  sparse = s;
  some = (
      let rows = row_of 0 (branch o r below) h in
      let a = row_weighs r (width (branch o r below)) rows.some rows.row in
      let b = row_met (in_chunk (r / 1024)) 0 (branch o r below) h in omega arith
      );
}

pub lies_left : {S : Type 0} {has : S → ℕ → Cell → Type 0} {s : S} {l : Ledger} {r at : ℕ} {es : List Entry} {way : List Fork} {t : Tree} → Hung has s l r at es way t → LiesSparse l t → HasSparse l
lies_left {l = l} {t = t} h s =
    let w = lies_weigh l t (hung_tree h) s in
    record { chunk = w.chunk; sparse = w.sparse; some = (let c = (hung_hangs h).counted w.chunk in let m = w.some in omega arith) }

-- ---- what lies in none weighs nothing there

pub clear_extents : (l : Ledger) (n : ℕ) (x : Extents) → AreExtents n x → (SparseExtents l x → ⊥) → (k : ℕ) → is_sparse l k ≡ true → weigh_extents (in_chunk k) n x ≡ 0
clear_extents l n (last r) a none k sparse = row_there r (content_cells n) a.1.together k (λ e. none (ap (is_sparse l) (sym e) ∙ sparse))
clear_extents l n (linked r x) a none k sparse =
    let here = row_there r linked_cells a.1.together k (λ e. none (inl (ap (is_sparse l) (sym e) ∙ sparse))) in
    let on = clear_extents l (n - 4080) x a.2 (λ h. none (inr h)) k sparse in omega arith

-- ---- an extent is put elsewhere

-- the first one isn't sparse, but some is
pub sparse_behind : (l : Ledger) (r : ℕ) (x : Extents) → is_sparse l (r / 1024) ≡ false → SparseExtents l (linked r x) → SparseExtents l x
sparse_behind l r x none (inl h) = absurd (true≢false (sym h ∙ none))
sparse_behind l r x none (inr h) = h

pub sparse_here : (l : Ledger) (r : ℕ) (x : Extents) → first_cell_of x ≡ r → is_sparse l (r / 1024) ≡ true → SparseExtents l x
sparse_here l r (last q) e h = ap (λ (p : ℕ). is_sparse l (p / 1024)) e ∙ h
sparse_here l r (linked q x) e h = inl (ap (λ (p : ℕ). is_sparse l (p / 1024)) e ∙ h)

-- an item of one extent, which isn't sparse
pub lone_clear : {has : ℕ → Cell → Type 0} (l : Ledger) {at n : ℕ} {item : List ℕ} (x : Extents) → LiesAt has at n item x → n ≤ 4096 → is_sparse l (at / 1024) ≡ false → SparseExtents l x → ⊥
lone_clear l (last q) lies short clear h = true≢false (sym h ∙ ap (λ (p : ℕ). is_sparse l (p / 1024)) lies.from ∙ clear)
lone_clear l (linked q x) lies short clear h = let a = lies.are.0 in omega arith

-- a branch lies in a sparse chunk by its twigs
pub branch_sparse : (l : Ledger) (t : Tree) (b : Branch) → node.Branch b ≡ node_of t → LiesSparse l t → is_sparse l (b.twigs / 1024) ≡ true
branch_sparse l t b is h = subst (LiesSparse l) (branch_told t b (sym is)).is h
