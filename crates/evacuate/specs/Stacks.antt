-- The way to a row of twigs, or an item, that lies in a sparse chunk.
use Rattle.std.specs.Prelude.{◌≡◌, ◌⊎◌, ℕ, ◌+◌, ◌/◌, ◌<◌, ◌≤◌, Bool, List, [], ◌∷◌, true, false, count_ones, slice_index}
use Rattle.packed_node.specs.declared.Cell.{Cell}
use Rattle.packed_node.specs.declared.Node.{Node}
use Rattle.packed_node.specs.declared.Node.TheVariants as node
use Rattle.trie_model.specs.Keys.{Entry}
use Rattle.trie_model.specs.Memory.{node_of}
use Rattle.trie_model.specs.Trees.{Tree, count}
use Rattle.chunk_usage.specs.Counting.{is_sparse}
use Rattle.chunk_usage.specs.Ledger.{Ledger, is_mutable}
use Rattle.chunk_usage.specs.Rooms.{reserve_account_of}
use Rattle.trie_read.specs.Reads.{IsTop}
use Rattle.trie_space.specs.Spaces.{IsWritable}
use Rattle.trie_space.specs.Ways.{NotBefore, Fork, plug}
use Rattle.evacuate.specs.declared.path_walk.Passage.{Passage}
use Rattle.evacuate.specs.declared.stack.Stack.{Stack}
use Rattle.evacuate.specs.Places.{moved, Stood, Hung, IsHung}
use Rattle.evacuate.specs.Sparse.{AvoidsSparse, LiesSparse}

-- the way takes the twigs that the stack says, at offsets before its end
abbrev pub Steps : Stack → List Fork → Type 0
Steps stack [] = Unit {0}
Steps stack (f ∷ way) = (f.offset < stack.end) × (slice_index stack.indices f.offset ≡ count f.left) × Steps stack way

pub record LeadsTo (stack : Stack) (way : List Fork) (t : Tree) : Type 0 where
  pub steps : Steps stack way
  pub ends : NotBefore stack.end t

-- the stack leads to a node whose twigs, or some extent of whose item, lie in a sparse chunk
pub record Found (l : Ledger) (stack : Stack) (t : Tree) : Type 0 where
  pub way : List Fork
  pub end : Tree
  pub is : t ≡ plug way end
  pub leads : LeadsTo stack way end
  pub sparse : LiesSparse l end

-- however a trie stands at a root, the stack leads there
abbrev pub Finds : {S : Type 0} → (S → ℕ → Cell → Type 0) → S → Ledger → ℕ → Stack → Type 0
Finds has s l r stack = (es : List Entry) (t : Tree) → Stood has s l r es t → Found l stack t

-- a walk came to such a node below an offset: however a tree lies there, the stack leads to it
pub record FoundBelow (has : ℕ → Cell → Type 0) (l : Ledger) (low : ℕ) (top : Cell) (stack : Stack) : Type 0 where
  pub leads : (t : Tree) → IsTop has low top t → Found l stack t
  pub late : low ≤ stack.end

-- or there is none
abbrev pub NoneBelow : (ℕ → Cell → Type 0) → Ledger → ℕ → Cell → Type 0
NoneBelow has l low top = (t : Tree) → IsTop has low top t → AvoidsSparse l t

-- a walk below an offset only read, and left the stack above it
pub record StackKept {S : Type 0} (s s_new : S) (low : ℕ) (stack new : Stack) : Type 0 where
  pub same : s_new ≡ s
  pub above : (i : ℕ) → i < low → slice_index new.indices i ≡ slice_index stack.indices i

-- on the way along the stack, as the trie then stands: a tree hangs on the cell, and the stack leads on to what is to be moved
pub record Underway {S : Type 0} (has : S → ℕ → Cell → Type 0) (l0 : Ledger) (stack : Stack) (s : S) (l : Ledger) (r at : ℕ) (es : List Entry) (n : Node) : Type 0 where
  pub upper : List Fork
  pub rest : List Fork
  pub end : Tree
  pub hung : Hung has s l r at es upper (plug rest end)
  pub node_is : n ≡ node_of (plug rest end)
  pub leads : LeadsTo stack rest end
  pub sparse : LiesSparse l0 end

-- there: what is to be moved hangs on the cell
pub record Reached {S : Type 0} (has : S → ℕ → Cell → Type 0) (l0 : Ledger) (s : S) (l : Ledger) (r at : ℕ) (es : List Entry) (n : Node) : Type 0 where
  pub way : List Fork
  pub end : Tree
  pub hung : Hung has s l r at es way end
  pub node_is : n ≡ node_of end
  pub sparse : LiesSparse l0 end

-- however a trie stood at a root, the way down led there
abbrev pub Reaches : {S : Type 0} → (S → ℕ → Cell → Type 0) → ℕ → S → Ledger → S → Ledger → ℕ → Node → Type 0
Reaches has r s l s_new l_new at n = (es : List Entry) (t : Tree) → Stood has s l r es t → Reached has l s_new l_new r at es n

-- and the cell may be written
pub record SpotReached {S : Type 0} (has : S → ℕ → Cell → Type 0) (given : S → List Bool) (r : ℕ) (s : S) (l : Ledger) (s_new : S) (l_new : Ledger) (at : ℕ) (n : Node) : Type 0 where
  pub reached : Reaches has r s l s_new l_new at n
  pub writable : IsWritable given reserve_account_of s_new l_new at

-- some tree with this node hangs on the cell, and what hangs on the node lies in a sparse chunk
pub record IsDue {S : Type 0} (has : S → ℕ → Cell → Type 0) (s : S) (l : Ledger) (at : ℕ) (n : Node) : Type 0 where
  pub hung : IsHung has s l at n
  pub sparse : LiesSparse l hung.t

-- a branch's twigs may have been moved; this is one of them
pub record TwigsAt {S : Type 0} (has : S → ℕ → Cell → Type 0) (s : S) (l : Ledger) (r at : ℕ) (es : List Entry) (way : List Fork) (t : Tree) (index twig : ℕ) : Type 0 where
  pub to : ℕ
  pub hung : Hung has s l r at es way (moved t to)
  pub twig_is : twig ≡ to + index

-- however a tree with this branch hung on the cell, this is the twig that is passed to
abbrev pub Passed : {S : Type 0} → (S → ℕ → Cell → Type 0) → ℕ → Passage → S → Ledger → S → Ledger → ℕ → Type 0
Passed has at p s l s_new l_new twig = (r : ℕ) (es : List Entry) (way : List Fork) (t : Tree)
    → Hung has s l r at es way t → node.Branch p.descent.branch ≡ node_of t → TwigsAt has s_new l_new r at es way t p.descent.index twig

-- and it may be written
pub record PassedTo {S : Type 0} (has : S → ℕ → Cell → Type 0) (given : S → List Bool) (at : ℕ) (p : Passage) (s : S) (l : Ledger) (s_new : S) (l_new : Ledger) (twig : ℕ) : Type 0 where
  pub hung : Passed has at p s l s_new l_new twig
  pub writable : IsWritable given reserve_account_of s_new l_new twig

-- A branch's twigs may stay if the one that is passed to may be written. Else they lie in a sparse chunk, or it may not be.
pub record MayPass (l : Ledger) (p : Passage) : Type 0 where
  pub index : p.descent.index < count_ones p.descent.branch.bitmap
  pub stays : p.stays ≡ true → is_mutable l (p.descent.branch.twigs + p.descent.index) ≡ true
  pub due : p.stays ≡ false → (is_sparse l (p.descent.branch.twigs / 1024) ≡ true) ⊎ (is_mutable l (p.descent.branch.twigs + p.descent.index) ≡ false)
