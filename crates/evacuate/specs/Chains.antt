-- The extents of an item, one behind the other.
use Rattle.std.specs.Prelude.{◌≡◌, ℕ, ◌-◌, ◌<◌, List, [], ◌∷◌, length}
use Rattle.packed_node.specs.declared.Cell.{Cell}
use Rattle.trie_model.specs.Extents.{Extents, HasItem, LiesAt, first_of}
use Rattle.trie_model.specs.Extents.Extents.{linked}
use Rattle.trie_model.specs.Keys.{Entry}
use Rattle.trie_model.specs.Trees.{Tree}
use Rattle.trie_model.specs.Trees.Tree.{leaf}
use Rattle.chunk_usage.specs.Ledger.{Ledger}
use Rattle.trie_space.specs.Ways.{Fork, plug}
use Rattle.evacuate.specs.Places.{Stood, put_first}
use Rattle.evacuate.specs.Sparse.{SparseExtents}

-- extents that begin at these places come before others
abbrev pub chain : List ℕ → Extents → Extents
chain [] x = x
chain (r ∷ front) x = linked r (chain front x)

-- how many of n octets are behind them
abbrev pub octets_behind : List ℕ → ℕ → ℕ
octets_behind [] n = n
octets_behind (r ∷ front) n = octets_behind front (n - 4080)

-- In a trie that stands an item has an extent here, with others behind it. In these together it has n octets.
pub record Goes {S : Type 0} (has : S → ℕ → Cell → Type 0) (s : S) (l : Ledger) (r at n : ℕ) (es : List Entry) (way : List Fork) (e : Entry) (front : List ℕ) (rest : Extents) : Type 0 where
  pub stood : Stood has s l r es (plug way (leaf e (chain front (linked at rest))))
  pub size : octets_behind front (length e.item) ≡ n

-- whichever item goes on here, this holds of where the extent behind begins
abbrev pub HoldsBehind : {S : Type 0} → (S → ℕ → Cell → Type 0) → S → Ledger → ℕ → ℕ → (ℕ → Type 0) → Type 0
HoldsBehind has s l at n holds = (r : ℕ) (es : List Entry) (way : List Fork) (e : Entry) (front : List ℕ) (rest : Extents)
    → Goes has s l r at n es way e front rest → holds (first_of rest)

-- whichever item went on here still does, and the extent behind begins at this place
abbrev pub StillGoesOn : {S : Type 0} → (S → ℕ → Cell → Type 0) → ℕ → ℕ → S → Ledger → S → Ledger → ℕ → Type 0
StillGoesOn has at n s l s_new l_new to = (r : ℕ) (es : List Entry) (way : List Fork) (e : Entry) (front : List ℕ) (rest : Extents)
    → Goes has s l r at n es way e front rest → Goes has s_new l_new r at n es way e front (put_first rest to)

-- whichever item went on here, a trie of the same entries still stands at the root above it
abbrev pub StandsAboveItem : {S : Type 0} → (S → ℕ → Cell → Type 0) → ℕ → ℕ → S → Ledger → S → Ledger → Type 0
StandsAboveItem has at n s l s_new l_new = (r : ℕ) (es : List Entry) (way : List Fork) (e : Entry) (front : List ℕ) (rest : Extents)
    → Goes has s l r at n es way e front rest → (u : Tree) × Stood has s_new l_new r es u

-- in some trie, some item
pub record GoesOn {S : Type 0} (has : S → ℕ → Cell → Type 0) (s : S) (l : Ledger) (at n : ℕ) : Type 0 where
  pub r : ℕ
  pub es : List Entry
  pub way : List Fork
  pub e : Entry
  pub front : List ℕ
  pub rest : Extents
  pub goes : Goes has s l r at n es way e front rest

-- and some extent behind that one lies in a sparse chunk
pub record GoesSparse {S : Type 0} (has : S → ℕ → Cell → Type 0) (s : S) (l : Ledger) (at n : ℕ) : Type 0 where
  pub on : GoesOn has s l at n
  pub sparse : SparseExtents l on.rest

-- behind an item's first extent lie others
pub record LiesBehind (has : ℕ → Cell → Type 0) (at : ℕ) (x : Extents) (next n : ℕ) : Type 0 where
  pub item : List ℕ
  pub rest : Extents
  pub is : x ≡ linked at rest
  pub lies : LiesAt has next n item rest

-- however an item lies here, others lie behind its first extent
abbrev pub GoesBehind : {S : Type 0} → (S → ℕ → Cell → Type 0) → ℕ → ℕ → S → S → ℕ → ℕ → Type 0
GoesBehind has at n s s_new next next_n = (item : List ℕ) (x : Extents) → LiesAt (has s) at n item x → LiesBehind (has s_new) at x next next_n

-- there is one, with so many octets of the item from there on
pub record IsBehind {S : Type 0} (has : S → ℕ → Cell → Type 0) (at n : ℕ) (s s_new : S) (next next_n : ℕ) : Type 0 where
  pub fewer : next_n < n
  pub item : (item : List ℕ) × HasItem (has s_new) next next_n item
  pub behind : GoesBehind has at n s s_new next next_n
