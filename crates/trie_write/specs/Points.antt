-- Where the keys of neighbours part, and the tree of the entries that come first.
use Rattle.std.specs.Prelude.{◌≡◌, ℕ, ◌<◌, ◌≤◌, List, ◌∷◌, [], ◌++◌, Option, Some, None}
use Rattle.trie_model.specs.Keys.{at, Same, Entry, InList, Rises}
use Rattle.trie_model.specs.Trees.{Tree, entries_of, IsTree}
use Rattle.trie_write.specs.declared.branch_points.BranchPoint.{BranchPoint}

-- the keys first differ at the offset, where the second has the higher position
pub record IsPoint (a b : List ℕ) (point : BranchPoint) : Type 0 where
  pub same : Same point.offset a b
  pub before : at a point.offset ≡ point.before
  pub after : at b point.offset ≡ point.after
  pub rises : point.before < point.after
  pub early : point.offset ≤ 503
  pub inside : point.after < 47

-- where an entry parts from the first of those behind it; none where there is none
abbrev pub Ahead : Entry → List Entry → Option BranchPoint → Type 0
Ahead e rest None = rest ≡ []
Ahead e rest (Some point) = (x : Entry) × (later : List Entry) × (rest ≡ x ∷ later) × IsPoint e.key x.key point

abbrev pub Before : ℕ → Option BranchPoint → Type 0
Before low None = Unit {0}
Before low (Some point) = point.offset < low

-- the tree has the first of these entries, with offsets from low on; the next parts from its last one before, and all to come rise
pub record Front (low : ℕ) (es rest : List Entry) (next : Option BranchPoint) (t : Tree) : Type 0 where
  pub shape : IsTree low t
  pub whole : es ≡ entries_of t ++ rest
  pub last : Entry
  pub there : InList last (entries_of t)
  pub ahead : Ahead last rest next
  pub short : Before low next
  pub rises : Rises rest
