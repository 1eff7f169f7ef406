-- What the cells of a version are.
use Rattle.std.specs.Prelude.{◌≡◌, ℕ, List, [], map, Option, Some, None, Contains}
use Rattle.packed_node.specs.declared.Cell.{Cell}
use Rattle.pin_core.specs.declared.kept.CellAt.{CellAt}
use Rattle.zone_model.specs.Keys.{Leads}
use Rattle.trie_model.specs.Keys.{Entry}
use Rattle.trie_model.specs.Trees.{Tree}
use Rattle.trie_model.specs.Reach.{reach}
use Rattle.trie_model.specs.Memory.{IsTrieAt}
use Rattle.trie_read.specs.Reads.{EachTells}
use Rattle.trie_read.specs.Readings.{Told}

-- an image as a memory
unfoldable pub in_image : List CellAt → ℕ → Cell → Type 0
in_image image r c = Contains image (record { at = r; big = c.big; small = c.small })

-- The image is the trie of these entries with its top at the root: the cells that it reaches, in that order, and no others.
abbrev pub IsImageOf : List CellAt → Option ℕ → List Entry → Type 0
IsImageOf image None es = (image ≡ []) × (es ≡ [])
IsImageOf image (Some r) es = (t : Tree) × IsTrieAt (in_image image) r t es × (map (λ (c : CellAt). c.at) image ≡ reach r t)

-- and each item tells its key
pub record IsVersion (image : List CellAt) (root : Option ℕ) (es : List Entry) : Type 0 where
  pub image_of : IsImageOf image root es
  pub tells : EachTells Leads es

-- a reading of the image from the root tells of these entries
abbrev pub Holds : List CellAt → Option ℕ → List Entry → Type 0
Holds image root es = Told (in_image image) root es
