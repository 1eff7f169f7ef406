-- What a pass remembers of the table of zones.
use Rattle.std.specs.Prelude.{◌≡◌, ◌↔◌, ℕ, Bool, true, false, List, length, get_or, Some, slice_get}
use Rattle.zone_model.specs.Names.{Name, wire}
use Rattle.trie_model.specs.Keys.{Entry}
use Rattle.shared_cells.specs.declared.view.Seen.{Seen}
use Rattle.shared_cells.specs.History.{IsPartOf}
use Rattle.shared_cells.specs.Views.{is_told}
use Rattle.qp_multi.specs.declared.meaning.Operation.{Operation}
use Rattle.qp_multi.specs.Passes.{version_seen}
use Rattle.zone_table.specs.Tables.{IsAttached}

-- what is told of a zone, by its number
abbrev pub is_marked : List Bool → ℕ → Bool
is_marked attached zone = get_or attached zone false

-- it is told of each zone whether this version has its origin
abbrev pub AreAttached : List Name → List Entry → List Bool → Type 0
AreAttached origins es attached = (zone : ℕ) (origin : Name) → slice_get origins zone ≡ Some origin → (is_marked attached zone ≡ true) ↔ IsAttached es origin

-- a zone that is told to be attached, and whose origin has this wire form
pub record IsAt (origins : List Name) (attached : List Bool) (octets : List ℕ) (zone : ℕ) : Type 0 where
  pub origin : Name
  pub origin_is : slice_get origins zone ≡ Some origin
  pub marked : is_marked attached zone ≡ true
  pub wire_is : wire origin ≡ octets

-- It is told of the version of this number, which was seen: what was seen then is a part of this.
pub record Remembers (origins : List Name) (seen : Seen (List Entry) (List Operation)) (number : ℕ) (attached : List Bool) : Type 0 where
  pub before : Seen (List Entry) (List Operation)
  pub grows : IsPartOf seen before
  pub told : is_told before.opening ≡ true
  pub number_is : number ≡ length before.history
  pub attached_are : AreAttached origins (version_seen before) attached
