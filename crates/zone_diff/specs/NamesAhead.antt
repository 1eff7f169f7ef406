-- Names that are left of two zones, gone through side by side.
use Rattle.std.specs.Prelude.{◌≡◌, ℕ, ◌≤◌, Bool, if◌then◌else◌, List, [], ◌∷◌, length, take, drop, Option, Some, None}
use Rattle.std.specs.Int.{w16, from_be_bytes}
use Rattle.std.specs.Ordering.{match_ordering}
use Rattle.std.specs.declared.cmp.Ordering.{Ordering}
use Rattle.std.specs.declared.cmp.Ordering.TheVariants.{Less, Equal, Greater}
use Rattle.zone_model.specs.Names.{Name, name_cmp, wire}
use Rattle.zone_model.specs.Items.{split_sets}
use Rattle.zone_model.specs.Records.{Entry, IsItem}
use Rattle.zone_model.specs.Versions.{Version, Operation, DeleteName}
use Rattle.rr_data.specs.ItemViews.{sets_seen}
use Rattle.zone_diff.specs.declared.names.Ahead.{Ahead}
use Rattle.zone_diff.specs.declared.Serial.{Serial}
use Rattle.zone_diff.specs.Differences.{difference, entry_difference}
use Rattle.zone_diff.specs.Sinks.{AddsFront, Aim}

-- ---- one zone

-- the entry that an item has behind its owner
unfoldable pub entry_laid : Name → List ℕ → Entry
entry_laid owner octets = let behind = drop (length (wire owner)) octets in sets_seen (split_sets (from_be_bytes w16 (take 2 behind)) None (drop 2 behind))

-- the names that are left: the one whose item is laid down, and those behind it
abbrev pub pairs_ahead : Option Ahead → List ℕ → Version → Version
pairs_ahead None octets behind = []
pairs_ahead (Some a) octets behind = (a.owner, entry_laid a.owner (take a.len octets)) ∷ behind

-- an item is laid down
abbrev pub Stands : Option Ahead → List ℕ → Type 0
Stands None octets = Unit {0}
Stands (Some a) octets = IsItem (take a.len octets) a.owner (entry_laid a.owner (take a.len octets)) × (a.len ≤ length octets)

abbrev pub owner_ahead : Version → Option Name
owner_ahead [] = None
owner_ahead (first ∷ rest) = Some first.0

abbrev pub behind_first : Version → Version
behind_first [] = []
behind_first (first ∷ rest) = rest

-- the octets are the first name's item, or there are none
abbrev pub SaysFirst : Version → List ℕ → Type 0
SaysFirst [] octets = octets ≡ []
SaysFirst (first ∷ rest) octets = IsItem octets first.0 first.1

-- ---- two zones

-- the first name's entry; none where no name is left
abbrev pub first_entry : Version → Entry
first_entry [] = []
first_entry (first ∷ rest) = first.1

-- the first name was passed, or wasn't
abbrev pub passed_if : Bool → Version → Version
passed_if passes left = if passes then behind_first left else left

-- Of two names the one that comes first, and how the one before stands to the one after. A name that there isn't comes last.
abbrev pub first_name : Option Name → Option Name → Option (Name × Ordering)
first_name None None = None
first_name (Some old) None = Some (old, Less)
first_name None (Some new) = Some (new, Greater)
first_name (Some old) (Some new) = match_ordering (name_cmp old new) (Some (old, Less)) (Some (old, Equal)) (Some (new, Greater))

-- the same of what is left
abbrev pub first_of : Version → Version → Option (Name × Ordering)
first_of before after = first_name (owner_ahead before) (owner_ahead after)

-- what becomes of the name that comes first
abbrev pub name_changes : Serial → Name → Ordering → Version → Version → List Operation
name_changes mode owner Less before after = DeleteName owner ∷ []
name_changes mode owner Equal before after = entry_difference mode owner (first_entry before) (first_entry after)
name_changes mode owner Greater before after = entry_difference mode owner [] (first_entry after)

-- of all operations some came, and what is left of both versions has the others
pub record Leaves (mode : Serial) (had has : Aim → List Operation → Type 0) (all : List Operation) (shows shows' : Version → Type 0) : Type 0 where
  pub before : Version
  pub after : Version
  pub shown : shows before
  pub shown' : shows' after
  pub front : AddsFront had has all (difference mode before after)
