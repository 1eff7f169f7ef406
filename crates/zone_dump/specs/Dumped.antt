-- What a dump asks for, and what was written of whatever is shown.
use Rattle.std.specs.Prelude.{ℕ, ◌≤◌, List, ◌++◌, length, Option, Result, OnOk, OnErr}
use Rattle.zone_model.specs.Names.{Name}
use Rattle.zone_model.specs.Keys.{most_item_octets}
use Rattle.zone_model.specs.Records.{Entry, IsItem}
use Rattle.zone_model.specs.Rows.{Directives}
use Rattle.zone_model.specs.Dumps.{owner_lines, rows_at, version_lines}
use Rattle.zone_model.specs.Versions.{Version}
use Rattle.trie_model.specs.Keys as trie
use Rattle.outer_io.specs.Bytes.{Grows, GrowsByFront, Held}
use Rattle.zone_answer.specs.Standing.{Shows, ShowsSome}
use Rattle.zone_dump.specs.Writing.{Passes}
use Rattle.zone_dump.specs.declared.lines.Lines.{Lines}

-- Items are read into a buffer that is lent.
pub record CanReadItems (holds : List trie.Entry → Type 0) (item : List ℕ) : Type 0 where
  -- the trie shows a version
  pub shown : ShowsSome holds
  -- each of its items fits
  pub room : most_item_octets ≤ length item

-- of whoever's item the octets are
abbrev pub OfItem : List ℕ → (Name → Entry → Type 0) → Type 0
OfItem item so = (owner : Name) (entry : Entry) → IsItem item owner entry → so owner entry

-- the lines of a name's records, by its item
pub record PassesItem {A E : Type 0} (result : Result A E) (item : List ℕ) (old new : Held) (had has : List ℕ) (d : Option Directives) : Type 0 where
  -- all of them came behind what the buffer had
  pub ok : OnOk result (OfItem item (λ owner entry. Passes old new had has (owner_lines d (rows_at (owner, entry)))))
  -- with a refusal the sink has taken a front of what the buffer had and of them
  pub err : OnErr result (OfItem item (λ owner entry. GrowsByFront old new (had ++ owner_lines d (rows_at (owner, entry)))))

-- the lines of whichever version is shown, on their way to a sink
pub record PassesVersion {A E : Type 0} (result : Result A E) (holds : List trie.Entry → Type 0) (old new : Held) (had has : Lines) : Type 0 where
  -- all of them came behind what was gathered
  pub ok : (zone : Version) → Shows holds zone → OnOk result (Passes old new had.text.items has.text.items (version_lines had.directives zone))
  -- with a refusal the sink has taken a front of what was gathered and of them
  pub err : (zone : Version) → Shows holds zone → OnErr result (GrowsByFront old new (had.text.items ++ version_lines had.directives zone))

-- the file of whichever version is shown
pub record WritesVersion {A E : Type 0} (result : Result A E) (holds : List trie.Entry → Type 0) (old new : Held)
    (file : Version → List ℕ) : Type 0 where
  -- the sink has taken all of it
  pub ok : (zone : Version) → Shows holds zone → OnOk result (Grows old new (file zone))
  -- with a refusal it has taken a front of it
  pub err : (zone : Version) → Shows holds zone → OnErr result (GrowsByFront old new (file zone))
