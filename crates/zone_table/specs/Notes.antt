-- What a pass of the zones tells another.
use Rattle.std.specs.Prelude.{◌≡◌, ℕ, List, length, map, Some, slice_get}
use Rattle.std.specs.List.{range_with_len}
use Rattle.zone_model.specs.Names.{Name}
use Rattle.trie_model.specs.Keys.{Entry}
use Rattle.shared_cells.specs.declared.view.Seen.{Seen}
use Rattle.qp_multi.specs.declared.meaning.Named.{Ghosts}
use Rattle.qp_multi.specs.declared.meaning.Operation.{Operation}
use Rattle.qp_multi.specs.declared.note.Note.{Note}
use Rattle.qp_multi.specs.declared.pass.Pass.{Pass}
use Rattle.qp_multi.specs.Passes.{Known, Learnt, known_at}
use Rattle.zone_table.specs.declared.note.ZonesNote.{ZonesNote}
use Rattle.zone_table.specs.declared.pass.ZonesPass.{ZonesPass}
use Rattle.zone_table.specs.Passes.{table_known, zones_known}

abbrev pub SeenHistory : Type 0
SeenHistory = Seen (List Entry) (List Operation)

-- the one at this place has learnt what it was told
abbrev pub LearntAt : List Known → List Known → List SeenHistory → ℕ → Type 0
LearntAt old new told place = (v w : Known) (t : SeenHistory) → slice_get old place ≡ Some v → slice_get new place ≡ Some w → slice_get told place ≡ Some t → Learnt v w t

-- what a note tells of the table, and of each zone

abbrev pub table_told : {X : Type 0} {N : Ghosts X} → ZonesNote X N → SeenHistory
table_told n = n.table.told.place.me.0.seen

abbrev pub zones_told : {X : Type 0} {N : Ghosts X} → ZonesNote X N → List SeenHistory
zones_told n = map (λ z. z.told.place.me.0.seen) n.zones.items

-- it is of the same table and zones
pub record IsNoteOf {X : Type 0} {N : Ghosts X} (origins : List Name) (n : ZonesNote X N) : Type 0 where
  pub table_place : n.table.place ≡ 0
  pub zone_places : map (λ z. z.place) n.zones.items ≡ range_with_len 1 (length origins)

-- it tells what the pass had seen of the table and of each zone
pub record Tells {X : Type 0} {N : Ghosts X} (p : ZonesPass X N) (n : ZonesNote X N) : Type 0 where
  pub table : table_told n ≡ (table_known p).seen
  pub zones : zones_told n ≡ map (λ (v : Known). v.seen) (zones_known p)

-- each note tells what the pass at its place had seen
abbrev pub TellEach : {X : Type 0} {N : Ghosts X} → List (Pass X N) → List (Note X N) → Type 0
TellEach passes notes = map (λ z. z.told.place.me.0.seen) notes ≡ map (λ (v : Known). v.seen) (map (λ z. known_at z.seat) passes)

-- it knows as much of the table and of each zone
pub record KnowsSame {X : Type 0} {N : Ghosts X} (old new : ZonesPass X N) : Type 0 where
  pub table : table_known new ≡ table_known old
  pub zones : zones_known new ≡ zones_known old

-- it has learnt what the note tells of the table and of each zone
pub record HasLearnt {X : Type 0} {N : Ghosts X} (old new : ZonesPass X N) (n : ZonesNote X N) : Type 0 where
  pub table : Learnt (table_known old) (table_known new) (table_told n)
  pub zones : (zone : ℕ) → LearntAt (zones_known old) (zones_known new) (zones_told n) zone
