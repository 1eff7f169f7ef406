-- A transaction whose working set is a version of a zone.
use Rattle.std.specs.Prelude.{◌≡◌, ◌⊎◌, ℕ, ◌+◌, ◌-◌, ◌*◌, ◌/◌, ◌≤◌, List, [], ◌∷◌, ◌++◌, length, Option, Result, Ok, Err, Contains}
use Rattle.zone_model.specs.Names.{Name}
use Rattle.zone_model.specs.Records.{Entry}
use Rattle.zone_model.specs.Versions.{Version, owned, put}
use Rattle.chunk_usage.specs.Ledger.{reserve_of}
use Rattle.chunk_usage.specs.Keeping.{kept_versions}
use Rattle.chunk_usage.specs.declared.space.Shortage.{Shortage}
use Rattle.chunk_usage.specs.Handing.{Lacks}
use Rattle.zone_answer.specs.Parts.{IsRead}
use Rattle.zone_answer.specs.Standing.{IsVersion}
use Rattle.trie_model.specs.Capacity.{filled_cells}
use Rattle.job_model.specs.Sizes.{trie_entries, cell_count, cells_asked}
use Rattle.shared_cells.specs.History.{StartsWith}
use Rattle.shared_cells.specs.Steps.{IsNamed}
use Rattle.qp_multi.specs.declared.writer.WorkingVersion.{WorkingVersion}
use Rattle.qp_multi.specs.Bounds.{IsCramped, WhereSmall}
use Rattle.qp_multi.specs.Crowds.{most_met}
use Rattle.qp_multi.specs.WorkingVersions.{Works, Between, working_set}
use Rattle.qp_multi.specs.Fulls.{cells_kept}
use Rattle.qp_multi.specs.Keepings.{GoesOn}

-- the working set is the version
pub record WorksOn (d : WorkingVersion) (version : Version) : Type 0 where
  pub works : Works d
  pub set : working_set d ≡ trie_entries version
  pub valid : IsVersion version

-- it is some version
pub record WorksOnSome (d : WorkingVersion) : Type 0 where
  pub version : Version
  pub on : WorksOn d version

-- it is some version, in which a name owns an entry
pub record Owns (name : Name) (entry : Entry) (d : WorkingVersion) : Type 0 where
  pub version : Version
  pub on : WorksOn d version
  pub owned_is : entry ≡ owned name version

-- The transaction goes on, and does so many operations of the index at most, behind those that were done. A working set that is a version becomes what is told of that.
pub record EditsOne (most : ℕ) (told : Version → WorkingVersion → Type 0) (old new : WorkingVersion) : Type 0 where
  pub known : GoesOn old.seat.place.me.0 new.seat.place.me.0
  pub passes : new.seat.passes ≡ old.seat.passes
  pub log : StartsWith new.log.operations old.log.operations
  pub few : length new.log.operations ≤ length old.log.operations + most
  pub becomes : (version : Version) → WorksOn old version → told version new

abbrev pub Edits : ℕ → (Version → WorkingVersion → Type 0) → Option WorkingVersion → Option WorkingVersion → Type 0
Edits most told old new = Between (EditsOne most told) old new

-- how many operations are done: one, or none where it is refused
abbrev pub done_by : {E : Type 0} → Result (Unit {0}) E → ℕ
done_by (Ok u) = 1
done_by (Err e) = 0

-- the version stays, and octets in front are those of what a name owns
pub record Reads (name : Name) (octets : List ℕ) (len : ℕ) (version : Version) (new : WorkingVersion) : Type 0 where
  pub stays : WorksOn new version
  pub read : IsRead name version octets len

-- Where so many cells bound what was published and done, kept versions and the working set may have taken all chunks but the reserve,
-- with what was asked for.
abbrev pub IsCrowdedBy : WorkingVersion → ℕ → ℕ → Type 0
IsCrowdedBy d asked kept =
    WhereSmall d (λ most. length d.usage.given - reserve_of d.usage ≤ (kept + 1) * most_met most + 1 + asked / filled_cells)

-- There is no room for what was asked for while these versions are kept: the current one, which is the last, and others that some pass was found reading,
-- at most one for each pass. Their tries and that of the working set have almost as many cells as there are chunks but for the
-- reserve. Nor has the table the chunks that are enough for what was published and done.
pub record IsFullOn (d : WorkingVersion) (version : Version) (asked : ℕ) (kept : List ℕ) : Type 0 where
  pub named : (v : ℕ) → Contains kept v → (v ≡ d.seat.version) ⊎ IsNamed d.seat.place.me.0 v
  pub ends : (older : List ℕ) × (kept ≡ older ++ d.seat.version ∷ [])
  pub few : length kept ≤ d.seat.passes + 1
  pub many : length d.usage.given - reserve_of d.usage - 8 ≤ cell_count version + cells_kept d.seat.place.me.0 kept
  pub cramped : IsCramped d
  pub crowded : IsCrowdedBy d asked (length kept)

-- An entry was put under a name that owned this one; or there was no room for it while what is kept is kept, since the index refuses this request, though it
-- would have changed the version, and the working set is as before.
abbrev pub Stored : Name → Entry → Result (Unit {0}) Shortage → Version → WorkingVersion → Type 0
Stored name entry (Ok u) version new = WorksOn new (put name entry version)
Stored name entry (Err shortage) version new =
    WorksOn new version × IsFullOn new version (cells_asked name version (put name entry version)) (kept_versions new.usage) × (put name entry version ≡ version → ⊥) × Lacks new.usage shortage

abbrev pub Stores : Name → Entry → Entry → Result (Unit {0}) Shortage → Version → WorkingVersion → Type 0
Stores name before entry result version new = before ≡ owned name version → Stored name entry result version new
