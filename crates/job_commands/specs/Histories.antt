-- The versions of a zone that an index's history makes.
use Rattle.std.specs.Prelude.{◌≡◌, ℕ, ◌+◌, ◌<◌, ◌≤◌, List, [], ◌∷◌, ◌++◌, length, take, zero, suc, ◌==◌, if◌then◌else◌, Contains}
use Rattle.zone_model.specs.Names.{Name, IsName}
use Rattle.zone_model.specs.Keys.{key_of}
use Rattle.zone_model.specs.Versions.{Version}
use Rattle.zone_model.specs.Transactions.{Transaction}
use Rattle.trie_model.specs.Keys as trie
use Rattle.zone_answer.specs.Standing.{IsVersion}
use Rattle.master_file.specs.Rows.{CanBeDumped}
use Rattle.job_model.specs.Sizes.{trie_entries}
use Rattle.job_model.specs.Outcomes.{JudgedBy}
use Rattle.shared_cells.specs.declared.view.Entry.{Entry as Commit'}
use Rattle.shared_cells.specs.declared.view.Naming.{Naming}
use Rattle.shared_cells.specs.declared.view.Seen.{Seen}
use Rattle.shared_cells.specs.History.{StartsWith, version_after}
use Rattle.qp_multi.specs.declared.meaning.Operation.{Operation}
use Rattle.qp_multi.specs.Operations.{applied}
use Rattle.zone_edit.specs.Ways.{MadeOnTheWay}

abbrev pub Entries : Type 0
Entries = List trie.Entry

-- a transaction of the history, by the number of its pass
abbrev pub Commit : Type 0
Commit = Commit' (List Operation)

abbrev pub SeenHistory : Type 0
SeenHistory = Seen (List trie.Entry) (List Operation)

-- An index, and the zone that it was opened with: how many chunks and passes it has, the zone's origin, and the entries of version 0.
pub record OpenedWith : Type 0 where
  pub chunks : ℕ
  pub passes : ℕ
  pub origin : Name
  pub opening : Entries

-- the entries of version j
abbrev pub index_at : Entries → List Commit → ℕ → Entries
index_at opening history j = version_after applied opening (take j history)

-- a version of a zone stands as these entries
pub record StandsAs (es : Entries) (version : Version) : Type 0 where
  pub valid : IsVersion version
  pub entries : trie_entries version ≡ es

-- these versions, by their numbers, are those of the history
abbrev pub AreVersions : OpenedWith → List Commit → (ℕ → Version) → Type 0
AreVersions s history set = (j : ℕ) → j ≤ length history → StandsAs (index_at s.opening history j) (set j)

-- What commands have done: the versions that they show, and the transaction that made each version.
pub record Deeds : Type 0 where
  pub shown : List ℕ
  pub made_by : ℕ → Transaction

-- What a commit did to its base is what a transaction asks for: with no more operations, and whatever it had made when it had done
-- some of them, some first ones of the transaction make too.
pub record IsAsked (s : OpenedWith) (asked : Transaction) (base : List Commit) (change : List Operation) : Type 0 where
  pub short : length change ≤ length asked.operations
  pub ways : (zone : Version) → StandsAs (version_after applied s.opening base) zone
      → (n : ℕ) → MadeOnTheWay s.origin asked.operations zone (applied (version_after applied s.opening base) (take n change))

-- so it is of each commit of a history, the first of which made version 1
abbrev pub AreAsked : OpenedWith → (ℕ → Transaction) → List Commit → Type 0
AreAsked s made_by history = (before : List Commit) (e : Commit) → StartsWith history (before ++ e ∷ []) → IsAsked s (made_by (length before + 1)) before e.change

-- They explain what was seen: an older version that a pass was found reading is one that they show, and each commit does what was
-- asked for.
pub record Explains (s : OpenedWith) (deeds : Deeds) (seen : SeenHistory) : Type 0 where
  pub namings : (n : Naming) → Contains seen.namings n → n.version < length seen.history → Contains deeds.shown n.version
  pub commits : AreAsked s deeds.made_by seen.history

-- what outcomes are judged by
abbrev pub judged_by : OpenedWith → (ℕ → Version) → Deeds → JudgedBy
judged_by s set deeds = record { chunks = s.chunks; passes = s.passes; origin = s.origin; set = set; made_by = deeds.made_by; shown = deeds.shown }

-- 1 if the pass of this number made version j, and else 0
abbrev pub times_by : ℕ → ℕ → List Commit → ℕ
times_by author j [] = 0
times_by author zero (e ∷ history) = 0
times_by author (suc zero) (e ∷ history) = if e.author == author then 1 else 0
times_by author (suc (suc j)) (e ∷ history) = times_by author (suc j) history

-- ---- which versions an index may have

-- They are those of a version of the zone of an origin, which master files can say: an SOA at the origin alone, names at or under it,
-- an alias by itself.
pub record IsZone (origin : Name) (es : Entries) : Type 0 where
  pub version : Version
  pub stands : StandsAs es version
  pub zone : CanBeDumped origin version

-- the first of their names is this one
abbrev pub BeginsAt : Name → Entries → Type 0
BeginsAt name [] = ⊥
BeginsAt name (e ∷ es) = IsName name × (e.key ≡ key_of name)

-- Beside an opening version stand those of a zone whose origin is the opening one's first name.
pub record IsLawful (first es : Entries) : Type 0 where
  pub origin : Name
  pub begins : BeginsAt origin first
  pub zone : IsZone origin es
