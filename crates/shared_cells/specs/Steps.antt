-- What each step asks of its seat, and what it tells.
use Rattle.std.specs.Prelude.{◌≡◌, ◌≢◌, ◌⊎◌, ◌↔◌, ℕ, ◌+◌, ◌-◌, ◌*◌, ◌%◌, ◌^◌, ◌<◌, ◌≤◌, ◌==◌, if◌then◌else◌, List, length, take, map, slice_index, true, Option, Some, All, AllPairs, Contains}
use Rattle.std.specs.List.{list_any, list_all}
use Rattle.atomic_table.specs.Table.{Me, Step}
use Rattle.pin_core.specs.declared.kept.CellAt.{CellAt}
use Rattle.pin_core.specs.declared.kept.Kept.{Kept}
use Rattle.pin_core.specs.declared.kept.Mark.{Mark}
use Rattle.pin_core.specs.declared.kept.Mark.TheVariants as mark
use Rattle.pin_core.specs.Words.{Size, cell_at, word_of, version_of}
use Rattle.pin_core.specs.Sound.{HasRoot, AgreesWith, IsGiven}
use Rattle.pin_core.specs.Machine.{is_settled, names_version, mark_of}
use Rattle.shared_cells.specs.declared.view.TableSize.{TableSize}
use Rattle.shared_cells.specs.declared.view.Entry.{Entry}
use Rattle.shared_cells.specs.declared.view.Naming.{Naming}
use Rattle.shared_cells.specs.declared.view.Seen.{Seen}
use Rattle.shared_cells.specs.declared.view.Progress.TheVariants as progress
use Rattle.shared_cells.specs.declared.view.PassView.{PassView}
use Rattle.shared_cells.specs.declared.view.TurnView.{TurnView}
use Rattle.shared_cells.specs.declared.view.View.{View}
use Rattle.shared_cells.specs.History.{IsPartOf, entries_by, entry_of, with_entry, version_after}
use Rattle.shared_cells.specs.Views.{core_size, words_of, kept_in, chunks_of, pinned_image, root_of, stored_view, with_more, with_progress, pinned_view, marked_view, rounded_view, learnt_view, opened_view, published_view}

-- a seat, by what it knows
abbrev pub Knower : Type 0 → Type 0 → Type 0
Knower O E = Me (Unit {0}) (View O E)

abbrev pub WordStep : Type 0
WordStep = Step (Unit {0})

-- what a compare-exchange leaves, which found this
abbrev pub exchanged_by : WordStep → ℕ → ℕ
exchanged_by step found = if found == step.first then step.second else found

-- if the cell has a word at this place, it is this one
abbrev pub IsWordOf : ℕ → ℕ → CellAt → Type 0
IsWordOf place word c = (place ≡ cell_at c.at → word ≡ c.big) × (place ≡ cell_at c.at + 1 → word ≡ c.small)

-- the version of this mark is kept
abbrev pub IsOfKept : List Kept → Mark → Type 0
IsOfKept kept (mark.Pinned version) = (k : Kept) × Contains kept k × (k.version ≡ version)
IsOfKept kept _ = Unit {0}

-- the version is the current one, or some mark names it
abbrev pub IsDue : ℕ → List Mark → ℕ → Type 0
IsDue current marks version = (version ≡ current) ⊎ (list_any (names_version version) marks ≡ true)

-- Cells that a version can be kept with.
pub record IsImage (z : Size) (words : List ℕ) (root : Option ℕ) (image : List CellAt) : Type 0 where
  -- the root is among them, or there is neither
  pub rooted : HasRoot root image
  -- each comes once
  pub once : AllPairs (λ c d. c.at ≢ d.at) image
  -- the words have them so
  pub unchanged : All (AgreesWith words) image
  -- their chunks are given
  pub given : All (IsGiven z words) image

module _ {O E : Type 0} (applied : O → E → O) (lawful : O → O → Type 0) (permitted : E → Type 0) (stands : List CellAt → Option ℕ → O → Type 0) where
  -- What an opening asks: the image is the version, which is lawful beside itself.
  pub record CanOpen (size : TableSize) (v : View O E) (version : Option O) (root : Option ℕ) (image : List CellAt) : Type 0 where
    pub turn : TurnView
    pub opening : O
    pub is_turn : v.turn ≡ Some turn
    pub is_version : version ≡ Some opening
    pub fits : IsImage (core_size size) turn.words root image
    pub good : lawful opening opening
    pub stood : stands image root opening

  -- What a publish asks: a pass is joined, there is a next number, and the image is the version that the entry leads to,
  -- which is lawful. The history may have the entry.
  pub record CanPublish (size : TableSize) (v : View O E) (change : Option E) (root : Option ℕ) (image : List CellAt) : Type 0 where
    pub turn : TurnView
    pub own : PassView E
    pub opening : O
    pub entry : E
    pub is_turn : v.turn ≡ Some turn
    pub is_pass : v.pass ≡ Some own
    pub is_open : v.seen.opening ≡ Some opening
    pub is_change : change ≡ Some entry
    pub few : length v.seen.history + 1 < 2 ^ 40
    pub fits : IsImage (core_size size) turn.words root image
    pub good : lawful opening (version_after applied opening (with_entry v.seen (entry_of own.number entry)).history)
    pub stood : stands image root (version_after applied opening (with_entry v.seen (entry_of own.number entry)).history)
    pub allowed : permitted entry

  -- What a look tells who has the turn, if CUR has this word.
  pub record Confirmed (v : View O E) (turn : TurnView) (word : ℕ) : Type 0 where
    -- the joined pass had seen no more than the turn has, and had the same opening
    pub told : IsPartOf v.seen v.told
    -- the history has the pass's entries, and no others of it
    pub entries : (own : PassView E) → v.pass ≡ Some own → own.entries ≡ entries_by own.number v.seen.history
    -- the namings of the pass are of versions that it has pinned
    pub namings : (own : PassView E) → v.pass ≡ Some own → All (λ n. n.pass ≡ own.number → Contains own.pinned n.version) v.seen.namings
    -- each entry is by a pass that was made
    pub authors : All (λ e. e.author < turn.made) v.seen.history
    -- and is one that the history may have
    pub allowed : All (λ e. permitted e.change) v.seen.history
    -- CUR names the version that the history leads to, which is kept
    pub current : (k : Kept) × Contains turn.kept k × (k.version ≡ length v.seen.history) × (word ≡ word_of k)
    -- and whose word a pin can be made of
    pub fits : word + 2 < 2 ^ 64
    -- the kept versions are of the history, and rise
    pub newest : All (λ k. k.version ≤ length v.seen.history) turn.kept
    pub rising : AllPairs (λ k j. k.version < j.version) turn.kept
    -- the turn's words have the cells of each kept image
    pub unchanged : All (λ k. All (AgreesWith turn.words) k.image) turn.kept
    -- each naming is of a pass that there is
    pub namers : All (λ n. n.pass < length turn.marks) v.seen.namings
    -- all versions are lawful
    pub versions : (o : O) → v.seen.opening ≡ Some o → (n : ℕ) → n ≤ length v.seen.history → lawful o (version_after applied o (take n v.seen.history))
    -- each kept image is its version
    pub images : (o : O) → v.seen.opening ≡ Some o → All (λ k. stands k.image k.root (version_after applied o (take k.version v.seen.history))) turn.kept

  -- so does a look of a seat
  abbrev pub Confirms : View O E → ℕ → Type 0
  Confirms v word = (turn : TurnView) × (v.turn ≡ Some turn) × Confirmed v turn word

  -- the turn looks at CUR
  abbrev pub looked : WordStep → Knower O E → ℕ → Knower O E → Type 0
  looked step m word m' = (m' ≡ m) × Confirms m.0 word

module _ {O E : Type 0} where
  -- the view after the opening
  abbrev pub Opened : View O E → Option O → Option ℕ → List CellAt → View O E → Type 0
  Opened v version root image w = (turn : TurnView) × (opening : O) × (v.turn ≡ Some turn) × (version ≡ Some opening)
      × (w ≡ opened_view v turn opening root image)

  -- the view after a publish
  abbrev pub Published : View O E → Option E → Option ℕ → List CellAt → View O E → Type 0
  Published v change root image w = (turn : TurnView) × (own : PassView E) × (entry : E) × (v.turn ≡ Some turn) × (v.pass ≡ Some own) × (change ≡ Some entry)
      × (w ≡ published_view v turn own entry root image)

  -- what a pass has seen once it has learnt begins with what it had seen, and with what it was told
  abbrev pub Learns : View O E → View O E → Type 0
  Learns v w = (w ≡ learnt_view v) × IsPartOf w.seen v.seen × IsPartOf w.seen v.told

  -- What the rule tells of a pass that is idle or pinned: all that was published and named so far. It begins with what the pass has
  -- seen, and with what it was told.
  pub record Accounts (passes : ℕ) (v : View O E) (all : Seen O E) : Type 0 where
    pub seen : IsPartOf all v.seen
    pub told : IsPartOf all v.told
    -- the history has the pass's entries, and no others of it
    pub entries : (own : PassView E) → v.pass ≡ Some own → own.entries ≡ entries_by own.number all.history
    -- its namings are of versions that it has pinned
    pub namings : (own : PassView E) → v.pass ≡ Some own → All (λ n. n.pass ≡ own.number → Contains own.pinned n.version) all.namings
    -- each entry and each naming is of a pass that there is
    pub authors : All (λ e. e.author < passes) all.history
    pub namers : All (λ n. n.pass < passes) all.namings

  -- a pass that is idle or pinned looks at CUR
  abbrev pub accounted : ℕ → WordStep → Knower O E → ℕ → Knower O E → Type 0
  accounted passes step m word m' = (m' ≡ m) × ((all : Seen O E) × Accounts passes m.0 all)

  -- the turn stores a word of CUR, which has the number of version 0's root
  abbrev pub opened : Option O → List CellAt → WordStep → Knower O E → ℕ → Knower O E → Type 0
  opened version image step m word m' = Opened m.0 version (root_of (word % 2 ^ 24)) image m'.0 × (m'.1 ≡ m.1)

  -- the turn stores a word of CUR, which has the number of the next version's root
  abbrev pub published : Option E → List CellAt → WordStep → Knower O E → ℕ → Knower O E → Type 0
  published change image step m word m' = Published m.0 change (root_of (word % 2 ^ 24)) image m'.0 × (m'.1 ≡ m.1)

  -- a pass looks at CUR after a note was joined to it
  abbrev pub learnt : WordStep → Knower O E → ℕ → Knower O E → Type 0
  learnt step m word m' = Learns m.0 m'.0 × (m'.1 ≡ m.1)

  -- an idle pass stores that it is about to look
  abbrev pub entered : WordStep → Knower O E → ℕ → Knower O E → Type 0
  entered step m word m' = m' ≡ (with_progress m.0 progress.Entered, m.1)

  -- a pass that has entered loads CUR, of whose word a pin can be made
  abbrev pub glanced : WordStep → Knower O E → ℕ → Knower O E → Type 0
  glanced step m word m' = (m' ≡ (with_progress m.0 (progress.Looked word), m.1)) × (word + 2 < 2 ^ 64)

  -- a pinned pass stores that it is idle
  abbrev pub left : WordStep → Knower O E → ℕ → Knower O E → Type 0
  left step m word m' = m' ≡ (with_progress m.0 progress.Idle, m.1)

  -- a pinned pass loads a word, which is that of its image's cell if it is one of these
  abbrev pub read : WordStep → Knower O E → ℕ → Knower O E → Type 0
  read step m word m' = (m' ≡ m) × All (IsWordOf step.word word) (pinned_image m.0.progress)

  -- the turn stores a word past the pins
  abbrev pub stored : WordStep → Knower O E → ℕ → Knower O E → Type 0
  stored step m word m' = m' ≡ (stored_view m.0 step.word word, m.1)

  -- the turn loads a word past the pins, which it knows
  abbrev pub recalled : WordStep → Knower O E → ℕ → Knower O E → Type 0
  recalled step m word m' = (m' ≡ m) × (word ≡ slice_index (words_of m.0.turn) step.word)

  -- the turn has marked the pass of this pin, which is 2 or more only if it names a kept version
  abbrev pub Marks : View O E → ℕ → ℕ → View O E → Type 0
  Marks v pass pin w = (turn : TurnView) × (v.turn ≡ Some turn) × (w ≡ marked_view v turn pass (mark_of pin)) × IsOfKept turn.kept (mark_of pin)

  -- the turn loads the pin of a pass
  abbrev pub scanned : WordStep → Knower O E → ℕ → Knower O E → Type 0
  scanned step m found m' = Marks m.0 (step.word - 1) found m'.0 × (m'.1 ≡ m.1)

  -- the turn exchanges the pin of a pass, if that was about to look
  abbrev pub assigned : WordStep → Knower O E → ℕ → Knower O E → Type 0
  assigned step m found m' = Marks m.0 (step.word - 1) (exchanged_by step found) m'.0 × (m'.1 ≡ m.1)

  -- the word of CUR, as the turn knows it
  abbrev pub IsCurrent : View O E → ℕ → Type 0
  IsCurrent v word = (k : Kept) × Contains (kept_in v.turn) k × (k.version ≡ length v.seen.history) × (word ≡ word_of k)

  -- a naming that was seen is of this version
  abbrev pub IsNamed : View O E → ℕ → Type 0
  IsNamed v version = (n : Naming) × Contains v.seen.namings n × (n.version ≡ version)

  -- A round of the turn, that leaves these versions: these marks were found, each idle or pinned.
  pub record Rounded (v w : View O E) (versions : List ℕ) : Type 0 where
    pub turn : TurnView
    pub marks : List Mark
    pub is_turn : v.turn ≡ Some turn
    -- one for each pass
    pub each : length marks ≡ length turn.marks
    pub settled : list_all is_settled marks ≡ true
    -- what they name was kept
    pub named : All (IsOfKept turn.kept) marks
    -- kept are the current version and those that the marks name, and what they name is listed
    pub after : w ≡ rounded_view v turn marks
    pub kept : versions ≡ map (λ k. k.version) (kept_in w.turn)
    -- so exactly these
    pub exact : (k : ℕ) → Contains versions k ↔ IsDue (length v.seen.history) marks k

module _ {O E : Type 0} (applied : O → E → O) (lawful : O → O → Type 0) (permitted : E → Type 0) (stands : List CellAt → Option ℕ → O → Type 0) where
  -- What pinning tells. The pass is pinned at a kept version, and has seen the history up to it and no further; so that is
  -- no older than what it had seen. Each entry of this history is one that it may have, and the image is the version that it leads to,
  -- which is lawful.
  pub record Pins (v w : View O E) : Type 0 where
    pub kept : Kept
    pub more : List (Entry E)
    pub view : w ≡ pinned_view v more kept
    pub version : kept.version ≡ length w.seen.history
    pub allowed : All (λ e. permitted e.change) w.seen.history
    pub good : (o : O) → w.seen.opening ≡ Some o → lawful o (version_after applied o w.seen.history)
    pub stood : (o : O) → w.seen.opening ≡ Some o → stands kept.image kept.root (version_after applied o w.seen.history)

  -- What an idle pass sees, which pins nothing: the history up to the current version. Each entry of it is one that it may have, and the version is
  -- lawful.
  pub record SeesCurrent (v w : View O E) : Type 0 where
    pub more : List (Entry E)
    pub view : w ≡ record v { seen = with_more v.seen more }
    pub allowed : All (λ e. permitted e.change) w.seen.history
    pub good : (o : O) → w.seen.opening ≡ Some o → lawful o (version_after applied o w.seen.history)

  -- It does so by this word of CUR.
  pub record Sights (v : View O E) (word : ℕ) (w : View O E) : Type 0 where
    pub sees : SeesCurrent v w
    -- a pin can be made of the word, which tells the version
    pub fits : word + 2 < 2 ^ 64
    pub version : version_of (word + 2) ≡ length w.seen.history

  -- an idle pass loads CUR
  abbrev pub sighted : WordStep → Knower O E → ℕ → Knower O E → Type 0
  sighted step m word m' = Sights m.0 word m'.0 × (m'.1 ≡ m.1)

  -- A settle that left this pin.
  pub record Settles (v : View O E) (pin : ℕ) (w : View O E) : Type 0 where
    pub pins : Pins v w
    -- the pin tells version and root
    pub low : 2 ≤ pin
    pub version : version_of pin ≡ pins.kept.version
    pub root : root_of ((pin - 2) % 2 ^ 24) ≡ pins.kept.root
    -- the cells are in the index
    pub inside : All (λ c. c.at < 1024 * chunks_of v.pass) pins.kept.image

  abbrev pub settled : WordStep → Knower O E → ℕ → Knower O E → Type 0
  settled step m found m' = Settles m.0 (exchanged_by step found) m'.0 × (m'.1 ≡ m.1)
