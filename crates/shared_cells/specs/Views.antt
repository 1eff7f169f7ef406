-- What each seat knows, as plain data, and how a step changes it.
use Rattle.std.specs.Prelude.{ℕ, ◌+◌, List, [], ◌∷◌, ◌++◌, length, replicate, slice_set, Bool, true, false, Option, Some, None, ◌==◌, if◌then◌else◌}
use Rattle.pin_core.specs.declared.kept.CellAt.{CellAt}
use Rattle.pin_core.specs.declared.kept.Kept.{Kept}
use Rattle.pin_core.specs.declared.kept.Mark.{Mark}
use Rattle.pin_core.specs.declared.kept.Mark.TheVariants as mark
use Rattle.pin_core.specs.Words.{Size, size_of}
use Rattle.pin_core.specs.Sound.{Turn, turn_of}
use Rattle.pin_core.specs.Machine.{started, kept_by_round, round_checked}
use Rattle.shared_cells.specs.declared.view.TableSize.{TableSize}
use Rattle.shared_cells.specs.declared.view.Entry.{Entry}
use Rattle.shared_cells.specs.declared.view.Naming.{Naming}
use Rattle.shared_cells.specs.declared.view.Seen.{Seen}
use Rattle.shared_cells.specs.declared.view.Progress.{Progress}
use Rattle.shared_cells.specs.declared.view.Progress.TheVariants as progress
use Rattle.shared_cells.specs.declared.view.PassView.{PassView}
use Rattle.shared_cells.specs.declared.view.TurnView.{TurnView}
use Rattle.shared_cells.specs.declared.view.View.{View}
use Rattle.shared_cells.specs.History.{nothing_seen, longer_seen, entry_of, with_entry}

-- the size as the pin core has it
abbrev pub core_size : TableSize → Size
core_size size = size_of size.passes size.chunks

-- tests that a seat's type states as equations

-- 0 for no pass, else one more than its number
abbrev pub number_of : {E : Type 0} → Option (PassView E) → ℕ
number_of None = 0
number_of (Some own) = own.number + 1

abbrev pub has_turn : Option TurnView → Bool
has_turn None = false
has_turn (Some turn) = true

abbrev pub is_told : {O : Type 0} → Option O → Bool
is_told None = false
is_told (Some opening) = true

abbrev pub is_idle : Progress → Bool
is_idle progress.Idle = true
is_idle _ = false

abbrev pub is_pinned : Progress → Bool
is_pinned (progress.Pinned k) = true
is_pinned _ = false

-- what a pinned pass has pinned: the version, its root and its cells

abbrev pub pinned_version : Progress → ℕ
pinned_version (progress.Pinned k) = k.version
pinned_version _ = 0

abbrev pub pinned_root : Progress → Option ℕ
pinned_root (progress.Pinned k) = k.root
pinned_root _ = None

abbrev pub pinned_image : Progress → List CellAt
pinned_image (progress.Pinned k) = k.image
pinned_image _ = []

-- how many chunks the pass's index has
abbrev pub chunks_of : {E : Type 0} → Option (PassView E) → ℕ
chunks_of None = 0
chunks_of (Some own) = own.chunks

-- the words as the turn knows them
abbrev pub words_of : Option TurnView → List ℕ
words_of None = []
words_of (Some turn) = turn.words

-- the versions that it keeps
abbrev pub kept_in : Option TurnView → List Kept
kept_in None = []
kept_in (Some turn) = turn.kept

-- the marks of its round
abbrev pub marks_of : Option TurnView → List Mark
marks_of None = []
marks_of (Some turn) = turn.marks

-- the root that a number stands for in the words of CUR
abbrev pub root_of : ℕ → Option ℕ
root_of n = if n == 16777213 then None else Some n

abbrev pub kept_of : ℕ → Option ℕ → List CellAt → Kept
kept_of version root image = record { version = version; root = root; image = image }

-- the turn at the beginning: it keeps the empty version 0, and has made no pass
abbrev pub first_turn : TableSize → TurnView
first_turn size = record {
  kept = (started (core_size size)).turn.kept;
  marks = (started (core_size size)).turn.marks;
  made = 0;
  chunks = size.chunks;
  words = (started (core_size size)).words;
}

-- it keeps version 0 alone, with this root and image
abbrev pub opened_turn : TurnView → Option ℕ → List CellAt → TurnView
opened_turn turn root image = record turn { kept = kept_of 0 root image ∷ []; marks = replicate (length turn.marks) mark.Blank }

-- it keeps one version more, and a round begins
abbrev pub published_turn : TurnView → Kept → TurnView
published_turn turn new = record turn { kept = turn.kept ++ new ∷ []; marks = replicate (length turn.marks) mark.Blank }

-- it stores a word past the pins
abbrev pub stored_turn : TurnView → ℕ → ℕ → TurnView
stored_turn turn place word = record turn { words = slice_set turn.words place word }

abbrev pub stored_in : Option TurnView → ℕ → ℕ → Option TurnView
stored_in None place word = None
stored_in (Some turn) place word = Some (stored_turn turn place word)

-- what it knows of the kept versions and of its round becomes this
abbrev pub with_round : TurnView → Turn → TurnView
with_round turn t = record turn { kept = t.kept; marks = t.marks }

-- it marks a pass, and ends the round if that was the last. The version is the current one
abbrev pub marked_turn : ℕ → TurnView → ℕ → Mark → TurnView
marked_turn version turn pass m = with_round turn (round_checked (length turn.marks) (turn_of version turn.kept (slice_set turn.marks pass m)))

-- a round that found these marks has ended
abbrev pub rounded_turn : ℕ → TurnView → List Mark → TurnView
rounded_turn version turn marks = record turn { kept = kept_by_round (turn_of version turn.kept marks); marks = replicate (length turn.marks) mark.Blank }

-- what a mark says of its pass
abbrev pub naming_by : ℕ → Mark → List Naming
naming_by pass (mark.Pinned version) = record { pass = pass; version = version } ∷ []
naming_by pass _ = []

-- what the marks say of the passes from this one on
abbrev pub namings_by : ℕ → List Mark → List Naming
namings_by pass [] = []
namings_by pass (m ∷ ms) = naming_by pass m ++ namings_by (pass + 1) ms

-- a pass more was made
abbrev pub one_more : Option TurnView → Option TurnView
one_more None = None
one_more (Some turn) = Some (record turn { made = turn.made + 1 })

module _ {E : Type 0} where
  -- a pass that has done nothing
  abbrev pub fresh_pass : ℕ → ℕ → PassView E
  fresh_pass number chunks = record { number = number; chunks = chunks; entries = []; pinned = [] }

  -- the pass has pinned one version more
  abbrev pub with_pinned : Option (PassView E) → ℕ → Option (PassView E)
  with_pinned None version = None
  with_pinned (Some own) version = Some (record own { pinned = own.pinned ++ version ∷ [] })

module _ {O E : Type 0} where
  -- a view of so much, of no pass and without the turn
  abbrev pub view_of : Seen O E → View O E
  view_of seen = record { seen = seen; told = nothing_seen; pass = None; progress = progress.Idle; turn = None }

  -- the turn's seat when the table is made
  abbrev pub first_view : TableSize → View O E
  first_view size = record (view_of nothing_seen) { turn = Some (first_turn size) }

  -- after so many passes were made
  abbrev pub unopened_view : TableSize → ℕ → View O E
  unopened_view size made = record (view_of nothing_seen) { turn = Some (record (first_turn size) { made = made }) }

  -- a pass that knows of no opening
  abbrev pub pass_view : ℕ → ℕ → View O E
  pass_view number chunks = record (view_of nothing_seen) { pass = Some (fresh_pass number chunks) }

  -- the pass of the next number, if the seat has the turn
  abbrev pub next_pass : Option TurnView → View O E
  next_pass None = view_of nothing_seen
  next_pass (Some turn) = pass_view turn.made turn.chunks

  abbrev pub new_pass_of : View O E → View O E
  new_pass_of v = next_pass v.turn

  abbrev pub with_new_pass : View O E → View O E
  with_new_pass v = record v { turn = one_more v.turn }

  -- what a note tells: as much as this seat has seen
  abbrev pub note_of : View O E → View O E
  note_of v = view_of v.seen

  -- the joined pass gets its view back, with all that was seen
  abbrev pub pass_of : View O E → View O E
  pass_of v = record (view_of v.seen) { pass = v.pass }

  abbrev pub without_pass : View O E → View O E
  without_pass v = record v { pass = None }

  -- a pass is joined to the turn
  abbrev pub with_pass : View O E → View O E → View O E
  with_pass v w = record v { pass = w.pass; told = w.seen }

  -- a note is joined to a pass, and isn't learnt yet
  abbrev pub with_note : View O E → View O E → View O E
  with_note v w = record v { told = w.seen }

  -- a seat that was joined to another knows nothing
  abbrev pub spent_view : View O E
  spent_view = view_of nothing_seen

  -- what was told is learnt
  abbrev pub learnt_view : View O E → View O E
  learnt_view v = record v { seen = longer_seen v.seen v.told }

  -- the index is open, with this version 0
  abbrev pub opened_view : View O E → TurnView → O → Option ℕ → List CellAt → View O E
  opened_view v turn opening root image = record v { seen = record v.seen { opening = Some opening }; turn = Some (opened_turn turn root image) }

  -- the joined pass has published the next version
  abbrev pub published_view : View O E → TurnView → PassView E → E → Option ℕ → List CellAt → View O E
  published_view v turn own change root image = record v {
    seen = with_entry v.seen (entry_of own.number change);
    pass = Some (record own { entries = own.entries ++ entry_of own.number change ∷ [] });
    turn = Some (published_turn turn (kept_of (length v.seen.history + 1) root image));
  }

  -- the pass has come so far
  abbrev pub with_progress : View O E → Progress → View O E
  with_progress v p = record v { progress = p }

  -- so many more entries were seen
  abbrev pub with_more : Seen O E → List (Entry E) → Seen O E
  with_more seen more = record seen { history = seen.history ++ more }

  -- the pass has pinned this version, and has seen the history up to it
  abbrev pub pinned_view : View O E → List (Entry E) → Kept → View O E
  pinned_view v more k = record v { seen = with_more v.seen more; pass = with_pinned v.pass k.version; progress = progress.Pinned k }

  -- more namings are listed
  abbrev pub with_namings : Seen O E → List Naming → Seen O E
  with_namings seen more = record seen { namings = seen.namings ++ more }

  -- the turn has stored a word past the pins
  abbrev pub stored_view : View O E → ℕ → ℕ → View O E
  stored_view v place word = record v { turn = stored_in v.turn place word }

  -- the turn has marked a pass
  abbrev pub marked_view : View O E → TurnView → ℕ → Mark → View O E
  marked_view v turn pass m = record v { seen = with_namings v.seen (naming_by pass m); turn = Some (marked_turn (length v.seen.history) turn pass m) }

  -- the turn's round has found these marks, and has ended
  abbrev pub rounded_view : View O E → TurnView → List Mark → View O E
  rounded_view v turn marks = record v { seen = with_namings v.seen (namings_by 0 marks); turn = Some (rounded_turn (length v.seen.history) turn marks) }
