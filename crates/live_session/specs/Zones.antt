-- The lines of a zone that a session begins with.
use Rattle.std.specs.Prelude.{◌≡◌, ◌⊎◌, ◌<◌, ◌≤◌, ◌+◌, ◌^◌, ℕ, Bool, true, false, IsTrue, List, [], ◌∷◌, ◌++◌, Option, Some, length, take}
use Rattle.std.specs.List.{list_any}
use Rattle.zone_model.specs.Lines.{lines_of}
use Rattle.job_model.specs.Jobs.{is_cut, script_lines, script_start, zone_lines}
use Rattle.session_lines.specs.Taking.{IsUnbroken, Pending, line_end}
use Rattle.session_talk.specs.Answering.{IsFed}
use Rattle.live_session.specs.declared.zone.ZoneBytes.{ZoneBytes}

-- the line between the zone and the session's lines is among these
abbrev pub has_cut : List ℕ → Bool
has_cut bytes = list_any is_cut (lines_of bytes)

-- More bytes than a zone may have came before the line behind it.
pub record IsLongZone (bytes : List ℕ) : Type 0 where
  pub front : List ℕ
  pub rest : List ℕ
  pub is : bytes ≡ front ++ rest
  pub over : 2 ^ 24 < length front
  pub uncut : has_cut front ≡ false

-- ---- line by line

-- So many whole lines came, none of which is the one behind the zone.
pub record IsZoneSoFar (z : ZoneBytes) : Type 0 where
  pub fed : IsFed z.bytes.items
  pub uncut : has_cut z.bytes.items ≡ false
  pub counted : z.lines ≡ length (lines_of z.bytes.items)
  pub few : z.lines ≤ length z.bytes.items
  pub short : length z.bytes.items ≤ 2 ^ 24

-- a line more came, which is the one behind the zone or not
abbrev pub HasTaken : ZoneBytes → ZoneBytes → List ℕ → Bool → Type 0
HasTaken old new line true = (has_cut line ≡ true) × (new.bytes.items ≡ old.bytes.items) × (new.lines ≡ old.lines + 1)
HasTaken old new line false = (has_cut line ≡ false) × (new.bytes.items ≡ old.bytes.items ++ line) × (new.lines ≡ old.lines + 1) × (length new.bytes.items ≤ 2 ^ 24)

-- Bytes are a zone's lines and others, of which the first line, whole or the last, is the zone's too, and isn't too long for it.
pub record WantsLine (zone pending all : List ℕ) : Type 0 where
  pub is : all ≡ zone ++ pending
  pub uncut : has_cut zone ≡ false
  pub count : ℕ
  pub next : (line_end pending ≡ Some count) ⊎ (length pending ≡ count)
  pub line_uncut : has_cut (take count pending) ≡ false
  pub short : length zone + count ≤ 2 ^ 24

-- Bytes are a zone's lines and others, and a read gave more.
pub record WantsRead (zone pending more all : List ℕ) : Type 0 where
  pub is : all ≡ (zone ++ pending) ++ more
  pub uncut : has_cut zone ≡ false
  pub short : length pending ≤ 2 ^ 24
  pub some : 0 < length more

-- Bytes are a zone's lines, which are these, the line behind them, and a rest.
pub record CutOff (z : ZoneBytes) (bytes rest : List ℕ) : Type 0 where
  pub line : List ℕ
  pub is : bytes ≡ (z.bytes.items ++ line) ++ rest
  pub one : (text : List ℕ) × (lines_of line ≡ text ∷ []) × (is_cut text ≡ true)
  pub line_fed : IsFed line
  pub whole : IsFed (z.bytes.items ++ line)
  pub fed : IsFed z.bytes.items
  pub uncut : has_cut z.bytes.items ≡ false
  pub counted : z.lines ≡ length (lines_of z.bytes.items) + 1
  pub few : z.lines ≤ length z.bytes.items + 1
  pub short : length z.bytes.items ≤ 2 ^ 24

-- The bytes are a zone's lines, and no lines are behind them.
pub record IsWholeFront (front : List ℕ) (z : ZoneBytes) : Type 0 where
  pub zone : zone_lines front ≡ lines_of z.bytes.items
  pub lines : script_lines front ≡ []
  pub start : script_start front ≡ z.lines + 1

-- The bytes are the zone's lines, the last of which needs no line feed; or these and the line behind them.
pub record EndsZone (z : ZoneBytes) (bytes : List ℕ) : Type 0 where
  pub front : IsWholeFront bytes z
  pub short : length z.bytes.items ≤ 2 ^ 24
  pub few : z.lines ≤ 2 ^ 24 + 1

-- ---- the whole zone

-- Bytes that begin so are a zone's lines, the line behind them, and more lines.
pub record IsCutFront (front : List ℕ) (z : ZoneBytes) : Type 0 where
  pub fed : IsFed front
  pub there : (more : List ℕ) → has_cut (front ++ more) ≡ true
  pub zone : (more : List ℕ) → zone_lines (front ++ more) ≡ lines_of z.bytes.items
  pub lines : (more : List ℕ) → script_lines (front ++ more) ≡ lines_of more
  pub start : (more : List ℕ) → script_start (front ++ more) ≡ z.lines + 1

-- The zone was taken: up to the line behind it, with more bytes that came; or up to the end of input.
pub record TookZone (before given : List ℕ) (ended : Bool) (pending : Pending) (z : ZoneBytes) : Type 0 where
  pub front : List ℕ
  pub gave : given ≡ (before ++ front) ++ pending.bytes
  pub short : length z.bytes.items ≤ 2 ^ 24
  pub few : z.lines ≤ 2 ^ 24 + 1
  pub most : length pending.bytes ≤ 2 ^ 25 + 2 ^ 16
  pub told : pending.ended ≡ true → IsTrue ended
  pub parts : IsCutFront front z ⊎ ((pending.ended ≡ true) × (pending.bytes ≡ []) × IsWholeFront front z)

-- Only lines of the zone came so far, the last of which may not be whole.
pub record IsWithinZone (bytes : List ℕ) : Type 0 where
  pub zone : List ℕ
  pub rest : List ℕ
  pub is : bytes ≡ zone ++ rest
  pub fed : IsFed zone
  pub uncut : has_cut zone ≡ false
  pub unbroken : IsUnbroken rest

-- Behind what had come before bytes came of which these are left, and memory was wanted for the zone's next line, or for what a read gave.
pub record WantsMemory (before given pending : List ℕ) : Type 0 where
  pub all : List ℕ
  pub gave : given ≡ before ++ all
  pub zone : List ℕ
  pub wants : WantsLine zone pending all ⊎ ((more : List ℕ) × WantsRead zone pending more all)
