-- Where lines begin and end.
use Rattle.std.specs.Prelude.{◌≡◌, ◌≤◌, ◌<◌, ◌-◌, ◌^◌, ◌∷◌, [], ℕ, List, length, drop, slice_index_or, slice_index}
use Rattle.std.specs.List.{slice_range}
use Rattle.zone_model.specs.Lines.{lines_of}

-- A stretch of a text.
pub record IsStretch (bytes : List ℕ) (from upto : ℕ) : Type 0 where
  -- It does not end before it begins.
  pub order : from ≤ upto
  -- It ends in the text.
  pub inside : upto ≤ length bytes
  -- The text is no longer than a file may be.
  pub short : length bytes ≤ 2 ^ 24

-- the first line of what stands from a place on ends at `upto`, and the next one begins at `next`
pub record FirstLine (bytes : List ℕ) (at upto next : ℕ) : Type 0 where
  pub lines : lines_of (drop at bytes) ≡ slice_range bytes at upto ∷ lines_of (drop next bytes)
  pub begins : at ≤ upto
  pub ends : upto ≤ next
  pub on : at < next
  pub inside : next ≤ length bytes
  -- a line feed stands before the next line, unless there is none
  pub fed : next < length bytes → slice_index bytes (next - 1) ≡ 10

-- the first line of a text, nothing where it has none
abbrev pub first_line : List ℕ → List ℕ
first_line text = slice_index_or (lines_of text) 0 []
