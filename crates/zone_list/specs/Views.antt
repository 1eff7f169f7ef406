-- What the readers of parts give.
use Rattle.std.specs.Prelude.{◌≡◌, ◌≢◌, ℕ, ◌+◌, ◌<◌, ◌≤◌, true, List, length, take, drop, Result, Ok, Err}
use Rattle.zone_model.specs.Lines.{lines_of}
use Rattle.zone_model.specs.MasterFile.{Zone}
use Rattle.zone_model.specs.declared.ZoneKind.TheVariants.{Memory}
use Rattle.zone_list.specs.Lists.{cut_from, begins_part, zones_from}
use Rattle.zone_list.specs.declared.parts.Front.{Front}
use Rattle.zone_text.specs.declared.refusal.ZoneRefusal.{ZoneRefusal}
use Rattle.zone_text.specs.Views.{IsRefused}

-- it isn't told as want of memory
abbrev pub IsTold : ZoneRefusal → Type 0
IsTold e = e.kind ≢ Memory

-- a part begins at a place, or the text ends there
abbrev pub IsAtPart : List ℕ → ℕ → Type 0
IsAtPart text at = at < length text → begins_part (lines_of (drop at text)) ≡ true

-- the lines in front of a text's first part are those before a place
pub record IsFront (text : List ℕ) (front : Front) : Type 0 where
  pub cut : (n : ℕ) → cut_from n (lines_of text) ≡ record { front = lines_of (take front.upto text); parts = (cut_from (n + front.lines) (lines_of (drop front.upto text))).parts }
  pub at_part : IsAtPart text front.upto
  pub inside : front.upto ≤ length text
  pub few : front.lines ≤ front.upto

-- The part that a text begins with, at line n, was read: other parts begin at a place, so many lines behind.
abbrev pub ReadsPart : List ℕ → ℕ → List Zone → List Zone → Result (ℕ × ℕ) ZoneRefusal → Type 0
ReadsPart text n old new (Ok x) = zones_from old (cut_from n (lines_of text)).parts ≡ zones_from new (cut_from (n + x.1) (lines_of (drop x.0 text))).parts
ReadsPart text n old new (Err e) = IsRefused e (zones_from old (cut_from n (lines_of text)).parts)
