-- What is due in a session for the bytes that came: a zone, a line `%%`, and lines.
use Rattle.std.specs.Prelude.{◌≡◌, ◌⊎◌, ◌<◌, ◌≤◌, ◌^◌, ℕ, Bool, true, false, IsTrue, List, [], ◌++◌, length, take, Option, Result, Ok}
use Rattle.zone_model.specs.Names.{Name}
use Rattle.zone_model.specs.MasterFile.{zone_of}
use Rattle.job_model.specs.Jobs.{script_lines, script_start, zone_lines}
use Rattle.job_model.specs.Sessions.{Answered, Ended, Step, all_said, first_session, session_lines}
use Rattle.job_model.specs.Sizes.{cell_count}
use Rattle.outer_io.specs.Bytes.{Grows, GrowsByFront, Held}
use Rattle.qp_multi.specs.Openings.{room_in}
use Rattle.session_lines.specs.Taking.{IsUnbroken}
use Rattle.session_talk.specs.Answering.{IsFed}
use Rattle.session_talk.specs.Workers.{Opened}
use Rattle.live_session.specs.Chunks.{ChunksFor}
use Rattle.live_session.specs.Zones.{has_cut}

-- The bytes say a zone of this origin, which fits into the chunks that were asked for or are reckoned.
pub record Opens (asked : Option ℕ) (origin : Name) (bytes : List ℕ) (o : Opened) : Type 0 where
  pub origin_is : o.origin ≡ origin
  pub zone : zone_of origin (zone_lines bytes) ≡ Ok o.zone
  pub chunks : ChunksFor asked (cell_count o.zone) o.chunks
  pub fits : cell_count o.zone ≤ room_in o.chunks

-- what the lines behind the zone come to
abbrev pub lines_in : Name → List ℕ → Step
lines_in origin bytes = session_lines origin (script_start bytes) (script_lines bytes) first_session

-- The text is due for a zone that stands and the whole lines behind it.
pub record Answers (asked : Option ℕ) (origin : Name) (bytes text : List ℕ) : Type 0 where
  pub opened : Opened
  pub opens : Opens asked origin bytes opened
  pub answered : Answered opened.chunks opened.origin opened.zone (lines_in origin bytes).said text

-- The same where no more lines come, and something was refused or not.
pub record Ends (asked : Option ℕ) (origin : Name) (bytes : List ℕ) (refused : Bool) (text : List ℕ) : Type 0 where
  pub opened : Opened
  pub opens : Opens asked origin bytes opened
  pub ended : Ended opened.chunks opened.origin opened.zone (all_said (lines_in origin bytes)) refused text

-- What is due for whole lines while more may come: nothing, until the line behind the zone is there.
abbrev pub DueBy : Bool → Option ℕ → Name → List ℕ → List ℕ → Type 0
DueBy false asked origin bytes text = text ≡ []
DueBy true asked origin bytes text = Answers asked origin bytes text

abbrev pub Due : Option ℕ → Name → List ℕ → List ℕ → Type 0
Due asked origin bytes text = DueBy (has_cut bytes) asked origin bytes text

-- All that is due for the lines that came whole lies in the sink, and nothing else.
pub record IsSettled (asked : Option ℕ) (origin : Name) (bytes : List ℕ) (before held : Held) : Type 0 where
  pub whole : List ℕ
  pub rest : List ℕ
  pub is : bytes ≡ whole ++ rest
  pub fed : IsFed whole
  pub unbroken : IsUnbroken rest
  pub text : List ℕ
  pub due : Due asked origin whole text
  pub grew : Grows before held text

-- the zone is there whole, by the line behind it or the end of input
abbrev pub IsThere : List ℕ → Bool → Type 0
IsThere bytes ended = (has_cut bytes ≡ true) ⊎ IsTrue ended

-- what is due for the first bytes, behind which there are others: nothing yet; or the replies to lines, whether or not more come
abbrev pub DueAt : Option ℕ → Name → List ℕ → List ℕ → Bool → List ℕ → Type 0
DueAt asked origin bytes rest ended text =
    (text ≡ []) ⊎ (((has_cut bytes ≡ true) ⊎ ((rest ≡ []) × IsTrue ended)) × (Answers asked origin bytes text ⊎ ((refused : Bool) × Ends asked origin bytes refused text)))

-- A front of what is due for the first of the bytes lies in the sink.
pub record HoldsFront (asked : Option ℕ) (origin : Name) (bytes : List ℕ) (ended : Bool) (before held : Held) : Type 0 where
  pub first : List ℕ
  pub rest : List ℕ
  pub is : bytes ≡ first ++ rest
  pub text : List ℕ
  pub due : DueAt asked origin first rest ended text
  pub grew : GrowsByFront before held text

-- All lines were answered, of which there come no more: the end of input was told, or 2^46 bytes came.
pub record HasEnded (asked : Option ℕ) (origin : Name) (bytes : List ℕ) (ended : Bool) (refused : Bool) (before held : Held) : Type 0 where
  pub there : IsThere bytes ended
  pub text : List ℕ
  pub ends : Ends asked origin bytes refused text
  pub grew : Grows before held text

-- A line came that is longer than lines may be. The replies to those before it lie in the sink.
pub record HasLongLine (asked : Option ℕ) (origin : Name) (bytes : List ℕ) (ended : Bool) (before held : Held) : Type 0 where
  pub whole : List ℕ
  pub rest : List ℕ
  pub is : bytes ≡ whole ++ rest
  pub fed : IsFed whole
  pub over : 2 ^ 24 < length rest
  pub long : IsUnbroken (take (2 ^ 24) rest)
  pub there : has_cut whole ≡ true
  pub text : List ℕ
  pub answers : Answers asked origin whole text
  pub grew : Grows before held text

-- The zone has more cells than its index has room for. Both numbers are told.
pub record DoesNotFit (asked : Option ℕ) (origin : Name) (bytes : List ℕ) (cells limit : ℕ) : Type 0 where
  pub opened : Opened
  pub origin_is : opened.origin ≡ origin
  pub zone : zone_of origin (zone_lines bytes) ≡ Ok opened.zone
  pub chunks : ChunksFor asked (cell_count opened.zone) opened.chunks
  pub cells_are : cells ≡ cell_count opened.zone
  pub limit_is : limit ≡ room_in opened.chunks
  pub over : limit < cells
