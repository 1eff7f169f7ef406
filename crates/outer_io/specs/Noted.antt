-- What an event adds to notes.
use Rattle.std.specs.Prelude.{ℕ, List, ◌++◌, Bool, true}
use Rattle.outer_io.specs.declared.noting.Event.{Event}
use Rattle.outer_io.specs.declared.noting.Event.TheVariants as event

abbrev pub bytes_with : List ℕ → Event → List ℕ
bytes_with noted (event.Moved bytes) = noted ++ bytes.now
bytes_with noted event.Ended = noted

abbrev pub ended_with : Bool → Event → Bool
ended_with ended (event.Moved bytes) = ended
ended_with ended event.Ended = true
