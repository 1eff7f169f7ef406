-- A state's fields as a state of the machine.
use Rattle.pin_core.specs.declared.state.State.TheInside.{Inside}
use Rattle.pin_core.specs.Machine.{Core, IsSound}

abbrev pub core_of : Inside → Core
core_of s = record {
  size = record { passes = s.passes; chunks = s.chunks };
  words = s.words.items;
  stages = s.stages.items;
  seen = s.seen.items;
  turn = record { version = s.version; kept = s.kept.items; marks = s.marks.items };
}

abbrev pub IsSoundInside : Inside → Type 0
IsSoundInside s = IsSound (core_of s)
