use Rattle.std.proofs.Common.{◌≡◌}
use Rattle.chunk_hints.specs.Rooms.{hint_room}
use Rattle.chunk_hints.proofs.hints.Hints.begin_walk.Given as goal

abbrev pub invariant-loop-chunk : goal.invariant-loop-chunk
invariant-loop-chunk l = hint_room l.self ≡ hint_room l.initial.self
