use Rattle.std.proofs.Common.{◌≡◌, ◌-◌, length}
use Rattle.chunk_hints.specs.Rooms.{age_room}
use Rattle.chunk_hints.proofs.ages.Ages.settle_all.Given as goal

abbrev pub decreases-loop-chunk : goal.decreases-loop-chunk
decreases-loop-chunk l = length l.chunks - l.from

abbrev pub invariant-loop-chunk : goal.invariant-loop-chunk
invariant-loop-chunk l = age_room l.self ≡ age_room l.initial.self
