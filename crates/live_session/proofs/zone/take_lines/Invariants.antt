use Rattle.std.proofs.Common.{◌≡◌, ◌++◌, length}
use Rattle.live_session.specs.Zones.{IsZoneSoFar}
use Rattle.live_session.proofs.zone.take_lines.Given as goal

abbrev pub invariant-lines : goal.invariant-lines
invariant-lines l = record {
  zone : IsZoneSoFar l.zone;
  same : l.zone.bytes.items ++ l.intake.bytes ≡ l.initial.zone.bytes.items ++ l.initial.intake.bytes;
  ended : l.intake.ended ≡ l.initial.intake.ended;
}

abbrev pub decreases-lines : goal.decreases-lines
decreases-lines l = length l.intake.bytes
