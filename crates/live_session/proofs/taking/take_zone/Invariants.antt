use Rattle.std.proofs.Common.{◌≡◌, ◌++◌, ◌+◌, ◌^◌, ◌≤◌, true, false, length}
use Rattle.std.specs.Prelude.{IsTrue}
use Rattle.live_session.specs.Zones.{IsZoneSoFar}
use Rattle.live_session.proofs.taking.take_zone.Given as goal

abbrev pub invariant-reads : goal.invariant-reads
invariant-reads g l = record {
  zone : IsZoneSoFar l.zone;
  gave : g.T.Talk.given l.talk ≡ g.T.Talk.given l.initial.talk ++ (l.zone.bytes.items ++ l.intake.bytes);
  most : length l.intake.bytes ≤ 2 ^ 24 + 65536;
  told : l.intake.ended ≡ true → IsTrue (g.T.Talk.ended l.talk);
  many : l.counter ≤ length (l.zone.bytes.items ++ l.intake.bytes) + 1;
  more : l.intake.ended ≡ false → l.counter ≤ length (l.zone.bytes.items ++ l.intake.bytes);
  quiet : g.T.Talk.faults l.talk ≡ g.T.Talk.faults l.initial.talk;
}
