use Rattle.std.proofs.Common.{length, ◌-◌}
use Rattle.dns_name.proofs.ScanLemmas.{Scanned}
use Rattle.dns_name.proofs.scan.wire_len.Given as goal

abbrev pub invariant-loop-at : goal.invariant-loop-at
invariant-loop-at l = Scanned l.bytes l.at

abbrev pub decreases-loop-at : goal.decreases-loop-at
decreases-loop-at l = length l.bytes - l.at
