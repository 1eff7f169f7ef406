use Rattle.std.proofs.Common.{◌≡◌, ◌+◌, ℕ, Some, length, get_or}
use Rattle.std.specs.List.{slice_get}
use Rattle.zones_threads.proofs.ending.versions_in.Given as goal

abbrev pub invariant-loop-zone : goal.invariant-loop-zone
invariant-loop-zone l = record {
  many : length l.versions.items ≡ l.zone;
  each : (zone version : ℕ) → slice_get l.versions.items zone ≡ Some version → version ≡ get_or l.numbers (zone + 1) 0;
}
