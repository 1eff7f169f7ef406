use Rattle.std.proofs.Common.{◌≡◌, ◌≤◌, ℕ, Some, length}
use Rattle.std.specs.List.{slice_get}
use Rattle.zone_table.specs.Passes.{IsPassOf, table_known, zone_known}
use Rattle.zones_threads.specs.Visits.{Counted}
use Rattle.zones_threads.proofs.closing.all_names.Given as goal

abbrev pub invariant-loop-zone : goal.invariant-loop-zone
invariant-loop-zone g l = record {
  pass : IsPassOf l.zones.origins.items l.pass;
  table : table_known l.pass ≡ table_known l.initial.pass;
  many : length l.names.items ≡ l.zone;
  counted : (zone count : ℕ) → slice_get l.names.items zone ≡ Some count → Counted (zone_known l.initial.pass zone) (zone_known l.pass zone) count;
  ahead : (zone : ℕ) → l.zone ≤ zone → zone_known l.pass zone ≡ zone_known l.initial.pass zone;
}
