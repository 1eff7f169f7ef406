use Rattle.std.proofs.Common.{◌≡◌}
use Rattle.shared_cells.proofs.KeptLaws.{Gathered}
use Rattle.shared_cells.proofs.round.make_round.Given as goal

-- the passes so far are marked, and the versions that their pins named are gathered
abbrev pub invariant-loop-pass : goal.invariant-loop-pass
invariant-loop-pass g l = record {
  table : l.place.table_id ≡ l.initial.place.table_id;
  slots : l.place.me.1 ≡ l.initial.place.me.1;
  gathered : Gathered l.passes l.version l.initial.place.me.0 l.place.me.0 l.pass l.kept;
}
