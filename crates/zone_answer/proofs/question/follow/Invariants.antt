use Rattle.std.proofs.Common.{◌≡◌, ◌-◌, ◌≤◌, List}
use Rattle.zone_model.specs.Rows.{Row}
use Rattle.zone_model.specs.Versions.{Version}
use Rattle.zone_answer.specs.Answers.{LeadsTo, behind, followed, going_on}
use Rattle.zone_answer.specs.Standing.{Shows, ShowsSome}
use Rattle.zone_answer.proofs.question.follow.Given as goal

-- what was gathered, and the answer from the last target on
abbrev pub invariant-loop : goal.invariant-loop
invariant-loop g l = record {
  shown : ShowsSome (g.V.Reading.holds l.version);
  same : l.version ≡ l.fn.version;
  some : 1 ≤ l.counter;
  so_far : (zone : Version) (given : List Row) → Shows (g.V.Reading.holds l.fn.version) zone → g.S.RowSink.has l.fn.rows given
      → (rows : List Row) × g.S.RowSink.has l.rows rows
      × (behind given (going_on (followed 15 l.origin zone l.rtype) (LeadsTo l.fn.walker.target)) ≡ behind rows (going_on (followed (16 - l.counter) l.origin zone l.rtype) (LeadsTo l.walker.target)));
}
