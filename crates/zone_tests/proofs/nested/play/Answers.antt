use Rattle.std.proofs.Common.{◌≡◌, false}
use Rattle.zone_model.specs.Names.{same_name}
use Rattle.zone_tests.proofs.OpeningLaws.{two_apart}
use Rattle.zone_tests.proofs.nested.play.Goals as goal

pub run-requires-clause-chunks : goal.run-requires-clause-chunks
run-requires-clause-chunks g c = c.in-Ok.ensures.chunks

pub run-requires-clause-table_pass : goal.run-requires-clause-table_pass
run-requires-clause-table_pass g c = c.in-Ok.ensures.passes

pub run-requires-clause-different : goal.run-requires-clause-different
run-requires-clause-different g c =
    let apart : same_name c.args.upper c.args.lower ≡ false = let e = c.eq.ensures in let f = c.if-eq.false in cc in
    two_apart c.args.upper c.args.lower apart
