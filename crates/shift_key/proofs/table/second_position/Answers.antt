use Rattle.std.proofs.Common.{arith}
use Rattle.zone_model.proofs.OctetKeys.{bounds}
use Rattle.shift_key.proofs.table.second_position.Goals as goal

pub returns : goal.returns
returns c = let b = bounds c.args.octet (omega arith) in omega (arith, c.positions.ensures, b.first, b.second)
