use Rattle.std.proofs.Common.{arith}
use Rattle.zone_model.proofs.OctetKeys.{bounds}
use Rattle.shift_key.proofs.table.first_position.Goals as goal

pub returns : goal.returns
returns c = omega (arith, c.positions.ensures, (bounds c.args.octet (omega arith)).first)
