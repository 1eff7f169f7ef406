use Rattle.std.proofs.Common.{arith}
use Rattle.std.proofs.lemmas.Nat.{one_shl, pow_below}
use Rattle.packed_node.proofs.bitmap.bit.Goals as goal

pub returns-clause-small : goal.returns-clause-small
returns-clause-small c =
    let e = one_shl c.args.position 64 (omega arith) in let l = pow_below c.args.position 47 c.requires in omega arith
