use Rattle.std.proofs.Common.{arith}
use Rattle.zone_model.proofs.KeyLaws.{length-key_of}
use Rattle.shift_key.proofs.Key.at.Goals as goal

pub bounds-self-inside-place : goal.bounds-self-inside-place
bounds-self-inside-place c = omega (arith, length-key_of c.self.inside.name c.self.invariant.name, c.self.invariant.laid.len_is)
