use Rattle.std.proofs.Common.{arith}
use Rattle.zone_text.proofs.AddressLemmas.{hex_fits}
use Rattle.zone_text.proofs.addresses.hex.Goals as goal

pub overflow_mul-value : goal.overflow_mul-value
overflow_mul-value c = let f = hex_fits c.loop-digit.value c.loop-digit.digit-index c.loop-digit.invariant.small (omega arith) in omega arith

pub overflow_add-value : goal.overflow_add-value
overflow_add-value c = let f = hex_fits c.loop-digit.value c.loop-digit.digit-index c.loop-digit.invariant.small (omega arith) in omega arith

pub overflow_cast-result : goal.overflow_cast-result
overflow_cast-result c = let f = hex_fits c.loop-digit.value c.loop-digit.digit-index c.loop-digit.invariant.small (omega arith) in omega arith
