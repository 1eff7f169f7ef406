use Rattle.shift_key.proofs.ShapeLemmas.{key_shape}
use Rattle.shift_key.proofs.laws.keys_have_a_shape.Goals as goal

pub returns : goal.returns
returns c = key_shape
