use Rattle.zone_model.proofs.KeyLaws.{key_once}
use Rattle.shift_key.proofs.laws.keys_tell_names_apart.Goals as goal

pub returns : goal.returns
returns c = λ a b h k. key_once a b h.each k.each
