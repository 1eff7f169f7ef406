use Rattle.zone_model.proofs.KeyLaws.{key_cmp-key_of}
use Rattle.shift_key.proofs.laws.keys_are_in_the_order_of_names.Goals as goal

pub returns : goal.returns
returns c = λ a b h k. key_cmp-key_of a b h.each k.each
