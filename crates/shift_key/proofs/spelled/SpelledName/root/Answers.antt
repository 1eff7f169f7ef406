use Rattle.std.proofs.Common.{refl}
use Rattle.zone_model.specs.Names.{labels_in}
use Rattle.shift_key.proofs.spelled.SpelledName.root.Goals as goal

pub returns : goal.returns
unfolding labels_in
returns c = refl
