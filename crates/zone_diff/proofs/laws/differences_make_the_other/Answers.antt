use Rattle.std.proofs.Common.{◌∙◌, ap, Ok}
use Rattle.zone_diff.specs.declared.Serial.TheVariants.{Keep}
use Rattle.zone_model.specs.Versions.{Version}
use Rattle.zone_diff.proofs.DifferenceLaws.{difference_makes, made_keep}
use Rattle.zone_diff.proofs.laws.differences_make_the_other.Goals as goal

pub returns : goal.returns
returns c = record {
  every = λ origin before after h k. difference_makes Keep origin before after h k ∙ ap (λ (v : Version). Ok v) (made_keep origin before after h k);
  but_serials = difference_makes;
}
