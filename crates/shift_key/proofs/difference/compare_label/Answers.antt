use Rattle.std.proofs.Common.{[], ◌∷◌, arith, length-append}
use Rattle.std.specs.List.{flat_map}
use Rattle.zone_model.specs.Keys.{octet_positions}
use Rattle.shift_key.proofs.EncodeLemmas.{part_fits}
use Rattle.shift_key.proofs.DifferenceLemmas.{octet_differs}
use Rattle.shift_key.proofs.difference.compare_label.Goals as goal

pub compare_octet-requires : goal.compare_octet-requires
compare_octet-requires c = omega (arith, part_fits c.args.label.now c.loop-octet.octet-index c.loop-octet-test.true, c.loop-octet.invariant.at_is, c.requires, length-append (flat_map octet_positions c.args.label.now) (0 ∷ []))

pub returns-in-Err : goal.returns-in-Err
returns-in-Err c front a = octet_differs c.args.key.now front c.args.label.now c.loop-octet.at c.loop-octet.octet-index c.in-Err.difference c.loop-octet-test.true (c.loop-octet.invariant.agrees front a) c.in-Err.ensures.compared
