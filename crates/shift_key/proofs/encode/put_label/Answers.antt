use Rattle.shift_key.proofs.EncodeLemmas.{octet_fits}
use Rattle.shift_key.proofs.encode.put_label.Goals as goal

pub put_octet-at-requires : goal.put_octet-at-requires
put_octet-at-requires c = octet_fits c.args.places.now c.loop-octet.places c.args.label.now c.args.start c.loop-octet.at c.loop-octet.octet-index c.requires c.loop-octet.invariant c.loop-octet-test.true
