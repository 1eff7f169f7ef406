use Rattle.std.proofs.Common.{◌%◌, ◌∙◌, sym, ap, count_ones}
use Rattle.packed_node.proofs.BitmapLemmas.{count_below}
use Rattle.packed_node.proofs.bitmap.count_below.Goals as goal

pub returns-clause-smaller : goal.returns-clause-smaller
returns-clause-smaller c =
    ap (λ n. count_ones (c.args.bitmap % n)) c.bit.ensures.value ∙ sym (count_below c.args.bitmap c.args.position)
