use Rattle.std.proofs.Common.{◌+◌, ◌<◌, length, arith}
use Rattle.std.proofs.lemmas.Option.{get_or_from_slice_get}
use Rattle.chunk_cells.proofs.CopyLaws.{upto_next}
use Rattle.chunk_cells.proofs.plain.copy_among.Goals as goal

pub loop-k-preserved : goal.loop-k-preserved
loop-k-preserved c =
    let l = c.requires.room c.loop-k.k c.loop-k-test.true in
    let same = c.loop-k.auto.cells in
    let room : c.args.to + c.loop-k.k < length c.loop-k.cells = omega arith in
    upto_next _ c.loop-k.invariant c.loop-k-test.true room c.requires.apart (λ d e. get_or_from_slice_get c.loop-k.cells (c.args.from + c.loop-k.k) d _ e)
