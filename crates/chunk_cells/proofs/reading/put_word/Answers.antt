use Rattle.std.proofs.Common.{ℕ, ◌+◌, ◌-◌, List, length, slice_index, ap, ◌∙◌, arith}
use Rattle.chunk_cells.proofs.ItemLaws.{put_mid_at}
use Rattle.chunk_cells.proofs.reading.put_word.Goals as goal

pub returns-clause-written : goal.returns-clause-written
returns-clause-written c k l =
    let written = c.copy_from_slice.ensures.after ∙ c.to_le_bytes.ensures in
    let eight = ap (λ (ys : List ℕ). length ys) written in
    put_mid_at c.args.start (c.args.start + 8 - c.args.start) c.args.out.now c.copy_from_slice.new.self k (omega arith) (omega arith)
    ∙ ap (λ (ys : List ℕ). slice_index ys k) written
