use Rattle.std.proofs.Common.{◌<◌, ◌^◌, slice_index, rules, arith}
use Rattle.chunk_sets.proofs.WordLemmas.{all_full, set_before, clear_at}
use Rattle.chunk_sets.proofs.chunk_set.first_clear_bit.Goals as goal

pub returns-then-bits-clause-set_before : goal.returns-then-bits-clause-set_before
returns-then-bits-clause-set_before c k l =
    let small : slice_index c.args.words.now c.loop-position.position < 2 ^ 64 = search rules in
    set_before c.args.words.now c.loop-position.position c.loop-position.invariant (omega arith) k (let e = c.trailing_ones.ensures in omega arith)

pub returns-then-bits-clause-clear : goal.returns-then-bits-clause-clear
returns-then-bits-clause-clear c l =
    let small : slice_index c.args.words.now c.loop-position.position < 2 ^ 64 = search rules in
    rw c.trailing_ones.ensures (clear_at c.args.words.now c.loop-position.position c.loop-position.invariant (omega arith))

pub returns-clause-set_before : goal.returns-clause-set_before
returns-clause-set_before c k l = all_full c.args.words.now c.loop-position.position c.loop-position.invariant k (omega arith)
