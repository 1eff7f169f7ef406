use Rattle.std.proofs.Common.{ℕ, ◌∙◌, ap, sym}
use Rattle.std.specs.Int.{bit_at}
use Rattle.std.proofs.lemmas.Nat.Bits.{bit_at-pow_other}
use Rattle.packed_node.proofs.bitmap.pair.Goals as goal

pub with-requires-clause-absent : goal.with-requires-clause-absent
with-requires-clause-absent c =
    ap (λ (n : ℕ). bit_at n c.args.second) c.bit.ensures.value ∙ bit_at-pow_other c.args.first c.args.second (λ e. c.requires.apart (sym e))
