use Rattle.std.proofs.Common.{◌≡◌, ◌/◌, ◌<◌, ◌^◌, ℕ, length, slice_index, bit_and, w64, inl, inr, rules, arith}
use Rattle.std.specs.Int.{bit_not}
use Rattle.std.proofs.lemmas.Bool.{cases_lt}
use Rattle.std.proofs.lemmas.Nat.{and_le_l}
use Rattle.std.proofs.lemmas.List.{get_or_past}
use Rattle.chunk_sets.proofs.WordLemmas.{bits_left}
use Rattle.chunk_sets.proofs.chunk_set.clear_bits.Goals as goal

each : (c : goal.After-loop-position) (i : ℕ) → slice_index c.loop-position.words i ≡ bit_and (slice_index c.args.words.now i) (bit_not w64 (slice_index c.args.others.now i))
each c i = elim (cases_lt i (length c.args.words.now)) [
  | inl l ↦ c.loop-position.invariant.done i (omega arith)
  | inr past ↦ (
      let z : slice_index c.args.words.now i ≡ 0 = get_or_past c.args.words.now i 0 past in
      let n = and_le_l (slice_index c.args.words.now i) (bit_not w64 (slice_index c.args.others.now i)) in
      let e = c.loop-position.invariant.left i (omega arith) in
      omega arith)
]

pub returns-clause-left : goal.returns-clause-left
returns-clause-left c k =
    let small : (i : ℕ) → slice_index c.args.others.now i < 2 ^ 64 = λ i. search rules in
    bits_left c.args.words.now c.args.others.now c.loop-position.words k (small (k / 64)) (each c (k / 64))
