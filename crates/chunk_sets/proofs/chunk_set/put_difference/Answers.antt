use Rattle.std.proofs.Common.{◌≡◌, ◌/◌, ◌<◌, ◌^◌, ℕ, length, slice_index, bit_and, w64, inl, inr, rules, arith}
use Rattle.std.specs.Int.{bit_not}
use Rattle.std.proofs.lemmas.Bool.{cases_lt}
use Rattle.std.proofs.lemmas.Nat.{and_le_l}
use Rattle.std.proofs.lemmas.List.{get_or_past}
use Rattle.chunk_sets.proofs.WordLemmas.{bits_left}
use Rattle.chunk_sets.proofs.chunk_set.put_difference.Goals as goal

each : (c : goal.After-loop-position) (i : ℕ) → slice_index c.loop-position.words i ≡ bit_and (slice_index c.args.all.now i) (bit_not w64 (slice_index c.args.others.now i))
each c i = elim (cases_lt i (length c.args.all.now)) [
  | inl l ↦ c.loop-position.invariant.done i (let a = c.requires.all in let b = c.requires.others in omega arith)
  | inr past ↦ (
      let z : slice_index c.args.all.now i ≡ 0 = get_or_past c.args.all.now i 0 past in
      let y : slice_index c.loop-position.words i ≡ 0 = get_or_past c.loop-position.words i 0 (let a = c.requires.all in let b = c.requires.others in let e = c.loop-position.invariant.same in omega arith) in
      let n = and_le_l (slice_index c.args.all.now i) (bit_not w64 (slice_index c.args.others.now i)) in
      omega arith)
]

pub returns-clause-left : goal.returns-clause-left
returns-clause-left c k =
    let small : (i : ℕ) → slice_index c.args.others.now i < 2 ^ 64 = λ i. search rules in
    bits_left c.args.all.now c.args.others.now c.loop-position.words k (small (k / 64)) (each c (k / 64))
