use Rattle.std.proofs.Common.{◌≡◌, ℕ, ◌-◌, ◌*◌, ◌%◌, ◌^◌, ◌<◌, Some, arith, refl, ap, inl, inr}
use Rattle.std.proofs.lemmas.Bool.{cases_eq}
use Rattle.std.specs.Int.{bit_at}
use Rattle.packed_node.proofs.BitmapLemmas.{UpTo, up_to}
use Rattle.packed_node.proofs.bitmap.index_of.Goals as goal

word_of : (bitmap p : ℕ) → p < 47 → UpTo bitmap p (bitmap * 2 ^ (63 - p) % 18446744073709551616)
word_of bitmap p small = up_to bitmap p (63 - p) (bitmap * 2 ^ (63 - p) % 18446744073709551616) (omega arith) refl

-- a high word has the position
has : (bitmap p : ℕ) → p < 47 → (bitmap * 2 ^ (63 - p) % 18446744073709551616 < 9223372036854775808 → ⊥) → bit_at bitmap p ≡ 1
has bitmap p small high = elim (cases_eq (bit_at bitmap p) 1) [
  | inl one ↦ one
  | inr other ↦ (let zero : bit_at bitmap p ≡ 0 = omega arith in absurd (high ((word_of bitmap p small).low zero)))
]

pub returns-then-up_to-clause-there : goal.returns-then-up_to-clause-there
returns-then-up_to-clause-there c one = (let low = c.if-up_to.true in let high = (word_of c.args.bitmap c.args.position c.requires).high one in absurd (omega arith))

pub overflow_sub-result : goal.overflow_sub-result
overflow_sub-result c =
    let one = has c.args.bitmap c.args.position c.requires (λ low. let high = c.if-up_to.false in omega arith) in
    let n = (word_of c.args.bitmap c.args.position c.requires).ones one in omega arith

pub returns-clause-there : goal.returns-clause-there
returns-clause-there c one =
    let n = (word_of c.args.bitmap c.args.position c.requires).ones one in
    ap (λ (i : ℕ). Some i) (omega arith)

pub returns-clause-absent : goal.returns-clause-absent
returns-clause-absent c none = absurd (none (has c.args.bitmap c.args.position c.requires (λ low. let high = c.if-up_to.false in omega arith)))
