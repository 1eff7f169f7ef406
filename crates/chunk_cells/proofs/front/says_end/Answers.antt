use Rattle.std.proofs.Common.{ℕ, ◌-◌, ◌*◌, ◌/◌, ◌%◌, ◌^◌, ◌<◌, slice_index, length, ap, sym, ◌∙◌, arith}
use Rattle.std.proofs.lemmas.Bool.{eqb-true, eq-eqb}
use Rattle.std.proofs.lemmas.Nat.{one_shl}
use Rattle.chunk_cells.proofs.TailLemmas.{ends}
use Rattle.chunk_cells.proofs.front.says_end.Goals as goal

pub returns : goal.returns
returns c item low is =
    let many = c.requires.many in let within = c.requires.within in let short = c.requires.short in
    let left = length c.args.octets.now - c.args.start in
    let power = one_shl (8 * left) 64 (omega arith) in
    let small : (j : ℕ) → slice_index c.args.octets.now j < 256 = λ j. let f = c.type_inv.octets j in omega arith in
    let x = ends item c.args.octets.now c.args.word c.whole_word-last.result c.args.start left low small is c.whole_word-last.ensures many (omega arith) (omega arith) in
    let same = ap (λ (m : ℕ). c.args.word % m) power in
    let last = c.whole_word-last.result / 2 ^ (64 - 8 * left) in (
      λ t. x.agree (sym same ∙ eqb-true (c.args.word % (1 * 2 ^ (8 * left) % 2 ^ 64)) last t),
      λ all. eq-eqb (c.args.word % (1 * 2 ^ (8 * left) % 2 ^ 64)) last (same ∙ x.alike all),
    )
