use Rattle.std.proofs.Common.{◌≡◌, ℕ, ◌-◌, List, slice_index, inl, inr, refl, sym, ap, ◌∙◌, arith}
use Rattle.std.proofs.lemmas.Bool.{cases_lt}
use Rattle.chunk_cells.proofs.ItemLaws.{octet_there}
use Rattle.chunk_cells.proofs.front.says_each.Goals as goal

pub returns-then-bytes-i : goal.returns-then-bytes-i
returns-then-bytes-i c item low is = (
  λ t. cc,
  λ same. absurd (c.if-bytes-i.true (
      ap (λ (b : List ℕ). slice_index b (c.loop-i.i - c.args.start)) c.to_le_bytes-bytes.ensures
      ∙ octet_there item c.args.word c.args.start c.loop-i.i low is c.loop-i.auto.i (let e = c.requires in let f = c.loop-i-test.true in omega arith)
      ∙ same c.loop-i.i c.loop-i.auto.i (let e = c.requires in let f = c.loop-i-test.true in omega arith) c.loop-i-test.true
      )),
)

pub returns : goal.returns
returns c item low is = (λ t i l m n. c.loop-i.invariant item low is i l (let e = c.loop-i-test.false in omega arith), λ same. refl)

pub loop-i-preserved : goal.loop-i-preserved
loop-i-preserved c item low is j l m =
    elim (cases_lt j c.loop-i.i) [
      | inl before ↦ c.loop-i.invariant item low is j l before
      | inr after ↦
          let here : c.loop-i.i ≡ j = omega arith in
          let octet : slice_index item c.loop-i.i ≡ slice_index c.args.octets.now c.loop-i.i =
          sym (octet_there item c.args.word c.args.start c.loop-i.i low is c.loop-i.auto.i (let e = c.requires in let f = c.loop-i-test.true in omega arith))
          ∙ ap (λ (b : List ℕ). slice_index b (c.loop-i.i - c.args.start)) (sym c.to_le_bytes-bytes.ensures) ∙ c.if-bytes-i.false in
          ap (slice_index item) (sym here) ∙ octet ∙ ap (slice_index c.args.octets.now) here
    ]
