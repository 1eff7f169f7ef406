use Rattle.std.proofs.Common.{◌+◌, ◌<◌, Bool, List, length, sym, subst, ◌∙◌, arith}
use Rattle.std.specs.List.{swap}
use Rattle.chunk_usage.specs.Ledger.{Row}
use Rattle.chunk_usage.specs.Keeping.{is_among}
use Rattle.chunk_usage.proofs.KeptLemmas.{Gathered, gathered_more, gathered_past}
use Rattle.chunk_usage.proofs.usage.versions.gather.Goals.{then-is_among, else-is_among}
use Rattle.chunk_usage.proofs.usage.versions.gather.Goals as goal

pub loop-place-preserved : goal.loop-place-preserved
loop-place-preserved c =
    let passes : Row → Bool = λ r. is_among c.args.versions.now r.version in
    let first = c.args.slots.now in
    let slots = c.loop-place.slots in
    let place = c.loop-place.place in
    let kept = c.loop-place.kept in
    let g = c.loop-place.invariant in
    let row = c.index-slots-place.result in
    let inside : place < length slots = (let e = g.long in let l = c.loop-place-test.true in let n = c.requires in omega arith) in
    let told = sym c.is_among.ensures in
    elim c.if-is_among.branch [
      | then-is_among w ↦ (
          subst (λ (s : List Row). Gathered passes first s (place + 1) c.if-is_among.kept) (sym (w.slots-is ∙ w.swap.ensures.after))
          (subst (Gathered passes first (swap slots kept place) (place + 1)) (sym w.kept-is) (gathered_more passes first slots place kept row inside g (told ∙ w.if-is_among.true))))
      | else-is_among w ↦ (
          subst (λ (s : List Row). Gathered passes first s (place + 1) c.if-is_among.kept) (sym w.slots-is)
          (subst (Gathered passes first slots (place + 1)) (sym w.kept-is) (gathered_past passes first slots place kept row inside g (told ∙ w.if-is_among.false))))
    ]
