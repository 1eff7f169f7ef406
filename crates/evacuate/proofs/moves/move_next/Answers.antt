use Rattle.std.proofs.Common.{◌≡◌, true, inl, inr, ℕ, ◌+◌, ◌-◌, ◌/◌, Bool, List, arith, refl, sym, ◌∙◌, ap, subst}
use Rattle.trie_model.proofs.ExtentLaws.{linked_is}
use Rattle.trie_space.proofs.SpaceLaws.{ok_map, err_map}
use Rattle.chunk_usage.specs.Counting.{is_sparse}
use Rattle.evacuate.specs.Fillings.{Fills, is_old}
use Rattle.evacuate.specs.Chains.{Goes}
use Rattle.evacuate.specs.Places.{put_first}
use Rattle.evacuate.proofs.BehindLaws.{can_behind_read, goes_same}
use Rattle.evacuate.proofs.ChainLaws.{goes_behind}
use Rattle.evacuate.proofs.FillingLaws.{sparse_old, settled_old, same_chunk_old}
use Rattle.evacuate.proofs.MovingLaws.{cells_by, cells_from, cells_same}
use Rattle.evacuate.proofs.TreeLaws.{put_itself, used_writable, width_linked}
use Rattle.evacuate.proofs.moves.move_next.Goals as goal

pub next_extent-next-requires-clause-inside : goal.next_extent-next-requires-clause-inside
next_extent-next-requires-clause-inside g c = let b = goes_behind c.requires.goes.goes refl refl in let i = b.here.inside in let k = linked_is in omega arith

pub next_extent-next-requires-clause-there : goal.next_extent-next-requires-clause-there
next_extent-next-requires-clause-there g c = let b = goes_behind c.requires.goes.goes refl refl in (_, b.link, b.inside)

pub is_due-requires : goal.is_due-requires
is_due-requires g c long =
    let first = goes_behind c.requires.goes.goes refl refl in
    let b = goes_behind c.requires.goes.goes (c.next_extent-next.ensures.next _ first.link first.inside) refl in
    let i = b.row.row.inside in let w = width_linked (c.args.len - 4080) long in let k = linked_is in omega arith

pub move_linked-requires : goal.move_linked-requires
move_linked-requires g c = can_behind_read c.next_extent-next.ensures.same c.requires

old_next : (g : _) (c : goal.After-move_linked g) → (given : List Bool) → Fills given c.args.usage.now → is_old given c.next_extent-next.result ≡ true
old_next g c given fills = elim (c.is_due.ensures.due c.if-is_due.true) [
  | inl sparse ↦ sparse_old given c.args.usage.now fills (c.next_extent-next.result / 1024) sparse
  | inr settled ↦ (
      let first = goes_behind c.requires.goes.goes refl refl in
      let b = goes_behind c.requires.goes.goes (c.next_extent-next.ensures.next _ first.link first.inside) refl in
      let w = width_linked (c.args.len - 4080) settled.0 in let k = linked_is in let together = b.row.row.together in
      same_chunk_old given c.next_extent-next.result (c.next_extent-next.result + 255) (omega arith) (settled_old given c.args.usage.now fills c.known.ensures (c.next_extent-next.result + 255) (b.in_use 255 (omega arith)) settled.1)
      )
]

pub returns-then-is_due-clause-lies : goal.returns-then-is_due-clause-lies
returns-then-is_due-clause-lies g c = ok_map c.move_linked.result (λ to m. record {
  goes = λ r es way e front rest goes. m.goes r es way e front rest (goes_same c.next_extent-next.ensures.same goes);
  writable = λ long. m.writable 255 (let e = width_linked (c.args.len - 4080) long in let k = linked_is in omega arith);
  if_due = λ r es way e front rest goes. inl (λ given fills.
      let first = goes_behind goes refl refl in
      let from = c.next_extent-next.ensures.next _ first.link first.inside in
      let some = first.row.some in
      let less = (m.paid r es way e front rest (goes_same c.next_extent-next.ensures.same goes) given fills (ap (is_old given) (sym from) ∙ old_next g c given fills)).less in omega arith);
}) c.move_linked.ensures.moved

pub returns-then-is_due-clause-unmoved : goal.returns-then-is_due-clause-unmoved
returns-then-is_due-clause-unmoved g c = err_map c.move_linked.result (λ full stays. record { full = stays.full; same = stays.same ∙ c.next_extent-next.ensures.same; unchanged = stays.unchanged }) c.move_linked.ensures.unmoved

pub returns-then-is_due-clause-cells : goal.returns-then-is_due-clause-cells
returns-then-is_due-clause-cells g c =
    let goes = c.requires.goes.goes in
    let first = goes_behind goes refl refl in
    let from = c.next_extent-next.ensures.next _ first.link first.inside in
    cells_from c.next_extent-next.ensures.same
    (cells_by c.move_linked.result (ok_map c.move_linked.result (λ to m given fills. (m.paid _ _ _ _ _ _ (goes_same c.next_extent-next.ensures.same goes) given fills (ap (is_old given) (sym from) ∙ old_next g c given fills)).moves) c.move_linked.ensures.moved) c.move_linked.ensures.unmoved c.move_linked.ensures.rest)

pub returns-clause-lies : goal.returns-clause-lies
returns-clause-lies g c =
    let at_first = goes_behind c.requires.goes.goes refl refl in
    let b = goes_behind c.requires.goes.goes (c.next_extent-next.ensures.next _ at_first.link at_first.inside) refl in
    let same = c.next_extent-next.ensures.same in
    record {
      goes = λ r es way e front rest goes.
          let first = goes_behind goes refl refl in
          let from = c.next_extent-next.ensures.next _ first.link first.inside in
          goes_same same (subst (Goes g.C.CellRead.has c.args.cells.now c.args.usage.now r c.args.at c.args.len es way e front) (sym (put_itself rest) ∙ ap (put_first rest) (sym from)) goes);
      writable = λ long.
          let used = b.in_use 255 (let e = width_linked (c.args.len - 4080) long in let k = linked_is in omega arith) in
          used_writable c.known.ensures (can_behind_read same c.requires).ready used (c.is_due.ensures.mutable c.if-is_due.false long);
      if_due = λ r es way e front rest goes.
          let first = goes_behind goes refl refl in
          let from = c.next_extent-next.ensures.next _ first.link first.inside in
          inr (ap (λ (q : ℕ). is_sparse c.args.usage.now (q / 1024)) (sym from) ∙ c.is_due.ensures.sparse c.if-is_due.false, refl);
    }

pub returns-clause-cells : goal.returns-clause-cells
returns-clause-cells g c = cells_same c.next_extent-next.ensures.same refl c.requires.ready

pub overflow_sub-len : goal.overflow_sub-len
overflow_sub-len g c = let long = (goes_behind c.requires.goes.goes refl refl).long in omega arith
