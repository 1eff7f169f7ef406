use Rattle.std.proofs.Common.{◌<◌, ◌-◌, inl, inr, ◌++◌, [], ◌∷◌, arith, refl, sym, ◌∙◌, subst, rules}
use Rattle.std.proofs.lemmas.Bool.{true≢false}
use Rattle.trie_model.specs.Extents.{first_of}
use Rattle.trie_model.specs.Extents.Extents.{linked}
use Rattle.trie_model.specs.Trees.Tree.{leaf}
use Rattle.trie_model.proofs.ExtentLaws.{linked_is}
use Rattle.trie_space.specs.Ways.{plug}
use Rattle.trie_space.proofs.SpaceLaws.{ok_map}
use Rattle.evacuate.specs.Evacuations.{HasSparse}
use Rattle.evacuate.specs.Fillings.{Fewer}
use Rattle.evacuate.specs.Chains.{chain, GoesOn}
use Rattle.evacuate.specs.Moving.{CanMoveBehind}
use Rattle.evacuate.specs.Sparse.{SparseExtents}
use Rattle.evacuate.proofs.BehindLaws.{can_behind_read, goes_same, goes_left, further, last_behind, fewer_then}
use Rattle.evacuate.proofs.ChainLaws.{goes_behind, left_read}
use Rattle.evacuate.proofs.DescentLaws.{by_err, stood_same}
use Rattle.evacuate.proofs.MovingLaws.{cells_from, cells_same, cells_then}
use Rattle.evacuate.proofs.SparseLaws.{sparse_behind}
use Rattle.evacuate.proofs.moves.+move_behind.Goals as goal

pub next_extent-next-requires-clause-inside : goal.next_extent-next-requires-clause-inside
next_extent-next-requires-clause-inside g t c = let b = goes_behind c.requires.goes.goes refl refl in let i = b.here.inside in let k = linked_is in omega arith

pub next_extent-next-requires-clause-there : goal.next_extent-next-requires-clause-there
next_extent-next-requires-clause-there g t c = let b = goes_behind c.requires.goes.goes refl refl in (_, b.link, b.inside)

pub is_item_sparse-requires : goal.is_item_sparse-requires
is_item_sparse-requires g t c =
    let b = goes_behind c.requires.goes.goes refl refl in
    record { there = (_, record { extents = c.requires.goes.rest; there = left_read c.requires.goes.goes c.next_extent-next.ensures.same (c.next_extent-next.ensures.next _ b.link b.inside) }) }

pub returns-then-not-is_item_sparse-clause-rearranged : goal.returns-then-not-is_item_sparse-clause-rearranged
returns-then-not-is_item_sparse-clause-rearranged g t c =
    let same = c.is_item_sparse.ensures.same ∙ c.next_extent-next.ensures.same in
    record { stood = λ r es way e front rest goes. (plug way (leaf e (chain front (linked c.args.at rest))), stood_same same refl goes.stood); cells = cells_same same refl c.requires.ready }

pub returns-then-not-is_item_sparse-clause-less : goal.returns-then-not-is_item_sparse-clause-less
returns-then-not-is_item_sparse-clause-less g t c due =
    let b = goes_behind due.on.goes refl refl in
    absurd (c.is_item_sparse.ensures.tells.none c.if-not-is_item_sparse.true _ due.on.rest (left_read due.on.goes c.next_extent-next.ensures.same (c.next_extent-next.ensures.next _ b.link b.inside)) due.sparse)

pub move_next-requires : goal.move_next-requires
move_next-requires g t c = can_behind_read (c.is_item_sparse.ensures.same ∙ c.next_extent-next.ensures.same) c.requires

pub returns-in_err-to-clause-rearranged : goal.returns-in_err-to-clause-rearranged
returns-in_err-to-clause-rearranged g t c =
    let same = c.is_item_sparse.ensures.same ∙ c.next_extent-next.ensures.same in
    let stays = c.in_err-to.ensures.unmoved in
    record { stood = λ r es way e front rest goes. (plug way (leaf e (chain front (linked c.args.at rest))), stood_same (stays.same ∙ same) stays.unchanged goes.stood); cells = cells_from same c.move_next.ensures.cells }

pub returns-in_err-to-clause-left : goal.returns-in_err-to-clause-left
returns-in_err-to-clause-left g t c =
    let b = goes_behind c.requires.goes.goes refl refl in
    let there = left_read c.requires.goes.goes c.next_extent-next.ensures.same (c.next_extent-next.ensures.next _ b.link b.inside) in
    let sparse = c.is_item_sparse.ensures.tells.some c.if-not-is_item_sparse.false _ c.requires.goes.rest there in
    by_err c.from_residual.result (subst HasSparse (sym c.in_err-to.ensures.unmoved.unchanged) (goes_left c.requires.goes.goes sparse))

pub move_behind-requires : goal.move_behind-requires
move_behind-requires g t c κs within =
    let h = c.requires.goes in
    let f = further (c.in_ok-to.ensures.lies.goes h.r h.es h.way h.e h.front h.rest (goes_same (c.is_item_sparse.ensures.same ∙ c.next_extent-next.ensures.same) h.goes)) (omega arith) in
    let can : CanMoveBehind g.C.CellRead.has g.C.CellWrite.kept g.C.CellWrite.given c.in_ok-to.to (c.args.len - 4080) c.move_next.new.cells c.move_next.new.usage = record {
      goes = record { r = h.r; es = h.es; way = h.way; e = h.e; front = h.front ++ (c.args.at ∷ []); rest = f.beyond; goes = f.goes };
      writable = c.in_ok-to.ensures.lies.writable (omega arith);
      ready = c.in_ok-to.ensures.cells.ready;
    } in
    let less : c.args.len - 4080 < c.args.len = omega arith in
    (search (rules, less), (within, can))

pub returns-then-behind-gt-LAST_OCTETS-clause-rearranged : goal.returns-then-behind-gt-LAST_OCTETS-clause-rearranged
returns-then-behind-gt-LAST_OCTETS-clause-rearranged g t c = record {
  stood = λ r es way e front rest goes.
      let f = further (c.in_ok-to.ensures.lies.goes r es way e front rest (goes_same (c.is_item_sparse.ensures.same ∙ c.next_extent-next.ensures.same) goes)) (omega arith) in
      c.move_behind.ensures.rearranged.stood r es way e (front ++ (c.args.at ∷ [])) f.beyond f.goes;
  cells = cells_from (c.is_item_sparse.ensures.same ∙ c.next_extent-next.ensures.same) (cells_then c.in_ok-to.ensures.cells c.move_behind.ensures.rearranged.cells);
}

pub returns-then-behind-gt-LAST_OCTETS-clause-less : goal.returns-then-behind-gt-LAST_OCTETS-clause-less
returns-then-behind-gt-LAST_OCTETS-clause-less g t c = ok_map c.move_behind.result (λ u less due.
    let h = due.on in
    let goes = goes_same (c.is_item_sparse.ensures.same ∙ c.next_extent-next.ensures.same) h.goes in
    elim (c.in_ok-to.ensures.lies.if_due h.r h.es h.way h.e h.front h.rest goes) [
      | inl fewer ↦ fewer_then fewer c.in_ok-to.ensures.cells c.move_behind.ensures.rearranged.cells
      | inr stays ↦ (
          let f = further (c.in_ok-to.ensures.lies.goes h.r h.es h.way h.e h.front h.rest goes) (omega arith) in
          let on : GoesOn g.C.CellRead.has c.move_next.new.cells c.move_next.new.usage c.in_ok-to.to (c.args.len - 4080) = record { r = h.r; es = h.es; way = h.way; e = h.e; front = h.front ++ (c.args.at ∷ []); rest = f.beyond; goes = f.goes } in
          let beyond : SparseExtents c.args.usage.now f.beyond = sparse_behind c.args.usage.now (first_of h.rest) f.beyond stays.0 (subst (SparseExtents c.args.usage.now) f.is due.sparse) in
          subst (λ l. Fewer l c.move_behind.new.usage) stays.1 (less (record { on = on; sparse = subst (λ l. SparseExtents l f.beyond) (sym stays.1) beyond }))
          )
    ]) c.move_behind.ensures.less

pub returns-clause-rearranged : goal.returns-clause-rearranged
returns-clause-rearranged g t c =
    let same = c.is_item_sparse.ensures.same ∙ c.next_extent-next.ensures.same in
    record { stood = λ r es way e front rest goes. (_, (c.in_ok-to.ensures.lies.goes r es way e front rest (goes_same same goes)).stood); cells = cells_from same c.in_ok-to.ensures.cells }

pub returns-clause-less : goal.returns-clause-less
returns-clause-less g t c due =
    let h = due.on in
    let goes = goes_same (c.is_item_sparse.ensures.same ∙ c.next_extent-next.ensures.same) h.goes in
    elim (c.in_ok-to.ensures.lies.if_due h.r h.es h.way h.e h.front h.rest goes) [
      | inl fewer ↦ fewer
      | inr stays ↦ absurd (true≢false (sym (last_behind goes (omega arith) due.sparse) ∙ stays.0))
    ]

pub overflow_sub-behind : goal.overflow_sub-behind
overflow_sub-behind g t c = let long = (goes_behind c.requires.goes.goes refl refl).long in omega arith
