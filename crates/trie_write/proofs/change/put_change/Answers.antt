use Rattle.std.proofs.Common.{arith, sym, ap, subst}
use Rattle.chunk_usage.specs.Rooms.{Account}
use Rattle.trie_write.specs.Puts.{taken, IsPut}
use Rattle.trie_space.specs.Spaces.{Fenced, Ready}
use Rattle.trie_write.proofs.ChangeLaws.{left_counted, put_is, outside_opened, taken_counted}
use Rattle.trie_space.proofs.SpaceLaws.{fenced_put, fenced_counts, ready_counts, ready_put, slot_open}
use Rattle.trie_write.proofs.change.put_change.Goals as goal

pub make_mutable-requires-clause-asks : goal.make_mutable-requires-clause-asks
make_mutable-requires-clause-asks g c = let a = c.requires.asks.asks in record { spare = taken c.args.change; way = c.requires.asks.way; end = c.requires.asks.end; asks = a.slot }

pub let_go-requires : goal.let_go-requires
let_go-requires g c = let a = c.requires.asks.asks in record { counted = taken_counted c.make_mutable.new.usage a c.in-Err.ensures.lacks.refused.counts; twigs = a.makes.spans.new_twigs; item = a.makes.spans.new_item }

pub put-requires : goal.put-requires
put-requires g c = let a = c.requires.asks.asks in let s = c.in-Ok.ensures.slot _ _ _ a.slot in record { given = s.writable.in_given; unkept = slot_open s.writable c.in-Ok.ensures.opens.ready }

pub let_go-requires-in-Ok-clause-counted : goal.let_go-requires-in-Ok-clause-counted
let_go-requires-in-Ok-clause-counted g c = let a = c.requires.asks.asks in left_counted a (c.in-Ok.ensures.slot _ _ _ a.slot)

pub returns-in-Err : goal.returns-in-Err
returns-in-Err g c = record {
  put = tt;
  given_back = record {
    untouched = c.in-Err.ensures.lacks.refused.untouched;
    counts = λ k. let a = c.in-Err.ensures.lacks.refused.counts k in let b = c.let_go.ensures.counts k in omega arith;
    lack = c.let_go.ensures.lack c.in-Err.full c.in-Err.ensures.lacks.refused.lack;
    asked = λ way end u a. c.in-Err.ensures.lacks.asked _ way end a.slot;
  };
  changes = record {
    outside = λ way end u a q x used out h. c.in-Err.ensures.lacks.refused.untouched q x used h;
    consumes = λ way end u a. let s = c.make_mutable.ensures.opens.consumes _ way end a.slot in let r = ap (λ (z : Account). z.consumed) c.let_go.ensures.rest in omega arith;
    frame = fenced_counts c.make_mutable.ensures.opens.frame c.let_go.ensures.rest (λ k. let e = c.let_go.ensures.counts k in omega arith);
    ready = ready_counts c.let_go.ensures.rest c.make_mutable.ensures.opens.ready;
  };
}

pub returns-in-Ok-clause-put : goal.returns-in-Ok-clause-put
returns-in-Ok-clause-put g c way end u a =
    subst (λ z. IsPut g.C.CellRead.has g.U.Space.account c.put.new.self z c.args.place c.args.key.now way end u c.in-Ok.slot.root) (sym c.note.ensures)
    (put_is a (c.in-Ok.ensures.slot _ way end a.slot) c.put.ensures.written c.put.ensures.others c.let_go-in-Ok.ensures.counts c.let_go-in-Ok.ensures.rest)

pub returns-in-Ok-clause-changes : goal.returns-in-Ok-clause-changes
returns-in-Ok-clause-changes g c =
    let s = c.in-Ok.ensures.slot _ _ _ c.requires.asks.asks.slot in
    record {
      outside = λ way end u a. outside_opened a (c.in-Ok.ensures.slot _ way end a.slot) c.put.ensures.others;
      consumes = λ way end u a. let s = c.make_mutable.ensures.opens.consumes _ way end a.slot in let r = ap (λ (z : Account). z.consumed) c.let_go-in-Ok.ensures.rest in let n = ap (λ z. (g.U.Space.account z).consumed) c.note.ensures in omega arith;
      frame = subst (λ z. Fenced g.C.CellRead.has g.C.CellWrite.kept g.C.CellWrite.given g.U.Space.account c.args.cells.now c.args.usage.now c.put.new.self z) (sym c.note.ensures)
          (fenced_counts (fenced_put c.in-Ok.ensures.opens.frame s.writable.mutable c.put.ensures.others c.put.ensures.given c.put.ensures.kept) c.let_go-in-Ok.ensures.rest (λ k. let e = c.let_go-in-Ok.ensures.counts k in omega arith));
      ready = subst (λ z. Ready g.C.CellWrite.kept g.C.CellWrite.given g.U.Space.account c.put.new.self z) (sym c.note.ensures) (ready_counts c.let_go-in-Ok.ensures.rest (ready_put c.in-Ok.ensures.opens.ready c.put.ensures.given c.put.ensures.kept));
    }
