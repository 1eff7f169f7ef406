use Rattle.std.proofs.Common.{true, false, refl, subst, sym, arith, ◌+◌, ◌/◌, ◌≤◌}
use Rattle.std.proofs.lemmas.Bool.{true≢false}
use Rattle.trie_model.specs.Shape.{cells}
use Rattle.chunk_usage.specs.Ledger.{free_count}
use Rattle.evacuate.specs.declared.evacuation.EvacuationEnd.{EvacuationEnd}
use Rattle.evacuate.specs.Evacuations.{refused}
use Rattle.qp_multi.specs.WorkingVersions.{working_set}
use Rattle.qp_multi.specs.Movings.{Evacuates}
use Rattle.qp_multi.proofs.RoomyLaws.{ready_where, whole_where}
use Rattle.qp_multi.proofs.MovingLaws.{thin_sparse, thin_dense}
use Rattle.qp_multi.proofs.SettleLaws.{settles_few, settles_many}
use Rattle.qp_multi.proofs.writer.WorkingVersion.settle.Goals as goal

pub returns-then-sparse-most-clause-settles : goal.returns-then-sparse-most-clause-settles
returns-then-sparse-most-clause-settles g c = settles_few c.args.self c.requires.works (let n = c.sparse.ensures in let few = c.if-sparse-most.true in omega arith)

pub returns-in-Whole-clause-settles : goal.returns-in-Whole-clause-settles
returns-in-Whole-clause-settles g c =
    let e = c.evacuate-working.ensures in
    settles_many true (let n = c.sparse.ensures in let many = c.if-sparse-most.false in omega arith) e.knows.goes_on e.knows.seen e.same.works e.same.log (subst (Evacuates c.args.self.usage c.evacuate-working.result.0.usage) c.in-Whole.is e.moves.evacuates)

pub returns-in-Stopped-clause-settles : goal.returns-in-Stopped-clause-settles
returns-in-Stopped-clause-settles g c =
    let e = c.evacuate-working.ensures in
    settles_many false (let n = c.sparse.ensures in let many = c.if-sparse-most.false in omega arith) e.knows.goes_on e.knows.seen e.same.works e.same.log (subst (Evacuates c.args.self.usage c.evacuate-working.result.0.usage) c.in-Stopped.is e.moves.evacuates)

pub returns-then-sparse-most-clause-sparse : goal.returns-then-sparse-most-clause-sparse
returns-then-sparse-most-clause-sparse g c = record {
  few = (λ e. thin_sparse c.args.most c.args.self.usage (let n = c.sparse.ensures in let few = c.if-sparse-most.true in omega arith));
  stopped = λ h. absurd (true≢false h);
}

pub returns-then-sparse-most-clause-room : goal.returns-then-sparse-most-clause-room
returns-then-sparse-most-clause-room g c = record {
  roomy = λ room most_cells most_operations bounds few roomy. refl;
  small = (λ room. let few : c.sparse.result ≤ c.args.most = c.if-sparse-most.true in
      let n = c.sparse.ensures in
      ready_where c.args.most c.args.self c.args.self true c.requires.few c.known.ensures (settles_few c.args.self c.requires.works (omega arith)) (λ e. thin_sparse c.args.most c.args.self.usage (omega arith)) (λ e. absurd (true≢false e)) room);
}

pub returns-in-Whole-clause-sparse : goal.returns-in-Whole-clause-sparse
returns-in-Whole-clause-sparse g c = record {
  few = (λ e. thin_dense c.args.most c.evacuate-working.result.0.usage (c.evacuate-working.ensures.moves.evacuates.whole c.in-Whole.is));
  stopped = λ h. absurd (true≢false h);
}

pub returns-in-Whole-clause-room : goal.returns-in-Whole-clause-room
returns-in-Whole-clause-room g c = record {
  roomy = λ room most_cells most_operations bounds few roomy. refl;
  small = (λ room. let e = c.evacuate-working.ensures in
      let n = c.sparse.ensures in
      let many = c.if-sparse-most.false in
      let moved = subst (Evacuates c.args.self.usage c.evacuate-working.result.0.usage) c.in-Whole.is e.moves.evacuates in
      ready_where c.args.most c.args.self c.evacuate-working.result.0 true c.requires.few e.moves.evacuates.ledger (settles_many true (omega arith) e.knows.goes_on e.knows.seen e.same.works e.same.log moved)
      (λ h. thin_dense c.args.most c.evacuate-working.result.0.usage (e.moves.evacuates.whole c.in-Whole.is)) (λ h. absurd (true≢false h)) room);
}

pub returns-in-Stopped-clause-sparse : goal.returns-in-Stopped-clause-sparse
returns-in-Stopped-clause-sparse g c = record {
  few = λ h. absurd (true≢false (sym h));
  stopped = (λ e. let none = (c.evacuate-working.ensures.moves.evacuates.stopped c.in-Stopped.is).0.short.none_free in omega arith);
}

pub returns-in-Stopped-clause-room : goal.returns-in-Stopped-clause-room
returns-in-Stopped-clause-room g c = record {
  roomy = (λ room. let e = c.evacuate-working.ensures in
      let asks = subst (λ (done : EvacuationEnd). free_count c.args.self.usage + refused done ≤ free_count c.evacuate-working.result.0.usage + (cells (working_set c.args.self) / 769 + 1)) c.in-Stopped.is e.moves.asks in
      whole_where c.args.self c.evacuate-working.result.0 _ room (let none = (e.moves.evacuates.stopped c.in-Stopped.is).0.short.none_free in omega arith) asks);
  small = (λ room. let e = c.evacuate-working.ensures in
      let n = c.sparse.ensures in
      let many = c.if-sparse-most.false in
      let moved = subst (Evacuates c.args.self.usage c.evacuate-working.result.0.usage) c.in-Stopped.is e.moves.evacuates in
      let asks = subst (λ (done : EvacuationEnd). free_count c.args.self.usage + refused done ≤ free_count c.evacuate-working.result.0.usage + (cells (working_set c.args.self) / 769 + 1)) c.in-Stopped.is e.moves.asks in
      ready_where c.args.most c.args.self c.evacuate-working.result.0 false c.requires.few e.moves.evacuates.ledger (settles_many false (omega arith) e.knows.goes_on e.knows.seen e.same.works e.same.log moved)
      (λ h. absurd (true≢false (sym h))) (λ h. (let none = (e.moves.evacuates.stopped c.in-Stopped.is).0.short.none_free in omega arith, asks)) room);
}
