use Rattle.std.proofs.Common.{◌∙◌, ◌∷◌, ◌++◌, [], ℕ, List, Option, Ok, Err, sym, ap, subst}
use Rattle.trie_model.specs.Keys.{Entry}
use Rattle.chunk_usage.specs.Ledger.{Ledger, IsLedger}
use Rattle.shared_cells.specs.declared.turn.JoinedSeat.{JoinedSeat}
use Rattle.qp_multi.specs.declared.meaning.Operation.{Operation}
use Rattle.qp_multi.specs.Passes.{Known}
use Rattle.qp_multi.specs.Changes.{operation_of}
use Rattle.qp_multi.specs.Capacity.{WorksRoomy}
use Rattle.qp_multi.specs.Tries.{Spares, Tried}
use Rattle.qp_multi.proofs.RoomyLaws.{tried_cramped, tried_done, tried_failed}
use Rattle.qp_multi.proofs.WorkLaws.{operates_done}
use Rattle.qp_multi.proofs.writer.WorkingVersion.attempt.Goals as goal

pub returns-in-Ok-clause-operates : goal.returns-in-Ok-clause-operates
returns-in-Ok-clause-operates g c =
    let d = c.args.self in
    let n = c.with_done.result in
    let done = c.with_done.ensures in
    let change = c.args.change.now in
    let log = done.log ∙ ap (λ (os : List Operation). os ++ operation_of change ∷ []) c.try_once-working.ensures.left.log in
    let by_call = subst (Tried change d.root d.seat.place.me.0 d.usage c.try_once-working.result.0.seat.place.me.0 c.try_once-working.result.0.usage) c.in-Ok.is c.try_once-working.ensures.tried in
    let by_seat = subst (λ (s : JoinedSeat (List Entry) (List Operation)). Tried change d.root d.seat.place.me.0 d.usage s.place.me.0 c.try_once-working.result.0.usage (Ok c.in-Ok.new)) (sym done.seat) by_call in
    let by_usage = subst (λ (u : Ledger). Tried change d.root d.seat.place.me.0 d.usage n.seat.place.me.0 u (Ok c.in-Ok.new)) (sym done.usage) by_seat in
    operates_done change d n c.requires.works
    (subst (λ (r : Option ℕ). Tried change d.root d.seat.place.me.0 d.usage n.seat.place.me.0 n.usage (Ok r)) (sym done.root) by_usage) log
    (ap (λ (s : JoinedSeat (List Entry) (List Operation)). s.passes) done.seat ∙ c.try_once-working.ensures.left.passes)

pub returns-in-Ok-clause-takes : goal.returns-in-Ok-clause-takes
returns-in-Ok-clause-takes g c = record {
  table = ap (λ (s : JoinedSeat (List Entry) (List Operation)). s.place.table_id) c.with_done.ensures.seat ∙ c.try_once-working.ensures.left.table;
  spares = subst (Spares c.args.self.usage) (sym c.with_done.ensures.usage) c.try_once-working.ensures.tried.spares;
  ledger = subst IsLedger (sym c.with_done.ensures.usage) c.try_once-working.ensures.ledger;
  room = λ room. (let d = c.args.self in
      let n = c.with_done.result in
      let done = c.with_done.ensures in
      let change = c.args.change.now in
      let log = done.log ∙ ap (λ (os : List Operation). os ++ operation_of change ∷ []) c.try_once-working.ensures.left.log in
      let tried = subst (Tried change d.root d.seat.place.me.0 d.usage c.try_once-working.result.0.seat.place.me.0 c.try_once-working.result.0.usage) c.in-Ok.is c.try_once-working.ensures.tried in
      let there = tried_done change d c.try_once-working.result.0.seat.place.me.0 c.try_once-working.result.0.usage c.in-Ok.new n.log.operations c.requires.works c.requires.leads c.try_once-working.ensures.ledger tried log room in
      subst (λ (u : Ledger). WorksRoomy u n.seat.place.me.0.seen n.log.operations) (sym done.usage)
      (subst (λ (s : JoinedSeat (List Entry) (List Operation)). WorksRoomy c.try_once-working.result.0.usage s.place.me.0.seen n.log.operations) (sym done.seat) there));
}

pub returns-in-Err-clause-takes : goal.returns-in-Err-clause-takes
returns-in-Err-clause-takes g c = record {
  table = c.try_once-working.ensures.left.table;
  spares = c.try_once-working.ensures.tried.spares;
  ledger = c.try_once-working.ensures.ledger;
  room = λ room. (let d = c.args.self in
      let change = c.args.change.now in
      let tried = subst (Tried change d.root d.seat.place.me.0 d.usage c.try_once-working.result.0.seat.place.me.0 c.try_once-working.result.0.usage) c.in-Err.is c.try_once-working.ensures.tried in
      let failed = tried_failed change d c.try_once-working.result.0.seat.place.me.0 c.try_once-working.result.0.usage c.in-Err.refusal c.requires.works c.requires.leads c.try_once-working.ensures.ledger tried room in
      subst (λ (os : List Operation). WorksRoomy c.try_once-working.result.0.usage c.try_once-working.result.0.seat.place.me.0.seen os) (sym c.try_once-working.ensures.left.log) failed);
}

pub returns-in-Err-clause-undone : goal.returns-in-Err-clause-undone
returns-in-Err-clause-undone g c = record {
  tried = subst (Tried c.args.change.now c.args.self.root c.args.self.seat.place.me.0 c.args.self.usage c.try_once-working.result.0.seat.place.me.0 c.try_once-working.result.0.usage) c.in-Err.is c.try_once-working.ensures.tried;
  root = c.try_once-working.ensures.left.root;
  full = λ f e. c.try_once-working.ensures.tried.full f (c.in-Err.is ∙ ap (λ x. Err x) e);
  fails = λ f e. (let d = c.args.self in
      let tried = c.try_once-working.ensures.tried in
      let by_call = subst (Tried c.args.change.now d.root d.seat.place.me.0 d.usage c.try_once-working.result.0.seat.place.me.0 c.try_once-working.result.0.usage) c.in-Err.is tried in
      record {
        seen = ap (λ (x : Known). x.seen) tried.same;
        spares = tried.spares;
        counts = by_call.counts;
        full = f;
        lacks = tried.full f (c.in-Err.is ∙ ap (λ x. Err x) e);
      });
  cramped = λ room f e. (let d = c.args.self in
      let change = c.args.change.now in
      let is = c.in-Err.is ∙ ap (λ x. Err x) e in
      let tried = subst (Tried change d.root d.seat.place.me.0 d.usage c.try_once-working.result.0.seat.place.me.0 c.try_once-working.result.0.usage) is c.try_once-working.ensures.tried in
      tried_cramped change d c.try_once-working.result.0.seat.place.me.0 c.try_once-working.result.0.usage f c.requires.works c.requires.leads tried room);
}
