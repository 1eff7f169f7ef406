use Rattle.std.proofs.lemmas.Result.{IfOk-weaker}
use Rattle.live_session.proofs.SeatLaws.{ran_on}
use Rattle.live_session.proofs.seat.SeatWorker.run.Goals as goal

pub returns-clause-ran : goal.returns-clause-ran
returns-clause-ran g c = λ o commands os h. IfOk-weaker c.run_next.result _ _ (λ x s. ran_on h _ _ _ s) (c.run_next.ensures.sits h.opened_with commands os h.index h.sits)
