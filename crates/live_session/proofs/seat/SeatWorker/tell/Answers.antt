use Rattle.live_session.proofs.SeatLaws.{come_to, own_index, ran_on}
use Rattle.live_session.proofs.seat.SeatWorker.tell.Goals as goal

pub returns-clause-ran : goal.returns-clause-ran
returns-clause-ran g c = λ o commands os h. ran_on h _ _ _ (c.tell_all.ensures.sits h.opened_with commands os h.sits)

pub returns-clause-told : goal.returns-clause-told
returns-clause-told g c = λ o commands os h.
    let told = c.tell_all.ensures.told h.opened_with o.zone commands os (own_index h.opened_with _ _ h.index) h.stands h.sits in (_, come_to h _ told.0)
