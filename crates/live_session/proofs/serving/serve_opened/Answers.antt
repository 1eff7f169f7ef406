use Rattle.std.proofs.Common.{rules, ◌≡◌, ◌∙◌, Ok, Err, refl, sym, ap}
use Rattle.job_commands.specs.Histories.{OpenedWith}
use Rattle.live_session.specs.Ends.{ServedSo}
use Rattle.live_session.proofs.SeatLaws.{begun}
use Rattle.live_session.proofs.ErrorLaws.{passed}
use Rattle.live_session.proofs.StartLaws.{begins, stopped}
use Rattle.live_session.proofs.serving.serve_opened.Goals as goal

pub serve-requires : goal.serve-requires
serve-requires g c = record {
  first = c.requires.first;
  ready = search rules;
  same = search rules;
  free = search rules;
  few = c.requires.few;
  may = λ e.
      let m = c.requires.may e in
      (m.1, begins m.4 _ _ m.3 (begun _ m.4 c.requires.two (λ s two new. c.seat_worker.ensures.sits s two new) m.2), m.5);
}

pub returns-clause-served : goal.returns-clause-served
returns-clause-served g c = λ es way new count starts fits.
    (fits, c.in_ok-refused.ensures.serves.ok way (begins starts _ _ count (begun _ starts c.requires.two (λ s two n. c.seat_worker.ensures.sits s two n) new)))

pub returns-in_err-refused-clause-served : goal.returns-in_err-refused-clause-served
returns-in_err-refused-clause-served g c = λ es way new count starts fits.
    let b = begins starts _ _ count (begun _ starts c.requires.two (λ s two n. c.seat_worker.ensures.sits s two n) new) in
    passed (ServedSo way _ _ _ _) c.from_residual-in_err-refused.result _ c.from_residual-in_err-refused.ensures.1
    (stopped way _ _ _ _ c.in_err-refused.field-0.0 fits (λ e. c.in_err-refused.ensures.serves.settled (ap Err e) way b) (λ e. c.in_err-refused.ensures.serves.too_long (ap Err e) way b) (c.in_err-refused.ensures.serves.stands way b))
