use Rattle.std.proofs.lemmas.List.{length-take-le}
use Rattle.std.proofs.lemmas.Result.{on_ok_weaker}
use Rattle.std.proofs.Common.{◌<◌, ◌≤◌, ◌^◌, ◌∙◌, length, take, arith}
use Rattle.session_lines.specs.Printing.{printing}
use Rattle.session_lines.specs.Views.{session_view}
use Rattle.session_talk.proofs.FedLaws.{count_inside, fed_line, one_line}
use Rattle.session_talk.proofs.ServeLaws.{line_work}
use Rattle.session_talk.proofs.serving.answer_next.Goals as goal

pub front-requires : goal.front-requires
front-requires g c = (count_inside c.args.intake.now.bytes c.args.count c.requires.found).1

pub answer-requires : goal.answer-requires
answer-requires g c = record {
  sound = c.requires.sound;
  few = c.requires.few;
  some = rw c.front.ensures (let k = count_inside c.args.intake.now.bytes c.args.count c.requires.found in let size = length-take-le c.args.count c.args.intake.now.bytes k.1 in let l : 0 < length (take c.args.count c.args.intake.now.bytes) = omega (arith, size, k.0) in l);
  short = rw c.front.ensures (let k = count_inside c.args.intake.now.bytes c.args.count c.requires.found in let size = length-take-le c.args.count c.args.intake.now.bytes k.1 in let l : length (take c.args.count c.args.intake.now.bytes) ≤ 2 ^ 24 = omega (arith, size, c.requires.short) in l);
  one = rw c.front.ensures (one_line c.args.intake.now.bytes c.args.count c.requires.found);
}

pub returns-clause-answers : goal.returns-clause-answers
returns-clause-answers g c = record {
  ok = λ way given same w.
      let so_far = c.in_ok-answer.ensures.so_far way.opened way.first w.done w.written same w.fed w.so_far in
      let work = line_work way given _ (g.K.Sink.held c.args.sink.now) _ _ _ c.args.answering.now.lines c.args.intake.now.bytes w (g.W.Worker.has_run c.answer.new.self.worker way.opened) (session_view c.answer.new.self.session) (printing c.answer.new.self.replies)
      c.answer.new.self.lines c.args.count (fed_line w.done c.args.intake.now.bytes c.args.count c.requires.found) (rw (← c.front.ensures) so_far) in
      c.flush.ensures.stays.ok way given c.let_go.new.self.bytes (rw c.let_go.ensures.bytes work);
  stands = λ way given same w st.
      let so_far = c.in_ok-answer.ensures.so_far way.opened way.first w.done w.written same w.fed w.so_far in
      let work = line_work way given _ (g.K.Sink.held c.args.sink.now) _ _ _ c.args.answering.now.lines c.args.intake.now.bytes w (g.W.Worker.has_run c.answer.new.self.worker way.opened) (session_view c.answer.new.self.session) (printing c.answer.new.self.replies)
      c.answer.new.self.lines c.args.count (fed_line w.done c.args.intake.now.bytes c.args.count c.requires.found) (rw (← c.front.ensures) so_far) in
      c.flush.ensures.stays.stands way given c.let_go.new.self.bytes (rw c.let_go.ensures.bytes work) st;
}

pub returns-clause-goes_on : goal.returns-clause-goes_on
returns-clause-goes_on g c =
    let a = c.in_ok-answer.ensures.goes_on in
    on_ok_weaker c.flush.result (λ h. record { sound = h.sound; lines = h.lines ∙ a.lines; origin = h.origin ∙ a.origin }) c.flush.ensures.goes_on
