use Rattle.std.proofs.Common.{◌∙◌, ◌+◌, ◌<◌, List, get_or, ap, refl, sym, arith}
use Rattle.std.proofs.lemmas.Result.{on_ok_weaker}
use Rattle.job_model.specs.Sessions.{step_of}
use Rattle.job_script.specs.declared.commands.Command.{Command}
use Rattle.session_lines.specs.Views.{said_view, session_view}
use Rattle.session_talk.proofs.FedLaws.{octets_in, octets_of}
use Rattle.session_talk.proofs.SoFarLaws.{on_so_far, on_sound, said_well}
use Rattle.session_talk.proofs.answering.Answering.answer.Goals as goal

pub reply-requires : goal.reply-requires
reply-requires g c = record {
  ready = c.requires.sound.fit;
  few = omega (arith, c.requires.sound.few, c.requires.few);
  well =
      let one = c.requires.one in
      let octets = octets_in _ one.0 one.1 (octets_of c.args.line.now (λ i. let k : get_or c.args.line.now i 0 < 256 = omega (arith, c.type_inv.line i) in k)) in
      let stepped = c.in_ok-said.ensures one.0 one.1 ∙ ap (λ (l : List Command). step_of (session_view c.take_line.new.self) (said_view (c.args.self.now.lines + 1) l c.in_ok-said.said)) (sym c.deref.ensures.value) in
      let well = said_well _ _ _ _ one.0 _ _ _ c.requires.sound.name c.requires.sound.same c.requires.sound.held c.requires.sound.block octets stepped in
      (_, well.0);
}

pub returns-clause-goes_on : goal.returns-clause-goes_on
returns-clause-goes_on g c =
    let one = c.requires.one in
    let octets = octets_in _ one.0 one.1 (octets_of c.args.line.now (λ i. let k : get_or c.args.line.now i 0 < 256 = omega (arith, c.type_inv.line i) in k)) in
    let stepped = c.in_ok-said.ensures one.0 one.1 ∙ ap (λ (l : List Command). step_of (session_view c.take_line.new.self) (said_view (c.args.self.now.lines + 1) l c.in_ok-said.said)) (sym c.deref.ensures.value) in
    let well = said_well _ _ _ _ one.0 _ _ _ c.requires.sound.name c.requires.sound.same c.requires.sound.held c.requires.sound.block octets stepped in
    on_ok_weaker c.reply.result (λ s. record { sound = s; lines = refl; origin = refl })
    (on_sound c.reply.result _ _ _ _ _ _ _ _ _ (on_ok_weaker c.reply.result (λ h. h.ready) c.reply.ensures.goes_on) c.requires.sound.name c.requires.sound.same (on_ok_weaker c.reply.result (λ h. h.origin) c.reply.ensures.goes_on) (c.reply.ensures.answers.held _ well.0) well.1 (on_ok_weaker c.reply.result (λ h. h.few) c.reply.ensures.goes_on) c.requires.sound.few)

pub returns-clause-so_far : goal.returns-clause-so_far
returns-clause-so_far g c = λ o first done written same fed h.
    let one = c.requires.one in
    let stepped = c.in_ok-said.ensures one.0 one.1 ∙ ap (λ (l : List Command). step_of (session_view c.take_line.new.self) (said_view (c.args.self.now.lines + 1) l c.in_ok-said.said)) (sym c.deref.ensures.value) in
    on_so_far (g.W.Worker.has_run c.args.self.now.worker o) (g.W.Worker.has_run c.reply.new.worker o) o first done c.args.line.now one.0 written _ _ _ _ _ _ _ same fed one.1 h stepped
    c.reply.result (c.reply.ensures.answers.replied o h.entries h.ran)
