use Rattle.std.proofs.Common.{◌≡◌, ◌∙◌, Bool, cond, List, map, ap, refl}
use Rattle.std.specs.Option.{is_some}
use Rattle.job_script.specs.declared.commands.Command.{Command}
use Rattle.session_lines.specs.Prelude.{command_view, held_by, script_view}
use Rattle.session_lines.proofs.StepLaws.{went}
use Rattle.session_lines.proofs.session.Session.go_on.Goals as goal
use Rattle.session_lines.proofs.session.Session.go_on.Goals.{then-was_open, else-was_open}

pub returns : goal.returns
returns c = λ s e o.
    let before = ap (λ x. x.opened) e in
    let number : c.if-was_open.self ≡ cond (is_some s.block) s.opened c.args.number = elim c.if-was_open.branch [
      | then-was_open w ↦ (rw (w.self-is, o, w.if-was_open.true) before)
      | else-was_open w ↦ (rw (w.self-is, o, w.if-was_open.false) refl)
    ] in
    went c.args.number s _ (script_view c.args.script) _ (c.held_behind-self.ensures ∙ ap (λ (l : List Command). held_by c.args.self.now.held (map command_view l)) c.deref.ensures.value ∙ ap (λ (b : Bool). held_by b (script_view c.args.script).commands) (ap (λ x. x.held) e)) refl number (ap (λ x. x.given_up) e) refl
