use Rattle.std.proofs.Common.{refl}
use Rattle.job_script.specs.Scripts.{unfinished_view}
use Rattle.session_lines.specs.Views.{session_view}
use Rattle.session_lines.proofs.StepLaws.{if_refuses, is_there, takes}
use Rattle.session_lines.proofs.session.Session.take_line.Goals as goal

pub returns-in-Ok : goal.returns-in-Ok
returns-in-Ok c = λ text one.
    let s = c.in-Ok.ensures.steps in
    takes c.args.origin.now c.args.number text s.0 _ _ (session_view c.args.self.now) _ _ _ c.if-self.false one s.1 c.script-script.ensures.script s.2
    (c.go_on.ensures (session_view c.args.self.now) c.script-script.ensures.block (is_there unfinished_view c.args.self.now.block _ c.is_some-was_open.ensures))

pub returns-in-Err-Refused : goal.returns-in-Err-Refused
returns-in-Err-Refused c = λ text one.
    let s = rw c.in-Err-Refused.field-0-is at c.in-Err-Refused.ensures.steps in
    if_refuses c.args.origin.now c.args.number text s.0 s.1 _ (session_view c.args.self.now) _ _ c.in-Err-Refused.kind c.refuse.new.self c.refuse.result c.if-self.false one s.2 c.script-script.ensures.script s.3 refl
    (c.refuse.ensures.steps (session_view c.args.self.now) c.args.number text c.script-script.ensures.block (is_there unfinished_view c.args.self.now.block _ c.is_some-was_open.ensures) one)
