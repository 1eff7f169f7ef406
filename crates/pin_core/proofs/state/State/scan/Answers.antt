use Rattle.std.proofs.Common.{List, sym, subst, arith}
use Rattle.pin_core.specs.declared.kept.Mark.{Mark}
use Rattle.pin_core.specs.Sound.{Sound, turn_of}
use Rattle.pin_core.specs.Inside.{core_of}
use Rattle.pin_core.proofs.Inside.{within, pin_read}
use Rattle.pin_core.proofs.Turns.{written_back, scan_sound}
use Rattle.pin_core.proofs.state.State.scan.Goals as goal

pub invariant_of-self : goal.invariant_of-self
invariant_of-self c =
    let s = core_of c.self.inside in
    let l = within s _ c.self.invariant c.self.view_is c.args.p c.requires in
    let pin = pin_read s _ c.self.invariant c.self.view_is c.args.p c.requires _ c.index-pin.ensures in
    let back = written_back c.mark_pass.new.marks s.turn.marks c.self.inside.marks.len (omega (arith, c.mark_pass.auto.marks, c.deref_mut.ensures.len)) in
    subst (λ (ms : List Mark). Sound s.size s.words s.stages s.seen (turn_of s.turn.version c.mark_pass.new.kept.items ms)) (sym back)
    (scan_sound s c.self.invariant c.args.p l c.deref_mut.result.now c.deref_mut.ensures.value c.index-pin.result.now pin _ c.mark_pass.ensures)
