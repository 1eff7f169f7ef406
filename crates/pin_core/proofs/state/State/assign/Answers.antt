use Rattle.std.proofs.Common.{ℕ, List, get_or, set, sym, ap, ◌∙◌, subst, arith}
use Rattle.pin_core.specs.declared.kept.Mark.{Mark}
use Rattle.pin_core.specs.Words.{pin_at}
use Rattle.pin_core.specs.Sound.{Sound, turn_of}
use Rattle.pin_core.specs.Machine.{exchanged}
use Rattle.pin_core.specs.Inside.{core_of}
use Rattle.pin_core.proofs.Inside.{within, mark_read, pin_read, current_read}
use Rattle.pin_core.proofs.Turns.{written_back, assign_sound, assigned_is}
use Rattle.pin_core.proofs.state.State.assign.Goals as goal

pub invariant_of-self : goal.invariant_of-self
invariant_of-self c =
    let s = core_of c.self.inside in
    let l = within s _ c.self.invariant c.self.view_is c.args.p c.requires in
    let found = pin_read s _ c.self.invariant c.self.view_is c.args.p c.requires _ c.index-in-Entering.ensures in
    let cur = current_read s c.self.invariant _ c.index-in-Entering-2.ensures in
    let pin = c.pin_after_exchange-pin.ensures ∙ ap (λ (x : ℕ). exchanged x c.index-in-Entering-2.result.now) found ∙ ap (exchanged (get_or s.words (pin_at c.args.p) 0)) cur in
    let back = written_back c.mark_pass.new.marks s.turn.marks c.self.inside.marks.len (omega (arith, c.mark_pass.auto.marks, c.deref_mut.ensures.len)) in
    subst (λ (ms : List Mark). Sound s.size (set s.words (pin_at c.args.p) c.pin_after_exchange-pin.result) s.stages s.seen (turn_of s.turn.version c.mark_pass.new.kept.items ms)) (sym back)
    (assign_sound s c.self.invariant c.args.p l c.deref_mut.result.now c.deref_mut.ensures.value c.pin_after_exchange-pin.result pin _ c.mark_pass.ensures)

pub returns-in-Entering-clause-after : goal.returns-in-Entering-clause-after
returns-in-Entering-clause-after c =
    let s = core_of c.self.inside in
    let found = pin_read s _ c.self.invariant c.self.view_is c.args.p c.requires _ c.index-in-Entering.ensures in
    let cur = current_read s c.self.invariant _ c.index-in-Entering-2.ensures in
    let pin = c.pin_after_exchange-pin.ensures ∙ ap (λ (x : ℕ). exchanged x c.index-in-Entering-2.result.now) found ∙ ap (exchanged (get_or s.words (pin_at c.args.p) 0)) cur in
    let is = mark_read s _ c.self.invariant c.self.view_is c.args.p c.requires _ _ c.index.ensures c.in-Entering.is in
    let back = written_back c.mark_pass.new.marks s.turn.marks c.self.inside.marks.len (omega (arith, c.mark_pass.auto.marks, c.deref_mut.ensures.len)) in
    ap (λ (ms : List Mark). record s { words = set s.words (pin_at c.args.p) c.pin_after_exchange-pin.result; turn = turn_of s.turn.version c.mark_pass.new.kept.items ms }) back
    ∙ assigned_is s c.self.invariant _ c.self.view_is c.args.p is c.deref_mut.result.now c.deref_mut.ensures.value c.pin_after_exchange-pin.result pin _ c.mark_pass.ensures
