use Rattle.std.proofs.Common.{ℕ, List, length, replicate, sym, ap, ◌∙◌, arith}
use Rattle.pin_core.specs.declared.kept.Mark.TheVariants.{Blank}
use Rattle.pin_core.specs.Machine.{Core, can_publish, image_of}
use Rattle.pin_core.specs.Inside.{core_of}
use Rattle.pin_core.proofs.Turns.{written_back, publish_root_fits, published_sound}
use Rattle.pin_core.proofs.state.State.publish.Goals as goal

pub word_of_version-word-requires-clause-root : goal.word_of_version-word-requires-clause-root
word_of_version-word-requires-clause-root c =
    let s = core_of c.self.inside in
    let can = ap (λ (v : Core). can_publish v c.args.root c.args.cells.now) c.self.view_is ∙ sym c.can_publish.ensures ∙ c.if-not-can_publish.false in
    publish_root_fits s c.self.invariant c.args.root c.args.cells.now can

pub invariant_of-self-2 : goal.invariant_of-self-2
invariant_of-self-2 c =
    let s = core_of c.self.inside in
    let can = ap (λ (v : Core). can_publish v c.args.root c.args.cells.now) c.self.view_is ∙ sym c.can_publish.ensures ∙ c.if-not-can_publish.false in
    let image = c.in_ok-image.ensures ∙ ap (λ (ws : List ℕ). image_of ws c.args.cells.now) c.deref.ensures.value in
    let marks = c.clear_marks.ensures ∙ ap (λ (n : ℕ). replicate n Blank) (ap length c.deref_mut.ensures.value) in
    let back = written_back c.clear_marks.new.marks s.turn.marks c.self.inside.marks.len (omega (arith, c.clear_marks.auto.marks, c.deref_mut.ensures.len)) in
    published_sound s c.self.invariant c.args.root c.args.cells.now can c.word_of_version-word.result c.word_of_version-word.ensures c.in_ok-image.image image c.push.new.self.items c.in_ok-push.ensures.items _ (back ∙ marks)
