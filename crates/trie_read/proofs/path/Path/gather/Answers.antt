use Rattle.std.proofs.Common.{◌+◌, ◌∙◌, Some, None, arith, refl, sym, subst, true≢false}
use Rattle.trie_read.specs.Walks.{HasNode, Guided}
use Rattle.trie_model.proofs.NameLaws.{name_key}
use Rattle.trie_read.proofs.PathLaws.{depth_few, at_depth}
use Rattle.trie_read.proofs.AboveLaws.{SoFar, EndingAt, passes_node, gathered_start, gathered_first, gathered_within, gathered_none, gathered_one, gathered_room, gathered_rest}
use Rattle.trie_read.proofs.path.Path.gather.Goals.{then-ends_at+then-step-gt0+in-Some, then-ends_at+then-step-gt0+in_default, else-ends_at, else-ends_at-via-else-ends_at, else-ends_at-via-then-ends_at+else-step-gt0}
use Rattle.trie_read.proofs.path.Path.gather.Goals as goal

pub loop-level-init : goal.loop-level-init
loop-level-init g c = record {
  same = refl;
  above = λ before p. gathered_start (g.C.CellRead.has c.args.cells.now) c.args.key.now c.args.self.now p.whole p.met c.args.above.now c.requires.empty;
}

pub bounds-self-level : goal.bounds-self-level
bounds-self-level g c =
    let h = c.requires.passes in let p = h.1 in
    let few = depth_few _ c.args.self.now.steps p.whole p.leads.shape c.args.self.now.depth p.tree h.0 p.after p.leads.hangs in let l = c.loop-level-test.true in omega arith

pub ending-requires : goal.ending-requires
ending-requires g c =
    let h = c.requires.passes in let l = c.loop-level.auto.level-end in
    subst (λ s. HasNode (g.C.CellRead.has s) c.args.self.now c.args.root c.loop-level.level) (sym c.loop-level.invariant.same) (passes_node (g.C.CellRead.has c.args.cells.now) c.args.key.now c.args.self.now c.args.root h.0 h.1 c.loop-level.level l)

pub push-requires : goal.push-requires
push-requires g c =
    let h = c.requires.passes in
    gathered_room (g.C.CellRead.has c.args.cells.now) c.args.key.now c.args.self.now c.args.root h.0 h.1 c.loop-level.level c.loop-level.above (record { twigs = 0; offset = 0; index = 0; count = 0 }) c.loop-level-test.true (c.loop-level.invariant.above h.0 h.1)
    c.in-Some.leaf c.ends_at.ensures.key c.if-step-gt0.true (c.if-ends_at.ensures.ends.0 refl) (subst (λ s. EndingAt (g.C.CellRead.has s) c.args.self.now c.args.root c.loop-level.level (Some c.in-Some.leaf)) c.loop-level.invariant.same c.in-Some.ensures.ending)

pub loop-level-preserved : goal.loop-level-preserved
loop-level-preserved g c = record {
  same = elim c.if-ends_at.branch [
    | then-ends_at+then-step-gt0+in-Some w ↦ w.cells-is ∙ w.ending.ensures.same ∙ c.loop-level.invariant.same
    | then-ends_at+then-step-gt0+in_default w ↦ w.cells-is ∙ w.ending.ensures.same ∙ c.loop-level.invariant.same
    | else-ends_at w ↦ w.cells-is ∙ c.loop-level.invariant.same
  ];
  above = λ before p. elim c.if-ends_at.branch [
    | then-ends_at+then-step-gt0+in-Some w ↦ subst (SoFar (g.C.CellRead.has c.args.cells.now) c.args.key.now c.args.self.now p.whole p.met (c.loop-level.level + 1)) (sym (w.above-is ∙ w.push.ensures))
        (gathered_one (g.C.CellRead.has c.args.cells.now) c.args.key.now c.args.self.now c.args.root before p c.loop-level.level c.loop-level.above (record { twigs = 0; offset = 0; index = 0; count = 0 }) c.loop-level-test.true (c.loop-level.invariant.above before p)
        w.in-Some.leaf w.labels_to-labels.result (name_key c.args.key.now c.ends_at.ensures.key) w.if-step-gt0.true (w.if-ends_at.ensures.ends.0 refl) (subst (λ s. EndingAt (g.C.CellRead.has s) c.args.self.now c.args.root c.loop-level.level (Some w.in-Some.leaf)) c.loop-level.invariant.same w.in-Some.ensures.ending) w.labels_to-labels.ensures)
    | then-ends_at+then-step-gt0+in_default w ↦ subst (SoFar (g.C.CellRead.has c.args.cells.now) c.args.key.now c.args.self.now p.whole p.met (c.loop-level.level + 1)) (sym w.above-is)
        (gathered_none (g.C.CellRead.has c.args.cells.now) c.args.key.now c.args.self.now c.args.root before p c.loop-level.level c.loop-level.above (record { twigs = 0; offset = 0; index = 0; count = 0 }) c.loop-level-test.true (c.loop-level.invariant.above before p) (name_key c.args.key.now c.ends_at.ensures.key) (subst (λ s. EndingAt (g.C.CellRead.has s) c.args.self.now c.args.root c.loop-level.level None) c.loop-level.invariant.same w.in_default.ensures.ending))
    | else-ends_at w ↦ subst (SoFar (g.C.CellRead.has c.args.cells.now) c.args.key.now c.args.self.now p.whole p.met (c.loop-level.level + 1)) (sym w.above-is) (elim w.else-ends_at.branch [
      | else-ends_at-via-else-ends_at v ↦ gathered_within (g.C.CellRead.has c.args.cells.now) c.args.key.now c.args.self.now c.args.root before p c.loop-level.level c.loop-level.above (record { twigs = 0; offset = 0; index = 0; count = 0 }) c.loop-level-test.true (c.loop-level.invariant.above before p) (name_key c.args.key.now c.ends_at.ensures.key) (λ ends. true≢false (sym (c.ends_at.ensures.ends.1 ends) ∙ v.if-ends_at.false))
      | else-ends_at-via-then-ends_at+else-step-gt0 v ↦ gathered_first (g.C.CellRead.has c.args.cells.now) c.args.key.now c.args.self.now c.args.root before p c.loop-level.level c.loop-level.above (record { twigs = 0; offset = 0; index = 0; count = 0 }) c.loop-level-test.true (c.loop-level.invariant.above before p) (λ some. let l = v.if-step-gt0.false in omega arith)
    ])
  ];
}

pub returns-then-step-last-clause-above : goal.returns-then-step-last-clause-above
returns-then-step-last-clause-above g c before p =
    gathered_rest (g.C.CellRead.has c.args.cells.now) c.args.key.now c.args.self.now c.args.root before p c.loop-level.level c.loop-level.above (record { twigs = 0; offset = 0; index = 0; count = 0 }) c.loop-level-test.true (c.loop-level.invariant.above before p)
    (name_key c.args.key.now c.last_label-last.ensures.key) c.last_label-last.result c.last_label-last.ensures.within c.if-step-last.true c.args.self.now.depth (let l = c.loop-level-test.true in omega arith) (omega arith)
    p.tree before p.after p.leads.hangs p.there

pub returns-clause-above : goal.returns-clause-above
returns-clause-above g c before p =
    let l = c.loop-level-test.false in let m = c.loop-level.auto.level-end in
    c.loop-level.invariant.above before p p.tree before p.after (at_depth (Guided c.args.key.now) c.args.self.now.steps p.whole c.args.self.now.depth c.loop-level.level p.tree before p.after (omega arith) p.leads.hangs) p.there
