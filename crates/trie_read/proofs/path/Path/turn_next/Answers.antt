use Rattle.std.proofs.Common.{◌++◌, arith}
use Rattle.trie_model.specs.Trees.{entries_of}
use Rattle.trie_read.specs.Walks.{AnyStep}
use Rattle.trie_read.proofs.PathLaws.{depth_few}
use Rattle.trie_read.proofs.TurnLaws.{next_up, next_turn, next_small}
use Rattle.trie_read.proofs.path.Path.turn_next.Goals as goal

pub bounds-self-level : goal.bounds-self-level
bounds-self-level c =
    let h = c.requires in let few = depth_few AnyStep c.args.self.now.steps h.whole h.shape c.args.self.now.depth h.tree h.before h.after h.hangs in
    let w = c.loop-level.invariant.within in let s = c.loop-level-test.true in omega arith

pub returns-then-step-clause-turned : goal.returns-then-step-clause-turned
returns-then-step-clause-turned c whole t before after hangs =
    next_turn c.loop-level.self c.args.self.now whole c.loop-level.level (before ++ entries_of t) after _ c.loop-level.invariant.same c.loop-level-test.true c.if-step.true (c.loop-level.invariant.passed whole t before after hangs)

pub loop-level-preserved : goal.loop-level-preserved
loop-level-preserved c = record {
  same = c.loop-level.invariant.same;
  within = (let w = c.loop-level.invariant.within in omega arith);
  passed = λ whole t before after hangs. next_up c.loop-level.self c.args.self.now whole c.loop-level.level (before ++ entries_of t) after _ c.loop-level.invariant.same c.loop-level-test.true c.if-step.false (c.loop-level.invariant.passed whole t before after hangs);
}

pub overflow_add-step : goal.overflow_add-step
overflow_add-step c =
    let h = c.requires in
    let small = next_small c.loop-level.self c.args.self.now h.whole c.loop-level.level (h.before ++ entries_of h.tree) h.after (record { twigs = 0; offset = 0; index = 0; count = 0 }) c.loop-level.invariant.same c.loop-level-test.true h.shape (c.loop-level.invariant.passed h.whole h.tree h.before h.after h.hangs) in
    omega arith
