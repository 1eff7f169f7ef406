use Rattle.std.proofs.Common.{◌++◌, arith}
use Rattle.trie_model.specs.Trees.{entries_of}
use Rattle.trie_read.specs.Walks.{AnyStep}
use Rattle.trie_read.proofs.PathLaws.{depth_few}
use Rattle.trie_read.proofs.TurnLaws.{back_up, back_turn}
use Rattle.trie_read.proofs.path.Path.turn_back.Goals as goal

pub bounds-self-level : goal.bounds-self-level
bounds-self-level c =
    let h = c.requires in let few = depth_few AnyStep c.args.self.now.steps h.whole h.shape c.args.self.now.depth h.tree h.before h.after h.hangs in
    let w = c.loop-level.invariant.within in let s = c.loop-level-test.true in omega arith

pub returns-then-step-gt0-clause-turned : goal.returns-then-step-gt0-clause-turned
returns-then-step-gt0-clause-turned c whole t before after hangs =
    back_turn c.loop-level.self c.args.self.now whole c.loop-level.level before (entries_of t ++ after) _ c.loop-level.invariant.same c.loop-level-test.true c.if-step-gt0.true (c.loop-level.invariant.ahead whole t before after hangs)

pub loop-level-preserved : goal.loop-level-preserved
loop-level-preserved c = record {
  same = c.loop-level.invariant.same;
  within = (let w = c.loop-level.invariant.within in omega arith);
  ahead = λ whole t before after hangs. back_up c.loop-level.self c.args.self.now whole c.loop-level.level before (entries_of t ++ after) _ c.loop-level.invariant.same c.loop-level-test.true c.if-step-gt0.false (c.loop-level.invariant.ahead whole t before after hangs);
}
