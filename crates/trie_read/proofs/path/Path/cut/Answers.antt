use Rattle.std.proofs.Common.{◌-◌, ◌<◌, List, get_or, arith, sym, subst}
use Rattle.trie_read.specs.declared.path.Step.{Step}
use Rattle.trie_read.proofs.GuideLaws.{CutTo, cut_more, cut_end}
use Rattle.trie_read.proofs.path.Path.cut.Goals as goal

pub loop-self-preserved : goal.loop-self-preserved
loop-self-preserved c = record {
  steps = c.loop-self.invariant.steps;
  within = (let w = c.loop-self.invariant.within in omega arith);
  cut = λ key whole e at before after shape hangs.
      cut_more key c.args.self.now.steps c.loop-self.self.depth whole e c.args.place (record { twigs = 0; offset = 0; index = 0; count = 0 }) shape c.loop-self-test.true
      (subst (λ (steps : List Step). c.args.place < (get_or steps (c.loop-self.self.depth - 1) (record { twigs = 0; offset = 0; index = 0; count = 0 })).offset) c.loop-self.invariant.steps c.if-self-place.true)
      (c.loop-self.invariant.cut key whole e at before after shape hangs);
}

pub returns-else-self-place : goal.returns-else-self-place
returns-else-self-place c key whole e at before after shape hangs =
    cut_end key c.loop-self.self whole e c.args.place _ (λ some. c.if-self-place.false)
    (subst (λ (steps : List Step). CutTo key steps c.loop-self.self.depth whole e c.args.place) (sym c.loop-self.invariant.steps) (c.loop-self.invariant.cut key whole e at before after shape hangs))
