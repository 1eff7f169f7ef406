use Rattle.zone_diff.specs.Differences.{difference}
use Rattle.zone_diff.proofs.NameLemmas.{leaves_on}
use Rattle.zone_diff.proofs.names.push_between.Goals as goal

pub push_first-requires-clause-some_before : goal.push_first-requires-clause-some_before
push_first-requires-clause-some_before g c =
    let b = c.requires.some_before in
    let a = c.requires.some_after in
    let l = c.names.invariant.0 b.0 a.0 b.1 a.1 in (l.before, l.shown)

pub push_first-requires-clause-some_after : goal.push_first-requires-clause-some_after
push_first-requires-clause-some_after g c =
    let b = c.requires.some_before in
    let a = c.requires.some_after in
    let l = c.names.invariant.0 b.0 a.0 b.1 a.1 in (l.after, l.shown')

pub names-preserved : goal.names-preserved
names-preserved g c =
    let has = g.K.OperationSink.has in (
      λ b a sb sa. leaves_on c.args.serial (has c.args.sink.now) (has c.names.sink) (has c.push_first.new.sink) (difference c.args.serial b a) (g.B.Names.shows c.names.before) (g.A.Names.shows c.names.after) (g.B.Names.shows c.push_first.new.before) (g.A.Names.shows c.push_first.new.after)
          (c.names.invariant.0 b a sb sa) c.in_ok-push_first.ensures.left,
      (g.met.B.Names.stays_on c.args.before.now c.names.before c.push_first.new.before c.names.invariant.1.0 c.push_first.ensures.sources.0, g.met.A.Names.stays_on c.args.after.now c.names.after c.push_first.new.after c.names.invariant.1.1 c.push_first.ensures.sources.1),
    )
