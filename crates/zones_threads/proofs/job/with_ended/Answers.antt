use Rattle.std.proofs.Common.{sym, subst}
use Rattle.std.specs.List.{All}
use Rattle.std.proofs.lemmas.List.Elements.{All-cons}
use Rattle.zone_table.specs.Passes.{IsPassOf}
use Rattle.zones_threads.proofs.GatherLaws.{zone_learnt}
use Rattle.zones_threads.proofs.job.with_ended.Goals as goal

pub returns-clause-zone_learnt : goal.returns-clause-zone_learnt
returns-clause-zone_learnt g c = λ zone lt.
    zone_learnt c.args.zones.now.origins.items zone lt c.args.others.main c.learn.new.self c.args.ended.pass c.in_ok-seen.seen c.requires.passes.1 c.learn.ensures.pass c.requires.passes.0 c.in_ok-seen.ensures.told c.learn.ensures.learnt

pub returns-clause-passes : goal.returns-clause-passes
returns-clause-passes g c =
    let is_pass = IsPassOf c.args.zones.now.origins.items in (
      c.learn.ensures.pass,
      subst (All is_pass) (sym c.in_ok-insert.ensures.items) (All-cons is_pass c.note.new.self c.args.others.passes.items c.in_ok-seen.ensures.pass c.requires.passes.2),
    )
