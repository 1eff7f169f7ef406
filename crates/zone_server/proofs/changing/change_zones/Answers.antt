use Rattle.std.proofs.Common.{refl}
use Rattle.job_report.specs.Outcomes.{ended_view}
use Rattle.job_script.specs.Views.{asked_view}
use Rattle.zone_server.specs.Servings.{known_of}
use Rattle.zone_server.proofs.ChangeLaws.{changes_as, not_rolled, ran_of}
use Rattle.zone_server.proofs.ServingLaws.{none_has}
use Rattle.zone_server.proofs.changing.change_zones.Goals as goal

pub returns-in_default-clause-changes : goal.returns-in_default-clause-changes
returns-in_default-clause-changes g c = (none_has g.H.Home.zones c.args.zones.now c.requires.zones c.args.origin.now (c.in_default.ensures.none refl), refl)

pub told-requires-clause-commits : goal.told-requires-clause-commits
told-requires-clause-commits g c = not_rolled g.H.Home.zones c.args.origin.now (asked_view c.args.block.now) c.args.block.now.ending (known_of c.args.pass.now) (known_of c.run_in.new.pass) c.in-Ok.outcome c.requires.update.commits c.in-Ok.ensures.ran

pub returns-in-Ok-clause-changes : goal.returns-in-Ok-clause-changes
returns-in-Ok-clause-changes g c =
    changes_as g.H.Home.zones (record { origin = c.args.origin.now; asked = asked_view c.args.block.now }) (known_of c.args.pass.now) (known_of c.run_in.new.pass) c.told.result c.in-Ok.outcome.version (ended_view c.in-Ok.outcome.told) c.told.ensures
    (ran_of g.H.Home.zones c.args.origin.now (asked_view c.args.block.now) c.args.block.now.ending (known_of c.args.pass.now) (known_of c.run_in.new.pass) c.in-Ok.outcome c.requires.update.commits c.in-Ok.ensures.ran)
