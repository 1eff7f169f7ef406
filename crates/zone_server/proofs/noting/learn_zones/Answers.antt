use Rattle.zone_server.proofs.NoteLaws.{learns, note_in}
use Rattle.zone_server.proofs.ServingLaws.{pass_in, serving_learnt}
use Rattle.zone_server.proofs.noting.learn_zones.Goals as goal

pub learn-requires-clause-pass : goal.learn-requires-clause-pass
learn-requires-clause-pass g c = pass_in g.H.Home.zones c.args.zones.now c.requires.zones c.args.pass.now c.requires.pass.pass

pub learn-requires-clause-note : goal.learn-requires-clause-note
learn-requires-clause-note g c = note_in g.H.Home.zones c.args.zones.now c.requires.zones c.args.note c.requires.note

pub returns-clause-pass : goal.returns-clause-pass
returns-clause-pass g c =
    serving_learnt g.H.Home.zones c.args.zones.now c.requires.zones c.args.pass.now c.learn.new.self c.requires.pass c.learn.ensures.pass c.args.note (note_in g.H.Home.zones c.args.zones.now c.requires.zones c.args.note c.requires.note) c.learn.ensures.learnt

pub returns-clause-learnt : goal.returns-clause-learnt
returns-clause-learnt g c = learns c.args.pass.now c.learn.new.self c.args.note c.learn.ensures.learnt
