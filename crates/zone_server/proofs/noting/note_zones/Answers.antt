use Rattle.zone_server.proofs.NoteLaws.{is_note, tells}
use Rattle.zone_server.proofs.ServingLaws.{knows_same, pass_in, serving_same}
use Rattle.zone_server.proofs.noting.note_zones.Goals as goal

pub note-requires : goal.note-requires
note-requires g c = record { pass = pass_in g.H.Home.zones c.args.zones.now c.requires.zones c.args.pass.now c.requires.pass.pass }

pub returns-clause-stays : goal.returns-clause-stays
returns-clause-stays g c = record {
  pass = serving_same g.H.Home.zones c.args.zones.now c.requires.zones c.args.pass.now c.note.new.self c.requires.pass c.note.ensures.pass c.note.ensures.same;
  same = knows_same c.args.pass.now c.note.new.self c.note.ensures.same;
}

pub returns-clause-of : goal.returns-clause-of
returns-clause-of g c = is_note g.H.Home.zones c.args.zones.now c.requires.zones c.note.result c.note.ensures.of

pub returns-clause-told : goal.returns-clause-told
returns-clause-told g c = tells c.args.pass.now c.note.result c.note.ensures.told
