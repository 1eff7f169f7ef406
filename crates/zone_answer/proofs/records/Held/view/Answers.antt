use Rattle.zone_answer.proofs.records.Held.view.Goals as goal

pub of-requires : goal.of-requires
of-requires c = (c.requires.0, c.requires.1.says)

pub returns : goal.returns
returns c entry h = c.of.ensures entry h.says
