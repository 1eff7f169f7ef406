use Rattle.std.proofs.Common.{sym}
use Rattle.zone_text.proofs.WordLemmas.{found_joins, found_stops, missed_joins}
use Rattle.zone_text.proofs.lexer.word_end.Goals as goal

pub returns-in-Some-clause-joins : goal.returns-in-Some-clause-joins
returns-in-Some-clause-joins c = found_joins c.args.bytes.now c.args.at c.args.upto c.in-Some.n c.requires.inside (sym c.in-Some.ensures)

pub returns-in-Some-clause-stops : goal.returns-in-Some-clause-stops
returns-in-Some-clause-stops c = λ lt. found_stops c.args.bytes.now c.args.at c.args.upto c.in-Some.n c.requires.inside (sym c.in-Some.ensures)

pub returns-in-None-clause-joins : goal.returns-in-None-clause-joins
returns-in-None-clause-joins c = missed_joins _ (sym c.in-None.ensures)
