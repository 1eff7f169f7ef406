use Rattle.std.proofs.Common.{rules}
use Rattle.zone_text.proofs.WordLemmas.{word_goes_on}
use Rattle.zone_text.proofs.lexer.next_step.Goals as goal

pub returns-in-Word : goal.returns-in-Word
returns-in-Word c = record {
  order = search rules;
  inside = search rules;
  same = λ line. word_goes_on line c.args.bytes.now c.in-Word.field-0 c.args.at c.word_end.result c.args.upto c.args.scan.now c.in-Word.is c.requires.scanned c.word_end.ensures.order c.word_end.ensures.inside c.word_end.ensures.joins;
  scanned = search rules;
  stops = search rules;
}
