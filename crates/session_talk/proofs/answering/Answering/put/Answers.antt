use Rattle.std.proofs.Common.{rules, ap}
use Rattle.session_lines.specs.Printing.{Printing}
use Rattle.session_talk.proofs.TextLaws.{answers}
use Rattle.session_talk.proofs.answering.Answering.put.Goals as goal

pub returns-clause-puts : goal.returns-clause-puts
returns-clause-puts g c = record {
  answers = λ o first done written h.
      let told = c.tell.ensures.told o _ _ h.ran in
      answers o h.entries _ _ told.0 h.said told.1 (ap (λ (p : Printing). p.text) h.printed);
  so_far = search rules;
}

pub returns-in_err-write_all-clause-puts : goal.returns-in_err-write_all-clause-puts
returns-in_err-write_all-clause-puts g c = record {
  answers = λ o first done written h.
      let told = c.tell.ensures.told o _ _ h.ran in
      answers o h.entries _ _ told.0 h.said told.1 (ap (λ (p : Printing). p.text) h.printed);
  so_far = search rules;
}
