use Rattle.std.proofs.Common.{◌∙◌, ℕ, false, [], refl, sym, ap, arith}
use Rattle.job_model.specs.Sessions.{ready_text, session_lines}
use Rattle.session_lines.specs.Printing.{Printing, with_text}
use Rattle.session_talk.proofs.answering.begin.Goals as goal

pub returns-clause-so_far : goal.returns-clause-so_far
unfolding session_lines
returns-clause-so_far g c = λ o same names ran. record {
  lines_are = omega arith;
  session = sym c.new.ensures;
  entries = [];
  said = refl;
  ran = ran;
  printed = c.in_ok-push_ready.ensures ∙ ap (λ (p : Printing). with_text p (ready_text c.args.names)) c.new-replies.ensures ∙ ap (λ (n : ℕ). record { text = ready_text n; next = 1; seen = 0; refused = false }) (sym names);
}
