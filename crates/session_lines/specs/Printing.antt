-- What is printed while a session goes on.
use Rattle.std.specs.Prelude.{ℕ, ◌+◌, Bool, true, List, ◌++◌, if◌then◌else◌}
use Rattle.job_model.specs.Commands.{Command}
use Rattle.job_model.specs.Outcomes.{WorkerProgress, at_first, is_refused, progress_after}
use Rattle.job_model.specs.Sessions.{given_up_text, refused_line_text}
use Rattle.job_model.specs.declared.ScriptKind.{ScriptKind}
use Rattle.job_report.specs.Outcomes.{ended_view, outcome_text}
use Rattle.job_report.specs.declared.outcomes.Outcome.{Outcome}
use Rattle.session_lines.specs.declared.replies.Replies.{Replies}

-- the text that is still to be written, the number of the next command, the version that was seen or made last, and whether anything
-- was refused
pub record Printing : Type 0 where
  pub text : List ℕ
  pub next : ℕ
  pub seen : ℕ
  pub refused : Bool

abbrev pub printing : Replies → Printing
printing r = record { text = r.text.items; next = r.next; seen = r.seen; refused = r.refused }

abbrev pub with_text : Printing → List ℕ → Printing
with_text p text = record p { text = p.text ++ text }

-- the version that was seen or made last, behind a command
abbrev pub seen_after : ℕ → Command → ℕ → ℕ
seen_after seen command version = (progress_after (record at_first { seen = seen }) command version).seen

-- a command came to an outcome
abbrev pub with_ran : Printing → Command → Outcome → Printing
with_ran p command o = record {
  text = p.text ++ outcome_text 1 p.next o;
  next = p.next + 1;
  seen = seen_after p.seen command o.version;
  refused = (if is_refused (ended_view o.told) then true else p.refused);
}

-- a line is refused
abbrev pub with_refused : Printing → ℕ → ScriptKind → Printing
with_refused p line kind = record (with_text p (refused_line_text line kind)) { refused = true }

-- a transaction was given up
abbrev pub with_given_up : Printing → Printing
with_given_up p = record { text = p.text ++ given_up_text p.next p.seen; next = p.next + 1; seen = p.seen; refused = true }
