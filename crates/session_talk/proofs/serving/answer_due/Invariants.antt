use Rattle.std.proofs.Common.{◌≡◌, ℕ, ◌+◌, ◌≤◌, List, length}
use Rattle.session_lines.specs.Printing.{printing}
use Rattle.session_lines.specs.Views.{session_view}
use Rattle.session_talk.specs.Answering.{IsSound, Way}
use Rattle.session_talk.specs.Serving.{AtWork, Stands}
use Rattle.session_talk.proofs.serving.answer_due.Given as goal

abbrev pub invariant-lines : goal.invariant-lines
invariant-lines g l = record {
  sound : IsSound (g.W.Worker.is_ready l.answering.worker) l.answering.origin.now (g.W.Worker.origin l.answering.worker) (g.W.Worker.holds l.answering.worker) (session_view l.answering.session) l.answering.replies.next l.answering.lines;
  few : l.answering.lines + length l.intake.bytes ≤ l.initial.answering.lines + length l.initial.intake.bytes;
  origin : l.answering.origin ≡ l.initial.answering.origin;
  ended : l.intake.ended ≡ l.initial.intake.ended;
  quiet : g.K.Sink.faults l.sink ≡ g.K.Sink.faults l.initial.sink;
  work : (way : Way) (given : List ℕ) → way.opened.origin ≡ l.initial.answering.origin.now
      → AtWork (g.W.Worker.has_run l.initial.answering.worker way.opened) way given (g.K.Sink.held l.initial.sink) (session_view l.initial.answering.session) (printing l.initial.answering.replies) l.initial.answering.lines l.initial.intake.bytes
      → AtWork (g.W.Worker.has_run l.answering.worker way.opened) way given (g.K.Sink.held l.sink) (session_view l.answering.session) (printing l.answering.replies) l.answering.lines l.intake.bytes;
  stands : (way : Way) (given : List ℕ) → way.opened.origin ≡ l.initial.answering.origin.now
      → AtWork (g.W.Worker.has_run l.initial.answering.worker way.opened) way given (g.K.Sink.held l.initial.sink) (session_view l.initial.answering.session) (printing l.initial.answering.replies) l.initial.answering.lines l.initial.intake.bytes
      → Stands way given (g.K.Sink.held l.initial.sink) → Stands way given (g.K.Sink.held l.sink);
}

abbrev pub decreases-lines : goal.decreases-lines
decreases-lines g l = length l.intake.bytes
