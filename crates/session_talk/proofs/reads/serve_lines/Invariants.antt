use Rattle.std.proofs.Common.{◌≡◌, ◌*◌, ◌^◌, ◌+◌, ◌≤◌, true, false, length}
use Rattle.std.specs.Prelude.{IsTrue}
use Rattle.session_lines.specs.Printing.{printing}
use Rattle.session_lines.specs.Views.{session_view}
use Rattle.session_talk.specs.Answering.{IsSound, Way}
use Rattle.session_talk.specs.Serving.{AtWork, MayServe, Stands}
use Rattle.session_talk.proofs.reads.serve_lines.Given as goal

abbrev pub invariant-reads : goal.invariant-reads
invariant-reads g l = record {
  sound : IsSound (g.W.Worker.is_ready l.answering.worker) l.answering.origin.now (g.W.Worker.origin l.answering.worker) (g.W.Worker.holds l.answering.worker) (session_view l.answering.session) l.answering.replies.next l.answering.lines;
  few : l.answering.lines + length l.intake.bytes ≤ 2 ^ 26 + l.counter * 65536;
  origin : l.answering.origin ≡ l.initial.answering.origin;
  ended : l.intake.ended ≡ true → IsTrue (g.T.Talk.ended l.talk);
  many : l.intake.ended ≡ false → l.counter ≤ length (g.T.Talk.given l.talk);
  quiet_sink : g.K.Sink.faults l.sink ≡ g.K.Sink.faults l.initial.sink;
  quiet_talk : g.T.Talk.faults l.talk ≡ g.T.Talk.faults l.initial.talk;
  may : MayServe g.T.Talk.is_settled (λ way. g.W.Worker.has_run l.answering.worker way.opened) l.answering.origin.now (g.T.Talk.given l.talk) (g.K.Sink.held l.sink)
      (session_view l.answering.session) (printing l.answering.replies) l.answering.lines l.intake.bytes;
  work : (way : Way) → way.opened.origin ≡ l.initial.answering.origin.now
      → AtWork (g.W.Worker.has_run l.initial.answering.worker way.opened) way (g.T.Talk.given l.initial.talk) (g.K.Sink.held l.initial.sink) (session_view l.initial.answering.session) (printing l.initial.answering.replies) l.initial.answering.lines l.initial.intake.bytes
      → AtWork (g.W.Worker.has_run l.answering.worker way.opened) way (g.T.Talk.given l.talk) (g.K.Sink.held l.sink) (session_view l.answering.session) (printing l.answering.replies) l.answering.lines l.intake.bytes;
  stands : (way : Way) → way.opened.origin ≡ l.initial.answering.origin.now
      → AtWork (g.W.Worker.has_run l.initial.answering.worker way.opened) way (g.T.Talk.given l.initial.talk) (g.K.Sink.held l.initial.sink) (session_view l.initial.answering.session) (printing l.initial.answering.replies) l.initial.answering.lines l.initial.intake.bytes
      → Stands way (g.T.Talk.given l.initial.talk) (g.K.Sink.held l.initial.sink) → Stands way (g.T.Talk.given l.talk) (g.K.Sink.held l.sink);
}
