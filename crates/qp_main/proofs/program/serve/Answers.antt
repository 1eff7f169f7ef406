use Rattle.std.proofs.Common.{rules, ◌≡◌, ℕ, List, ◌++◌, Some, length, codes, subst, sym}
use Rattle.std.specs.Io.KnownBytes.{Consumes}
use Rattle.command_line.specs.Views.{invocation_view, verb_view}
use Rattle.qp_main.specs.declared.status.Status.TheVariants as status
use Rattle.qp_main.specs.Due.{CutShort, Due, DueInput, IsWritten, Written, is_streamed}
use Rattle.qp_main.specs.Serving.{IsInput}
use Rattle.qp_main.specs.declared.status.Status.{Status}
use Rattle.qp_main.proofs.DueLemmas.{IsAnswer, cut_as, given_due, nothing_yet, short_is, some_words, source_due, too_long, written_answers, written_as}
use Rattle.qp_main.proofs.GivenLemmas.{all_due, all_too_long, given_too_long}
use Rattle.qp_main.specs.Heard.{HasRun}
use Rattle.qp_main.proofs.HeardLemmas.{given_heard, run_written}
use Rattle.qp_main.proofs.SessionLemmas.{reading_ends, reads_input, some_not_none}
use Rattle.qp_main.proofs.program.serve.Goals as goal

pub serve_input-requires : goal.serve_input-requires
serve_input-requires g c =
    let input : IsInput (verb_view c.args.invocation.now.verb) c.in-Ok.bytes.items = record {
      short = search rules;
      whole = (reads_input (verb_view c.args.invocation.now.verb) c.requires).1;
    } in
    search (rules, input)

-- ---- a fault

pub returns-in-Err-Fault-clause-ends : goal.returns-in-Err-Fault-clause-ends
returns-in-Err-Fault-clause-ends g c = reading_ends c.requires (record { cut_short = search rules; given_short = search rules }) (search rules) (search rules) (search rules) (search rules) (search rules)

-- ---- an input that is too long

pub returns-in-Err-TooLong-clause-due : goal.returns-in-Err-TooLong-clause-due
returns-in-Err-TooLong-clause-due g c = record {
  written = λ w.
      let i = invocation_view c.args.invocation.now in
      let left = g.S.Source.left c.args.source.now in
      let taken : (bytes : List ℕ) × Consumes (g.S.Source.left c.args.source.now) (g.S.Source.left c.read_all.new.source) bytes × (g.S.Source.given c.read_all.new.source ≡ g.S.Source.given c.args.source.now ++ bytes) × (length bytes ≡ 16777217) = search rules in
      let whole = c.write_due.ensures.whole w in
      record {
        text = codes "input over 16777216 bytes\n";
        is_due = subst (λ (s : Status). Due (Some (invocation_view c.args.invocation.now)) (g.S.Source.left c.args.source.now) s (codes "input over 16777216 bytes\n")) (sym whole.0)
            (given_due i left status.TooLong (codes "input over 16777216 bytes\n") (c.requires left) (too_long i left (g.S.Source.left c.read_all.new.source) taken.0 taken.1 taken.3));
        grew = search (rules, whole.1);
      };
  given = λ w.
      let i = invocation_view c.args.invocation.now in
      let taken : (bytes : List ℕ) × Consumes (g.S.Source.left c.args.source.now) (g.S.Source.left c.read_all.new.source) bytes × (g.S.Source.given c.read_all.new.source ≡ g.S.Source.given c.args.source.now ++ bytes) × (length bytes ≡ 16777217) = search rules in
      let whole = c.write_due.ensures.whole w in
      given_too_long i _ _ _ taken.0 (λ left. Written (Due (Some i) left) _ _ c.write_due.result) taken.2 taken.3 (record {
        text = codes "input over 16777216 bytes\n";
        is_due = subst (λ (s : Status). Due (Some i) (Some taken.0) s (codes "input over 16777216 bytes\n")) (sym whole.0) (all_too_long i taken.0 (c.requires (Some taken.0)) taken.3);
        grew = search (rules, whole.1);
      });
}

pub returns-in-Err-TooLong-clause-ends : goal.returns-in-Err-TooLong-clause-ends
returns-in-Err-TooLong-clause-ends g c = reading_ends c.requires (record {
  cut_short = λ short.
      let i = invocation_view c.args.invocation.now in
      let left = g.S.Source.left c.args.source.now in
      let taken : (bytes : List ℕ) × Consumes (g.S.Source.left c.args.source.now) (g.S.Source.left c.read_all.new.source) bytes × (g.S.Source.given c.read_all.new.source ≡ g.S.Source.given c.args.source.now ++ bytes) × (length bytes ≡ 16777217) = search rules in
      record {
        status = status.TooLong;
        text = codes "input over 16777216 bytes\n";
        is_due = given_due i left status.TooLong (codes "input over 16777216 bytes\n") (c.requires left) (too_long i left (g.S.Source.left c.read_all.new.source) taken.0 taken.1 taken.3);
        grew = search (rules, c.write_due.ensures.front (short_is (is_streamed i.verb) c.write_due.result short c.write_due.ensures.only.1));
      };
  given_short = λ short some.
      let i = invocation_view c.args.invocation.now in
      let taken : (bytes : List ℕ) × Consumes (g.S.Source.left c.args.source.now) (g.S.Source.left c.read_all.new.source) bytes × (g.S.Source.given c.read_all.new.source ≡ g.S.Source.given c.args.source.now ++ bytes) × (length bytes ≡ 16777217) = search rules in
      given_too_long i _ _ _ taken.0 (λ left. CutShort (Due (Some i) left) _ _) taken.2 taken.3 (record {
        status = status.TooLong;
        text = codes "input over 16777216 bytes\n";
        is_due = all_too_long i taken.0 (c.requires (Some taken.0)) taken.3;
        grew = search (rules, c.write_due.ensures.front (short_is (is_streamed i.verb) c.write_due.result short c.write_due.ensures.only.1));
      });
}) (search rules) (search rules) (search rules) (search rules) (search rules)

pub returns-in-Err-TooLong-clause-heard : goal.returns-in-Err-TooLong-clause-heard
returns-in-Err-TooLong-clause-heard g c = λ ran. absurd (subst HasRun (c.write_due.ensures.whole (run_written c.write_due.result ran)).0 ran)

-- ---- no memory for it

pub returns-in-Err-Memory-clause-ends : goal.returns-in-Err-Memory-clause-ends
returns-in-Err-Memory-clause-ends g c = reading_ends c.requires (record {
  cut_short = λ streamed.
      let i = invocation_view c.args.invocation.now in
      let left = g.S.Source.left c.args.source.now in
      nothing_yet (Due (Some i) left) (g.K.Sink.held c.args.sink.now) (some_words (Some i) left streamed);
  given_short = search rules;
}) (search rules) (search rules) (search rules) (search rules) (search rules)

-- ---- one that is answered

pub returns-clause-due : goal.returns-clause-due
returns-clause-due g c = record {
  written = λ w.
      let i = invocation_view c.args.invocation.now in
      let left = g.S.Source.left c.args.source.now in
      let due = source_due i left (g.S.Source.left c.read_all.new.source) c.in-Ok.bytes.items (c.requires left) (search rules) (search rules) (search rules) in
      written_as (DueInput i.verb i.chunks i.origin c.in-Ok.bytes.items) (Due (Some i) left) _ _ c.serve_input.result due (c.serve_input.ensures.due.written w);
  given = λ w.
      let i = invocation_view c.args.invocation.now in
      let bytes = c.in-Ok.bytes.items in
      record {
        bytes = bytes;
        gave = c.in-Ok.ensures.gave;
        whole = λ reads within. c.in-Ok.ensures.ended;
        holds = written_as (DueInput i.verb i.chunks i.origin bytes) (Due (Some i) (Some bytes)) _ _ c.serve_input.result (all_due i bytes (c.requires (Some bytes)) (search rules)) (c.serve_input.ensures.due.written w);
      };
}

pub returns-clause-ends : goal.returns-clause-ends
returns-clause-ends g c = record {
  short = record {
    cut_short = λ short.
        let i = invocation_view c.args.invocation.now in
        let left = g.S.Source.left c.args.source.now in
        let due = source_due i left (g.S.Source.left c.read_all.new.source) c.in-Ok.bytes.items (c.requires left) (search rules) (search rules) (search rules) in
        cut_as (DueInput i.verb i.chunks i.origin c.in-Ok.bytes.items) (Due (Some i) left) _ _ due (c.serve_input.ensures.due.cut_short short);
    given_short = λ short some.
        let i = invocation_view c.args.invocation.now in
        let bytes = c.in-Ok.bytes.items in
        record {
          bytes = bytes;
          gave = c.in-Ok.ensures.gave;
          whole = λ reads within. c.in-Ok.ensures.ended;
          holds = cut_as (DueInput i.verb i.chunks i.origin bytes) (Due (Some i) (Some bytes)) _ _ (all_due i bytes (c.requires (Some bytes)) (search rules)) (c.serve_input.ensures.due.cut_short short);
        };
  };
  sink = search rules;
  source = search rules;
  unwritten = search rules;
  unread = λ none. absurd (some_not_none _ none);
  made = λ m. absurd ((reads_input (verb_view c.args.invocation.now.verb) c.requires).0 m);
  load = λ m. absurd ((reads_input (verb_view c.args.invocation.now.verb) c.requires).0 m);
  taken = λ other e.
      let i = invocation_view c.args.invocation.now in
      absurd (subst IsAnswer e (written_answers i.verb i.chunks i.origin c.in-Ok.bytes.items _ _ c.serve_input.result c.serve_input.ensures.due.written (subst IsWritten (sym e) tt)));
  words = λ e.
      let i = invocation_view c.args.invocation.now in
      absurd (subst IsAnswer e (written_answers i.verb i.chunks i.origin c.in-Ok.bytes.items _ _ c.serve_input.result c.serve_input.ensures.due.written (subst IsWritten (sym e) tt)));
}

pub returns-clause-heard : goal.returns-clause-heard
returns-clause-heard g c = λ ran.
    let bytes = c.in-Ok.bytes.items in
    record {
      bytes = bytes;
      gave = c.in-Ok.ensures.gave;
      whole = λ reads within. c.in-Ok.ensures.ended;
      holds = given_heard (g.G.Gate.hears c.args.gate.now) (invocation_view c.args.invocation.now) bytes (c.requires (Some bytes)) (c.serve_input.ensures.heard ran);
    }
