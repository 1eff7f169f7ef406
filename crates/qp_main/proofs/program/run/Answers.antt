use Rattle.std.proofs.Common.{rules, ℕ, Option, None, ap, codes, map, refl, subst, sym}
use Rattle.zone_model.specs.Names.{Name}
use Rattle.std.specs.Option.{option_map}
use Rattle.std.specs.String.{string_bytes}
use Rattle.command_line.specs.Invocations.{IsUnder}
use Rattle.command_line.specs.Words.{invocation_of}
use Rattle.command_line.specs.Views.{invocation_view, verb_view}
use Rattle.command_line.proofs.OriginLemmas.{AllUnder, words_under}
use Rattle.qp_main.specs.declared.status.Status.TheVariants as status
use Rattle.qp_main.specs.Due.{Due}
use Rattle.qp_main.specs.Heard.{HasRun}
use Rattle.qp_main.specs.Sessions.{SessionRan}
use Rattle.qp_main.proofs.GivenLemmas.{unread_given}
use Rattle.qp_main.proofs.HeardLemmas.{run_written}
use Rattle.qp_main.proofs.DueLemmas.{nothing_yet, short_is, some_words}
use Rattle.qp_main.proofs.SessionLemmas.{says_always, unbegun}
use Rattle.qp_main.proofs.program.run.Goals as goal

-- ---- words that are no command line

pub returns-in-Ok-None-clause-ends : goal.returns-in-Ok-None-clause-ends
returns-in-Ok-None-clause-ends g c = record {
  short = record {
    cut_short = λ short. record {
      status = status.WordsRefused;
      text = codes "words refused\n";
      is_due = search rules;
      grew = search (rules, c.write_due.ensures.front (short_is _ c.write_due.result short c.write_due.ensures.only.1));
    };
    given_short = λ short some.
        let says = rw c.in-Ok-None.field-0-is at c.in-Ok-None.ensures.says in
        rw (← says) (unread_given None _ _ _ (λ reads. reads) (record {
          status = status.WordsRefused;
          text = codes "words refused\n";
          is_due = (refl, refl);
          grew = search (rules, c.write_due.ensures.front (short_is _ c.write_due.result short c.write_due.ensures.only.1));
        }));
  };
  sink = search rules;
  source = search rules;
  unwritten = search rules;
  unread = search rules;
  words = search rules;
  made = search rules;
  load = search rules;
  taken = search rules;
}

pub returns-in-Ok-None-clause-given : goal.returns-in-Ok-None-clause-given
returns-in-Ok-None-clause-given g c = λ w.
    let says = rw c.in-Ok-None.field-0-is at c.in-Ok-None.ensures.says in
    let whole = c.write_due.ensures.whole w in
    rw (← says) (unread_given None _ _ _ (λ reads. reads) (record { text = codes "words refused\n"; is_due = (whole.0, refl); grew = search (rules, whole.1) }))

pub returns-in-Ok-None-clause-heard : goal.returns-in-Ok-None-clause-heard
returns-in-Ok-None-clause-heard g c = λ ran. absurd (subst HasRun (c.write_due.ensures.whole (run_written c.write_due.result ran)).0 ran)

pub returns-in-Ok-None-clause-session : goal.returns-in-Ok-None-clause-session
returns-in-Ok-None-clause-session g c =
    let says = rw c.in-Ok-None.field-0-is at c.in-Ok-None.ensures.says in
    rw (← says) tt

-- ---- an invocation

pub serve_invocation-requires : goal.serve_invocation-requires
serve_invocation-requires g c =
    let under : IsUnder (verb_view c.in-Ok-Some.invocation.verb) c.in-Ok-Some.invocation.origin =
    subst AllUnder (ap (option_map invocation_view) c.in-Ok-Some.field-0-is) (subst AllUnder (sym c.in-Ok-Some.ensures.says) (words_under (map string_bytes c.args.words.now))) in
    search (rules, under)

pub returns-in-Ok-Some-clause-written : goal.returns-in-Ok-Some-clause-written
returns-in-Ok-Some-clause-written g c =
    let says = rw c.in-Ok-Some.field-0-is at c.in-Ok-Some.ensures.says in
    rw (← says) c.serve_invocation.ensures.due.written

pub returns-in-Ok-Some-clause-given : goal.returns-in-Ok-Some-clause-given
returns-in-Ok-Some-clause-given g c =
    let says = rw c.in-Ok-Some.field-0-is at c.in-Ok-Some.ensures.says in
    rw (← says) c.serve_invocation.ensures.due.given

pub returns-in-Ok-Some-clause-ends : goal.returns-in-Ok-Some-clause-ends
returns-in-Ok-Some-clause-ends g c =
    let says = rw c.in-Ok-Some.field-0-is at c.in-Ok-Some.ensures.says in
    rw (← says) c.serve_invocation.ensures.ends

pub returns-in-Ok-Some-clause-heard : goal.returns-in-Ok-Some-clause-heard
returns-in-Ok-Some-clause-heard g c =
    let says = rw c.in-Ok-Some.field-0-is at c.in-Ok-Some.ensures.says in
    rw (← says) c.serve_invocation.ensures.heard

pub returns-in-Ok-Some-clause-session : goal.returns-in-Ok-Some-clause-session
returns-in-Ok-Some-clause-session g c =
    let says = rw c.in-Ok-Some.field-0-is at c.in-Ok-Some.ensures.says in
    rw (← says) c.serve_invocation.ensures.session

-- ---- no memory for the words

pub returns-in-Err-clause-ends : goal.returns-in-Err-clause-ends
returns-in-Err-clause-ends g c = record {
  short = record {
    cut_short = λ streamed.
        let o = invocation_of (map string_bytes c.args.words.now) in
        let left = g.S.Source.left c.args.source.now in
        nothing_yet (Due o left) (g.K.Sink.held c.args.sink.now) (some_words o left streamed);
    given_short = search rules;
  };
  sink = search rules;
  source = search rules;
  unwritten = search rules;
  unread = search rules;
  words = search rules;
  made = search rules;
  load = search rules;
  taken = search rules;
}

pub returns-in-Err-clause-session : goal.returns-in-Err-clause-session
returns-in-Err-clause-session g c =
    let given = g.S.Source.given c.args.source.now in
    let ended = g.S.Source.ended c.args.source.now in
    let held = g.K.Sink.held c.args.sink.now in
    says_always (invocation_of (map string_bytes c.args.words.now)) (λ (asked : Option ℕ) (origin : Name). SessionRan asked origin given given ended held held status.NoMemory) (λ asked origin. unbegun asked origin given ended held)
