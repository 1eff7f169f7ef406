use Rattle.std.proofs.Common.{◌≡◌, ◌∙◌, refl, rules, subst}
use Rattle.qp_main.specs.Prelude.{SessionRan, invocation_in}
use Rattle.qp_main.specs.declared.status.Status.{Status}
use Rattle.qp_main.specs.declared.status.Status.TheVariants.{NoMemory, WordsRefused}
use Rattle.qp_main.proofs.SessionLemmas.{says_always, unbegun}
use Rattle.qpzone.specs.Programs.{Ran, words_in}
use Rattle.qpzone.proofs.launch.run_args.Goals as goal

-- nothing was done where the words found no memory
pub returns-in_default : goal.returns-in_default
returns-in_default g c = record {
  ran = (
    NoMemory,
    search rules,
    record {
      whole = λ written. absurd written;
      front = λ short wrote. absurd (wrote refl);
      unwritten = λ _ _. refl;
      session =
          let given = g.S.Source.given c.args.source.now in
          let ended = g.S.Source.ended c.args.source.now in
          let held = g.K.Sink.held c.args.sink.now in
          says_always (invocation_in (words_in c.args.args)) (λ asked origin. SessionRan asked origin given given ended held held NoMemory) (λ asked origin. unbegun asked origin given ended held);
      refused = λ e. absurd (let h : ◌≡◌ {A = Status} NoMemory WordsRefused = e in cc);
    },
  );
}

pub returns : goal.returns
returns g c =
    let ran = c.run-status.ensures in
    let are = c.deref.ensures.value ∙ c.in-Ok.ensures.words in
    record {
      ran = (
        c.run-status.result,
        search rules,
        subst (λ words. Ran words (g.S.Source.given c.args.source.now) (g.S.Source.given c.run-status.new.source) (g.S.Source.ended c.run-status.new.source) (g.K.Sink.held c.args.sink.now) (g.K.Sink.held c.run-status.new.sink) c.run-status.result)
            are (record { whole = ran.given; front = ran.ends.short.given_short; unwritten = ran.ends.unwritten; session = ran.session; refused = ran.ends.words }),
      );
    }
