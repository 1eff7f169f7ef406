use Rattle.std.proofs.Common.{rules, ◌≡◌, ◌∙◌, refl, sym, ap, subst}
use Rattle.std.specs.Prelude.{IsTrue}
use Rattle.job_commands.specs.Histories.{StandsAs}
use Rattle.trie_write.specs.Entries.{entries_of_items}
use Rattle.live_session.proofs.LiveLaws.{chunks_of, may_talk, no_memory, read_of, refused_of, starts_on, zone_ended}
use Rattle.live_session.specs.Ends.{EndedSo}
use Rattle.live_session.proofs.ErrorLaws.{passed}
use Rattle.live_session.proofs.ReadingLaws.{entries_rise}
use Rattle.live_session.proofs.StartLaws.{starts_as}
use Rattle.live_session.proofs.ServedLaws.{ended_so}
use Rattle.live_session.proofs.serving.live_on.Goals as goal

pub zone_size-requires : goal.zone_size-requires
zone_size-requires g c = entries_rise c.args.origin.now c.in-Ok.zone.pairs c.in-Ok.ensures.of_origin

pub serve_named-requires : goal.serve_named-requires
serve_named-requires g c = record {
  named = search rules;
  passes = search rules;
  zone = record {
    version = c.in-Ok.zone.pairs;
    stands = record { valid = c.in_ok-items.ensures.version; entries = search (rules, c.in_ok-items.ensures, c.deref-2.ensures.value) };
    zone = c.in-Ok.ensures.of_origin;
  };
  first = search rules;
  few = search rules;
  may = λ goes_on.
      let took = c.requires.took in
      let stands : StandsAs (entries_of_items c.deref-2.result.now) c.in-Ok.zone.pairs = search (rules, c.in_ok-items.ensures, c.deref-2.ensures.value) in
      (_, starts_as (sym c.in_ok-blank.ensures.chunks) (starts_on c.args.asked c.args.origin.now took.1 (g.K.Sink.held c.args.sink.now) _ _ (read_of c.args.origin.now c.deref.ensures.value c.in-Ok.ensures.zone) (chunks_of c.args.asked c.chunks_for-chunks.result (c.cells.ensures _ c.in_ok-size.ensures) c.chunks_for-chunks.ensures.chunks) _ _ stands refl), may_talk c.args.asked c.args.origin.now took.1 (g.K.Sink.held c.args.sink.now) _ _ (read_of c.args.origin.now c.deref.ensures.value c.in-Ok.ensures.zone) (chunks_of c.args.asked c.chunks_for-chunks.result (c.cells.ensures _ c.in_ok-size.ensures) c.chunks_for-chunks.ensures.chunks) g.T.Talk.is_settled goes_on took.2);
}

pub returns-clause-ended_so : goal.returns-clause-ended_so
returns-clause-ended_so g c = λ before t.
    let stands : StandsAs (entries_of_items c.deref-2.result.now) c.in-Ok.zone.pairs = search (rules, c.in_ok-items.ensures, c.deref-2.ensures.value) in
    ended_so c.args.asked c.args.origin.now _ _ _ (read_of c.args.origin.now c.deref.ensures.value c.in-Ok.ensures.zone) (chunks_of c.args.asked c.chunks_for-chunks.result (c.cells.ensures _ c.in_ok-size.ensures) c.chunks_for-chunks.ensures.chunks) before _ _ _ _ _ _ c.args.intake.now t c.serve_named.result
    (λ e. let u = c.serve_named.ensures.reads.unread e in (ap g.T.Talk.given u.0, subst (λ x. IsTrue (g.T.Talk.ended x)) (sym u.0) (t.told e), u.1))
    (c.serve_named.ensures.served _ (starts_as (sym c.in_ok-blank.ensures.chunks) (starts_on c.args.asked c.args.origin.now t (g.K.Sink.held c.args.sink.now) _ _ (read_of c.args.origin.now c.deref.ensures.value c.in-Ok.ensures.zone) (chunks_of c.args.asked c.chunks_for-chunks.result (c.cells.ensures _ c.in_ok-size.ensures) c.chunks_for-chunks.ensures.chunks) _ _ stands refl)))

pub returns-in-Err-clause-ended_so : goal.returns-in-Err-clause-ended_so
returns-in-Err-clause-ended_so g c = λ before t. zone_ended c.args.asked c.args.origin.now t (g.K.Sink.held c.args.sink.now) c.in-Err.refusal c.zone_end.result (refused_of c.in-Err.refusal c.args.origin.now c.deref.ensures.value c.in-Err.ensures.zone) c.zone_end.ensures

pub returns-in_err-size-clause-ended_so : goal.returns-in_err-size-clause-ended_so
returns-in_err-size-clause-ended_so g c = λ before t.
    let m = no_memory c.args.asked c.args.origin.now t (g.K.Sink.held c.args.sink.now) in (m.0, m.1, passed (EndedSo c.args.asked c.args.origin.now m.0 _ _ _) c.from_residual.result _ c.from_residual.ensures.1 m.2)

pub returns-in_err-blank-clause-ended_so : goal.returns-in_err-blank-clause-ended_so
returns-in_err-blank-clause-ended_so g c = λ before t.
    let m = no_memory c.args.asked c.args.origin.now t (g.K.Sink.held c.args.sink.now) in (m.0, m.1, passed (EndedSo c.args.asked c.args.origin.now m.0 _ _ _) c.from_residual-in_err-blank.result _ c.from_residual-in_err-blank.ensures.1 m.2)

pub returns-in_err-items-clause-ended_so : goal.returns-in_err-items-clause-ended_so
returns-in_err-items-clause-ended_so g c = λ before t.
    let m = no_memory c.args.asked c.args.origin.now t (g.K.Sink.held c.args.sink.now) in (m.0, m.1, passed (EndedSo c.args.asked c.args.origin.now m.0 _ _ _) c.from_residual-in_err-items.result _ c.from_residual-in_err-items.ensures.1 m.2)
