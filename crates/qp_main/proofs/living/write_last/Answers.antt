use Rattle.std.proofs.Common.{rules, ◌≡◌, ◌++◌, List, ℕ, inl, codes, subst, sym}
use Rattle.std.specs.Fmt.{decimal}
use Rattle.job_report.specs.Pieces.{pieces_text}
use Rattle.live_session.specs.declared.early.EarlyEnd.{EarlyEnd}
use Rattle.qp_main.specs.Due.{refusal_text, zone_kind_text}
use Rattle.qp_main.specs.Sessions.{EndsBy, WroteLine}
use Rattle.qp_main.specs.declared.status.Status.TheVariants as status
use Rattle.qp_main.proofs.SessionLemmas.{wrote_by}
use Rattle.qp_main.proofs.living.write_last.Goals as goal

pub returns-in-ZoneRefused-clause-ends : goal.returns-in-ZoneRefused-clause-ends
returns-in-ZoneRefused-clause-ends g c =
    let before = g.K.Sink.held c.args.sink.now in
    let after = g.K.Sink.held c.write_due.new.sink in
    let same : c.as_slice.result.now ≡ refusal_text (codes "zone") c.in-ZoneRefused.refusal.line (zone_kind_text c.in-ZoneRefused.refusal.kind) = search (rules, c.as_slice.ensures, c.zone_refused-line.ensures) in
    let wrote : WroteLine status.ZoneRefused c.as_slice.result.now before after c.write_due.result =
    wrote_by status.ZoneRefused c.write_due.result c.as_slice.result.now before after c.write_due.ensures.whole c.write_due.ensures.front c.write_due.ensures.only in
    subst (λ (e : EarlyEnd). EndsBy e before after c.write_due.result) (sym c.in-ZoneRefused.is) (subst (λ (t : List ℕ). WroteLine status.ZoneRefused t before after c.write_due.result) same wrote)

pub returns-in-Ok-clause-ends : goal.returns-in-Ok-clause-ends
returns-in-Ok-clause-ends g c =
    let before = g.K.Sink.held c.args.sink.now in
    let after = g.K.Sink.held c.write_answer.new.sink in
    let same : pieces_text c.in-Ok.text ≡ codes "zone does not fit: " ++ decimal c.in-DoesNotFit.cells ++ codes " cells over " ++ decimal c.in-DoesNotFit.limit ++ codes "\n" = search (rules, c.in-Ok.ensures) in
    let wrote : WroteLine status.DoesNotFit (pieces_text c.in-Ok.text) before after c.write_answer.result =
    wrote_by status.DoesNotFit c.write_answer.result (pieces_text c.in-Ok.text) before after c.write_answer.ensures.whole c.write_answer.ensures.front c.write_answer.ensures.only in
    subst (λ (e : EarlyEnd). EndsBy e before after c.write_answer.result) (sym c.in-DoesNotFit.is) (inl (subst (λ (t : List ℕ). WroteLine status.DoesNotFit t before after c.write_answer.result) same wrote))

pub returns-in-LineTooLong-clause-ends : goal.returns-in-LineTooLong-clause-ends
returns-in-LineTooLong-clause-ends g c =
    let step = c.write_due-in-LineTooLong in
    let before = g.K.Sink.held c.args.sink.now in
    let after = g.K.Sink.held step.new.sink in
    let wrote : WroteLine status.TooLong (codes "line over 16777216 bytes\n") before after step.result =
    wrote_by status.TooLong step.result (codes "line over 16777216 bytes\n") before after step.ensures.whole step.ensures.front step.ensures.only in
    subst (λ (e : EarlyEnd). EndsBy e before after step.result) (sym c.in-LineTooLong.is) wrote
