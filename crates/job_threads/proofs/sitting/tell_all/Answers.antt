use Rattle.std.proofs.Common.{◌∙◌, ap, subst}
use Rattle.shared_cells.specs.History.{IsPartOf}
use Rattle.qp_multi.specs.Passes.{Known, known_at}
use Rattle.job_commands.proofs.ShowLaws.{seat_told}
use Rattle.job_commands.proofs.SittingLaws.{sits_still, tells_all}
use Rattle.job_threads.specs.Passes.{holder_of, holds_one, worker_passes_of}
use Rattle.job_threads.proofs.sitting.tell_all.Goals as goal

pub returns-clause-sits : goal.returns-clause-sits
returns-clause-sits g c = λ s commands os w.
    let now = c.account_second.new.passes in
    let second = c.account_second.ensures in
    sits_still s (worker_passes_of c.args.passes.now) commands os (known_at now.asks.seat) (holder_of now) (holds_one now) (ap (λ p. known_at p.seat) second.same ∙ c.note-seen.ensures.same ∙ c.account.ensures.same)
    (ap (λ (v : Known). v.seen) second.accounted.told) (ap (λ (v : Known). v.pass) second.accounted.told) second.stands.held w

pub returns-clause-told : goal.returns-clause-told
returns-clause-told g c = λ s zone commands os index opens w.
    let now = c.account_second.new.passes in
    let second = c.account_second.ensures in
    let known = c.account.ensures.accounted in
    let other = second.accounted.all in
    tells_all s (worker_passes_of c.args.passes.now) commands os w c.args.index.now.shared.table.shared.key.passes index.passes (seat_told c.args.passes.now.asks.seat c.requires.at.here) (known_at now.asks.seat) (holder_of now)
    known.0 other.0 known.1 other.1 (subst (IsPartOf other.0) (c.note-seen.ensures.told ∙ ap (λ (v : Known). v.seen) c.account.ensures.same) other.2)
    (ap (λ p. known_at p.seat) second.same ∙ c.note-seen.ensures.same ∙ c.account.ensures.same) (ap (λ (v : Known). v.pass) second.accounted.told) zone opens
