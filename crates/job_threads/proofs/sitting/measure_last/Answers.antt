use Rattle.std.proofs.Common.{◌∙◌, ap, subst}
use Rattle.shared_cells.specs.History.{IsPartOf}
use Rattle.qp_multi.specs.Passes.{Known, known_at}
use Rattle.job_commands.specs.Endings.{Measured}
use Rattle.job_commands.proofs.ShowLaws.{seat_told}
use Rattle.job_commands.proofs.SittingLaws.{ends_all}
use Rattle.job_threads.specs.Passes.{worker_passes_of}
use Rattle.job_threads.proofs.sitting.measure_last.Goals as goal

pub returns-clause-ends : goal.returns-clause-ends
returns-clause-ends g c = λ s zone commands os index opens w.
    let known = c.account.ensures.accounted in
    let other = c.account_beside.ensures.accounted in
    ends_all s (worker_passes_of c.args.passes.now) commands os w c.args.index.now.shared.table.shared.key.passes index.passes (seat_told c.args.passes.now.asks.seat c.requires.here) (known_at c.measure-last.new.pass.seat) (known_at c.account_beside.new.self.seat) c.measure-last.result
    known.0 other.0 (subst (λ (v : Known). Measured v (known_at c.measure-last.new.pass.seat) c.measure-last.result) (ap (λ p. known_at p.seat) c.take_second-spare.ensures.same) c.measure-last.ensures.measured) known.1 other.1
    (subst (IsPartOf other.0) (c.note-seen.ensures.told ∙ ap (λ (v : Known). v.seen) c.account.ensures.same) other.2)
    (ap (λ (v : Known). v.pass) c.account_beside.ensures.same ∙ c.take_second-spare.ensures.second.pass) zone opens
