use Rattle.std.proofs.Common.{rules, ◌≡◌, subst}
use Rattle.std.specs.Prelude.{IsSome}
use Rattle.qp_multi.specs.Closings.{Ends}
use Rattle.qp_multi.specs.Passes.{known_at}
use Rattle.job_commands.proofs.ShowLaws.{seat_told}
use Rattle.job_commands.proofs.EndLaws.{all_handed, job_ends, with_main}
use Rattle.job_commands.proofs.closing.close_index.Goals as goal

pub close-requires : goal.close-requires
close-requires g c = record { here = all_handed c.push.new.self.items _ _ (λ p. (IsSome p.seat) × (p.place ≡ c.args.index.place)) c.in_ok-push.ensures.items c.requires.here (search rules) }

pub returns : goal.returns
returns g c = λ s zone before ws os gathers counted all opens.
    let ended = c.close.ensures.ends in
    job_ends s before ws os _ (known_at c.args.main.seat) _ c.measure-last.result gathers (seat_told c.args.main.seat c.requires.main.0) c.measure-last.ensures.measured zone _ _ ended.0 opens counted all
    (subst (λ vs. Ends c.args.index.shared.table.shared.key.passes vs c.close.result ended.0) (with_main (λ p. known_at p.seat) c.args.passes.items c.push.new.self.items _ c.in_ok-push.ensures.items) ended.1)
