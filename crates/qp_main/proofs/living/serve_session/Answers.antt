use Rattle.qp_main.proofs.SessionLemmas.{done_holds, early_holds, not_whole}
use Rattle.qp_main.proofs.living.serve_session.Goals as goal

pub returns-in-Ok-clause-ran : goal.returns-in-Ok-clause-ran
returns-in-Ok-clause-ran g c =
    let e = c.in-Ok.ensures.ended_so in
    record { bytes = e.0; gave = e.1; holds = done_holds c.args.asked.chunks c.args.origin.now e.0 _ _ _ c.in-Ok.refused c.status_of.result c.status_of.ensures e.2; whole = λ w. c.in-Ok.ensures.ended }

pub returns-in-Err-clause-ran : goal.returns-in-Err-clause-ran
returns-in-Err-clause-ran g c =
    let e = c.in-Err.ensures.ended_so in
    let ends = c.write_last.ensures.ends in
    record { bytes = e.0; gave = e.1; holds = early_holds c.args.asked.chunks c.args.origin.now e.0 _ _ _ _ c.in-Err.end c.write_last.result e.2 ends; whole = λ w. absurd (not_whole c.in-Err.end _ _ c.write_last.result ends w) }
