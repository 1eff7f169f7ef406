use Rattle.job_script.proofs.words.pair.Goals as goal
use Rattle.job_script.proofs.PhraseLemmas.{first_placed, rest_placed}

pub returns-clause-placed : goal.returns-clause-placed
returns-clause-placed c = λ bytes all.
    let tokens = c.args.tokens.now in
    let first = c.in_ok-first.first.now in
    let behind = c.in_ok-first.behind.now in
    let split = c.in_ok-first.ensures.cases.0 in
    (first_placed bytes tokens first behind split all, c.in_ok-second.ensures.placed bytes (rest_placed bytes tokens first behind split all))
