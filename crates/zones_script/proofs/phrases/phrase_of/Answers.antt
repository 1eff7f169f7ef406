use Rattle.zones_script.proofs.phrases.phrase_of.Goals as goal
use Rattle.job_script.proofs.PhraseLemmas.{first_placed, rest_placed}

pub argued-requires-clause-first : goal.argued-requires-clause-first
argued-requires-clause-first c =
    first_placed c.args.bytes.now c.in_ok-word.arguments.now c.in-Some.first.now c.in-Some.rest.now c.in-Some.ensures.cases.0
    (rest_placed c.args.bytes.now c.args.tokens.now c.in_ok-word.word.now c.in_ok-word.arguments.now c.in_ok-word.ensures.cases.0 c.requires)

pub argued-requires-clause-rest : goal.argued-requires-clause-rest
argued-requires-clause-rest c =
    rest_placed c.args.bytes.now c.in_ok-word.arguments.now c.in-Some.first.now c.in-Some.rest.now c.in-Some.ensures.cases.0
    (rest_placed c.args.bytes.now c.args.tokens.now c.in_ok-word.word.now c.in_ok-word.arguments.now c.in_ok-word.ensures.cases.0 c.requires)
