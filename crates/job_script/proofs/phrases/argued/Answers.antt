use Rattle.std.proofs.Common.{rules}
use Rattle.job_script.proofs.phrases.argued.Goals as goal

pub returns-then-says-clause-said : goal.returns-then-says-clause-said
returns-then-says-clause-said c = λ origin. let said = c.adds.ensures.said origin in search (rules, said)

pub returns-then-says-4-clause-said : goal.returns-then-says-4-clause-said
returns-then-says-4-clause-said c = λ origin. let said = c.asks_held.ensures.said origin in search (rules, said)

pub returns-then-says-5-clause-said : goal.returns-then-says-5-clause-said
returns-then-says-5-clause-said c = λ origin. let said = c.needs.ensures.said origin in search (rules, said)

pub returns-then-says-6-clause-said : goal.returns-then-says-6-clause-said
returns-then-says-6-clause-said c = λ origin. let said = c.needs-then-says-6.ensures.said origin in search (rules, said)
