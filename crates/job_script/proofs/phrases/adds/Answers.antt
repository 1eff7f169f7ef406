use Rattle.std.specs.List.{All}
use Rattle.zone_text.specs.Tokens.{IsPlaced}
use Rattle.job_script.proofs.phrases.adds.Goals as goal
use Rattle.job_script.proofs.PhraseLemmas.{first_placed, rest_placed}

-- src/phrases.rt:70:1
pub returns-clause-placed : goal.returns-clause-placed
returns-clause-placed c =
    let bytes = c.args.bytes.now in
    let ttl = c.in-Some.ttl.now in
    let behind = c.in-Some.behind_ttl.now in
    let rtype = c.in-Some-split_first.rtype.now in
    let rdata = c.in-Some-split_first.rdata.now in
    let behind_placed : All (IsPlaced bytes) behind = rest_placed bytes c.args.rest.now ttl behind c.in-Some.ensures.cases.0 c.requires.rest in (
      c.requires.owner,
      first_placed bytes c.args.rest.now ttl behind c.in-Some.ensures.cases.0 c.requires.rest,
      first_placed bytes behind rtype rdata c.in-Some-split_first.ensures.cases.0 behind_placed,
      rest_placed bytes behind rtype rdata c.in-Some-split_first.ensures.cases.0 behind_placed,
    )
