use Rattle.std.proofs.Common.{Some, None}
use Rattle.qp_multi.specs.WorkingVersions.{Works}
use Rattle.zone_answer.proofs.HeldLaws.{fetched, not_fetched}
use Rattle.zone_edit.specs.Stores.{WorksOnSome}
use Rattle.zone_edit.proofs.EditLaws.{some_weaker, read_as, read_within}
use Rattle.zone_edit.proofs.reading.read_owned.Goals as goal

pub fetch-requires-clause-works : goal.fetch-requires-clause-works
fetch-requires-clause-works g c = some_weaker WorksOnSome Works c.args.transaction.now.locked.now.working (λ d w. w.on.works) c.requires.works

pub returns-in-Some-clause-within : goal.returns-in-Some-clause-within
returns-in-Some-clause-within g c =
    read_within c.args.name.now c.args.key.now c.args.item.now c.fetch.new.out (Some c.in-Some.len) c.in-Some.len
    (λ version v f. fetched c.args.name.now version c.args.key.now c.args.item.now c.fetch.new.out c.in-Some.len c.wire-wire.ensures.name v c.requires.key f) c.args.transaction.now.locked.now.working c.requires.works c.in-Some.ensures.item

pub returns-in-Some-clause-read : goal.returns-in-Some-clause-read
returns-in-Some-clause-read g c =
    read_as c.args.name.now c.args.key.now c.args.item.now c.fetch.new.out (Some c.in-Some.len) c.in-Some.len
    (λ version v f. fetched c.args.name.now version c.args.key.now c.args.item.now c.fetch.new.out c.in-Some.len c.wire-wire.ensures.name v c.requires.key f) c.args.transaction.now.locked.now.working c.fetch.new.self.locked.now.working c.fetch.ensures.same c.in-Some.ensures.item

pub returns-in-None-clause-read : goal.returns-in-None-clause-read
returns-in-None-clause-read g c =
    read_as c.args.name.now c.args.key.now c.args.item.now c.fetch.new.out None 0
    (λ version v f. not_fetched c.args.name.now version c.args.key.now c.args.item.now c.fetch.new.out c.requires.key f) c.args.transaction.now.locked.now.working c.fetch.new.self.locked.now.working c.fetch.ensures.same c.in-None.ensures.item
