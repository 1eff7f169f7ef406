use Rattle.std.proofs.Common.{subst}
use Rattle.trie_model.specs.Keys.{Entry}
use Rattle.qp_multi.specs.Changes.{LeadsItem}
use Rattle.qp_multi.proofs.AttemptLaws.{if_ok}
use Rattle.qp_multi.proofs.ChangeLaws.{rooted_inserted, rooted_exchanged, rooted_deleted}
use Rattle.qp_multi.proofs.change.change_trie.Goals as goal

pub insert-requires : goal.insert-requires
insert-requires g c = let rooted = c.requires.rooted in record { stands = (rooted.0, rooted.1.stands, rooted.1.tells); leads = subst LeadsItem c.in-Insert.is c.requires.leads; ready = c.requires.ready }

pub replace-requires : goal.replace-requires
replace-requires g c = let rooted = c.requires.rooted in record { stands = (rooted.0, rooted.1.stands, rooted.1.tells); leads = subst LeadsItem c.in-Replace.is c.requires.leads; ready = c.requires.ready }

pub delete-requires : goal.delete-requires
delete-requires g c = let rooted = c.requires.rooted in record { stands = (rooted.0, rooted.1.stands, rooted.1.tells); ready = c.requires.ready }

pub returns-in-Insert-clause-done : goal.returns-in-Insert-clause-done
returns-in-Insert-clause-done g c =
    let e : Entry = record { key = c.in-Insert.key.now; item = c.in-Insert.item.now } in
    let leads = subst LeadsItem c.in-Insert.is c.requires.leads in
    rw c.in-Insert.is (if_ok _ _ c.insert.result
    (λ new made es is. rooted_inserted (g.C.CellRead.has c.args.cells.now) (g.C.CellRead.has c.insert.new.cells) c.args.usage.now c.insert.new.usage c.args.root new es is e leads (made es is.stands is.tells)) c.insert.ensures.inserted)

pub returns-in-Replace-clause-done : goal.returns-in-Replace-clause-done
returns-in-Replace-clause-done g c =
    let e : Entry = record { key = c.in-Replace.key.now; item = c.in-Replace.item.now } in
    let leads = subst LeadsItem c.in-Replace.is c.requires.leads in
    rw c.in-Replace.is (if_ok _ _ c.replace.result
    (λ new made es is. rooted_exchanged (g.C.CellRead.has c.args.cells.now) (g.C.CellRead.has c.replace.new.cells) c.args.usage.now c.replace.new.usage c.args.root new es is e leads (made es is.stands is.tells)) c.replace.ensures.replaced)

pub returns-in-Delete-clause-done : goal.returns-in-Delete-clause-done
returns-in-Delete-clause-done g c = rw c.in-Delete.is (if_ok _ _ c.delete.result
    (λ new made es is. rooted_deleted (g.C.CellRead.has c.args.cells.now) (g.C.CellRead.has c.delete.new.cells) c.args.usage.now c.delete.new.usage c.args.root new es is c.in-Delete.key.now (made es is.stands is.tells)) c.delete.ensures.deleted)

pub returns-in-Insert-clause-refused : goal.returns-in-Insert-clause-refused
returns-in-Insert-clause-refused g c es is = rw c.in-Insert.is (c.insert.ensures.exists es is.stands is.tells)

pub returns-in-Replace-clause-refused : goal.returns-in-Replace-clause-refused
returns-in-Replace-clause-refused g c es is = rw c.in-Replace.is (c.replace.ensures.absent es is.stands is.tells)

pub returns-in-Delete-clause-refused : goal.returns-in-Delete-clause-refused
returns-in-Delete-clause-refused g c es is = rw c.in-Delete.is (c.delete.ensures.absent es is.stands is.tells)

pub returns-in-Insert-clause-stays : goal.returns-in-Insert-clause-stays
returns-in-Insert-clause-stays g c = rw c.in-Insert.is c.insert.ensures.stays

pub returns-in-Insert-clause-changes : goal.returns-in-Insert-clause-changes
returns-in-Insert-clause-changes g c = let changes = c.insert.ensures.changes in record { consumes = rw c.in-Insert.is changes.consumes; frame = changes.frame; ready = changes.ready }

pub returns-in-Replace-clause-stays : goal.returns-in-Replace-clause-stays
returns-in-Replace-clause-stays g c = rw c.in-Replace.is c.replace.ensures.stays

pub returns-in-Replace-clause-changes : goal.returns-in-Replace-clause-changes
returns-in-Replace-clause-changes g c = let changes = c.replace.ensures.changes in record { consumes = rw c.in-Replace.is changes.consumes; frame = changes.frame; ready = changes.ready }

pub returns-in-Delete-clause-stays : goal.returns-in-Delete-clause-stays
returns-in-Delete-clause-stays g c = rw c.in-Delete.is c.delete.ensures.stays

pub returns-in-Delete-clause-changes : goal.returns-in-Delete-clause-changes
returns-in-Delete-clause-changes g c = let changes = c.delete.ensures.changes in record { consumes = rw c.in-Delete.is changes.consumes; frame = changes.frame; ready = changes.ready }
