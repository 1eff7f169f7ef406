use Rattle.std.proofs.Common.{◌∙◌, Err}
use Rattle.qp_multi.specs.Passes.{known_at}
use Rattle.zone_diff.specs.Differences.{difference}
use Rattle.zone_diff.specs.declared.Serial.TheVariants.{Keep}
use Rattle.qp_multi.specs.WorkingVersions.{Begins}
use Rattle.zone_tests.proofs.ReloadLaws.{IsStored, back_ready, begun, done_stored, done_works, replaced_some, same_place, shows_held}
use Rattle.zone_tests.proofs.reloads.Worker.reload.Goals as goal

pub replace_all-requires-clause-works : goal.replace_all-requires-clause-works
replace_all-requires-clause-works g c = begun (known_at c.args.self.now.pass.seat) c.write-write.result.locked.now.working c.write-write.ensures.begins

pub replace_all-requires-clause-shown : goal.replace_all-requires-clause-shown
replace_all-requires-clause-shown g c = shows_held _ _ c.query-version.ensures.reads.holds c.query-version.ensures.pinned.good

pub commit-requires-clause-works : goal.commit-requires-clause-works
commit-requires-clause-works g c =
    let before = shows_held _ _ c.query-version.ensures.reads.holds c.query-version.ensures.pinned.good in
    done_works (known_at c.args.self.now.pass.seat) c.write-write.result.locked.now.working c.write-write.ensures.begins c.args.origin.now (difference Keep before.0 c.args.zone.pairs) c.replace_all.new.transaction.locked.now.working
    (c.in_ok-replace_all.ensures.replaces.differs before.0 before.1)

pub commit-requires-clause-lawful : goal.commit-requires-clause-lawful
commit-requires-clause-lawful g c =
    let before = shows_held _ _ c.query-version.ensures.reads.holds c.query-version.ensures.pinned.good in
    done_stored (known_at c.args.self.now.pass.seat) c.write-write.result.locked.now.working c.write-write.ensures.begins c.args.origin.now (difference Keep before.0 c.args.zone.pairs) c.replace_all.new.transaction.locked.now.working
    (c.in_ok-replace_all.ensures.replaces.differs before.0 before.1)

pub invariant_of-self : goal.invariant_of-self
invariant_of-self g c =
    let before = shows_held _ _ c.query-version.ensures.reads.holds c.query-version.ensures.pinned.good in
    let there = replaced_some (Begins IsStored (known_at c.args.self.now.pass.seat)) c.args.origin.now (difference Keep before.0 c.args.zone.pairs) (Err c.in_err-replace_all.field-0.0) c.write-write.result.locked.now.working c.replace_all.new.transaction.locked.now.working
    c.write-write.ensures.begins (c.in_err-replace_all.ensures.replaces.differs before.0 before.1) in record {
      ready = back_ready c.replace_all.new.transaction.locked.now.working _ there c.drop-write.ensures.back;
      here = same_place c.replace_all.new.transaction.locked.now.working _ _ there c.drop-write.ensures.place ∙ c.replace_all.ensures.of_same.place ∙ c.write-write.ensures.place;
    }
