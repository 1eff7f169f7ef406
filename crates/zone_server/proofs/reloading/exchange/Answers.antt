use Rattle.std.proofs.Common.{rules, ◌∙◌, ◌+◌, ◌*◌, map, Err, ap, subst, sym}
use Rattle.zone_change.specs.Views.{operation_view}
use Rattle.qp_multi.specs.Passes.{Known, known_at}
use Rattle.zone_diff.specs.Blocks.{changes}
use Rattle.zone_edit.specs.Blocks.{Executes}
use Rattle.qp_multi.proofs.CallLaws.{begun_of, parts_of}
use Rattle.zone_edit.proofs.WayLaws.{there_in_order}
use Rattle.job_commands.proofs.BlockLaws.{after_works, begun_works, full_chunks, has_passes}
use Rattle.job_commands.proofs.ShowLaws.{seat_told}
use Rattle.zone_server.specs.Reloads.{RanOn}
use Rattle.zone_server.specs.declared.reloading.ReloadRefusal.TheVariants as refusal
use Rattle.zone_server.proofs.ReloadLaws.{committed_on, makes_lawful, moved_on, never_refused, stopped_on}
use Rattle.zone_server.proofs.reloading.exchange.Goals as goal

pub execute-requires : goal.execute-requires
execute-requires g c = begun_works (known_at c.args.pass.now.seat) c.update-update.result.locked.now.working c.update-update.ensures.begins

pub returns-then-base-number-clause-ran : goal.returns-then-base-number-clause-ran
returns-then-base-number-clause-ran g c = λ s opened_with.
    let asked = changes (map operation_view c.args.operations.now) in
    let old = known_at c.args.pass.now.seat in
    subst (λ (v : Known). RanOn s asked old v (Err refusal.Moved)) {x = known_at c.drop-update.new.self.0.seat} (search rules)
    (moved_on c.args.origin.now asked old (seat_told c.args.pass.now.seat c.requires.here) c.args.number c.requires.makes c.update-update.result.locked.now.working c.update-update.ensures.begins c.version-base.result c.version-base.ensures
    s opened_with.opening opened_with.index.origin_is c.drop-update.new.self.0.seat c.if-base-number.true c.drop-update.ensures.back)

pub kept-requires : goal.kept-requires
kept-requires g c = there_in_order c.args.origin.now _ (Executes c.args.origin.now (changes (map operation_view c.args.operations.now)) (Err c.in-Err.refusal)) c.update-update.result.locked.now.working c.execute.new.transaction.locked.now.working c.in-Err.ensures.executes

pub stopped-requires : goal.stopped-requires
stopped-requires g c =
    never_refused c.args.origin.now (changes (map operation_view c.args.operations.now)) (known_at c.args.pass.now.seat) (seat_told c.args.pass.now.seat c.requires.here) c.args.number c.requires.makes
    c.update-update.result.locked.now.working c.update-update.ensures.begins c.version-base.result c.version-base.ensures c.execute.new.transaction.locked.now.working c.if-base-number.false c.in-Err.refusal c.in-Err.ensures.executes

pub returns-in-Err-clause-ran : goal.returns-in-Err-clause-ran
returns-in-Err-clause-ran g c = λ s opened_with.
    let asked = changes (map operation_view c.args.operations.now) in
    let old = known_at c.args.pass.now.seat in
    let second = c.execute.new.transaction.locked.now.working in
    subst (λ (v : Known). RanOn s asked old v (Err c.stopped.result)) {x = known_at c.drop-update-in-Err.new.self.0.seat} (search rules)
    (stopped_on c.args.origin.now asked old (seat_told c.args.pass.now.seat c.requires.here) c.args.number c.requires.makes c.update-update.result.locked.now.working c.update-update.ensures.begins c.version-base.result c.version-base.ensures
    s opened_with.opening opened_with.index.origin_is c.drop-update-in-Err.new.self.0.seat second c.if-base-number.false c.drop-update-in-Err.ensures.back c.kept.result c.kept.ensures
    (full_chunks g.N.Named.tables c.args.index.now.place c.execute.new.transaction.locked.now.place s.chunks c.args.index.now.shared.table.shared.table_id c.execute.new.transaction.locked.now.shared.now.table.shared.table_id second
    c.args.index.now.here c.execute.new.transaction.locked.now.named (c.execute.ensures.of_same.place ∙ c.update-update.ensures.place) (ap (λ n. 4161 + 2048 * n) opened_with.index.chunks ∙ c.args.index.now.shared.wide) c.execute.new.transaction.locked.now.here)
    (has_passes s _ _ opened_with.index.passes (begun_of _ _ _ c.update-update.result.locked.now.working c.update-update.ensures.kind).passes) c.in-Err.refusal c.in-Err.ensures.executes c.stopped.result c.stopped.ensures)

pub commit-requires-clause-works : goal.commit-requires-clause-works
commit-requires-clause-works g c =
    after_works (known_at c.args.pass.now.seat) c.update-update.result.locked.now.working c.update-update.ensures.begins c.args.origin.now (changes (map operation_view c.args.operations.now)) c.execute.new.transaction.locked.now.working c.in_default.ensures.executes

pub commit-requires-clause-lawful : goal.commit-requires-clause-lawful
commit-requires-clause-lawful g c =
    makes_lawful c.args.origin.now (changes (map operation_view c.args.operations.now)) (known_at c.args.pass.now.seat) (seat_told c.args.pass.now.seat c.requires.here) c.args.number c.requires.makes
    c.update-update.result.locked.now.working c.update-update.ensures.begins c.version-base.result c.version-base.ensures c.execute.new.transaction.locked.now.working c.if-base-number.false c.requires.opens c.in_default.ensures.executes

pub returns-clause-ran : goal.returns-clause-ran
returns-clause-ran g c = λ s opened_with.
    let asked = changes (map operation_view c.args.operations.now) in
    let old = known_at c.args.pass.now.seat in
    let ended = parts_of 0 c.commit.new.self.0.seat c.execute.new.transaction.locked.now.working c.commit.result c.commit.ensures.ends in
    subst (λ (v : Known). RanOn s asked old v c.committed.result) {x = known_at c.commit.new.self.0.seat} (search rules)
    (subst (RanOn s asked old (known_at c.commit.new.self.0.seat)) (sym c.committed.ensures)
    (committed_on c.args.origin.now asked old (seat_told c.args.pass.now.seat c.requires.here) c.args.number c.requires.makes c.update-update.result.locked.now.working c.update-update.ensures.begins c.version-base.result c.version-base.ensures
    s opened_with.opening opened_with.index.origin_is c.commit.new.self.0.seat c.execute.new.transaction.locked.now.working c.if-base-number.false c.commit.result c.in_default.ensures.executes
    ended.commits ended.version ended.back ended.spent ended.last))
