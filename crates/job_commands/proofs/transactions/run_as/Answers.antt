use Rattle.std.proofs.Common.{rules, ◌∙◌, ◌+◌, ◌*◌, Ok, Err, refl, ap}
use Rattle.job_script.specs.Views.{asked_view}
use Rattle.qp_multi.specs.Passes.{known_at}
use Rattle.zone_edit.specs.Blocks.{Executes}
use Rattle.qp_multi.proofs.CallLaws.{begun_of, parts_of}
use Rattle.zone_edit.proofs.WayLaws.{there_in_order}
use Rattle.job_commands.proofs.ShowLaws.{seat_told}
use Rattle.job_commands.proofs.BlockLaws.{begun_works, after_works, after_lawful, edits_as, committed_ran, rollback_ran, stopped_ran, ran_as, result_as, committed_as, stopped_as, stopped_wants, wants_as, has_passes, full_chunks}
use Rattle.job_commands.proofs.transactions.run_as.Goals as goal

pub edit-requires : goal.edit-requires
edit-requires g c = begun_works (known_at c.args.pass.now.seat) c.begin-transaction.result.locked.now.working c.begin-transaction.ensures.begins

pub commit-requires-clause-works : goal.commit-requires-clause-works
commit-requires-clause-works g c =
    after_works (known_at c.args.pass.now.seat) c.begin-transaction.result.locked.now.working c.begin-transaction.ensures.begins c.args.origin.now (asked_view c.args.block.now) c.edit.new.transaction.locked.now.working c.in_default.ensures.executes

pub commit-requires-clause-lawful : goal.commit-requires-clause-lawful
commit-requires-clause-lawful g c =
    after_lawful (known_at c.args.pass.now.seat) c.begin-transaction.result.locked.now.working c.begin-transaction.ensures.begins c.args.origin.now (asked_view c.args.block.now) c.edit.new.transaction.locked.now.working c.in_default.ensures.executes
    (seat_told c.args.pass.now.seat c.requires.pass.here) c.requires.may.opens c.requires.may.said

pub returns-in-Commit-clause-runs : goal.returns-in-Commit-clause-runs
returns-in-Commit-clause-runs g c = record {
  ends = c.committed.ensures.ends;
  ran = λ s opened_with.
      let ended = parts_of g.K.Kind.MOST_SPARSE c.commit.new.self.0.seat c.edit.new.transaction.locked.now.working c.commit.result c.commit.ensures.ends in
      ran_as s _ _ _ (known_at c.commit.new.self.0.seat) _ _
      (committed_ran s (asked_view c.args.block.now) c.args.block.now.ending (known_at c.args.pass.now.seat) c.committed.result c.begin-transaction.result.locked.now.working c.edit.new.transaction.locked.now.working
      (seat_told c.args.pass.now.seat c.requires.pass.here) opened_with.opening c.begin-transaction.ensures.begins c.commit.new.self.0.seat c.commit.result
      (edits_as c.args.origin.now s.origin (asked_view c.args.block.now) (asked_view c.args.block.now) (Ok tt) c.begin-transaction.result.locked.now.working c.edit.new.transaction.locked.now.working opened_with.index.origin_is refl c.in_default.ensures.executes)
      c.in-Commit.is ended.commits ended.version ended.back ended.spent ended.last c.committed.ensures.made c.committed.ensures.spent)
      (search rules);
  wants = λ s opened_with. tt;
}

pub returns-in-Commit-clause-kind : goal.returns-in-Commit-clause-kind
returns-in-Commit-clause-kind g c =
    committed_as c.args.origin.now (asked_view c.args.block.now) g.K.Kind.OWN_CHUNK g.K.Kind.MOST_SPARSE (known_at c.args.pass.now.seat) (known_at c.commit.new.self.0.seat) _ c.committed.result c.begin-transaction.result.locked.now.working c.edit.new.transaction.locked.now.working (search rules)
    c.begin-transaction.ensures.begins (begun_of _ _ _ c.begin-transaction.result.locked.now.working c.begin-transaction.ensures.kind).starts c.in_default.ensures.executes c.commit.result
    (parts_of g.K.Kind.MOST_SPARSE c.commit.new.self.0.seat c.edit.new.transaction.locked.now.working c.commit.result c.commit.ensures.ends).receipt c.committed.ensures.spent

pub returns-clause-kind : goal.returns-clause-kind
returns-clause-kind g c = λ made. absurd cc

pub returns-in-Err-clause-kind : goal.returns-in-Err-clause-kind
returns-in-Err-clause-kind g c = stopped_as g.K.Kind.OWN_CHUNK g.K.Kind.MOST_SPARSE (known_at c.args.pass.now.seat) _ c.in-Err.refusal c.kept.result c.version-version.result c.stopped.result c.stopped.ensures.stopped

pub returns-clause-runs : goal.returns-clause-runs
returns-clause-runs g c = record {
  ends = tt;
  ran = λ s opened_with.
      ran_as s _ _ _ (known_at c.drop-transaction-2.new.self.0.seat) _ _
      (rollback_ran s (asked_view c.args.block.now) c.args.block.now.ending (known_at c.args.pass.now.seat) _ c.begin-transaction.result.locked.now.working c.edit.new.transaction.locked.now.working
      (seat_told c.args.pass.now.seat c.requires.pass.here) opened_with.opening c.begin-transaction.ensures.begins c.drop-transaction-2.new.self.0.seat c.version-version.result c.drop-transaction-2.ensures.back c.version-version.ensures refl
      (edits_as c.args.origin.now s.origin (asked_view c.args.block.now) (asked_view c.args.block.now) (Ok tt) c.begin-transaction.result.locked.now.working c.edit.new.transaction.locked.now.working opened_with.index.origin_is refl c.in_default.ensures.executes) c.in-Rollback.is refl)
      (search rules);
  wants = λ s opened_with. tt;
}

pub kept-requires : goal.kept-requires
kept-requires g c = there_in_order c.args.origin.now _ (Executes c.args.origin.now (asked_view c.args.block.now) (Err c.in-Err.refusal)) c.begin-transaction.result.locked.now.working c.edit.new.transaction.locked.now.working c.in-Err.ensures.executes

pub returns-in-Err-clause-runs : goal.returns-in-Err-clause-runs
returns-in-Err-clause-runs g c = record {
  ends = c.stopped.ensures.ends;
  ran = λ s opened_with.
      result_as s _ _ _ (known_at c.drop-transaction.new.self.0.seat) _ _
      (stopped_ran s (asked_view c.args.block.now) c.args.block.now.ending (known_at c.args.pass.now.seat) c.begin-transaction.result.locked.now.working c.edit.new.transaction.locked.now.working
      (seat_told c.args.pass.now.seat c.requires.pass.here) opened_with.opening c.begin-transaction.ensures.begins c.drop-transaction.new.self.0.seat c.version-version.result c.in-Err.refusal c.kept.result c.stopped.result c.kept.ensures c.drop-transaction.ensures.back c.version-version.ensures
      (edits_as c.args.origin.now s.origin (asked_view c.args.block.now) (asked_view c.args.block.now) (Err c.in-Err.refusal) c.begin-transaction.result.locked.now.working c.edit.new.transaction.locked.now.working opened_with.index.origin_is refl c.in-Err.ensures.executes)
      (full_chunks g.N.Named.tables c.args.index.now.place c.edit.new.transaction.locked.now.place s.chunks c.args.index.now.shared.table.shared.table_id c.edit.new.transaction.locked.now.shared.now.table.shared.table_id c.edit.new.transaction.locked.now.working
      c.args.index.now.here c.edit.new.transaction.locked.now.named (c.edit.ensures.of_same.place ∙ c.begin-transaction.ensures.place) (ap (λ n. 4161 + 2048 * n) opened_with.index.chunks ∙ c.args.index.now.shared.wide) c.edit.new.transaction.locked.now.here)
      (has_passes s _ _ opened_with.index.passes (begun_of _ _ _ c.begin-transaction.result.locked.now.working c.begin-transaction.ensures.kind).passes) c.stopped.ensures.stopped)
      (search rules);
  wants = λ s opened_with.
      wants_as s _ _ (known_at c.drop-transaction.new.self.0.seat) _ _
      (stopped_wants s (asked_view c.args.block.now) (known_at c.args.pass.now.seat) c.begin-transaction.result.locked.now.working c.edit.new.transaction.locked.now.working
      (seat_told c.args.pass.now.seat c.requires.pass.here) opened_with.opening c.begin-transaction.ensures.begins c.drop-transaction.new.self.0.seat c.drop-transaction.ensures.back c.version-version.result c.in-Err.refusal c.kept.result c.stopped.result
      (edits_as c.args.origin.now s.origin (asked_view c.args.block.now) (asked_view c.args.block.now) (Err c.in-Err.refusal) c.begin-transaction.result.locked.now.working c.edit.new.transaction.locked.now.working opened_with.index.origin_is refl c.in-Err.ensures.executes) c.stopped.ensures.stopped)
      (search rules);
}
