use Rattle.qp_multi.specs.Passes.{known_at}
use Rattle.job_commands.proofs.CompactionLaws.{compaction_ran, receipt_of}
use Rattle.job_commands.proofs.ShowLaws.{seat_told}
use Rattle.job_commands.proofs.compactions.run_compaction.Goals as goal

pub returns-clause-runs : goal.returns-clause-runs
returns-clause-runs g c =
    let done = c.compact.ensures in
    record {
      ends = c.compacted.ensures.ends;
      ran = λ s opening. compaction_ran s (known_at c.args.pass.now.seat) c.compacted.result (seat_told c.args.pass.now.seat c.requires.pass.here) opening c.compact.new.pass.seat done.home.here c.args.index.now.shared.table.shared.table_id c.args.index.now.shared.table.shared.key.passes c.compact.result
          done.compacts done.back c.compacted.ensures.made c.compacted.ensures.spent;
      moves = λ told. receipt_of c.compact.result _ (c.compacted.ensures.only told) done.compacts;
    }
