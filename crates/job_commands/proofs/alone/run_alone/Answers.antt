use Rattle.std.proofs.Common.{◌∙◌, sym, subst}
use Rattle.job_script.specs.Views.{asked_view}
use Rattle.job_report.proofs.ReportLemmas.{if_ok}
use Rattle.qp_multi.specs.Passes.{known_at}
use Rattle.job_commands.specs.Commands.{Asked}
use Rattle.job_commands.specs.Steps.{MovedAt}
use Rattle.job_commands.proofs.WorkerPassesLaws.{ask_done, block_done, compact_done, if_both, step_is}
use Rattle.job_commands.proofs.alone.run_alone.Goals as goal

pub returns-in-Ask-clause-steps : goal.returns-in-Ask-clause-steps
returns-in-Ask-clause-steps g c = λ s opened_with spare held placed under.
    let old = c.args.pass.now.seat in
    let new = c.run_question.new.pass.seat in
    let question = c.in-Ask.question in
    if_ok c.run_question.result
    (λ o a. step_is s o _ _ c.args.entered.command.now _ (sym c.command.ensures ∙ c.in-Ask.is)
    (ask_done s o old c.requires.pass.here opened_with.opening spare held placed under new question (subst (λ n. Asked n question (known_at old) (known_at new) o) (sym opened_with.index.origin_is) a)))
    c.run_question.ensures.asked

pub returns-in-Block-clause-steps : goal.returns-in-Block-clause-steps
returns-in-Block-clause-steps g c = λ s opened_with spare held placed under.
    let block = c.in-Block.block in
    if_both c.run_block.result
    (λ o ends ran. step_is s o _ _ c.args.entered.command.now _ (sym c.command.ensures ∙ c.in-Block.is)
    (block_done s o c.args.pass.now.seat c.requires.pass.here opened_with.opening spare held placed under c.run_block.new.pass.seat block.weight (asked_view block) block.ending ends ran))
    c.run_block.ensures.runs.ends (c.run_block.ensures.runs.ran s opened_with)

pub returns-in-Compact-clause-steps : goal.returns-in-Compact-clause-steps
returns-in-Compact-clause-steps g c = λ s opened_with spare held placed under.
    let table = c.args.index.now.shared.table.shared.table_id in
    step_is s c.run_compaction.result _ _ c.args.entered.command.now _ (sym c.command.ensures ∙ c.in-Compact.is)
    (compact_done s c.run_compaction.result c.args.pass.now.seat c.requires.pass.here opened_with.opening spare held placed under c.run_compaction.new.pass.seat c.run_compaction.ensures.runs.ends
    (λ is. (table, subst (λ n. MovedAt table n (known_at c.args.pass.now.seat) (known_at c.run_compaction.new.pass.seat)) (sym opened_with.index.passes) (c.run_compaction.ensures.runs.moves is))) (c.run_compaction.ensures.runs.ran s opened_with.opening))
