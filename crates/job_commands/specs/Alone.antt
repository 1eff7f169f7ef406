-- What one pass of an index runs: what that wants, and what it comes to.
use Rattle.std.specs.Prelude.{◌≡◌, ℕ, Option, Result, IfOk, OnErr}
use Rattle.std.specs.declared.alloc.AllocError.{AllocError}
use Rattle.zone_model.specs.Names.{Name}
use Rattle.zone_model.specs.Transactions.{Transaction}
use Rattle.job_model.specs.Commands.{Command, NeedsNoSnapshot}
use Rattle.job_report.specs.Outcomes.{EndsBlock, EndsCompaction}
use Rattle.job_report.specs.declared.outcomes.Outcome.{Outcome}
use Rattle.job_report.specs.declared.outcomes.Told.TheVariants as told
use Rattle.job_script.specs.declared.commands.Block.{Block}
use Rattle.job_script.specs.declared.commands.Command.TheVariants as command
use Rattle.job_script.specs.declared.commands.Command.{Command as SaidCommand}
use Rattle.job_script.specs.Views.{asked_view}
use Rattle.report_laws.specs.Prelude.{AllAsked, AllSaid}
use Rattle.atomic_table.specs.Seated.{TableId}
use Rattle.shared_cells.specs.declared.view.TableSize.{TableSize}
use Rattle.qp_multi.specs.Passes.{Known, known_at}
use Rattle.job_commands.specs.Commands.{BlockRan, BlockWants, CompactionRan, IsOpenedWith, OpensAt, Seat}
use Rattle.job_commands.specs.Histories.{OpenedWith}
use Rattle.job_commands.specs.Steps.{IsUnder, MovedAt, Step}
use Rattle.job_commands.specs.Weights.{RanByWeight}
use Rattle.job_commands.specs.WorkerPasses.{IsPlaced, Pinned, holder_view, worker_passes}

-- ---- a block

-- The pass knows of an opening whose first name is the origin, and a script may ask for the block.
pub record MayTransact (origin : Name) (asked : Transaction) (v : Known) : Type 0 where
  pub opens : OpensAt origin v
  pub said : AllSaid origin asked

-- how it runs, whatever opening fits the index
pub record RunsBlock (origin : Name) (size : TableSize) (b : Block) (old new : Known) (result : Result Outcome AllocError) : Type 0 where
  -- its outcome is one of a block
  pub ends : IfOk result (λ o. EndsBlock o.told)
  -- it ran as its operations, its prerequisites and its ending say
  pub ran : (s : OpenedWith) → IsOpenedWith s origin size old → IfOk result (BlockRan s (asked_view b) b.ending old new)
  -- or memory was wanting
  pub wants : (s : OpenedWith) → IsOpenedWith s origin size old → OnErr result (BlockWants s (asked_view b) old new)

-- ---- a compaction

pub record RunsCompaction (table : TableId) (passes : ℕ) (old new : Option Seat) (o : Outcome) : Type 0 where
  -- its outcome is one of a compaction
  pub ends : EndsCompaction o.told
  pub ran : CompactionRan (known_at old) (known_at new) o
  -- what lay in sparse chunks was moved, as a receipt of the index says
  pub moves : o.told ≡ told.Compacted → MovedAt table passes (known_at old) (known_at new)

-- ---- a command

-- it needs no snapshot, and may be asked for beside an opening that the pass knows of
pub record MayRunAlone (origin : Name) (c : Command) (v : Known) : Type 0 where
  pub alone : NeedsNoSnapshot c
  pub opens : OpensAt origin v
  pub said : AllAsked origin c

-- it is a step of a worker, wherever the pass of its snapshots is
abbrev pub StepsAlone : Name → TableSize → Command → Option Seat → Option Seat → Result Outcome AllocError → Type 0
StepsAlone origin size c old new result = (s : OpenedWith) → IsOpenedWith s origin size (known_at old)
    → (spare : Option (Option Seat)) (held : Option Pinned) → IsPlaced spare held → IsUnder (known_at old) (holder_view spare held)
    → IfOk result (λ o. Step s c o (worker_passes old spare held) (worker_passes new spare held))

-- a block ran as the kind of transaction that its weight says
abbrev pub RunsByWeight : SaidCommand → Option Seat → Option Seat → Result Outcome AllocError → Type 0
RunsByWeight c old new result = (b : Block) → c ≡ command.Block b → IfOk result (RanByWeight b.weight (known_at old) (known_at new))
