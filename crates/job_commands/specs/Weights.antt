-- As what kind of transaction a block ran, by its weight.
use Rattle.std.specs.Prelude.{◌≡◌, ℕ, Bool, true, false}
use Rattle.job_model.specs.declared.Weight.{Weight}
use Rattle.job_model.specs.declared.Weight.TheVariants.{Light, Heavy}
use Rattle.job_model.specs.Outcomes.{Committed}
use Rattle.job_report.specs.Outcomes.{ended_view}
use Rattle.job_report.specs.declared.outcomes.Outcome.{Outcome}
use Rattle.qp_multi.specs.declared.commit.Receipt.{Receipt}
use Rattle.qp_multi.specs.declared.writer.WorkingVersion.{WorkingVersion}
use Rattle.qp_multi.specs.WorkingVersions.{Begins}
use Rattle.qp_multi.specs.Keepings.{GoesOn}
use Rattle.qp_multi.specs.Kinds.{StartsAs}
use Rattle.qp_multi.specs.Passes.{Known}
use Rattle.qp_multi.specs.Receipts.{Recycles}
use Rattle.job_commands.specs.Histories.{IsLawful}

-- A version was made by a transaction that began a chunk of its own or didn't, and whose commit left so many chunks sparse, as its
-- receipt says.
pub record CommittedAs (own_chunk : Bool) (most_sparse : ℕ) (old new : Known) : Type 0 where
  pub first : WorkingVersion
  pub begins : Begins IsLawful old first
  pub starts : StartsAs own_chunk first.usage
  pub last : WorkingVersion
  pub goes_on : GoesOn first.seat.place.me.0 last.seat.place.me.0
  pub receipt : Receipt
  pub recycles : Recycles most_sparse last new receipt

abbrev pub RanAs : Bool → ℕ → Known → Known → Outcome → Type 0
RanAs own_chunk most_sparse old new o = ended_view o.told ≡ Committed → CommittedAs own_chunk most_sparse old new

-- what a light block writes goes on in the bump chunk, and its commit leaves 8 chunks sparse; a heavy one begins a chunk, and leaves none
abbrev pub RanByWeight : Weight → Known → Known → Outcome → Type 0
RanByWeight Light = RanAs false 8
RanByWeight Heavy = RanAs true 0
