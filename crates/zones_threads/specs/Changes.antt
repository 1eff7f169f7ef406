-- What is told of a change of the table.
use Rattle.std.specs.Prelude.{ℕ, Option, Some, None, Result, Ok, Err}
use Rattle.qp_multi.specs.declared.commit.Receipt.{Receipt}
use Rattle.zone_table.specs.declared.change.TableRefusal.{TableRefusal}
use Rattle.zone_table.specs.declared.change.TableRefusal.TheVariants as refusal
use Rattle.zones_model.specs.declared.TableCause.{TableCause}
use Rattle.zones_model.specs.declared.TableCause.TheVariants.{Exists, Missing, Spent}

-- the version that it made, or was on
abbrev pub version_told : Result Receipt TableRefusal → ℕ
version_told (Ok receipt) = receipt.version
version_told (Err (refusal.Exists version)) = version
version_told (Err (refusal.Missing version)) = version
version_told (Err (refusal.Spent version)) = version

-- why it was refused, if it was
abbrev pub cause_told : Result Receipt TableRefusal → Option TableCause
cause_told (Ok receipt) = None
cause_told (Err (refusal.Exists version)) = Some Exists
cause_told (Err (refusal.Missing version)) = Some Missing
cause_told (Err (refusal.Spent version)) = Some Spent
