-- Transactions that are asked of a server.
use Rattle.std.specs.Prelude.{◌≡◌}
use Rattle.zone_model.specs.Names.{Name}
use Rattle.zone_model.specs.Transactions.{Transaction}
use Rattle.job_model.specs.declared.Ending.{Ending}
use Rattle.job_model.specs.declared.Ending.TheVariants.{Commit}
use Rattle.report_laws.specs.Changes.{AllSaid}

-- a transaction of the zone of an origin
pub record UpdateView : Type 0 where
  pub origin : Name
  pub asked : Transaction

-- each operation is one that may be asked of the zone, and it is to be committed
pub record IsUpdate (origin : Name) (asked : Transaction) (ending : Ending) : Type 0 where
  pub said : AllSaid origin asked
  pub commits : ending ≡ Commit
