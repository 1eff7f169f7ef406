-- Differences that are cut, as into transactions.
use Rattle.std.specs.Prelude.{◌≡◌, List, Ok}
use Rattle.zone_model.specs.Names.{Name}
use Rattle.zone_model.specs.Versions.{Version, Operation, all_applied}
use Rattle.master_file.specs.Rows.{CanBeDumped}

-- what stands before the cut is taken and makes a zone, and what stands behind it makes of that the last version
pub record CutAt (origin : Name) (front back : List Operation) (before last middle : Version) : Type 0 where
  pub taken : all_applied origin front before ≡ Ok middle
  pub zone : CanBeDumped origin middle
  pub on : all_applied origin back middle ≡ Ok last
