use Rattle.std.proofs.Common.{refl}
use Rattle.server_tests.proofs.growing.play.Goals as goal

pub grows-requires-clause-tables : goal.grows-requires-clause-tables
grows-requires-clause-tables g c = λ κs within. refl

pub grows-requires-clause-zones : goal.grows-requires-clause-zones
grows-requires-clause-zones g c = λ κs within. refl
