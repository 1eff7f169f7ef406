use Rattle.std.proofs.Common.{refl}
use Rattle.small_server.proofs.run.Goals as goal

pub open_and_serve-requires-clause-tables : goal.open_and_serve-requires-clause-tables
open_and_serve-requires-clause-tables g c = λ κs within. refl

pub open_and_serve-requires-clause-zones : goal.open_and_serve-requires-clause-zones
open_and_serve-requires-clause-zones g c = λ κs within. refl
