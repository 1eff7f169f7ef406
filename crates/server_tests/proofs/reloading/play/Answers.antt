use Rattle.std.proofs.Common.{refl}
use Rattle.server_tests.proofs.reloading.play.Goals as goal

pub beside-requires-clause-tables : goal.beside-requires-clause-tables
beside-requires-clause-tables g c = λ κs within. refl

pub beside-requires-clause-zones : goal.beside-requires-clause-zones
beside-requires-clause-zones g c = λ κs within. refl
