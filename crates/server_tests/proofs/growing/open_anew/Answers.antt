use Rattle.std.proofs.Common.{refl}
use Rattle.server_tests.proofs.growing.open_anew.Goals as goal

pub grown-requires-clause-tables : goal.grown-requires-clause-tables
grown-requires-clause-tables g c = refl

pub grown-requires-clause-zones : goal.grown-requires-clause-zones
grown-requires-clause-zones g c = refl
