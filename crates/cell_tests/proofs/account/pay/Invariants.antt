use Rattle.std.proofs.Common.{Some, []}
use Rattle.cell_tests.proofs.account.pay.Given as goal

abbrev pub ghosts-publish : goal.ghosts-publish
ghosts-publish a = record { change = Some a._amount; image = [] }
