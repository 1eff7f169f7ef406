use Rattle.std.proofs.Common.{arith}
use Rattle.zone_diff.proofs.CountLemmas.{difference_few, blocks_few}
use Rattle.zone_diff.proofs.ReadCounts.{zone_few}
use Rattle.zone_diff.proofs.laws.differences_are_few.Goals as goal

pub returns : goal.returns
returns c = record {
  operations = λ mode origin m n lines lines' before after h e f. omega (arith, difference_few mode origin before after h, zone_few m origin lines before e, zone_few n origin lines' after f);
  transactions = blocks_few;
}
