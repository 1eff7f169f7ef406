use Rattle.zone_diff.proofs.BlockLaws.{sizes, all_taken, stops}
use Rattle.zone_diff.proofs.laws.differences_in_transactions.Goals as goal

pub returns : goal.returns
returns c = record { sizes = sizes; every = all_taken; zones = stops }
