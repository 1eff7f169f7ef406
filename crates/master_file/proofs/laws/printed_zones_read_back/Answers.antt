use Rattle.master_file.proofs.PrintedLineLemmas.{zone_back}
use Rattle.master_file.proofs.laws.printed_zones_read_back.Goals as goal

pub returns : goal.returns
returns c = λ rows h apex. zone_back rows apex h
