use Rattle.rr_data.proofs.PrintedTypeLemmas.{type_back}
use Rattle.rr_data.proofs.laws.printed_types_read_back.Goals as goal

pub returns : goal.returns
returns c = λ n h. type_back n h
