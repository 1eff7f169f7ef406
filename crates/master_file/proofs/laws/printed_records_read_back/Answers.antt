use Rattle.master_file.proofs.PrintedLineLemmas.{row_back}
use Rattle.master_file.proofs.laws.printed_records_read_back.Goals as goal

pub returns : goal.returns
returns c = λ directives first row h apex line rest reader stands knows. row_back directives first row apex line rest reader h stands knows
