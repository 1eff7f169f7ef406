use Rattle.rr_data.proofs.PrintedLemmas.{number_back, time_back}
use Rattle.rr_data.proofs.laws.printed_numbers_read_back.Goals as goal

pub returns-clause-numbers : goal.returns-clause-numbers
returns-clause-numbers c = λ most n h le. number_back most n h le

pub returns-clause-times : goal.returns-clause-times
returns-clause-times c = λ n h. time_back n h
