use Rattle.master_file.proofs.DirectiveLemmas.{dump_back}
use Rattle.master_file.proofs.laws.dumps_read_back.Goals as goal

pub returns : goal.returns
returns c = λ style origin version h. dump_back style origin version h
