use Rattle.master_file.proofs.DirectiveLemmas.{dump_alike}
use Rattle.master_file.proofs.laws.dumps_are_dumped_alike.Goals as goal

pub returns : goal.returns
returns c = λ style again origin version read h e. dump_alike style again origin version read h e
