use Rattle.report_laws.proofs.ChangeLemmas.{whole_dumped}
use Rattle.report_laws.proofs.transactions_keep_zones.Goals as goal

pub returns : goal.returns
returns c = λ origin asked zone next said dumped made. whole_dumped origin asked zone next made dumped said
