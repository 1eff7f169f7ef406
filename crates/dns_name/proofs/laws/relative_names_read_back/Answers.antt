use Rattle.dns_name.proofs.PrintedLemmas.{name_of-relative_text}
use Rattle.dns_name.proofs.laws.relative_names_read_back.Goals as goal

pub returns : goal.returns
returns c = name_of-relative_text c.args.name.now c.args.origin.now c.wire.ensures.name
