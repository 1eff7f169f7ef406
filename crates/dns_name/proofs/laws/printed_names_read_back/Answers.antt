use Rattle.dns_name.proofs.PrintedLemmas.{name_of-text_of}
use Rattle.dns_name.proofs.laws.printed_names_read_back.Goals as goal

pub returns : goal.returns
returns c = name_of-text_of c.args.name.now c.args.origin.now c.wire.ensures.name
