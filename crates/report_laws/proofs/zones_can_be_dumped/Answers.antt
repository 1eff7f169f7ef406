use Rattle.report_laws.proofs.ReaderLemmas.{zone_dumped}
use Rattle.report_laws.proofs.zones_can_be_dumped.Goals as goal

pub returns : goal.returns
returns c = λ origin lines zone name octets said. zone_dumped origin lines zone octets name said
