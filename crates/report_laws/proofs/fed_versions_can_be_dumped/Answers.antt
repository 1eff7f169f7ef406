use Rattle.report_laws.proofs.VersionLemmas.{fed_versions_dumped}
use Rattle.report_laws.proofs.fed_versions_can_be_dumped.Goals as goal

pub returns : goal.returns
returns c = fed_versions_dumped
