use Rattle.report_laws.proofs.VersionLemmas.{versions_dumped}
use Rattle.report_laws.proofs.versions_can_be_dumped.Goals as goal

pub returns : goal.returns
returns c = versions_dumped
