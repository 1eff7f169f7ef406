-- What is so of all that octets say.
use Rattle.std.proofs.Common.{ℕ, List, Result, Ok, Err, IfOk, Vec}
use Rattle.std.specs.Global.{Global}
use Rattle.std.specs.List.{AllByRecursion}
use Rattle.zone_model.specs.Names.{Name, IsName}
use Rattle.zone_model.specs.Lines.{lines_of}
use Rattle.zone_model.specs.MasterFile.{Zone, zone_at}
use Rattle.zone_text.specs.Views.{Reads}
use Rattle.zone_text.specs.declared.refusal.ZoneRefusal.{ZoneRefusal}
use Rattle.master_file.specs.Rows.{CanBeDumped}
use Rattle.job_model.specs.Jobs.{list_of, script_of}
use Rattle.job_script.specs.Scripts.{Says}
use Rattle.job_script.specs.Views.{job_view, list_view}
use Rattle.job_script.specs.declared.commands.Command.{Command}
use Rattle.job_script.specs.declared.commands.Job.{Job}
use Rattle.job_script.specs.declared.refusal.JobRefusal.{JobRefusal}
use Rattle.report_laws.specs.Octets.{AllOctets}
use Rattle.report_laws.specs.Changes.{AllAsked}
use Rattle.report_laws.proofs.ReaderLemmas.{zone_dumped_at}
use Rattle.report_laws.proofs.ScriptLemmas.{scripts_ask, lists_ask}
use Rattle.report_laws.proofs.VersionLemmas.{lines_are}
pub use Rattle.report_laws.proofs.VersionLemmas.{octets_of}

module _ (origin : Name) (bytes : List ℕ) (name : IsName origin) (octets : AllOctets bytes) where
  pub zone_from_said : (first : ℕ) (r : Result Zone ZoneRefusal) → Reads r (λ z. z.pairs) (zone_at first origin (lines_of bytes)) → IfOk r (λ z. CanBeDumped origin z.pairs)
  zone_from_said first (Ok zone) read = zone_dumped_at first origin (lines_of bytes) zone.pairs (lines_are bytes octets) name read
  zone_from_said first (Err refusal) read = tt

  pub job_said : (first : ℕ) (r : Result Job JobRefusal) → Says r job_view (script_of origin first (lines_of bytes)) → IfOk r (λ job. AllByRecursion (AllByRecursion (AllAsked origin)) (job_view job))
  job_said first (Ok job) read = scripts_ask origin first (lines_of bytes) (job_view job) name (lines_are bytes octets) read
  job_said first (Err refusal) read = tt

  pub list_said : (first : ℕ) (r : Result (Vec Command Global) JobRefusal) → Says r list_view (list_of origin first (lines_of bytes)) → IfOk r (λ commands. AllByRecursion (AllAsked origin) (list_view commands))
  list_said first (Ok commands) read = lists_ask origin first (lines_of bytes) (list_view commands) name (lines_are bytes octets) read
  list_said first (Err refusal) read = tt
