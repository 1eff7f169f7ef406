-- A job that octets say has a zone of its origin, and operations as scripts say them.
use Rattle.std.proofs.Common.{◌≡◌, ℕ, List, Ok}
use Rattle.zone_model.specs.Names.{Name, IsName}
use Rattle.job_model.specs.Commands.{FedJob, Job}
use Rattle.job_model.specs.Jobs.{job_of, fed_job_of}
use Rattle.report_laws.specs.Octets.{AllOctets}
use Rattle.report_laws.proofs.VersionLemmas.{job_is, list_is}
use Rattle.need_laws.specs.Bounds.{IsSaidJob, IsSaidList}

pub job_said : (origin : Name) (bytes : List ℕ) (job : Job) → IsName origin → AllOctets bytes → job_of origin bytes ≡ Ok job → IsSaidJob job
job_said origin bytes job name octets e = let read = job_is origin bytes job name octets e in record { zone = read.zone; workers = read.workers }

pub list_said : (origin : Name) (bytes : List ℕ) (job : FedJob) → IsName origin → AllOctets bytes → fed_job_of origin bytes ≡ Ok job → IsSaidList job
list_said origin bytes job name octets e = let read = list_is origin bytes job name octets e in record { zone = read.zone; commands = read.commands }
