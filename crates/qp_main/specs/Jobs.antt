-- The jobs that are run, made of their parts.
use Rattle.std.specs.Prelude.{List}
use Rattle.zone_model.specs.Names.{Name}
use Rattle.zone_model.specs.MasterFile.{Zone}
use Rattle.zone_model.specs.Versions.{Version}
use Rattle.job_model.specs.Commands.{Command, FedJob, Job}
use Rattle.zones_model.specs.Commands.{Command as ZonesCommand, Job as ZonesJob}

-- the job of workers' commands on a zone of an origin
abbrev pub job_on : Name → Version → List (List Command) → Job
job_on origin zone workers = record { origin = origin; zone = zone; workers = workers }

-- the same of one list of commands
abbrev pub fed_job_on : Name → Version → List Command → FedJob
fed_job_on origin zone commands = record { origin = origin; zone = zone; commands = commands }

-- the same of workers' commands on several zones
abbrev pub zones_job_on : List Zone → List (List ZonesCommand) → ZonesJob
zones_job_on zones workers = record { zones = zones; workers = workers }
