-- A load as the definitions see it.
use Rattle.job_model.specs.Loads as loads
use Rattle.job_make.specs.declared.load.Load.{Load}
use Rattle.job_make.specs.declared.part.Part.{Part}

abbrev pub load_view : Load → loads.Load
load_view l = record { seed = l.seed; names = l.names; turns = l.turns; workers = l.workers }

abbrev pub part_view : Part → loads.Part
part_view p = record { count = p.count; remainder = p.remainder; workers = p.workers }
