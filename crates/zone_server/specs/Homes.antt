-- The zones of a server, as they were opened.
use Rattle.zone_model.specs.Names.{Name}
use Rattle.shared_cells.specs.declared.view.TableSize.{TableSize}
use Rattle.job_commands.specs.Histories.{Entries, OpenedWith}

-- A zone that is served: its origin, how many chunks and passes its index has, and the entries of version 0.
pub record Served : Type 0 where
  pub origin : Name
  pub size : TableSize
  pub opening : Entries

-- the same in the words of commands
abbrev pub opened_as : Served → OpenedWith
opened_as s = record { chunks = s.size.chunks; passes = s.size.passes; origin = s.origin; opening = s.opening }
