-- What a job needs of its index: the cells that its versions are reckoned at, and the operations of one transaction.
use Rattle.std.specs.Prelude.{ℕ, ◌+◌, ◌/◌, List, [], ◌∷◌, length, max}
use Rattle.zone_model.specs.Names.{wire}
use Rattle.zone_model.specs.Versions.{Addition, Operation, Add, DeleteName, DeleteSet, DeleteRecord}
use Rattle.job_model.specs.Commands.{Command, Job}
use Rattle.job_model.specs.Outcomes.{asked_by}
use Rattle.job_model.specs.Sizes.{cell_count}

-- the octets of an item that has the record alone
abbrev pub item_octets : Addition → ℕ
item_octets a = length (wire a.owner) + 12 + length a.octets

-- The cells that an operation is reckoned at: of an addition a leaf and a branch, the cells that the item's octets fill, and a cell
-- for each 4,080 octets that are begun, which links may need.
abbrev pub cells_added : Operation → ℕ
cells_added (Add a) = 2 + (item_octets a + 15) / 16 + (item_octets a + 4079) / 4080
cells_added (DeleteName owner) = 0
cells_added (DeleteSet owner rtype) = 0
cells_added (DeleteRecord owner rtype octets) = 0

-- the same of operations, and of all that commands and workers ask for, also where it is rolled back

abbrev pub cells_of_operations : List Operation → ℕ
cells_of_operations [] = 0
cells_of_operations (operation ∷ operations) = cells_added operation + cells_of_operations operations

abbrev pub cells_of_commands : List Command → ℕ
cells_of_commands [] = 0
cells_of_commands (command ∷ commands) = cells_of_operations (asked_by command).operations + cells_of_commands commands

abbrev pub cells_of_workers : List (List Command) → ℕ
cells_of_workers [] = 0
cells_of_workers (worker ∷ workers) = cells_of_commands worker + cells_of_workers workers

-- the cells of the zone, and of all that is added to it
abbrev pub most_cells : Job → ℕ
most_cells job = cell_count job.zone + cells_of_workers job.workers

-- the operations of the transaction that has the most
abbrev pub longest : List Command → ℕ
longest [] = 0
longest (command ∷ commands) = max (length (asked_by command).operations) (longest commands)

abbrev pub longest_of_workers : List (List Command) → ℕ
longest_of_workers [] = 0
longest_of_workers (worker ∷ workers) = max (longest worker) (longest_of_workers workers)

abbrev pub most_operations : Job → ℕ
most_operations job = longest_of_workers job.workers
