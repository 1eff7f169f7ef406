use Rattle.std.proofs.Common.{◌≡◌, take}
use Rattle.pin_core.specs.Machine.{image_of}
use Rattle.pin_core.proofs.state.cells.image_of_cells.Given as goal

-- the image of the cells so far
abbrev pub invariant-loop-at : goal.invariant-loop-at
invariant-loop-at l = l.image.items ≡ image_of l.words (take l.at-index l.cells)
