use Rattle.std.proofs.Common.{◌≡◌, take, fold}
use Rattle.pin_core.specs.Machine.{with_cell}
use Rattle.pin_core.proofs.state.opening.lay_image.Given as goal

-- the cells so far are laid
abbrev pub invariant-loop-cell : goal.invariant-loop-cell
invariant-loop-cell l = l.words ≡ fold with_cell l.initial.words (take l.cell-index l.image)
