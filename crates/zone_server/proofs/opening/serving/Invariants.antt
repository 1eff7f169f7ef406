use Rattle.std.proofs.Common.{◌≡◌, ◌+◌, length}
use Rattle.std.specs.List.{All}
use Rattle.zone_server.specs.Servings.{IsServing}
use Rattle.zone_server.proofs.opening.serving.Given as goal

-- those that are left are passes of the server, and none is lost
abbrev pub invariant-loop-pass : goal.invariant-loop-pass
invariant-loop-pass g l = All (IsServing g.H.Home.zones) l.passes.items × (length l.all.items + length l.passes.items ≡ length l.fn.passes.items)

abbrev pub decreases-loop-pass : goal.decreases-loop-pass
decreases-loop-pass g l = length l.passes.items
