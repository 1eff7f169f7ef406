-- What a pass of the zones ends as, where a `&mut` to its pass of one zone is returned.
use Rattle.std.specs.Prelude.{ℕ}
use Rattle.std.specs.Borrow.{Lends, Fml, RattleType, MutBor}
use Rattle.std.specs.Vec.{with_item}
use Rattle.qp_multi.specs.declared.meaning.Named.{Ghosts}
use Rattle.qp_multi.specs.declared.pass.Pass.{Pass}
use Rattle.qp_multi.specs.contracts.pass.Pass.{the_row as pass_row}
use Rattle.zone_table.specs.declared.pass.ZonesPass.{ZonesPass}
use Rattle.zone_table.specs.contracts.pass.ZonesPass.{the_row}

-- the pass of this zone is the last one behind the borrow
abbrev pub lends_zone : (N : RattleType) (g : Ghosts N.Denot) → MutBor (ZonesPass N.Denot g) → ℕ → MutBor (Pass N.Denot g) → Fml
lends_zone N g p zone r = Lends (the_row N g) (pass_row N g) p r (λ z. record p.now { zones = with_item p.now.zones zone z })
