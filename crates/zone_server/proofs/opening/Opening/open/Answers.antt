use Rattle.std.proofs.Common.{◌≡◌, ◌+◌, ◌∷◌, ◌∙◌, suc, List, map, Some, arith, ap, sym, subst}
use Rattle.std.specs.List.{slice_get}
use Rattle.atomic_table.specs.Seated.{TableId}
use Rattle.zone_table.proofs.Lists.{mapped_at}
use Rattle.zone_table.specs.declared.opening.ZoneItems.{ZoneItems}
use Rattle.zone_server.specs.Openings.{OpeningView, served_of}
use Rattle.zone_server.proofs.OpeningLaws.{opening_as}
use Rattle.zone_server.proofs.opening.Opening.open.Goals as goal

pub open-requires-clause-table_named : goal.open-requires-clause-table_named
open-requires-clause-table_named g c = ap (λ (l : List TableId). slice_get l 0) (c.requires.tables ∙ ap (λ (v : OpeningView). v.tables) (sym c.self.view_is))

pub open-requires-clause-named : goal.open-requires-clause-named
open-requires-clause-named g c k b there =
    let tables = c.self.inside.table.shared.table.shared.table_id ∷ map (λ b. b.shared.table.shared.table_id) c.self.inside.blanks.items in
    let next : suc k ≡ k + 1 = omega arith in
    ap (λ (l : List TableId). slice_get l (k + 1)) (c.requires.tables ∙ ap (λ (v : OpeningView). v.tables) (sym c.self.view_is))
    ∙ subst (λ n. slice_get tables n ≡ Some b.shared.table.shared.table_id) next (mapped_at (λ b. b.shared.table.shared.table_id) c.self.inside.blanks.items k b there)

pub open-requires-clause-opening : goal.open-requires-clause-opening
open-requires-clause-opening g c =
    opening_as c.self.inside.passes c.self.inside.table.shared.table.shared.key.passes c.self.inside.zones.items c.deref.result.now (map (λ b. b.shared.table.shared.key) c.self.inside.blanks.items) c.self.inside.table.shared.table.shared.key c.self.invariant.table_passes c.deref.ensures.value c.self.invariant

pub open-requires-clause-served : goal.open-requires-clause-served
open-requires-clause-served g c =
    c.requires.zones ∙ ap (λ (v : OpeningView). v.zones) (sym c.self.view_is) ∙ ap (λ (l : List ZoneItems). served_of l (map (λ b. b.shared.table.shared.key) c.self.inside.blanks.items)) (sym c.deref.ensures.value)
