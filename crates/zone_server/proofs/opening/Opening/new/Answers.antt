use Rattle.std.proofs.Common.{[], List, arith, ap, map, sym, subst}
use Rattle.shared_cells.specs.declared.view.TableSize.{TableSize}
use Rattle.zone_table.specs.declared.opening.ZoneItems.{ZoneItems}
use Rattle.zone_server.specs.Openings.{IsOpening}
use Rattle.zone_server.proofs.OpeningLaws.{opening_first}
use Rattle.zone_server.proofs.opening.Opening.new.Goals as goal

pub invariant_of-result : goal.invariant_of-result
invariant_of-result c =
    subst (λ (zs : List ZoneItems). IsOpening c.args.passes zs (map (λ b. b.shared.table.shared.key) c.new-2.result.items) c.in_ok-table.table.shared.table.shared.key) (sym c.new-3.ensures.items)
    (subst (λ (ss : List TableSize). IsOpening c.args.passes [] ss c.in_ok-table.table.shared.table.shared.key) (sym (ap (map (λ b. b.shared.table.shared.key)) c.new-2.ensures.items))
    (opening_first c.args.passes c.in_ok-table.table.shared.table.shared.key c.in_ok-table.ensures.chunks c.in_ok-table.ensures.passes (let a = c.if-passes-lt1.false in omega (arith, a)) (let b = c.if-passes-gt-PASS_LIMIT.false in omega (arith, b))))
