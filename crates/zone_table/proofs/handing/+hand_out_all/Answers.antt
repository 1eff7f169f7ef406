use Rattle.std.proofs.Common.{rules, ◌≡◌, ◌∙◌, ◌<◌, ◌∷◌, [], length, map, arith, sym, ap, subst, length-append}
use Rattle.std.specs.List.{All, slice_get}
use Rattle.std.proofs.lemmas.List.{map-append}
use Rattle.zone_table.specs.Handings.{IsGrid}
use Rattle.zone_table.proofs.Lists.{all_at, at_seam, get_front}
use Rattle.zone_table.proofs.HandingLaws.{all_by_place, one_zone}
use Rattle.zone_table.proofs.handing.+hand_out_all.Goals as goal

pub hand_out_all-requires : goal.hand_out_all-requires
hand_out_all-requires g t c κs within =
    let size = ap length c.in-Some.ensures.items ∙ length-append c.pop.new.self.items (c.in-Some.last ∷ []) in
    let f : length c.pop.new.self.items < length c.args.opened.items = omega arith in
    let each : All (λ o. length o.passes.items ≡ length c.args.tables.items) c.pop.new.self.items = all_by_place (λ o. length o.passes.items ≡ length c.args.tables.items) c.pop.new.self.items (λ k x is.
    all_at (λ o. length o.passes.items ≡ length c.args.tables.items) c.args.opened.items k x c.requires (ap (λ l. slice_get l k) c.in-Some.ensures.items ∙ get_front c.pop.new.self.items (c.in-Some.last ∷ []) k x is)) in
    (search (rules, f), (within.0, (within.1, each)))

pub hand_out-requires : goal.hand_out-requires
hand_out-requires g t c =
    all_at (λ o. length o.passes.items ≡ length c.args.tables.items) c.args.opened.items (length c.pop.new.self.items) c.in-Some.last c.requires
    (ap (λ l. slice_get l (length c.pop.new.self.items)) c.in-Some.ensures.items ∙ at_seam c.pop.new.self.items c.in-Some.last [])
    ∙ sym c.in_ok-indexes.ensures.passes.count

pub returns-clause-passes : goal.returns-clause-passes
returns-clause-passes g t c =
    let many = all_at (λ o. length o.passes.items ≡ length c.args.tables.items) c.args.opened.items (length c.pop.new.self.items) c.in-Some.last c.requires
    (ap (λ l. slice_get l (length c.pop.new.self.items)) c.in-Some.ensures.items ∙ at_seam c.pop.new.self.items c.in-Some.last []) in
    let columns = ap (map (λ o. o.passes.items)) c.in-Some.ensures.items ∙ map-append (λ o. o.passes.items) c.pop.new.self.items (c.in-Some.last ∷ []) in
    subst (λ zones. IsGrid c.args.tables.items zones c.hand_out.new.all.items) (sym columns)
    (one_zone c.args.tables.items (map (λ o. o.passes.items) c.pop.new.self.items) c.in_ok-indexes.all.items c.hand_out.new.all.items c.in-Some.last.passes.items many c.in_ok-indexes.ensures.passes c.in_ok-hand_out.ensures)
