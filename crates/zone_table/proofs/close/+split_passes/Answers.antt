use Rattle.std.proofs.Common.{◌≡◌, ◌∙◌, [], ◌∷◌, length, rules, sym, ap, subst}
use Rattle.std.specs.List.{slice_get}
use Rattle.zone_table.specs.Endings.{AreSplit}
use Rattle.std.specs.List.{All}
use Rattle.zone_table.proofs.Lists.{all_at, all_front, at_seam}
use Rattle.zone_table.proofs.EndLaws.{one_more_pass}
use Rattle.zone_table.proofs.close.+split_passes.Goals as goal

pub split_passes-requires : goal.split_passes-requires
split_passes-requires g t c = λ κs bounds.
    let rest = all_front (λ p. length p.zones.items ≡ c.args.count) c.pop.new.self.items (c.in-Some.last ∷ [])
    (subst (All (λ p. length p.zones.items ≡ c.args.count)) c.in-Some.ensures.items c.requires) in
    (search rules, (search rules, rest))

pub returns-clause-zones : goal.returns-clause-zones
returns-clause-zones g t c =
    let wide : length c.in-Some.last.zones.items ≡ c.args.count = all_at (λ p. length p.zones.items ≡ c.args.count) c.args.passes.items (length c.pop.new.self.items) c.in-Some.last c.requires
    (ap (λ ps. slice_get ps (length c.pop.new.self.items)) c.in-Some.ensures.items ∙ at_seam c.pop.new.self.items c.in-Some.last []) in
    subst (λ ps. AreSplit c.args.count ps c.add_passes.new.lists.items) (sym c.in-Some.ensures.items)
    (one_more_pass c.args.count c.pop.new.self.items c.in-Some.last c.in_ok-tables.lists.items c.add_passes.new.lists.items wide c.in_ok-tables.ensures.zones c.in_ok-add_passes.ensures)
