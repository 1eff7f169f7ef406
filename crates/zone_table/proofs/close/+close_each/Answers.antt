use Rattle.std.proofs.Common.{rules, ◌≡◌, ◌+◌, ◌<◌, ◌≤◌, ◌++◌, ◌∷◌, [], length, set, arith, sym, subst}
use Rattle.zone_table.specs.Endings.{AreEnded}
use Rattle.zone_table.proofs.EndLaws.{parted, one_more_end}
use Rattle.zone_table.proofs.close.+close_each.Goals as goal

pub close-number-requires : goal.close-number-requires
close-number-requires g t c = record { here = (parted _ _ _ _ _ _ c.in-Some.ensures.items c.in-Some-pop.ensures.items c.requires.count c.requires.here).belongs }

pub close_each-numbers-requires : goal.close_each-numbers-requires
close_each-numbers-requires g t c κs within =
    let p = parted _ _ _ _ _ _ c.in-Some.ensures.items c.in-Some-pop.ensures.items c.requires.count c.requires.here in
    let fewer = p.fewer in
    let few : length c.pop.new.self.items ≤ 16 = let m = c.requires.few in omega arith in
    (search (rules, fewer), (within.0, (within.1, record { few = few; count = p.same; here = p.others_belong })))

pub returns-clause-ends : goal.returns-clause-ends
returns-clause-ends g t c =
    let p = parted _ _ _ _ _ _ c.in-Some.ensures.items c.in-Some-pop.ensures.items c.requires.count c.requires.here in
    let fewer = p.fewer in
    let m = c.requires.few in
    let e = c.len-place.ensures in
    let at : c.len-place.result ≡ length c.pop.new.self.items = omega arith in
    let wide : length c.close_each-numbers.result ≡ 17 = search (rules, c.close_each-numbers.type_inv) in
    let room : length c.pop.new.self.items + 1 < length c.close_each-numbers.result = omega arith in
    subst (λ k. AreEnded c.args.zones.items c.args.lists.items (set c.close_each-numbers.result (k + 1) c.close-number.result)) (sym at)
    (subst (λ zs. AreEnded zs c.args.lists.items (set c.close_each-numbers.result (length c.pop.new.self.items + 1) c.close-number.result)) (sym c.in-Some.ensures.items)
    (subst (λ ls. AreEnded (c.pop.new.self.items ++ c.in-Some.zone ∷ []) ls (set c.close_each-numbers.result (length c.pop.new.self.items + 1) c.close-number.result)) (sym c.in-Some-pop.ensures.items)
    (one_more_end c.pop.new.self.items c.in-Some.zone c.pop-2.new.self.items c.in-Some-pop.passes c.close_each-numbers.result c.close-number.result p.same room c.close_each-numbers.ensures.ends c.close-number.ensures.ends)))
