use Rattle.std.proofs.Common.{◌≡◌, ◌∙◌, [], List, append-nil, sym, subst}
use Rattle.std.specs.Vec.Iter.{into_iter_items}
use Rattle.zone_model.specs.MasterFile.{Zone}
use Rattle.qp_main.specs.Opens.{AreAllItems}
use Rattle.qp_main.proofs.OpensLemmas.{none_left}
use Rattle.qp_main.proofs.several.items_of_zones.Goals as goal

pub returns : goal.returns
returns c =
    let at = c.loop-zone in
    let empty : into_iter_items at.zone-iterator ≡ [] = none_left (into_iter_items at.zone-iterator) (sym at.invariant.1 ∙ c.in-None.ensures.steps.0) in
    subst (AreAllItems c.args.zones.items) (append-nil at.all.items) (at.invariant.0 [] (subst (λ (l : List Zone). AreAllItems l []) (sym empty) tt))
