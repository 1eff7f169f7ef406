use Rattle.std.proofs.Common.{◌∙◌, ◌∷◌, ap, sym, arith, take}
use Rattle.zone_model.specs.Names.{Name}
use Rattle.zone_model.specs.Records.{Entry}
use Rattle.zone_diff.proofs.NameLemmas.{laid_item, laid_pair}
use Rattle.zone_diff.proofs.names.next_of.Goals as goal

pub returns-clause-names : goal.returns-clause-names
returns-clause-names c =
    let gives = c.in_ok-len.ensures in
    let octets = take c.in_ok-len.len c.next.new.out in
    ap (λ (x : Name × Entry). x ∷ c.next.new.self) (laid_pair octets c.owner_of-owner.result gives.0.0 gives.0.1 gives.2 (c.owner_of-owner.ensures gives.0.0 gives.0.1 gives.2)) ∙ sym gives.1

pub returns-clause-stands : goal.returns-clause-stands
returns-clause-stands c =
    let gives = c.in_ok-len.ensures in
    let octets = take c.in_ok-len.len c.next.new.out in
    (laid_item octets c.owner_of-owner.result gives.0.0 gives.0.1 gives.2 (c.owner_of-owner.ensures gives.0.0 gives.0.1 gives.2), omega arith)
