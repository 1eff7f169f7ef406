use Rattle.std.proofs.Common.{◌∙◌, [], Err, arith, ap, length-append}
use Rattle.zone_model.specs.Names.{wire}
use Rattle.trie_write.specs.declared.item.ItemRefusal.{ItemRefusal}
use Rattle.zone_table.proofs.table.item_for.Goals as goal

pub unreachable-requires : goal.unreachable-requires
unreachable-requires c =
    let long = (c.of.ensures.long c.in-Err-Long.field-0-0).0 (c.in-Err-Long.is ∙ ap (λ (r : ItemRefusal). Err r) c.in-Err-Long.field-0-is) in
    let size = long.0 in
    let over = long.1 in
    let short = c.wire-wire.ensures.name.short in
    let octets = length-append (wire c.args.origin.now) [] in absurd (omega arith)
