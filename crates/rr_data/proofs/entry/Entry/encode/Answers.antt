use Rattle.std.proofs.Common.{arith, ap, length}
use Rattle.zone_model.specs.Records.{Entry}
use Rattle.zone_model.proofs.ItemLemmas.{few_in_item}
use Rattle.rr_data.proofs.entry.Entry.encode.Goals as goal

pub overflow_cast-len : goal.overflow_cast-len
overflow_cast-len c =
    omega (arith, few_in_item c.args.owner.now c.args.self.now, ap (λ (e : Entry). length e) c.self.view_is, c.len.ensures, c.item_len.ensures, c.if-item_len-gt-ITEM_LIMIT.false)
