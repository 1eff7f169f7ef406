use Rattle.std.proofs.Common.{◌≡◌, ◌∙◌, ◌+◌, ◌-◌, ◌^◌, ◌≤◌, ℕ, List, length, min, sym, ap, subst, arith}
use Rattle.zone_model.specs.Records.{Entry, item, with_rr}
use Rattle.master_file.proofs.GrowthLemmas.{still_counted}
use Rattle.master_file.proofs.owned.add_to.Goals as goal

pub returns-else-several-gt-ITEM_LIMIT-clause-counted : goal.returns-else-several-gt-ITEM_LIMIT-clause-counted
returns-else-several-gt-ITEM_LIMIT-clause-counted c =
    let short = c.octets-more.ensures.short in
    let more = ap (λ (l : List ℕ). length l) c.octets-more.ensures.value in
    still_counted c.args.several.now.owner c.args.rtype c.args.time c.args.rdata c.args.several.now.entry c.add.new.self c.args.several.now.octets c.saturating_add-several.result c.in_ok-add.ensures.ok c.requires.most
    (omega (arith, more, c.saturating_add-several.ensures)) (omega (arith, c.if-several-gt-ITEM_LIMIT.false))
