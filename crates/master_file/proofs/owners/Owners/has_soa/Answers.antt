use Rattle.std.proofs.Common.{◌≡◌, ◌∙◌, [], sym, ap, true, false, Option, unwrap_or}
use Rattle.std.proofs.lemmas.Result.{IfOk-weaker}
use Rattle.zone_model.specs.Names.{Name, is_under}
use Rattle.zone_model.specs.Records.{Entry}
use Rattle.zone_model.proofs.OrderLemmas.{ends_under}
use Rattle.dns_name.specs.SortKeys.{KeyBelow}
use Rattle.master_file.proofs.OwnerLemmas.{soa_same}
use Rattle.master_file.proofs.owners.Owners.has_soa.Goals as goal

pub returns-in_default-clause-tells : goal.returns-in_default-clause-tells
returns-in_default-clause-tells c =
    let out : is_under c.args.apex.now c.args.apex.now ≡ false = rw c.in_default.is at c.in_ok-key.ensures in
    let apart : false ≡ true = sym out ∙ ends_under [] c.args.apex.now in
    absurd cc

pub returns-in-Some-get-clause-tells : goal.returns-in-Some-get-clause-tells
returns-in-Some-get-clause-tells c =
    let below : KeyBelow c.args.apex.now c.args.apex.now c.in-Some.key = rw c.in-Some.is at c.in_ok-key.ensures in
    IfOk-weaker c.has_set.result _ _ (λ b e. e ∙ soa_same c.args.apex.now c.in-Some.key c.args.self.now.owned.entries c.in-Some-get.kept.now below c.wire-wire.ensures.name c.requires.held (ap (λ (o : Option (Name × Entry)). unwrap_or o (c.args.apex.now, [])) (sym c.in-Some-get.ensures.value))) c.has_set.ensures

pub returns-clause-tells : goal.returns-clause-tells
returns-clause-tells c =
    let below : KeyBelow c.args.apex.now c.args.apex.now c.in-Some.key = rw c.in-Some.is at c.in_ok-key.ensures in
    soa_same c.args.apex.now c.in-Some.key c.args.self.now.owned.entries (c.args.apex.now, []) below c.wire-wire.ensures.name c.requires.held (ap (λ (o : Option (Name × Entry)). unwrap_or o (c.args.apex.now, [])) (sym c.in-None.ensures.value))
