use Rattle.std.proofs.Common.{◌≡◌, ◌∙◌, [], List, ℕ, length, ap, sym, arith, append-nil}
use Rattle.zone_model.specs.Names.{wire}
use Rattle.zone_model.proofs.KeyLaws.{key_once}
use Rattle.dns_name.specs.Inside.{length_le-wire}
use Rattle.shift_key.proofs.Key.labels.Goals as goal

pub label_count-requires : goal.label_count-requires
label_count-requires c = (c.self.inside.name, c.self.invariant.name, ([], c.wire.ensures.wire ∙ sym (append-nil (wire c.self.inside.name))))

pub overflow_cast-result : goal.overflow_cast-result
overflow_cast-result c =
    let e : c.label_count.result ≡ length c.self.inside.name = c.label_count.ensures c.self.inside.name c.self.invariant.name ([], c.wire.ensures.wire ∙ sym (append-nil (wire c.self.inside.name))) in
    omega (arith, length_le-wire c.self.inside.name, c.self.invariant.name.short)

pub returns-clause-labels : goal.returns-clause-labels
returns-clause-labels c name is e =
    c.label_count.ensures c.self.inside.name c.self.invariant.name ([], c.wire.ensures.wire ∙ sym (append-nil (wire c.self.inside.name)))
    ∙ ap (λ (n : List (List ℕ)). length n) (key_once c.self.inside.name name c.self.invariant.name.each is.each (c.self.view_is ∙ e))
