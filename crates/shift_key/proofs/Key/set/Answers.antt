use Rattle.std.proofs.Common.{◌<◌, length, set, ap, sym, subst, arith, ◌∙◌}
use Rattle.std.proofs.lemmas.List.{take-set, get_or-set_same}
use Rattle.zone_model.specs.Names.{Name}
use Rattle.zone_model.specs.Keys.{key_of}
use Rattle.zone_model.proofs.KeyLaws.{length-key_of}
use Rattle.dns_name.proofs.WireLemmas.{spelled_once}
use Rattle.shift_key.specs.Laid.{IsLaid}
use Rattle.shift_key.proofs.Key.set.Goals as goal

pub put_labels-len-requires-clause-room : goal.put_labels-len-requires-clause-room
put_labels-len-requires-clause-room c = λ labels h.
    let same = spelled_once c.wire.result.now c.args.name.now labels (record { each = c.wire.ensures.name.each; same = c.wire.ensures.wire }) h in
    omega (arith, length-key_of c.args.name.now c.wire.ensures.name, ap (λ (n : Name). length (key_of n)) same)

pub bounds-self-inside-len : goal.bounds-self-inside-len
bounds-self-inside-len c =
    let laid = c.put_labels-len.ensures c.args.name.now (record { each = c.wire.ensures.name.each; same = c.wire.ensures.wire }) in
    omega (arith, laid.len_is, length-key_of c.args.name.now c.wire.ensures.name)

pub invariant_of-self : goal.invariant_of-self
invariant_of-self c =
    let laid = c.put_labels-len.ensures c.args.name.now (record { each = c.wire.ensures.name.each; same = c.wire.ensures.wire }) in
    let inside : c.put_labels-len.result < length c.put_labels-len.new.places = omega (arith, laid.len_is, length-key_of c.args.name.now c.wire.ensures.name, c.put_labels-len.array_long) in
    subst (λ (n : Name). IsLaid (record { name = n; places = set c.put_labels-len.new.places c.put_labels-len.result 0; len = c.put_labels-len.result })) (sym c.set.ensures)
    (record {
      name = c.wire.ensures.name;
      laid = record { len_is = laid.len_is; front = take-set c.put_labels-len.new.places c.put_labels-len.result 0 ∙ laid.front };
      ended = get_or-set_same c.put_labels-len.new.places c.put_labels-len.result 0 0 inside;
    })
