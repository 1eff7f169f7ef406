use Rattle.std.proofs.Math.Facts.{Fits-lt-pow}
use Rattle.std.proofs.Common.{w8, ◌≡◌, ◌++◌, ◌≤◌, List, ℕ, length, ◌∙◌, ap, arith, length-append}
use Rattle.zone_model.specs.Names.{wire}
use Rattle.zone_model.specs.Keys.{most_item_octets}
use Rattle.trie_model.specs.Keys.{Entry}
use Rattle.trie_write.specs.Named.{key_in}
use Rattle.trie_write.proofs.ItemLaws.{stored_of, key_in-wire}
use Rattle.trie_write.proofs.item.Item.of.Goals as goal

pub invariant_of-result : goal.invariant_of-result
invariant_of-result c =
    let whole : c.extend_from_slice-2.new.self.items ≡ wire c.args.name.now ++ c.args.payload.now =
    c.in_ok-extend_from_slice-2.ensures.items ∙ ap (λ (xs : List ℕ). xs ++ c.args.payload.now) (c.in_ok-extend_from_slice.ensures.items ∙ ap (λ (xs : List ℕ). xs ++ c.wire-owner.result.now) c.in_ok-octets.ensures.items ∙ c.wire-owner.ensures.wire) in
    let short : length c.extend_from_slice-2.new.self.items ≤ most_item_octets = omega (arith, ap (λ (xs : List ℕ). length xs) whole, length-append (wire c.args.name.now) c.args.payload.now, ap (λ (xs : List ℕ). length xs) c.wire-owner.ensures.wire) in
    let is = stored_of c.args.name.now c.args.payload.now c.extend_from_slice-2.new.self.items c.wire-owner.ensures.name (λ i. Fits-lt-pow {w = w8} (c.type_inv.payload i)) whole short in
    record { short = is.short; named = is.named; small = is.small }

pub returns-clause-item : goal.returns-clause-item
returns-clause-item c =
    let whole : c.extend_from_slice-2.new.self.items ≡ wire c.args.name.now ++ c.args.payload.now =
    c.in_ok-extend_from_slice-2.ensures.items ∙ ap (λ (xs : List ℕ). xs ++ c.args.payload.now) (c.in_ok-extend_from_slice.ensures.items ∙ ap (λ (xs : List ℕ). xs ++ c.wire-owner.result.now) c.in_ok-octets.ensures.items ∙ c.wire-owner.ensures.wire) in
    let made : List ℕ → List ℕ → Entry = λ key item. record { key = key; item = item } in
    ap (λ (xs : List ℕ). made (key_in xs) xs) whole ∙ ap (λ (key : List ℕ). made key (wire c.args.name.now ++ c.args.payload.now)) (key_in-wire c.args.name.now c.args.payload.now c.wire-owner.ensures.name)
