use Rattle.std.proofs.Common.{ℕ, List, length, ap, arith, Err}
use Rattle.trie_write.specs.Entries.{entry_of}
use Rattle.trie_write.specs.declared.item.ItemRefusal.{ItemRefusal}
use Rattle.index_items.proofs.ItemLemmas.{whole_octets, item_entry}
use Rattle.index_items.proofs.items.item_of.Goals as goal

pub unreachable-requires-in-Err-Long : goal.unreachable-requires-in-Err-Long
unreachable-requires-in-Err-Long c =
    let whole = whole_octets c.args.octets.now c.in-Some.name (length c.wire-owner.result.now) c.in-Some.ensures.found (ap (λ (l : List ℕ). length l) c.wire-owner.ensures.wire) in
    let n = ap (λ (l : List ℕ). length l) whole in
    let short = c.requires.2.short in
    let refused = (c.in-Err-Long.ensures.long c.in-Err-Long.field-0-0).0 (ap (λ (r : ItemRefusal). Err r) c.in-Err-Long.field-0-is) in
    let e = refused.0 in
    let long = refused.1 in
    omega arith

pub returns-in-Ok : goal.returns-in-Ok
returns-in-Ok c = λ name entry is.
    item_entry c.args.octets.now c.in-Some.name (entry_of c.in-Ok.item) c.in-Some.ensures.found c.in-Some.ensures.name (length c.wire-owner.result.now) (ap (λ (l : List ℕ). length l) c.wire-owner.ensures.wire) c.in-Ok.ensures.item name entry is
