use Rattle.std.proofs.Common.{◌≡◌, ◌∙◌, List, ℕ, take, refl, sym, subst}
use Rattle.std.specs.Prelude.{Contains}
use Rattle.trie_model.specs.Extents.{HasItem}
use Rattle.trie_model.specs.Keys.{Entry}
use Rattle.trie_model.specs.Memory.{Stands}
use Rattle.shared_cells.specs.Views.{pinned_image}
use Rattle.shared_cells.specs.declared.cells.PinnedCells.{PinnedCells}
use Rattle.qp_multi.specs.declared.meaning.Operation.{Operation}
use Rattle.qp_multi.proofs.QueryLaws.{in_pinned}
use Rattle.qp_multi.proofs.pinned.fetch_pinned.Goals as goal

pub get-requires : goal.get-requires
get-requires g c = let h = c.requires.held in (h.0, in_pinned (λ has. Stands has c.args.seat.now.root h.0) _ _ c.new-cells.ensures.seat h.1.0, h.1.1)

pub read_item-requires-clause-there : goal.read_item-requires-clause-there
read_item-requires-clause-there g c =
    let h = c.requires.held in
    let found = c.in-Some.ensures.value h.0 (in_pinned (λ has. Stands has c.args.seat.now.root h.0) _ _ c.new-cells.ensures.seat h.1.0) h.1.1 in
    let is = found.3 in
    (found.0.item, is.entry.item, subst (λ (s : PinnedCells (List Entry) (List Operation) _). HasItem (λ r x. Contains (pinned_image s.seat.now.place.me.0.progress) (record { at = r; big = x.big; small = x.small })) c.in-Some.leaf.at c.in-Some.leaf.len found.0.item) (sym c.get.ensures.same) is.item)

pub returns-in-None-clause-item : goal.returns-in-None-clause-item
returns-in-None-clause-item g c version h =
    (λ there. c.in-None.ensures.value version (in_pinned (λ has. Stands has c.args.seat.now.root version) _ _ c.new-cells.ensures.seat h.0) h.1 there.0 there.1 there.2, refl)

pub returns-in-Some-clause-item : goal.returns-in-Some-clause-item
returns-in-Some-clause-item g c version h =
    let found = c.in-Some.ensures.value version (in_pinned (λ has. Stands has c.args.seat.now.root version) _ _ c.new-cells.ensures.seat h.0) h.1 in
    let is = found.3 in
    let there = subst (λ (s : PinnedCells (List Entry) (List Operation) _). HasItem (λ r x. Contains (pinned_image s.seat.now.place.me.0.progress) (record { at = r; big = x.big; small = x.small })) c.in-Some.leaf.at c.in-Some.leaf.len found.0.item) (sym c.get.ensures.same) is.item in
    let read = c.read_item.ensures in
    (found.0, found.1, found.2, read.length ∙ sym is.item.there.size, subst (λ (n : ℕ). take n c.read_item.new.out ≡ found.0.item) (sym read.length) (read.item found.0.item is.entry.item there))
