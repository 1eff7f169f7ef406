use Rattle.std.proofs.Common.{◌≡◌, ◌++◌, ◌∷◌, ◌∙◌, [], List, Bool, Option, is_some, eqb, length, sym, ap, subst}
use Rattle.packed_node.specs.declared.Leaf.{Leaf}
use Rattle.trie_model.specs.Order.{IsPredecessor}
use Rattle.trie_read.specs.declared.ancestors.Ancestor.{Ancestor}
use Rattle.trie_read.specs.Finds.{IsKind, kind_of}
use Rattle.trie_read.specs.Reads.{IsNamed, IsLeafOf}
use Rattle.trie_read.specs.Walks.{StandsBetween}
use Rattle.trie_read.proofs.AboveLaws.{ancestors_labels}
use Rattle.trie_read.proofs.FoundLaws.{stands_at_start, stands_rises, kind_told, last_there, last_before}
use Rattle.trie_read.proofs.found.find.Goals.{in-Some, in-None}
use Rattle.trie_read.proofs.found.find.Goals as goal

pub lookup-leaf-requires : goal.lookup-leaf-requires
lookup-leaf-requires g c = let h = c.requires in record { root = c.args.root; before = []; after = h.0; standing = (stands_at_start (g.C.CellRead.has c.args.cells.now) c.args.root c.start-place.result h.0 c.start-place.ensures h.1 h.2) }

pub key_at-requires : goal.key_at-requires
key_at-requires g c =
    let h = c.requires in
    let x = c.in-Some.ensures.leaf c.args.root [] h.0 (stands_at_start (g.C.CellRead.has c.args.cells.now) c.args.root c.start-place.result h.0 c.start-place.ensures h.1 h.2) in
    (x.0, subst (λ s. IsLeafOf (g.C.CellRead.has s) x.0 c.in-Some.leaf) (sym c.lookup-leaf.ensures.same) x.3.0, x.3.1)

pub prev-pred-requires : goal.prev-pred-requires
prev-pred-requires g c =
    let h = c.requires in
    let x = c.lookup-leaf.ensures.split c.args.root [] h.0 (stands_at_start (g.C.CellRead.has c.args.cells.now) c.args.root c.start-place.result h.0 c.start-place.ensures h.1 h.2) in
    record { root = c.args.root; before = x.before; after = x.after; standing = subst (λ s. StandsBetween (g.C.CellRead.has s) c.args.root c.lookup-leaf.new.self x.before x.after) (sym c.lookup-leaf.ensures.same) x.standing }

pub returns-clause-kind : goal.returns-clause-kind
returns-clause-kind g c version stands told =
    let finds = c.lookup-leaf.ensures.leaf c.args.root [] version (stands_at_start (g.C.CellRead.has c.args.cells.now) c.args.root c.start-place.result version c.start-place.ensures stands told) in
    let above = c.lookup-leaf.ensures.above c.args.root [] version (stands_at_start (g.C.CellRead.has c.args.cells.now) c.args.root c.start-place.result version c.start-place.ensures stands told) in
    let kind = kind_told (IsNamed (g.C.CellRead.has c.args.cells.now)) c.args.key.now version c.lookup-leaf.result c.lookup-leaf.new.above finds above in
    let leaf : c.match-leaf.leaf ≡ c.lookup-leaf.result = elim c.match-leaf.branch [ in-Some w ↦ w.leaf-is ∙ sym w.in-Some.is | in-None w ↦ w.leaf-is ] in
    let there = c.is_some.ensures ∙ ap (λ (l : Option Leaf). is_some l) leaf in
    let alone = c.is_empty-alone.ensures ∙ ap (λ (ns : List Ancestor). eqb (length ns) 0) c.as_slice.ensures.names in
    subst (IsKind c.args.key.now version) (sym (c.of.ensures ∙ ap (λ (b : Bool). kind_of b c.is_empty-alone.result) there ∙ ap (λ (b : Bool). kind_of (is_some c.lookup-leaf.result) b) alone)) kind

pub returns-clause-chain : goal.returns-clause-chain
returns-clause-chain g c version stands told =
    c.of-2.ensures ∙ ancestors_labels (IsNamed (g.C.CellRead.has c.args.cells.now)) _ c.lookup-leaf.new.above (c.lookup-leaf.ensures.above c.args.root [] version (stands_at_start (g.C.CellRead.has c.args.cells.now) c.args.root c.start-place.result version c.start-place.ensures stands told))

pub returns-clause-pred : goal.returns-clause-pred
returns-clause-pred g c version stands told =
    let has = g.C.CellRead.has c.args.cells.now in let k = c.args.key.now in
    let at = (stands_at_start (g.C.CellRead.has c.args.cells.now) c.args.root c.start-place.result version c.start-place.ensures stands told) in
    elim c.match-leaf.branch [
      | in-Some w ↦ (
          let finds = w.in-Some.ensures.leaf c.args.root [] version at in
          let key = w.key_at.ensures.key finds.0 (subst (λ s. IsLeafOf (g.C.CellRead.has s) finds.0 w.in-Some.leaf) (sym c.lookup-leaf.ensures.same) finds.3.0) finds.3.1 in
          subst (IsPredecessor k version) (sym w.pred-is) (last_there (IsNamed has) k version w.in-Some.leaf w.key_at.result (stands_rises has c.args.root version stands) finds (key ∙ finds.2))
          )
      | in-None w ↦ subst (IsPredecessor k version) (sym w.pred-is) (last_before (StandsBetween has c.args.root c.lookup-leaf.new.self) k version w.prev-pred.result (c.lookup-leaf.ensures.split c.args.root [] version at) (w.in-None.ensures.leaf c.args.root [] version at)
          (λ before after e s. w.prev-pred.ensures.step.prev c.args.root before after e (subst (λ t. StandsBetween (g.C.CellRead.has t) c.args.root c.lookup-leaf.new.self (before ++ (e ∷ [])) after) (sym c.lookup-leaf.ensures.same) s))
          (λ after s. w.prev-pred.ensures.step.beginning c.args.root after (subst (λ t. StandsBetween (g.C.CellRead.has t) c.args.root c.lookup-leaf.new.self [] after) (sym c.lookup-leaf.ensures.same) s)))
    ]
