use Rattle.std.proofs.Common.{sym, subst}
use Rattle.trie_read.specs.Reads.{IsLeafOf}
use Rattle.trie_write.proofs.NearLaws.{differs_of}
use Rattle.trie_write.proofs.nearest.compare.Goals as goal

pub difference_at-requires : goal.difference_at-requires
difference_at-requires g c =
    let h = c.requires.stands in let near = c.nearest-leaf.ensures.value h.0 h.1 in
    (near.near, subst (λ s. IsLeafOf (g.C.CellRead.has s) near.near c.nearest-leaf.result) (sym c.nearest-leaf.ensures.same) near.leaf_of, h.2 near.near near.there)

pub returns-clause-value : goal.returns-clause-value
returns-clause-value g c t top tells =
    let near = c.nearest-leaf.ensures.value t top in
    let leaf = subst (λ s. IsLeafOf (g.C.CellRead.has s) near.near c.nearest-leaf.result) (sym c.nearest-leaf.ensures.same) near.leaf_of in
    differs_of 0 t near top.tree c.requires.key c.difference_at.result (c.difference_at.ensures.difference near.near leaf (tells near.near near.there))
