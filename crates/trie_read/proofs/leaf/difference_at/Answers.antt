use Rattle.std.proofs.Common.{sym, subst}
use Rattle.trie_read.specs.Reads.{IsLeafOf}
use Rattle.trie_read.proofs.leaf.difference_at.Goals as goal

pub difference_from-requires : goal.difference_from-requires
difference_from-requires g c =
    let h = c.requires in (h.0, subst (λ s. IsLeafOf (g.C.CellRead.has s) h.0 c.args.leaf) (sym c.is_of.ensures.same) h.1, h.2)

pub returns-then-is_of-clause-difference : goal.returns-then-is_of-clause-difference
returns-then-is_of-clause-difference g c e leaf tells = sym ((c.is_of.ensures.value e leaf tells).0 c.if-is_of.true)

pub returns-clause-difference : goal.returns-clause-difference
returns-clause-difference g c e leaf tells =
    c.difference_from.ensures.difference e (subst (λ s. IsLeafOf (g.C.CellRead.has s) e c.args.leaf) (sym c.is_of.ensures.same) leaf) tells
