use Rattle.std.proofs.Common.{List, ℕ, sym, subst}
use Rattle.shift_key.specs.Differences.{IsDifference}
use Rattle.trie_read.proofs.LeafLaws.{fronted}
use Rattle.trie_read.proofs.leaf.difference_from.Goals as goal

pub read_front-len-requires : goal.read_front-len-requires
read_front-len-requires g c = record { there = (c.requires.0.item, c.requires.1.item) }

pub difference-requires : goal.difference-requires
difference-requires g c =
    let h = c.requires in
    let f = fronted h.0.key h.0.item _ h.1.entry.item (c.read_front-len.ensures.front h.0.item h.1.entry.item.octets h.1.item) h.2 in
    (f.name, f.is_name, f.begins)

pub returns-clause-difference : goal.returns-clause-difference
returns-clause-difference g c e leaf tells =
    let f = fronted e.key e.item _ leaf.entry.item (c.read_front-len.ensures.front e.item leaf.entry.item.octets leaf.item) tells in
    subst (λ (k : List ℕ). IsDifference c.args.key.now k c.difference.result) (sym f.is) (c.difference.ensures.difference f.name f.is_name f.begins)
