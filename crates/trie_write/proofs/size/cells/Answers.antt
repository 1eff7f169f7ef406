use Rattle.std.proofs.Common.{◌≡◌, length, min, arith, eqb-true, ◌∙◌, sym, ap}
use Rattle.trie_model.specs.Shape.{cells}
use Rattle.trie_model.proofs.SizeLaws.{no_cells}
use Rattle.trie_write.specs.Entries.{entries_of_items}
use Rattle.trie_write.proofs.ItemLaws.{no_items}
use Rattle.trie_write.proofs.OpenLaws.{nothing_left}
use Rattle.trie_write.proofs.size.cells.Goals as goal

pub returns-then-is_empty : goal.returns-then-is_empty
returns-then-is_empty c =
    let e : length c.args.items.now ≡ 0 = eqb-true (length c.args.items.now) 0 (sym c.is_empty.ensures ∙ c.if-is_empty.true) in
    let n = ap cells (no_items c.args.items.now e) in let z = no_cells in
    let all : 0 ≡ min (cells (entries_of_items c.args.items.now)) 18446744073709551615 = omega arith in all

pub returns : goal.returns
returns c = let w = c.count_front.ensures.counted in let e = ap cells (nothing_left w.1) in let n = w.2 in let all : c.count_front.result.cells ≡ min (cells (entries_of_items c.args.items.now)) 18446744073709551615 = omega arith in all
