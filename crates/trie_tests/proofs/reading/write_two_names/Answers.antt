use Rattle.std.proofs.Common.{◌≡◌, ◌+◌, Some, slice_get, subst, arith}
use Rattle.packed_node.specs.declared.Cell.{Cell}
use Rattle.chunk_cells.specs.Laying.{extents_in}
use Rattle.trie_tests.specs.Example.{item_of_letter}
use Rattle.trie_tests.proofs.BlankLaws.{lone_beside, lone_cell}
use Rattle.trie_tests.proofs.ExampleTrie.{example_branch, two_names_stand, two_names_tell}
use Rattle.trie_tests.proofs.reading.write_two_names.Goals as goal

pub pack-requires-3 : goal.pack-requires-3
pack-requires-3 c = example_branch c.pair.result c.pair.ensures

pub returns-clause-told : goal.returns-clause-told
returns-clause-told c = two_names_tell

pub returns-clause-stands : goal.returns-clause-stands
returns-clause-stands c =
    two_names_stand _ c.pair.result c.pair.ensures
    (subst (λ (x : Cell). slice_get c.put-3.new.self.cells.items 0 ≡ Some x) c.pack-3.ensures c.put-3.ensures.written)
    (c.put-3.ensures.others 1 _ (λ e. omega arith) (c.put-2.ensures.others 1 _ (λ e. omega arith) (subst (λ (x : Cell). slice_get c.put.new.self.cells.items 1 ≡ Some x) c.pack.ensures c.put.ensures.written)))
    (c.put-3.ensures.others 2 _ (λ e. omega arith) (subst (λ (x : Cell). slice_get c.put-2.new.self.cells.items 2 ≡ Some x) c.pack-2.ensures c.put-2.ensures.written))
    (λ k l. c.put-3.ensures.others (3 + k) _ (λ e. omega arith) (c.put-2.ensures.others (3 + k) _ (λ e. omega arith) (c.put.ensures.others (3 + k) _ (λ e. omega arith)
    (c.write_item-2.ensures.others (3 + k) _ (lone_beside (3 + k) 3 4 (extents_in c.lone-2.result) c.lone-2.ensures.there (λ j m e. omega arith)) (lone_cell (λ q d. slice_get c.write_item.new.cells.cells.items q ≡ Some d) 3 (extents_in c.lone.result) (item_of_letter 97) c.lone.ensures.there c.write_item.ensures.lies k l)))))
    (λ k l. c.put-3.ensures.others (4 + k) _ (λ e. omega arith) (c.put-2.ensures.others (4 + k) _ (λ e. omega arith) (c.put.ensures.others (4 + k) _ (λ e. omega arith) (lone_cell (λ q d. slice_get c.write_item-2.new.cells.cells.items q ≡ Some d) 4 (extents_in c.lone-2.result) (item_of_letter 98) c.lone-2.ensures.there c.write_item-2.ensures.lies k l))))
