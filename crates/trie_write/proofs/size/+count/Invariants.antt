use Rattle.std.proofs.Common.{◌≡◌, ℕ, suc, ◌+◌, ◌*◌, ◌<◌, ◌≤◌, List, Some, length, min}
use Rattle.trie_model.specs.Keys.{Entry}
use Rattle.trie_model.specs.Shape.{cells}
use Rattle.trie_model.specs.Trees.{Tree, Twigs, entries_of}
use Rattle.trie_model.proofs.SizeLaws.{twig_sizes}
use Rattle.trie_write.specs.Entries.{entries_of_items}
use Rattle.trie_write.specs.Points.{Before, Front}
use Rattle.trie_write.proofs.OpenLaws.{Opened}
use Rattle.trie_write.proofs.size.+count.Given as goal

abbrev pub invariant-count_front-loop-above : goal.invariant-count_front-loop-above
invariant-count_front-loop-above l = record {
  counted : (far : ℕ) × (l.low ≤ far) × (t : Tree) × Front far (entries_of_items l.fn.items) (entries_of_items l.front.rest.now) l.front.next t × (l.front.cells ≡ min (cells (entries_of t)) 18446744073709551615);
  shorter : length l.front.rest.now < length l.fn.items;
}

abbrev pub decreases-count_front-loop-above : goal.decreases-count_front-loop-above
decreases-count_front-loop-above l = length l.front.rest.now

abbrev pub invariant-count_branch-loop-beside : goal.invariant-count_branch-loop-beside
invariant-count_branch-loop-beside l = record {
  counted : (es : List Entry) (t : Tree) → Front (suc l.fn.point.offset) es (entries_of_items l.fn.first.rest.now) (Some l.fn.point) t → l.fn.first.cells ≡ min (cells (entries_of t)) 18446744073709551615
      → (made : Twigs) × Opened l.fn.point.offset es (entries_of_items l.rest) l.next made × (l.cells ≡ min (suc (twig_sizes made)) 18446744073709551615);
  shorter : length l.rest ≤ length l.fn.first.rest.now;
  went : Before l.fn.point.offset l.next → length l.rest < length l.fn.first.rest.now;
}

abbrev pub decreases-count_branch-loop-beside : goal.decreases-count_branch-loop-beside
decreases-count_branch-loop-beside l = length l.rest

abbrev pub decreases-count_front : goal.decreases-count_front
decreases-count_front l = 2 * length l.items.now

abbrev pub decreases-count_branch : goal.decreases-count_branch
decreases-count_branch l = 2 * length l.first.rest.now + 1
