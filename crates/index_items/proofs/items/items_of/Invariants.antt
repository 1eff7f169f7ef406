use Rattle.std.proofs.Common.{◌≡◌, ◌++◌, length}
use Rattle.std.specs.List.{AllByRecursion}
use Rattle.trie_write.specs.Entries.{entries_of_items}
use Rattle.zone_answer.specs.Standing.{IsStorable}
use Rattle.job_model.specs.Sizes.{trie_entries}
use Rattle.index_items.proofs.items.items_of.Given as goal

abbrev pub invariant-loop-len : goal.invariant-loop-len
invariant-loop-len l =
    record {
      items : entries_of_items l.items.items ++ trie_entries l.left ≡ trie_entries l.fn.left;
      storable : AllByRecursion IsStorable l.left → AllByRecursion IsStorable l.fn.left;
    }

abbrev pub decreases-loop-len : goal.decreases-loop-len
decreases-loop-len l = length l.left
