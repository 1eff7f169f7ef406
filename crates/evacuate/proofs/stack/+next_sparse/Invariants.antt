use Rattle.std.proofs.Common.{◌≡◌, ◌-◌, ℕ, true, false}
use Rattle.trie_model.specs.Reach.{in_chunk}
use Rattle.trie_model.specs.Trees.{Tree}
use Rattle.trie_model.proofs.CountLaws.{under}
use Rattle.trie_model.proofs.NodeLaws.{BranchTold}
use Rattle.chunk_usage.specs.Counting.{is_sparse}
use Rattle.trie_read.specs.Reads.{IsTop}
use Rattle.evacuate.specs.Stacks.{StackKept}
use Rattle.evacuate.proofs.StackLaws.{past}
use Rattle.evacuate.proofs.stack.+next_sparse.Given as goal

abbrev pub decreases-next_sparse : goal.decreases-next_sparse
decreases-next_sparse g l = 504 - l.low

abbrev pub invariant-loop-i : goal.invariant-loop-i
invariant-loop-i g l =
    record {
      kept : StackKept l.fn.cells l.cells l.fn.low l.fn.stack l.stack;
      none : l.fn.resumed ≡ false → l.fn.before ≡ 0 → (t : Tree) (x : BranchTold t l.branch) → IsTop (g.C.CellRead.has l.fn.cells) l.fn.low l.fn.node t → (k : ℕ) → is_sparse l.usage k ≡ true → under (in_chunk k) (past l.i x.below) ≡ under (in_chunk k) x.below;
    }
