use Rattle.std.proofs.Common.{◌≤◌, ◌+◌, ◌/◌, ◌%◌, ℕ, List, slice_index, ap, ◌∙◌, arith}
use Rattle.trie_model.specs.Extents.{row}
use Rattle.chunk_usage.specs.Ledger.{Ledger}
use Rattle.trie_model.specs.Reach.{in_chunk}
use Rattle.chunk_usage.proofs.RowLemmas.{row_here, counts_fewer}
use Rattle.chunk_usage.proofs.usage.as_space.UsageSpace.release.Goals as goal

enough : (live : List ℕ) (at n : ℕ) → at % 1024 + n ≤ 1024 → ((k : ℕ) → row (in_chunk k) at n ≤ slice_index live k) → n ≤ slice_index live (at / 1024)
enough live at n together counted = let e = row_here at n together in let h = counted (at / 1024) in omega arith

pub release-requires-clause-counted : goal.release-requires-clause-counted
release-requires-clause-counted c = enough c.args.self.now.live c.args.at c.args.n c.requires.together c.requires.counted

pub returns-clause-counts : goal.returns-clause-counts
returns-clause-counts c = λ k.
    ap (λ (l : Ledger). slice_index l.live k + row (in_chunk k) c.args.at c.args.n) c.release.ensures
    ∙ counts_fewer c.args.at c.args.n c.requires.together c.args.self.now.live k (enough c.args.self.now.live c.args.at c.args.n c.requires.together c.requires.counted)
