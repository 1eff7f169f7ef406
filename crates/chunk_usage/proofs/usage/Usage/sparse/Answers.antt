use Rattle.std.proofs.Common.{◌≡◌, ◌+◌, subst, arith}
use Rattle.std.specs.Prelude.{count_by}
use Rattle.chunk_usage.specs.Ledger.{Ledger, free_count}
use Rattle.chunk_usage.specs.Counting.{is_low, bump_low, sparse_count}
use Rattle.chunk_usage.specs.Inside.{ledger_of}
use Rattle.chunk_usage.proofs.SparseLaws.{sparse_is}
use Rattle.chunk_usage.proofs.InsideLemmas.{known}
use Rattle.chunk_usage.proofs.usage.Usage.sparse.Goals as goal

pub overflow_sub-result : goal.overflow_sub-result
overflow_sub-result c =
    let known = known c.deref-state.result.now c.self.inside.state.value c.args.self.now c.deref-state.ensures c.self.invariant c.self.view_is in
    let e = sparse_is (ledger_of c.deref-state.result.now) known.whole.ledger in let f = known.whole.free in let m = c.low.ensures in omega arith

total : (c : goal.After-low_bump) → sparse_count c.args.self.now + c.deref-state.result.now.free + c.low_bump.result ≡ c.low.result
total c =
    let known = known c.deref-state.result.now c.self.inside.state.value c.args.self.now c.deref-state.ensures c.self.invariant c.self.view_is in
    let e = subst (λ (l : Ledger). sparse_count l + free_count (ledger_of c.deref-state.result.now) + bump_low l.live l.bump ≡ count_by is_low c.deref-state.result.now.counts.live) known.view_is (sparse_is (ledger_of c.deref-state.result.now) known.whole.ledger) in
    let f = known.whole.free in
    let m = c.low.ensures in
    let b = c.low_bump.ensures in
    omega arith

pub overflow_sub-result-2 : goal.overflow_sub-result-2
overflow_sub-result-2 c = let t = total c in omega arith

pub returns : goal.returns
returns c = let t = total c in omega arith
