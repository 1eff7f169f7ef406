use Rattle.std.proofs.Common.{◌≡◌, ℕ, ◌+◌, nat_lt, false, not, length, subst, arith}
use Rattle.std.proofs.lemmas.Bool.{eqb-true}
use Rattle.std.specs.Prelude.{count_by}
use Rattle.std.proofs.lemmas.List.Sums.{count_by-le-length}
use Rattle.chunk_usage.specs.Ledger.{Ledger, free_count}
use Rattle.chunk_usage.specs.Keeping.{is_unreached}
use Rattle.chunk_usage.specs.Inside.{ledger_of}
use Rattle.chunk_usage.proofs.RecyclingLaws.{none_unreached}
use Rattle.chunk_usage.proofs.InsideLemmas.{known}
use Rattle.chunk_usage.proofs.usage.Usage.all_used.Goals as goal

pub overflow_add-result : goal.overflow_add-result
overflow_add-result c =
    let known = known c.deref-state.result.now c.self.inside.state.value c.args.self.now c.deref-state.ensures c.self.invariant c.self.view_is in
    let s = c.deref-state.result.now in
    let e = known.whole.free in
    let f = known.whole.ledger.few in
    let n = known.whole.ledger.counted in
    let u = count_by-le-length (nat_lt 0) s.counts.live in
    let v = count_by-le-length not s.given in
    omega arith

pub returns : goal.returns
returns c t =
    let known = known c.deref-state.result.now c.self.inside.state.value c.args.self.now c.deref-state.ensures c.self.invariant c.self.view_is in
    let s = c.deref-state.result.now in
    let e = known.whole.free in
    let all : count_by (nat_lt 0) s.counts.live + free_count (ledger_of s) ≡ length s.given = (let q = eqb-true _ _ t in omega arith) in
    subst (λ (l : Ledger). (k : ℕ) → is_unreached l k ≡ false) known.view_is (none_unreached (ledger_of s) known.whole.ledger all)
