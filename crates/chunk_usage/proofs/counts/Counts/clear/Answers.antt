use Rattle.std.proofs.Common.{◌≡◌, ◌<◌, ◌≤◌, List, ℕ, length, slice_index, slice_set, refl, ap, ◌∙◌, arith}
use Rattle.std.proofs.lemmas.List.{length-set}
use Rattle.chunk_usage.specs.Ledger.{row_of}
use Rattle.chunk_usage.specs.Counting.{Counted}
use Rattle.chunk_usage.proofs.CountLemmas.{not_counted, length-row_of, zero_all, counted_is}
use Rattle.chunk_usage.proofs.RoundLemmas.{one_done, all_done}
use Rattle.chunk_usage.proofs.counts.Counts.clear.Goals as goal

pub loop-chunk-preserved : goal.loop-chunk-preserved
loop-chunk-preserved c =
    let l = c.loop-chunk in
    let chunk = c.in-Some.chunk in
    let first = c.in-Some.ensures.found in
    let row : c.self.inside.counted ≡ row_of l.self.live = c.self.invariant.counted ∙ ap (λ (counts : Counted). row_of counts.live) c.self.view_is in
    let inside : chunk < length l.self.live = (let n = ap length row ∙ length-row_of l.self.live in let w = first.within in omega arith) in
    let now : c.set.new.self.live ≡ slice_set l.self.live chunk 0 = ap (λ (counts : Counted). counts.live) c.set.ensures in
    let others = λ (k : ℕ) (le : l.from ≤ k). not_counted l.self.live c.self.inside.counted row k in
    record {
      last = ap (λ (counts : Counted). counts.last) c.set.ensures ∙ l.invariant.last;
      same = ap length now ∙ length-set l.self.live chunk 0 ∙ l.invariant.same;
      done = λ k lt. ap (λ (xs : List ℕ). slice_index xs k) now ∙ one_done 0 l.self.live c.self.inside.counted l.from (λ k x. x ≡ 0) l.invariant.done others chunk 0 first inside refl k lt;
    }

pub returns : goal.returns
returns c =
    let l = c.loop-chunk in
    let row : c.self.inside.counted ≡ row_of l.self.live = c.self.invariant.counted ∙ ap (λ (counts : Counted). row_of counts.live) c.self.view_is in
    let others = λ (k : ℕ) (le : l.from ≤ k). not_counted l.self.live c.self.inside.counted row k in
    let each = all_done 0 l.self.live c.self.inside.counted l.from (λ k x. x ≡ 0) l.invariant.done others c.in_default.ensures.none in
    counted_is l.self _ _ (zero_all l.self.live (length c.args.self.now.live) l.invariant.same each) l.invariant.last
