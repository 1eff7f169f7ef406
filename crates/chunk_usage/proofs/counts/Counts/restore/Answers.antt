use Rattle.std.proofs.Common.{◌≡◌, ◌<◌, ◌≤◌, List, ℕ, Bool, false, length, slice_index, slice_index_or, slice_set, sym, ap, ◌∙◌, arith}
use Rattle.std.proofs.lemmas.List.{length-set, get_or_read}
use Rattle.chunk_usage.specs.Counting.{Counted}
use Rattle.chunk_usage.specs.Counts.{counts_before}
use Rattle.chunk_usage.proofs.CountLemmas.{not_changed, was_changed, none_changed, clear_flag, length-counts_before, same_all}
use Rattle.chunk_usage.proofs.RoundLemmas.{one_done, all_done}
use Rattle.chunk_usage.proofs.counts.Counts.restore.Goals as goal

pub loop-chunk-preserved : goal.loop-chunk-preserved
loop-chunk-preserved c =
    let s = c.self.inside in
    let l = c.loop-chunk in
    let chunk = c.in-Some.chunk in
    let count = c.index-count.result.now in
    let first = c.in-Some.ensures.found in
    let live : s.live.items ≡ l.self.live = ap (λ (counts : Counted). counts.live) c.self.view_is in
    let last : l.self.last ≡ counts_before s.changed s.noted.items l.self.live = sym (ap (λ (counts : Counted). counts.last) c.self.view_is) ∙ ap (counts_before s.changed s.noted.items) live in
    let m = ap length live in
    let inside : chunk < length l.self.live = (let n = c.self.invariant.changed in let w = first.within in omega arith) in
    let now : c.set.new.self.live ≡ slice_set l.self.live chunk count = ap (λ (counts : Counted). counts.live) c.set.ensures in
    let stays : c.set.new.self.last ≡ l.self.last = ap (λ (counts : Counted). counts.last) c.set.ensures in
    let noted : count ≡ slice_index s.noted.items chunk = get_or_read s.noted.items chunk count (let n = c.self.invariant.noted in omega arith) c.index-count.ensures 0 in
    let this = noted ∙ was_changed s.changed s.noted.items l.self.live l.self.last last chunk inside first.member in
    let others = λ (k : ℕ) (le : l.from ≤ k). not_changed s.changed s.noted.items l.self.live l.self.last last k in
    let done = one_done 0 l.self.live s.changed l.from (λ k x. x ≡ slice_index l.self.last k) l.invariant.done others chunk count first inside this in
    record {
      last = stays ∙ l.invariant.last;
      same = ap length now ∙ length-set l.self.live chunk count ∙ l.invariant.same;
      done = λ k lt. ap (λ (xs : List ℕ). slice_index xs k) now ∙ done k lt ∙ sym (ap (λ (xs : List ℕ). slice_index xs k) stays);
    }

pub returns : goal.returns
returns c =
    let s = c.self.inside in
    let l = c.loop-chunk in
    let live : s.live.items ≡ l.self.live = ap (λ (counts : Counted). counts.live) c.self.view_is in
    let last : l.self.last ≡ counts_before s.changed s.noted.items l.self.live = sym (ap (λ (counts : Counted). counts.last) c.self.view_is) ∙ ap (counts_before s.changed s.noted.items) live in
    let others = λ (k : ℕ) (le : l.from ≤ k). not_changed s.changed s.noted.items l.self.live l.self.last last k in
    let each = all_done 0 l.self.live s.changed l.from (λ k x. x ≡ slice_index l.self.last k) l.invariant.done others c.in_default.ensures.none in
    let same = same_all l.self.live l.self.last (sym (ap length last ∙ length-counts_before s.changed s.noted.items l.self.live)) each in
    let s = c.self-2.inside in
    let none = none_changed c.clear.new.self s.noted.items s.live.items (λ k. ap (λ (fs : List Bool). slice_index_or fs k false) c.clear.ensures ∙ clear_flag (length s.changed) k) in
    ap (λ (xs : List ℕ). record { live = s.live.items; last = xs }) none
    ∙ ap (λ (xs : List ℕ). record { live = xs; last = xs }) (ap (λ (counts : Counted). counts.live) c.self-2.view_is ∙ same ∙ l.invariant.last)
