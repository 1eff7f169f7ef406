use Rattle.std.proofs.Common.{List, ℕ, Bool, false, slice_index_or, length, ap, ◌∙◌}
use Rattle.chunk_usage.specs.Counting.{Counted}
use Rattle.chunk_usage.proofs.CountLemmas.{none_changed, clear_flag}
use Rattle.chunk_usage.proofs.counts.Counts.keep.Goals as goal

pub returns : goal.returns
returns c =
    let s = c.self.inside in
    let none = none_changed c.clear.new.self s.noted.items s.live.items (λ k. ap (λ (fs : List Bool). slice_index_or fs k false) c.clear.ensures ∙ clear_flag (length s.changed) k) in
    ap (λ (last : List ℕ). record { live = s.live.items; last = last }) none ∙ ap (λ (counts : Counted). record { live = counts.live; last = counts.live }) c.self.view_is
