use Rattle.std.proofs.Common.{◌≡◌, ◌∙◌, ℕ, List, length, map, sym, ap, arith}
use Rattle.std.specs.List.{range_with_len}
use Rattle.std.proofs.lemmas.List.{length-map}
use Rattle.std.proofs.lemmas.List.FromFn.{length-range_with_len}
use Rattle.shared_cells.specs.Views.{number_of}
use Rattle.qp_multi.proofs.index.Index.filled.Goals as goal

-- as many seats as there are numbers
many : {A : Type 0} (f : A → ℕ) (seats : List A) (key : ℕ) → map f seats ≡ range_with_len 1 key → length seats ≡ key
many f seats key e = sym (length-map seats f) ∙ ap length e ∙ length-range_with_len 1 key

pub overflow_cast-count : goal.overflow_cast-count
overflow_cast-count g c =
    let few = c.args.blank.shared.few.0 in
    let e = many (λ s. number_of s.place.me.0.pass) c.args.blank.seats.items c.args.blank.shared.table.shared.key.passes c.args.blank.numbered in
    let l = c.len-count.ensures in
    let m = c.in_ok-passes.ensures.passes.count in
    omega arith

pub invariant_of-index : goal.invariant_of-index
invariant_of-index g c =
    let e = many (λ s. number_of s.place.me.0.pass) c.args.blank.seats.items c.args.blank.shared.table.shared.key.passes c.args.blank.numbered in
    let l = c.len-count.ensures in
    let m = c.in_ok-passes.ensures.passes.count in
    let n : c.len-count.result ≡ c.args.blank.shared.table.shared.key.passes = omega arith in
    record {
      here = c.requires.named;
      counted = n;
      some = c.args.blank.some;
    }
