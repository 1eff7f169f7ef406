use Rattle.std.proofs.Common.{◌≡◌, ◌≤◌, nat_lt, List, ℕ, Bool, false, replicate, length, slice_index_or, sym, ap, subst, ◌∙◌}
use Rattle.std.proofs.lemmas.List.{length-replicate}
use Rattle.std.specs.Prelude.{count_by}
use Rattle.chunk_usage.specs.Ledger.{row_of}
use Rattle.chunk_usage.specs.Counting.{is_low, thin_row}
use Rattle.chunk_usage.proofs.CountLemmas.{none_changed, clear_flag, all_low, none_used, none_thin, no_row}
use Rattle.chunk_usage.proofs.counts.Counts.new.Goals as goal

live : (c : goal.In_ok-new-3) → c.in_ok-vec.field-0.items ≡ replicate c.args.chunks 0
live c = c.in_ok-vec.ensures.items_if_clones_equal (λ y e. e)

noted : (c : goal.In_ok-new-3) → c.in_ok-vec-2.field-0.items ≡ replicate c.args.chunks 0
noted c = c.in_ok-vec-2.ensures.items_if_clones_equal (λ y e. e)

count : (c : goal.In_ok-new-3) → length c.in_ok-vec.field-0.items ≡ c.args.chunks
count c = ap length (live c) ∙ length-replicate c.args.chunks 0

pub invariant_of-result : goal.invariant_of-result
invariant_of-result c = record {
  few = subst (λ (n : ℕ). n ≤ 4096) (sym (count c)) c.requires;
  noted = ap length (noted c) ∙ length-replicate c.args.chunks 0 ∙ sym (count c);
  changed = ap length c.in_ok-new.ensures ∙ length-replicate c.args.chunks false ∙ sym (count c);
  counted = c.in_ok-new-2.ensures ∙ sym (no_row c.args.chunks) ∙ sym (ap row_of (live c));
  thin = c.in_ok-new-3.ensures ∙ sym (none_thin c.args.chunks) ∙ sym (ap thin_row (live c));
  used = sym (none_used c.args.chunks) ∙ sym (ap (count_by (nat_lt 0)) (live c));
  low = sym (all_low c.args.chunks) ∙ sym (ap (count_by is_low) (live c));
}

pub returns : goal.returns
returns c =
    ap (λ (last : List ℕ). record { live = c.in_ok-vec.field-0.items; last = last })
    (none_changed c.in_ok-new.field-0 c.in_ok-vec-2.field-0.items c.in_ok-vec.field-0.items (λ k. ap (λ (fs : List Bool). slice_index_or fs k false) c.in_ok-new.ensures ∙ clear_flag c.args.chunks k))
    ∙ ap (λ (counts : List ℕ). record { live = counts; last = counts }) (live c)
