use Rattle.std.proofs.Common.{◌≡◌, ◌<◌, List, ℕ, Bool, false, nat_lt, length, slice_index, slice_index_or, slice_set, sym, ap, subst, ◌∙◌, arith}
use Rattle.std.specs.Prelude.{if◌then◌else◌}
use Rattle.std.proofs.lemmas.List.{length-set, map-set, with_items_is, get_or_read}
use Rattle.chunk_usage.specs.Counting.{Counted, is_low, is_thin, thin_row}
use Rattle.chunk_usage.specs.Counts.{counts_before}
use Rattle.chunk_usage.proofs.CountLemmas.{set_keeps, passing_set}
use Rattle.chunk_usage.proofs.counts.Counts.set.Goals as goal

inside : (c : goal.After-self-3-1) → c.args.chunk < length c.self.inside.live.items
inside c = subst (λ (counts : Counted). c.args.chunk < length counts.live) (sym c.self.view_is) c.requires

before : (c : goal.After-self-3-1) → c.index-before.result.now ≡ slice_index c.self.inside.live.items c.args.chunk
before c = get_or_read c.self.inside.live.items c.args.chunk c.index-before.result.now (inside c) c.index-before.ensures 0

-- the journal as it is afterwards
noted_len : (c : goal.After-self-3-1) → length c.note.new.noted ≡ c.self.inside.noted.len
noted_len c = c.note.auto.noted ∙ c.deref_mut.ensures.len

noted : (c : goal.After-self-3-1)
    → c.note.new.noted ≡ (if slice_index_or c.self.inside.changed c.args.chunk false then c.self.inside.noted.items else slice_set c.self.inside.noted.items c.args.chunk c.index-before.result.now)
noted c =
    c.note.ensures.noted
    ∙ ap (λ (xs : List ℕ). if slice_index_or c.self.inside.changed c.args.chunk false then xs else slice_set xs c.args.chunk c.index-before.result.now) c.deref_mut.ensures.value

pub invariant_of-self : goal.invariant_of-self
invariant_of-self c =
    let s = c.self.inside in
    let old = c.self.invariant in
    let n = length-set s.live.items c.args.chunk c.args.count in
    let used = passing_set (nat_lt 0) s.live.items c.args.chunk c.index-before.result.now c.args.count (inside c) (before c) in
    let low = passing_set is_low s.live.items c.args.chunk c.index-before.result.now c.args.count (inside c) (before c) in
    record {
      few = let f = old.few in omega arith;
      noted = ap length (with_items_is s.noted c.note.new.noted (noted_len c)) ∙ noted_len c ∙ s.noted.ok.0 ∙ old.noted ∙ sym n;
      changed = ap length c.note.ensures.changed ∙ length-set s.changed c.args.chunk _ ∙ old.changed ∙ sym n;
      counted = c.mark.ensures.counted ∙ ap (λ (row : List Bool). slice_set row c.args.chunk (nat_lt 0 c.args.count)) old.counted ∙ sym (map-set (nat_lt 0) s.live.items c.args.chunk c.args.count);
      thin = c.put_if.ensures ∙ ap (λ (row : List Bool). slice_set row c.args.chunk c.is_thin-2.result) old.thin ∙ ap (λ (b : Bool). slice_set (thin_row s.live.items) c.args.chunk b) c.is_thin-2.ensures ∙ sym (map-set is_thin s.live.items c.args.chunk c.args.count);
      used = let f = old.used in let g = c.mark.ensures.used in omega arith;
      low = let f = old.low in let g = c.one_if_low.ensures in let h = c.one_if_low-2.ensures in omega arith;
    }

pub returns : goal.returns
returns c =
    let s = c.self.inside in
    let live = slice_set s.live.items c.args.chunk c.args.count in
    let last =
    ap (λ (xs : List ℕ). counts_before c.note.new.changed xs live) (with_items_is s.noted c.note.new.noted (noted_len c))
    ∙ ap (λ (fs : List Bool). counts_before fs c.note.new.noted live) c.note.ensures.changed
    ∙ set_keeps s.changed s.noted.items s.live.items c.note.new.noted c.args.chunk c.index-before.result.now c.args.count (inside c) c.self.invariant.changed c.self.invariant.noted (before c) (noted c) in
    ap (λ (xs : List ℕ). record { live = live; last = xs }) last
    ∙ ap (λ (counts : Counted). record { live = slice_set counts.live c.args.chunk c.args.count; last = counts.last }) c.self.view_is
