use Rattle.std.proofs.Common.{◌≡◌, ◌/◌, ℕ, length, take, refl, sym, ap, ◌∙◌, arith, rules}
use Rattle.std.specs.Prelude.{◌&&◌}
use Rattle.chunk_usage.specs.Ledger.{Ledger, is_given}
use Rattle.chunk_usage.specs.Keeping.{freed, is_needed, is_unreached}
use Rattle.chunk_sets.specs.ChunkSets.{has}
use Rattle.chunk_usage.specs.Inside.{ledger_of}
use Rattle.chunk_usage.proofs.RecyclingLaws.{found_is, left_needed, kept_stays, freed_ledger, freed_is, nothing_freed, each_stays}
use Rattle.chunk_usage.proofs.usage.Usage.free_unreached.Given.{Over}
use Rattle.chunk_usage.proofs.InsideLemmas.{known}
use Rattle.chunk_usage.proofs.usage.Usage.free_unreached.Goals as goal

pub returns-then-all_used-clause-usage : goal.returns-then-all_used-clause-usage
returns-then-all_used-clause-usage g c = record {
  after = nothing_freed c.args.self.now (c.all_used.ensures c.if-all_used.true);
  by_chunk = each_stays c.args.self.now (c.all_used.ensures c.if-all_used.true);
  more = omega arith;
}

pub free_all-count-requires : goal.free_all-count-requires
free_all-count-requires g c = record {
  few = search rules;
  same = search rules;
  within = search rules;
  unkept = λ q kept.
      let known = known c.deref_mut-state.result.now c.self.inside.state.value c.args.self.now c.deref_mut-state.ensures.value c.self.invariant c.self.view_is in
      found_is (ledger_of c.deref_mut-state.result.now) c.deref_mut-state.result.now.given c.counted.result.now c.set_difference.new.self c.leave_out_kept.new.found c.leave_out.new.found c.leave_out-2.new.found _
      refl c.counted.ensures (ap (take c.deref_mut-state.result.now.kept) c.deref.ensures.value) c.set_difference.ensures.left c.leave_out_kept.ensures.left c.leave_out.ensures.left c.leave_out-2.ensures.left (q / 1024)
      ∙ ap (λ (l : Ledger). is_unreached l (q / 1024)) known.view_is ∙ kept_stays c.args.self.now (q / 1024) (c.requires.in_rows q kept);
}

-- the set that was found has just the chunks that nothing needs
found : (g : Over) (c : goal.After-self-1 g) (k : ℕ) → has c.leave_out-2.new.found k ≡ is_unreached (ledger_of c.deref_mut-state.result.now) k
found g c = found_is (ledger_of c.deref_mut-state.result.now) c.deref_mut-state.result.now.given c.counted.result.now c.set_difference.new.self c.leave_out_kept.new.found c.leave_out.new.found c.leave_out-2.new.found _
    refl c.counted.ensures (ap (take c.deref_mut-state.result.now.kept) c.deref.ensures.value) c.set_difference.ensures.left c.leave_out_kept.ensures.left c.leave_out.ensures.left c.leave_out-2.ensures.left

-- the chunks that something needs are left
left : (g : Over) (c : goal.After-self-1 g) (k : ℕ) → has c.free_all-count.new.given k ≡ (is_given (ledger_of c.deref_mut-state.result.now) k && is_needed (ledger_of c.deref_mut-state.result.now) k)
left g c = left_needed (ledger_of c.deref_mut-state.result.now) c.leave_out-2.new.found c.free_all-count.new.given (found g c) c.free_all-count.ensures.left.left

pub invariant_of-self : goal.invariant_of-self
invariant_of-self g c =
    let known = known c.deref_mut-state.result.now c.self.inside.state.value c.args.self.now c.deref_mut-state.ensures.value c.self.invariant c.self.view_is in
    let n : length c.free_all-count.new.given ≡ length c.deref_mut-state.result.now.given = c.free_all-count.ensures.left.len in
    record {
      ledger = freed_ledger (ledger_of c.deref_mut-state.result.now) known.whole.ledger c.free_all-count.new.given n (left g c);
      free = let e = known.whole.free in let m = c.free_all-count.ensures.count in omega arith;
      slots = known.whole.slots;
      within = known.whole.within;
      wide = λ k d l. known.whole.wide k d l ∙ sym n;
      unreached = c.leave_out-2.ensures.len ∙ c.leave_out.ensures.len ∙ c.leave_out_kept.ensures.len ∙ c.set_difference.ensures.len ∙ sym n;
    }

pub returns-clause-usage : goal.returns-clause-usage
returns-clause-usage g c =
    let known = known c.deref_mut-state.result.now c.self.inside.state.value c.args.self.now c.deref_mut-state.ensures.value c.self.invariant c.self.view_is in
    record {
      after = freed_is (ledger_of c.deref_mut-state.result.now) known.whole.ledger c.free_all-count.new.given c.free_all-count.ensures.left.len (left g c) ∙ ap freed known.view_is;
      by_chunk = λ k. left g c k ∙ ap (λ (l : Ledger). is_given l k && is_needed l k) known.view_is;
      more = search rules;
    }

pub returns-clause-cells : goal.returns-clause-cells
returns-clause-cells g c =
    let known = known c.deref_mut-state.result.now c.self.inside.state.value c.args.self.now c.deref_mut-state.ensures.value c.self.invariant c.self.view_is in
    record {
      same = c.free_all-count.ensures.cells.same;
      others = λ q x unneeded h. c.free_all-count.ensures.cells.others q x (found g c (q / 1024) ∙ ap (λ (l : Ledger). is_unreached l (q / 1024)) known.view_is ∙ unneeded) h;
      keeps = c.free_all-count.ensures.cells.keeps;
    }
