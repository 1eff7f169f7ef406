use Rattle.std.proofs.Common.{◌≡◌, List, length, take, sym, ap, ◌∙◌, subst, arith}
use Rattle.std.specs.List.{All}
use Rattle.std.proofs.lemmas.List.{with_items_is}
use Rattle.chunk_usage.specs.Ledger.{Row}
use Rattle.chunk_usage.specs.Keeping.{is_among, rows_of}
use Rattle.chunk_usage.specs.Inside.{ledger_of}
use Rattle.chunk_usage.proofs.KeepingLaws.{left_alike}
use Rattle.chunk_usage.proofs.InsideLemmas.{known}
use Rattle.chunk_usage.proofs.usage.Usage.keep_only.Goals as goal

pub invariant_of-self : goal.invariant_of-self
invariant_of-self c =
    let known = known c.deref_mut-state.result.now c.self.inside.state.value c.args.self.now c.deref_mut-state.ensures.value c.self.invariant c.self.view_is in
    let s = c.deref_mut-state.result.now in
    let gather = c.gather-state.ensures in
    let n : length c.gather-state.new.slots ≡ s.slots.len = gather.length ∙ c.deref_mut.ensures.len in
    let new = with_items_is s.slots c.gather-state.new.slots n in
    let old = c.deref_mut.ensures.value in
    record {
      ledger = left_alike (λ (r : Row). is_among c.args.versions.now r.version) (ledger_of s) c.args.self.now known.view_is known.whole.ledger c.requires _
          (ap (take c.gather-state.result) new ∙ gather.rows ∙ ap (λ (rows : List Row). rows_of c.args.versions.now (take s.kept rows)) old);
      free = known.whole.free;
      slots = ap length new ∙ gather.length ∙ ap length old ∙ known.whole.slots;
      within = let w = known.whole.within in let v = gather.within in omega arith;
      wide = subst (All (λ (r : Row). length r.chunks ≡ length s.given)) (sym new) (gather.wide (length s.given) (subst (All (λ (r : Row). length r.chunks ≡ length s.given)) (sym old) known.whole.wide));
      unreached = known.whole.unreached;
    }
