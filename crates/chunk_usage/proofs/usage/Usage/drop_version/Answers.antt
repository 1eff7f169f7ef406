use Rattle.std.proofs.Common.{◌≡◌, ◌-◌, List, not, length, take, sym, ap, ◌∙◌, subst, arith}
use Rattle.std.specs.List.{All}
use Rattle.std.proofs.lemmas.List.{with_items_is}
use Rattle.chunk_usage.specs.Ledger.{Row}
use Rattle.chunk_usage.specs.Keeping.{is_row_of, without_row}
use Rattle.chunk_usage.specs.Inside.{ledger_of}
use Rattle.chunk_usage.proofs.KeepingLaws.{left_alike, others_newest}
use Rattle.chunk_usage.proofs.InsideLemmas.{known}
use Rattle.chunk_usage.proofs.usage.Usage.drop_version.Goals as goal

pub invariant_of-self : goal.invariant_of-self
invariant_of-self c =
    let known = known c.deref_mut-state.result.now c.self.inside.state.value c.args.self.now c.deref_mut-state.ensures.value c.self.invariant c.self.view_is in
    let s = c.deref_mut-state.result.now in
    let n : length c.forget.new.slots ≡ s.slots.len = c.forget.ensures.length ∙ c.deref_mut.ensures.len in
    let new = with_items_is s.slots c.forget.new.slots n in
    let old = c.deref_mut.ensures.value in
    record {
      ledger = left_alike (λ (r : Row). not (is_row_of c.args.version r)) (ledger_of s) c.args.self.now known.view_is known.whole.ledger (others_newest c.args.self.now.rows c.args.version c.requires.old) _
          (ap (take (s.kept - 1)) new ∙ c.forget.ensures.rows ∙ ap (λ (rows : List Row). without_row c.args.version (take s.kept rows)) old);
      free = known.whole.free;
      slots = ap length new ∙ c.forget.ensures.length ∙ ap length old ∙ known.whole.slots;
      within = let w = known.whole.within in omega arith;
      wide = subst (All (λ (r : Row). length r.chunks ≡ length s.given)) (sym new) (c.forget.ensures.wide (length s.given) (subst (All (λ (r : Row). length r.chunks ≡ length s.given)) (sym old) known.whole.wide));
      unreached = known.whole.unreached;
    }
