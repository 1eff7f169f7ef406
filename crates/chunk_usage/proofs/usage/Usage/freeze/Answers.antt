use Rattle.std.proofs.Common.{◌≡◌, ◌+◌, ◌++◌, ◌∷◌, [], List, Bool, length, take, slice_set, nat_lt, refl, ap, ◌∙◌, arith}
use Rattle.std.proofs.lemmas.Grind.{take-set_at}
use Rattle.std.proofs.lemmas.List.{length-set, length-map}
use Rattle.std.proofs.lemmas.List.Elements.{All-set}
use Rattle.chunk_usage.specs.Ledger.{Row, row_of}
use Rattle.chunk_usage.specs.Counting.{Counted}
use Rattle.chunk_usage.specs.Inside.{ledger_of}
use Rattle.chunk_usage.proofs.InsideLemmas.{slot_left, known}
use Rattle.chunk_usage.proofs.KeepingLaws.{frozen_alike}
use Rattle.chunk_usage.proofs.usage.Usage.freeze.Goals as goal

pub invariant_of-self : goal.invariant_of-self
invariant_of-self c =
    let known = known c.deref_mut-state.result.now c.self.inside.state.value c.args.self.now c.deref_mut-state.ensures.value c.self.invariant c.self.view_is in
    let s = c.deref_mut-state.result.now in
    let room = slot_left s known.whole c.args.self.now known.view_is c.requires.room in
    let row : c.set.new.self ≡ record { version = c.args.version; chunks = row_of s.counts.live } = c.set.ensures ∙ ap (λ (chunks : List Bool). record { version = c.args.version; chunks = chunks }) c.counted.ensures in
    let rows : take (s.kept + 1) (slice_set s.slots.items s.kept c.set.new.self) ≡ take s.kept s.slots.items ++ record { version = c.args.version; chunks = row_of s.counts.live } ∷ [] =
    take-set_at s.slots.items s.kept (s.kept + 1) c.set.new.self refl room ∙ ap (λ (r : Row). take s.kept s.slots.items ++ r ∷ []) row in
    record {
      ledger = frozen_alike (ledger_of s) c.args.self.now known.view_is known.whole.ledger c.args.version c.requires.room c.requires.newer _ _ _ _
          (ap (λ (counts : Counted). counts.live) c.keep.ensures) c.clear.ensures (ap (λ (counts : Counted). counts.last) c.keep.ensures) rows;
      free = known.whole.free;
      slots = length-set s.slots.items s.kept c.set.new.self ∙ known.whole.slots;
      within = let e = known.whole.slots in omega arith;
      wide = All-set (λ (r : Row). length r.chunks ≡ length s.given) s.slots.items s.kept c.set.new.self (ap (λ (r : Row). length r.chunks) row ∙ length-map s.counts.live (nat_lt 0) ∙ known.whole.ledger.counted) known.whole.wide;
      unreached = known.whole.unreached;
    }
