use Rattle.std.specs.Prelude.{◌≡◌, map, take}
use Rattle.qp_multi.specs.Passes.{Known, known_at}
use Rattle.zone_table.proofs.PassLaws.{Kept}
use Rattle.zone_table.proofs.note.note_each.Given as goal

-- the notes are of the passes so far, which know what they knew
abbrev pub invariant-loop-place : goal.invariant-loop-place
invariant-loop-place g l = record {
  kept : Kept l.fn.passes.items l.passes.items;
  same : map (λ z. known_at z.seat) l.passes.items ≡ map (λ z. known_at z.seat) l.fn.passes.items;
  of : map (λ z. z.place) l.notes.items ≡ take l.place (map (λ z. z.place) l.fn.passes.items);
  told : map (λ z. z.told.place.me.0.seen) l.notes.items ≡ take l.place (map (λ (v : Known). v.seen) (map (λ z. known_at z.seat) l.fn.passes.items));
}
