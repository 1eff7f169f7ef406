use Rattle.std.proofs.Common.{◌≡◌, ℕ, ◌+◌, ◌<◌, ◌≤◌, [], length, map, take, vec_len}
use Rattle.std.specs.Prelude.{IsSome}
use Rattle.std.specs.List.{All}
use Rattle.qp_multi.specs.Passes.{commits_in, first_version, known_at, pinned_in}
use Rattle.qp_multi.specs.Closings.{IsThere}
use Rattle.qp_multi.specs.Openings.{SeesFirst}
use Rattle.qp_multi.proofs.opening.tell_passes.Given as goal

abbrev pub decreases-loop-seat : goal.decreases-loop-seat
decreases-loop-seat g l = vec_len l.seats

abbrev pub invariant-loop-seat : goal.invariant-loop-seat
invariant-loop-seat g l = record {
  table : l.turn.place.table_id ≡ l.initial.turn.place.table_id;
  known : l.turn.place.me.0 ≡ l.initial.turn.place.me.0;
  count : l.turn.passes ≡ l.initial.turn.passes;
  here : All (λ s. s.place.table_id ≡ l.shared.table.shared.table_id) l.seats.items;
  unseen : All (λ s. length s.place.me.0.seen.history ≡ 0) l.seats.items;
  unused : All (λ s. (commits_in s.place.me.0.pass ≡ []) × (pinned_in s.place.me.0.pass ≡ [])) l.seats.items;
  idle : All (λ p. (commits_in (known_at p.seat).pass ≡ []) × (pinned_in (known_at p.seat).pass ≡ [])) l.passes.items;
  told : All (λ p. (IsSome p.seat) × (p.place ≡ l.place) × (SeesFirst (first_version l.initial.turn.place.me.0.seen) (known_at p.seat))) l.passes.items;
  many : length l.passes.items + length l.seats.items ≡ length l.initial.seats.items;
  rest : l.seats.items ≡ take (length l.seats.items) l.initial.seats.items;
  all : (number : ℕ) → length l.seats.items ≤ number → number < length l.initial.seats.items → IsThere (map (λ p. known_at p.seat) l.passes.items) number;
}
