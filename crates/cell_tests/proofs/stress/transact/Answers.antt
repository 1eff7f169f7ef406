use Rattle.std.proofs.Common.{◌≡◌, ℕ, ◌+◌, [], ◌∷◌, ◌++◌, length, map, Some, refl, sym, ap, ◌∙◌, subst, arith, length-append}
use Rattle.std.specs.List.{All, fold}
use Rattle.pin_core.specs.declared.kept.Kept.{Kept}
use Rattle.shared_cells.specs.declared.view.Entry.{Entry}
use Rattle.shared_cells.specs.declared.view.Seen.{Seen}
use Rattle.shared_cells.specs.declared.view.View.{View}
use Rattle.shared_cells.specs.Views.{kept_in}
use Rattle.shared_cells.specs.Cells.{cells_of, given_chunks}
use Rattle.cell_tests.specs.OneCell.{place_of, cell_of, IsVersion}
use Rattle.shared_cells.proofs.Seats.{turn_there, pass_there}
use Rattle.cell_tests.proofs.OneCellLaws.{all_counted, kept_are_of, counted, one_image}
use Rattle.cell_tests.proofs.stress.transact.Goals as goal

pub write_next-turn-requires-clause-knows : goal.write_next-turn-requires-clause-knows
write_next-turn-requires-clause-knows c =
    let n = c.args.index.now.table.shared.key.chunks in
    let v = c.join-turn.result.place.me.0 in
    let look = c.look-next.ensures in
    let joined = c.join-turn.ensures.joined in
    let open_at = ap (λ (x : View ℕ ℕ). x.seen.opening) joined ∙ c.requires.can.told.opening in
    let all = all_counted (λ first m. Unit {0}) v look.confirmed.0 c.look-next.result look.confirmed.2 open_at in
    let kept : kept_in c.look-next.new.self.place.me.0.turn ≡ look.confirmed.0.kept = ap (λ (x : View ℕ ℕ). kept_in x.turn) look.same.0 ∙ ap kept_in look.confirmed.1 in
    let versions = ap (λ (x : View ℕ ℕ). map (λ (k : Kept). k.version) (kept_in x.turn)) (look.same.0 ∙ joined) ∙ c.requires.can.told.kept ∙ sym c.as_slice.ensures.versions in
    record {
      six = c.requires.can.six;
      each = ap (λ (x : View ℕ ℕ). given_chunks (cells_of n x.turn)) (look.same.0 ∙ joined) ∙ c.requires.can.told.chunks;
      kept = kept_are_of (cells_of n c.look-next.new.self.place.me.0.turn) c.as_slice.result.now versions (subst (All (λ k. IsVersion k.image k.root k.version)) (sym kept) all);
    }

pub publish-requires-clause-can : goal.publish-requires-clause-can
publish-requires-clause-can c =
    let key = c.args.index.now.table.shared.key in
    let seat = c.write_next-turn.result.0 in
    let view = seat.place.me.0 in
    let turn = turn_there view.turn seat.turn in
    let own = pass_there view.pass seat.number seat.is_pass in
    let seen = ap (λ (x : View ℕ ℕ). x.seen) c.write_next-turn.ensures.writes.same ∙ ap (λ (x : View ℕ ℕ). x.seen) (c.look-next.ensures.same.0 ∙ c.join-turn.ensures.joined) in
    let next = c.look-next.new.self.version + 1 in
    let long : length view.seen.history ≡ c.args.turn.version = ap (λ (x : Seen ℕ ℕ). length x.history) seen ∙ sym c.args.turn.version_is in
    let current : c.look-next.new.self.version ≡ c.args.turn.version = c.look-next.ensures.same.1 ∙ c.join-turn.ensures.numbers.0 in
    let room = c.requires.can.room in
    let entry : Entry ℕ = record { author = own.0.number; change = next } in
    let number : fold (λ m e. m + 1) 0 (view.seen.history ++ entry ∷ []) ≡ next = counted 0 (view.seen.history ++ entry ∷ []) ∙ (let e : 0 + length (view.seen.history ++ entry ∷ []) ≡ c.look-next.new.self.version + 1 = omega (arith, length-append view.seen.history (entry ∷ [])) in e) in
    record {
      turn = turn.0;
      own = own.0;
      opening = 0;
      entry = next;
      is_turn = turn.1;
      is_pass = own.1;
      is_open = ap (λ (x : Seen ℕ ℕ). x.opening) seen ∙ c.requires.can.told.opening;
      is_change = refl;
      few = omega arith;
      fits = one_image key.passes key.chunks view.turn turn.0 next c.write_next-turn.result.1 turn.1 c.if-is_written.true c.write_next-turn.ensures.writes.written;
      good = tt;
      stood = subst (IsVersion (cell_of next ∷ []) (Some (place_of next))) (sym number) (refl, refl);
      allowed = tt;
    }
