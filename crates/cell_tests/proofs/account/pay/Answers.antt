use Rattle.std.proofs.Common.{◌≡◌, ℕ, ◌+◌, ◌≤◌, List, [], ◌∷◌, ◌++◌, length, refl, sym, ap, ◌∙◌, arith}
use Rattle.std.specs.List.{fold}
use Rattle.std.proofs.lemmas.List.Elements.{All-nil}
use Rattle.pin_core.specs.Sound.{AgreesWith, IsGiven}
use Rattle.shared_cells.specs.declared.view.Entry.{Entry}
use Rattle.shared_cells.specs.declared.view.View.{View}
use Rattle.shared_cells.specs.Views.{core_size}
use Rattle.shared_cells.proofs.Seats.{turn_there, pass_there, told_there}
use Rattle.cell_tests.proofs.account.pay.Goals as goal

-- payments lower no sum
sums_rise : (sum : ℕ) (entries : List (Entry ℕ)) → sum ≤ fold (λ s e. s + e.change) sum entries
sums_rise sum [] = omega arith
sums_rise sum (e ∷ es) = let l = sums_rise (sum + e.change) es in omega arith

pub publish-version-requires-clause-can : goal.publish-version-requires-clause-can
publish-version-requires-clause-can c =
    let seat = c.look-word.new.self in
    let view = seat.place.me.0 in
    let turn = turn_there view.turn seat.turn in
    let own = pass_there view.pass seat.number seat.is_pass in
    let opening = told_there view.seen.opening seat.told in
    let first = c.join-joined.ensures.joined in
    let here : length view.seen.history ≡ c.args.turn.version = ap (λ (v : View ℕ ℕ). length v.seen.history) (c.look-word.ensures.same.0 ∙ first) ∙ sym c.args.turn.version_is in
    let room = c.requires.room in
    record {
      turn = turn.0;
      own = own.0;
      opening = opening.0;
      entry = c.args.amount;
      is_turn = turn.1;
      is_pass = own.1;
      is_open = opening.1;
      is_change = refl;
      few = omega arith;
      fits = record { rooted = refl; once = λ i j d l within. absurd (omega arith); unchanged = All-nil (AgreesWith turn.0.words); given = All-nil (IsGiven (core_size c.args.account.now.table.shared.key) turn.0.words) };
      good = sums_rise opening.0 (view.seen.history ++ record { author = own.0.number; change = c.args.amount } ∷ []);
      stood = refl;
      allowed = tt;
    }
