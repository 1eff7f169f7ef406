use Rattle.std.proofs.Common.{◌≡◌, ◌∙◌, ◌≤◌, ℕ, Bool, false, length, sym, ap, subst, arith, Option}
use Rattle.std.specs.List.{range_with_len}
use Rattle.std.proofs.lemmas.List.{length-replicate}
use Rattle.chunk_usage.specs.Ledger.{Ledger, unused}
use Rattle.shared_cells.specs.declared.view.TurnView.{TurnView}
use Rattle.qp_multi.specs.Openings.{IsUnused}
use Rattle.qp_multi.specs.Passes.{Known}
use Rattle.qp_multi.proofs.FirstLaws.{is_unused}
use Rattle.qp_multi.proofs.TellLaws.{all_numbered, all_unseen, all_unused}
use Rattle.qp_multi.proofs.opening.Blank.new.Goals as goal

pub invariant_of-result : goal.invariant_of-result
invariant_of-result g c =
    let made = c.in_ok-shared.ensures in
    let key = c.in_ok-shared.shared.table.shared.key in
    let usage = c.in_ok-usage.usage in
    let long : length usage.given ≡ c.args.chunks = ap (λ (l : Ledger). length l.given) c.in_ok-usage.ensures ∙ length-replicate {A = Bool} c.args.chunks false in
    let begun : usage ≡ unused key.chunks c.args.passes = c.in_ok-usage.ensures ∙ ap (λ (n : ℕ). unused n c.args.passes) (sym made.size.1) in
    record {
      turn_here = made.turn.here;
      seats_here = made.passes.places;
      unseen = all_unseen (λ s. s.place.me.0) c.in_ok-shared.seats.items (range_with_len 0 c.args.passes) c.args.chunks made.passes.views;
      unused_seats = all_unused (λ s. s.place.me.0) c.in_ok-shared.seats.items (range_with_len 0 c.args.passes) c.args.chunks made.passes.views;
      numbered = all_numbered (λ s. s.place.me.0) c.in_ok-shared.seats.items 0 c.args.passes c.args.chunks made.passes.views ∙ ap (range_with_len 1) (sym made.size.0);
      size = made.size.1 ∙ sym long;
      some = (let h = c.requires.some_passes in let e : 1 ≤ key.passes = subst (λ (n : ℕ). 1 ≤ n) (sym made.size.0) h in e);
      enough = (let h = c.requires.enough in let e : 16 ≤ length usage.given = omega arith in e);
      unused = subst (λ (n : ℕ). IsUnused c.in_ok-shared.turn.place.me.0.turn usage n) (sym made.turn.count)
          (subst (λ (t : Option TurnView). IsUnused t usage c.args.passes) (sym (ap (λ (v : Known). v.turn) made.turn.view)) (is_unused key c.args.passes c.args.passes usage begun));
    }
