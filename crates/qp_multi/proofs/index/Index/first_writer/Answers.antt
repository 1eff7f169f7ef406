use Rattle.std.proofs.Common.{◌≡◌, ◌∙◌, ◌+◌, ◌*◌, ◌∷◌, [], ℕ, length, Option, Result, sym, ap, subst}
use Rattle.std.specs.Prelude.{IfOk}
use Rattle.pin_core.specs.declared.kept.Kept.{Kept}
use Rattle.chunk_usage.specs.declared.space.Shortage.{Shortage}
use Rattle.chunk_usage.specs.Ledger.{Ledger, Frozen}
use Rattle.trie_write.specs.Entries.{entries_of_items}
use Rattle.shared_cells.specs.Views.{kept_in, kept_of, words_of}
use Rattle.shared_cells.proofs.Seats.{turn_there}
use Rattle.qp_multi.specs.Bases.{StandsFor}
use Rattle.qp_multi.specs.Images.{image_at}
use Rattle.qp_multi.specs.Passes.{Known, first_version}
use Rattle.qp_multi.specs.Turns.{current_root}
use Rattle.qp_multi.proofs.FirstLaws.{can_open, first_agrees}
use Rattle.qp_multi.proofs.RoomyLaws.{first_rests}
use Rattle.qp_multi.proofs.WordsLaws.{same_passes, same_words}
use Rattle.qp_multi.proofs.index.Index.first_writer.Goals as goal

pub open_turn-seat-requires-clause-can : goal.open_turn-seat-requires-clause-can
open_turn-seat-requires-clause-can g c =
    let v : Known = c.fill-turn.result.0.place.me.0 in
    let u = c.fill-turn.new.usage in
    let es = entries_of_items c.args.items.now in
    let fill = c.fill-turn.ensures in
    let works : StandsFor v u c.in-Ok.root es = subst (λ (r : Result (Option ℕ) Shortage). IfOk r (λ root. StandsFor v u root es)) c.in-Ok.is fill.stands in
    let turn = turn_there v.turn c.fill-turn.result.0.turn in
    can_open v u c.known.ensures fill.filled.given c.in-Ok.root es works g.L.Law.lawful c.args.shared.now.table.shared.key turn.0 turn.1 (c.requires.can.size ∙ sym fill.filled.size) c.requires.lawful

pub invariant_of-result : goal.invariant_of-result
invariant_of-result g c =
    let v : Known = c.fill-turn.result.0.place.me.0 in
    let w : Known = c.open_turn-seat.result.place.me.0 in
    let u = c.fill-turn.new.usage in
    let new = c.freeze.new.self in
    let root = c.in-Ok.root in
    let es = entries_of_items c.args.items.now in
    let fill = c.fill-turn.ensures in
    let works : StandsFor v u root es = subst (λ (r : Result (Option ℕ) Shortage). IfOk r (λ root. StandsFor v u root es)) c.in-Ok.is fill.stands in
    let opened = c.open_turn-seat.ensures.opened in
    let is_first : opened.1 ≡ es = cc in
    let first : Kept = kept_of 0 root (image_at (words_of v.turn) root) in
    let kept_now : kept_in w.turn ≡ first ∷ [] = ap (λ (x : Known). kept_in x.turn) opened.4 in
    let words_now : words_of w.turn ≡ words_of v.turn = ap (λ (x : Known). words_of x.turn) opened.4 ∙ ap words_of (sym opened.2) in
    let count : c.fill-turn.result.0.passes ≡ c.args.turn.passes = same_passes c.args.turn.place.me.0 v (words_of v.turn) c.args.turn.passes c.fill-turn.result.0.passes fill.filled.same c.args.turn.blank c.fill-turn.result.0.blank in
    let passes : u.passes ≡ c.open_turn-seat.result.passes = ap (λ (f : Frozen). f.passes) fill.filled.frozen ∙ c.requires.can.unused.passes_are ∙ sym (c.open_turn-seat.ensures.passes ∙ count) in
    let no_rows : u.rows ≡ [] = ap (λ (f : Frozen). f.rows) fill.filled.frozen ∙ c.requires.can.unused.no_rows in
    record {
      wide = ap (λ (n : ℕ). 4161 + 2048 * n) (ap (λ (l : Ledger). length l.given) c.freeze.ensures.after ∙ fill.filled.size ∙ sym c.requires.can.size)
          ∙ c.args.shared.now.wide ∙ sym (same_words _ _ (c.open_turn-seat.ensures.table ∙ fill.filled.table ∙ c.requires.can.table));
      agrees = first_agrees v u c.known.ensures fill.filled.given root es works w new c.open_turn-seat.result.passes no_rows passes c.freeze.ensures.after c.freeze.ensures.settled kept_now words_now;
      at_rest = record {
        live = ap (λ (l : Ledger). l.live) c.freeze.ensures.after ∙ sym (ap (λ (l : Ledger). l.last_live) c.freeze.ensures.after);
        bump = ap (λ (l : Ledger). l.bump) c.freeze.ensures.after ∙ sym (ap (λ (l : Ledger). l.fender) c.freeze.ensures.after);
      };
      root_is = sym (ap current_root kept_now);
      rests = first_rests u new es w.seen c.known.ensures no_rows c.freeze.ensures.after fill.filled.consumes (ap (λ (x : Known). first_version x.seen) opened.4 ∙ is_first);
    }
