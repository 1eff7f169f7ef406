use Rattle.std.proofs.Common.{◌≡◌, ◌∙◌, length, sym, ap, subst, refl}
use Rattle.chunk_usage.specs.Ledger.{Ledger}
use Rattle.chunk_usage.specs.Keeping.{freed}
use Rattle.shared_cells.specs.Views.{kept_in, words_of}
use Rattle.shared_cells.specs.Cells.{Cells, with_words, HasCell}
use Rattle.qp_multi.specs.Passes.{Known}
use Rattle.qp_multi.specs.Turns.{Agrees, cells_with}
use Rattle.qp_multi.specs.Bases.{IsRooted}
use Rattle.qp_multi.proofs.AttemptLaws.{rooted_there}
use Rattle.qp_multi.proofs.FreedLaws.{rooted_freed}
use Rattle.qp_multi.proofs.KeepLaws.{kept_in_rows, agrees_freed}
use Rattle.qp_multi.proofs.WordsLaws.{words_kept, same_words, same_chunks, same_passes, freed_chunks, given_after, lent_begins}
use Rattle.qp_multi.proofs.freeing.free_unreached.Goals as goal

pub free_unreached-count-requires-clause-in_rows : goal.free_unreached-count-requires-clause-in_rows
free_unreached-count-requires-clause-in_rows g c =
    let u = c.args.usage.now in
    let seat = c.args.seat in
    let cells : c.lend-cells.result ≡ cells_with u seat.place.me.0.turn = lent_begins _ _ _ _ _ _ _ c.lend-cells.ensures.cells c.requires.lent.1 c.requires.seat.wide c.args.shared.now.wide (same_words _ _ c.requires.seat.table) in
    kept_in_rows c.lend-cells.result u c.known.ensures seat.passes (ap (λ (k : Cells). k.chunks) cells) (subst (λ (k : Cells). Agrees k u seat.passes) (sym cells) c.requires.seat.agrees)

pub returns-clause-stands : goal.returns-clause-stands
returns-clause-stands g c root es stands =
    let u = c.args.usage.now in
    let seat = c.args.seat in
    let lent = c.free_unreached-count.new.cells in
    let back = c.into_joined.ensures in
    let now = c.free_unreached-count.new.self in
    let after : now ≡ freed u = c.free_unreached-count.ensures.usage.after in
    let first : c.lend-cells.result ≡ cells_with u seat.place.me.0.turn = lent_begins _ _ _ _ _ _ _ c.lend-cells.ensures.cells c.requires.lent.1 c.requires.seat.wide c.args.shared.now.wide (same_words _ _ c.requires.seat.table) in
    let count : lent.chunks ≡ length (freed u).given = same_chunks _ _ _ _ back.size c.requires.seat.wide (same_words _ _ (sym c.requires.lent.0)) ∙ sym (freed_chunks u) in
    let words : words_of c.into_joined.result.place.me.0.turn ≡ lent.words = ap (λ (k : Cells). k.words) back.cells in
    rooted_there lent (cells_with now c.into_joined.result.place.me.0.turn) (ap (λ (l : Ledger). length l.given) after ∙ sym count) words now root es
    (subst (λ (l : Ledger). IsRooted (HasCell lent) l root es) (sym after)
    (rooted_freed (HasCell c.lend-cells.result) (HasCell lent) u root es c.free_unreached-count.ensures.cells.others
    (subst (λ (k : Cells). IsRooted (HasCell k) u root es) (sym first) stands)))

pub returns-clause-seat : goal.returns-clause-seat
returns-clause-seat g c =
    let seat = c.args.seat in
    let back = c.into_joined.ensures in
    let lent = c.free_unreached-count.new.cells in
    let view : c.into_joined.result.place.me.0 ≡ with_words seat.place.me.0 lent.words = back.seat ∙ ap (λ (v : Known). with_words v lent.words) (sym c.requires.lent.1) in
    let words : words_of c.into_joined.result.place.me.0.turn ≡ lent.words = ap (λ (k : Cells). k.words) back.cells in
    record {
      table = back.table ∙ sym c.requires.lent.0;
      known = view ∙ ap (with_words seat.place.me.0) (sym words);
      passes = same_passes seat.place.me.0 c.into_joined.result.place.me.0 lent.words seat.passes c.into_joined.result.passes view seat.blank c.into_joined.result.blank;
    }

pub returns-clause-frees : goal.returns-clause-frees
returns-clause-frees g c = record {
  after = c.free_unreached-count.ensures.usage.after;
  counts = c.free_unreached-count.ensures.usage.more;
  agrees = (let u = c.args.usage.now in
      let seat = c.args.seat in
      let after = c.free_unreached-count.ensures.usage.after in
      let lent = c.free_unreached-count.new.cells in
      let view : c.into_joined.result.place.me.0 ≡ with_words seat.place.me.0 lent.words = c.into_joined.ensures.seat ∙ ap (λ (v : Known). with_words v lent.words) (sym c.requires.lent.1) in
      let count : lent.chunks ≡ length (freed u).given = same_chunks _ _ _ _ c.into_joined.ensures.size c.requires.seat.wide (same_words _ _ (sym c.requires.lent.0)) ∙ sym (freed_chunks u) in
      subst (λ (l : Ledger). Agrees (cells_with l c.into_joined.result.place.me.0.turn) l seat.passes) (sym after)
      (agrees_freed (cells_with u seat.place.me.0.turn) (cells_with (freed u) c.into_joined.result.place.me.0.turn) u seat.passes c.known.ensures refl (freed_chunks u)
      (ap (λ (v : Known). kept_in v.turn) view ∙ words_kept seat.place.me.0.turn lent.words)
      (given_after (length (freed u).given) c.into_joined.result.place.me.0.turn lent (kept_in g.B.Lent.view.turn) (freed u).given count c.into_joined.ensures.cells (c.free_unreached-count.ensures.cells.same ∙ ap (λ (l : Ledger). l.given) after))
      c.requires.seat.agrees));
}
