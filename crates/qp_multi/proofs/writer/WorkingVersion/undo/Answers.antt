use Rattle.std.proofs.Common.{◌≡◌, ◌∙◌, ◌+◌, ◌*◌, ℕ, List, length, Option, sym, ap, subst}
use Rattle.chunk_usage.specs.Keeping.{freed, restored}
use Rattle.chunk_usage.specs.Ledger.{Ledger}
use Rattle.trie_model.specs.Keys.{Entry}
use Rattle.shared_cells.specs.declared.view.Seen.{Seen}
use Rattle.shared_cells.specs.declared.view.TurnView.{TurnView}
use Rattle.shared_cells.specs.Cells.{cells_of}
use Rattle.shared_cells.specs.Views.{kept_in, words_of}
use Rattle.qp_multi.specs.declared.meaning.Operation.{Operation}
use Rattle.qp_multi.specs.Passes.{Known}
use Rattle.qp_multi.specs.Turns.{Agrees, cells_with, current_root}
use Rattle.qp_multi.proofs.KeepLaws.{agrees_restored}
use Rattle.qp_multi.proofs.RoomyLaws.{undone_rests}
use Rattle.qp_multi.proofs.WordsLaws.{freed_chunks, same_words, words_kept}
use Rattle.qp_multi.proofs.writer.WorkingVersion.undo.Goals as goal

pub free_unreached-seat-requires-clause-seat : goal.free_unreached-seat-requires-clause-seat
free_unreached-seat-requires-clause-seat g c = record {
  table = c.requires.table;
  wide = ap (λ (l : Ledger). 4161 + 2048 * length l.given) c.restore.ensures.after ∙ c.args.self.wide;
  agrees = (let u = c.args.self.usage in
      let seat = c.args.self.seat in
      let after = c.restore.ensures.after in
      subst (λ (n : ℕ). Agrees (cells_of n seat.place.me.0.turn) c.restore.new.self seat.passes) (sym (ap (λ (l : Ledger). length l.given) after))
      (agrees_restored (cells_with u seat.place.me.0.turn) u c.restore.new.self seat.passes after c.restore.ensures.used c.args.self.agrees));
}

pub invariant_of-writer : goal.invariant_of-writer
invariant_of-writer g c =
    let d = c.args.self in
    let v : Known = d.seat.place.me.0 in
    let y : Known = c.free_unreached-seat.result.0.place.me.0 in
    let z : Known = c.split-seat.result.0.place.me.0 in
    let last = c.free_unreached-seat.new.usage in
    let free = c.free_unreached-seat.ensures in
    let split = c.split-seat.ensures in
    let usage : last ≡ freed (restored d.usage) = free.frees.after ∙ ap freed c.restore.ensures.after in
    let turn : z.turn ≡ y.turn = ap (λ (k : Known). k.turn) split.turn.0 in
    let kept_last : kept_in z.turn ≡ kept_in v.turn = ap kept_in turn ∙ ap (λ (k : Known). kept_in k.turn) free.seat.known ∙ words_kept v.turn (words_of y.turn) in
    let passes : c.split-seat.result.0.passes ≡ d.seat.passes = split.turn.2 ∙ free.seat.passes in
    let seen : z.seen ≡ v.seen = ap (λ (k : Known). k.seen) split.turn.0 ∙ ap (λ (k : Known). k.seen) free.seat.known in
    record {
      wide = ap (λ (n : ℕ). 4161 + 2048 * n) (ap (λ (l : Ledger). length l.given) usage ∙ freed_chunks (restored d.usage)) ∙ d.wide ∙ sym (same_words _ _ (split.tables.0 ∙ free.seat.table));
      agrees = subst (λ (n : ℕ). Agrees (cells_with last z.turn) last n) (sym passes) (subst (λ (t : Option TurnView). Agrees (cells_with last t) last d.seat.passes) (sym turn) free.frees.agrees);
      at_rest = record {
        live = ap (λ (l : Ledger). l.live) usage ∙ sym (ap (λ (l : Ledger). l.last_live) usage);
        bump = ap (λ (l : Ledger). l.bump) usage ∙ sym (ap (λ (l : Ledger). l.fender) usage);
      };
      root_is = d.base_is ∙ sym (ap current_root kept_last);
      rests = undone_rests (cells_with last y.turn) d.usage last d.seat.passes v.seen z.seen usage free.frees.agrees
          (ap (λ (s : Seen (List Entry) (List Operation)). s.opening) seen) (ap (λ (s : Seen (List Entry) (List Operation)). s.history) seen) c.requires.room.rows c.requires.room.rests;
    }
