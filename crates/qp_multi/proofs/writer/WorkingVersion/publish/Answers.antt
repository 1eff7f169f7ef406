use Rattle.std.proofs.Common.{◌≡◌, ◌∙◌, ◌+◌, ◌*◌, ◌++◌, ◌∷◌, [], ℕ, List, length, Option, refl, sym, ap, subst, arith, length-append}
use Rattle.std.proofs.lemmas.List.{length-map}
use Rattle.pin_core.specs.declared.kept.Kept.{Kept}
use Rattle.chunk_usage.specs.Ledger.{Ledger, Row, free_count}
use Rattle.chunk_usage.specs.Keeping.{AreOlder, freed, frozen, kept_versions, narrowed}
use Rattle.trie_model.specs.Keys.{Entry}
use Rattle.shared_cells.specs.declared.view.Naming.{Naming}
use Rattle.shared_cells.specs.declared.view.Seen.{Seen}
use Rattle.shared_cells.specs.declared.view.TurnView.{TurnView}
use Rattle.shared_cells.specs.History.{entry_of}
use Rattle.shared_cells.specs.Views.{kept_in, kept_of, words_of}
use Rattle.shared_cells.proofs.Seats.{turn_there, pass_there, told_there}
use Rattle.qp_multi.specs.declared.meaning.Operation.{Operation}
use Rattle.qp_multi.specs.WorkingVersions.{working_set}
use Rattle.qp_multi.specs.Images.{image_at}
use Rattle.qp_multi.specs.Keepings.{Rounds}
use Rattle.qp_multi.specs.Passes.{Known}
use Rattle.qp_multi.specs.Turns.{Agrees, AgreesWithin, cells_with, current_root}
use Rattle.qp_multi.proofs.PublishLaws.{all_older, can_publish, agrees_published, root_published}
use Rattle.qp_multi.proofs.RoomyLaws.{published_rests}
use Rattle.qp_multi.proofs.WorkLaws.{rounds_of}
use Rattle.qp_multi.proofs.WordsLaws.{freed_chunks, same_chunks, same_words, words_kept}
use Rattle.qp_multi.proofs.writer.WorkingVersion.publish.Goals as goal

pub publish-version-requires-clause-can : goal.publish-version-requires-clause-can
publish-version-requires-clause-can g c =
    let d = c.args.self in
    let v : Known = d.seat.place.me.0 in
    let turn = turn_there v.turn d.seat.turn in
    let own = pass_there v.pass d.seat.number d.seat.is_pass in
    let opening = told_there v.seen.opening d.seat.told in
    let version = d.seat.version_is in
    let next = c.requires.can.next in
    can_publish v d.usage c.known.ensures d.seat.passes d.agrees d.root (working_set d) c.requires.can.works g.L.Law.lawful g.L.Law.most_operations c.args.shared.now.table.shared.key turn.0 own.0 opening.0 d.log.operations turn.1 own.1 opening.1
    (same_chunks _ _ _ _ c.args.shared.now.wide d.wide (same_words _ _ (sym c.requires.can.table))) (omega arith) refl c.requires.can.lawful c.requires.can.few_operations

pub freeze-requires-clause-newer : goal.freeze-requires-clause-newer
freeze-requires-clause-newer g c =
    let d = c.args.self in
    subst (AreOlder d.usage.rows) (sym c.publish-version.ensures.version)
    (subst (λ (rows : List Row). AreOlder rows (d.seat.version + 1)) (sym d.agrees.rows) (all_older (length d.usage.given) (kept_in d.seat.place.me.0.turn) d.seat.version c.requires.can.newest))

pub make_round-requires-clause-agrees : goal.make_round-requires-clause-agrees
make_round-requires-clause-agrees g c =
    let d = c.args.self in
    let v : Known = d.seat.place.me.0 in
    let w : Known = c.publish-version.new.seat.place.me.0 in
    let new = c.freeze.new.self in
    let p = c.publish-version.ensures.published in
    let number : c.publish-version.result ≡ length v.seen.history + 1 = c.publish-version.ensures.version ∙ ap (λ (n : ℕ). n + 1) d.seat.version_is in
    let latest : Kept = kept_of (length v.seen.history + 1) d.root (image_at (words_of v.turn) d.root) in
    let kept_now : kept_in w.turn ≡ kept_in v.turn ++ latest ∷ [] = ap (λ (x : Known). kept_in x.turn) p.6 ∙ ap (λ (t : Option TurnView). kept_in t ++ latest ∷ []) (sym p.3) in
    let words_now : words_of w.turn ≡ words_of v.turn = ap (λ (x : Known). words_of x.turn) p.6 ∙ ap words_of (sym p.3) in
    subst (λ (n : ℕ). AgreesWithin (n + 2) (cells_with new w.turn) new n) (sym c.publish-version.ensures.seat.passes)
    (agrees_published v d.usage c.known.ensures d.seat.passes d.agrees d.root (working_set d) c.requires.can.works w new c.publish-version.result number c.freeze.ensures.after c.freeze.ensures.settled kept_now words_now)

pub free_unreached-seat-requires-clause-seat : goal.free_unreached-seat-requires-clause-seat
free_unreached-seat-requires-clause-seat g c =
    let round = c.make_round.ensures in
    let seat = c.make_round.new.seat in
    let u = c.make_round.new.usage in
    let usage : u ≡ narrowed (frozen c.args.self.usage c.publish-version.result) (kept_versions u) = round.narrows.usage ∙ ap (λ (l : Ledger). narrowed l (kept_versions u)) c.freeze.ensures.after in
    let table = round.seat.table ∙ c.publish-version.ensures.seat.table in
    record {
      table = table ∙ c.requires.can.table;
      wide = ap (λ (l : Ledger). 4161 + 2048 * length l.given) usage ∙ c.args.self.wide ∙ sym (same_words _ _ table);
      agrees = subst (λ (n : ℕ). Agrees (cells_with u seat.place.me.0.turn) u n) (sym round.seat.passes) round.narrows.agrees;
    }

pub invariant_of-writer : goal.invariant_of-writer
invariant_of-writer g c =
    let d = c.args.self in
    let v : Known = d.seat.place.me.0 in
    let w : Known = c.publish-version.new.seat.place.me.0 in
    let x : Known = c.make_round.new.seat.place.me.0 in
    let y : Known = c.free_unreached-seat.result.0.place.me.0 in
    let z : Known = c.split-seat.result.0.place.me.0 in
    let last = c.free_unreached-seat.new.usage in
    let p = c.publish-version.ensures.published in
    let round = c.make_round.ensures in
    let free = c.free_unreached-seat.ensures in
    let split = c.split-seat.ensures in
    let number : c.publish-version.result ≡ length v.seen.history + 1 = c.publish-version.ensures.version ∙ ap (λ (n : ℕ). n + 1) d.seat.version_is in
    let latest : Kept = kept_of (length v.seen.history + 1) d.root (image_at (words_of v.turn) d.root) in
    let kept_now : kept_in w.turn ≡ kept_in v.turn ++ latest ∷ [] = ap (λ (k : Known). kept_in k.turn) p.6 ∙ ap (λ (t : Option TurnView). kept_in t ++ latest ∷ []) (sym p.3) in
    let words_now : words_of w.turn ≡ words_of v.turn = ap (λ (k : Known). words_of k.turn) p.6 ∙ ap words_of (sym p.3) in
    let usage : last ≡ freed (narrowed (frozen d.usage c.publish-version.result) (kept_versions c.make_round.new.usage)) =
    free.frees.after ∙ ap freed (round.narrows.usage ∙ ap (λ (l : Ledger). narrowed l (kept_versions c.make_round.new.usage)) c.freeze.ensures.after) in
    let turn : z.turn ≡ y.turn = ap (λ (k : Known). k.turn) split.turn.0 in
    let kept_last : kept_in z.turn ≡ kept_in x.turn = ap kept_in turn ∙ ap (λ (k : Known). kept_in k.turn) free.seat.known ∙ words_kept x.turn (words_of y.turn) in
    let passes : c.split-seat.result.0.passes ≡ c.make_round.new.seat.passes = split.turn.2 ∙ free.seat.passes in
    let seen : z.seen ≡ x.seen = ap (λ (k : Known). k.seen) split.turn.0 ∙ ap (λ (k : Known). k.seen) free.seat.known in
    record {
      wide = ap (λ (n : ℕ). 4161 + 2048 * n) (ap (λ (l : Ledger). length l.given) usage ∙ freed_chunks (narrowed (frozen d.usage c.publish-version.result) (kept_versions c.make_round.new.usage)))
          ∙ d.wide ∙ sym (same_words _ _ (split.tables.0 ∙ free.seat.table ∙ round.seat.table ∙ c.publish-version.ensures.seat.table));
      agrees = subst (λ (n : ℕ). Agrees (cells_with last z.turn) last n) (sym passes) (subst (λ (t : Option TurnView). Agrees (cells_with last t) last c.make_round.new.seat.passes) (sym turn) free.frees.agrees);
      at_rest = record {
        live = ap (λ (l : Ledger). l.live) usage ∙ sym (ap (λ (l : Ledger). l.last_live) usage);
        bump = ap (λ (l : Ledger). l.bump) usage ∙ sym (ap (λ (l : Ledger). l.fender) usage);
      };
      root_is = sym (ap current_root kept_last ∙ round.keeps.root
          ∙ root_published v d.usage c.known.ensures d.seat.passes d.agrees d.root (working_set d) c.requires.can.works w c.freeze.new.self c.publish-version.result number c.freeze.ensures.after c.freeze.ensures.settled kept_now words_now);
      rests = published_rests (cells_with last y.turn) d last c.make_round.new.seat.passes c.publish-version.result (kept_versions c.make_round.new.usage) z.seen (entry_of p.1.number p.2) c.known.ensures c.requires.can.works usage free.frees.agrees
          (ap (λ (s : Seen (List Entry) (List Operation)). s.opening) seen ∙ round.seat.goes_on.opening ∙ ap (λ (k : Known). k.seen.opening) p.6)
          (ap (λ (s : Seen (List Entry) (List Operation)). s.history) seen ∙ round.seat.goes_on.history ∙ ap (λ (k : Known). k.seen.history) p.6)
          (cc) c.requires.room.rows c.requires.room.thin c.requires.room.small;
    }

pub returns-clause-receipt : goal.returns-clause-receipt
returns-clause-receipt g c = record {
  version = c.of-receipt.ensures.0 ∙ c.publish-version.ensures.version;
  whole = c.of-receipt.ensures.3;
  publishes = (let d = c.args.self in
      let v : Known = d.seat.place.me.0 in
      let w : Known = c.publish-version.new.seat.place.me.0 in
      let round = c.make_round.ensures in
      let free = c.free_unreached-seat.ensures in
      let receipt = c.of-receipt.ensures in
      let split = c.split-seat.ensures.pass.0 in
      let p = c.publish-version.ensures in
      let version : c.publish-version.new.seat.version ≡ c.of-receipt.result.version =
      c.publish-version.new.seat.version_is ∙ ap (λ (k : Known). length k.seen.history) p.published.6 ∙ length-append v.seen.history (record { author = p.published.1.number; change = p.published.2 } ∷ [])
      ∙ ap (λ (n : ℕ). n + 1) (sym d.seat.version_is) ∙ sym p.version ∙ sym receipt.0 in
      let start : c.freeze.new.self ≡ frozen d.usage c.of-receipt.result.version = c.freeze.ensures.after ∙ ap (frozen d.usage) (sym receipt.0) in
      let after : c.split-seat.result.1.place.me.0.seen ≡ c.make_round.new.seat.place.me.0.seen = ap (λ (k : Known). k.seen) split ∙ ap (λ (k : Known). k.seen) free.seat.known in
      record {
        published = w;
        publishes = p.published;
        history = ap (λ (s : Seen (List Entry) (List Operation)). s.history) after ∙ round.seat.goes_on.history;
        pass = ap (λ (k : Known). k.pass) split ∙ ap (λ (k : Known). k.pass) free.seat.known ∙ round.seat.goes_on.pass;
        left = c.free_unreached-seat.new.usage;
        round = subst (λ (u : Ledger). Rounds c.of-receipt.result.version d.seat.passes v.seen.namings c.split-seat.result.1.place.me.0.seen.namings u c.free_unreached-seat.new.usage) start
            (subst (λ (ns : List Naming). Rounds c.of-receipt.result.version d.seat.passes ns c.split-seat.result.1.place.me.0.seen.namings c.freeze.new.self c.free_unreached-seat.new.usage) (ap (λ (k : Known). k.seen.namings) p.published.6)
            (subst (λ (n : ℕ). Rounds n d.seat.passes w.seen.namings c.split-seat.result.1.place.me.0.seen.namings c.freeze.new.self c.free_unreached-seat.new.usage) version
            (subst (λ (n : ℕ). Rounds c.publish-version.new.seat.version n w.seen.namings c.split-seat.result.1.place.me.0.seen.namings c.freeze.new.self c.free_unreached-seat.new.usage) p.seat.passes
            (rounds_of round.keeps.kept round.narrows.usage free.frees.after (ap (λ (s : Seen (List Entry) (List Operation)). s.namings) after)))));
        freed = free.frees.counts ∙ ap (λ (l : Ledger). free_count l + c.free_unreached-seat.result.1) (round.narrows.usage ∙ ap (λ (l : Ledger). narrowed l (kept_versions c.make_round.new.usage)) c.freeze.ensures.after) ∙ ap (λ (n : ℕ). free_count d.usage + n) (sym receipt.1);
        kept = receipt.2 ∙ sym (length-map c.free_unreached-seat.new.usage.rows (λ (row : Row). row.version));
      });
}
