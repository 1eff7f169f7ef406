use Rattle.std.proofs.Common.{◌≡◌, ◌∙◌, ap, refl, sym, subst}
use Rattle.chunk_usage.specs.Rooms.{account_of}
use Rattle.trie_space.specs.Standing.{HasTrie}
use Rattle.shared_cells.specs.Cells.{Cells, HasCell}
use Rattle.shared_cells.specs.Views.{kept_in, words_of}
use Rattle.qp_multi.specs.WorkingVersions.{working_set}
use Rattle.qp_multi.specs.Keepings.{GoesOn}
use Rattle.qp_multi.specs.Passes.{Known}
use Rattle.qp_multi.specs.Turns.{cells_with}
use Rattle.qp_multi.proofs.GoesLaws.{words_go_on}
use Rattle.qp_multi.proofs.WordsLaws.{same_words, lent_begins, words_kept}
use Rattle.qp_multi.proofs.WorkLaws.{stands_on, version_on}
use Rattle.qp_multi.proofs.AttemptLaws.{ready_of, returned_of, wide_back, agrees_back, base_back, passes_back}
use Rattle.qp_multi.proofs.MovingLaws.{leaves_moved, moved_of}
use Rattle.qp_multi.proofs.writer.WorkingVersion.evacuate.Goals as goal

-- the cells as they were lent

pub evacuate-root-requires-clause-ready : goal.evacuate-root-requires-clause-ready
evacuate-root-requires-clause-ready g c =
    let d = c.args.self in
    let begun : c.lend-cells.result ≡ cells_with d.usage d.seat.place.me.0.turn = lent_begins _ _ _ _ _ _ _ c.lend-cells.ensures.cells c.requires.lent.1 d.wide c.args.shared.now.wide (same_words _ _ c.requires.working.table) in
    ready_of begun d.agrees

pub evacuate-root-requires-clause-stands : goal.evacuate-root-requires-clause-stands
evacuate-root-requires-clause-stands g c =
    let d = c.args.self in
    let begun : c.lend-cells.result ≡ cells_with d.usage d.seat.place.me.0.turn = lent_begins _ _ _ _ _ _ _ c.lend-cells.ensures.cells c.requires.lent.1 d.wide c.args.shared.now.wide (same_words _ _ c.requires.working.table) in
    (working_set d, subst (λ (k : Cells). HasTrie HasCell account_of k d.usage d.root (working_set d)) (sym begun) c.requires.working.works.stands)

pub invariant_of-working : goal.invariant_of-working
invariant_of-working g c =
    let d = c.args.self in
    let back = c.into_joined.ensures in
    let leaves = leaves_moved {lent = c.evacuate-root.new.cells} {n = c.evacuate-root.new.usage} c.evacuate-root.ensures.rest in
    let l = returned_of _ c.args.self.seat c.into_joined.result c.lend-cells.ensures.cells c.args.shared.now.wide c.requires.working.table back.cells back.seat back.size c.requires.lent c.args.self.wide leaves c.args.self.agrees in
    record {
      wide = wide_back d.seat c.into_joined.result l d.wide c.requires.lent.0 c.into_joined.ensures.table;
      agrees = agrees_back d.seat c.into_joined.result l;
      base_is = base_back l d.base d.base_is;
    }

-- and as they came back

pub returns : goal.returns
returns g c =
    let d = c.args.self in
    let seat = c.into_joined.result in
    let back = c.into_joined.ensures in
    let leaves = leaves_moved {lent = c.evacuate-root.new.cells} {n = c.evacuate-root.new.usage} c.evacuate-root.ensures.rest in
    let returned = returned_of _ d.seat seat c.lend-cells.ensures.cells c.args.shared.now.wide c.requires.working.table back.cells back.seat back.size c.requires.lent d.wide leaves d.agrees in
    let moved = moved_of returned d.root c.evacuate-root.result.0 c.evacuate-root.result.1 c.known.ensures c.evacuate-root.ensures.trie c.evacuate-root.ensures.chunks in
    let v : Known = d.seat.place.me.0 in
    let w : Known = seat.place.me.0 in
    let on : GoesOn v w = words_go_on v w (words_of w.turn) moved.same in
    record {
      same = record {
        table = back.table ∙ sym c.requires.lent.0;
        works = stands_on v w c.evacuate-root.new.usage c.evacuate-root.result.0 d.log.operations on (moved.stands (working_set d) c.requires.working.works);
        log = refl;
        version = version_on d.seat.version seat.version on d.seat.version_is seat.version_is;
        passes = passes_back d.seat seat returned;
      };
      knows = record { goes_on = on; seen = ap (λ (x : Known). x.seen) moved.same; versions = ap (λ (x : Known). kept_in x.turn) moved.same ∙ words_kept v.turn (words_of w.turn) };
      moves = record { evacuates = moved.evacuates; asks = moved.asks (working_set d) c.requires.working.works };
    }
