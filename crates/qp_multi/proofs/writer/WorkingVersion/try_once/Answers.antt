use Rattle.std.proofs.Common.{◌≡◌, ◌∙◌, refl, sym, subst}
use Rattle.shared_cells.specs.Cells.{Cells, HasCell}
use Rattle.qp_multi.specs.Bases.{IsRooted}
use Rattle.qp_multi.specs.WorkingVersions.{working_set}
use Rattle.qp_multi.specs.Turns.{cells_with}
use Rattle.qp_multi.proofs.WordsLaws.{same_words, lent_begins}
use Rattle.qp_multi.proofs.AttemptLaws.{Returned, leaves_of, ready_of, returned_of, wide_back, agrees_back, base_back, passes_back, tried_of}
use Rattle.qp_multi.proofs.writer.WorkingVersion.try_once.Goals as goal

-- the cells as they were lent

pub change_trie-outcome-requires : goal.change_trie-outcome-requires
change_trie-outcome-requires g c =
    let d = c.args.self in
    let begun : c.lend-cells.result ≡ cells_with d.usage d.seat.place.me.0.turn = lent_begins _ _ _ _ _ _ _ c.lend-cells.ensures.cells c.requires.lent.1 d.wide c.args.shared.now.wide (same_words _ _ c.requires.can.table) in
    record {
      rooted = (working_set d, subst (λ (k : Cells). IsRooted (HasCell k) d.usage d.root (working_set d)) (sym begun) c.requires.can.works);
      leads = c.requires.can.leads;
      ready = ready_of begun d.agrees;
    }

-- and as they came back
returned : (g : _) (c : goal.After-result-1 g) → Returned c.lend-cells.result c.change_trie-outcome.new.cells c.args.self.seat.place.me.0 c.into_joined.result.place.me.0 c.args.self.usage c.change_trie-outcome.new.usage c.args.self.seat.passes
returned g c =
    let back = c.into_joined.ensures in
    let leaves = leaves_of {lent = c.change_trie-outcome.new.cells} {n = c.change_trie-outcome.new.usage} c.change_trie-outcome.ensures.changes.frame c.change_trie-outcome.ensures.changes.ready in
    returned_of _ c.args.self.seat c.into_joined.result c.lend-cells.ensures.cells c.args.shared.now.wide c.requires.can.table back.cells back.seat back.size c.requires.lent c.args.self.wide leaves c.args.self.agrees

pub invariant_of-working : goal.invariant_of-working
invariant_of-working g c =
    let d = c.args.self in
    let back = c.into_joined.ensures in
    let leaves = leaves_of {lent = c.change_trie-outcome.new.cells} {n = c.change_trie-outcome.new.usage} c.change_trie-outcome.ensures.changes.frame c.change_trie-outcome.ensures.changes.ready in
    let l = returned_of _ c.args.self.seat c.into_joined.result c.lend-cells.ensures.cells c.args.shared.now.wide c.requires.can.table back.cells back.seat back.size c.requires.lent c.args.self.wide leaves c.args.self.agrees in
    record {
      wide = wide_back d.seat c.into_joined.result l d.wide c.requires.lent.0 c.into_joined.ensures.table;
      agrees = agrees_back d.seat c.into_joined.result l;
      base_is = base_back l d.base d.base_is;
    }

pub returns-clause-left : goal.returns-clause-left
returns-clause-left g c = record { table = c.into_joined.ensures.table ∙ sym c.requires.lent.0; passes = passes_back c.args.self.seat c.into_joined.result (returned g c); root = refl; log = refl }

pub returns-clause-tried : goal.returns-clause-tried
returns-clause-tried g c = let trie = c.change_trie-outcome.ensures in tried_of (returned g c) c.args.self.root c.args.change.now c.change_trie-outcome.result trie.changes.frame.spares trie.done trie.refused trie.stays trie.changes.consumes
