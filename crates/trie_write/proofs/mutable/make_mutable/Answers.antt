use Rattle.std.proofs.Common.{◌/◌, Bool, List, [], map, sym, ◌∙◌, ap, subst}
use Rattle.chunk_cells.specs.Chunks.{IsGiven}
use Rattle.trie_space.specs.Ways.{twigs_of}
use Rattle.trie_write.proofs.AskLaws.{later_of}
use Rattle.trie_space.proofs.SpaceLaws.{fenced_same, refused_same, ready_put, ok_map, err_map}
use Rattle.trie_space.proofs.RootedLaws.{end_used}
use Rattle.trie_write.proofs.SlotLaws.{same_slot_asks, same_slot}
use Rattle.trie_write.proofs.mutable.make_mutable.Goals as goal

pub cell-node-requires : goal.cell-node-requires
cell-node-requires g c = record { there = (_, c.requires.asks.asks.rooted.top) }

pub open_below-requires : goal.open_below-requires
open_below-requires g c =
    let used = end_used [] _ c.requires.asks.asks.rooted in
    record {
      asks = record { spare = c.requires.asks.spare; way = c.requires.asks.way; end = c.requires.asks.end; asks = same_slot_asks c.cell-node.ensures.same c.requires.asks.asks };
      node = λ x h. c.cell-node.ensures.value x (subst (λ s. g.C.CellRead.has s c.args.root x) c.cell-node.ensures.same h);
      writable = record {
        in_use = used;
        mutable = sym c.is_mutable.ensures.value ∙ c.if-is_mutable.true;
        in_given = subst (λ (x : List Bool). IsGiven x (c.args.root / 1024)) (sym (ap g.C.CellWrite.given c.cell-node.ensures.same ∙ c.requires.ready.same)) (c.is_mutable.ensures.given used);
      };
      ready = ready_put c.requires.ready (ap g.C.CellWrite.given c.cell-node.ensures.same) (ap g.C.CellWrite.kept c.cell-node.ensures.same);
    }

pub open_anew-requires : goal.open_anew-requires
open_anew-requires g c = record {
  asks = record { spare = c.requires.asks.spare; way = c.requires.asks.way; end = c.requires.asks.end; asks = same_slot_asks c.cell-node.ensures.same c.requires.asks.asks };
  node = λ x h. c.cell-node.ensures.value x (subst (λ s. g.C.CellRead.has s c.args.root x) c.cell-node.ensures.same h);
  immutable = sym c.is_mutable.ensures.value ∙ c.if-is_mutable.false;
  ready = ready_put c.requires.ready (ap g.C.CellWrite.given c.cell-node.ensures.same) (ap g.C.CellWrite.kept c.cell-node.ensures.same);
}

pub returns-then-is_mutable : goal.returns-then-is_mutable
returns-then-is_mutable g c = record {
  slot = ok_map c.open_below.result (λ slot made spare way end a. same_slot c.cell-node.ensures.same (made spare way end (same_slot_asks c.cell-node.ensures.same a))) c.open_below.ensures.slot;
  lacks = err_map c.open_below.result (λ full n. record { refused = refused_same c.cell-node.ensures.same n.refused; asked = λ spare way end a. later_of 1 full.needed (map twigs_of way) (n.asked spare way end (same_slot_asks c.cell-node.ensures.same a)) }) c.open_below.ensures.lacks;
  opens = record {
    consumes = λ spare way end a. c.open_below.ensures.opens.consumes spare way end (same_slot_asks c.cell-node.ensures.same a);
    frame = fenced_same c.cell-node.ensures.same c.open_below.ensures.opens.frame;
    ready = c.open_below.ensures.opens.ready;
  };
}

pub returns-else-is_mutable : goal.returns-else-is_mutable
returns-else-is_mutable g c = record {
  slot = ok_map c.open_anew.result (λ slot made spare way end a. same_slot c.cell-node.ensures.same (made spare way end (same_slot_asks c.cell-node.ensures.same a))) c.open_anew.ensures.slot;
  lacks = err_map c.open_anew.result (λ full n. record { refused = refused_same c.cell-node.ensures.same n.refused; asked = λ spare way end a. n.asked spare way end (same_slot_asks c.cell-node.ensures.same a) }) c.open_anew.ensures.lacks;
  opens = record {
    consumes = λ spare way end a. c.open_anew.ensures.opens.consumes spare way end (same_slot_asks c.cell-node.ensures.same a);
    frame = fenced_same c.cell-node.ensures.same c.open_anew.ensures.opens.frame;
    ready = c.open_anew.ensures.opens.ready;
  };
}
