use Rattle.std.proofs.Common.{◌≡◌, ◌+◌, ◌/◌, ℕ, map, Contains, arith, refl, sym, ap, subst}
use Rattle.chunk_cells.specs.Chunks.{IsGiven}
use Rattle.chunk_usage.specs.Rooms.{Account}
use Rattle.trie_space.specs.Ways.{twigs_of}
use Rattle.trie_write.proofs.AskLaws.{first_of, later_of}
use Rattle.trie_space.proofs.SpaceLaws.{err_on, frame_then, frame_counts, frame_wrote, wrote_one, fenced_of, ready_counts, ready_put, refused_room, handed_counted, blank_later}
use Rattle.trie_write.proofs.SlotLaws.{root_asks_later, copied_immutable, opened_anew}
use Rattle.trie_write.proofs.mutable.open_anew.Goals as goal

pub room_for-requires : goal.room_for-requires
room_for-requires g c = record { some = omega arith; few = omega arith; ready = c.requires.ready }

pub returns-in_err-root-clause-opens : goal.returns-in_err-root-clause-opens
returns-in_err-root-clause-opens g c = record {
  consumes = λ spare way end a. let s = c.room_for.ensures.takes.consumes in let e = copied_immutable (g.U.Space.account c.args.usage.now).mutable 1 c.args.top.at way c.requires.immutable in omega arith;
  frame = fenced_of c.room_for.ensures.takes.frame;
  ready = c.room_for.ensures.takes.ready;
}

pub returns-in_err-root-clause-lacks : goal.returns-in_err-root-clause-lacks
returns-in_err-root-clause-lacks g c = err_on _ c.from_residual.result c.from_residual.ensures.1 (record {
  refused = c.in_err-root.ensures.lacks.refused;
  asked = λ spare way end a. first_of 1 _ (map twigs_of way) (sym c.in_err-root.ensures.lacks.asked);
})

pub copy_way-requires-clause-asks : goal.copy_way-requires-clause-asks
copy_way-requires-clause-asks g c = record { way = c.requires.asks.way; end = c.requires.asks.end; asks = root_asks_later c.requires.asks.asks c.requires.node c.in_ok-root.ensures.room.handed c.in_ok-root.ensures.takes.frame }

pub release-requires : goal.release-requires
release-requires g c = record { counted = handed_counted (g.U.Space.account c.copy_way.new.usage) c.in_ok-root.ensures.room.handed c.in-Err.ensures.lacks.refused.counts; together = c.in_ok-root.ensures.room.handed.twigs.together }

pub returns-in-Err : goal.returns-in-Err
returns-in-Err g c = record {
  slot = tt;
  lacks = record {
    refused = refused_room refl c.in_ok-root.ensures.takes.frame c.in_ok-root.ensures.room.handed c.in-Err.ensures.lacks.refused c.release.ensures.counts c.release.ensures.lacks;
    asked = λ spare way end a. later_of 1 _ (map twigs_of way) (c.in-Err.ensures.lacks.asked way end (root_asks_later a c.requires.node c.in_ok-root.ensures.room.handed c.in_ok-root.ensures.takes.frame));
  };
  opens = record {
    consumes = λ spare way end a.
        let s = c.room_for.ensures.takes.consumes in
        let d = c.copy_way.ensures.copies.consumes way end (root_asks_later a c.requires.node c.in_ok-root.ensures.room.handed c.in_ok-root.ensures.takes.frame) in
        let r = ap (λ (z : Account). z.consumed) c.release.ensures.rest in
        let e = copied_immutable (g.U.Space.account c.args.usage.now).mutable 1 c.args.top.at way c.requires.immutable in omega arith;
    frame = fenced_of (frame_counts (frame_then c.in_ok-root.ensures.takes.frame c.copy_way.ensures.copies.frame) c.release.ensures.rest (λ k. let e = c.release.ensures.counts k in omega arith));
    ready = ready_counts c.release.ensures.rest c.copy_way.ensures.copies.ready;
  };
}

pub put-requires : goal.put-requires
put-requires g c =
    let b = blank_later c.in_ok-root.ensures.room.blank c.in-Ok.ensures.copies.frame in
    let zeroth : c.in_ok-root.root + 0 ≡ c.in_ok-root.root = omega arith in
    record { given = subst (λ (q : ℕ). IsGiven (g.C.CellWrite.given c.copy_way.new.cells) (q / 1024)) zeroth (b.in_given 0 (omega arith)); unkept = subst (λ (q : ℕ). Contains (g.C.CellWrite.kept c.copy_way.new.cells) q → ⊥) zeroth (b.unkept 0 (omega arith)) }

pub returns-in-Ok-clause-slot : goal.returns-in-Ok-clause-slot
returns-in-Ok-clause-slot g c spare way end a =
    opened_anew a c.in_ok-root.ensures.room.handed c.in_ok-root.ensures.room.blank c.in_ok-root.ensures.takes.frame c.in-Ok.ensures.copies.frame (c.in-Ok.ensures.copied way end (root_asks_later a c.requires.node c.in_ok-root.ensures.room.handed c.in_ok-root.ensures.takes.frame))
    c.put.ensures.written c.put.ensures.others c.put.ensures.given c.release-in-Ok.ensures.counts c.release-in-Ok.ensures.rest

pub release-requires-in-Ok-clause-counted : goal.release-requires-in-Ok-clause-counted
release-requires-in-Ok-clause-counted g c k =
    let a = c.requires.asks.asks in
    let x = a.rooted.counted k in let y = c.in_ok-root.ensures.room.handed.counts k in
    let z = (c.in-Ok.ensures.copied _ c.requires.asks.end (root_asks_later a c.requires.node c.in_ok-root.ensures.room.handed c.in_ok-root.ensures.takes.frame)).counts k in omega arith

pub returns-in-Ok-clause-opens : goal.returns-in-Ok-clause-opens
returns-in-Ok-clause-opens g c =
    let zeroth : c.in_ok-root.root ≡ c.in_ok-root.root + 0 = omega arith in
    record {
      consumes = λ spare way end a.
          let s = c.room_for.ensures.takes.consumes in
          let d = c.copy_way.ensures.copies.consumes way end (root_asks_later a c.requires.node c.in_ok-root.ensures.room.handed c.in_ok-root.ensures.takes.frame) in
          let r = ap (λ (z : Account). z.consumed) c.release-in-Ok.ensures.rest in
          let e = copied_immutable (g.U.Space.account c.args.usage.now).mutable 1 c.args.top.at way c.requires.immutable in omega arith;
      frame = fenced_of (frame_counts (frame_wrote c.in_ok-root.ensures.room.handed c.in_ok-root.ensures.takes.frame c.in-Ok.ensures.copies.frame (wrote_one c.in_ok-root.root 0 (omega arith) zeroth c.put.ensures.others c.put.ensures.given c.put.ensures.kept)) c.release-in-Ok.ensures.rest (λ k. let e = c.release-in-Ok.ensures.counts k in omega arith));
      ready = ready_counts c.release-in-Ok.ensures.rest (ready_put c.in-Ok.ensures.copies.ready c.put.ensures.given c.put.ensures.kept);
    }
