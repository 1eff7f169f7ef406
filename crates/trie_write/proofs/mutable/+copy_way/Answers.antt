use Rattle.std.proofs.Common.{◌≡◌, ◌+◌, ◌-◌, ◌<◌, ℕ, Fits-lit, arith, sym, ◌∙◌, ap, ap₂, subst, rules}
use Rattle.std.proofs.Math.Facts.{Fits-lt}
use Rattle.packed_node.specs.declared.Cell.{Cell}
use Rattle.packed_node.specs.Nodes.{branch_cell}
use Rattle.chunk_usage.specs.Rooms.{Account, Handed}
use Rattle.trie_space.specs.Spaces.{MayWrite}
use Rattle.trie_write.specs.declared.mutable.Copied.{Copied}
use Rattle.trie_write.specs.Mutable.{IsCopied}
use Rattle.trie_space.proofs.SpaceLaws.{apart_from, err_on, frame_refl, frame_then, frame_same, frame_counts, frame_wrote, ready_counts, ready_put, ready_wrote, refused_room, refused_same, handed_counted, blank_later}
use Rattle.trie_write.proofs.DescentLaws.{known}
use Rattle.trie_write.proofs.CopyLaws.{n_here, cell_there, cell_used, part_counted, old_lies, moved_branch, asks_after, along_here, here_asked, below_asked, same_asks, copied_step, copied_none}
use Rattle.trie_write.proofs.mutable.+copy_way.Goals as goal

abbrev gives : Cell → ℕ → Copied
gives node slot = record { node = node; slot = slot }

pub next_descent-requires : goal.next_descent-requires
next_descent-requires g t c = let a = c.requires.asks.asks in record { way = (c.args.low, record { way = c.requires.asks.way; end = c.requires.asks.end; top = a.hangs.top; is_way = a.is_way }) }

pub room_for-requires : goal.room_for-requires
room_for-requires g t c =
    let a = c.requires.asks.asks in
    let descent = (c.in-Some.ensures.on c.args.low _ c.requires.asks.end a.hangs.top a.is_way).through in
    let n = n_here a descent in let m = c.twig_count-n.ensures in
    record {
      some = omega arith;
      few = (let few = (known a.hangs.top a.is_way descent).few in omega arith);
      ready = ready_put c.requires.ready (ap g.C.CellWrite.given c.next_descent.ensures.same) (ap g.C.CellWrite.kept c.next_descent.ensures.same);
    }

pub returns-in_err-to-in-Some-clause-copies : goal.returns-in_err-to-in-Some-clause-copies
returns-in_err-to-in-Some-clause-copies g t c = record {
  consumes = λ way end asks.
      let descent = (c.in-Some.ensures.on c.args.low way end asks.hangs.top asks.is_way).through in
      let n = along_here asks descent in let m = c.twig_count-n.ensures in let s = c.room_for.ensures.takes.consumes in omega arith;
  frame = frame_same c.next_descent.ensures.same c.room_for.ensures.takes.frame;
  ready = c.room_for.ensures.takes.ready;
}

pub returns-in_err-to-in-Some-clause-lacks : goal.returns-in_err-to-in-Some-clause-lacks
returns-in_err-to-in-Some-clause-lacks g t c = err_on _ c.from_residual.result c.from_residual.ensures.1 (record {
  refused = refused_same c.next_descent.ensures.same c.in_err-to-in-Some.ensures.lacks.refused;
  asked = λ way end asks.
      let descent = (c.in-Some.ensures.on c.args.low way end asks.hangs.top asks.is_way).through in
      here_asked asks descent _ (c.in_err-to-in-Some.ensures.lacks.asked ∙ c.twig_count-n.ensures);
})

pub copy_way-requires : goal.copy_way-requires
copy_way-requires g t c κs within =
    let a = same_asks c.next_descent.ensures.same c.requires.asks.asks in
    let told = c.in-Some.ensures.on c.args.low _ c.requires.asks.end c.requires.asks.asks.hangs.top c.requires.asks.asks.is_way in
    let k = known a.hangs.top a.is_way (told.through) in
    let f : 504 - (c.in-Some.descent.branch.offset + 1) < 504 - c.args.low = let late = k.late in let early = k.early in omega arith in
    (search (rules, f), (within.0, (within.1, (record { way = told.through.rest; end = c.requires.asks.end; asks = asks_after a (told.through) c.in_ok-to-in-Some.ensures.room.handed c.in_ok-to-in-Some.ensures.takes.frame told.next_is }, c.in_ok-to-in-Some.ensures.takes.ready))))

pub returns-in-None-clause-copied : goal.returns-in-None-clause-copied
returns-in-None-clause-copied g t c way end asks =
    subst (λ (x : Copied). IsCopied g.C.CellRead.has g.C.CellWrite.given g.U.Space.account c.args.usage.now c.next_descent.new.cells c.args.usage.now c.args.place c.args.low c.args.key.now c.args.from.at way end x.node x.slot) (sym c.left_alone.ensures)
    (copied_none (same_asks c.next_descent.ensures.same asks) (c.next_descent.ensures.none c.in-None.is c.args.low way end asks.hangs.top asks.is_way))

pub returns-in-None-clause-copies : goal.returns-in-None-clause-copies
returns-in-None-clause-copies g t c = record {
  consumes = λ way end asks. omega arith;
  frame = frame_same c.next_descent.ensures.same (frame_refl _ _);
  ready = ready_put c.requires.ready (ap g.C.CellWrite.given c.next_descent.ensures.same) (ap g.C.CellWrite.kept c.next_descent.ensures.same);
}

pub release-requires : goal.release-requires
release-requires g t c = record { counted = handed_counted (g.U.Space.account c.copy_way.new.usage) c.in_ok-to-in-Some.ensures.room.handed c.in-Err.ensures.lacks.refused.counts; together = c.in_ok-to-in-Some.ensures.room.handed.twigs.together }

pub returns-in-Err : goal.returns-in-Err
returns-in-Err g t c = record {
  copied = tt;
  lacks = record {
    refused = refused_room c.next_descent.ensures.same c.in_ok-to-in-Some.ensures.takes.frame c.in_ok-to-in-Some.ensures.room.handed c.in-Err.ensures.lacks.refused c.release.ensures.counts c.release.ensures.lacks;
    asked = λ way end asks.
        let a = same_asks c.next_descent.ensures.same asks in
        let told = c.in-Some.ensures.on c.args.low way end asks.hangs.top asks.is_way in
        below_asked a told.through _ (c.in-Err.ensures.lacks.asked told.through.rest end (asks_after a told.through c.in_ok-to-in-Some.ensures.room.handed c.in_ok-to-in-Some.ensures.takes.frame told.next_is));
  };
  copies = record {
    consumes = λ way end asks.
        let a = same_asks c.next_descent.ensures.same asks in
        let told = c.in-Some.ensures.on c.args.low way end asks.hangs.top asks.is_way in
        let n = along_here a (told.through) in let m = c.twig_count-n.ensures in let s = c.room_for.ensures.takes.consumes in
        let d = c.copy_way.ensures.copies.consumes told.through.rest end (asks_after a (told.through) c.in_ok-to-in-Some.ensures.room.handed c.in_ok-to-in-Some.ensures.takes.frame told.next_is) in
        let r = ap (λ (z : Account). z.consumed) c.release.ensures.rest in omega arith;
    frame = frame_counts (frame_same c.next_descent.ensures.same (frame_then c.in_ok-to-in-Some.ensures.takes.frame c.copy_way.ensures.copies.frame)) c.release.ensures.rest (λ k. let e = c.release.ensures.counts k in omega arith);
    ready = ready_counts c.release.ensures.rest c.copy_way.ensures.copies.ready;
  };
}

pub move_twigs-requires : goal.move_twigs-requires
move_twigs-requires g t c =
    let a = same_asks c.next_descent.ensures.same c.requires.asks.asks in
    let told = c.in-Some.ensures.on c.args.low _ c.requires.asks.end c.requires.asks.asks.hangs.top c.requires.asks.asks.is_way in
    let descent = told.through in
    let n = c.twig_count-n.ensures in
    let h = subst (Handed (g.U.Space.account c.args.usage.now) (g.U.Space.account c.room_for.new.usage) c.in_ok-to-in-Some.to) n c.in_ok-to-in-Some.ensures.room.handed in
    record {
      index = (let i = told.index_is in let m = n_here a told.through in omega arith);
      node = moved_branch a descent h.twigs;
      old = old_lies a descent;
      new = h.twigs;
      there = λ i l. let x = cell_there a descent i l in (x.0, c.in-Ok.ensures.copies.frame.stays _ x.0 (c.in_ok-to-in-Some.ensures.takes.frame.grows.stays _ (cell_used a descent i l)) (c.in_ok-to-in-Some.ensures.takes.frame.stays _ x.0 (cell_used a descent i l) x.1));
      apart = λ i j l m. apart_from h _ (cell_used a descent i l) j m;
      blank = subst (MayWrite g.C.CellWrite.kept g.C.CellWrite.given c.copy_way.new.cells c.in_ok-to-in-Some.to) n (blank_later c.in_ok-to-in-Some.ensures.room.blank c.in-Ok.ensures.copies.frame);
      counted = λ k.
          let made = c.in-Ok.ensures.copied told.through.rest c.requires.asks.end (asks_after a descent c.in_ok-to-in-Some.ensures.room.handed c.in_ok-to-in-Some.ensures.takes.frame told.next_is) in
          let x = made.counts k in let y = c.in_ok-to-in-Some.ensures.room.handed.counts k in let z = part_counted a descent k in omega arith;
    }

pub returns-in-Ok-clause-copied : goal.returns-in-Ok-clause-copied
returns-in-Ok-clause-copied g t c way end asks =
    let a = same_asks c.next_descent.ensures.same asks in
    let told = c.in-Some.ensures.on c.args.low way end asks.hangs.top asks.is_way in
    let descent = told.through in
    let n = c.twig_count-n.ensures in
    let is : c.move_twigs.result ≡ gives (branch_cell (record c.in-Some.descent.branch { twigs = c.in_ok-to-in-Some.to })) c.in-Ok.copied.slot = ap₂ gives c.move_twigs.ensures.node c.move_twigs.ensures.slot in
    subst (λ (x : Copied). IsCopied g.C.CellRead.has g.C.CellWrite.given g.U.Space.account c.args.usage.now c.move_twigs.new.cells c.move_twigs.new.usage c.args.place c.args.low c.args.key.now c.args.from.at way end x.node x.slot) (sym is)
    (copied_step a descent told.index_is (subst (Handed (g.U.Space.account c.args.usage.now) (g.U.Space.account c.room_for.new.usage) c.in_ok-to-in-Some.to) n c.in_ok-to-in-Some.ensures.room.handed)
    (subst (MayWrite g.C.CellWrite.kept g.C.CellWrite.given c.room_for.new.cells c.in_ok-to-in-Some.to) n c.in_ok-to-in-Some.ensures.room.blank) c.in_ok-to-in-Some.ensures.takes.frame c.in-Ok.ensures.copies.frame
    (c.in-Ok.ensures.copied told.through.rest end (asks_after a descent c.in_ok-to-in-Some.ensures.room.handed c.in_ok-to-in-Some.ensures.takes.frame told.next_is))
    c.move_twigs.ensures.moves.copied c.move_twigs.ensures.moves.twig c.move_twigs.ensures.moves.wrote c.move_twigs.ensures.moves.counts c.move_twigs.ensures.moves.rest c.args.from.at)

pub returns-in-Ok-clause-copies : goal.returns-in-Ok-clause-copies
returns-in-Ok-clause-copies g t c =
    let h = subst (Handed (g.U.Space.account c.args.usage.now) (g.U.Space.account c.room_for.new.usage) c.in_ok-to-in-Some.to) c.twig_count-n.ensures c.in_ok-to-in-Some.ensures.room.handed in
    record {
      consumes = λ way end asks.
          let a = same_asks c.next_descent.ensures.same asks in
          let told = c.in-Some.ensures.on c.args.low way end asks.hangs.top asks.is_way in
          let n = along_here a (told.through) in let m = c.twig_count-n.ensures in let s = c.room_for.ensures.takes.consumes in
          let d = c.copy_way.ensures.copies.consumes told.through.rest end (asks_after a (told.through) c.in_ok-to-in-Some.ensures.room.handed c.in_ok-to-in-Some.ensures.takes.frame told.next_is) in
          let r = ap (λ (z : Account). z.consumed) c.move_twigs.ensures.moves.rest in omega arith;
      frame = frame_counts (frame_wrote h (frame_same c.next_descent.ensures.same c.in_ok-to-in-Some.ensures.takes.frame) c.in-Ok.ensures.copies.frame c.move_twigs.ensures.moves.wrote) c.move_twigs.ensures.moves.rest (λ k. let e = c.move_twigs.ensures.moves.counts k in omega arith);
      ready = ready_counts c.move_twigs.ensures.moves.rest (ready_wrote c.move_twigs.ensures.moves.wrote c.in-Ok.ensures.copies.ready);
    }

pub overflow_add-next : goal.overflow_add-next
overflow_add-next g t c =
    let a = c.requires.asks.asks in
    let told = c.in-Some.ensures.on c.args.low _ c.requires.asks.end a.hangs.top a.is_way in
    let n = n_here a told.through in let m = c.twig_count-n.ensures in let i = told.index_is in let r = c.in_ok-to-in-Some.ensures.room.handed.twigs.inside in
    Fits-lt {n = 4194304} (omega arith) (Fits-lit tt)
