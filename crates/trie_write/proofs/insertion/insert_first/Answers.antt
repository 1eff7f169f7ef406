use Rattle.std.proofs.Common.{◌≡◌, Contains, ℕ, ◌+◌, [], ◌∷◌, length, arith, sym, ◌∙◌, ap, subst}
use Rattle.std.proofs.lemmas.List.Elements.{Contains-append_left, Contains-append_right}
use Rattle.chunk_usage.specs.Rooms.{Account}
use Rattle.trie_write.specs.Laid.{extent_sizes}
use Rattle.trie_write.proofs.AskLaws.{first_of}
use Rattle.trie_write.proofs.InsertLaws.{first_stands}
use Rattle.trie_write.proofs.LaidLaws.{laid_leaf, refused_item, released_item}
use Rattle.trie_space.proofs.SpaceLaws.{err_on, frame_counts, frame_then, frame_refl, frame_wrote, ready_counts, ready_put, wrote_one}
use Rattle.trie_write.proofs.insertion.insert_first.Goals as goal

pub returns-in-Ok-clause-stands : goal.returns-in-Ok-clause-stands
returns-in-Ok-clause-stands g c e is same =
    first_stands c.in_ok-there.there e is same c.requires.uncounted c.in_ok-there.ensures.laid.len c.leaf.ensures.len c.leaf.ensures.at c.in_ok-there.ensures.laid.handed c.in_ok-there.ensures.laid.lies c.in_ok-there.ensures.takes.frame c.in-Ok.ensures.room.handed c.in-Ok.ensures.takes.frame c.pack.ensures c.put.ensures.written c.put.ensures.others

pub pack-requires : goal.pack-requires
pack-requires g c = laid_leaf _ c.args.item.now (c.leaf.ensures.len ∙ c.in_ok-there.ensures.laid.len) c.leaf.ensures.at c.requires.can.some c.requires.can.short c.in_ok-there.ensures.laid.handed.are

pub put-requires-clause-unkept : goal.put-requires-clause-unkept
put-requires-clause-unkept g c = let e : c.in-Ok.root + 0 ≡ c.in-Ok.root = omega arith in subst (λ (q : ℕ). Contains (g.C.CellWrite.kept c.room_for.new.cells) q → ⊥) e (c.in-Ok.ensures.room.blank.unkept 0 (omega arith))

pub returns-in-Ok-clause-takes : goal.returns-in-Ok-clause-takes
returns-in-Ok-clause-takes g c = record {
  consumes = (let a = c.lay_item.ensures.takes.consumes in let b = c.room_for.ensures.takes.consumes in omega arith);
  frame = frame_then c.in_ok-there.ensures.takes.frame (frame_wrote c.in-Ok.ensures.room.handed c.in-Ok.ensures.takes.frame (frame_refl _ _) (wrote_one c.in-Ok.root 0 (omega arith) (omega arith) c.put.ensures.others c.put.ensures.given c.put.ensures.kept));
  ready = ready_put c.in-Ok.ensures.takes.ready c.put.ensures.given c.put.ensures.kept;
}

pub returns-in_err-there-clause-takes : goal.returns-in_err-there-clause-takes
returns-in_err-there-clause-takes g c = record { consumes = (let a = c.lay_item.ensures.takes.consumes in omega arith); frame = c.lay_item.ensures.takes.frame; ready = c.lay_item.ensures.takes.ready }

pub returns-in_err-there-clause-lacks : goal.returns-in_err-there-clause-lacks
returns-in_err-there-clause-lacks g c = err_on _ c.from_residual.result c.from_residual.ensures.1
    (record { refused = c.in_err-there.ensures.lacks.refused; asked = Contains-append_left (extent_sizes (length c.args.item.now)) (1 ∷ []) _ c.in_err-there.ensures.lacks.asked })

pub returns-in-Err : goal.returns-in-Err
returns-in-Err g c = record {
  stands = tt;
  lacks = record {
    refused = refused_item c.in_ok-there.ensures.takes.frame c.in_ok-there.ensures.laid.handed c.in-Err.ensures.lacks.refused (released_item c.in_ok-there.there c.release_item.ensures c.in_ok-there.ensures.laid.len) c.release_item.ensures.lack;
    asked = Contains-append_right (extent_sizes (length c.args.item.now)) (1 ∷ []) _ (first_of 1 _ [] (sym c.in-Err.ensures.lacks.asked));
  };
  takes = record {
    consumes = (let a = c.lay_item.ensures.takes.consumes in let b = c.room_for.ensures.takes.consumes in let r = ap (λ (z : Account). z.consumed) c.release_item.ensures.rest in omega arith);
    frame = frame_counts (frame_then c.in_ok-there.ensures.takes.frame c.room_for.ensures.takes.frame) c.release_item.ensures.rest (λ k. let e = c.release_item.ensures.counts k in omega arith);
    ready = ready_counts c.release_item.ensures.rest c.room_for.ensures.takes.ready;
  };
}
