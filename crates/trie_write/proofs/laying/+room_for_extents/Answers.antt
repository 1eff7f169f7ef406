use Rattle.std.proofs.Common.{◌≡◌, ℕ, ◌+◌, ◌-◌, ◌<◌, ◌≤◌, ◌++◌, Bool, List, [], ◌∷◌, length, take, drop, slice_set, length-take-le, length-append, refl, sym, ap, subst, ◌∙◌, arith, rules}
use Rattle.std.proofs.lemmas.List.{length-drop, length-set, get_or-set_same, take_all}
use borrow.Rule.Slice.PartMut.{put_mid, post_of}
use Rattle.trie_model.specs.Extents.{links, weigh_extents}
use Rattle.trie_model.specs.Reach.{in_chunk}
use Rattle.trie_model.specs.Extents.Extents.{last, linked}
use Rattle.trie_model.proofs.ExtentLaws.{linked_is, cells_behind}
use Rattle.chunk_cells.specs.Chunks.{IsGiven}
use Rattle.chunk_cells.specs.Laying.{extents_at}
use Rattle.chunk_cells.proofs.ItemLaws.{put_mid_end}
use Rattle.chunk_cells.proofs.LayingLaws.{one_extent, more_extents}
use Rattle.chunk_usage.specs.Rooms.{Account, Handed}
use Rattle.trie_write.specs.Laid.{HandedItem}
use Rattle.trie_space.proofs.SpaceLaws.{frame_counts, frame_then, ready_counts}
use Rattle.trie_write.proofs.LaidLaws.{handed_last, handed_linked, linked_asked, refused_item}
use Rattle.trie_write.proofs.laying.+room_for_extents.Goals as goal

pub room_for_extents-requires : goal.room_for_extents-requires
room_for_extents-requires g t c κs within =
    let enough = c.requires.enough in
    let places = length-drop 1 c.args.out.now in
    let size = ap length (take_all (length c.args.out.now - 1) (drop 1 c.args.out.now) (omega arith)) in
    let less : c.args.len - 4080 < c.args.len = omega arith in
    (search (rules, less), (within.0, (within.1, record { some = omega arith; enough = omega arith; ready = c.requires.ready })))

-- ---- the last extent
pub returns-then-len-le-LAST_OCTETS-clause-handed : goal.returns-then-len-le-LAST_OCTETS-clause-handed
returns-then-len-le-LAST_OCTETS-clause-handed g t c =
    let enough = c.requires.enough in
    let size = length-set c.args.out.now 0 c.in_ok-out.field-0 in
    let one = one_extent c.args.len (slice_set c.args.out.now 0 c.in_ok-out.field-0) (omega arith) (omega arith) ∙ ap last (get_or-set_same c.args.out.now 0 c.in_ok-out.field-0 0 (omega arith)) in
    subst (HandedItem (g.U.Space.account c.args.usage.now) (g.U.Space.account c.room_for.new.usage) c.args.len) (sym one)
    (handed_last c.args.len (omega arith) (subst (Handed (g.U.Space.account c.args.usage.now) (g.U.Space.account c.room_for.new.usage) c.in_ok-out.field-0) c.content_cells_for.ensures c.in_ok-out.ensures.room.handed))

-- ---- one before others
pub room_for-requires-2 : goal.room_for-requires-2
room_for-requires-2 g t c =
    let e = linked_is in let f = c.linked_extent.ensures in
    record { some = omega arith; few = omega arith; ready = c.in_ok-room_for_extents.ensures.takes.ready }

pub returns-in-Err-clause-takes : goal.returns-in-Err-clause-takes
returns-in-Err-clause-takes g t c = record {
  consumes = let a = c.room_for_extents.ensures.takes.consumes in let b = c.room_for-2.ensures.takes.consumes in let r = ap (λ (z : Account). z.consumed) c.release_extents.ensures.rest in
      let f = c.linked_extent.ensures in let m = cells_behind c.args.len (omega arith) in omega arith;
  frame = frame_counts (frame_then c.in_ok-room_for_extents.ensures.takes.frame c.room_for-2.ensures.takes.frame) c.release_extents.ensures.rest (λ k. let e = c.release_extents.ensures.counts k in omega arith);
  ready = ready_counts c.release_extents.ensures.rest c.room_for-2.ensures.takes.ready;
}

pub returns-in-Err-clause-lacks : goal.returns-in-Err-clause-lacks
returns-in-Err-clause-lacks g t c = record {
  refused = refused_item c.in_ok-room_for_extents.ensures.takes.frame c.in_ok-room_for_extents.ensures.handed c.in-Err.ensures.lacks.refused
      (λ k. subst (λ (rs : List ℕ). (g.U.Space.account c.release_extents.new.usage).live k + weigh_extents (in_chunk k) (c.args.len - 4080) (extents_at (links (c.args.len - 4080)) rs) ≡ (g.U.Space.account c.room_for-2.new.usage).live k) behind (c.release_extents.ensures.counts k)) c.release_extents.ensures.lack;
  asked = linked_asked c.args.len c.in-Err.full.needed (omega arith) (c.in-Err.ensures.lacks.asked ∙ c.linked_extent.ensures);
}
  where
    rest : List ℕ
    rest = put_mid 1 (length c.args.out.now - 1) c.args.out.now c.room_for_extents.new.out

    some : 1 ≤ length c.args.out.now
    some = let e = c.requires.enough in omega arith

    behind : take (length rest - 1) (drop 1 rest) ≡ c.room_for_extents.new.out
    behind = take_all (length rest - 1) (drop 1 rest) (let n = length-drop 1 rest in omega arith) ∙ put_mid_end 1 (length c.args.out.now - 1) c.args.out.now c.room_for_extents.new.out some (omega arith)

pub returns-in-Ok-clause-takes : goal.returns-in-Ok-clause-takes
returns-in-Ok-clause-takes g t c = record {
  consumes = let a = c.room_for_extents.ensures.takes.consumes in let b = c.room_for-2.ensures.takes.consumes in
      let f = c.linked_extent.ensures in let m = cells_behind c.args.len (omega arith) in omega arith;
  frame = frame_then c.in_ok-room_for_extents.ensures.takes.frame c.in-Ok.ensures.takes.frame;
  ready = c.in-Ok.ensures.takes.ready;
}

pub returns-in-Ok-clause-handed : goal.returns-in-Ok-clause-handed
returns-in-Ok-clause-handed g t c =
    subst (HandedItem (g.U.Space.account c.args.usage.now) (g.U.Space.account c.room_for-2.new.usage) c.args.len) (sym extents)
    (handed_linked (omega arith) c.in_ok-room_for_extents.ensures.handed c.in_ok-room_for_extents.ensures.takes.frame.grows.stays c.in-Ok.ensures.takes.frame.grows.stays c.in-Ok.ensures.takes.frame.grows.fresher
    (λ k h. subst (λ (gs : List Bool). IsGiven gs k) c.in-Ok.ensures.takes.ready.same (c.in-Ok.ensures.takes.frame.given_stays k (subst (λ (gs : List Bool). IsGiven gs k) (sym c.in_ok-room_for_extents.ensures.takes.ready.same) h)))
    (subst (Handed (g.U.Space.account c.room_for_extents.new.usage) (g.U.Space.account c.room_for-2.new.usage) c.in-Ok.first) c.linked_extent.ensures c.in-Ok.ensures.room.handed))
  where
    rest : List ℕ
    rest = put_mid 1 (length c.args.out.now - 1) c.args.out.now c.room_for_extents.new.out

    some : 1 ≤ length c.args.out.now
    some = let e = c.requires.enough in omega arith

    more : 0 < length rest
    more = let a = length-append (take 1 c.args.out.now) (c.room_for_extents.new.out ++ post_of 1 (length c.args.out.now - 1) c.args.out.now) in let b = length-take-le 1 c.args.out.now some in omega arith

    drop_set : (xs : List ℕ) (y : ℕ) → drop 1 (slice_set xs 0 y) ≡ drop 1 xs
    drop_set [] y = refl
    drop_set (x ∷ xs) y = refl

    extents : extents_at (links c.args.len) (slice_set rest 0 c.in-Ok.first) ≡ linked c.in-Ok.first (extents_at (links (c.args.len - 4080)) c.room_for_extents.new.out)
    extents =
        more_extents c.args.len (slice_set rest 0 c.in-Ok.first) (omega arith) (let s = length-set rest 0 c.in-Ok.first in let m = more in omega arith)
        ∙ ap (λ (p : ℕ). linked p (extents_at (links (c.args.len - 4080)) (drop 1 (slice_set rest 0 c.in-Ok.first)))) (get_or-set_same rest 0 c.in-Ok.first 0 more)
        ∙ ap (λ (rs : List ℕ). linked c.in-Ok.first (extents_at (links (c.args.len - 4080)) rs)) (drop_set rest c.in-Ok.first ∙ put_mid_end 1 (length c.args.out.now - 1) c.args.out.now c.room_for_extents.new.out some (omega arith))
