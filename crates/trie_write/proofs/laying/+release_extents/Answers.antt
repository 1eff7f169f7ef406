use Rattle.std.proofs.Common.{◌≡◌, ℕ, ◌-◌, ◌<◌, ◌≤◌, List, length, take, drop, slice_index, sym, ap, subst, ◌∙◌, arith, rules}
use Rattle.std.proofs.lemmas.List.{length-drop, take_all}
use Rattle.trie_model.specs.Extents.{links, AreExtents, row, weigh_extents}
use Rattle.trie_model.specs.Reach.{in_chunk}
use Rattle.chunk_cells.specs.Laying.{extents_at}
use Rattle.chunk_cells.proofs.LayingLaws.{one_extent, more_extents}
use Rattle.chunk_usage.specs.Rooms.{Account}
use Rattle.trie_write.proofs.laying.+release_extents.Goals as goal

pub release-requires : goal.release-requires
release-requires g t c =
    let one = one_extent c.args.len c.args.at.now (omega arith) (let e = c.requires.enough in omega arith) in
    let are = subst (AreExtents c.args.len) one c.requires.are in
    record {
      counted = λ k. let m = c.requires.counted k in let w = ap (weigh_extents (in_chunk k) c.args.len) one in let n = ap (row (in_chunk k) (slice_index c.args.at.now 0)) c.content_cells_for.ensures in omega arith;
      together = (let r = are.1.together in let n = c.content_cells_for.ensures in omega arith);
    }

pub returns-then-len-le-LAST_OCTETS : goal.returns-then-len-le-LAST_OCTETS
returns-then-len-le-LAST_OCTETS g t c = record {
  counts = λ k.
      let one = one_extent c.args.len c.args.at.now (omega arith) (let e = c.requires.enough in omega arith) in
      let w = ap (weigh_extents (in_chunk k) c.args.len) one in let n = ap (row (in_chunk k) (slice_index c.args.at.now 0)) c.content_cells_for.ensures in let r = c.release.ensures.counts k in omega arith;
  rest = c.release.ensures.rest;
  lack = c.release.ensures.lacks;
}

-- ---- several extents
pub release-requires-2 : goal.release-requires-2
release-requires-2 g t c =
    let more = more_extents c.args.len c.args.at.now (omega arith) (let e = c.requires.enough in omega arith) in
    let are = subst (AreExtents c.args.len) more c.requires.are in
    record {
      counted = λ k. let m = c.requires.counted k in let w = ap (weigh_extents (in_chunk k) c.args.len) more in let n = ap (row (in_chunk k) (slice_index c.args.at.now 0)) c.linked_extent.ensures in omega arith;
      together = (let r = are.1.together in let n = c.linked_extent.ensures in omega arith);
    }

pub release_extents-requires : goal.release_extents-requires
release_extents-requires g t c κs within =
    let enough = c.requires.enough in
    let places = length-drop 1 c.args.at.now in
    let at_is : take (length c.args.at.now - 1) (drop 1 c.args.at.now) ≡ drop 1 c.args.at.now = take_all (length c.args.at.now - 1) (drop 1 c.args.at.now) (omega arith) in
    let more = more_extents c.args.len c.args.at.now (omega arith) (omega arith) in
    let are = subst (AreExtents c.args.len) more c.requires.are in
    let size = ap length at_is in
    let less : c.args.len - 4080 < c.args.len = omega arith in
    let counted : (k : ℕ) → weigh_extents (in_chunk k) (c.args.len - 4080) (extents_at (links (c.args.len - 4080)) (drop 1 c.args.at.now)) ≤ (g.U.Space.account c.release-2.new.self).live k =
    λ k. let m = c.requires.counted k in let w = ap (weigh_extents (in_chunk k) c.args.len) more in let n = ap (row (in_chunk k) (slice_index c.args.at.now 0)) c.linked_extent.ensures in let r = c.release-2.ensures.counts k in omega arith in (
      search (rules, less),
      (
        within,
        (
          omega arith,
          (
            subst (λ (rs : List ℕ). (k : ℕ) → weigh_extents (in_chunk k) (c.args.len - 4080) (extents_at (links (c.args.len - 4080)) rs) ≤ (g.U.Space.account c.release-2.new.self).live k) (sym at_is) counted,
            subst (λ (rs : List ℕ). AreExtents (c.args.len - 4080) (extents_at (links (c.args.len - 4080)) rs)) (sym at_is) are.2,
          ),
        ),
      ),
    )

pub returns : goal.returns
returns g t c = record {
  counts = λ k.
      let enough = c.requires.enough in
      let places = length-drop 1 c.args.at.now in
      let at_is : take (length c.args.at.now - 1) (drop 1 c.args.at.now) ≡ drop 1 c.args.at.now = take_all (length c.args.at.now - 1) (drop 1 c.args.at.now) (omega arith) in
      let more = more_extents c.args.len c.args.at.now (omega arith) (omega arith) in
      let w = ap (weigh_extents (in_chunk k) c.args.len) more in
      let v = ap (λ (rs : List ℕ). weigh_extents (in_chunk k) (c.args.len - 4080) (extents_at (links (c.args.len - 4080)) rs)) at_is in
      let n = ap (row (in_chunk k) (slice_index c.args.at.now 0)) c.linked_extent.ensures in
      let r = c.release-2.ensures.counts k in let q = c.release_extents.ensures.counts k in omega arith;
  rest = c.release_extents.ensures.rest ∙ ap (λ (z : Account). record z { live = (g.U.Space.account c.release_extents.new.usage).live }) c.release-2.ensures.rest;
  lack = λ f h. c.release_extents.ensures.lack f (c.release-2.ensures.lacks f h);
}
