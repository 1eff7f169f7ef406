use Rattle.std.proofs.Common.{◌≡◌, ℕ, suc, ◌+◌, ◌*◌, ◌<◌, List, length, Option, arith, rules, sym, ap, subst, refl}
use Rattle.trie_model.specs.Keys.{Entry, Rises}
use Rattle.trie_model.specs.Trees.{beside}
use Rattle.trie_model.specs.Trees.Tree.{leaf}
use Rattle.trie_model.specs.Trees.Twigs.{none, twig}
use Rattle.trie_model.proofs.ExtentLaws.{laid}
use Rattle.trie_model.proofs.SizeLaws.{entry_cells}
use Rattle.trie_write.specs.declared.branch_points.BranchPoint.{BranchPoint}
use Rattle.trie_write.specs.Entries.{entry_of, entries_of_items}
use Rattle.trie_write.specs.Points.{Before, Front}
use Rattle.trie_write.proofs.ItemLaws.{item_entry}
use Rattle.trie_write.proofs.OpenLaws.{Opened, open_first, open_more, some_left, front_point, front_lower, leaf_front, count_first, count_more, count_close}
use Rattle.trie_write.proofs.size.+count.Goals as goal

pub count_branch-loop-beside-init : goal.count_branch-loop-beside-init
count_branch-loop-beside-init t c = record {
  counted = λ es tree f n. (
    twig c.args.point.before tree none,
    subst (λ (x : Option BranchPoint). Opened c.args.point.offset es (entries_of_items c.args.first.rest.now) x (twig c.args.point.before tree none)) (sym c.requires.point) (open_first f),
    let s = c.saturating_add-cells.ensures in let k = count_first f n in omega arith,
  );
  shorter = omega arith;
  went = λ b. absurd (let a = subst (λ (x : Option BranchPoint). Before c.args.point.offset x) c.requires.point b in omega arith);
}

pub count_branch-count_front-twig-requires : goal.count_branch-count_front-twig-requires
count_branch-count_front-twig-requires t c =
    let shorter = c.loop-beside.invariant.shorter in
    let short : 2 * length c.loop-beside.rest.now < 2 * length c.args.first.rest.now + 1 = omega arith in
    let h = c.requires.first in
    let w = c.loop-beside.invariant.counted h.0 h.1 h.2 h.3 in
    (search (rules, short), (some_left c.loop-beside.rest.now c.in-Some._beside c.in-Some.ensures.some.0 w.1, (w.1.rises, let e = w.1.early in omega arith)))

pub count_branch-loop-beside-preserved : goal.count_branch-loop-beside-preserved
count_branch-loop-beside-preserved t c = record {
  counted = λ es tree f n.
      let w = c.loop-beside.invariant.counted es tree f n in
      let so_far = subst (λ (x : Option BranchPoint). Opened c.args.point.offset es (entries_of_items c.loop-beside.rest.now) x w.0) c.in-Some.ensures.some.0 w.1 in
      let u = c.count_front-twig.ensures.counted in
      let next : c.args.point.offset + 1 ≡ suc c.args.point.offset = omega arith in
      let below = subst (λ (k : ℕ). Front k (entries_of_items c.loop-beside.rest.now) (entries_of_items c.count_front-twig.result.rest.now) c.count_front-twig.result.next u.0) next u.1 in (
        beside w.0 (twig c.in-Some._beside.after u.0 none),
        open_more so_far c.in-Some.ensures.some.1 below,
        let s = c.saturating_add-cells-in-Some.ensures in let k = count_more w.0 c.in-Some._beside.after w.2 below u.2 in omega arith,
      );
  shorter = (let a = c.count_front-twig.ensures.shorter in let b = c.loop-beside.invariant.shorter in omega arith);
  went = λ _. let a = c.count_front-twig.ensures.shorter in let b = c.loop-beside.invariant.shorter in omega arith;
}

pub count_branch-returns-clause-counted : goal.count_branch-returns-clause-counted
count_branch-returns-clause-counted t c es tree f n = let w = c.loop-beside.invariant.counted es tree f n in count_close w.1 (c.in_default.ensures.none refl) w.2

pub count_branch-returns-clause-shorter : goal.count_branch-returns-clause-shorter
count_branch-returns-clause-shorter t c = c.loop-beside.invariant.went (c.in_default.ensures.none refl)

pub count_front-loop-above-init : goal.count_front-loop-above-init
count_front-loop-above-init t c =
    let split = rw c.unwrap.ensures at c.split_first.ensures.cases in
    let e = entry_of c.unwrap.result.0.now in
    let is = item_entry c.unwrap.result.0.now in
    let all = ap entries_of_items split.0 in
    let there = laid (length e.item) in
    record {
      counted = (
        504,
        c.requires.low,
        leaf e there.extents,
        subst (λ (es : List Entry). Front 504 es (entries_of_items c.unwrap.result.1.now) c.point_ahead.result (leaf e there.extents)) (sym all) (leaf_front (is, there.are) (subst Rises all c.requires.rising) c.point_ahead.ensures),
        let l = ap (λ (xs : List ℕ). length xs) c.octets.ensures.octets in let s = is.item.short in let n = c.cells_for.ensures in let k = entry_cells e is in omega arith,
      );
      shorter = (let n = split.1 in omega arith);
    }

pub count_front-count_branch-front-requires : goal.count_front-count_branch-front-requires
count_front-count_branch-front-requires t c =
    let w = c.loop-above.invariant.counted in
    let shorter = c.loop-above.invariant.shorter in
    let short : 2 * length c.loop-above.front.rest.now + 1 < 2 * length c.args.items.now = omega arith in
    (search (rules, short), ((entries_of_items c.args.items.now, w.2, front_point c.in-Some.above c.in-Some.ensures.some.0 w.3, w.4), c.in-Some.ensures.some.0))

pub count_front-loop-above-preserved : goal.count_front-loop-above-preserved
count_front-loop-above-preserved t c =
    let w = c.loop-above.invariant.counted in
    let new = c.count_branch-front.ensures.counted (entries_of_items c.args.items.now) w.2 (front_point c.in-Some.above c.in-Some.ensures.some.0 w.3) w.4 in
    record {
      counted = (c.in-Some.above.offset, c.in-Some.ensures.some.1, new.0, new.1, new.2);
      shorter = (let a = c.count_branch-front.ensures.shorter in let b = c.loop-above.invariant.shorter in omega arith);
    }

pub count_front-returns-clause-counted : goal.count_front-returns-clause-counted
count_front-returns-clause-counted t c = let w = c.loop-above.invariant.counted in (w.2, front_lower w.3 w.1 (c.in_default.ensures.none refl), w.4)
