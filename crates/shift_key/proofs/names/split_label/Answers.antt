use Rattle.std.proofs.Common.{◌≤◌, length, take, drop, get_or, ap, ◌∙◌, arith, rules, length-drop}
use Rattle.shift_key.proofs.PartingLemmas.{some_octets, first_apart, splits_off, part_behind}
use Rattle.shift_key.proofs.names.split_label.Goals as goal

pub bounds-octets-0 : goal.bounds-octets-0
bounds-octets-0 c = some_octets c.args.octets.now c.requires.0 c.requires.1.begins

pub slice_bounds-split_at-count : goal.slice_bounds-split_at-count
slice_bounds-split_at-count c = let s = some_octets c.args.octets.now c.requires.0 c.requires.1.begins in omega arith

pub slice_bounds-split_at-start : goal.slice_bounds-split_at-start
slice_bounds-split_at-start c = let s = some_octets c.args.octets.now c.requires.0 c.requires.1.begins in let h : 1 ≤ length c.args.octets.now = omega arith in search (rules, h)

pub split_at-requires : goal.split_at-requires
split_at-requires c =
    let a = first_apart c.requires.1 c.requires.2 in
    omega (arith, ap length (part_behind 1 c.args.octets.now), length-drop 1 c.args.octets.now, a.fits, a.long)

pub returns : goal.returns
returns c name n h some =
    let all = part_behind 1 c.args.octets.now in
    splits_off c.split_at.result.0.now c.split_at.result.1.now h some
    (c.split_at.ensures.front ∙ ap (take (get_or c.args.octets.now 0 0)) all) (c.split_at.ensures.back ∙ ap (drop (get_or c.args.octets.now 0 0)) all)
