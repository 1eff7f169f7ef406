use Rattle.std.proofs.Common.{◌≡◌, ◌++◌, [], ◌∷◌, ℕ, length, ap, sym, subst, ◌∙◌, arith, Fits-lit, length-append}
use Rattle.std.proofs.Math.Facts.{Fits-lt}
use Rattle.std.specs.List.{flat_map}
use Rattle.zone_model.specs.Keys.{octet_positions, label_positions}
use Rattle.shift_key.specs.Partings.{PartInside}
use Rattle.shift_key.proofs.EncodeLemmas.{part_fits}
use Rattle.shift_key.proofs.PartingLemmas.{Alike, alike, at_place, small_at, part_short, labels_differ, first_goes_on, second_goes_on}
use Rattle.shift_key.proofs.names.part_labels.Goals as goal

pub part_octets-requires-clause-room : goal.part_octets-requires-clause-room
part_octets-requires-clause-room c =
    omega (arith, c.loop-i.invariant.at_is, c.requires.room, part_short c.args.first.now c.loop-i.i, length-append (flat_map octet_positions c.args.first.now) (0 ∷ []))

pub returns-then-first-i : goal.returns-then-first-i
returns-then-first-i c front e =
    let test = c.loop-i-test.true in let end = c.min-i-end.ensures in
    labels_differ front c.args.first.now c.args.second.now c.loop-i.at c.loop-i.i c.part_octets.result
    (alike front c.args.first.now c.args.second.now c.args.start c.loop-i.at c.loop-i.i c.loop-i.invariant.same c.loop-i.invariant.at_is e) (omega arith) (omega arith) c.part_octets.ensures

pub overflow_add-at : goal.overflow_add-at
overflow_add-at c =
    let test = c.loop-i-test.true in let end = c.min-i-end.ensures in
    let fits = part_fits c.args.first.now c.loop-i.i (omega arith) in
    Fits-lt {n = 65536} (omega (arith, c.loop-i.invariant.at_is, c.requires.room, c.width-at.ensures, length-append (flat_map octet_positions c.args.first.now) (0 ∷ []))) (Fits-lit tt)

pub part_at-requires : goal.part_at-requires
part_at-requires c = omega (arith, c.loop-i.invariant.at_is, c.requires.room, part_short c.args.first.now c.loop-i.i, length-append (flat_map octet_positions c.args.first.now) (0 ∷ []))

pub returns-then-first-second : goal.returns-then-first-second
returns-then-first-second c front e =
    let test = c.loop-i-test.false in let more = c.if-first-second.true in let end = c.min-i-end.ensures in
    let last : c.loop-i.i ≡ length c.args.second.now = omega (arith, c.loop-i.auto.i-end) in
    let so_far = alike front c.args.first.now c.args.second.now c.args.start c.loop-i.at c.loop-i.i c.loop-i.invariant.same c.loop-i.invariant.at_is e in
    subst (PartInside (front ++ label_positions c.args.first.now) (front ++ label_positions c.args.second.now))
    (sym (c.part_at.ensures ∙ ap (λ (x : ℕ). at_place c.loop-i.at x 0) c.first_position.ensures))
    (first_goes_on front c.args.first.now c.args.second.now c.loop-i.at (length c.args.second.now) (subst (Alike front c.args.first.now c.args.second.now c.loop-i.at) last so_far) (omega arith) (omega arith) (small_at c.args.first.now (length c.args.second.now) c.requires.first.octets))

pub returns-then-second-first : goal.returns-then-second-first
returns-then-second-first c front e =
    let test = c.loop-i-test.false in let more = c.if-second-first.true in let end = c.min-i-end.ensures in
    let last : c.loop-i.i ≡ length c.args.first.now = omega (arith, c.loop-i.auto.i-end) in
    let so_far = alike front c.args.first.now c.args.second.now c.args.start c.loop-i.at c.loop-i.i c.loop-i.invariant.same c.loop-i.invariant.at_is e in
    subst (PartInside (front ++ label_positions c.args.first.now) (front ++ label_positions c.args.second.now))
    (sym (c.part_at-then-second-first.ensures ∙ ap (at_place c.loop-i.at 0) c.first_position-then-second-first.ensures))
    (second_goes_on front c.args.first.now c.args.second.now c.loop-i.at (length c.args.first.now) (subst (Alike front c.args.first.now c.args.second.now c.loop-i.at) last so_far) (omega arith) (omega arith) (small_at c.args.second.now (length c.args.first.now) c.requires.second.octets))
