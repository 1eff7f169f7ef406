use Rattle.std.proofs.Common.{◌≡◌, ◌+◌, ◌++◌, arith, ap₂, sym, subst, ◌∙◌}
use Rattle.zone_model.specs.Keys.{octet_positions, first_position}
use Rattle.shift_key.specs.Partings.{PartInside}
use Rattle.shift_key.proofs.PartingLemmas.{second_parts, at_place}
use Rattle.shift_key.proofs.names.part_octets.Goals as goal

pub returns : goal.returns
returns c front e =
    let is = c.part_at-2.ensures ∙ ap₂ (at_place (c.args.at + 1)) c.second_position.ensures c.second_position-2.ensures in
    let same : first_position c.args.first ≡ first_position c.args.second = omega (arith, c.first_position-before.ensures, c.first_position-after.ensures, c.if-before-after.false) in
    subst (PartInside (front ++ octet_positions c.args.first) (front ++ octet_positions c.args.second)) (sym is)
    (second_parts front c.args.first c.args.second c.args.at c.requires.folded.0 c.requires.folded.1 (omega arith) (omega arith) c.requires.differ e same)
