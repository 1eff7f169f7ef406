use Rattle.std.proofs.Common.{◌≡◌, ◌+◌, ◌%◌, ◌/◌, arith, take, ◌++◌, set, length, ℕ, subst, sym}
use Rattle.zone_model.specs.Keys.{first_position, second_position, octet_positions}
use Rattle.zone_model.proofs.OctetKeys.{bounds}
use Rattle.shift_key.specs.Laid.{IsFront}
use Rattle.shift_key.proofs.EncodeLemmas.{put_octet}
use Rattle.shift_key.proofs.encode.put_octet.Goals as goal

pub returns : goal.returns
returns c =
    let b = bounds c.args.octet (omega arith) in
    let all = c.positions-all.ensures in
    let p : c.positions-all.result % 256 ≡ first_position c.args.octet = omega (arith, all, b.first, b.second) in
    let q : c.positions-all.result / 256 % 256 ≡ second_position c.args.octet = omega (arith, all, b.first, b.second) in
    let n : c.args.at + c.positions-all.result / 65536 ≡ c.args.at + length (octet_positions c.args.octet) = omega (arith, all, b.first, b.second) in
    let front = take c.args.at c.args.places.now ++ octet_positions c.args.octet in
    let end = c.args.at + c.positions-all.result / 65536 in
    let x = put_octet c.args.places.now c.args.at c.args.octet end (omega (arith, c.told-places, c.requires)) n in
    subst (λ (u : ℕ). IsFront front end (set (set c.args.places.now c.args.at u) (c.args.at + 1) (c.positions-all.result / 256 % 256))) (sym p)
    (subst (λ (u : ℕ). IsFront front end (set (set c.args.places.now c.args.at (first_position c.args.octet)) (c.args.at + 1) u)) (sym q) x)
