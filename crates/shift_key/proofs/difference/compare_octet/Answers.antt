use Rattle.std.proofs.Common.{◌≡◌, ℕ, ◌+◌, ◌*◌, ◌<◌, List, ◌++◌, length, arith, ap, sym, ◌∙◌, subst}
use Rattle.zone_model.specs.Keys.{first_position, second_position, octet_positions}
use Rattle.shift_key.specs.Differences.{Agrees}
use Rattle.shift_key.proofs.PositionLemmas.{one_position, some_positions}
use Rattle.zone_model.proofs.OctetKeys.{bounds}
use Rattle.shift_key.proofs.DifferenceLemmas.{agree_one}
use Rattle.shift_key.proofs.difference.compare_octet.Goals as goal

-- an octet that has one position
has_one : (octet all own : ℕ) → octet < 256 → own < 256 → own + 65536 ≡ all → all ≡ first_position octet + 256 * second_position octet + 65536 * length (octet_positions octet) → (own ≡ first_position octet) × (second_position octet ≡ 0)
has_one octet all own below small same is = let b = bounds octet below in let s = some_positions octet in (omega (arith, b.first, b.second), omega (arith, b.first, b.second))

pub returns-then-from-positions-clause-next : goal.returns-then-from-positions-clause-next
returns-then-from-positions-clause-next c =
    let small = c.type_inv.key c.args.at in let from = c.from.ensures in
    let one = has_one c.args.octet c.positions.result c.from.result (omega arith) (omega arith) c.if-from-positions.true c.positions.ensures in
    omega (arith, ap (λ (l : List ℕ). length l) (one_position c.args.octet one.1))

pub returns-then-from-positions-clause-compared : goal.returns-then-from-positions-clause-compared
returns-then-from-positions-clause-compared c front agrees =
    let small = c.type_inv.key c.args.at in let from = c.from.ensures in
    let one = has_one c.args.octet c.positions.result c.from.result (omega arith) (omega arith) c.if-from-positions.true c.positions.ensures in
    subst (λ (l : List ℕ). Agrees c.args.key.now (front ++ l) (c.args.at + 1)) (sym (one_position c.args.octet one.1))
    (agree_one c.args.key.now front c.args.at (first_position c.args.octet) agrees (sym from ∙ one.0))
