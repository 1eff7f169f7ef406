use Rattle.std.proofs.Common.{◌∙◌, ℕ, ◌<◌, List, length, get_or, refl, ap, arith}
use Rattle.zone_answer.proofs.NamedLaws.{no_octets, no_name, longer, just}
use Rattle.zone_answer.proofs.named.name_from.Goals as goal

pub returns-then-octets-place : goal.returns-then-octets-place
returns-then-octets-place c = no_octets c.args.place c.args.octets.now (omega arith)

pub returns-in_err-name : goal.returns-in_err-name
returns-in_err-name c =
    c.from_residual.ensures ∙ no_name c.args.place c.args.octets.now c.split_at.result.1.now c.split_at.ensures.back (λ i. let k : get_or c.args.octets.now i 0 < 256 = omega (arith, c.type_inv.octets i) in k) (c.in_err-name.ensures.none refl)

pub returns-then-wire-behind : goal.returns-then-wire-behind
returns-then-wire-behind c =
    let size = ap (λ (l : List ℕ). length l) c.wire.ensures.wire in
    longer c.args.place c.args.octets.now c.split_at.result.1.now c.in_ok-name.name c.split_at.ensures.back c.in_ok-name.ensures.name c.in_ok-name.ensures.found (omega arith)

pub returns : goal.returns
returns c =
    let size = ap (λ (l : List ℕ). length l) c.wire.ensures.wire in
    just c.args.place c.args.octets.now c.split_at.result.1.now c.in_ok-name.name c.split_at.ensures.back c.in_ok-name.ensures.name c.in_ok-name.ensures.found (omega arith)
