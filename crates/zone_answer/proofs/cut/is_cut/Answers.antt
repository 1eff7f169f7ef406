use Rattle.std.proofs.Common.{◌∙◌, ◌<◌, ◌≤◌, List, ℕ, length, ap, sym, arith}
use Rattle.zone_model.specs.Names.{wire}
use Rattle.zone_answer.proofs.AncestorLaws.{as_short, longer, never_cut}
use Rattle.zone_answer.proofs.CutLaws.{own_by_set}
use Rattle.zone_answer.proofs.cut.is_cut.Goals as goal

pub returns-then-wire : goal.returns-then-wire
returns-then-wire c = λ zone e.
    let own = ap (λ (l : List ℕ). length l) c.wire.ensures.wire in
    let other = ap (λ (l : List ℕ). length l) c.wire-2.ensures.wire in
    let short : length (wire c.args.name.now) ≤ length (wire c.args.origin.now) = omega (arith, c.if-wire.true) in
    sym (never_cut c.args.origin.now c.args.name.now zone (as_short c.args.name.now c.args.origin.now c.requires short))

pub returns : goal.returns
returns c = λ zone e.
    let own = ap (λ (l : List ℕ). length l) c.wire.ensures.wire in
    let other = ap (λ (l : List ℕ). length l) c.wire-2.ensures.wire in
    let long : length (wire c.args.origin.now) < length (wire c.args.name.now) = omega (arith, c.if-wire.false) in
    c.is_some.ensures
    ∙ sym (own_by_set c.args.origin.now c.args.name.now zone c.args.entry.now c.find_set.result c.requires (longer c.args.name.now c.args.origin.now c.requires long) e c.find_set.ensures)
