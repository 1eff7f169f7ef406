use Rattle.std.proofs.Common.{rules, ◌<◌, ◌≤◌, ◌+◌, List, ℕ, length, ap, sym, subst, arith}
use Rattle.std.proofs.lemmas.Bool.{leb-true}
use Rattle.std.specs.Prelude.{slice_index_or}
use Rattle.zone_answer.proofs.AncestorLaws.{right_under, some_octets}
use Rattle.zone_answer.proofs.cut.is_right_under.Goals as goal

pub bounds-octets-0 : goal.bounds-octets-0
bounds-octets-0 c =
    let some : 0 < length c.wire-octets.result.now = subst (λ (l : List ℕ). 0 < length l) (sym c.wire-octets.ensures.wire) (some_octets c.args.name.now) in
    search (rules, some)

pub returns : goal.returns
returns c = λ right.
    let own = c.wire-octets.ensures.wire in
    let octets = ap (λ (l : List ℕ). length l) own in
    let first = ap (λ (l : List ℕ). slice_index_or l 0 0) own in
    let other = ap (λ (l : List ℕ). length l) c.wire.ensures.wire in
    let short : length c.wire-octets.result.now ≤ length c.wire.result.now + 1 + slice_index_or c.wire-octets.result.now 0 0 = leb-true _ _ right in
    right_under c.args.name.now c.args.origin.now c.requires (omega (arith, short))
