use Rattle.std.proofs.Common.{◌≡◌, ◌∙◌, ℕ, Some, inl, inr, refl, sym, ap, arith}
use Rattle.std.specs.Prelude.{slice_get}
use Rattle.qp_multi.specs.Closings.{IsOfTurn}
use Rattle.qp_multi.proofs.CloseLaws.{ends_at_rest}
use Rattle.qp_multi.proofs.index.Index.version_at_rest.Goals as goal

pub returns-in_default : goal.returns-in_default
returns-in_default g c = let shared = c.args.self.shared.table.shared in record { ends = ends_at_rest shared.key.passes 0 shared.table_id c.args.self.some (inr refl); at_rest = inr refl }

pub returns-then-turn-place : goal.returns-then-turn-place
returns-then-turn-place g c = let shared = c.args.self.shared.table.shared in record { ends = ends_at_rest shared.key.passes 0 shared.table_id c.args.self.some (inr refl); at_rest = inr refl }

pub returns : goal.returns
returns g c =
    let shared = c.args.self.shared.table.shared in
    let turn = c.in-Some.turn in
    let seat = turn.writer.seat in
    let place : turn.place ≡ c.args.self.place = (let n = c.if-turn-place.false in omega arith) in
    let named : Some seat.place.table_id ≡ Some shared.table_id = sym turn.here ∙ ap (λ (p : ℕ). slice_get g.N.Named.tables p) place ∙ c.args.self.here in
    let table : seat.place.table_id ≡ shared.table_id = cc in
    let is : IsOfTurn shared.table_id seat.version = inl (seat, table, seat.version_is) in
    record { ends = ends_at_rest shared.key.passes seat.version shared.table_id c.args.self.some is; at_rest = is }
