use Rattle.std.proofs.Common.{◌∙◌, ◌+◌, ◌*◌, ℕ, length, sym, ap, subst}
use Rattle.chunk_usage.specs.Ledger.{Ledger}
use Rattle.shared_cells.specs.Cells.{cells_of}
use Rattle.qp_multi.specs.Turns.{Agrees, cells_with}
use Rattle.qp_multi.proofs.KeepLaws.{agrees_closed, stands_closed}
use Rattle.qp_multi.proofs.writer.WorkingVersion.start_chunk.Goals as goal

pub invariant_of-self : goal.invariant_of-self
invariant_of-self c =
    let d = c.args.self.now in
    let after = c.fresh.ensures.after in
    let chunks = ap (λ (l : Ledger). length l.given) after in
    record {
      wide = ap (λ (n : ℕ). 4161 + 2048 * n) chunks ∙ d.wide;
      agrees = subst (λ (n : ℕ). Agrees (cells_of n d.seat.place.me.0.turn) c.fresh.new.self d.seat.passes) (sym chunks)
          (agrees_closed (cells_with d.usage d.seat.place.me.0.turn) d.usage c.fresh.new.self d.seat.passes after c.fresh.ensures.grows d.agrees);
      base_is = d.base_is;
    }

pub returns-clause-stands : goal.returns-clause-stands
returns-clause-stands c es = let d = c.args.self.now in stands_closed d.seat.place.me.0 d.usage c.fresh.new.self d.root es c.fresh.ensures.after c.fresh.ensures.grows
