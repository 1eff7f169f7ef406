use Rattle.std.proofs.Common.{arith, ap, List, ℕ, length}
use Rattle.zone_model.proofs.ItemLemmas.{few_in_set}
use Rattle.rr_data.proofs.encoding.put_set.Goals as goal

pub overflow_cast-records : goal.overflow_cast-records
overflow_cast-records c = omega (arith, c.requires.fits, few_in_set c.args.set.now, ap (λ (l : List (List ℕ)). length l) c.records-records.ensures)
