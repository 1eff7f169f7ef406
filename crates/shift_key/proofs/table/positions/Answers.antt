use Rattle.std.proofs.Common.{◌≡◌, ◌∙◌, ap, refl, arith, ℕ, ◌+◌, ◌*◌, List, length, get_or, map}
use Rattle.std.specs.List.{range_with_len}
use Rattle.std.proofs.lemmas.List.FromFn.{get_or-map-range_with_len}
use Rattle.zone_model.specs.Keys.{first_position, second_position, octet_positions}
use Rattle.shift_key.specs.declared.table.TheConstants.{POSITIONS}
use Rattle.shift_key.proofs.table.positions.Goals as goal

all : ℕ → ℕ
all c = first_position c + 256 * second_position c + 65536 * length (octet_positions c)

-- the table's rule, computed at each octet
table_is : POSITIONS ≡ map all (range_with_len 0 256)
unfolding all first_position second_position
table_is = refl

pub returns : goal.returns
unfolding all
returns c = ap (λ (l : List ℕ). get_or l c.args.octet 0) table_is ∙ get_or-map-range_with_len all 0 256 c.args.octet c.args.octet 0 (omega arith) (omega arith)
