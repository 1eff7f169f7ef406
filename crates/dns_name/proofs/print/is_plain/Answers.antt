use Rattle.std.proofs.Common.{◌≡◌, ◌∙◌, Bool, false, ap, refl, arith, List, get_or, map}
use Rattle.std.specs.List.{range_with_len}
use Rattle.std.proofs.lemmas.List.FromFn.{get_or-map-range_with_len}
use Rattle.dns_name.specs.Plain.{is_plain}
use Rattle.dns_name.specs.declared.print.TheConstants.{PLAIN}
use Rattle.dns_name.proofs.print.is_plain.Goals as goal

-- the table's rule, computed at each octet
table_is : PLAIN ≡ map is_plain (range_with_len 0 256)
table_is = refl

pub returns : goal.returns
returns c = ap (λ (l : List Bool). get_or l c.args.octet false) table_is ∙ get_or-map-range_with_len is_plain 0 256 c.args.octet c.args.octet false (omega arith) (omega arith)
