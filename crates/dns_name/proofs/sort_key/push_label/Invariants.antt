use Rattle.std.proofs.Common.{◌≡◌, ◌++◌, drop}
use Rattle.dns_name.specs.SortKeys.{label_key}
use Rattle.dns_name.proofs.sort_key.push_label.Given as goal

abbrev pub invariant-loop-octet : goal.invariant-loop-octet
invariant-loop-octet l = l.out.items ++ label_key (drop l.octet-index l.label) ≡ l.fn.out.items ++ label_key l.label
