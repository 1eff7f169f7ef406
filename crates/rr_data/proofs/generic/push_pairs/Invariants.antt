use Rattle.std.proofs.Common.{◌≡◌, ◌++◌, length, true}
use Rattle.std.specs.List.{list_all}
use Rattle.std.specs.Char.{is_ascii_hexdigit}
use Rattle.zone_model.specs.DataWords.{paired}
use Rattle.rr_data.proofs.generic.push_pairs.Given as goal

abbrev pub invariant-loop-rest : goal.invariant-loop-rest
invariant-loop-rest l = record {
  hex : list_all is_ascii_hexdigit l.rest ≡ true;
  goes_on : l.fn.out.items ++ paired l.digits ≡ l.out.items ++ paired l.rest;
}

abbrev pub decreases-loop-rest : goal.decreases-loop-rest
decreases-loop-rest l = length l.rest
