use Rattle.std.proofs.Common.{◌≡◌, ◌++◌, take}
use Rattle.std.specs.Io.{StartsWith}
use Rattle.zone_model.specs.DataText.{string_text}
use Rattle.rr_data.proofs.data_text.push_string_text.Given as goal

abbrev pub invariant-loop-octet : goal.invariant-loop-octet
invariant-loop-octet l = record {
  text : l.out.items ≡ l.fn.out.items ++ string_text (take l.octet-index l.octets);
  kept : StartsWith l.out.items l.fn.out.items;
}
