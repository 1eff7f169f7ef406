use Rattle.std.proofs.Common.{◌≡◌, ◌++◌, length}
use Rattle.std.specs.Io.{StartsWith}
use Rattle.std.specs.Option.{option_map}
use Rattle.zone_model.specs.DataText.{strings_text}
use Rattle.rr_data.proofs.data_text.push_strings.Given as goal

abbrev pub invariant-loop-left : goal.invariant-loop-left
invariant-loop-left l = record {
  kept : StartsWith l.out.items l.fn.out.items;
  goes_on : option_map (λ t. l.fn.out.items ++ t) (strings_text (length l.octets) l.octets) ≡ option_map (λ t. l.out.items ++ t) (strings_text l.left l.rest);
}

abbrev pub decreases-loop-left : goal.decreases-loop-left
decreases-loop-left l = l.left
