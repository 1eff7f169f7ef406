use Rattle.std.proofs.Common.{◌≡◌, ◌+◌, drop, map, true}
use Rattle.std.specs.List.{list_all}
use Rattle.std.specs.Char.{is_ascii_hexdigit}
use Rattle.zone_model.specs.Data.{read_digits, ahead}
use Rattle.zone_text.specs.Tokens.{token_view}
use Rattle.rr_data.proofs.generic.push_digits.Given as goal

abbrev pub invariant-loop-index : goal.invariant-loop-index
invariant-loop-index l = record {
  hex : list_all is_ascii_hexdigit l.digits.items ≡ true;
  goes_on : ahead l.fn.digits.items (read_digits 2 l.most (map (token_view l.bytes) l.tokens)) ≡ ahead l.digits.items (read_digits (l.index + 2) l.left (map (token_view l.bytes) (drop l.index l.tokens)));
}
