use Rattle.std.proofs.Common.{◌≡◌, drop, map}
use Rattle.zone_model.specs.Data.{read_strings, ahead}
use Rattle.zone_text.specs.Tokens.{token_view}
use Rattle.rr_data.proofs.strings.push_strings.Given as goal

abbrev pub invariant-loop-at : goal.invariant-loop-at
invariant-loop-at l = ahead l.fn.out.items (read_strings 0 65535 (map (token_view l.bytes) l.tokens)) ≡ ahead l.out.items (read_strings l.at l.room (map (token_view l.bytes) (drop l.at l.tokens)))
