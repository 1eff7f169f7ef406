use Rattle.std.proofs.Common.{◌≡◌, drop, map, None, false}
use Rattle.zone_model.specs.MasterFile as says
use Rattle.zone_text.specs.Tokens.{token_view}
use Rattle.master_file.proofs.front.front_of.Given as goal

abbrev pub invariant-loop-index : goal.invariant-loop-index
invariant-loop-index l = says.front_of l.last None false (map (token_view l.bytes) l.tokens) ≡ says.front_of l.last l.time l.classed (map (token_view l.bytes) (drop l.index l.tokens))
