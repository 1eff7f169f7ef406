use Rattle.std.proofs.Common.{◌≡◌, drop, map}
use Rattle.std.specs.List.{All}
use Rattle.zone_model.specs.Data.{read_fields, ahead}
use Rattle.zone_text.specs.Tokens.{token_view, IsPlaced}
use Rattle.rr_data.specs.Fields.{field_view}
use Rattle.rr_data.proofs.fields.push_fields.Given as goal

abbrev pub invariant-loop-at : goal.invariant-loop-at
invariant-loop-at l = record {
  placed : All (IsPlaced l.bytes) l.rest;
  goes_on : ahead l.fn.out.items (read_fields l.origin 0 (map field_view l.fields) (map (token_view l.bytes) l.tokens)) ≡ ahead l.out.items (read_fields l.origin l.at (map field_view (drop l.at l.fields)) (map (token_view l.bytes) l.rest));
}
