use Rattle.std.proofs.Common.{◌≡◌, drop, map}
use Rattle.zone_model.specs.DataForms as says
use Rattle.rr_data.specs.Fields.{field_view}
use Rattle.rr_data.proofs.forms.fields_fit.Given as goal

abbrev pub invariant-loop-field : goal.invariant-loop-field
invariant-loop-field l = says.fields_fit (map field_view l.fields) l.octets ≡ says.fields_fit (map field_view (drop l.field-index l.fields)) l.rest
