-- Fields, forms and rows of the table of types as their readers see them.
use Rattle.std.specs.Prelude.{map}
use Rattle.zone_model.specs.Types as says
use Rattle.rr_data.specs.declared.types.Field.{Field}
use Rattle.rr_data.specs.declared.types.Field.TheVariants.{Name, Short, Number, Time, Address, Address6}
use Rattle.rr_data.specs.declared.types.Form.{Form}
use Rattle.rr_data.specs.declared.types.Form.TheVariants.{Fields, Strings}
use Rattle.rr_data.specs.declared.types.NamedType.{NamedType}

abbrev pub field_view : Field → says.Field
field_view Name = says.NameField
field_view Short = says.ShortField
field_view Number = says.NumberField
field_view Time = says.TimeField
field_view Address = says.AddressField
field_view Address6 = says.Address6Field

abbrev pub form_view : Form → says.Form
form_view (Fields fields) = says.Fields (map field_view fields.now)
form_view Strings = says.Strings

abbrev pub type_view : NamedType → says.NamedType
type_view t = record { mnemonic = t.mnemonic.now; number = t.number; form = form_view t.form }
