-- The text of a file, part by part.
use Rattle.std.specs.Prelude.{ℕ, Bool, false, List, [], ◌∷◌, ◌++◌, Option, Some, None}
use Rattle.zone_model.specs.Names.{Name}
use Rattle.zone_model.specs.Versions.{Version}
use Rattle.zone_model.specs.Rows.{Row, Directives, directives_text, line_text}
use Rattle.zone_model.specs.Dumps.{version_lines, directives_of}
use Rattle.zone_model.specs.declared.Style.{Style}
use Rattle.zone_model.specs.declared.Style.TheVariants.{Full, Short}

-- the lines of records of one name, of which the first is the first one of the name or a later one
abbrev pub lines_from : Option Directives → Bool → List Row → List ℕ
lines_from directives first [] = []
lines_from directives first (row ∷ rows) = line_text directives first row ++ lines_from directives false rows

-- what a file begins with
abbrev pub head_text : Option Directives → List ℕ
head_text None = []
head_text (Some d) = directives_text d

abbrev pub file_text : Option Directives → Version → List ℕ
file_text directives version = head_text directives ++ version_lines directives version

-- the directives that a file of a style stands under
abbrev pub directives_in : Style → Name → Version → Option Directives
directives_in Full origin version = None
directives_in Short origin version = Some (directives_of origin version)
