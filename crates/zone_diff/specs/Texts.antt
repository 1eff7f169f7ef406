-- A difference as text, in one of two styles: as the transactions of a script, and as the lines that nsupdate reads.
use Rattle.std.specs.Prelude.{ℕ, List, [], ◌++◌, codes}
use Rattle.std.specs.List.{flat_map}
use Rattle.std.specs.Fmt.{decimal}
use Rattle.zone_model.specs.Names.{Name}
use Rattle.zone_model.specs.NameText.{text_of}
use Rattle.zone_model.specs.DataText.{type_text, data_text}
use Rattle.zone_model.specs.Versions.{Operation, Add, DeleteName, DeleteSet, DeleteRecord}
use Rattle.zone_diff.specs.declared.DiffStyle.{DiffStyle}
use Rattle.zone_diff.specs.declared.DiffStyle.TheVariants.{Script, Nsupdate}
use Rattle.zone_diff.specs.Blocks.{blocks}

-- ---- the words of each style

abbrev pub adding : DiffStyle → List ℕ
adding Script = codes "add "
adding Nsupdate = codes "update add "

abbrev pub deleting : DiffStyle → List ℕ
deleting Script = codes "del "
deleting Nsupdate = codes "update delete "

-- the class, which a script leaves out
abbrev pub class : DiffStyle → List ℕ
class Script = []
class Nsupdate = codes "IN "

-- what begins a transaction, and what ends it
abbrev pub opening : DiffStyle → Name → List ℕ
opening Script origin = codes "update\n"
opening Nsupdate origin = codes "zone " ++ text_of origin ++ codes "\n"

abbrev pub closing : DiffStyle → List ℕ
closing Script = codes "commit\n"
closing Nsupdate = codes "send\n"

-- ---- operations, one a line

abbrev pub record_words : ℕ → List ℕ → List ℕ
record_words rtype octets = type_text rtype ++ codes " " ++ data_text rtype octets

abbrev pub line : DiffStyle → Operation → List ℕ
line style (Add a) = adding style ++ text_of a.owner ++ codes " " ++ decimal a.ttl ++ codes " " ++ class style ++ record_words a.rtype a.octets ++ codes "\n"
line style (DeleteName owner) = deleting style ++ text_of owner ++ codes "\n"
line style (DeleteSet owner rtype) = deleting style ++ text_of owner ++ codes " " ++ class style ++ type_text rtype ++ codes "\n"
line style (DeleteRecord owner rtype octets) = deleting style ++ text_of owner ++ codes " " ++ class style ++ record_words rtype octets ++ codes "\n"

-- a transaction of a zone's origin
abbrev pub block_text : DiffStyle → Name → List Operation → List ℕ
block_text style origin operations = opening style origin ++ flat_map (line style) operations ++ closing style

-- transactions of at most 10,000 operations each; nothing where there are no operations
abbrev pub text_in : DiffStyle → Name → List Operation → List ℕ
text_in style origin operations = flat_map (block_text style origin) (blocks operations)
