-- What octets are read as, to be served.
use Rattle.std.specs.Prelude.{◌≡◌, ◌<◌, ◌^◌, ℕ, List, length, Result, Ok, Err}
use Rattle.zone_model.specs.Names.{Name}
use Rattle.zone_model.specs.Lines.{lines_of}
use Rattle.zone_model.specs.MasterFile.{Zone, zone_of}
use Rattle.zone_text.specs.Views.{IsRefused}
use Rattle.zone_server.specs.declared.loading.LoadRefusal.{LoadRefusal}
use Rattle.zone_server.specs.declared.loading.LoadRefusal.TheVariants as refusal

-- the zone that they say, or why they say none
abbrev pub Loads : Name → List ℕ → Result Zone LoadRefusal → Type 0
Loads origin text (Ok zone) = (zone.origin ≡ origin) × (zone_of origin (lines_of text) ≡ Ok zone.pairs)
Loads origin text (Err refusal.TooLong) = 2 ^ 24 < length text
Loads origin text (Err (refusal.Zone e)) = IsRefused e (zone_of origin (lines_of text))
