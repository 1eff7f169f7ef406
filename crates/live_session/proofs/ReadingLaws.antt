-- A zone that octets say.
use Rattle.std.proofs.Common.{ℕ, List, Result, Ok, Err, refl}
use Rattle.std.specs.Prelude.{IfOk}
use Rattle.zone_model.specs.Lines.{lines_of}
use Rattle.zone_model.specs.MasterFile.{Zone, zone_of}
use Rattle.zone_model.specs.Names.{IsName, Name}
use Rattle.zone_model.specs.Versions.{Version}
use Rattle.zone_text.specs.Views.{Reads}
use Rattle.zone_text.specs.declared.refusal.ZoneRefusal.{ZoneRefusal}
use Rattle.master_file.specs.Rows.{CanBeDumped}
use Rattle.report_laws.specs.Octets.{AllOctets}
use Rattle.report_laws.proofs.ReaderLemmas.{zone_dumped}
use Rattle.report_laws.proofs.VersionLemmas.{lines_are}
use Rattle.job_model.specs.Sizes.{trie_entries}
use Rattle.job_commands.specs.Histories.{IsZone}
use Rattle.job_commands.proofs.ZoneLaws.{zone_rises}
use Rattle.trie_model.specs.Keys.{Rises}

module _ (origin : Name) (bytes : List ℕ) (name : IsName origin) (octets : AllOctets bytes) where
  pub zone_said : (r : Result Zone ZoneRefusal) → Reads r (λ z. z.pairs) (zone_of origin (lines_of bytes)) → IfOk r (λ z. CanBeDumped origin z.pairs)
  zone_said (Ok zone) read = zone_dumped origin (lines_of bytes) zone.pairs (lines_are bytes octets) name read
  zone_said (Err refusal) read = tt

-- a zone's entries rise
pub entries_rise : (origin : Name) (zone : Version) → CanBeDumped origin zone → Rises (trie_entries zone)
entries_rise origin zone d =
    let is : IsZone origin (trie_entries zone) = record { version = zone; stands = record { valid = record { rising = d.rising; items = d.items }; entries = refl }; zone = d } in zone_rises origin (trie_entries zone) is
