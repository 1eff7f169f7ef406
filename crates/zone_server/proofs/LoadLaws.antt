-- A zone that was read is one that can be written down again.
use Rattle.std.proofs.Common.{◌<◌, ℕ, suc, List, [], ◌∷◌, get_or}
use Rattle.zone_model.specs.Names.{Name, IsName}
use Rattle.zone_model.specs.Lines.{lines_of}
use Rattle.zone_model.specs.MasterFile.{Zone, zone_of}
use Rattle.std.specs.Prelude.{◌≡◌, Ok}
use Rattle.std.proofs.Common.{subst, sym}
use Rattle.master_file.specs.Rows.{CanBeDumped}
use Rattle.report_laws.specs.Octets.{AllOctets}
use Rattle.report_laws.proofs.ReaderLemmas.{zone_dumped}
use Rattle.report_laws.proofs.VersionLemmas.{lines_are}

pub octets_of : (bytes : List ℕ) → ((i : ℕ) → get_or bytes i 0 < 256) → AllOctets bytes
octets_of [] small = tt
octets_of (c ∷ bytes) small = (small 0, octets_of bytes (λ i. small (suc i)))

pub read_dumped : (origin : Name) (bytes : List ℕ) (zone : Zone) → IsName origin → AllOctets bytes → zone_of origin (lines_of bytes) ≡ Ok zone.pairs → zone.origin ≡ origin → CanBeDumped zone.origin zone.pairs
read_dumped origin bytes zone name octets read same = subst (λ (o : Name). CanBeDumped o zone.pairs) (sym same) (zone_dumped origin (lines_of bytes) zone.pairs (lines_are bytes octets) name read)
