-- The serial of an SOA record: of the five numbers of four octets that end its data, the first (RFC 1035, section 3.3.13).
use Rattle.std.specs.Prelude.{ℕ, ◌+◌, ◌-◌, ◌%◌, Bool, List, ◌++◌, length, take, drop, slice_index, slice_set}
use Rattle.std.specs.Ordering.{is_eq}
use Rattle.zone_model.specs.Records.{octets_cmp}
use Rattle.zone_diff.specs.declared.Serial.{Serial}
use Rattle.zone_diff.specs.declared.Serial.TheVariants.{Keep, Ignore}

-- the data but for its serial
abbrev pub without_serial : List ℕ → List ℕ
without_serial octets = take (length octets - 20) octets ++ drop (length octets - 16) octets

-- the data with another serial: the last octet of it counts up, 0 behind 255
abbrev pub renumbered : List ℕ → List ℕ
renumbered octets = slice_set octets (length octets - 17) ((slice_index octets (length octets - 17) + 1) % 256)

-- two SOA records count as the same
abbrev pub counts_as : Serial → List ℕ → List ℕ → Bool
counts_as Keep a b = is_eq (octets_cmp a b)
counts_as Ignore a b = is_eq (octets_cmp (without_serial a) (without_serial b))
