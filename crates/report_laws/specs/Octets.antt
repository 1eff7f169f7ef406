-- Texts of octets.
use Rattle.std.specs.Prelude.{ℕ, ◌<◌, List}
use Rattle.std.specs.List.{AllByRecursion}

abbrev pub IsOctet : ℕ → Type 0
IsOctet c = c < 256

abbrev pub AllOctets : List ℕ → Type 0
AllOctets text = AllByRecursion IsOctet text
