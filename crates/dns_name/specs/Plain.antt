-- Octets that stand for themselves where a name is printed.
use Rattle.std.specs.Prelude.{ℕ, Bool, ◌&&◌, not, nat_lt}
use Rattle.zone_model.specs.NameText.{is_special}

abbrev pub is_plain : ℕ → Bool
is_plain c = not (is_special c) && (nat_lt 32 c && nat_lt c 127)
