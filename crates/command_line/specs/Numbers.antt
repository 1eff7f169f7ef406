-- Numbers of the command line: decimal digits within limits.
use Rattle.std.specs.Prelude.{ℕ, ◌-◌, ◌^◌, List, nat_le, if◌then◌else◌, Option, Some, None, option_and_then}
use Rattle.zone_model.specs.Texts.{number}

-- a number from a least to a greatest one
abbrev pub within : ℕ → ℕ → List ℕ → Option ℕ
within least most value = option_and_then (λ n. if nat_le least n then Some n else None) (number most value)

abbrev pub chunks_of : List ℕ → Option ℕ
chunks_of value = within 16 4096 value

-- the number of chunks where none is given
abbrev pub default_chunks : ℕ
default_chunks = 64

abbrev pub seed_of : List ℕ → Option ℕ
seed_of value = number (2 ^ 64 - 1) value

abbrev pub names_of : List ℕ → Option ℕ
names_of value = within 1 20000 value

abbrev pub turns_of : List ℕ → Option ℕ
turns_of value = within 1 10000 value

-- how many workers a script has
abbrev pub workers_of : List ℕ → Option ℕ
workers_of value = within 1 16 value
