-- What sources and sinks in memory stand for.
use Rattle.std.specs.Prelude.{ℕ, ◌+◌, List, ◌++◌, length, nat_le, if◌then◌else◌, Option, None, Some}
use Rattle.outer_io.specs.Calls.{Calls}

-- bytes that are given out
pub record Pieces : Type 0 where
  -- those that were, and those still to come
  pub given : List ℕ
  pub left : List ℕ
  -- how many one call gives at most
  pub most : ℕ

pub record SourceState : Type 0 where
  pub given : List ℕ
  pub left : List ℕ
  pub most : ℕ
  pub calls : Calls

-- bytes that were taken
pub record Tray : Type 0 where
  -- all of them, and the same while they fit
  pub taken : List ℕ
  pub held : Option (List ℕ)
  -- how many fit
  pub room : ℕ

pub record QuietState : Type 0 where
  pub taken : List ℕ
  pub held : Option (List ℕ)
  pub room : ℕ
  -- how many one call takes at most
  pub most : ℕ

pub record SinkState : Type 0 where
  pub taken : List ℕ
  pub held : Option (List ℕ)
  pub room : ℕ
  pub most : ℕ
  pub calls : Calls

-- what is held after bs more: the bytes while they fit the room, and nothing from then on
abbrev pub told : ℕ → Option (List ℕ) → List ℕ → Option (List ℕ)
told room None bs = None
told room (Some xs) bs = if nat_le (length xs + length bs) room then Some (xs ++ bs) else None
