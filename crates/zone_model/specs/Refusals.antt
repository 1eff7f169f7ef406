-- Refusals that name their line, and steps of which the first refusal stands.
use Rattle.std.specs.Prelude.{ℕ, Result, Ok, Err}

pub record Refused (K : Type 0) : Type 0 where
  pub line : ℕ
  pub kind : K

infixl 10 ◌>>=◌
abbrev pub ◌>>=◌ : {A B E : Type 0} → Result A E → (A → Result B E) → Result B E
(Ok x) >>= f = f x
(Err e) >>= f = Err e
