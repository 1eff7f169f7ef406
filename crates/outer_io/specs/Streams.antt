-- What a reader and a writer of std stand for, as a source and a sink.
use Rattle.std.specs.Prelude.{ℕ, Bool, List, Option}

-- the bytes that the reader gave, and whether it told the end of input; those that it has left, where they are known; how many calls have failed
pub record Reading : Type 0 where
  pub given : List ℕ
  pub ended : Bool
  pub left : Option (List ℕ)
  pub faults : ℕ

-- the bytes that the writer took; those that it holds, where they are known; how many calls have failed
pub record Writing : Type 0 where
  pub taken : List ℕ
  pub held : Option (List ℕ)
  pub faults : ℕ
