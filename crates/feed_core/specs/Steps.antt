-- What each step on the queue needs of its seat, and what it tells it.
use Rattle.std.specs.Prelude.{◌≡◌, ℕ, ◌+◌, ◌<◌, ◌≤◌, ◌==◌, ◌⊎◌, List, [], length, false, All, MatchBool}
use Rattle.feed_core.specs.declared.knowledge.TheConstants.{END}
use Rattle.feed_core.specs.declared.knowledge.Knowledge.{Knowledge}
use Rattle.feed_core.specs.Knowledge.{with_put, with_mark, with_taken, ended}
use Rattle.feed_core.specs.Rule.{times, once_below}

-- who has all parts has taken each number below the next one, once, and no other
abbrev pub KnowsAll : Knowledge → ℕ → Type 0
KnowsAll v next = v.parts ≡ v.whole → (number : ℕ) → times number v.taken ≡ once_below next number

-- A part can go to a new seat.
pub record CanDeal (v : Knowledge) : Type 0 where
  -- There is one to give.
  pub part : 0 < v.parts
  -- No number was taken.
  pub nothing : v.taken ≡ []
  -- No end mark was taken.
  pub not_done : v.ends ≡ 0
  -- There was an end mark for each part.
  pub marked : v.marks ≡ v.whole

-- A number or an end mark can be taken.
pub record CanTake (v : Knowledge) : Type 0 where
  -- The seat has a part.
  pub part : 0 < v.parts
  -- It puts nothing any more.
  pub filled : v.fills ≡ false
  -- There was an end mark for each part.
  pub marked : v.marks ≡ v.whole
  -- One of its parts has had no end mark yet, or it has all parts.
  pub mark : (v.ends < v.parts) ⊎ (v.parts ≡ v.whole)

-- The seat took a number.
pub record TakesNumber (v : Knowledge) (number : ℕ) (w : Knowledge) : Type 0 where
  pub after : w ≡ with_taken v number
  -- all that the seat took before is below it
  pub above : All (λ before. (0 < before) × (before < number)) v.taken
  pub within : (0 < number) × (number ≤ v.put)
  pub not_done : v.ends ≡ 0
  pub all : KnowsAll v number

-- The seat took an end mark, so no number is left.
pub record TakesMark (v w : Knowledge) : Type 0 where
  pub after : w ≡ ended v
  pub all : KnowsAll v (v.put + 1)

-- No number is left, by an end mark that the seat took, or since it has had one for each of its parts.
pub record FindsNone (v w : Knowledge) : Type 0 where
  pub after : (w ≡ ended v) ⊎ ((w ≡ v) × (v.parts ≤ v.ends))
  pub all : KnowsAll v (v.put + 1)

-- a pop
abbrev pub takes : Knowledge → ℕ → Knowledge → Type 0
takes v item w = MatchBool (item == END) (TakesMark v w) (TakesNumber v item w)

-- a push of the next number
abbrev pub puts_number : Knowledge → ℕ → Knowledge → Type 0
puts_number v number w = w ≡ with_put v

-- a queue that would be full, while it is filled: it holds all that were put, and nothing else
abbrev pub holds_all : Knowledge → List ℕ → Type 0
holds_all v items = length items ≡ v.put + v.marks

-- a push of an end mark
abbrev pub puts_mark : Knowledge → ℕ → Knowledge → Type 0
puts_mark v mark w = w ≡ with_mark v

-- a queue that is found empty: the seat has had an end mark for each of its parts, and no number is left
abbrev pub leaves_none : Knowledge → List ℕ → Type 0
leaves_none v items = length items ≡ 0 → (v.parts ≤ v.ends) × KnowsAll v (v.put + 1)
