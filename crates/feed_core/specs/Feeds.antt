-- What contracts see of a feed and of its seats.
use Rattle.std.specs.Prelude.{◌≡◌, ◌≢◌, ℕ, ◌+◌, ◌-◌, ◌<◌, ◌≤◌, List, [], ◌∷◌, ◌++◌, length, map, sum_by, Bool, false, if◌then◌else◌, All, Contains, slice_index_or}
use Rattle.std.specs.List.Sorted.{IsStrictlyIncreasing}
use Rattle.atomic_table.specs.Seated.{TableId}
use Rattle.crossbeam_queue.specs.Passes.{Pass, view}
use Rattle.feed_core.specs.declared.knowledge.Knowledge.{Knowledge}
use Rattle.feed_core.specs.Rule.{times}

-- a feed: which queue it has, how many numbers it hands out, and to how many seats
pub record Handout : Type 0 where
  pub table : TableId
  pub count : ℕ
  pub seats : ℕ

-- a seat: of which feed it is, the numbers that it took, in order, and whether it was told that none is left
pub record Takings : Type 0 where
  pub feed : Handout
  pub taken : List ℕ
  pub done : Bool

-- a seat that has taken nothing
abbrev pub new_seat : Handout → Takings
new_seat feed = record { feed = feed; taken = []; done = false }

-- so many numbers a seat can take at most
abbrev pub remaining : Takings → ℕ
remaining seat = seat.feed.count - length seat.taken

-- The seat took this number.
pub record TakesNext (old : Takings) (number : ℕ) (new : Takings) : Type 0 where
  pub after : new ≡ record old { taken = old.taken ++ number ∷ [] }
  -- all that it took before is below it
  pub above : All (λ before. before < number) old.taken
  pub within : (0 < number) × (number ≤ old.feed.count)
  -- it was never told that none is left
  pub not_done : old.done ≡ false

-- what the seats took
abbrev pub lists_of : List Takings → List (List ℕ)
lists_of seats = map (λ seat. seat.taken) seats

abbrev pub list_at : List (List ℕ) → ℕ → List ℕ
list_at lists i = slice_index_or lists i []

-- The number stands in just one of the lists, and there once.
pub record StandsOnce (lists : List (List ℕ)) (number : ℕ) : Type 0 where
  pub list : ℕ
  pub there : list < length lists
  pub once : times number (list_at lists list) ≡ 1
  pub nowhere_else : (other : ℕ) → other < length lists → other ≢ list → ¬ Contains (list_at lists other) number

-- What the seats of a feed took, up to the first number that none of them did.
pub record AreTaken (count : ℕ) (lists : List (List ℕ)) (next : ℕ) : Type 0 where
  -- That is one of the feed's, or comes behind all of them.
  pub within : (0 < next) × (next ≤ count + 1)
  -- Each number before it was taken, by one seat, once.
  pub once : (number : ℕ) → 0 < number → number < next → StandsOnce lists number
  -- No other number was.
  pub below : All (All (λ number. (0 < number) × (number < next))) lists
  -- Each seat took its own in order.
  pub rising : All IsStrictlyIncreasing lists

-- inside

-- a feed as a pass knows it
abbrev pub feed_of : Pass ℕ Knowledge → Handout
feed_of pass = record { table = pass.table_id; count = (view pass).put; seats = (view pass).whole }

-- a seat as its pass has it, by whether it has had its end mark
abbrev pub takings_of : Pass ℕ Knowledge → Bool → Takings
takings_of pass done = record { feed = feed_of pass; taken = (view pass).taken; done = done }

-- A seat's pass has one part, and puts nothing. There was one end mark for each part. What it took rises, and is within the numbers that
-- were put.
pub record IsSeated (pass : Pass ℕ Knowledge) (done : Bool) : Type 0 where
  pub no_slots : pass.me.1 ≡ []
  pub part : (view pass).parts ≡ 1
  pub filled : (view pass).fills ≡ false
  pub marked : (view pass).marks ≡ (view pass).whole
  pub ended : (view pass).ends ≡ (if done then 1 else 0)
  pub rising : IsStrictlyIncreasing (view pass).taken
  pub within : All (λ number. (0 < number) × (number ≤ (view pass).put)) (view pass).taken

-- The pass has the parts of these seats.
pub record IsGathered (feed : Handout) (seats : List Takings) (pass : Pass ℕ Knowledge) : Type 0 where
  pub table : pass.table_id ≡ feed.table
  pub no_slots : pass.me.1 ≡ []
  pub parts : (view pass).parts ≡ length seats
  pub whole : (view pass).whole ≡ feed.seats
  pub put : (view pass).put ≡ feed.count
  pub filled : (view pass).fills ≡ false
  pub marked : (view pass).marks ≡ (view pass).whole
  -- a number stands in its list as often as in theirs
  pub taken : (number : ℕ) → times number (view pass).taken ≡ sum_by (λ seat. times number seat.taken) seats
  -- it took one end mark for each of them that was told that none is left
  pub ended : (view pass).ends ≡ sum_by (λ seat. if seat.done then 1 else 0) seats
  pub rising : All (λ seat. IsStrictlyIncreasing seat.taken) seats
