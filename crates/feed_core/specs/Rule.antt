-- What holds of the queue, and of what all seats know, between any two steps.
use Rattle.std.specs.Prelude.{◌≡◌, ℕ, ◌+◌, ◌<◌, ◌≤◌, ◌==◌, ◌&&◌, nat_lt, if◌then◌else◌, List, [], ◌++◌, true, replicate, sum_by, count_by, All}
use Rattle.std.specs.List.{range_with_len}
use Rattle.feed_core.specs.declared.knowledge.TheConstants.{END}
use Rattle.feed_core.specs.declared.knowledge.Knowledge.{Knowledge}

-- how often a number stands in a list
abbrev pub times : ℕ → List ℕ → ℕ
times number list = count_by (λ x. x == number) list

-- 1 for each number from 1 on that is below the next one, and 0 for all others
abbrev pub once_below : ℕ → ℕ → ℕ
once_below next number = if nat_lt 0 number && nat_lt number next then 1 else 0

-- What a seat with a part knows, where so many numbers are gone and so many are left, so many end marks stand in the queue, there are
-- so many parts, and so many end marks were put.
pub record Knows (gone left marks whole total : ℕ) (v : Knowledge) : Type 0 where
  pub whole_is : v.whole ≡ whole
  pub put_is : v.put ≡ gone + left
  pub marks_is : v.marks ≡ total
  -- who took an end mark: no number is left
  pub ended : 0 < v.ends → left ≡ 0
  -- who may still put numbers and marks: it has all parts, and nothing was taken
  pub filling : v.fills ≡ true → (v.parts ≡ whole) × (gone ≡ 0) × (marks ≡ total)

-- A seat without a part has taken nothing, and nothing is said of what it knows. No seat takes more end marks than it has parts.
pub record Fits (gone left marks whole total : ℕ) (v : Knowledge) : Type 0 where
  pub idle : v.parts ≡ 0 → v.taken ≡ []
  pub few : v.ends ≤ v.parts
  pub knows : 0 < v.parts → Knows gone left marks whole total v

-- There are such numbers, of which this is so.
pub record IsHandedOut (items : List ℕ) (views : List Knowledge) : Type 0 where
  pub gone : ℕ
  pub left : ℕ
  pub marks : ℕ
  pub whole : ℕ
  pub total : ℕ
  -- the queue holds the numbers that are left, in order, and behind them the end marks
  pub queued : items ≡ range_with_len (gone + 1) left ++ replicate marks END
  -- each number that is gone stands in the list of one seat, once, and no other number stands in any
  pub once : (number : ℕ) → sum_by (λ v. times number v.taken) views ≡ once_below (gone + 1) number
  -- all seats together have all parts
  pub parts : sum_by (λ v. v.parts) views ≡ whole
  -- each end mark is in the queue, or was taken by one seat
  pub ends : marks + sum_by (λ v. v.ends) views ≡ total
  pub seats : All (Fits gone left marks whole total) views
