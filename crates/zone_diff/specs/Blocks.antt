-- Operations in transactions of at most 10,000 each.
use Rattle.std.specs.Prelude.{◌≡◌, ℕ, zero, suc, ◌-◌, List, [], ◌∷◌, Result, Ok}
use Rattle.zone_model.specs.Names.{Name}
use Rattle.zone_model.specs.Versions.{Version, Operation, and_then}
use Rattle.zone_model.specs.Transactions.{Transaction, whole}
use Rattle.zone_model.specs.declared.Refusal.{Refusal}
use Rattle.master_file.specs.Rows.{CanBeDumped}

-- operations that go on in the block at hand, and the blocks behind it
pub record Parted : Type 0 where
  pub here : List Operation
  pub behind : List (List Operation)

-- a block that begins with an operation
abbrev pub begun : Operation → Parted → List (List Operation)
begun first p = (first ∷ p.here) ∷ p.behind

-- where a block has at most so many operations, and the one at hand has room for some more
abbrev pub parted : ℕ → ℕ → List Operation → Parted
parted most room [] = record { here = []; behind = [] }
parted most zero (first ∷ rest) = record { here = []; behind = begun first (parted most (most - 1) rest) }
parted most (suc room) (first ∷ rest) = let p = parted most room rest in record { here = first ∷ p.here; behind = p.behind }

abbrev pub blocks_of : ℕ → List Operation → List (List Operation)
blocks_of most [] = []
blocks_of most (first ∷ rest) = begun first (parted most (most - 1) rest)

-- the most operations of a transaction
abbrev pub block_limit : ℕ
block_limit = 10000

abbrev pub blocks : List Operation → List (List Operation)
blocks = blocks_of block_limit

-- a transaction without prerequisites
abbrev pub changes : List Operation → Transaction
changes operations = record { needs = []; operations = operations }

-- what transactions of blocks make of a version, one after another, or the first refusal
abbrev pub in_turn : Name → List (List Operation) → Version → Result Version Refusal
in_turn origin [] version = Ok version
in_turn origin (first ∷ rest) version = and_then (whole origin (changes first) version) (in_turn origin rest)

-- the transactions in front are taken and leave a zone, and those behind them make of that the last version
pub record StopsAt (origin : Name) (front back : List (List Operation)) (before last middle : Version) : Type 0 where
  pub taken : in_turn origin front before ≡ Ok middle
  pub zone : CanBeDumped origin middle
  pub on : in_turn origin back middle ≡ Ok last
