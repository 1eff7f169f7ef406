-- What is written of a difference so far.
use Rattle.std.specs.Prelude.{◌≡◌, ℕ, zero, suc, ◌+◌, ◌<◌, List, ◌++◌, length}
use Rattle.std.specs.List.{AllByRecursion, flat_map}
use Rattle.zone_model.specs.Names.{Name}
use Rattle.zone_model.specs.Versions.{Operation}
use Rattle.zone_diff.specs.declared.DiffStyle.{DiffStyle}
use Rattle.zone_diff.specs.Blocks.{block_limit}
use Rattle.zone_diff.specs.Sinks.{Aim}
use Rattle.zone_diff.specs.Texts.{block_text, line, opening}

-- operations of blocks, one block behind the other
abbrev pub joined : List (List Operation) → List Operation
joined = flat_map (λ block. block)

-- blocks that have as many operations as they may
abbrev pub AreFull : List (List Operation) → Type 0
AreFull = AllByRecursion (λ (block : List Operation). length block ≡ block_limit)

-- whole blocks, and nothing behind them
pub record Closed (style : DiffStyle) (origin : Name) (text : List ℕ) (operations : List Operation) : Type 0 where
  pub whole : List (List Operation)
  pub full : AreFull whole
  pub all : operations ≡ joined whole
  pub is : text ≡ flat_map (block_text style origin) whole

-- whole blocks, and one behind them that isn't ended, which has room for some operations
pub record Opened (style : DiffStyle) (origin : Name) (text : List ℕ) (room : ℕ) (operations : List Operation) : Type 0 where
  pub whole : List (List Operation)
  pub begun : List Operation
  pub full : AreFull whole
  pub count : length begun + room ≡ block_limit
  pub all : operations ≡ joined whole ++ begun
  pub is : text ≡ flat_map (block_text style origin) whole ++ (opening style origin ++ flat_map (line style) begun)

-- the same where the block behind them has an operation
pub record Begun (style : DiffStyle) (origin : Name) (text : List ℕ) (room : ℕ) (operations : List Operation) : Type 0 where
  pub opened : Opened style origin text room operations
  pub some : room < block_limit

-- a block is begun where there is room
abbrev pub Holds : DiffStyle → Name → List ℕ → ℕ → List Operation → Type 0
Holds style origin text zero operations = Closed style origin text operations
Holds style origin text (suc room) operations = Begun style origin text (suc room) operations

-- the text of a sink in this style, for zones of this origin
pub record HoldsFor (style : DiffStyle) (origin : Name) (text : List ℕ) (room : ℕ) (aim : Aim) (operations : List Operation) : Type 0 where
  pub in_style : style ≡ aim.style
  pub of_origin : origin ≡ aim.origin
  pub holds : Holds style origin text room operations
