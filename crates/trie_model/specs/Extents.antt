-- Where an item lies, in cells of 16 octets. Up to 4,096 octets have one extent: cells side by side in one chunk. Of a longer item the
-- first extent has 255 cells with its first 4,080 octets, and behind them a link cell, which says where the next extent begins; that one
-- has the rest of the item in the same way.
use Rattle.std.specs.Prelude.{◌≡◌, ◌≢◌, ℕ, ◌+◌, ◌-◌, ◌*◌, ◌/◌, ◌%◌, ◌^◌, ◌<◌, ◌≤◌, Bool, true, List, ◌++◌, length, drop, zero, suc, [], ◌∷◌}
use Rattle.std.specs.Int.{w64, from_le_bytes}
use Rattle.packed_node.specs.declared.Cell.{Cell}

pub data Extents : Type 0 where
  -- the only extent, or the last one, begins here
  last : ℕ → Extents
  -- one begins here, and has others behind it
  linked : ℕ → Extents → Extents

-- the first cell
abbrev pub first_of : Extents → ℕ
first_of (last r) = r
first_of (linked r x) = r

-- how many cells n octets fill, and how many link cells they need beside these: as few as that allows
abbrev pub content_cells : ℕ → ℕ
content_cells n = (n + 15) / 16

abbrev pub links : ℕ → ℕ
links n = (n - 17) / 4080

-- all cells of an item
abbrev pub cells_in : List ℕ → ℕ
cells_in item = content_cells (length item) + links (length item)

-- n neighbouring cells of one chunk
pub record IsRow (first n : ℕ) : Type 0 where
  pub inside : first + n ≤ 2 ^ 22
  pub together : first % 1024 + n ≤ 1024

-- how many cells an extent has that has others behind it
unfoldable pub linked_cells : ℕ
linked_cells = 256

-- these are the extents of n octets
abbrev pub AreExtents : ℕ → Extents → Type 0
AreExtents n (last r) = (n ≤ 4096) × IsRow r (content_cells n)
AreExtents n (linked r x) = (4096 < n) × IsRow r linked_cells × AreExtents (n - 4080) x

-- the k-th cell of an item: 16 octets, the first eight in big and the others in small, each word with the first octet the
-- lowest; 0 past the item's end
abbrev pub item_cell : List ℕ → ℕ → Cell
item_cell item k = record { big = from_le_bytes w64 (drop (16 * k) item); small = from_le_bytes w64 (drop (16 * k + 8) item) }

abbrev pub link_cell : ℕ → Cell
link_cell next = record { big = 0; small = next }

-- the item lies there, in a memory that has cells at references
abbrev pub ItemLies : (ℕ → Cell → Type 0) → Extents → List ℕ → Type 0
ItemLies has (last r) item = (k : ℕ) → k < content_cells (length item) → has (r + k) (item_cell item k)
ItemLies has (linked r x) item = ((k : ℕ) → k < 255 → has (r + k) (item_cell item k)) × has (r + 255) (link_cell (first_of x)) × ItemLies has x (drop 4080 item)

-- an item of n octets lies from r on, in these extents; and in some
pub record LiesAt (has : ℕ → Cell → Type 0) (r n : ℕ) (item : List ℕ) (x : Extents) : Type 0 where
  pub from : first_of x ≡ r
  pub size : length item ≡ n
  pub are : AreExtents n x
  pub lies : ItemLies has x item

pub record HasItem (has : ℕ → Cell → Type 0) (r n : ℕ) (item : List ℕ) : Type 0 where
  pub extents : Extents
  pub there : LiesAt has r n item extents

-- n references from r on
abbrev pub side_by_side : ℕ → ℕ → List ℕ
side_by_side r zero = []
side_by_side r (suc n) = r ∷ side_by_side (suc r) n

-- the references of the cells that n octets have there, link cells with them
abbrev pub spots : ℕ → Extents → List ℕ
spots n (last r) = side_by_side r (content_cells n)
spots n (linked r x) = side_by_side r linked_cells ++ spots (n - 4080) x

-- each of them is of some kind, and passes a test
abbrev pub EachCell : (ℕ → Type 0) → ℕ → Extents → Type 0
EachCell P n (last r) = (k : ℕ) → k < content_cells n → P (r + k)
EachCell P n (linked r x) = ((k : ℕ) → k < linked_cells → P (r + k)) × EachCell P (n - 4080) x

abbrev pub WithinExtents : (ℕ → Bool) → ℕ → Extents → Type 0
WithinExtents P n x = EachCell (λ q. P q ≡ true) n x

-- a cell is none of them; no cell is met twice
abbrev pub IsBeside : ℕ → ℕ → Extents → Type 0
IsBeside q n x = EachCell (λ p. q ≢ p) n x

abbrev pub AreApart : ℕ → Extents → Type 0
AreApart n (last r) = Unit {0}
AreApart n (linked r x) = ((k : ℕ) → k < linked_cells → IsBeside (r + k) (n - 4080) x) × AreApart (n - 4080) x

-- The sum of what references weigh, each by w: n side by side, and those of n octets
abbrev pub row : (ℕ → ℕ) → ℕ → ℕ → ℕ
row w r zero = 0
row w r (suc n) = w r + row w (suc r) n

abbrev pub weigh_extents : (ℕ → ℕ) → ℕ → Extents → ℕ
weigh_extents w n (last r) = row w r (content_cells n)
weigh_extents w n (linked r x) = row w r linked_cells + weigh_extents w (n - 4080) x
