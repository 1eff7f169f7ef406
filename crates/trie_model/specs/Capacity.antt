-- How many chunks an index needs, so that a transaction finds room.
use Rattle.std.specs.Prelude.{ℕ, ◌+◌, ◌*◌, ◌/◌, ◌<◌, ◌≤◌, Option, Some, None}

-- A chunk is left for another only once so many of its 1,024 cells are filled, since no cells that lie together are more than 256.
abbrev pub filled_cells : ℕ
filled_cells = 769

-- Half of the chunks have room for an index of so many passes, where no version has more cells than so many, and no transaction more
-- operations. For each pass and two more there is a version: a chunk for each 257 of its cells, and nine that have fewer. An operation takes
-- 40 chunks at most. What is moved before a commit fills one for each `filled_cells`. Four are begun and not filled.
abbrev pub is_roomy : ℕ → ℕ → ℕ → ℕ → Type 0
is_roomy passes cells operations chunks = (passes + 2) * (cells / 257 + 9) + 40 * operations + cells / filled_cells + 4 ≤ chunks / 2

-- the least number of chunks that an index may have and that is enough; none where none is
abbrev pub IsLeast : ℕ → ℕ → ℕ → Option ℕ → Type 0
IsLeast passes cells operations None = (chunks : ℕ) → chunks ≤ 4096 → is_roomy passes cells operations chunks → ⊥
IsLeast passes cells operations (Some least) =
    (16 ≤ least) × (least ≤ 4096) × is_roomy passes cells operations least × ((fewer : ℕ) → 16 ≤ fewer → fewer < least → is_roomy passes cells operations fewer → ⊥)
