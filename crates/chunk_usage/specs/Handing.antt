-- Cells that are handed out and released: what each call makes of a ledger.
use Rattle.std.specs.Prelude.{◌≡◌, ℕ, ◌+◌, ◌-◌, ◌*◌, ◌/◌, ◌<◌, ◌≤◌, nat_le, true, not, if◌then◌else◌, Option, None, Some, length, replicate, slice_index, slice_set, Result, Ok, Err}
use Rattle.std.specs.List.{position_or_len}
use Rattle.trie_model.specs.Capacity.{filled_cells}
use Rattle.chunk_usage.specs.declared.bump.Bump.{Bump}
use Rattle.chunk_usage.specs.declared.space.Grant.{Grant}
use Rattle.chunk_usage.specs.declared.space.Shortage.{Shortage}
use Rattle.chunk_usage.specs.Ledger.{Ledger, left, free_count, reserve_of}

-- the free chunk with the lowest number
abbrev pub lowest_free : Ledger → ℕ
lowest_free l = position_or_len not l.given

-- a free chunk becomes the bump chunk, with none of its cells handed out
abbrev pub with_bump : Ledger → ℕ → Ledger
with_bump l chunk = record l {
  given = slice_set l.given chunk true;
  since = slice_set l.since chunk true;
  bump = Some (record { chunk = chunk; filled = 0 });
}

-- n cells of the bump chunk are handed out, and count
abbrev pub taken : Ledger → Bump → ℕ → Ledger
taken l o n = record l {
  live = slice_set l.live o.chunk (slice_index l.live o.chunk + n);
  bump = Some (record { chunk = o.chunk; filled = o.filled + n });
}

-- where so many chunks are kept free: the bump chunk has fewer than n cells left, and no other chunk is free
pub record IsShort (kept_free : ℕ) (l : Ledger) (n : ℕ) : Type 0 where
  pub few_left : left l.bump < n
  pub none_free : free_count l ≤ kept_free

abbrev pub shortage : Ledger → ℕ → Shortage
shortage l n = record { needed = n; left = left l.bump; free = free_count l; reserve = reserve_of l }

-- the place of the bump chunk's next cell
abbrev pub next_cell : Bump → ℕ
next_cell o = o.chunk * 1024 + o.filled

-- the bump chunk, where it has n cells left
abbrev pub roomy : Option Bump → ℕ → Option Bump
roomy None n = None
roomy (Some o) n = if nat_le n (1024 - o.filled) then Some o else None

-- the first cells of the lowest free chunk, which becomes the bump chunk
abbrev pub new_grant : Ledger → Grant
new_grant l = record { at = lowest_free l * 1024; given = Some (lowest_free l) }

abbrev pub newly_taken : Ledger → ℕ → Ledger
newly_taken l n = taken (with_bump l (lowest_free l)) (record { chunk = lowest_free l; filled = 0 }) n

-- What an allocation of n cells answers where so many chunks are kept free, and what it leaves: the reserve is kept free, or none is.
abbrev pub granted_from : ℕ → Ledger → ℕ → Option Bump → Result Grant Shortage
granted_from kept_free l n (Some o) = Ok (record { at = next_cell o; given = None })
granted_from kept_free l n None = if nat_le (free_count l) kept_free then Err (shortage l n) else Ok (new_grant l)

abbrev pub allocated_from : ℕ → Ledger → ℕ → Option Bump → Ledger
allocated_from kept_free l n (Some o) = taken l o n
allocated_from kept_free l n None = if nat_le (free_count l) kept_free then l else newly_taken l n

abbrev pub grant_of : ℕ → Ledger → ℕ → Result Grant Shortage
grant_of kept_free l n = granted_from kept_free l n (roomy l.bump n)

abbrev pub allocated : ℕ → Ledger → ℕ → Ledger
allocated kept_free l n = allocated_from kept_free l n (roomy l.bump n)

-- n cells of one chunk don't count any more; none does
abbrev pub released : Ledger → ℕ → ℕ → Ledger
released l at n = record l { live = slice_set l.live (at / 1024) (slice_index l.live (at / 1024) - n) }

abbrev pub all_released : Ledger → Ledger
all_released l = record l { live = replicate (length l.live) 0 }

-- the numbers say why there is no room; no more than 256 cells are wanted at once
abbrev pub Lacks : Ledger → Shortage → Type 0
Lacks l f = IsShort (reserve_of l) l f.needed × (f ≡ shortage l f.needed) × (f.needed ≤ 256)

-- `filled_cells` for each given chunk, less what the bump chunk lacks of so many that are handed out
abbrev pub unconsumed : Option Bump → ℕ
unconsumed None = 0
unconsumed (Some o) = filled_cells - o.filled

abbrev pub consumed : Ledger → ℕ
consumed l = filled_cells * (length l.given - free_count l) - unconsumed l.bump
