-- What is asked for while a zone is taken, what that leaves, and what stops it.
use Rattle.std.specs.Prelude.{◌≡◌, ◌<◌, ◌≤◌, ◌+◌, ◌^◌, ℕ, false, List, [], ◌∷◌, ◌++◌, Result, IsErrOf, OnErr, OnOk, length, take, drop}
use Rattle.zone_model.specs.Lines.{lines_of}
use Rattle.session_lines.specs.Taking.{IsUnbroken, Pending}
use Rattle.session_lines.specs.declared.intake.NoMore.{NoMore}
use Rattle.session_lines.specs.declared.intake.NoMore.TheVariants as no_more
use Rattle.live_session.specs.declared.zone.ZoneBytes.{ZoneBytes}
use Rattle.live_session.specs.Zones.{IsLongZone, IsWithinZone, IsZoneSoFar, WantsLine, WantsMemory, has_cut}

-- ---- a line

-- The next line can be taken, which has so many bytes.
pub record CanTakeLine (z : ZoneBytes) (intake : Pending) (count : ℕ) : Type 0 where
  pub some : 0 < count
  -- they are there
  pub inside : count ≤ length intake.bytes
  -- they are one line
  pub one : (text : List ℕ) × (lines_of (take count intake.bytes) ≡ text ∷ [])
  pub zone : IsZoneSoFar z

-- What is left can be taken, as no more comes.
pub record CanTakeRest (z : ZoneBytes) (intake : Pending) : Type 0 where
  pub zone : IsZoneSoFar z
  -- it is one line, or nothing
  pub rest : IsUnbroken intake.bytes

-- The first bytes were let go of.
pub record LetsGo {A : Type 0} (result : Result A NoMore) (old new : Pending) (count : ℕ) : Type 0 where
  pub rest : OnOk result (new.bytes ≡ drop count old.bytes)
  -- none is asked for
  pub ended : new.ended ≡ old.ended

-- Why a line wasn't taken.
pub record StopsLine {A : Type 0} (result : Result A NoMore) (z z_now : ZoneBytes) (old new : Pending) (count : ℕ) : Type 0 where
  -- the zone would have too many bytes with it
  pub too_long : IsErrOf result no_more.TooLong → (2 ^ 24 < length (z.bytes.items ++ take count old.bytes)) × (has_cut (take count old.bytes) ≡ false)
  -- the zone wouldn't, and wants memory for it
  pub memory : IsErrOf result no_more.Memory → (length z.bytes.items + count ≤ 2 ^ 24) × (has_cut (take count old.bytes) ≡ false)
  -- it is still there
  pub kept : OnErr result ((z_now.bytes.items ≡ z.bytes.items) × (new ≡ old))
  -- no byte is asked for
  pub others : IsErrOf result no_more.Fault → ⊥

-- ---- lines

-- all of these bytes came so far, and the line behind the zone isn't among them
abbrev pub IsUncut : ZoneBytes → List ℕ → List ℕ → Type 0
IsUncut z pending all = IsZoneSoFar z × IsUnbroken pending × (z.bytes.items ++ pending ≡ all)

-- Why the lines among these bytes weren't taken.
pub record StopsLines {A : Type 0} (result : Result A NoMore) (z_now : ZoneBytes) (pending all : List ℕ) : Type 0 where
  pub too_long : IsErrOf result no_more.TooLong → IsLongZone all
  -- memory was wanted for the next one
  pub memory : IsErrOf result no_more.Memory → WantsLine z_now.bytes.items pending all
  -- no byte is asked for
  pub others : IsErrOf result no_more.Fault → ⊥

-- ---- the whole zone

-- A zone can be taken of a talk of such a rule.
pub record CanTakeZone (is_settled : List ℕ → List ℕ → Type 0) (intake : Pending) (given taken : List ℕ) : Type 0 where
  -- nothing was read before
  pub empty : intake.bytes ≡ []
  pub begun : intake.ended ≡ false
  -- nothing is due within the zone
  pub may : (bytes : List ℕ) → IsWithinZone bytes → is_settled (given ++ bytes) taken

-- Why a zone wasn't taken, by the bytes that came.
pub record StopsZone {A : Type 0} (result : Result A NoMore) (given given_now pending : List ℕ) : Type 0 where
  -- the talk failed within the zone
  pub within : IsErrOf result no_more.Fault → (bytes : List ℕ) × (given_now ≡ given ++ bytes) × IsWithinZone bytes
  pub too_long : IsErrOf result no_more.TooLong → (bytes : List ℕ) × (given_now ≡ given ++ bytes) × IsLongZone bytes
  -- memory was wanted for a line of it, or for what a read gave
  pub memory : IsErrOf result no_more.Memory → WantsMemory given given_now pending
