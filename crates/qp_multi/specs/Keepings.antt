-- Which versions are kept, as a list of their numbers; and rounds, which say so.
use Rattle.std.specs.Prelude.{◌≡◌, ◌↔◌, ℕ, ◌+◌, ◌<◌, ◌≤◌, true, List, [], ◌∷◌, ◌++◌, map, take, length, Contains}
use Rattle.std.specs.List.{AllPairs, list_all}
use Rattle.pin_core.specs.declared.kept.Kept.{Kept}
use Rattle.pin_core.specs.declared.kept.Mark.{Mark}
use Rattle.pin_core.specs.Machine.{is_settled}
use Rattle.chunk_usage.specs.Ledger.{Ledger}
use Rattle.chunk_usage.specs.Keeping.{freed, kept_versions, narrowed}
use Rattle.shared_cells.specs.declared.view.Naming.{Naming}
use Rattle.shared_cells.specs.History.{StartsWith}
use Rattle.shared_cells.specs.Views.{namings_by}
use Rattle.shared_cells.specs.Steps.{IsDue}
use Rattle.qp_multi.specs.declared.kept.Versions.{Versions}
use Rattle.qp_multi.specs.Passes.{Known}

-- the versions, rising
abbrev pub versions_in : Versions → List ℕ
versions_in v = take v.len v.numbers

-- of kept versions
abbrev pub numbers_of : List Kept → List ℕ
numbers_of kept = map (λ (k : Kept). k.version) kept

-- While a transaction goes on rounds list namings, and nothing else becomes known.
pub record GoesOn (v w : Known) : Type 0 where
  pub pass : w.pass ≡ v.pass
  pub opening : w.seen.opening ≡ v.seen.opening
  pub history : w.seen.history ≡ v.seen.history
  pub namings : StartsWith w.seen.namings v.seen.namings

-- A round was made while this version was the current one, of an index of so many passes: so these are kept.
pub record KeptBy (current passes : ℕ) (before after : List Naming) (versions : List ℕ) : Type 0 where
  -- how each pass was found, idle or pinned, which is all that was listed since
  pub marks : List Mark
  pub each : length marks ≡ passes
  pub settled : list_all is_settled marks ≡ true
  pub listed : after ≡ before ++ namings_by 0 marks
  -- exactly the current version, which is the last, and those that some pass was found reading
  pub rising : AllPairs (λ v w. v < w) versions
  pub exact : (v : ℕ) → Contains versions v ↔ IsDue current marks v
  pub ends : (older : List ℕ) × (versions ≡ older ++ current ∷ [])
  pub few : length versions ≤ passes + 1

-- and the chunks that none of them needs, nor what counts, were freed behind it
pub record Rounds (current passes : ℕ) (before after : List Naming) (u n : Ledger) : Type 0 where
  pub kept : KeptBy current passes before after (kept_versions n)
  pub frees : n ≡ freed (narrowed u (kept_versions n))
