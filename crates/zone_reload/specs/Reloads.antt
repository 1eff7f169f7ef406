-- A version's zone exchanged for another one.
use Rattle.std.specs.Prelude.{◌≡◌, ◌⊎◌, List, Option, Result, Err, OnOk}
use Rattle.zone_model.specs.Names.{Name}
use Rattle.zone_model.specs.Versions.{Version, Operation}
use Rattle.zone_model.specs.declared.Refusal.{Refusal}
use Rattle.master_file.specs.Rows.{CanBeDumped}
use Rattle.trie_model.specs.Keys as trie
use Rattle.qp_multi.specs.declared.writer.WorkingVersion.{WorkingVersion}
use Rattle.qp_multi.specs.WorkingVersions.{Between}
use Rattle.zone_answer.specs.Standing.{Shows}
use Rattle.zone_diff.specs.Blocks.{changes}
use Rattle.zone_diff.specs.Differences.{difference}
use Rattle.zone_diff.specs.declared.Serial.TheVariants.{Keep}
use Rattle.zone_edit.specs.Blocks.{Edited}
use Rattle.zone_edit.specs.Stores.{WorksOn}
use Rattle.zone_edit.specs.declared.refusal.EditRefusal.{EditRefusal}
use Rattle.zone_edit.specs.declared.refusal.EditRefusal.TheVariants as refusals

-- the operations were done as one transaction's, or nothing was for want of memory
abbrev pub Replaces : Name → List Operation → Result (Unit {0}) EditRefusal → Option WorkingVersion → Option WorkingVersion → Type 0
Replaces origin operations result old new = ((result ≡ Err refusals.Memory) × (new ≡ old)) ⊎ Edited origin (changes operations) result old new

-- a working set that was the version before is the version after
abbrev pub Becomes : Version → Version → WorkingVersion → WorkingVersion → Type 0
Becomes before after old new = WorksOn old before → WorksOn new after

-- no rule of zones refuses what is done to it
abbrev pub IsAccepted : Version → Result (Unit {0}) EditRefusal → WorkingVersion → WorkingVersion → Type 0
IsAccepted before result old new = WorksOn old before → (refusal : Refusal) → result ≡ Err (refusals.Refused refusal) → ⊥

-- The zone of whichever version is shown is exchanged for another one.
pub record ReplacesAll (origin : Name) (holds : List trie.Entry → Type 0) (after : Version) (result : Result (Unit {0}) EditRefusal) (old new : Option WorkingVersion) : Type 0 where
  -- by the operations in which they differ
  pub differs : (before : Version) → Shows holds before → Replaces origin (difference Keep before after) result old new
  -- no rule of zones refuses any of them, where both can be dumped
  pub accepted : (before : Version) → Shows holds before → CanBeDumped origin before → CanBeDumped origin after → Between (IsAccepted before result) old new
  -- and when they are done the other zone is there
  pub made : (before : Version) → Shows holds before → CanBeDumped origin before → CanBeDumped origin after → OnOk result (Between (Becomes before after) old new)
