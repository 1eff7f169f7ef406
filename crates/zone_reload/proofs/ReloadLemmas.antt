-- What a transaction of a difference makes of a working set.
use Rattle.std.proofs.Common.{◌≡◌, ◌∙◌, List, ap, subst, Option, Some, None, Result, Ok, Err, OnOk, IsSomeAnd, inr}
use Rattle.zone_model.specs.Names.{Name}
use Rattle.zone_model.specs.Versions.{Version, Operation, all_applied}
use Rattle.master_file.specs.Rows.{CanBeDumped}
use Rattle.trie_model.specs.Keys.{Entry}
use Rattle.qp_multi.specs.declared.writer.WorkingVersion.{WorkingVersion}
use Rattle.qp_multi.specs.WorkingVersions.{Between}
use Rattle.zone_answer.specs.Standing.{Shows}
use Rattle.zone_diff.specs.Blocks.{changes}
use Rattle.zone_diff.specs.Differences.{difference}
use Rattle.zone_diff.specs.declared.Serial.TheVariants.{Keep}
use Rattle.zone_diff.proofs.DifferenceLaws.{difference_makes, made_keep}
use Rattle.zone_edit.specs.Blocks.{Edited}
use Rattle.zone_edit.specs.Stores.{WorksOn, WorksOnSome}
use Rattle.zone_edit.specs.declared.refusal.EditRefusal.{EditRefusal}
use Rattle.zone_edit.specs.declared.refusal.EditRefusal.TheVariants as refusals
use Rattle.zone_reload.specs.Reloads.{Becomes, IsAccepted, ReplacesAll}

-- the operations make the version after
makes : (origin : Name) (before after : Version) → CanBeDumped origin before → CanBeDumped origin after → all_applied origin (difference Keep before after) before ≡ Ok after
makes origin before after h k = difference_makes Keep origin before after h k ∙ ap (λ (v : Version). Ok v) (made_keep origin before after h k)

executed : (origin : Name) (before after next : Version) (new : WorkingVersion) → CanBeDumped origin before → CanBeDumped origin after → all_applied origin (difference Keep before after) before ≡ Ok next → WorksOn new next → WorksOn new after
executed origin before after next new h k e on = let same : next ≡ after = (let m = makes origin before after h k in cc) in subst (WorksOn new) same on

became : (origin : Name) (before after : Version) (result : Result (Unit {0}) EditRefusal) (old new : Option WorkingVersion) → CanBeDumped origin before → CanBeDumped origin after → Edited origin (changes (difference Keep before after)) result old new → OnOk result (Between (Becomes before after) old new)
became origin before after (Err e) old new h k edited = tt
became origin before after (Ok u) None new h k edited = absurd edited
became origin before after (Ok u) (Some old) None h k edited = absurd edited
became origin before after (Ok u) (Some old) (Some new) h k edited = λ on. let x = edited.edits.becomes before on in executed origin before after x.0 new h k x.1 x.2

accepted : (origin : Name) (before after : Version) (result : Result (Unit {0}) EditRefusal) (old new : Option WorkingVersion) → CanBeDumped origin before → CanBeDumped origin after → Edited origin (changes (difference Keep before after)) result old new → Between (IsAccepted before result) old new
accepted origin before after result None new h k edited = absurd edited
accepted origin before after result (Some old) None h k edited = absurd edited
accepted origin before after (Ok u) (Some old) (Some new) h k edited = λ on refusal e. cc
accepted origin before after (Err refusals.Memory) (Some old) (Some new) h k edited = λ on refusal e. cc
accepted origin before after (Err (refusals.Full number request)) (Some old) (Some new) h k edited = λ on refusal e. cc
accepted origin before after (Err (refusals.Refused r)) (Some old) (Some new) h k edited = λ on refusal e. let x = edited.edits.becomes before on in let m = makes origin before after h k in cc

-- whichever operations they are that are those of the difference
pub replaces_all : (origin : Name) (holds : List Entry → Type 0) (after : Version) (operations : List Operation) (result : Result (Unit {0}) EditRefusal) (old new : Option WorkingVersion) → ((before : Version) → Shows holds before → operations ≡ difference Keep before after) → Edited origin (changes operations) result old new
    → ReplacesAll origin holds after result old new
replaces_all origin holds after operations result old new is edited = record {
  differs = λ before shown. inr (executes before shown);
  accepted = λ before shown h k. accepted origin before after result old new h k (executes before shown);
  made = λ before shown h k. became origin before after result old new h k (executes before shown);
}
  where
    executes : (before : Version) → Shows holds before → Edited origin (changes (difference Keep before after)) result old new
    executes before shown = subst (λ (l : List Operation). Edited origin (changes l) result old new) (is before shown) edited

-- nothing was done for want of memory
pub accepted_none : (before : Version) (old : Option WorkingVersion) → IsSomeAnd old WorksOnSome → Between (IsAccepted before (Err refusals.Memory)) old old
accepted_none before None h = absurd h
accepted_none before (Some d) h = λ on refusal e. cc
