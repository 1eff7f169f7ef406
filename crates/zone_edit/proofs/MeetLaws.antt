-- Prerequisites, and what a transaction makes of a version by them.
use Rattle.std.proofs.Common.{◌≡◌, ◌∙◌, Bool, true, false, cond, Result, Ok, Err, ap}
use Rattle.zone_model.specs.Names.{Name}
use Rattle.zone_model.specs.Versions.{Version, all_applied}
use Rattle.zone_model.specs.Transactions.{Transaction, all_met, whole}
use Rattle.zone_model.specs.declared.Refusal.TheVariants.{Prereq}
use Rattle.qp_multi.specs.declared.writer.WorkingVersion.{WorkingVersion}
use Rattle.zone_edit.specs.Blocks.{AppliesAll, Executes}
use Rattle.zone_edit.specs.declared.refusal.EditRefusal.{EditRefusal}
use Rattle.zone_edit.specs.declared.refusal.EditRefusal.TheVariants as refusals

-- by whether its prerequisites are met
pub whole_met : (origin : Name) (asked : Transaction) (version : Version) → all_met version asked.needs ≡ true → whole origin asked version ≡ all_applied origin asked.operations version
whole_met origin asked version met = ap (λ (b : Bool). cond b (all_applied origin asked.operations version) (Err Prereq)) met

pub whole_unmet : (origin : Name) (asked : Transaction) (version : Version) → all_met version asked.needs ≡ false → whole origin asked version ≡ Err Prereq
whole_unmet origin asked version unmet = ap (λ (b : Bool). cond b (all_applied origin asked.operations version) (Err Prereq)) unmet

pub executed : (origin : Name) (asked : Transaction) (result : Result (Unit {0}) EditRefusal) (version : Version) (new : WorkingVersion) → all_met version asked.needs ≡ true
    → AppliesAll origin asked.operations result version new → Executes origin asked result version new
executed origin asked (Ok u) version new met a = (a.0, whole_met origin asked version met ∙ a.1, a.2)
executed origin asked (Err refusals.Memory) version new met a = (met, a)
executed origin asked (Err (refusals.Refused refusal)) version new met a = whole_met origin asked version met ∙ a
executed origin asked (Err (refusals.Full operation shortage)) version new met a = (met, a)
