-- What becomes of an update.
use Rattle.std.proofs.Common.{◌≡◌, ◌≢◌, ℕ, List, Option, Some, Result, Ok, Err, IfOk, sym, subst}
use Rattle.std.specs.Prelude.{OnErr}
use Rattle.std.specs.declared.alloc.AllocError.{AllocError}
use Rattle.zone_model.specs.Names.{Name}
use Rattle.zone_model.specs.Transactions.{Transaction}
use Rattle.job_model.specs.declared.Ending.{Ending}
use Rattle.job_model.specs.declared.Ending.TheVariants as ending
use Rattle.job_model.specs.Outcomes.{Ended, Committed, RolledBack, Refused, Rule, Full, Spent}
use Rattle.job_report.specs.Outcomes.{ended_view}
use Rattle.job_report.specs.declared.outcomes.Outcome.{Outcome}
use Rattle.qp_multi.specs.Passes.{Known}
use Rattle.job_commands.specs.Histories.{OpenedWith}
use Rattle.job_commands.specs.Commands.{BlockRan, BlockWants, Transacts}
use Rattle.zone_table.proofs.Lists.{some_is}
use Rattle.zone_server.specs.Changes.{Changes, HappensIn, Ran, ended_of}
use Rattle.zone_server.specs.Homes.{Served, opened_as}
use Rattle.zone_server.specs.Replies.{HasGrown}
use Rattle.zone_server.specs.Servings.{ServerKnown}
use Rattle.zone_server.specs.Updates.{UpdateView}
use Rattle.zone_server.specs.declared.changing.ChangeRefusal.{ChangeRefusal}
use Rattle.zone_server.specs.declared.changing.ChangeRefusal.TheVariants as refusal

pub on_err : {T E : Type 0} (P Q : Type 0) (r : Result T E) → (P → Q) → OnErr r P → OnErr r Q
on_err P Q (Ok x) f h = tt
on_err P Q (Err e) f h = f h

-- the pass has seen no less, however it ended
pub ran_grows : (s : OpenedWith) (asked : Transaction) (ends : Ending) (old new : Known) (r : Result Outcome AllocError) → IfOk r (BlockRan s asked ends old new) → OnErr r (BlockWants s asked old new) → HasGrown old new
ran_grows s asked ends old new (Ok o) ran wants = record { grows = ran.grows }
ran_grows s asked ends old new (Err e) ran wants = record { grows = wants.grows }

pub happens_as : (served : List Served) (origin : Name) (P Q : Served → Known → Known → Type 0) (old new : ServerKnown) → ((s : Served) (v w : Known) → P s v w → Q s v w) → HappensIn served origin P old new → HappensIn served origin Q old new
happens_as served origin P Q old new means h = record {
  zone = h.zone;
  zone_is = h.zone_is;
  there = h.there;
  origin_is = h.origin_is;
  happened = means h.zone_is _ _ h.happened;
  others = h.others;
  table = h.table;
}

-- a block that was to be committed isn't rolled back
never_rolled : (s : OpenedWith) (asked : Transaction) (ends : Ending) (old new : Known) (e : Ended) → ends ≡ ending.Commit → Transacts s asked ends old new e → e ≡ RolledBack → ⊥
never_rolled s asked ends old new e commits t is = let rolls = (subst (Transacts s asked ends old new) is t).0 in cc

pub not_rolled : (served : List Served) (origin : Name) (asked : Transaction) (ends : Ending) (old new : ServerKnown) (o : Outcome) → ends ≡ ending.Commit → HappensIn served origin (λ s v w. BlockRan (opened_as s) asked ends v w o) old new → ended_view o.told ≢ RolledBack
not_rolled served origin asked ends old new o commits h = never_rolled (opened_as h.zone_is) asked ends _ _ (ended_view o.told) commits h.happened.transacts

pub ran_of : (served : List Served) (origin : Name) (asked : Transaction) (ends : Ending) (old new : ServerKnown) (o : Outcome) → ends ≡ ending.Commit → HappensIn served origin (λ s v w. BlockRan (opened_as s) asked ends v w o) old new
    → HappensIn served origin (λ s v w. Ran (opened_as s) asked v w o.version (ended_view o.told)) old new
ran_of served origin asked ends old new o commits h =
    happens_as served origin (λ s v w. BlockRan (opened_as s) asked ends v w o) (λ s v w. Ran (opened_as s) asked v w o.version (ended_view o.told)) old new
    (λ s v w b. record { grows = b.grows; version_is = b.version; transacts = subst (λ (x : Ending). Transacts (opened_as s) asked x v w (ended_view o.told)) commits b.transacts }) h

pair_is : (version : ℕ) (e : Ended) (n : ℕ) (f : Ended) → ◌≡◌ {A = Option (ℕ × Ended)} (Some (n, f)) (Some (version, e)) → ◌≡◌ {A = ℕ × Ended} (version, e) (n, f)
pair_is version e n f is = some_is (version, e) (n, f) (sym is)

-- what is told of it is how it ended
pub changes_as : (served : List Served) (u : UpdateView) (old new : ServerKnown) (r : Result ℕ ChangeRefusal) (version : ℕ) (e : Ended) → ended_of r ≡ Some (version, e) → HappensIn served u.origin (λ s v w. Ran (opened_as s) u.asked v w version e) old new → Changes served u old new r
changes_as served u old new (Ok n) version e is h = subst (λ (x : ℕ × Ended). HappensIn served u.origin (λ s v w. Ran (opened_as s) u.asked v w x.0 x.1) old new) (pair_is version e n Committed is) h
changes_as served u old new (Err refusal.NoZone) version e is h = absurd cc
changes_as served u old new (Err (refusal.Refused n rule)) version e is h = subst (λ (x : ℕ × Ended). HappensIn served u.origin (λ s v w. Ran (opened_as s) u.asked v w x.0 x.1) old new) (pair_is version e n (Refused (Rule rule)) is) h
changes_as served u old new (Err (refusal.Full n operation kept)) version e is h = subst (λ (x : ℕ × Ended). HappensIn served u.origin (λ s v w. Ran (opened_as s) u.asked v w x.0 x.1) old new) (pair_is version e n (Refused (Full operation kept.items)) is) h
changes_as served u old new (Err (refusal.Spent n)) version e is h = subst (λ (x : ℕ × Ended). HappensIn served u.origin (λ s v w. Ran (opened_as s) u.asked v w x.0 x.1) old new) (pair_is version e n (Refused Spent) is) h
changes_as served u old new (Err refusal.Memory) version e is h = absurd cc
