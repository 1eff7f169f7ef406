-- What a change of the table is to its pass.
use Rattle.std.proofs.Common.{◌≡◌, ◌∙◌, ℕ, ◌<◌, Bool, true, false, List, [], ◌∷◌, length, Option, Some, None, Result, Ok, Err, refl, sym, ap, subst, length-append}
use Rattle.std.specs.Prelude.{unwrap_or, IfSome}
use Rattle.std.specs.List.{slice_get}
use Rattle.zone_model.specs.Names.{Name}
use Rattle.trie_model.specs.Keys.{Entry}
use Rattle.shared_cells.specs.History.{IsPartOf, entry_of, version_after}
use Rattle.shared_cells.specs.Views.{is_told}
use Rattle.qp_multi.specs.declared.commit.Receipt.{Receipt}
use Rattle.qp_multi.specs.declared.meaning.Operation.{Operation}
use Rattle.qp_multi.specs.Operations.{applied}
use Rattle.qp_multi.specs.Passes.{Known}
use Rattle.job_commands.proofs.HistoryLaws.{part_more}
use Rattle.job_commands.proofs.WorkLaws.{Own}
use Rattle.zone_table.specs.declared.change.TableRefusal.{TableRefusal}
use Rattle.zone_table.specs.declared.change.TableRefusal.TheVariants as refusal
use Rattle.zone_table.specs.Changes.{Attaches, Detaches, IsChanged, IsUnchanged}
use Rattle.zone_table.specs.Tables.{IsAttached}
use Rattle.zone_table.proofs.KnownLaws.{opening_fits, told_later}
use Rattle.zone_table.proofs.Lists.{get_in}
use Rattle.zones_model.specs.declared.TableCause.{TableCause}
use Rattle.zones_threads.specs.Changes.{cause_told, version_told}
use Rattle.zones_threads.specs.Steps.{Changes, ChangeRan, IsOrNot, Stays, operation_for, other}

stays : (meets : List Entry → Type 0) (old new : Known) (number : ℕ) → IsUnchanged meets old new number → Stays number old new
stays meets old new number u = record { version = u.number_is; pass = u.pass }

-- it has seen no less
changed_grows : (meets : List Entry → Type 0) (old new : Known) (o : Operation) (number : ℕ) → is_told old.seen.opening ≡ true → IsChanged meets old new o number → IsPartOf new.seen old.seen
changed_grows meets old new o number told c = part_more new.seen c.base old.seen told (record {
  opening = opening_fits new.seen c.base (told_later c.base old.seen told c.grows) c.opening;
  history = (entry_of c.own.number (o ∷ []) ∷ [], c.history);
  namings = c.namings;
}) c.grows

-- ---- attached or detached, or not

-- it was made
made : (attaches : Bool) (origins : List Name) (zone : ℕ) (origin : Name) (old new : Known) (number : ℕ) → slice_get origins zone ≡ Some origin → is_told old.seen.opening ≡ true → IsChanged (λ es. IsOrNot (other attaches) es origin) old new (operation_for attaches origin) number → ChangeRan origins attaches zone number None old new
made attaches origins zone origin old new number there told c = record {
  origin = origin;
  there = there;
  grows = changed_grows (λ es. IsOrNot (other attaches) es origin) old new (operation_for attaches origin) number told c;
  ends = λ own is.
      let same : c.own ≡ own = (let e : Some c.own ≡ Some own = sym c.by ∙ is in cc) in
      subst (λ (o : Own). Changes attaches origin number o old new) same (record {
        base = c.base.history;
        before = c.grows.history;
        mine = c.mine;
        history = c.history;
        pass = c.pass;
        numbered = c.number_is ∙ ap length c.history ∙ length-append c.base.history (entry_of c.own.number (operation_for attaches origin ∷ []) ∷ []);
        was = subst (λ es. IsOrNot (other attaches) es origin) (ap (λ (o : Option (List Entry)). version_after applied (unwrap_or o []) c.base.history) (sym c.opening)) c.met;
      });
}

pub attach_ran : (origins : List Name) (zone : ℕ) (origin : Name) (old new : Known) (r : Result Receipt TableRefusal) → slice_get origins zone ≡ Some origin → is_told old.seen.opening ≡ true → Attaches origin old new r → ChangeRan origins true zone (version_told r) (cause_told r) old new
attach_ran origins zone origin old new (Ok receipt) there told c = made true origins zone origin old new receipt.version there told c
attach_ran origins zone origin old new (Err (refusal.Exists number)) there told u =
    record { origin = origin; there = there; grows = u.grows; ends = (stays (λ es. IsAttached es origin) old new number u, refl, u.met) }
attach_ran origins zone origin old new (Err (refusal.Missing number)) there told u = absurd u
attach_ran origins zone origin old new (Err (refusal.Spent number)) there told u =
    record { origin = origin; there = there; grows = u.0.grows; ends = (stays (λ es. IsAttached es origin → ⊥) old new number u.0, u.1, u.0.met) }

pub detach_ran : (origins : List Name) (zone : ℕ) (origin : Name) (old new : Known) (r : Result Receipt TableRefusal) → slice_get origins zone ≡ Some origin → is_told old.seen.opening ≡ true → Detaches origin old new r → ChangeRan origins false zone (version_told r) (cause_told r) old new
detach_ran origins zone origin old new (Ok receipt) there told c = made false origins zone origin old new receipt.version there told c
detach_ran origins zone origin old new (Err (refusal.Exists number)) there told u = absurd u
detach_ran origins zone origin old new (Err (refusal.Missing number)) there told u =
    record { origin = origin; there = there; grows = u.grows; ends = (stays (λ es. IsAttached es origin → ⊥) old new number u, refl, u.met) }
detach_ran origins zone origin old new (Err (refusal.Spent number)) there told u =
    record { origin = origin; there = there; grows = u.0.grows; ends = (stays (λ es. IsAttached es origin) old new number u.0, u.1, u.0.met) }

-- by what is told of the change
pub change_told : (attaches : Bool) (origins : List Name) (zone : ℕ) (old new : Known) (r : Result Receipt TableRefusal) (number : ℕ) (cause : Option TableCause) (P : Name → Type 0)
    → ((origin : Name) → slice_get origins zone ≡ Some origin → P origin → ChangeRan origins attaches zone (version_told r) (cause_told r) old new)
    → zone < length origins → number ≡ version_told r → cause ≡ cause_told r → IfSome (slice_get origins zone) P → ChangeRan origins attaches zone number cause old new
change_told attaches origins zone old new r number cause P ran inside version why h =
    let origin = get_in origins zone inside in
    subst (λ (n : ℕ). ChangeRan origins attaches zone n cause old new) (sym version)
    (subst (λ (x : Option TableCause). ChangeRan origins attaches zone (version_told r) x old new) (sym why)
    (ran origin.0 origin.1 (subst (λ (o : Option Name). IfSome o P) origin.1 h)))
