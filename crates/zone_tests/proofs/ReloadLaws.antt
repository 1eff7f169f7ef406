-- What a version that names own is read and changed by.
use Rattle.std.proofs.Common.{◌≡◌, ◌∙◌, ℕ, inl, inr, List, Option, Some, None, Result, Ok, Err, refl, sym, ap, subst}
use Rattle.std.specs.Prelude.{IfSome, IsSome, IsSomeAnd}
use Rattle.trie_model.specs.Keys.{Entry, Rises}
use Rattle.zone_model.specs.Names.{Name}
use Rattle.zone_model.specs.Versions.{Version, Operation}
use Rattle.zone_model.specs.Transactions.{Transaction}
use Rattle.zone_answer.specs.Standing.{IsVersion, Shows, ShowsSome}
use Rattle.job_model.specs.Sizes.{trie_entries}
use Rattle.qp_multi.specs.declared.writer.WorkingVersion.{WorkingVersion}
use Rattle.qp_multi.specs.Operations.{applied}
use Rattle.qp_multi.specs.Passes.{Known}
use Rattle.shared_cells.specs.declared.pass.PassSeat.{PassSeat}
use Rattle.qp_multi.specs.declared.meaning.Operation as meaning
use Rattle.qp_multi.specs.WorkingVersions.{Begins, Between, IsBack, Works, base_of, working_set}
use Rattle.zone_diff.specs.Blocks.{changes}
use Rattle.zone_diff.specs.Differences.{difference}
use Rattle.zone_diff.specs.declared.Serial.TheVariants.{Keep}
use Rattle.zone_edit.specs.Stores.{WorksOnSome}
use Rattle.zone_edit.specs.Blocks.{Edited, EditsInOrder, Executes, done_of}
use Rattle.zone_edit.specs.declared.refusal.EditRefusal.{EditRefusal}
use Rattle.zone_edit.proofs.EditLaws.{some_weaker}
use Rattle.zone_edit.proofs.SetLaws.{entries_rise}
use Rattle.zone_edit.proofs.WayLaws.{some_in_order}
use Rattle.zone_reload.specs.Reloads.{Replaces}

-- the law: a version is what names own
abbrev pub IsStored : List Entry → List Entry → Type 0
IsStored first es = ShowsSome (λ held. held ≡ es)

pub shows_held : (holds : List Entry → Type 0) (es : List Entry) → holds es → ShowsSome (λ held. held ≡ es) → ShowsSome holds
shows_held holds es h s = (s.0, record { version_is = s.1.version_is; held = subst holds (sym s.1.held) h })

pub stored_rises : (es : List Entry) → ShowsSome (λ held. held ≡ es) → Rises es
stored_rises es s = subst Rises s.1.held (entries_rise s.0 s.1.version_is.rising s.1.version_is.items)

pub zone_stored : (version : Version) (es : List Entry) → IsVersion version → trie_entries version ≡ es → ShowsSome (λ held. held ≡ es)
zone_stored version es valid e = (version, record { version_is = valid; held = e })

-- ---- a working version that is there is there still, and its pass gets back its seat

old_some : (P : WorkingVersion → Type 0) (old : Option WorkingVersion) → IsSomeAnd old P → IsSome old
old_some P None h = absurd h
old_some P (Some d) h = refl

between_some : (R : WorkingVersion → WorkingVersion → Type 0) (old new : Option WorkingVersion) → Between R old new → IsSome new
between_some R None new h = absurd h
between_some R (Some old) None h = absurd h
between_some R (Some old) (Some new) h = refl

pub replaced_some : (P : WorkingVersion → Type 0) (origin : Name) (operations : List Operation) (result : Result (Unit {0}) EditRefusal) (old new : Option WorkingVersion) → IsSomeAnd old P → Replaces origin operations result old new → IsSome new
replaced_some P origin operations result old new s (inl h) = subst IsSome (sym h.1) (old_some P old s)
replaced_some P origin operations result old new s (inr h) = between_some (EditsInOrder origin (done_of operations result) (Executes origin (changes operations) result)) old new h

pub back_ready : (o : Option WorkingVersion) (seat : Option (PassSeat (List Entry) (List meaning.Operation))) → IsSome o → IfSome o (λ d. IsBack d.seat.place.me.0 seat) → IsSome seat
back_ready None seat s h = absurd cc
back_ready (Some d) seat s h = h.0

pub same_place : (o : Option WorkingVersion) (a b : ℕ) → IsSome o → IfSome o (λ _. a ≡ b) → a ≡ b
same_place None a b s h = absurd cc
same_place (Some d) a b s h = h

module _ (old : Known) (first : Option WorkingVersion) (begins : IsSomeAnd first (Begins IsStored old)) where
  -- it begins on a version
  pub begun : IsSomeAnd first WorksOnSome
  begun = some_weaker (Begins IsStored old) WorksOnSome first
      (λ d b. let s = b.joined.good in record {
        version = s.0;
        on = record { works = b.works; set = ap (applied (base_of d)) b.none_done ∙ sym s.1.held; valid = s.1.version_is };
      })
      begins

  module _ (origin : Name) (operations : List Operation) (second : Option WorkingVersion) (replaced : Replaces origin operations (Ok tt) first second) where
    edited : Edited origin (changes operations) (Ok tt) first second
    edited = by_case replaced
      where
        by_case : Replaces origin operations (Ok tt) first second → Edited origin (changes operations) (Ok tt) first second
        by_case (inl h) = let bad = h.0 in absurd cc
        by_case (inr h) = h

    -- and works on one when it is done
    done : IsSomeAnd second WorksOnSome
    done = some_in_order origin operations (Executes origin (changes operations) (Ok tt)) first second begun (λ version e a. record { version = a.0; on = a.2 }) edited

    pub done_works : IsSomeAnd second Works
    done_works = some_weaker WorksOnSome Works second (λ d w. w.on.works) done

    pub done_stored : IsSomeAnd second (λ d. ShowsSome (λ held. held ≡ working_set d))
    done_stored = some_weaker WorksOnSome (λ d. ShowsSome (λ held. held ≡ working_set d)) second (λ d w. (w.version, record { version_is = w.on.valid; held = sym w.on.set })) done
