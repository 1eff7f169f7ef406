-- What a pass knows of the table of zones.
use Rattle.std.proofs.Common.{◌≡◌, ◌∙◌, ℕ, true, List, [], ◌++◌, Option, Some, None, length, arith, refl, sym, ap, subst, append-nil, append_assoc, length-append}
use Rattle.std.specs.Prelude.{IsSome, unwrap_or}
use Rattle.zone_model.specs.Names.{Name}
use Rattle.trie_model.specs.Keys.{Entry}
use Rattle.shared_cells.specs.declared.pass.PassSeat.{PassSeat}
use Rattle.shared_cells.specs.declared.view.Progress.{Progress}
use Rattle.shared_cells.specs.History.{IsPartOf, OpeningFits, StartsWith, version_after}
use Rattle.shared_cells.specs.Views.{is_told, with_progress}
use Rattle.qp_multi.specs.declared.meaning.Operation.{Operation}
use Rattle.qp_multi.specs.Operations.{applied}
use Rattle.qp_multi.specs.Passes.{Known, known_at, first_version, version_seen, Pinned}
use Rattle.zone_table.specs.Tables.{IsTable, IsPart, IsAmong}
use Rattle.zone_table.proofs.Lists.{none_left}
use Rattle.zone_table.specs.Notes.{SeenHistory}

abbrev pub Seat : Type 0
Seat = PassSeat (List Entry) (List Operation)

-- a pass's seat knows of the opening
pub seat_told : (seat : Option Seat) → IsSome seat → is_told (known_at seat).seen.opening ≡ true
seat_told (Some s) h = s.told
seat_told None h = absurd cc

-- whoever has seen no less knows of the same
pub opened_same : (all part : SeenHistory) → is_told part.opening ≡ true → IsPartOf all part → first_version all ≡ first_version part
opened_same all part told p = by_opening part.opening refl told
  where
    by_opening : (o : Option (List Entry)) → part.opening ≡ o → is_told o ≡ true → first_version all ≡ first_version part
    by_opening None e t = absurd cc
    by_opening (Some es) e t =
        let here : all.opening ≡ Some es = subst (λ (x : Option (List Entry)). OpeningFits all.opening x part) e p.opening in
        ap (λ (x : Option (List Entry)). unwrap_or x []) here ∙ sym (ap (λ (x : Option (List Entry)). unwrap_or x []) e)

pub told_later : (all part : SeenHistory) → is_told part.opening ≡ true → IsPartOf all part → is_told all.opening ≡ true
told_later all part told p = by_opening part.opening refl told
  where
    by_opening : (o : Option (List Entry)) → part.opening ≡ o → is_told o ≡ true → is_told all.opening ≡ true
    by_opening None e t = absurd cc
    by_opening (Some es) e t = ap is_told (subst (λ (x : Option (List Entry)). OpeningFits all.opening x part) e p.opening)

-- who has the same opening knows of the same
pub opening_fits : (all part : SeenHistory) → is_told part.opening ≡ true → all.opening ≡ part.opening → OpeningFits all.opening part.opening part
opening_fits all part told same = by_opening part.opening refl told
  where
    by_opening : (o : Option (List Entry)) → part.opening ≡ o → is_told o ≡ true → OpeningFits all.opening part.opening part
    by_opening None e t = absurd cc
    by_opening (Some es) e t = subst (λ (o : Option (List Entry)). OpeningFits all.opening o part) (sym e) (same ∙ e)

pub part_itself : (all : SeenHistory) → is_told all.opening ≡ true → IsPartOf all all
part_itself all told = record { opening = opening_fits all all told refl; history = ([], sym (append-nil all.history)); namings = ([], sym (append-nil all.namings)) }

begins_more : {A : Type 0} (all more part : List A) → StartsWith all more → StartsWith more part → StartsWith all part
begins_more all more part a b = (b.0 ++ a.0, a.1 ∙ ap (λ l. l ++ a.0) b.1 ∙ append_assoc part b.0 a.0)

pub part_more : (all more part : SeenHistory) → is_told part.opening ≡ true → IsPartOf all more → IsPartOf more part → IsPartOf all part
part_more all more part told a b = record {
  opening = fits part.opening refl told;
  history = begins_more all.history more.history part.history a.history b.history;
  namings = begins_more all.namings more.namings part.namings a.namings b.namings;
}
  where
    fits : (o : Option (List Entry)) → part.opening ≡ o → is_told o ≡ true → OpeningFits all.opening part.opening part
    fits None e t = absurd cc
    fits (Some es) e t =
        let here : more.opening ≡ Some es = subst (λ (x : Option (List Entry)). OpeningFits more.opening x part) e b.opening in
        let there : all.opening ≡ Some es = subst (λ (x : Option (List Entry)). OpeningFits all.opening x more) here a.opening in
        subst (λ (x : Option (List Entry)). OpeningFits all.opening x part) (sym e) there

-- whoever has seen no more knows of the same version
pub version_same : (all part : SeenHistory) → is_told part.opening ≡ true → IsPartOf all part → length all.history ≡ length part.history → version_seen all ≡ version_seen part
version_same all part told p size =
    let longer = ap length p.history.1 ∙ length-append part.history p.history.0 in
    let none = none_left p.history.0 (omega arith) in
    ap (λ (es : List Entry). version_after applied es all.history) (opened_same all part told p)
    ∙ ap (version_after applied (first_version part)) (p.history.1 ∙ ap (λ (l : _). part.history ++ l) none ∙ append-nil part.history)

-- what a pass pinned, it has pinned when it is idle again
pub pinned_left : (lawful : List Entry → List Entry → Type 0) (old pinned new : Known) (p : Progress) (number : ℕ) → Pinned lawful old pinned number → new ≡ with_progress pinned p → Pinned lawful old new number
pinned_left lawful old pinned new p number r left =
    let seen : new.seen ≡ pinned.seen = ap (λ (v : Known). v.seen) left in
    record {
      version = r.version ∙ sym (ap (λ (s : SeenHistory). length s.history) seen);
      grows = subst (λ (s : SeenHistory). IsPartOf s old.seen) (sym seen) r.grows;
      good = subst (λ (s : SeenHistory). lawful (first_version s) (version_seen s)) (sym seen) r.good;
      pass = ap (λ (v : Known). v.pass) left ∙ r.pass;
    }

-- a version of a table has some of its origins
pub part_of : (origins : List Name) (first later : List Entry) → IsTable origins first → IsAmong first later → IsPart origins later
part_of origins first later table among = record { rising = among.rising; only = λ e i. table.only e (among.each e i) }
