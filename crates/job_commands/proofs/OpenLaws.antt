-- An index that was opened on the entries of a zone's version.
use Rattle.std.proofs.Common.{◌≡◌, ◌∙◌, ℕ, List, [], ◌∷◌, map, Option, Some, refl, sym, ap, subst}
use Rattle.std.specs.Prelude.{IsSome}
use Rattle.std.specs.List.{All, AllByRecursion}
use Rattle.zone_model.specs.Names.{Name}
use Rattle.qp_multi.specs.Passes.{Known, commits_in, first_version, pinned_in, known_at}
use Rattle.qp_multi.specs.Openings.{SeesFirst}
use Rattle.job_commands.specs.Histories.{BeginsAt, Entries, IsZone}
use Rattle.job_commands.specs.Commands.{OpensAt, Seat}
use Rattle.job_commands.specs.Works.{IsNew, AreNew}
use Rattle.job_commands.proofs.ShowLaws.{seat_pass}
use Rattle.job_commands.proofs.CloseLaws.{all_rec}
use Rattle.job_commands.proofs.WorkLaws.{Own}
use Rattle.job_commands.proofs.ZoneLaws.{zone_begins}

-- ---- its passes have asked and committed nothing

pub new_view : (opening : Entries) (v : Known) → (own : Own) × (v.pass ≡ Some own) → commits_in v.pass ≡ [] → pinned_in v.pass ≡ [] → first_version v.seen ≡ opening → v.seen.history ≡ [] → (number : ℕ) × IsNew number opening v
new_view opening v own none unpinned opened no_history = (
  own.0.number,
  record {
    own = own.0;
    is_own = own.1;
    numbered = refl;
    none = ap commits_in (sym own.1) ∙ none;
    unpinned = ap pinned_in (sym own.1) ∙ unpinned;
    opened = opened;
    no_history = no_history;
  },
)

module _ {A : Type 0} (ps : List A) (seat_of : A → Option Seat) (es : Entries) where
  abbrev pub IsFirst : A → Type 0
  IsFirst p = IsSome (seat_of p) × SeesFirst es (known_at (seat_of p))

  abbrev pub IsUnused : A → Type 0
  IsUnused p = (commits_in (known_at (seat_of p)).pass ≡ []) × (pinned_in (known_at (seat_of p)).pass ≡ [])

  new_pass : (p : A) → IsFirst p → IsUnused p → (number : ℕ) × IsNew number es (known_at (seat_of p))
  new_pass p first unused = new_view es (known_at (seat_of p)) (seat_pass (seat_of p) first.0) unused.0 unused.1 first.1.opening first.1.history

  new_each : (xs : List A) → AllByRecursion IsFirst xs → AllByRecursion IsUnused xs → AreNew es (map (λ p. known_at (seat_of p)) xs)
  new_each [] first unused = tt
  new_each (p ∷ xs) first unused = (new_pass p first.0 unused.0, new_each xs first.1 unused.1)

  -- at a place of their index
  pub new_passes : (at_place : A → Type 0) → All (λ p. IsSome (seat_of p) × at_place p × SeesFirst es (known_at (seat_of p))) ps → All IsUnused ps → AreNew es (map (λ p. known_at (seat_of p)) ps)
  new_passes at_place first unused =
      new_each ps (all_rec IsFirst ps (λ k d l. let f = first k d l in (f.0, f.2))) (all_rec IsUnused ps unused)

  -- and all of them know of the zone's opening
  pub all_open : (origin : Name) (at_place : A → Type 0) → IsZone origin es → All (λ p. IsSome (seat_of p) × at_place p × SeesFirst es (known_at (seat_of p))) ps → All (λ p. OpensAt origin (known_at (seat_of p))) ps
  all_open origin at_place z first = λ k d l. (let f = first k d l in subst (BeginsAt origin) (sym f.2.opening) (zone_begins origin es z))
