-- A session that begins on the index of its zone.
use Rattle.std.proofs.Common.{◌≡◌, ◌∙◌, ◌⊎◌, ℕ, ◌<◌, ◌≤◌, Bool, List, [], length, Result, Ok, Err, refl, sym, ap, inl, inr, subst}
use Rattle.std.proofs.lemmas.List.{length-map}
use Rattle.zone_model.specs.Names.{Name}
use Rattle.zone_answer.specs.Standing.{trie_entry}
use Rattle.job_model.specs.Commands.{Command}
use Rattle.job_model.specs.Sizes.{cell_count}
use Rattle.job_report.specs.declared.outcomes.Outcome.{Outcome}
use Rattle.job_commands.specs.Histories.{Entries, StandsAs}
use Rattle.outer_io.specs.Bytes.{Held}
use Rattle.qp_multi.specs.Openings.{room_in}
use Rattle.trie_model.specs.Shape.{cells}
use Rattle.session_talk.specs.Answering.{Way}
use Rattle.session_talk.specs.Serving.{BeginsAt, Finished, IsTooLong, Settled, Stands}
use Rattle.session_talk.specs.declared.serving.Stop.{Stop}
use Rattle.session_talk.specs.declared.serving.Stop.TheVariants as stop
use Rattle.live_session.specs.Ends.{Fits, IsUnmoved, ServedSo, StartsOn, end_by}
use Rattle.live_session.specs.declared.early.EarlyEnd.{EarlyEnd}
use Rattle.live_session.specs.declared.early.EarlyEnd.TheVariants as early

module _ {way : Way} {chunks : ℕ} {origin : Name} {es : Entries} {first : ℕ} {given : List ℕ} {held : Held} {pending : List ℕ} (s : StartsOn way chunks origin es first given held pending) where
  pub begins : (has_run : List Command → List Outcome → Type 0) (names : ℕ) → length es ≡ names → has_run [] [] → BeginsAt has_run way origin first names given held pending
  begins has_run names count ran = record {
    ran = ran;
    origin_is = s.origin_is;
    first_is = s.first_is;
    names_are = sym (length-map way.opened.zone trie_entry) ∙ ap (λ (l : Entries). length l) s.stands.entries ∙ count;
    gave = s.gave;
    held_is = s.held_is;
  }

  cells_are : cell_count way.opened.zone ≡ cells es
  cells_are = ap cells s.stands.entries

  room_is : room_in way.opened.chunks ≡ room_in chunks
  room_is = ap room_in s.chunks_are

  pub fits_by : cells es ≤ room_in chunks → Fits way
  fits_by le = rw (cells_are, room_is) le

  pub unfit_by : (n limit : ℕ) → (n ≡ cells es) × (limit ≡ room_in chunks) × (limit < n) → ServedSo way given given held held (Err (early.DoesNotFit n limit))
  unfit_by n limit u = (u.0 ∙ sym cells_are, u.1 ∙ sym room_is, u.2, (refl, refl))

-- so many chunks
pub starts_as : {way : Way} {n m : ℕ} {origin : Name} {es : Entries} {first : ℕ} {given : List ℕ} {held : Held} {pending : List ℕ} → n ≡ m → StartsOn way n origin es first given held pending → StartsOn way m origin es first given held pending
starts_as e s = record { chunks_are = s.chunks_are ∙ e; origin_is = s.origin_is; stands = s.stands; first_is = s.first_is; gave = s.gave; held_is = s.held_is }

-- what stopped the lines
pub stopped : (way : Way) (given now : List ℕ) (before held : Held) (e : Stop) → Fits way → (e ≡ stop.Fault → Settled way now held) → (e ≡ stop.TooLong → IsTooLong way now held)
    → (Stands way now held ⊎ IsUnmoved given now before held) → ServedSo way given now before held (Err (end_by e))
stopped way given now before held stop.Fault fits f l st = (fits, f refl)
stopped way given now before held stop.TooLong fits f l st = (fits, l refl)
stopped way given now before held stop.Sink fits f l (inl st) = inl (fits, st)
stopped way given now before held stop.Sink fits f l (inr u) = inr u
stopped way given now before held stop.Memory fits f l (inl st) = inl (fits, st)
stopped way given now before held stop.Memory fits f l (inr u) = inr u
