-- A session whose zone was taken, or wasn't.
use Rattle.std.proofs.Common.{◌≡◌, ◌∙◌, ◌⊎◌, ℕ, ◌+◌, ◌≤◌, Bool, true, false, List, [], ◌++◌, Option, Ok, Err, refl, sym, ap, inl, inr, subst}
use Rattle.zone_model.specs.Lines.{lines_of}
use Rattle.zone_model.specs.Names.{Name}
use Rattle.zone_model.specs.MasterFile.{zone_of}
use Rattle.zone_model.specs.Versions.{Version}
use Rattle.zone_text.specs.Views.{IsRefused}
use Rattle.zone_text.specs.declared.refusal.ZoneRefusal.{ZoneRefusal}
use Rattle.job_model.specs.Jobs.{zone_lines}
use Rattle.job_model.specs.Sizes.{cell_count}
use Rattle.job_commands.specs.Histories.{Entries, StandsAs}
use Rattle.outer_io.specs.Bytes.{Held}
use Rattle.outer_io.proofs.GrowsLemmas.{Grows-nil}
use Rattle.qp_multi.specs.Openings.{room_in}
use Rattle.session_lines.specs.Taking.{Pending}
use Rattle.session_lines.specs.declared.intake.NoMore.{NoMore}
use Rattle.session_lines.specs.declared.intake.NoMore.TheVariants as no_more
use Rattle.session_talk.specs.Serving.{MayTalk}
use Rattle.live_session.specs.Chunks.{ChunksFor}
use Rattle.live_session.specs.Dues.{DueBy, IsSettled}
use Rattle.live_session.specs.Ends.{EndedEarly, Fits, StartsOn, ZoneStops, end_without}
use Rattle.live_session.specs.Zones.{IsCutFront, IsLongZone, IsWholeFront, IsWithinZone, TookZone}
use Rattle.live_session.specs.declared.early.EarlyEnd.{EarlyEnd}
use Rattle.live_session.specs.declared.early.EarlyEnd.TheVariants as early
use Rattle.live_session.specs.declared.zone.ZoneBytes.{ZoneBytes}
use Rattle.live_session.proofs.EndLaws.{came_is, nothing_yet, settled_cut, there_came, way_on, zone_came}

-- what was read, where the octets are these
pub read_of : (origin : Name) {octets bytes : List ℕ} {zone : Version} → octets ≡ bytes → zone_of origin (lines_of octets) ≡ Ok zone → zone_of origin (lines_of bytes) ≡ Ok zone
read_of origin {octets} {bytes} {zone} e r = subst (λ (l : List ℕ). zone_of origin (lines_of l) ≡ Ok zone) e r

pub refused_of : (refusal : ZoneRefusal) (origin : Name) {octets bytes : List ℕ} → octets ≡ bytes → IsRefused refusal (zone_of origin (lines_of octets)) → IsRefused refusal (zone_of origin (lines_of bytes))
refused_of refusal origin e r = subst (λ (l : List ℕ). IsRefused refusal (zone_of origin (lines_of l))) e r

pub chunks_of : (asked : Option ℕ) (chunks : ℕ) {counted cells : ℕ} → counted ≡ cells → ChunksFor asked counted chunks → ChunksFor asked cells chunks
chunks_of asked chunks {counted} {cells} e n = subst (λ (k : ℕ). ChunksFor asked k chunks) e n

-- while only lines of the zone have come nothing is due
pub settled_within : (asked : Option ℕ) (origin : Name) (bytes : List ℕ) (held : Held) → IsWithinZone bytes → IsSettled asked origin bytes held held
settled_within asked origin bytes held w = record {
  whole = w.zone;
  rest = w.rest;
  is = w.is;
  fed = w.fed;
  unbroken = w.unbroken;
  text = [];
  due = subst (λ (b : Bool). DueBy b asked origin w.zone []) (sym w.uncut) refl;
  grew = Grows-nil held;
}

-- no more of the zone was taken
pub early_by : (asked : Option ℕ) (origin : Name) (given now : List ℕ) (ended : Bool) (held : Held) (e : NoMore) → ((bytes : List ℕ) × (now ≡ given ++ bytes)) → (e ≡ no_more.Fault → (bytes : List ℕ) × (now ≡ given ++ bytes) × IsWithinZone bytes)
    → (e ≡ no_more.TooLong → (bytes : List ℕ) × (now ≡ given ++ bytes) × IsLongZone bytes) → (bytes : List ℕ) × (now ≡ given ++ bytes) × EndedEarly asked origin bytes ended held held (end_without e)
early_by asked origin given now ended held no_more.Fault gave f l = let w = f refl in (w.0, w.1, settled_within asked origin w.0 held w.2)
early_by asked origin given now ended held no_more.TooLong gave f l = let w = l refl in (w.0, w.1, (w.2, refl))
early_by asked origin given now ended held no_more.Memory gave f l = (gave.0, gave.1, nothing_yet asked origin gave.0 ended held held refl)

module _ (asked : Option ℕ) (origin : Name) {before given : List ℕ} {ended : Bool} {pending : Pending} {z : ZoneBytes} (t : TookZone before given ended pending z) (held : Held) where
  -- memory ran out behind the zone
  pub no_memory : (bytes : List ℕ) × (given ≡ before ++ bytes) × EndedEarly asked origin bytes ended held held early.Memory
  no_memory = (t.front ++ pending.bytes, came_is t, nothing_yet asked origin (t.front ++ pending.bytes) ended held held refl)

  -- its reader refused it
  pub zone_ended : (refusal : ZoneRefusal) (e : EarlyEnd) → IsRefused refusal (zone_of origin (lines_of z.bytes.items)) → ZoneStops refusal e → (bytes : List ℕ) × (given ≡ before ++ bytes) × EndedEarly asked origin bytes ended held held e
  zone_ended refusal (early.ZoneRefused told) is s = (
    t.front ++ pending.bytes,
    came_is t,
    (
      subst (λ (r : ZoneRefusal). zone_of origin (zone_lines (t.front ++ pending.bytes)) ≡ Err (record { line = r.line; kind = r.kind })) (sym s.0) (ap (zone_of origin) (zone_came t) ∙ is s.1),
      there_came t,
      refl,
    ),
  )
  zone_ended refusal early.Memory is s = no_memory
  zone_ended refusal (early.DoesNotFit cells limit) is s = absurd s
  zone_ended refusal early.ZoneTooLong is s = absurd s
  zone_ended refusal early.LineTooLong is s = absurd s
  zone_ended refusal early.TalkFault is s = absurd s
  zone_ended refusal early.SinkFault is s = absurd s

  module _ (chunks : ℕ) (zone : Version) (read : zone_of origin (lines_of z.bytes.items) ≡ Ok zone) (number : ChunksFor asked (cell_count zone) chunks) where
    pub starts_on : (es : Entries) (first : ℕ) → StandsAs es zone → first ≡ z.lines + 1 → StartsOn (way_on asked origin chunks zone z read number before t.front held) chunks origin es first given held pending.bytes
    starts_on es first stands e = record { chunks_are = refl; origin_is = refl; stands = stands; first_is = sym e; gave = t.gave; held_is = refl }

    by_parts : (is_settled : List ℕ → List ℕ → Type 0) → (IsCutFront t.front z ⊎ ((pending.ended ≡ true) × (pending.bytes ≡ []) × IsWholeFront t.front z)) → pending.ended ≡ false
        → ((bytes : List ℕ) (now : Held) → IsSettled asked origin bytes held now → is_settled (before ++ bytes) now.taken) → cell_count zone ≤ room_in chunks → MayTalk is_settled (way_on asked origin chunks zone z read number before t.front held)
    by_parts is_settled (inl c) goes_on may fits = λ now held' s.
        let w = settled_cut asked origin chunks zone z read number before t.front held c fits now held' s in subst (λ (l : List ℕ). is_settled l held'.taken) (sym w.1) (may w.0 held' w.2)
    by_parts is_settled (inr w) goes_on may fits = absurd (let n : true ≡ false = sym w.0 ∙ goes_on in cc)

    -- what the session's rule asks for is what the talk's rule wants
    pub may_talk : (is_settled : List ℕ → List ℕ → Type 0) → pending.ended ≡ false → ((bytes : List ℕ) (now : Held) → IsSettled asked origin bytes held now → is_settled (before ++ bytes) now.taken)
        → Fits (way_on asked origin chunks zone z read number before t.front held) → MayTalk is_settled (way_on asked origin chunks zone z read number before t.front held)
    may_talk is_settled goes_on may fits = by_parts is_settled t.parts goes_on may fits
