-- What is so of a session that has ended, of the bytes that the source gave and of what lies in the sink.
use Rattle.std.specs.Prelude.{◌≡◌, ◌⊎◌, ◌≤◌, ◌^◌, ℕ, Bool, true, false, IsTrue, List, ◌++◌, length, Option, Some, None, Err, codes}
use Rattle.std.specs.Fmt.{decimal}
use Rattle.zone_model.specs.Names.{Name}
use Rattle.zone_model.specs.Refusals.{Refused}
use Rattle.zone_model.specs.declared.ZoneKind.{ZoneKind}
use Rattle.outer_io.specs.Bytes.{Grows, GrowsByFront, Held}
use Rattle.live_session.specs.Dues.{DoesNotFit, HasEnded, HasLongLine, HoldsFront, IsSettled, IsThere}
use Rattle.live_session.specs.Zones.{IsLongZone}
use Rattle.live_session.specs.declared.early.EarlyEnd.{EarlyEnd}
use Rattle.live_session.specs.declared.early.EarlyEnd.TheVariants as early
use Rattle.command_line.specs.Invocations.{Invocation, Live, Verb}
use Rattle.qp_main.specs.Due.{refusal_text, zone_kind_text}
use Rattle.qp_main.specs.Saids.{zone_said}
use Rattle.qp_main.specs.declared.status.Status.{Status}
use Rattle.qp_main.specs.declared.status.Status.TheVariants as status

-- what is written last in a session that ends early under a status, and what lies in the sink before that
abbrev pub LastLine : Option ℕ → Name → List ℕ → Bool → Held → Status → Held → List ℕ → Type 0
LastLine asked origin bytes ended before status.ZoneRefused mid text =
    (mid ≡ before) × IsThere bytes ended × (e : Refused ZoneKind) × (zone_said origin bytes ≡ Err e) × (text ≡ refusal_text (codes "zone") e.line (zone_kind_text e.kind))
LastLine asked origin bytes ended before status.DoesNotFit mid text =
    (mid ≡ before) × IsThere bytes ended × (cells : ℕ) × (limit : ℕ) × DoesNotFit asked origin bytes cells limit
    × (text ≡ codes "zone does not fit: " ++ decimal cells ++ codes " cells over " ++ decimal limit ++ codes "\n")
LastLine asked origin bytes ended before status.TooLong mid text =
    ((mid ≡ before) × IsLongZone bytes × (text ≡ codes "input over 16777216 bytes\n")) ⊎ (HasLongLine asked origin bytes ended before mid × (text ≡ codes "line over 16777216 bytes\n"))
LastLine asked origin bytes ended before _ mid text = ⊥

-- it was written
pub record HasLast (asked : Option ℕ) (origin : Name) (bytes : List ℕ) (ended : Bool) (before held : Held) (s : Status) : Type 0 where
  pub mid : Held
  pub text : List ℕ
  pub last : LastLine asked origin bytes ended before s mid text
  pub grew : Grows mid held text

-- it was written up to some place
pub record BreaksOff (asked : Option ℕ) (origin : Name) (bytes : List ℕ) (ended : Bool) (before held : Held) : Type 0 where
  pub status : Status
  pub mid : Held
  pub text : List ℕ
  pub last : LastLine asked origin bytes ended before status mid text
  pub grew : GrowsByFront mid held text

-- what lies in the sink under a status, of the bytes that came
abbrev pub SessionHolds : Option ℕ → Name → List ℕ → Bool → Held → Held → Status → Type 0
SessionHolds asked origin bytes ended before held status.Done = HasEnded asked origin bytes ended false before held
SessionHolds asked origin bytes ended before held status.SomeRefused = HasEnded asked origin bytes ended true before held
SessionHolds asked origin bytes ended before held status.ZoneRefused = HasLast asked origin bytes ended before held status.ZoneRefused
SessionHolds asked origin bytes ended before held status.DoesNotFit = HasLast asked origin bytes ended before held status.DoesNotFit
SessionHolds asked origin bytes ended before held status.TooLong = HasLast asked origin bytes ended before held status.TooLong
SessionHolds asked origin bytes ended before held status.SourceFault = IsSettled asked origin bytes before held
SessionHolds asked origin bytes ended before held status.SinkFault = HoldsFront asked origin bytes ended before held ⊎ BreaksOff asked origin bytes ended before held
SessionHolds asked origin bytes ended before held status.NoMemory = HoldsFront asked origin bytes ended before held
SessionHolds asked origin bytes ended before held _ = ⊥

-- all lines were answered
abbrev pub IsWhole : Status → Type 0
IsWhole status.Done = Unit {0}
IsWhole status.SomeRefused = Unit {0}
IsWhole _ = ⊥

-- A session that the source gave these bytes to ended under a status. Where all lines were answered, the end of input was told, or 2^46 bytes came.
pub record SessionRan (asked : Option ℕ) (origin : Name) (given now : List ℕ) (ended : Bool) (before held : Held) (s : Status) : Type 0 where
  pub bytes : List ℕ
  pub gave : now ≡ given ++ bytes
  pub holds : SessionHolds asked origin bytes ended before held s
  pub whole : IsWhole s → IsTrue ended ⊎ (2 ^ 46 ≤ length now)

-- of the words of a session
abbrev pub SaysOf : Verb → Name → (Option ℕ → Name → Type 0) → Type 0
SaysOf (Live asked) origin so = so asked origin
SaysOf _ origin so = Unit {0}

abbrev pub SaysSession : Option Invocation → (Option ℕ → Name → Type 0) → Type 0
SaysSession None so = Unit {0}
SaysSession (Some i) so = SaysOf i.verb i.origin so

-- ---- the last line

-- a line was written, whole or up to some place
abbrev pub WroteLine : Status → List ℕ → Held → Held → Status → Type 0
WroteLine under text mid held s = ((s ≡ under) × Grows mid held text) ⊎ ((s ≡ status.SinkFault) × GrowsByFront mid held text)

-- by why a session ended early
abbrev pub EndsBy : EarlyEnd → Held → Held → Status → Type 0
EndsBy (early.ZoneRefused refusal) mid held s = WroteLine status.ZoneRefused (refusal_text (codes "zone") refusal.line (zone_kind_text refusal.kind)) mid held s
EndsBy (early.DoesNotFit cells limit) mid held s =
    WroteLine status.DoesNotFit (codes "zone does not fit: " ++ decimal cells ++ codes " cells over " ++ decimal limit ++ codes "\n") mid held s ⊎ ((s ≡ status.NoMemory) × (held ≡ mid))
EndsBy early.ZoneTooLong mid held s = WroteLine status.TooLong (codes "input over 16777216 bytes\n") mid held s
EndsBy early.LineTooLong mid held s = WroteLine status.TooLong (codes "line over 16777216 bytes\n") mid held s
EndsBy early.TalkFault mid held s = (s ≡ status.SourceFault) × (held ≡ mid)
EndsBy early.SinkFault mid held s = (s ≡ status.SinkFault) × (held ≡ mid)
EndsBy early.Memory mid held s = (s ≡ status.NoMemory) × (held ≡ mid)
