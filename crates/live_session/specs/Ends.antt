-- How a session ends, and what lies in the sink then.
use Rattle.std.specs.Prelude.{◌≡◌, ◌≢◌, ◌⊎◌, ◌<◌, ◌≤◌, ℕ, Bool, List, ◌++◌, Option, Result, Ok, Err}
use Rattle.zone_model.specs.Names.{Name}
use Rattle.zone_model.specs.declared.ZoneKind.TheVariants.{Memory}
use Rattle.zone_model.specs.MasterFile.{zone_of}
use Rattle.job_model.specs.Jobs.{zone_lines}
use Rattle.job_model.specs.Sizes.{cell_count}
use Rattle.job_commands.specs.Histories.{Entries, StandsAs}
use Rattle.qp_multi.specs.Openings.{room_in}
use Rattle.outer_io.specs.Bytes.{Held}
use Rattle.session_lines.specs.declared.intake.NoMore.{NoMore}
use Rattle.session_lines.specs.declared.intake.NoMore.TheVariants as no_more
use Rattle.session_talk.specs.declared.serving.Stop.{Stop}
use Rattle.session_talk.specs.declared.serving.Stop.TheVariants as stop
use Rattle.session_talk.specs.Answering.{Way}
use Rattle.session_talk.specs.Serving.{Finished, IsTooLong, Settled, Stands}
use Rattle.zone_text.specs.declared.refusal.ZoneRefusal.{ZoneRefusal}
use Rattle.live_session.specs.Zones.{IsLongZone}
use Rattle.live_session.specs.Dues.{DoesNotFit, HasEnded, HasLongLine, HoldsFront, IsSettled, IsThere}
use Rattle.live_session.specs.declared.early.EarlyEnd.{EarlyEnd}
use Rattle.live_session.specs.declared.early.EarlyEnd.TheVariants as early

-- a session's early end, by what stopped its lines
abbrev pub end_by : Stop → EarlyEnd
end_by stop.Fault = early.TalkFault
end_by stop.Sink = early.SinkFault
end_by stop.TooLong = early.LineTooLong
end_by stop.Memory = early.Memory

-- the same by why no more of the zone was taken
abbrev pub end_without : NoMore → EarlyEnd
end_without no_more.Fault = early.TalkFault
end_without no_more.TooLong = early.ZoneTooLong
end_without no_more.Memory = early.Memory

-- what is so of the bytes that came, and of what lies in the sink, where a session ended early
abbrev pub EndedEarly : Option ℕ → Name → List ℕ → Bool → Held → Held → EarlyEnd → Type 0
EndedEarly asked origin bytes ended before held (early.ZoneRefused refusal) = (zone_of origin (zone_lines bytes) ≡ Err (record { line = refusal.line; kind = refusal.kind })) × IsThere bytes ended × (held ≡ before)
EndedEarly asked origin bytes ended before held (early.DoesNotFit cells limit) = DoesNotFit asked origin bytes cells limit × IsThere bytes ended × (held ≡ before)
EndedEarly asked origin bytes ended before held early.ZoneTooLong = IsLongZone bytes × (held ≡ before)
EndedEarly asked origin bytes ended before held early.LineTooLong = HasLongLine asked origin bytes ended before held
EndedEarly asked origin bytes ended before held early.TalkFault = IsSettled asked origin bytes before held
EndedEarly asked origin bytes ended before held early.SinkFault = HoldsFront asked origin bytes ended before held
EndedEarly asked origin bytes ended before held early.Memory = HoldsFront asked origin bytes ended before held

-- the same of all ends
abbrev pub EndedSo : Option ℕ → Name → List ℕ → Bool → Held → Held → Result Bool EarlyEnd → Type 0
EndedSo asked origin bytes ended before held (Ok refused) = HasEnded asked origin bytes ended refused before held
EndedSo asked origin bytes ended before held (Err e) = EndedEarly asked origin bytes ended before held e

-- ---- behind the zone

-- what becomes of a zone that its reader refused
abbrev pub ZoneStops : ZoneRefusal → EarlyEnd → Type 0
ZoneStops refusal (early.ZoneRefused told) = (told ≡ refusal) × (refusal.kind ≢ Memory)
ZoneStops refusal early.Memory = refusal.kind ≡ Memory
ZoneStops refusal e = ⊥

-- A session begins behind a zone that stands as these entries, on an index of so many chunks.
pub record StartsOn (way : Way) (chunks : ℕ) (origin : Name) (es : Entries) (first : ℕ) (given : List ℕ) (held : Held) (pending : List ℕ) : Type 0 where
  pub chunks_are : way.opened.chunks ≡ chunks
  pub origin_is : way.opened.origin ≡ origin
  pub stands : StandsAs es way.opened.zone
  pub first_is : way.first ≡ first
  pub gave : given ≡ way.given ++ pending
  pub held_is : way.held ≡ held

abbrev pub Fits : Way → Type 0
Fits way = cell_count way.opened.zone ≤ room_in way.opened.chunks

-- nothing was read or written
abbrev pub IsUnmoved : List ℕ → List ℕ → Held → Held → Type 0
IsUnmoved given now before held = (now ≡ given) × (held ≡ before)

-- what such a session came to
abbrev pub ServedSo : Way → List ℕ → List ℕ → Held → Held → Result Bool EarlyEnd → Type 0
ServedSo way given now before held (Ok refused) = Fits way × Finished way refused now held
ServedSo way given now before held (Err early.LineTooLong) = Fits way × IsTooLong way now held
ServedSo way given now before held (Err early.TalkFault) = Fits way × Settled way now held
ServedSo way given now before held (Err early.SinkFault) = (Fits way × Stands way now held) ⊎ IsUnmoved given now before held
ServedSo way given now before held (Err early.Memory) = (Fits way × Stands way now held) ⊎ IsUnmoved given now before held
ServedSo way given now before held (Err (early.DoesNotFit cells limit)) =
    (cells ≡ cell_count way.opened.zone) × (limit ≡ room_in way.opened.chunks) × (limit < cells) × IsUnmoved given now before held
ServedSo way given now before held (Err (early.ZoneRefused refusal)) = ⊥
ServedSo way given now before held (Err early.ZoneTooLong) = ⊥
