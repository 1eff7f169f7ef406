-- A zone that is written down.
use Rattle.std.specs.Prelude.{◌≡◌, ℕ, List, length, Result, Ok, Err, IfOk}
use Rattle.zone_model.specs.Names.{Name}
use Rattle.zone_model.specs.Versions.{Version}
use Rattle.zone_model.specs.Dumps.{dump, record_count}
use Rattle.zone_model.specs.declared.Style.{Style}
use Rattle.outer_io.specs.Bytes.{Grows, GrowsByFront, Held}
use Rattle.qp_multi.specs.Passes.{Known}
use Rattle.zone_dump.specs.declared.refusal.DumpRefusal.{DumpRefusal}
use Rattle.zone_server.specs.Changes.{HappensIn, NoneHas}
use Rattle.zone_server.specs.Homes.{Served}
use Rattle.zone_server.specs.Replies.{IsShown, IsTold}
use Rattle.zone_server.specs.Servings.{ServerKnown}
use Rattle.zone_server.specs.declared.transferring.Transferred.{Transferred}
use Rattle.zone_server.specs.declared.transferring.TransferRefusal.{TransferRefusal}
use Rattle.zone_server.specs.declared.transferring.TransferRefusal.TheVariants as refusal

-- what is told of a dump of a version
abbrev pub transferred : ℕ → Result ℕ DumpRefusal → Result Transferred DumpRefusal
transferred version (Ok records) = Ok (record { version = version; records = records })
transferred version (Err e) = Err e

abbrev pub transfer_told : Result Transferred DumpRefusal → Result Transferred TransferRefusal
transfer_told (Ok t) = Ok t
transfer_told (Err e) = Err (refusal.Dump e)

-- the version's text went to the sink, or a front of it
abbrev pub Dumps : Style → Name → Version → Held → Held → Result Transferred DumpRefusal → Type 0
Dumps style origin zone old new (Ok t) = (t.records ≡ record_count zone) × Grows old new (dump style origin zone)
Dumps style origin zone old new (Err e) = GrowsByFront old new (dump style origin zone)

-- this was done by the version that was current when it began, whose number is told
pub record IsDumped (dumps : Version → Type 0) (old new : Known) (result : Result Transferred DumpRefusal) : Type 0 where
  pub shown : IsShown dumps old new (length new.seen.history)
  pub version : IfOk result (λ t. t.version ≡ length new.seen.history)

-- the same of a zone of the origin that goes to a sink
abbrev pub IsDumpedTo : Style → Name → Held → Held → Known → Known → Result Transferred DumpRefusal → Type 0
IsDumpedTo style origin held held_now old new result = IsDumped (λ zone. Dumps style origin zone held held_now result) old new result

-- The zone of an origin was written down, or not whole, as of one version; or no zone has the origin, and nothing was done.
abbrev pub Transfers : List Served → Name → Style → Held → Held → ServerKnown → ServerKnown → Result Transferred TransferRefusal → Type 0
Transfers served origin style old new before after (Ok t) =
    HappensIn served origin (λ s v w. IsTold s.origin s.opening (λ zone. Dumps style s.origin zone old new (Ok t)) v w t.version) before after
Transfers served origin style old new before after (Err (refusal.Dump e)) =
    HappensIn served origin (λ s v w. IsTold s.origin s.opening (λ zone. Dumps style s.origin zone old new (Err e)) v w (length w.seen.history)) before after
Transfers served origin style old new before after (Err refusal.NoZone) = NoneHas served origin × (new ≡ old) × (after ≡ before)
