-- A table has as many chunks after a call as before it.
use Rattle.std.proofs.Common.{◌≡◌, ◌∙◌, ⊎_elim, ap, length}
use Rattle.qp_multi.specs.declared.writer.WorkingVersion.{WorkingVersion}
use Rattle.qp_multi.specs.Rooms.{Fails, MakesRoom, SparesReserve}
use Rattle.qp_multi.proofs.RoomyLaws.{keeps_made}

pub chunks_stay : {old new : WorkingVersion} → SparesReserve old new → length new.usage.given ≡ length old.usage.given
chunks_stay {old} {new} s =
    s.spares.grown.wide
    ∙ ⊎_elim
    (λ (same : s.tried ≡ old). ap (λ (d : WorkingVersion). length d.usage.given) same)
    (λ (made : (first : WorkingVersion) × Fails old first × MakesRoom first s.tried). (keeps_made made.2).wide ∙ made.1.spares.grown.wide) s.is_tried
