-- How a call whose first try finds no room makes some, and which chunks its operation takes.
use Rattle.std.specs.Prelude.{◌≡◌, ◌⊎◌, ℕ, slice_index}
use Rattle.chunk_usage.specs.declared.space.Shortage.{Shortage}
use Rattle.chunk_usage.specs.Handing.{Lacks}
use Rattle.evacuate.specs.declared.evacuation.EvacuationEnd.{EvacuationEnd}
use Rattle.qp_multi.specs.declared.writer.WorkingVersion.{WorkingVersion}
use Rattle.qp_multi.specs.WorkingVersions.{Works}
use Rattle.qp_multi.specs.Keepings.{GoesOn, Rounds}
use Rattle.qp_multi.specs.Movings.{Evacuates}
use Rattle.qp_multi.specs.Tries.{Spares}

-- A try found no room, as the numbers of some request say. What was handed out counts no more.
pub record Fails (old new : WorkingVersion) : Type 0 where
  pub seen : new.seat.place.me.0.seen ≡ old.seat.place.me.0.seen
  pub spares : Spares old.usage new.usage
  pub counts : (k : ℕ) → slice_index new.usage.live k ≡ slice_index old.usage.live k
  pub full : Shortage
  pub lacks : Lacks new.usage full

-- a round of the call's, and the freeing behind it
pub record FreesRoom (old new : WorkingVersion) : Type 0 where
  pub goes_on : GoesOn old.seat.place.me.0 new.seat.place.me.0
  pub round : Rounds old.seat.version old.seat.passes old.seat.place.me.0.seen.namings new.seat.place.me.0.seen.namings old.usage new.usage

-- It made a round, moved what lay in sparse chunks, and made a round again. What is left is the same working set.
pub record MakesRoom (first left : WorkingVersion) : Type 0 where
  pub room : WorkingVersion
  pub before : FreesRoom first room
  pub emptied : WorkingVersion
  pub done : EvacuationEnd
  pub seen : emptied.seat.place.me.0.seen ≡ room.seat.place.me.0.seen
  pub evacuates : Evacuates room.usage emptied.usage done
  pub behind : FreesRoom emptied left
  pub works : Works left
  pub log : left.log.operations ≡ first.log.operations

-- What its operation was tried on last: on what the call found; or, where that had no room, on what was left when room was made.
abbrev pub IsTriedOn : WorkingVersion → WorkingVersion → Type 0
IsTriedOn old tried = (tried ≡ old) ⊎ ((first : WorkingVersion) × Fails old first × MakesRoom first tried)

-- What that try took is no chunk of the reserve. An evacuation before it may have taken some.
pub record SparesReserve (old new : WorkingVersion) : Type 0 where
  pub tried : WorkingVersion
  pub is_tried : IsTriedOn old tried
  pub spares : Spares tried.usage new.usage
