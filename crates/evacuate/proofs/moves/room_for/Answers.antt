use Rattle.std.proofs.Common.{List, Bool, refl, sym, subst, None, Some}
use Rattle.chunk_cells.specs.Chunks.{IsFree}
use Rattle.chunk_usage.specs.Rooms.{GivesChunk}
use Rattle.chunk_usage.proofs.SpaceLaws.{handed}
use Rattle.evacuate.proofs.FillingLaws.{Granted, granted}
use Rattle.evacuate.proofs.MovingLaws.{room_asked, room_missing, room_there}
use Rattle.evacuate.proofs.moves.room_for.Goals as goal

pub give-requires : goal.give-requires
give-requires g c =
    let gives = subst (GivesChunk c.args.usage.now.given c.alloc_reserve.new.self.given) c.in-Some.is (granted c.known.ensures c.requires.length.some c.requires.length.few c.in_ok-grant.ensures.after c.in_ok-grant.ensures.grant).hands.gives in
    subst (λ (flags : List Bool). IsFree flags c.in-Some.chunk) (sym c.requires.ready.same) gives.0

grant : (g : _) (c : goal.After-give g) → Granted c.args.usage.now c.alloc_reserve.new.self c.args.n c.in_ok-grant.grant
grant g c = granted c.known.ensures c.requires.length.some c.requires.length.few c.in_ok-grant.ensures.after c.in_ok-grant.ensures.grant

gives : (g : _) (c : goal.After-give g) → GivesChunk (g.C.CellWrite.given c.args.cells.now) (g.C.CellWrite.given c.give.new.self) (Some c.in-Some.chunk)
gives g c = (subst (λ (flags : List Bool). IsFree flags c.in-Some.chunk) (sym c.requires.ready.same) (subst (GivesChunk c.args.usage.now.given c.alloc_reserve.new.self.given) c.in-Some.is (grant g c).hands.gives).0, c.give.ensures.given)

pub returns-in-Some-clause-room : goal.returns-in-Some-clause-room
returns-in-Some-clause-room g c = room_there (grant g c) c.requires.ready (Some c.in-Some.chunk) c.in-Some.is (gives g c) c.give.ensures.kept

pub returns-in-Some-clause-asks : goal.returns-in-Some-clause-asks
returns-in-Some-clause-asks g c = room_asked (grant g c) c.requires.ready (Some c.in-Some.chunk) c.in-Some.is (gives g c) c.give.ensures.kept c.give.ensures.cells c.in_ok-grant.ensures.after

pub returns-clause-room : goal.returns-clause-room
returns-clause-room g c =
    let h = granted c.known.ensures c.requires.length.some c.requires.length.few c.in_ok-grant.ensures.after c.in_ok-grant.ensures.grant in
    room_there h c.requires.ready None c.in_default.is refl refl

pub returns-clause-asks : goal.returns-clause-asks
returns-clause-asks g c =
    let h = granted c.known.ensures c.requires.length.some c.requires.length.few c.in_ok-grant.ensures.after c.in_ok-grant.ensures.grant in
    room_asked h c.requires.ready None c.in_default.is refl refl (λ q x k. k) c.in_ok-grant.ensures.after

pub returns-in_err-grant-clause-asks : goal.returns-in_err-grant-clause-asks
returns-in_err-grant-clause-asks g c =
    let h = handed 0 c.args.usage.now c.known.ensures c.args.n c.requires.length.some c.requires.length.few c.alloc_reserve.new.self _ c.in_err-grant.ensures.after c.in_err-grant.ensures.grant in
    room_missing c.requires.ready h.stays c.in_err-grant.ensures.after
