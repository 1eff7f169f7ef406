use Rattle.std.proofs.Common.{◌≡◌, ◌∙◌, ◌+◌, ℕ, true, ap}
use Rattle.qp_multi.proofs.RoomyLaws.{alike_room, alike_where, settled_rows, settled_small, settled_thin}
use Rattle.qp_multi.proofs.SettleLaws.{IsAlike, settled_commits, settled_recycles}
use Rattle.qp_multi.proofs.writer.WorkingVersion.commit.Goals as goal

pub undo-writer-requires-clause-room : goal.undo-writer-requires-clause-room
undo-writer-requires-clause-room g c =
    let next = c.next_version.ensures in
    let alike : IsAlike c.args.self c.next_version.new.self = record { known = next.same.known; usage = next.same.usage; log = next.same.log } in
    alike_room alike c.requires.room

pub returns-in-Ok-clause-done : goal.returns-in-Ok-clause-done
returns-in-Ok-clause-done g c =
    let next = c.next_version.ensures in
    let s = c.settle-working.ensures in
    let p = c.publish-writer.ensures in
    let alike : IsAlike c.args.self c.next_version.new.self = record { known = next.same.known; usage = next.same.usage; log = next.same.log } in
    record {
      commits = settled_commits alike s.settles c.publish-writer.result.1.place.me.0 p.commits;
      version = p.receipt.version ∙ ap (λ (n : ℕ). n + 1) (s.turn.version ∙ next.same.version);
      receipt = settled_recycles alike s.settles c.publish-writer.result.1.place.me.0 c.publish-writer.result.2 p.receipt.whole p.receipt.publishes s.sparse.few s.sparse.stopped
          (alike_where (c.settle-working.result.1 ≡ true) (c.publish-writer.result.2.whole ≡ true) alike (λ h. p.receipt.whole ∙ h) (s.room.roomy (alike_room alike c.requires.room)));
    }

pub publish-writer-requires-clause-room : goal.publish-writer-requires-clause-room
publish-writer-requires-clause-room g c =
    let next = c.next_version.ensures in
    let s = c.settle-working.ensures in
    let alike : IsAlike c.args.self c.next_version.new.self = record { known = next.same.known; usage = next.same.usage; log = next.same.log } in
    record {
      rows = settled_rows s.settles (alike_room alike c.requires.room);
      thin = settled_thin c.requires.few s.settles s.sparse.few (s.room.roomy (alike_room alike c.requires.room));
      small = settled_small s.settles (s.room.small (alike_room alike c.requires.room));
    }
