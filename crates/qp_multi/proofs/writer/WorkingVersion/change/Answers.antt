use Rattle.std.proofs.Common.{◌≡◌, ◌∙◌, ◌++◌, List, Err, ap, append_assoc, inl, inr, length, refl, rules}
use Rattle.chunk_usage.specs.declared.space.Shortage.{Shortage}
use Rattle.trie_write.specs.declared.refusal.NotDone.TheVariants as not_done
use Rattle.qp_multi.specs.declared.kept.Versions.{Versions}
use Rattle.qp_multi.specs.Attempts.{AreKept, IsUndone}
use Rattle.qp_multi.proofs.AttemptLaws.{of_err}
use Rattle.qp_multi.specs.Bounds.{HasRoom, IsCramped, IsCrowded}
use Rattle.qp_multi.specs.Rooms.{Fails}
use Rattle.qp_multi.proofs.GoesLaws.{goes_further}
use Rattle.qp_multi.specs.declared.meaning.Operation.{Operation}
use Rattle.std.specs.Prelude.{IsOk}
use Rattle.qp_multi.specs.Changes.{IsRefused, key_of, operation_of, written_by}
use Rattle.qp_multi.specs.WorkingVersions.{working_set}
use Rattle.qp_multi.specs.Keepings.{versions_in}
use Rattle.qp_multi.proofs.RoomyLaws.{begins_with, cramped_room, crowded_by, keeps_grown, keeps_made, keeps_then}
use Rattle.qp_multi.proofs.WorkLaws.{operates_after, set_stays}
use Rattle.qp_multi.proofs.writer.WorkingVersion.change.Given.{Over}
use Rattle.qp_multi.proofs.writer.WorkingVersion.change.Goals as goal

-- what the first try left: it found no room
first_undone : (g : Over) (c : goal.After-change_at_last g) → IsUndone c.args.change.now c.args.self c.attempt-working.result.0 (not_done.Full c.in-Err-Full.field-0-0)
first_undone g c = of_err _ c.attempt-working.result.1 (not_done.Full c.in-Err-Full.field-0-0) c.attempt-working.ensures.undone (search rules)

first_fails : (g : Over) (c : goal.After-change_at_last g) → Fails c.args.self c.attempt-working.result.0
first_fails g c = (first_undone g c).fails c.in-Err-Full.field-0-0 refl

-- the table isn't roomy
cramped_first : (g : Over) (c : goal.After-change_at_last g) → HasRoom c.args.self → IsCramped c.args.self
cramped_first g c room = (first_undone g c).cramped room c.in-Err-Full.field-0-0 refl

-- the working set is the same behind it
same_first : (g : Over) (c : goal.After-change_at_last g) → working_set c.attempt-working.result.0 ≡ working_set c.args.self
same_first g c = set_stays c.args.self c.attempt-working.result.0 c.attempt-working.ensures.operates.known (c.attempt-working.ensures.operates.stays (λ h. absurd (search rules)))

pub returns-in-Err-Full-clause-room : goal.returns-in-Err-Full-clause-room
returns-in-Err-Full-clause-room g c room =
    let d = c.args.self in
    let tried = c.attempt-working in
    let takes = tried.ensures.takes in
    let last = c.change_at_last in
    let made = last.ensures.tries.room in
    let keeps = keeps_then (keeps_grown takes.spares.grown) (keeps_then (keeps_made made.1) (keeps_grown made.2.grown)) in
    let a = begins_with tried.result.1 tried.ensures.operates in
    let b = begins_with last.result.1 last.ensures.operates in
    cramped_room d tried.result.0 last.result.0 room (cramped_first g c room) keeps (goes_further tried.ensures.operates.known last.ensures.operates.known)
    (a.0 ++ b.0, b.1 ∙ ap (λ (os : List Operation). os ++ b.0) a.1 ∙ append_assoc d.log.operations a.0 b.0)
    takes.ledger takes.spares (same_first g c) takes.spares.grown.wide last.ensures.tries.small

crowded : (g : Over) (c : goal.After-change_at_last g) (f : Shortage) → c.change_at_last.result.1 ≡ Err (not_done.Full f) → HasRoom c.args.self → (kept : Versions) → AreKept c.change_at_last.result.0 kept
    → IsCrowded c.change_at_last.result.0 (key_of c.args.change.now) (written_by c.args.change.now) (length (versions_in kept))
crowded g c f e room kept same =
    let old = c.args.self in
    let tried = c.attempt-working in
    let takes = tried.ensures.takes in
    let d = c.change_at_last.result.0 in
    let op = c.change_at_last.ensures.operates in
    let log = op.stays (λ h. absurd (search rules)) ∙ tried.ensures.operates.stays (λ h. absurd (search rules)) in
    let on = goes_further tried.ensures.operates.known op.known in
    let k = (c.change_at_last.ensures.full f e).crowded in
    let made = c.change_at_last.ensures.tries.room in
    let wide = keeps_then (keeps_grown takes.spares.grown) (keeps_then (keeps_made made.1) (keeps_grown made.2.grown)) in
    crowded_by old tried.result.0 d (key_of c.args.change.now) (written_by c.args.change.now) (versions_in kept) room k on log takes.ledger takes.spares (same_first g c) wide.wide same

pub returns-in-Err-Full-clause-full : goal.returns-in-Err-Full-clause-full
returns-in-Err-Full-clause-full g c f e =
    let last = c.change_at_last.ensures.full f e in
    record {
      full = last.full;
      cause = λ kept same. record { first = c.attempt-working.result.0; fails = first_fails g c; caused = last.cause kept same };
      cramped = cramped_first g c;
      crowded = crowded g c f e;
    }

pub returns-in_default-clause-full : goal.returns-in_default-clause-full
returns-in_default-clause-full g c f e = absurd (search rules)

pub returns-in-Err-Full-clause-does : goal.returns-in-Err-Full-clause-does
returns-in-Err-Full-clause-does g c = record {
  operates =
      let change = c.args.change.now in
      let tried = c.attempt-working.ensures.operates in
      let last = c.change_at_last in
      operates_after (operation_of change) (IsRefused change) c.args.self c.attempt-working.result.0 last.result.0 (IsOk last.result.1) (last.result.1 ≡ Err not_done.Refused) tried.known (tried.stays (λ h. absurd (search rules))) tried.passes last.ensures.operates;
  spares = (let room = c.change_at_last.ensures.tries.room in
      record { tried = room.0; is_tried = inr (c.attempt-working.result.0, first_fails g c, room.1); spares = room.2 });
}

pub returns-in_default-clause-does : goal.returns-in_default-clause-does
returns-in_default-clause-does g c = record { operates = search rules; spares = record { tried = c.args.self; is_tried = inl refl; spares = c.attempt-working.ensures.takes.spares } }
