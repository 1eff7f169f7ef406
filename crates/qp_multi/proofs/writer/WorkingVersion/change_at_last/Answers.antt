use Rattle.std.proofs.Common.{length, ◌+◌, ◌/◌, ◌≤◌, arith, ◌≡◌, ◌∙◌, ◌∷◌, ◌++◌, [], ℕ, true, Option, Err, map, ap, refl, slice_index, subst, sym}
use Rattle.std.proofs.lemmas.Bool.{true≢false}
use Rattle.std.specs.Prelude.{IsOk}
use Rattle.chunk_usage.specs.Ledger.{Frozen, Row}
use Rattle.chunk_usage.specs.Keeping.{kept_versions}
use Rattle.trie_write.specs.declared.refusal.NotDone.TheVariants as not_done
use Rattle.qp_multi.specs.Attempts.{AreKept, IsUndone}
use Rattle.qp_multi.specs.Bounds.{Crowds}
use Rattle.qp_multi.specs.Changes.{operation_of, IsRefused}
use Rattle.qp_multi.specs.Fulls.{CausedBy, full_with}
use Rattle.qp_multi.specs.declared.kept.Versions.{Versions}
use Rattle.chunk_usage.specs.declared.space.Shortage.{Shortage}
use Rattle.qp_multi.proofs.AttemptLaws.{of_err}
use Rattle.qp_multi.specs.Rooms.{Fails, MakesRoom}
use Rattle.qp_multi.proofs.GoesLaws.{goes_further}
use Rattle.qp_multi.proofs.WorkLaws.{full_of, operates_after, set_stays}
use Rattle.qp_multi.proofs.FullLaws.{cause_of}
use Rattle.trie_model.specs.Shape.{cells}
use Rattle.chunk_usage.specs.Ledger.{free_count, is_given, is_used}
use Rattle.evacuate.specs.Evacuations.{refused}
use Rattle.shared_cells.specs.Cells.{HasCell}
use Rattle.qp_multi.specs.Crowds.{WorksSmall, met_count, most_met}
use Rattle.qp_multi.specs.Changes.{asked_by, key_of, written_by}
use Rattle.qp_multi.specs.WorkingVersions.{IsFull, working_set}
use Rattle.qp_multi.specs.Tries.{PathHas}
use Rattle.qp_multi.specs.Turns.{cells_with}
use Rattle.qp_multi.proofs.CauseLaws.{NeededBy}
use Rattle.qp_multi.proofs.CrowdLaws.{spread_few, tried_small}
use Rattle.qp_multi.proofs.CrowdedLaws.{last_crowded, path_cells, room_small}
use Rattle.qp_multi.proofs.writer.WorkingVersion.change_at_last.Given.{Over}
use Rattle.qp_multi.proofs.writer.WorkingVersion.change_at_last.Goals as goal

-- how room was made
makes : (g : Over) (c : goal.After-attempt g) → MakesRoom c.args.self c.make_room-left.result
makes g c = record {
  room = c.make_room-room.result;
  before = c.make_room-room.ensures.frees;
  emptied = c.evacuate-emptied.result.0;
  done = c.evacuate-emptied.result.1;
  seen = c.evacuate-emptied.ensures.knows.seen;
  evacuates = c.evacuate-emptied.ensures.moves.evacuates;
  behind = c.make_room-left.ensures.frees;
  works = c.make_room-left.ensures.same.works;
  log = c.make_room-left.ensures.same.log ∙ c.evacuate-emptied.ensures.same.log ∙ c.make_room-room.ensures.same.log;
}

-- a try that finds no room leaves the kept versions
rows_stay : (g : Over) (c : goal.After-attempt g) → Fails c.make_room-left.result c.attempt.result.0 → kept_versions c.attempt.result.0.usage ≡ kept_versions c.make_room-left.result.usage
rows_stay g c fails = ap (λ (f : Frozen). map (λ (row : Row). row.version) f.rows) fails.spares.grown.frozen

pub returns-clause-operates : goal.returns-clause-operates
returns-clause-operates g c =
    let room = c.make_room-room.ensures in
    let dense = c.evacuate-emptied.ensures in
    let left = c.make_room-left.ensures in
    let tried = c.attempt in
    let change = c.args.change.now in
    operates_after (operation_of change) (IsRefused change) c.args.self c.make_room-left.result tried.result.0 (IsOk tried.result.1) (tried.result.1 ≡ Err not_done.Refused)
    (goes_further (goes_further room.frees.goes_on dense.knows.goes_on) left.frees.goes_on) (makes g c).log (left.same.passes ∙ dense.same.passes ∙ room.same.passes) tried.ensures.operates

-- what the last try left, where it found no room
undone : (g : Over) (c : goal.After-attempt g) (f : Shortage) → c.attempt.result.1 ≡ Err (not_done.Full f) → IsUndone c.args.change.now c.make_room-left.result c.attempt.result.0 (not_done.Full f)
undone g c f e = of_err _ c.attempt.result.1 (not_done.Full f) c.attempt.ensures.undone e

full : (g : Over) (c : goal.After-attempt g) (f : Shortage) (kept : Versions) → c.attempt.result.1 ≡ Err (not_done.Full f) → AreKept c.attempt.result.0 kept → IsFull c.attempt.result.0 (full_with f kept)
full g c f kept e same =
    let left = c.make_room-left in
    let tried = c.attempt in
    let ends = left.ensures.frees.round.kept.ends in
    let fails = (undone g c f e).fails f refl in
    full_of left.result tried.result.0 f (full_with f kept) tried.ensures.operates.known (rows_stay g c fails) left.ensures.named
    (ends.0, ends.1 ∙ ap (λ (n : ℕ). ends.0 ++ n ∷ []) (sym left.ensures.same.version)) ((undone g c f e).full f refl) refl same

cause : (g : Over) (c : goal.After-attempt g) (f : Shortage) (kept : Versions) → c.attempt.result.1 ≡ Err (not_done.Full f) → AreKept c.attempt.result.0 kept
    → CausedBy c.args.self c.attempt.result.0 (key_of c.args.change.now) (written_by c.args.change.now) (asked_by c.args.change.now) (full_with f kept)
cause g c f kept e same =
    let left = c.make_room-left in
    let tried = c.attempt in
    let change = c.args.change.now in
    let stays = (undone g c f e).tried in
    let fails = (undone g c f e).fails f refl in
    let root = (undone g c f e).root in
    let on = tried.ensures.operates.known in
    let told = same ∙ rows_stay g c fails in
    record {
      left = left.result;
      makes = makes g c;
      kept = told;
      fails = fails;
      cause = cause_of c.evacuate-emptied.result.0.usage left.result tried.result.0 change f (full_with f kept) left.ensures.frees.round.frees refl told left.ensures.same.works left.ensures.images c.requires.leads stays root on
          (set_stays left.result tried.result.0 on (tried.ensures.operates.stays (λ h. true≢false (sym (subst (λ r. IsOk r) e h))))) ((undone g c f e).full f refl);
    }

-- what is left when room was made, of a set that has no more cells than so many
there : (g : Over) (c : goal.After-attempt g) (most : ℕ) → most ≤ 768 → 4 ≤ length c.args.self.usage.given → cells (working_set c.args.self) ≤ most → WorksSmall most c.args.self.usage
    → ((met_count c.make_room-left.result.usage ≤ most_met most) × ((k : ℕ) → is_given c.make_room-left.result.usage k ≡ true → NeededBy c.make_room-left.result.usage k)) × WorksSmall most c.make_room-left.result.usage
unfolding makes
there g c most small some fits w =
    let room = c.make_room-room in
    let dense = c.evacuate-emptied in
    let a = ap cells (set_stays c.args.self room.result room.ensures.frees.goes_on room.ensures.same.log) in
    let b = ap cells (set_stays room.result dense.result.0 dense.ensures.knows.goes_on dense.ensures.same.log) in
    let asks = subst (λ (n : ℕ). free_count room.result.usage + refused dense.result.1 ≤ free_count dense.result.0.usage + (n / 769 + 1)) (sym b) dense.ensures.moves.asks in
    room_small most c.args.self c.make_room-left.result small some w (makes g c) dense.ensures.same.works (omega arith) asks

crowded : (g : Over) (c : goal.After-attempt g) (f : Shortage) → c.attempt.result.1 ≡ Err (not_done.Full f) → Crowds c.args.self c.attempt.result.0 (key_of c.args.change.now) (written_by c.args.change.now)
crowded g c f is =
    let left = c.make_room-left in
    let tried = c.attempt in
    let change = c.args.change.now in
    let l = left.result in
    let d = tried.result.0 in
    let stays = (undone g c f is).tried in
    let root = (undone g c f is).root in
    let set = set_stays l d tried.ensures.operates.known (tried.ensures.operates.stays (λ h. true≢false (sym (subst (λ r. IsOk r) is h)))) in
    let p = path_cells (HasCell (cells_with l.usage l.seat.place.me.0.turn)) (is_used l.usage) (λ k. slice_index l.usage.live k) l.root (key_of change) (working_set l) left.ensures.same.works.stands left.ensures.same.works.tells in
    record {
      path = p.0;
      on_path = subst (λ (r : Option ℕ). PathHas d.seat.place.me.0 d.usage r (key_of change) p.0) (sym root) (stays.path p.0 p.1);
      few_twigs = subst (λ (n : ℕ). p.0 ≤ n) (sym (ap cells set)) p.2;
      bound = λ most small some fits w.
          let t = there g c most small some fits w in
          last_crowded most l d change f p.0 t.1.rests.rows t.0.0 t.0.1 tried.ensures.takes.spares (stays.consumes p.0 p.1) ((undone g c f is).full f refl);
    }

pub returns-clause-full : goal.returns-clause-full
returns-clause-full g c f e = record {
  full = λ kept same. full g c f kept e same;
  cause = λ kept same. cause g c f kept e same;
  crowded = crowded g c f e;
}

pub returns-clause-tries : goal.returns-clause-tries
returns-clause-tries g c = record {
  table = c.attempt.ensures.takes.table ∙ c.make_room-left.ensures.same.table ∙ c.evacuate-emptied.ensures.same.table ∙ c.make_room-room.ensures.same.table;
  room = (c.make_room-left.result, makes g c, c.attempt.ensures.takes.spares);
  small = λ most small some fits w.
      let tried = c.attempt in
      tried_small most c.make_room-left.result.usage tried.result.0.usage tried.ensures.takes.spares
      (spread_few c.make_room-left.result.usage tried.result.0.usage tried.ensures.takes.ledger tried.ensures.takes.spares.grown tried.ensures.takes.spares.grown.meets) (there g c most small some fits w).1;
}
