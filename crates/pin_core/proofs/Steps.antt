-- Each event keeps what holds between two events.
use Rattle.std.proofs.Common.{◌≡◌, ℕ, ◌<◌, List, get_or, set, Bool, true, false, cond, refl, sym, subst, arith}
use Rattle.std.specs.Prelude.{◌&&◌, ◌==◌, nat_lt, nat_le, not, Option}
use Rattle.std.specs.List.{list_all}
use Rattle.std.proofs.lemmas.Bool.Decides.{nat_tests}
use Rattle.pin_core.specs.declared.kept.Stage.{Stage}
use Rattle.pin_core.specs.declared.kept.Stage.TheVariants as stage
use Rattle.pin_core.specs.declared.kept.Mark.{Mark}
use Rattle.pin_core.specs.declared.kept.Mark.TheVariants as mark
use Rattle.pin_core.specs.declared.event.Half.{Half}
use Rattle.pin_core.specs.declared.event.Event.{Event}
use Rattle.pin_core.specs.declared.event.Event.TheVariants as event
use Rattle.pin_core.specs.declared.event.Step.{Step}
use Rattle.pin_core.specs.declared.event.Step.TheVariants as step
use Rattle.pin_core.specs.Words.{Size, pin_at, status_at, chunk_of}
use Rattle.pin_core.specs.Sound.{stage_at, mark_at}
use Rattle.pin_core.specs.Machine.{Core, IsSound, exchanged, entered, looked, settled, shown, left, learned, mark_of, scanned, assigned, given, freed, written, is_given, is_kept_chunk, is_kept_cell, is_distinct, is_rooted, image_of, can_publish, next_kept, with_next, if_pass, next}
use Rattle.pin_core.proofs.Lists.{and_left, and_right, not_true}
use Rattle.pin_core.proofs.Pins.{enters, looks, settles, leaves, learns, scans, assigns}
use Rattle.pin_core.proofs.Rounds.{checks}
use Rattle.pin_core.proofs.Cells.{gives, frees, writes, publishes, given_test, distinct_cells, has_root, references_of_image, image_agrees, image_given}

module _ (s : Core) (h : IsSound s) where
  abbrev z : Size
  z = s.size

  -- a step under a test
  under : (b : Bool) (r : Core × Step) → (b ≡ true → IsSound r.0) → IsSound (cond b r (s, step.Refused)).0
  under true r k = k refl
  under false r k = h

  of_pass : (p : ℕ) (r : Core × Step) → (p < s.size.passes → IsSound r.0) → IsSound (if_pass s p r).0
  of_pass p r k = under (nat_lt p s.size.passes) r (λ e. k (let t : nat_lt p s.size.passes ≡ true = e in grind (arith, nat_tests)))

  enter_keeps : (p : ℕ) → p < s.size.passes → (g : Stage) → stage_at s.stages p ≡ g → IsSound (entered s p g).0
  enter_keeps p l stage.Idle is = enters z s.words s.stages s.seen s.turn h p l is
  enter_keeps p l stage.Entered is = h
  enter_keeps p l (stage.Looked w) is = h
  enter_keeps p l (stage.Pinned v) is = h

  look_keeps : (p : ℕ) → p < s.size.passes → (g : Stage) → stage_at s.stages p ≡ g → IsSound (looked s p g).0
  look_keeps p l stage.Idle is = h
  look_keeps p l stage.Entered is = looks z s.words s.stages s.seen s.turn h p l is
  look_keeps p l (stage.Looked w) is = h
  look_keeps p l (stage.Pinned v) is = h

  settle_keeps : (p : ℕ) → p < s.size.passes → (g : Stage) → stage_at s.stages p ≡ g → IsSound (settled s p g).0
  settle_keeps p l stage.Idle is = h
  settle_keeps p l stage.Entered is = h
  settle_keeps p l (stage.Looked w) is = settles z s.words s.stages s.seen s.turn h p w l is
  settle_keeps p l (stage.Pinned v) is = h

  show_keeps : (at : ℕ) (half : Half) (g : Stage) → IsSound (shown s at half g).0
  show_keeps at half stage.Idle = h
  show_keeps at half stage.Entered = h
  show_keeps at half (stage.Looked w) = h
  show_keeps at half (stage.Pinned v) = h

  leave_keeps : (p : ℕ) → p < s.size.passes → (g : Stage) → stage_at s.stages p ≡ g → IsSound (left s p g).0
  leave_keeps p l stage.Idle is = h
  leave_keeps p l stage.Entered is = h
  leave_keeps p l (stage.Looked w) is = h
  leave_keeps p l (stage.Pinned v) is = leaves z s.words s.stages s.seen s.turn h p v l is

  learn_keeps : (p version : ℕ) → p < s.size.passes → (g : Stage) → stage_at s.stages p ≡ g → IsSound (learned s p version g).0
  learn_keeps p version l stage.Idle is = under (nat_le version s.turn.version) _ (λ e. learns z s.words s.stages s.seen s.turn h p version l is (let t : nat_le version s.turn.version ≡ true = e in grind (arith, nat_tests)))
  learn_keeps p version l stage.Entered is = h
  learn_keeps p version l (stage.Looked w) is = h
  learn_keeps p version l (stage.Pinned v) is = h

  scan_keeps : (p : ℕ) → p < s.size.passes → IsSound (scanned s p).0
  scan_keeps p l = checks z s.words s.stages s.seen (record s.turn { marks = set s.turn.marks p (mark_of (get_or s.words (pin_at p) 0)) }) (scans z s.words s.stages s.seen s.turn h p l)

  assign_keeps : (p : ℕ) → p < s.size.passes → (m : Mark) → IsSound (assigned s p m).0
  assign_keeps p l mark.Blank = h
  assign_keeps p l mark.Idle = h
  assign_keeps p l mark.Entering = let x : ℕ = exchanged (get_or s.words (pin_at p) 0) (get_or s.words 0 0) in
      checks z (set s.words (pin_at p) x) s.stages s.seen (record s.turn { marks = set s.turn.marks p (mark_of x) }) (assigns z s.words s.stages s.seen s.turn h p l)
  assign_keeps p l (mark.Pinned v) = h

  give_keeps : (chunk : ℕ) → IsSound (given s chunk).0
  give_keeps chunk = under (nat_lt chunk s.size.chunks && (get_or s.words (status_at chunk) 0 == 0)) _
      (λ e. gives z s.words s.stages s.seen s.turn h chunk (let l = and_left (nat_lt chunk s.size.chunks) (get_or s.words (status_at chunk) 0 == 0) e in grind (arith, nat_tests)))

  free_keeps : (chunk : ℕ) → IsSound (freed s chunk).0
  free_keeps chunk = let a = is_given s.size s.words chunk in let b = not (is_kept_chunk s.turn.kept chunk) in under (a && b) _
      (λ e. frees z s.words s.stages s.seen s.turn h chunk (given_test s.size s.words chunk (and_left a b e)).0 (not_true (is_kept_chunk s.turn.kept chunk) (and_right a b e)))

  write_keeps : (at : ℕ) (half : Half) (value : ℕ) → IsSound (written s at half value).0
  write_keeps at half value = let a = is_given s.size s.words (chunk_of at) in let b = not (is_kept_cell s.turn.kept at) in under (a && b) _
      (λ e. writes z s.words s.stages s.seen s.turn h at half value (given_test s.size s.words (chunk_of at) (and_left a b e)).0 (not_true (is_kept_cell s.turn.kept at) (and_right a b e)))

  pub publish_sound : (root : Option ℕ) (cells : List ℕ) → can_publish s root cells ≡ true → IsSound (with_next s (next_kept s root cells))
  publish_sound root cells e =
      let a = nat_lt s.turn.version 1099511627775 in
      let b = is_distinct cells in
      let c = list_all (λ r. is_given s.size s.words (chunk_of r)) cells in
      let d = is_rooted root cells in
      let room : a ≡ true = and_left a (b && (c && d)) e in
      let bcd : (b && (c && d)) ≡ true = and_right a (b && (c && d)) e in
      let cd : (c && d) ≡ true = and_right b (c && d) bcd in
      publishes z s.words s.stages s.seen s.turn h (next_kept s root cells) refl (grind (arith, nat_tests))
      (has_root root (image_of s.words cells) (subst (λ (rs : List ℕ). is_rooted root rs ≡ true) (sym (references_of_image s.words cells)) (and_right c d cd)))
      (distinct_cells (image_of s.words cells) (subst (λ (rs : List ℕ). is_distinct rs ≡ true) (sym (references_of_image s.words cells)) (and_left b (c && d) bcd)))
      (image_agrees s.words cells)
      (image_given s.size s.words cells (and_left c d cd))

  pub step_sound : (e : Event) → IsSound (next s e).0
  step_sound (event.Enter p) = of_pass p _ (λ l. enter_keeps p l (stage_at s.stages p) refl)
  step_sound (event.Look p) = of_pass p _ (λ l. look_keeps p l (stage_at s.stages p) refl)
  step_sound (event.Settle p) = of_pass p _ (λ l. settle_keeps p l (stage_at s.stages p) refl)
  step_sound (event.Read p at half) = of_pass p _ (λ l. show_keeps at half (stage_at s.stages p))
  step_sound (event.Leave p) = of_pass p _ (λ l. leave_keeps p l (stage_at s.stages p) refl)
  step_sound (event.Learn p version) = of_pass p _ (λ l. learn_keeps p version l (stage_at s.stages p) refl)
  step_sound (event.Scan p) = of_pass p _ (λ l. scan_keeps p l)
  step_sound (event.Assign p) = of_pass p _ (λ l. assign_keeps p l (mark_at s.turn.marks p))
  step_sound (event.Give chunk) = give_keeps chunk
  step_sound (event.Free chunk) = free_keeps chunk
  step_sound (event.Write at half value) = write_keeps at half value
  step_sound (event.Publish root cells) = under (can_publish s root cells) _ (λ e. publish_sound root cells e)
