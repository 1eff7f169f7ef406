-- What a method of a state makes of the writer's part: marks, rounds and published versions.
use Rattle.std.proofs.Common.{◌≡◌, ℕ, ◌+◌, ◌<◌, List, [], ◌∷◌, ◌++◌, length, take, drop, get_or, set, replicate, true, sym, ap, ◌∙◌, subst, arith}
use Rattle.std.proofs.Math.Seq.{take-append_seam}
use Rattle.std.specs.Prelude.{Option}
use Rattle.std.proofs.lemmas.List.Elements.{Contains-push}
use Rattle.pin_core.specs.declared.kept.CellAt.{CellAt}
use Rattle.pin_core.specs.declared.kept.Kept.{Kept}
use Rattle.pin_core.specs.declared.kept.Mark.{Mark}
use Rattle.pin_core.specs.declared.kept.Mark.TheVariants as mark
use Rattle.pin_core.specs.Words.{pin_at, root_number, current_word}
use Rattle.pin_core.specs.Sound.{Turn, Sound, turn_of, mark_at}
use Rattle.pin_core.specs.Machine.{Core, IsSound, exchanged, mark_of, round_checked, assigned, image_of, can_publish, next_kept, with_next}
use Rattle.pin_core.proofs.Pins.{scans, assigns, kept_root_fits}
use Rattle.pin_core.proofs.Rounds.{checks}
use Rattle.pin_core.proofs.Steps.{publish_sound}

-- a list that was lent whole, and comes back as long as it was
pub written_back : {A : Type 0} (new old : List A) (n : ℕ) → n ≡ length new → take n (new ++ drop (length new) old) ≡ new
written_back new old n long = ap (λ (k : ℕ). take k (new ++ drop (length new) old)) long ∙ take-append_seam new (drop (length new) old)

module _ (s : Core) (h : IsSound s) where
  -- the turn after a pass is marked by this pin
  abbrev marked_turn : List Mark → ℕ → ℕ → Turn
  marked_turn marks p pin = round_checked (length marks) (turn_of s.turn.version s.turn.kept (set marks p (mark_of pin)))

  same_marked : (marks : List Mark) (p pin pin' : ℕ) → marks ≡ s.turn.marks → pin ≡ pin' → marked_turn marks p pin ≡ round_checked s.size.passes (record s.turn { marks = set s.turn.marks p (mark_of pin') })
  same_marked marks p pin pin' same e = ap (λ (ms : List Mark). marked_turn ms p pin) same ∙ ap (marked_turn s.turn.marks p) e ∙ ap (λ (n : ℕ). round_checked n (record s.turn { marks = set s.turn.marks p (mark_of pin') })) h.marked

  pub scan_sound : (p : ℕ) → p < s.size.passes → (marks : List Mark) → marks ≡ s.turn.marks → (pin : ℕ) → pin ≡ get_or s.words (pin_at p) 0 → (t : Turn) → t ≡ marked_turn marks p pin → Sound s.size s.words s.stages s.seen t
  scan_sound p l marks same pin e t is = subst (Sound s.size s.words s.stages s.seen) (sym (is ∙ same_marked marks p pin (get_or s.words (pin_at p) 0) same e))
      (checks s.size s.words s.stages s.seen (record s.turn { marks = set s.turn.marks p (mark_of (get_or s.words (pin_at p) 0)) }) (scans s.size s.words s.stages s.seen s.turn h p l))

  -- the pin as an assign leaves it
  abbrev helping_pin : ℕ → ℕ
  helping_pin p = exchanged (get_or s.words (pin_at p) 0) (get_or s.words 0 0)

  pub assign_sound : (p : ℕ) → p < s.size.passes → (marks : List Mark) → marks ≡ s.turn.marks → (pin : ℕ) → pin ≡ helping_pin p → (t : Turn) → t ≡ marked_turn marks p pin → Sound s.size (set s.words (pin_at p) pin) s.stages s.seen t
  assign_sound p l marks same pin e t is = subst (Sound s.size (set s.words (pin_at p) pin) s.stages s.seen) (sym (is ∙ same_marked marks p pin (helping_pin p) same e))
      (subst (λ (x : ℕ). Sound s.size (set s.words (pin_at p) x) s.stages s.seen (round_checked s.size.passes (record s.turn { marks = set s.turn.marks p (mark_of (helping_pin p)) }))) (sym e)
      (checks s.size (set s.words (pin_at p) (helping_pin p)) s.stages s.seen (record s.turn { marks = set s.turn.marks p (mark_of (helping_pin p)) }) (assigns s.size s.words s.stages s.seen s.turn h p l)))

  pub assigned_is : (v : Core) → s ≡ v → (p : ℕ) → mark_at s.turn.marks p ≡ mark.Entering → (marks : List Mark) → marks ≡ s.turn.marks → (pin : ℕ) → pin ≡ helping_pin p → (t : Turn) → t ≡ marked_turn marks p pin
      → record s { words = set s.words (pin_at p) pin; turn = t } ≡ (assigned v p (mark_at v.turn.marks p)).0
  assigned_is v same p is marks lent pin e t by =
      subst (λ (c : Core). record s { words = set s.words (pin_at p) pin; turn = t } ≡ (assigned c p (mark_at c.turn.marks p)).0) same
      (subst (λ (m : Mark). record s { words = set s.words (pin_at p) pin; turn = t } ≡ (assigned s p m).0) (sym is)
      (ap (λ (t : Turn). record s { words = set s.words (pin_at p) pin; turn = t }) (by ∙ same_marked marks p pin (helping_pin p) lent e)
      ∙ ap (λ (x : ℕ). record s { words = set s.words (pin_at p) x; turn = round_checked s.size.passes (record s.turn { marks = set s.turn.marks p (mark_of (helping_pin p)) }) }) e))

  pub publish_root_fits : (root : Option ℕ) (cells : List ℕ) → can_publish s root cells ≡ true → root_number root < 16777216
  publish_root_fits root cells e =
      let n = with_next s (next_kept s root cells) in
      let f = kept_root_fits n.size n.words n.stages n.seen n.turn (publish_sound s h root cells e) (next_kept s root cells) (Contains-push s.turn.kept (next_kept s root cells)) in
      omega arith

  pub published_sound : (root : Option ℕ) (cells : List ℕ) → can_publish s root cells ≡ true → (word : ℕ) → word ≡ current_word (s.turn.version + 1) root
      → (image : List CellAt) → image ≡ image_of s.words cells → (kept : List Kept) → kept ≡ s.turn.kept ++ record { version = s.turn.version + 1; root = root; image = image } ∷ []
      → (marks : List Mark) → marks ≡ replicate (length s.turn.marks) mark.Blank → Sound s.size (set s.words 0 word) s.stages s.seen (turn_of (s.turn.version + 1) kept marks)
  published_sound root cells e word ew image ei kept ek marks em =
      subst (λ (w : ℕ). Sound s.size (set s.words 0 w) s.stages s.seen (turn_of (s.turn.version + 1) kept marks)) (sym ew)
      (subst (λ (ks : List Kept). Sound s.size (set s.words 0 (current_word (s.turn.version + 1) root)) s.stages s.seen (turn_of (s.turn.version + 1) ks marks))
      (sym (ek ∙ ap (λ (i : List CellAt). s.turn.kept ++ record { version = s.turn.version + 1; root = root; image = i } ∷ []) ei))
      (subst (λ (ms : List Mark). Sound s.size (set s.words 0 (current_word (s.turn.version + 1) root)) s.stages s.seen (turn_of (s.turn.version + 1) (s.turn.kept ++ next_kept s root cells ∷ []) ms))
      (sym (em ∙ ap (λ (n : ℕ). replicate n mark.Blank) h.marked))
      (publish_sound s h root cells e)))
