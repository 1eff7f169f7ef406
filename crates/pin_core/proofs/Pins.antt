-- What a pass does, and how the writer marks and helps it, keeps what holds between two events.
use Rattle.std.proofs.Common.{◌≡◌, inl, inr, ⊎_elim, ℕ, ◌+◌, ◌-◌, ◌*◌, ◌/◌, ◌<◌, ◌≤◌, eqb, max, List, length, get_or, set, Bool, true, false, cond, refl, sym, ap, ◌∙◌, subst, arith, length-set, get_or-set_same, get_or-set_other}
use Rattle.std.specs.List.{All, Contains}
use Rattle.std.proofs.lemmas.List.{set-get_or}
use Rattle.std.proofs.lemmas.List.Elements.{All-contains, All-weaker}
use Rattle.std.proofs.lemmas.Nat.{div-mul-add}
use Rattle.std.proofs.lemmas.Bool.Decides.{eqb_tells}
use mathlib.Core.Logic.{dite}
use native.Mathlib.Decide.{ℕ_discrete}
use Rattle.pin_core.specs.declared.kept.CellAt.{CellAt}
use Rattle.pin_core.specs.declared.kept.Kept.{Kept}
use Rattle.pin_core.specs.declared.kept.Stage.{Stage}
use Rattle.pin_core.specs.declared.kept.Stage.TheVariants as stage
use Rattle.pin_core.specs.declared.kept.Mark.{Mark}
use Rattle.pin_core.specs.declared.kept.Mark.TheVariants as mark
use Rattle.std.specs.Prelude.{Option, Some, None}
use Rattle.pin_core.specs.Words.{Size, pin_at, status_at, cell_at, chunk_of, root_number, word_of, pin_of, version_of}
use Rattle.pin_core.specs.Sound.{Turn, Sound, stage_at, mark_at, HasRoot, AgreesWith, IsGiven, Names, PinFits, IsFresh, MarkFits}
use Rattle.pin_core.specs.Machine.{exchanged, mark_of}

-- the images are as they were, if the words past the pins are
pub images_stay : (words words' : List ℕ) (kept : List Kept) → ((i : ℕ) → 64 < i → get_or words' i 0 ≡ get_or words i 0)
    → All (λ k. All (AgreesWith words) k.image) kept → All (λ k. All (AgreesWith words') k.image) kept
images_stay words words' kept same = All-weaker _ _ (λ k. All-weaker (AgreesWith words) (AgreesWith words') (λ c a. (same (cell_at c.at) (omega arith) ∙ a.0, same (cell_at c.at + 1) (omega arith) ∙ a.1)) k.image) kept

pub chunks_stay : (z : Size) (words words' : List ℕ) (kept : List Kept) → ((i : ℕ) → 64 < i → get_or words' i 0 ≡ get_or words i 0)
    → All (λ k. All (IsGiven z words) k.image) kept → All (λ k. All (IsGiven z words') k.image) kept
chunks_stay z words words' kept same = All-weaker _ _ (λ k. All-weaker (IsGiven z words) (IsGiven z words') (λ c a. (a.0, same (status_at (chunk_of c.at)) (omega arith) ∙ a.1)) k.image) kept

-- roots are below 2^24, and versions are told from pins
pub root_fits : (z : Size) (words : List ℕ) (root : Option ℕ) (image : List CellAt) → z.chunks ≤ 4096 → HasRoot root image → All (IsGiven z words) image → root_number root < 16777214
root_fits z words None image small has given = omega arith
root_fits z words (Some r) image small has given = let c = has in let g : IsGiven z words c.0 = All-contains (IsGiven z words) image c.0 given c.1 in let e : c.0.at ≡ r = c.2 in let l : c.0.at < 1024 * z.chunks = g.0 in omega arith

pub version_of_pin : (k : Kept) (pin : ℕ) → root_number k.root < 16777216 → pin ≡ pin_of k → version_of pin ≡ k.version
version_of_pin k pin small e = ap version_of e ∙ (ap (λ (x : ℕ). x / 16777216) (let same : word_of k + 2 - 2 ≡ k.version * 16777216 + root_number k.root = omega arith in same) ∙ div-mul-add k.version 16777216 (root_number k.root) small)

pub same_version : (k j : Kept) → root_number k.root < 16777216 → root_number j.root < 16777216 → word_of k ≡ word_of j → k.version ≡ j.version
same_version k j a b e = sym (version_of_pin k (pin_of k) a refl) ∙ version_of_pin j (pin_of k) b (ap (λ (x : ℕ). x + 2) e)

-- four values change together
at_values : (Q : ℕ → ℕ → Stage → Mark → Type 0) (n n' x x' : ℕ) (s s' : Stage) (m m' : Mark) → n' ≡ n → x' ≡ x → s' ≡ s → m' ≡ m → Q n x s m → Q n' x' s' m'
at_values Q n n' x x' s s' m m' en ex es em h =
    subst (λ (y : ℕ). Q y x' s' m') (sym en) (subst (λ (y : ℕ). Q n y s' m') (sym ex) (subst (λ (y : Stage). Q n x y m') (sym es) (subst (λ (y : Mark). Q n x s y) (sym em) h)))

module _ (z : Size) (words : List ℕ) (stages : List Stage) (seens : List ℕ) (t : Turn) (h : Sound z words stages seens t) where
  abbrev cur : ℕ
  cur = get_or words 0 0

  abbrev pin : ℕ → ℕ
  pin p = get_or words (pin_at p) 0

  abbrev seen : ℕ → ℕ
  seen p = get_or seens p 0

  pub kept_root_fits : (k : Kept) → Contains t.kept k → root_number k.root < 16777214
  kept_root_fits k has = root_fits z words k.root k.image (let m = h.small in m.1) (All-contains (λ k. HasRoot k.root k.image) t.kept k h.rooted has) (All-contains (λ k. All (IsGiven z words) k.image) t.kept k h.given has)

  kept_not_newer : (k : Kept) → Contains t.kept k → k.version ≤ t.version
  kept_not_newer k has = All-contains (λ k. k.version ≤ t.version) t.kept k h.newest has

  -- CUR's word names the current version
  cur_named : (p : ℕ) → p < z.passes → Names t.kept (seen p) (cur + 2)
  cur_named p l = let c = h.current in let old = h.not_ahead p l in (c.0, c.1, ap (λ (x : ℕ). x + 2) c.3, (let v : c.0.version ≡ t.version = c.2 in omega arith))

  -- what is said of each pass, after one pass's pin, stage, seen version and mark change
  set_each : (Q : ℕ → ℕ → Stage → Mark → Type 0) (p x n : ℕ) (s : Stage) (m : Mark) → p < z.passes → Q n x s m → ((q : ℕ) → q < z.passes → Q (seen q) (pin q) (stage_at stages q) (mark_at t.marks q))
      → (q : ℕ) → q < z.passes → Q (get_or (set seens p n) q 0) (get_or (set words (pin_at p) x) (pin_at q) 0) (stage_at (set stages p s) q) (mark_at (set t.marks p m) q)
  set_each Q p x n s m small here others q l = dite (ℕ_discrete q p)
      (λ e. subst (λ (y : ℕ). Q (get_or (set seens p n) y 0) (get_or (set words (pin_at p) x) (pin_at y) 0) (stage_at (set stages p s) y) (mark_at (set t.marks p m) y)) (sym e)
      (at_values Q n _ x _ s _ m _ (get_or-set_same seens p n 0 lseen) (get_or-set_same words (pin_at p) x 0 lword) (get_or-set_same stages p s stage.Idle lstage) (get_or-set_same t.marks p m mark.Blank lmark) here))
      (λ ne. at_values Q (seen q) _ (pin q) _ (stage_at stages q) _ (mark_at t.marks q) _
      (get_or-set_other seens p q n 0 ne) (get_or-set_other words (pin_at p) (pin_at q) x 0 (λ e. ne (omega arith))) (get_or-set_other stages p q s stage.Idle ne) (get_or-set_other t.marks p q m mark.Blank ne) (others q l))
    where
      lword : pin_at p < length words
      lword = let e = h.wide in let m' = h.small in omega arith

      lseen : p < length seens
      lseen = let e = h.watched in omega arith

      lstage : p < length stages
      lstage = let e = h.staged in omega arith

      lmark : p < length t.marks
      lmark = let e = h.marked in omega arith

  -- a pass's pin, stage, seen version and mark change
  changes : (p x n : ℕ) (s : Stage) (m : Mark) → p < z.passes → n ≤ t.version → PinFits t.kept n x s → MarkFits t.kept cur x s m
      → Sound z (set words (pin_at p) x) (set stages p s) (set seens p n) (record t { marks = set t.marks p m })
  changes p x n s m small old pin_ok mark_ok = record {
    small = h.small;
    wide = length-set words (pin_at p) x ∙ h.wide;
    staged = length-set stages p s ∙ h.staged;
    watched = length-set seens p n ∙ h.watched;
    marked = length-set t.marks p m ∙ h.marked;
    few = h.few;
    current = let c = h.current in (c.0, c.1, c.2, same_cur ∙ c.3);
    newest = h.newest;
    rising = h.rising;
    rooted = h.rooted;
    once = h.once;
    unchanged = images_stay words (set words (pin_at p) x) t.kept beyond h.unchanged;
    given = chunks_stay z words (set words (pin_at p) x) t.kept beyond h.given;
    not_ahead = set_each (λ n' x' s' m'. n' ≤ t.version) p x n s m small old h.not_ahead;
    pins = set_each (λ n' x' s' m'. PinFits t.kept n' x' s') p x n s m small pin_ok h.pins;
    marks = subst (λ (y : ℕ). (q : ℕ) → q < z.passes → MarkFits t.kept y (get_or (set words (pin_at p) x) (pin_at q) 0) (stage_at (set stages p s) q) (mark_at (set t.marks p m) q)) (sym same_cur)
        (set_each (λ n' x' s' m'. MarkFits t.kept cur x' s' m') p x n s m small mark_ok h.marks);
  }
    where
      same_cur : get_or (set words (pin_at p) x) 0 0 ≡ get_or words 0 0
      same_cur = get_or-set_other words (pin_at p) 0 x 0 (λ e. omega arith)

      beyond : (i : ℕ) → 64 < i → get_or (set words (pin_at p) x) i 0 ≡ get_or words i 0
      beyond i l = get_or-set_other words (pin_at p) i x 0 (λ e. let m' = h.small in omega arith)

  same_mark : (p : ℕ) → set t.marks p (mark_at t.marks p) ≡ t.marks
  same_mark p = set-get_or t.marks p mark.Blank

  same_seen : (p : ℕ) → set seens p (seen p) ≡ seens
  same_seen p = set-get_or seens p 0

  same_stage : (p : ℕ) → set stages p (stage_at stages p) ≡ stages
  same_stage p = set-get_or stages p stage.Idle

  same_pin : (p : ℕ) → set words (pin_at p) (pin p) ≡ words
  same_pin p = set-get_or words (pin_at p) 0

  -- the mark stays
  moves : (p x n : ℕ) (s : Stage) → p < z.passes → n ≤ t.version → PinFits t.kept n x s → MarkFits t.kept cur x s (mark_at t.marks p) → Sound z (set words (pin_at p) x) (set stages p s) (set seens p n) t
  moves p x n s l old po mo = subst (λ (ms : List Mark). Sound z (set words (pin_at p) x) (set stages p s) (set seens p n) (record t { marks = ms })) (same_mark p) (changes p x n s (mark_at t.marks p) l old po mo)

  moves_unseen : (p x : ℕ) (s : Stage) → p < z.passes → PinFits t.kept (seen p) x s → MarkFits t.kept cur x s (mark_at t.marks p) → Sound z (set words (pin_at p) x) (set stages p s) seens t
  moves_unseen p x s l po mo = subst (λ (ns : List ℕ). Sound z (set words (pin_at p) x) (set stages p s) ns t) (same_seen p) (moves p x (seen p) s l (h.not_ahead p l) po mo)

  at_stage : (p : ℕ) (s : Stage) → p < z.passes → stage_at stages p ≡ s → PinFits t.kept (seen p) (pin p) s
  at_stage p s l e = subst (PinFits t.kept (seen p) (pin p)) e (h.pins p l)

  at_mark : (p : ℕ) (s : Stage) → p < z.passes → stage_at stages p ≡ s → MarkFits t.kept cur (pin p) s (mark_at t.marks p)
  at_mark p s l e = subst (λ (y : Stage). MarkFits t.kept cur (pin p) y (mark_at t.marks p)) e (h.marks p l)

  -- a mark of a pass that has become fresh, whatever it was
  mark_rests : (x y : ℕ) (s s' : Stage) (m : Mark) → IsFresh cur y s' → MarkFits t.kept cur x s m → MarkFits t.kept cur y s' m
  mark_rests x y s s' mark.Blank f mo = tt
  mark_rests x y s s' mark.Entering f mo = tt
  mark_rests x y s s' mark.Idle f mo = f
  mark_rests x y s s' (mark.Pinned v) f mo = (mo.0, mo.1, mo.2, inr f)

  -- a mark of a pass whose pin stays, and which is fresh still if it was
  mark_stays : (x : ℕ) (s s' : Stage) (m : Mark) → (IsFresh cur x s → IsFresh cur x s') → MarkFits t.kept cur x s m → MarkFits t.kept cur x s' m
  mark_stays x s s' mark.Blank f mo = tt
  mark_stays x s s' mark.Entering f mo = tt
  mark_stays x s s' mark.Idle f mo = f mo
  mark_stays x s s' (mark.Pinned v) f mo = (mo.0, mo.1, mo.2, ⊎_elim inl (λ y. inr (f y)) mo.3)

  -- a mark of a pass whose pin was 1
  mark_pins : (x y : ℕ) (s s' : Stage) (m : Mark) → x ≡ 1 → (IsFresh cur x s → IsFresh cur y s') → MarkFits t.kept cur x s m → MarkFits t.kept cur y s' m
  mark_pins x y s s' mark.Blank one f mo = tt
  mark_pins x y s s' mark.Entering one f mo = tt
  mark_pins x y s s' mark.Idle one f mo = f mo
  mark_pins x y s s' (mark.Pinned v) one f mo = (mo.0, mo.1, mo.2, ⊎_elim (λ (a : x ≡ pin_of mo.0). absurd (omega arith)) (λ y. inr (f y)) mo.3)

  pub enters : (p : ℕ) → p < z.passes → stage_at stages p ≡ stage.Idle → Sound z (set words (pin_at p) 1) (set stages p stage.Entered) seens t
  enters p l is = moves_unseen p 1 stage.Entered l (inl refl) (mark_rests (pin p) 1 stage.Idle stage.Entered (mark_at t.marks p) (inr (inl (refl, tt))) (at_mark p stage.Idle l is))

  pub leaves : (p v : ℕ) → p < z.passes → stage_at stages p ≡ stage.Pinned v → Sound z (set words (pin_at p) 0) (set stages p stage.Idle) seens t
  leaves p v l is = moves_unseen p 0 stage.Idle l refl (mark_rests (pin p) 0 (stage.Pinned v) stage.Idle (mark_at t.marks p) (inl refl) (at_mark p (stage.Pinned v) l is))

  -- the pin stays
  restages : (p n : ℕ) (s : Stage) → p < z.passes → n ≤ t.version → PinFits t.kept n (pin p) s → MarkFits t.kept cur (pin p) s (mark_at t.marks p) → Sound z words (set stages p s) (set seens p n) t
  restages p n s l old po mo = subst (λ (ws : List ℕ). Sound z ws (set stages p s) (set seens p n) t) (same_pin p) (moves p (pin p) n s l old po mo)

  pub looks : (p : ℕ) → p < z.passes → stage_at stages p ≡ stage.Entered → Sound z words (set stages p (stage.Looked (get_or words 0 0))) seens t
  looks p l is = subst (λ (ns : List ℕ). Sound z words (set stages p (stage.Looked cur)) ns t) (same_seen p) (restages p (seen p) (stage.Looked cur) l (h.not_ahead p l)
      (⊎_elim (λ (a : pin p ≡ 1). inl (a, cur_named p l)) inr (at_stage p stage.Entered l is))
      (mark_stays (pin p) stage.Entered (stage.Looked cur) (mark_at t.marks p) (⊎_elim inl (λ y. inr (⊎_elim (λ (b : (pin p ≡ 1) × Unit {0}). inl (b.0, refl)) inr y))) (at_mark p stage.Entered l is)))

  pub learns : (p version : ℕ) → p < z.passes → stage_at stages p ≡ stage.Idle → version ≤ t.version → Sound z words stages (set seens p (max (get_or seens p 0) version)) t
  learns p version l is old = subst (λ (ss : List Stage). Sound z words ss (set seens p (max (seen p) version)) t) (same_stage p)
      (restages p (max (seen p) version) (stage_at stages p) l (let o = h.not_ahead p l in omega arith) (subst (PinFits t.kept (max (seen p) version) (pin p)) (sym is) (at_stage p stage.Idle l is)) (h.marks p l))

  -- a pin that a pass settles on names a kept version, not older than what it had seen
  settles_on : (p word : ℕ) → p < z.passes → stage_at stages p ≡ stage.Looked word → (b : Bool) → eqb (pin p) 1 ≡ b → Names t.kept (seen p) (cond b (word + 2) (pin p))
  settles_on p word l is true one = ⊎_elim (λ (a : (pin p ≡ 1) × Names t.kept (seen p) (word + 2)). a.1) (λ (n : Names t.kept (seen p) (pin p)). absurd (let e : pin p ≡ pin_of n.0 = n.2 in grind (arith, eqb_tells (pin p) 1))) (at_stage p (stage.Looked word) l is)
  settles_on p word l is false other = ⊎_elim (λ (a : (pin p ≡ 1) × Names t.kept (seen p) (word + 2)). absurd (let e : pin p ≡ 1 = a.0 in grind (arith, eqb_tells (pin p) 1))) (λ n. n) (at_stage p (stage.Looked word) l is)

  named_fits : (n x : ℕ) → Names t.kept n x → (2 ≤ x) × (x < 18446744073709551616)
  named_fits n x k = let o = kept_not_newer k.0 k.1 in let f = kept_root_fits k.0 k.1 in let r = h.few in let e : x ≡ pin_of k.0 = k.2 in (omega arith, omega arith)

  -- a pass is pinned by a pin that names a kept version
  pins_at : (p x : ℕ) → p < z.passes → Names t.kept (seen p) x → MarkFits t.kept cur x (stage.Pinned (version_of x)) (mark_at t.marks p)
      → Sound z (set words (pin_at p) x) (set stages p (stage.Pinned (version_of x))) (set seens p (version_of x)) t
  pins_at p x l k mo =
      let f = kept_root_fits k.0 k.1 in
      let v = version_of_pin k.0 x (omega arith) k.2 in
      moves p x (version_of x) (stage.Pinned (version_of x)) l (subst (λ (n : ℕ). n ≤ t.version) (sym v) (kept_not_newer k.0 k.1)) (k.0, k.1, k.2, sym v, refl) mo

  -- a fresh pass that has looked is fresh once it has settled
  fresh_settles : (pin word v : ℕ) (b : Bool) → eqb pin 1 ≡ b → IsFresh cur pin (stage.Looked word) → IsFresh cur (cond b (word + 2) pin) (stage.Pinned v)
  fresh_settles pin word v true one f = ⊎_elim
      (λ (a : pin ≡ 0). absurd (grind (arith, eqb_tells pin 1)))
      (⊎_elim (λ (a : (pin ≡ 1) × (word ≡ cur)). inr (inr (ap (λ (x : ℕ). x + 2) a.1))) (λ (a : pin ≡ cur + 2). absurd (grind (arith, eqb_tells pin 1)))) f
  fresh_settles pin word v false other f = ⊎_elim inl
      (⊎_elim (λ (a : (pin ≡ 1) × (word ≡ cur)). let e : pin ≡ 1 = a.0 in absurd (grind (arith, eqb_tells pin 1))) (λ (a : pin ≡ cur + 2). inr (inr a))) f

  mark_settles : (p word : ℕ) → p < z.passes → stage_at stages p ≡ stage.Looked word → (b : Bool) → eqb (pin p) 1 ≡ b → (v : ℕ) → MarkFits t.kept cur (cond b (word + 2) (pin p)) (stage.Pinned v) (mark_at t.marks p)
  mark_settles p word l is true one v = mark_pins (pin p) (word + 2) (stage.Looked word) (stage.Pinned v) (mark_at t.marks p) (grind (arith, eqb_tells (pin p) 1)) (fresh_settles (pin p) word v true one) (at_mark p (stage.Looked word) l is)
  mark_settles p word l is false other v = mark_stays (pin p) (stage.Looked word) (stage.Pinned v) (mark_at t.marks p) (fresh_settles (pin p) word v false other) (at_mark p (stage.Looked word) l is)

  pub settles : (p word : ℕ) → p < z.passes → stage_at stages p ≡ stage.Looked word → let x : ℕ = exchanged (get_or words (pin_at p) 0) word in
      Sound z (set words (pin_at p) x) (set stages p (stage.Pinned (version_of x))) (set seens p (version_of x)) t
  settles p word l is = pins_at p (exchanged (pin p) word) l (settles_on p word l is (eqb (pin p) 1) refl) (mark_settles p word l is (eqb (pin p) 1) refl (version_of (exchanged (pin p) word)))

  -- the pin that a settle leaves names a kept version, not older than what its pass had seen
  pub settled_names : (p word : ℕ) → p < z.passes → stage_at stages p ≡ stage.Looked word → Names t.kept (get_or seens p 0) (exchanged (get_or words (pin_at p) 0) word)
  settled_names p word l is = settles_on p word l is (eqb (pin p) 1) refl

  -- the pin that a settle leaves is a pin, and fits its word
  pub settled_fits : (p word : ℕ) → p < z.passes → stage_at stages p ≡ stage.Looked word → let x : ℕ = exchanged (get_or words (pin_at p) 0) word in (2 ≤ x) × (x < 18446744073709551616)
  settled_fits p word l is = named_fits (seen p) (exchanged (pin p) word) (settles_on p word l is (eqb (pin p) 1) refl)

  -- a pass doesn't settle on a version older than what it has seen
  pub settles_forward : (p word : ℕ) → p < z.passes → stage_at stages p ≡ stage.Looked word → get_or seens p 0 ≤ version_of (exchanged (get_or words (pin_at p) 0) word)
  settles_forward p word l is =
      let k = settles_on p word l is (eqb (pin p) 1) refl in
      let f = kept_root_fits k.0 k.1 in
      subst (λ (n : ℕ). seen p ≤ n) (sym (version_of_pin k.0 (exchanged (pin p) word) (omega arith) k.2)) k.3

  -- a pin can be made of CUR's word
  pub current_fits : get_or words 0 0 + 2 < 18446744073709551616
  current_fits = let c = h.current in let v : c.0.version ≡ t.version = c.2 in let f = kept_root_fits c.0 c.1 in let e : cur ≡ word_of c.0 = c.3 in let r = h.few in omega arith

  -- a pin of 2 or more names a kept version
  pub named : (p : ℕ) → p < z.passes → 2 ≤ get_or words (pin_at p) 0 → Names t.kept (get_or seens p 0) (get_or words (pin_at p) 0)
  named p l high = go (stage_at stages p) (h.pins p l)
    where
      go : (s : Stage) → PinFits t.kept (seen p) (pin p) s → Names t.kept (seen p) (pin p)
      go stage.Idle po = absurd (let e : pin p ≡ 0 = po in omega arith)
      go stage.Entered po = ⊎_elim (λ (a : pin p ≡ 1). absurd (omega arith)) (λ n. n) po
      go (stage.Looked w) po = ⊎_elim (λ (a : (pin p ≡ 1) × Names t.kept (seen p) (w + 2)). let one : pin p ≡ 1 = a.0 in absurd (omega arith)) (λ n. n) po
      go (stage.Pinned v) po = (po.0, po.1, po.2, (let e : po.0.version ≡ v = po.3 in let f : v ≡ seen p = po.4 in omega arith))

  -- the mark that is made of a pin is true of its pass
  mark_fits : (n x : ℕ) (s : Stage) → (2 ≤ x → Names t.kept n x) → (a b : Bool) → eqb x 0 ≡ a → eqb x 1 ≡ b → MarkFits t.kept cur x s (cond a mark.Idle (cond b mark.Entering (mark.Pinned (version_of x))))
  mark_fits n x s k true b ea eb = inl (grind (arith, eqb_tells x 0))
  mark_fits n x s k false true ea eb = tt
  mark_fits n x s k false false ea eb =
      let named_by = k (grind (arith, eqb_tells x 0, eqb_tells x 1)) in
      let f = kept_root_fits named_by.0 named_by.1 in
      (named_by.0, named_by.1, sym (version_of_pin named_by.0 x (omega arith) named_by.2), inl named_by.2)

  marks_pass : (p x : ℕ) → p < z.passes → PinFits t.kept (seen p) x (stage_at stages p) → (2 ≤ x → Names t.kept (seen p) x) → Sound z (set words (pin_at p) x) stages seens (record t { marks = set t.marks p (mark_of x) })
  marks_pass p x l po k =
      subst (λ (ss : List Stage). Sound z (set words (pin_at p) x) ss seens (record t { marks = set t.marks p (mark_of x) })) (same_stage p)
      (subst (λ (ns : List ℕ). Sound z (set words (pin_at p) x) (set stages p (stage_at stages p)) ns (record t { marks = set t.marks p (mark_of x) })) (same_seen p)
      (changes p x (seen p) (stage_at stages p) (mark_of x) l (h.not_ahead p l) po (mark_fits (seen p) x (stage_at stages p) k (eqb x 0) (eqb x 1) refl refl)))

  pub scans : (p : ℕ) → p < z.passes → Sound z words stages seens (record t { marks = set t.marks p (mark_of (get_or words (pin_at p) 0)) })
  scans p l = subst (λ (ws : List ℕ). Sound z ws stages seens (record t { marks = set t.marks p (mark_of (pin p)) })) (same_pin p) (marks_pass p (pin p) l (h.pins p l) (named p l))

  pub assigns : (p : ℕ) → p < z.passes → let x : ℕ = exchanged (get_or words (pin_at p) 0) (get_or words 0 0) in Sound z (set words (pin_at p) x) stages seens (record t { marks = set t.marks p (mark_of x) })
  assigns p l = go (eqb (pin p) 1) refl
    where
      helps : (s : Stage) → pin p ≡ 1 → PinFits t.kept (seen p) (pin p) s → PinFits t.kept (seen p) (cur + 2) s
      helps stage.Idle one po = absurd (let e : pin p ≡ 0 = po in omega arith)
      helps stage.Entered one po = inr (cur_named p l)
      helps (stage.Looked w) one po = inr (cur_named p l)
      helps (stage.Pinned v) one po = absurd (let e : pin p ≡ pin_of po.0 = po.2 in omega arith)

      go : (b : Bool) → eqb (pin p) 1 ≡ b → let x : ℕ = cond b (cur + 2) (pin p) in Sound z (set words (pin_at p) x) stages seens (record t { marks = set t.marks p (mark_of x) })
      go true one = marks_pass p (cur + 2) l (helps (stage_at stages p) (grind (arith, eqb_tells (pin p) 1)) (h.pins p l)) (λ high. cur_named p l)
      go false other = marks_pass p (pin p) l (h.pins p l) (named p l)
