-- Whole runs: what holds after any events, and that a pinned pass reads its version as it was published.
use Rattle.std.proofs.Common.{◌≡◌, ◌≢◌, ◌⊎◌, inl, inr, ⊎_elim, ℕ, zero, suc, ◌+◌, ◌<◌, ◌≤◌, List, [], ◌∷◌, ◌++◌, length, get_or, set, get_or-set_same, get_or-set_other, replicate, Bool, true, false, cond, refl, sym, ap, ◌∙◌, subst, arith, append_assoc, append-nil, length-append, take, drop, drop-cons}
use Rattle.std.proofs.lemmas.List.{take_more}
use Rattle.std.specs.Prelude.{◌&&◌, ◌||◌, ◌==◌, nat_lt, nat_le, slice_get, Option, Some}
use Rattle.std.specs.List.{All, AllPairs, Contains, list_any, list_all}
use Rattle.std.proofs.lemmas.List.Elements.{All-contains, All-head, All-tail, Contains-get_or, Contains-push_cases}
use Rattle.std.proofs.lemmas.List.Folds.{list_any_at, list_any_none}
use Rattle.std.proofs.lemmas.Bool.Decides.{eqb_tells, nat_tests}
use mathlib.Core.Logic.{dite}
use native.Mathlib.Decide.{ℕ_discrete}
use Rattle.pin_core.specs.declared.kept.CellAt.{CellAt}
use Rattle.pin_core.specs.declared.kept.Kept.{Kept}
use Rattle.pin_core.specs.declared.kept.Stage.{Stage}
use Rattle.pin_core.specs.declared.kept.Stage.TheVariants as stage
use Rattle.pin_core.specs.declared.kept.Mark.{Mark}
use Rattle.pin_core.specs.declared.kept.Mark.TheVariants as mark
use Rattle.pin_core.specs.declared.event.Half.{Half}
use Rattle.pin_core.specs.declared.event.Half.TheVariants.{Big, Small}
use Rattle.pin_core.specs.declared.event.Event.{Event}
use Rattle.pin_core.specs.declared.event.Event.TheVariants as event
use Rattle.pin_core.specs.declared.event.Step.{Step}
use Rattle.pin_core.specs.declared.event.Step.TheVariants.{Done, Refused, Word}
use Rattle.pin_core.specs.Words.{Size, pin_at, cell_at, half_at}
use Rattle.pin_core.specs.Sound.{Turn, stage_at, mark_at, AgreesWith, PinFits}
use Rattle.pin_core.specs.Machine.{Core, IsSound, exchanged, mark_of, has_cell, is_in_version, entered, looked, settled, shown, left, learned, is_settled, names_version, kept_by_round, round_checked, assigned, can_publish, next_kept, with_next, if_pass, refused, next, opened}
use Rattle.pin_core.specs.Runs.{after, answers, new_version, new_versions, Opening, CanOpen, run_of, versions_of, IsAlwaysSound, half_of, read_of, EachReadsItsVersion, RoundsKeepFew, NoPassGoesBack}
use Rattle.pin_core.proofs.Lists.{contains_cases, contains_from_filter, pairs_cases}
use Rattle.pin_core.proofs.Pins.{settles_forward}
use Rattle.pin_core.proofs.Rounds.{round_keeps_few}
use Rattle.pin_core.proofs.Openings.{opening_sound}
use Rattle.pin_core.proofs.Steps.{step_sound}

pub run_sound : (s : Core) (events : List Event) → IsSound s → IsSound (after s events)
run_sound s [] h = h
run_sound s (e ∷ es) h = run_sound (next s e).0 es (step_sound s h e)

opens : (o : Opening) → CanOpen o → IsSound (opened o.size o.root o.image)
opens o can = opening_sound o.size o.root o.image can.0.1 can.0.3 can.1

pub always_sound : IsAlwaysSound
always_sound o can events = run_sound (opened o.size o.root o.image) events (opens o can)

-- what an event leaves as it was: the size, and the kept versions but for a new one. What a pass has seen doesn't fall

record Follows (s s' : Core) (new : List Kept) : Type 0 where
  size : s'.size ≡ s.size
  version : s'.turn.version ≡ s.turn.version + length new
  kept : (k : Kept) → Contains s'.turn.kept k → Contains s.turn.kept k ⊎ Contains new k
  forward : (p : ℕ) → p < s.size.passes → get_or s.seen p 0 ≤ get_or s'.seen p 0

same_turn : (s s' : Core) → s'.size ≡ s.size → s'.turn ≡ s.turn → ((p : ℕ) → p < s.size.passes → get_or s.seen p 0 ≤ get_or s'.seen p 0) → Follows s s' []
same_turn s s' z t forward = record {
  size = z;
  version = ap (λ (t : Turn). t.version) t ∙ (let e : s.turn.version ≡ s.turn.version + 0 = omega arith in e);
  kept = λ k has. inl (subst (λ (t : Turn). Contains t.kept k) t has);
  forward = forward;
}

-- what one pass has seen becomes what isn't older
one_forward : (seens : List ℕ) (q n p : ℕ) → q < length seens → get_or seens q 0 ≤ n → get_or seens p 0 ≤ get_or (set seens q n) p 0
one_forward seens q n p l old = dite (ℕ_discrete p q)
    (λ (e : p ≡ q). subst (λ (i : ℕ). get_or seens i 0 ≤ get_or (set seens q n) i 0) (sym e) (rw (get_or-set_same seens q n 0 l) old))
    (λ (ne : p ≢ q). rw (get_or-set_other seens q p n 0 ne) (omega arith))

module _ (s : Core) (h : IsSound s) where
  still : (p : ℕ) → p < s.size.passes → get_or s.seen p 0 ≤ get_or s.seen p 0
  still p l = omega arith

  stays : Follows s s []
  stays = same_turn s s refl refl still

  of_pass : (p : ℕ) (r : Core × Step) → (p < s.size.passes → Follows s r.0 []) → Follows s (if_pass s p r).0 []
  of_pass p r f = go (nat_lt p s.size.passes) refl
    where
      go : (b : Bool) → nat_lt p s.size.passes ≡ b → Follows s (cond b r (s, Refused)).0 []
      go true e = f (grind (arith, nat_tests))
      go false e = stays

  under : (b : Bool) (r : Core × Step) → Follows s r.0 [] → Follows s (cond b r (s, Refused)).0 []
  under true r f = f
  under false r f = stays

  enter_follows : (p : ℕ) (g : Stage) → Follows s (entered s p g).0 []
  enter_follows p stage.Idle = same_turn s _ refl refl still
  enter_follows p stage.Entered = stays
  enter_follows p (stage.Looked w) = stays
  enter_follows p (stage.Pinned v) = stays

  look_follows : (p : ℕ) (g : Stage) → Follows s (looked s p g).0 []
  look_follows p stage.Idle = stays
  look_follows p stage.Entered = same_turn s _ refl refl still
  look_follows p (stage.Looked w) = stays
  look_follows p (stage.Pinned v) = stays

  settle_follows : (p : ℕ) → p < s.size.passes → (g : Stage) → stage_at s.stages p ≡ g → Follows s (settled s p g).0 []
  settle_follows p l stage.Idle is = stays
  settle_follows p l stage.Entered is = stays
  settle_follows p l (stage.Looked w) is = same_turn s _ refl refl
      (λ q m. one_forward s.seen p _ q (let e = h.watched in omega arith) (settles_forward s.size s.words s.stages s.seen s.turn h p w l is))
  settle_follows p l (stage.Pinned v) is = stays

  show_follows : (at : ℕ) (half : Half) (g : Stage) → Follows s (shown s at half g).0 []
  show_follows at half stage.Idle = stays
  show_follows at half stage.Entered = stays
  show_follows at half (stage.Looked w) = stays
  show_follows at half (stage.Pinned v) = stays

  leave_follows : (p : ℕ) (g : Stage) → Follows s (left s p g).0 []
  leave_follows p stage.Idle = stays
  leave_follows p stage.Entered = stays
  leave_follows p (stage.Looked w) = stays
  leave_follows p (stage.Pinned v) = same_turn s _ refl refl still

  learn_follows : (p version : ℕ) → p < s.size.passes → (g : Stage) → Follows s (learned s p version g).0 []
  learn_follows p version l stage.Idle = under (nat_le version s.turn.version) _ (same_turn s _ refl refl (λ q m. one_forward s.seen p _ q (let e = h.watched in omega arith) (omega arith)))
  learn_follows p version l stage.Entered = stays
  learn_follows p version l (stage.Looked w) = stays
  learn_follows p version l (stage.Pinned v) = stays

  -- a round drops versions, and makes none
  check_follows : (words : List ℕ) (marks : List Mark) → Follows s (record s { words = words; turn = round_checked s.size.passes (record s.turn { marks = marks }) }) []
  check_follows words marks = go (list_all is_settled marks)
    where
      go : (b : Bool) → Follows s (record s { words = words; turn = cond b (record s.turn { kept = kept_by_round (record s.turn { marks = marks }); marks = replicate s.size.passes mark.Blank }) (record s.turn { marks = marks }) }) []
      go true = record {
        size = refl;
        version = omega arith;
        kept = λ k has. inl (contains_from_filter (λ k. (k.version == s.turn.version) || list_any (names_version k.version) marks) s.turn.kept k has);
        forward = still;
      }
      go false = record { size = refl; version = omega arith; kept = λ k has. inl has; forward = still }

  assign_follows : (p : ℕ) (m : Mark) → Follows s (assigned s p m).0 []
  assign_follows p mark.Blank = stays
  assign_follows p mark.Idle = stays
  assign_follows p mark.Entering =
      let x : ℕ = exchanged (get_or s.words (pin_at p) 0) (get_or s.words 0 0) in
      check_follows (set s.words (pin_at p) x) (set s.turn.marks p (mark_of x))
  assign_follows p (mark.Pinned v) = stays

  publish_follows : (root : Option ℕ) (cells : List ℕ) (b : Bool) → Follows s (cond b (with_next s (next_kept s root cells), Done) (refused s)).0 (cond b (next_kept s root cells ∷ []) [])
  publish_follows root cells true = record {
    size = refl;
    version = refl;
    kept = λ k has. ⊎_elim inl (λ (e : next_kept s root cells ≡ k). inr (0, omega arith, e)) (Contains-push_cases s.turn.kept (next_kept s root cells) k has);
    forward = still;
  }
  publish_follows root cells false = stays

  step_follows : (e : Event) → Follows s (next s e).0 (new_version s e)
  step_follows (event.Enter p) = under (nat_lt p s.size.passes) _ (enter_follows p (stage_at s.stages p))
  step_follows (event.Look p) = under (nat_lt p s.size.passes) _ (look_follows p (stage_at s.stages p))
  step_follows (event.Settle p) = of_pass p _ (λ l. settle_follows p l (stage_at s.stages p) refl)
  step_follows (event.Read p at half) = under (nat_lt p s.size.passes) _ (show_follows at half (stage_at s.stages p))
  step_follows (event.Leave p) = under (nat_lt p s.size.passes) _ (leave_follows p (stage_at s.stages p))
  step_follows (event.Learn p version) = of_pass p _ (λ l. learn_follows p version l (stage_at s.stages p))
  step_follows (event.Scan p) = under (nat_lt p s.size.passes) _ (check_follows s.words (set s.turn.marks p (mark_of (get_or s.words (pin_at p) 0))))
  step_follows (event.Assign p) = under (nat_lt p s.size.passes) _ (assign_follows p (mark_at s.turn.marks p))
  step_follows (event.Give chunk) = under _ _ (same_turn s _ refl refl still)
  step_follows (event.Free chunk) = under _ _ (same_turn s _ refl refl still)
  step_follows (event.Write at half value) = under _ _ (same_turn s _ refl refl still)
  step_follows (event.Publish root cells) = publish_follows root cells (can_publish s root cells)

after_size : (s : Core) (events : List Event) → IsSound s → (after s events).size ≡ s.size
after_size s [] h = refl
after_size s (e ∷ es) h = after_size (next s e).0 es (step_sound s h e) ∙ (step_follows s h e).size

after_forward : (s : Core) (events : List Event) → IsSound s → (p : ℕ) → p < s.size.passes → get_or s.seen p 0 ≤ get_or (after s events).seen p 0
after_forward s [] h p l = omega arith
after_forward s (e ∷ es) h p l =
    let f = step_follows s h e in
    let one = f.forward p l in
    let rest = after_forward (next s e).0 es (step_sound s h e) p (subst (λ (z : Size). p < z.passes) (sym f.size) l) in
    omega arith

pub rounds_keep_few : RoundsKeepFew
rounds_keep_few o can events marks n =
    let s = run_of o events in
    let z : s.size ≡ o.size = after_size (opened o.size o.root o.image) events (opens o can) in
    subst (λ (z : Size). length (kept_by_round (record s.turn { marks = marks })) ≤ z.passes + 1) z
    (round_keeps_few s.size s.words s.stages s.seen s.turn (always_sound o can events) marks (n ∙ ap (λ (z : Size). z.passes) (sym z)))

-- all versions so far stand in a list at their numbers

record Lists (all : List Kept) (s : Core) : Type 0 where
  long : length all ≡ s.turn.version + 1
  at_number : (k : Kept) → Contains s.turn.kept k → slice_get all k.version ≡ Some k

slice_get_left : (xs ys : List Kept) (i : ℕ) (k : Kept) → slice_get xs i ≡ Some k → slice_get (xs ++ ys) i ≡ Some k
slice_get_left [] ys i k e = absurd (cc)
slice_get_left (x ∷ xs) ys zero k e = e
slice_get_left (x ∷ xs) ys (suc i) k e = slice_get_left xs ys i k e

slice_get_last : (xs : List Kept) (y : Kept) → slice_get (xs ++ y ∷ []) (length xs) ≡ Some y
slice_get_last [] y = refl
slice_get_last (x ∷ xs) y = slice_get_last xs y

lists_grow : (all : List Kept) (s s' : Core) (new : List Kept) → Lists all s → Follows s s' new → ((k : Kept) → Contains new k → slice_get (all ++ new) k.version ≡ Some k) → Lists (all ++ new) s'
lists_grow all s s' new l f last = record {
  long = length-append all new ∙ (let n = l.long in let v = f.version in omega arith);
  at_number = λ k has. ⊎_elim (λ (old : Contains s.turn.kept k). slice_get_left all new k.version k (l.at_number k old)) (last k) (f.kept k has);
}

step_lists : (all : List Kept) (s : Core) → IsSound s → (e : Event) → Lists all s → Lists (all ++ new_version s e) (next s e).0
step_lists all s h (event.Publish root cells) l = lists_grow all s _ _ l (step_follows s h (event.Publish root cells)) (last (can_publish s root cells))
  where
    last : (b : Bool) (k : Kept) → Contains (cond b (next_kept s root cells ∷ []) []) k → slice_get (all ++ cond b (next_kept s root cells ∷ []) []) k.version ≡ Some k
    last true k has = ⊎_elim
        (λ (e : next_kept s root cells ≡ k). subst (λ (y : Kept). slice_get (all ++ next_kept s root cells ∷ []) y.version ≡ Some y) e
        (subst (λ (n : ℕ). slice_get (all ++ next_kept s root cells ∷ []) n ≡ Some (next_kept s root cells)) l.long (slice_get_last all (next_kept s root cells))))
        (λ (none : Contains [] k). absurd (let m = none.1 in omega arith))
        (contains_cases (next_kept s root cells) k [] has)
    last false k has = absurd (let m = has.1 in omega arith)
step_lists all s h e l = lists_grow all s (next s e).0 (new_version s e) l (step_follows s h e) (λ k none. absurd (let m = none.1 in omega arith))

run_lists : (all : List Kept) (s : Core) (events : List Event) → IsSound s → Lists all s → Lists (all ++ new_versions s events) (after s events)
run_lists all s [] h l = subst (λ (xs : List Kept). Lists xs s) (sym (append-nil all)) l
run_lists all s (e ∷ es) h l = subst (λ (xs : List Kept). Lists xs (after s (e ∷ es))) (append_assoc all (new_version s e) (new_versions (next s e).0 es)) (run_lists (all ++ new_version s e) (next s e).0 es (step_sound s h e) (step_lists all s h e l))

-- reads

-- what is read of words with which an image agrees
read_is : (words : List ℕ) (image : List CellAt) (at : ℕ) (half : Half) → All (AgreesWith words) image → cond (has_cell image at) (Word (get_or words (half_at at half) 0)) Refused ≡ read_of image at half
read_is words [] at half agrees = refl
read_is words (c ∷ cs) at half agrees = go (c.at == at) refl (read_is words cs at half (All-tail (AgreesWith words) c cs agrees))
  where
    here : (half : Half) → c.at ≡ at → Word (get_or words (half_at at half) 0) ≡ Word (half_of c half)
    here Big e = ap Word (ap (λ (r : ℕ). get_or words (cell_at r) 0) (sym e) ∙ (All-head (AgreesWith words) c cs agrees).0)
    here Small e = ap Word (ap (λ (r : ℕ). get_or words (cell_at r + 1) 0) (sym e) ∙ (All-head (AgreesWith words) c cs agrees).1)

    go : (b : Bool) → (c.at == at) ≡ b → cond (has_cell cs at) (Word (get_or words (half_at at half) 0)) Refused ≡ read_of cs at half
        → cond (b || has_cell cs at) (Word (get_or words (half_at at half) 0)) Refused ≡ cond b (Word (half_of c half)) (read_of cs at half)
    go true e rest = here half (grind (arith, eqb_tells c.at at))
    go false e rest = rest

-- a kept version's cells are those of the one kept version of its number
in_version : (kept : List Kept) (k : Kept) (v at : ℕ) → AllPairs (λ k j. k.version < j.version) kept → Contains kept k → k.version ≡ v → is_in_version kept v at ≡ has_cell k.image at
in_version kept k v at rising has e = go (has_cell k.image at) refl
  where
    test : Kept → Bool
    test j = (j.version == v) && has_cell j.image at

    both : (a b : Bool) → a ≡ true → b ≡ true → (a && b) ≡ true
    both true b ea eb = eb
    both false b ea eb = ea

    -- another kept version has another number
    alone : (j : Kept) → Contains kept j → (c : Bool) → (j.version == v) ≡ c → has_cell k.image at ≡ false → (c && has_cell j.image at) ≡ false
    alone j there true same f = ⊎_elim
        (λ (l : k.version < j.version). absurd (grind (arith, eqb_tells j.version v)))
        (⊎_elim (λ (l : j.version < k.version). absurd (grind (arith, eqb_tells j.version v))) (λ (i : k ≡ j). ap (λ (y : Kept). has_cell y.image at) (sym i) ∙ f))
        (pairs_cases (λ k j. k.version < j.version) kept k j rising has there)
    alone j there false same f = refl

    go : (b : Bool) → has_cell k.image at ≡ b → list_any (λ j. (j.version == v) && has_cell j.image at) kept ≡ b
    go true f = list_any_at (λ j. (j.version == v) && has_cell j.image at) kept has.0 k has.1
        (subst (λ (y : Kept). ((y.version == v) && has_cell y.image at) ≡ true) (sym has.2) (both (k.version == v) (has_cell k.image at) (grind (arith, eqb_tells k.version v)) f))
    go false f = list_any_none (λ j. (j.version == v) && has_cell j.image at) kept (λ i d l. alone (get_or kept i d) (Contains-get_or kept i d l) ((get_or kept i d).version == v) refl f)

read_answers : (s : Core) (p v at : ℕ) (half : Half) (image : List CellAt) → p < s.size.passes → stage_at s.stages p ≡ stage.Pinned v → is_in_version s.turn.kept v at ≡ has_cell image at → All (AgreesWith s.words) image
    → (next s (event.Read p at half)).1 ≡ read_of image at half
read_answers s p v at half image l is same agrees =
    subst (λ (g : Stage). (if_pass s p (shown s at half g)).1 ≡ read_of image at half) (sym is)
    (subst (λ (b : Bool). (cond b (shown s at half (stage.Pinned v)) (refused s)).1 ≡ read_of image at half) (sym (within (nat_lt p s.size.passes) refl))
    (ap (λ (b : Bool). cond b (Word (get_or s.words (half_at at half) 0)) Refused) same ∙ read_is s.words image at half agrees))
  where
    within : (b : Bool) → nat_lt p s.size.passes ≡ b → b ≡ true
    within true e = refl
    within false e = absurd (grind (arith, nat_tests))

abbrev first : Opening → Kept
first o = record { version = 0; root = o.root; image = o.image }

opening_lists : (o : Opening) → Lists (first o ∷ []) (opened o.size o.root o.image)
opening_lists o = record {
  long = refl;
  at_number = λ k has. ⊎_elim (λ (e : first o ≡ k). subst (λ (y : Kept). slice_get (first o ∷ []) y.version ≡ Some y) e refl) (λ (none : Contains [] k). absurd (let m = none.1 in omega arith)) (contains_cases (first o) k [] has);
}

-- a pinned pass reads its version as it was published
pub each_reads_its_version : EachReadsItsVersion
each_reads_its_version o can events p v l is =
    let s = run_of o events in
    let h = always_sound o can events in
    let within : p < s.size.passes = subst (λ (z : Size). p < z.passes) (sym (after_size (opened o.size o.root o.image) events (opens o can))) l in
    let pinned : PinFits s.turn.kept (get_or s.seen p 0) (get_or s.words (pin_at p) 0) (stage.Pinned v) = subst (PinFits s.turn.kept (get_or s.seen p 0) (get_or s.words (pin_at p) 0)) is (h.pins p within) in
    let k = pinned.0 in
    let all = run_lists (first o ∷ []) (opened o.size o.root o.image) events (opens o can) (opening_lists o) in (
      k,
      subst (λ (n : ℕ). slice_get (versions_of o events) n ≡ Some k) pinned.3 (all.at_number k pinned.1),
      λ at half. read_answers s p v at half k.image within is (in_version s.turn.kept k v at h.rising pinned.1 pinned.3) (All-contains (λ k. All (AgreesWith s.words) k.image) s.turn.kept k h.unchanged pinned.1),
    )

-- one more event of a run

after_append : (s : Core) (xs ys : List Event) → after s (xs ++ ys) ≡ after (after s xs) ys
after_append s [] ys = refl
after_append s (x ∷ xs) ys = after_append (next s x).0 xs ys

pub reaches : (s t : Core) (events : List Event) (i : ℕ) (e : Event) → i < length events → e ≡ get_or events i e → t ≡ after s (take i events) → (next t e).0 ≡ after s (take (i + 1) events)
reaches s t events i e l read at =
    ap (λ (c : Core). (next c e).0) at ∙ sym (after_append s (take i events) (e ∷ []))
    ∙ ap (λ (x : Event). after s (take i events ++ x ∷ [])) read ∙ sym (ap (after s) (take_more events i e l))

pub tells : (t t' : Core) (steps steps' all : List Step) (step : Step) (events : List Event) (i : ℕ) (e : Event) → i < length events → e ≡ get_or events i e → steps ++ answers t (drop i events) ≡ all
    → t' ≡ (next t e).0 → step ≡ (next t e).1 → steps' ≡ steps ++ step ∷ [] → steps' ++ answers t' (drop (i + 1) events) ≡ all
tells t t' steps steps' all step events i e l read told at answer pushed =
    ap (λ (xs : List Step). xs ++ answers t' rest) (pushed ∙ ap (λ (x : Step). steps ++ x ∷ []) answer)
    ∙ ap (λ (c : Core). (steps ++ (next t e).1 ∷ []) ++ answers c rest) at
    ∙ append_assoc steps ((next t e).1 ∷ []) (answers (next t e).0 rest)
    ∙ sym (ap (λ (es : List Event). steps ++ answers t es) left)
    ∙ told
  where
    rest : List Event
    rest = drop (i + 1) events

    left : drop i events ≡ e ∷ drop (i + 1) events
    left = rw (drop-cons events i e l) (ap (λ (x : Event). x ∷ drop (suc i) events) (sym read)) ∙ ap (λ (n : ℕ). e ∷ drop n events) (let next_place : suc i ≡ i + 1 = omega arith in next_place)

-- what a pass has seen never falls
pub no_pass_goes_back : NoPassGoesBack
no_pass_goes_back o can events more p l =
    let s = run_of o events in
    let z : s.size ≡ o.size = after_size (opened o.size o.root o.image) events (opens o can) in
    subst (λ (c : Core). get_or s.seen p 0 ≤ get_or c.seen p 0) (sym (after_append (opened o.size o.root o.image) events more))
    (after_forward s more (always_sound o can events) p (subst (λ (z : Size). p < z.passes) (sym z) l))
