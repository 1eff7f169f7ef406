-- The end of a round: what is dropped from the kept versions is named by no pin, and at most one for each pass stays.
use Rattle.std.proofs.Common.{◌≡◌, ◌≢◌, inl, inr, ⊎_elim, ℕ, ◌+◌, ◌<◌, ◌≤◌, List, [], ◌∷◌, length, get_or, replicate, Bool, true, false, true≢false, cond, refl, sym, ap, ◌∙◌, subst, arith, eq-eqb}
use Rattle.std.specs.Prelude.{◌||◌, ◌==◌, filter}
use Rattle.std.specs.List.{All, AllPairs, Contains, list_any, list_all}
use Rattle.std.proofs.lemmas.List.{length-replicate, get_or-replicate}
use Rattle.std.proofs.lemmas.List.Elements.{All-filter, All-head, All-tail, filter_agree}
use Rattle.std.proofs.lemmas.List.Kept.{AllPairs-filter}
use Rattle.std.proofs.lemmas.List.Folds.{list_any_at}
use Rattle.std.proofs.lemmas.List.Sums.{AllPass-from_list_all}
use Rattle.std.proofs.lemmas.Bool.Decides.{eqb_tells, nat_tests}
use Rattle.pin_core.specs.declared.kept.Kept.{Kept}
use Rattle.pin_core.specs.declared.kept.Stage.{Stage}
use Rattle.pin_core.specs.declared.kept.Stage.TheVariants as stage
use Rattle.pin_core.specs.declared.kept.Mark.{Mark}
use Rattle.pin_core.specs.declared.kept.Mark.TheVariants as mark
use Rattle.pin_core.specs.Words.{Size, pin_at, root_number, word_of, pin_of}
use Rattle.pin_core.specs.Sound.{Turn, Sound, stage_at, mark_at, HasRoot, AgreesWith, IsGiven, Names, PinFits, LookedAt, IsFresh, MarkFits}
use Rattle.pin_core.specs.Machine.{is_settled, names_version, kept_by_round, round_checked}
use Rattle.pin_core.proofs.Lists.{contains_filter, pairs_head, pairs_tail}
use Rattle.pin_core.proofs.Pins.{kept_root_fits, same_version}

or_left : (a b : Bool) → a ≡ true → (a || b) ≡ true
or_left a b e = subst (λ (z : Bool). (z || b) ≡ true) (sym e) refl

or_right : (a b : Bool) → b ≡ true → (a || b) ≡ true
or_right true b e = refl
or_right false b e = e

abbrev IsSettled : Mark → Type 0
IsSettled m = is_settled m ≡ true

-- a mark within the list names its version
named_at : (v : ℕ) (ms : List Mark) (p : ℕ) → p < length ms → get_or ms p mark.Blank ≡ mark.Pinned v → list_any (names_version v) ms ≡ true
named_at v ms p l e = list_any_at (names_version v) ms p mark.Blank l (ap (names_version v) e ∙ eq-eqb v v refl)

module _ (z : Size) (words : List ℕ) (stages : List Stage) (seens : List ℕ) (t : Turn) (h : Sound z words stages seens t) where
  abbrev test : Kept → Bool
  test k = (k.version == t.version) || list_any (names_version k.version) t.marks

  abbrev cur : ℕ
  cur = get_or words 0 0

  fits : (k : Kept) → Contains t.kept k → root_number k.root < 16777216
  fits k has = let f = kept_root_fits z words stages seens t h k has in omega arith

  keeps_current : (k : Kept) → Contains t.kept k → k.version ≡ t.version → Contains (kept_by_round t) k
  keeps_current k has e = contains_filter test t.kept k has (or_left (k.version == t.version) (list_any (names_version k.version) t.marks) (eq-eqb k.version t.version e))

  keeps_marked : (k : Kept) (v p : ℕ) → p < z.passes → Contains t.kept k → k.version ≡ v → mark_at t.marks p ≡ mark.Pinned v → Contains (kept_by_round t) k
  keeps_marked k v p l has e at = contains_filter test t.kept k has (or_right (k.version == t.version) (list_any (names_version k.version) t.marks)
      (named_at k.version t.marks p (let m = h.marked in omega arith) (at ∙ ap mark.Pinned (sym e))))

  -- a kept version whose word is CUR's is the current one
  keeps_by_word : (k : Kept) → Contains t.kept k → word_of k ≡ cur → Contains (kept_by_round t) k
  keeps_by_word k has e = let c = h.current in keeps_current k has (same_version k c.0 (fits k has) (fits c.0 c.1) (e ∙ c.3) ∙ c.2)

  keeps_fresh : (k : Kept) (s : Stage) (pin : ℕ) → Contains t.kept k → pin ≡ pin_of k → IsFresh cur pin s → Contains (kept_by_round t) k
  keeps_fresh k s pin has e f = ⊎_elim (λ (a : pin ≡ 0). absurd (omega arith)) (⊎_elim (λ (a : (pin ≡ 1) × LookedAt cur s). let one : pin ≡ 1 = a.0 in absurd (omega arith)) (λ (a : pin ≡ cur + 2). keeps_by_word k has (omega arith))) f

  keeps_pinned : (k : Kept) (p : ℕ) (s : Stage) (pin : ℕ) (m : Mark) → p < z.passes → mark_at t.marks p ≡ m → IsSettled m → Contains t.kept k → pin ≡ pin_of k → MarkFits t.kept cur pin s m → Contains (kept_by_round t) k
  keeps_pinned k p s pin mark.Blank l at ok has e mo = absurd (true≢false (sym ok))
  keeps_pinned k p s pin mark.Entering l at ok has e mo = absurd (true≢false (sym ok))
  keeps_pinned k p s pin mark.Idle l at ok has e mo = keeps_fresh k s pin has e mo
  keeps_pinned k p s pin (mark.Pinned v) l at ok has e mo = ⊎_elim
      (λ (a : pin ≡ pin_of mo.0). keeps_marked k v p l has (same_version k mo.0 (fits k has) (fits mo.0 mo.1) (omega arith) ∙ mo.2) at)
      (λ f. keeps_fresh k s pin has e f) mo.3

  names_stay : (p seen pin : ℕ) (s : Stage) (m : Mark) → p < z.passes → mark_at t.marks p ≡ m → IsSettled m → Names t.kept seen pin → MarkFits t.kept cur pin s m → Names (kept_by_round t) seen pin
  names_stay p seen pin s m l at ok n mo = (n.0, keeps_pinned n.0 p s pin m l at ok n.1 n.2 mo, n.2, n.3)

  -- a pass that was marked and has looked since has looked at the current version
  looked_fresh : (w pin : ℕ) → pin ≡ 1 → IsFresh cur pin (stage.Looked w) → w ≡ cur
  looked_fresh w pin one f = ⊎_elim (λ (a : pin ≡ 0). absurd (omega arith)) (⊎_elim (λ (a : (pin ≡ 1) × (w ≡ cur)). a.1) (λ (a : pin ≡ cur + 2). absurd (omega arith))) f

  looked_current : (w pin : ℕ) (m : Mark) → IsSettled m → pin ≡ 1 → MarkFits t.kept cur pin (stage.Looked w) m → w ≡ cur
  looked_current w pin mark.Blank ok one mo = absurd (true≢false (sym ok))
  looked_current w pin mark.Entering ok one mo = absurd (true≢false (sym ok))
  looked_current w pin mark.Idle ok one mo = looked_fresh w pin one mo
  looked_current w pin (mark.Pinned v) ok one mo = ⊎_elim (λ (a : pin ≡ pin_of mo.0). absurd (omega arith)) (looked_fresh w pin one) mo.3

  looked_stays : (w pin seen : ℕ) (m : Mark) → IsSettled m → pin ≡ 1 → Names t.kept seen (w + 2) → MarkFits t.kept cur pin (stage.Looked w) m → Names (kept_by_round t) seen (w + 2)
  looked_stays w pin seen m ok one n mo = (n.0, keeps_by_word n.0 n.1 (let e : w + 2 ≡ pin_of n.0 = n.2 in let w_cur = looked_current w pin m ok one mo in omega arith), n.2, n.3)

  pin_stays : (p seen pin : ℕ) → p < z.passes → (s : Stage) (m : Mark) → mark_at t.marks p ≡ m → IsSettled m → PinFits t.kept seen pin s → MarkFits t.kept cur pin s m → PinFits (kept_by_round t) seen pin s
  pin_stays p seen pin l stage.Idle m at ok po mo = po
  pin_stays p seen pin l stage.Entered m at ok po mo = ⊎_elim inl (λ n. inr (names_stay p seen pin stage.Entered m l at ok n mo)) po
  pin_stays p seen pin l (stage.Looked w) m at ok po mo = ⊎_elim (λ (a : (pin ≡ 1) × Names t.kept seen (w + 2)). inl (a.0, looked_stays w pin seen m ok a.0 a.1 mo))
      (λ n. inr (names_stay p seen pin (stage.Looked w) m l at ok n mo)) po
  pin_stays p seen pin l (stage.Pinned v) m at ok po mo = (po.0, keeps_pinned po.0 p (stage.Pinned v) pin m l at ok po.1 po.2 mo, po.2, po.3, po.4)

  -- blank marks promise nothing
  pub blank_fits : (kept : List Kept) (cur pin : ℕ) (s : Stage) (p : ℕ) → p < z.passes → MarkFits kept cur pin s (mark_at (replicate z.passes mark.Blank) p)
  blank_fits kept cur pin s p l = subst (MarkFits kept cur pin s) (sym (get_or-replicate z.passes p mark.Blank mark.Blank l)) tt

  pub round_ends : ((p : ℕ) → p < z.passes → IsSettled (mark_at t.marks p)) → Sound z words stages seens (record t { kept = kept_by_round t; marks = replicate z.passes mark.Blank })
  round_ends settled = record {
    small = h.small;
    wide = h.wide;
    staged = h.staged;
    watched = h.watched;
    marked = length-replicate z.passes mark.Blank;
    few = h.few;
    current = let c = h.current in (c.0, keeps_current c.0 c.1 c.2, c.2, c.3);
    newest = All-filter test (λ k. k.version ≤ t.version) t.kept h.newest;
    rising = AllPairs-filter (λ k j. k.version < j.version) test t.kept h.rising;
    rooted = All-filter test (λ k. HasRoot k.root k.image) t.kept h.rooted;
    once = All-filter test (λ k. AllPairs (λ c d. c.at ≢ d.at) k.image) t.kept h.once;
    unchanged = All-filter test (λ k. All (AgreesWith words) k.image) t.kept h.unchanged;
    given = All-filter test (λ k. All (IsGiven z words) k.image) t.kept h.given;
    not_ahead = h.not_ahead;
    pins = λ p l. pin_stays p (get_or seens p 0) (get_or words (pin_at p) 0) l (stage_at stages p) (mark_at t.marks p) refl (settled p l) (h.pins p l) (h.marks p l);
    marks = λ p l. blank_fits (kept_by_round t) cur (get_or words (pin_at p) 0) (stage_at stages p) p l;
  }

  pub checks : Sound z words stages seens (round_checked z.passes t)
  checks = go (list_all is_settled t.marks) refl
    where
      go : (b : Bool) → list_all is_settled t.marks ≡ b → Sound z words stages seens (cond b (record t { kept = kept_by_round t; marks = replicate z.passes mark.Blank }) t)
      go true e = round_ends (λ p l. AllPass-from_list_all is_settled t.marks e p mark.Blank (let m = h.marked in omega arith))
      go false e = h

-- how many versions a round keeps

filter_none : {A : Type 0} (xs : List A) → filter (λ x. false) xs ≡ []
filter_none [] = refl
filter_none (x ∷ xs) = filter_none xs

filter_or : {A : Type 0} (f g : A → Bool) (xs : List A) → length (filter (λ x. f x || g x) xs) ≤ length (filter f xs) + length (filter g xs)
filter_or f g [] = omega arith
filter_or {A} f g (x ∷ xs) = go (f x) (g x) (filter_or f g xs)
  where
    go : (a b : Bool) → length (filter (λ x. f x || g x) xs) ≤ length (filter f xs) + length (filter g xs)
        → length (cond (a || b) (x ∷ filter (λ x. f x || g x) xs) (filter (λ x. f x || g x) xs)) ≤ length (cond a (x ∷ filter f xs) (filter f xs)) + length (cond b (x ∷ filter g xs) (filter g xs))
    go true true l = omega arith
    go true false l = omega arith
    go false true l = omega arith
    go false false l = l

-- at most one of versions that rise is this one
one_version : (v : ℕ) (ks : List Kept) → AllPairs (λ k j. k.version < j.version) ks → length (filter (λ k. v == k.version) ks) ≤ 1
one_version v [] rising = omega arith
one_version v (k ∷ ks) rising = go (v == k.version) refl (one_version v ks (pairs_tail (λ k j. k.version < j.version) k ks rising))
  where
    above : (js : List Kept) → All (λ j. v < j.version) js → filter (λ j. v == j.version) js ≡ []
    above [] each = refl
    above (j ∷ js) each = skip (v == j.version) refl (above js (All-tail (λ j. v < j.version) j js each))
      where
        skip : (b : Bool) → (v == j.version) ≡ b → filter (λ j. v == j.version) js ≡ [] → cond b (j ∷ filter (λ j. v == j.version) js) (filter (λ j. v == j.version) js) ≡ []
        skip true e none = absurd (let l = All-head (λ j. v < j.version) j js each in grind (arith, eqb_tells v j.version))
        skip false e none = none

    go : (b : Bool) → (v == k.version) ≡ b → length (filter (λ k. v == k.version) ks) ≤ 1 → length (cond b (k ∷ filter (λ k. v == k.version) ks) (filter (λ k. v == k.version) ks)) ≤ 1
    go true e l =
        let none = above ks (λ i d m. let r = pairs_head (λ k j. k.version < j.version) k ks rising i d m in grind (arith, eqb_tells v k.version)) in
        rw none (omega arith)
    go false e l = l

one_mark : (m : Mark) (ks : List Kept) → AllPairs (λ k j. k.version < j.version) ks → length (filter (λ k. names_version k.version m) ks) ≤ 1
one_mark mark.Blank ks rising = rw (filter_none ks) (omega arith)
one_mark mark.Idle ks rising = rw (filter_none ks) (omega arith)
one_mark mark.Entering ks rising = rw (filter_none ks) (omega arith)
one_mark (mark.Pinned v) ks rising = one_version v ks rising

one_each : (ms : List Mark) (ks : List Kept) → AllPairs (λ k j. k.version < j.version) ks → length (filter (λ k. list_any (names_version k.version) ms) ks) ≤ length ms
one_each [] ks rising = rw (filter_none ks) (omega arith)
one_each (m ∷ ms) ks rising =
    let split = filter_or (λ k. names_version k.version m) (λ k. list_any (names_version k.version) ms) ks in
    let first = one_mark m ks rising in
    let rest = one_each ms ks rising in
    omega arith

current_first : (v : ℕ) (ks : List Kept) → AllPairs (λ k j. k.version < j.version) ks → length (filter (λ k. k.version == v) ks) ≤ 1
current_first v ks rising = rw (filter_agree (λ (k : Kept). k.version == v) (λ (k : Kept). v == k.version) (λ k. grind (arith, nat_tests)) ks) (one_version v ks rising)

pub round_keeps_few : (z : Size) (words : List ℕ) (stages : List Stage) (seens : List ℕ) (t : Turn) → Sound z words stages seens t → (marks : List Mark) → length marks ≡ z.passes → length (kept_by_round (record t { marks = marks })) ≤ z.passes + 1
round_keeps_few z words stages seens t h marks n =
    let split = filter_or (λ (k : Kept). k.version == t.version) (λ k. list_any (names_version k.version) marks) t.kept in
    let first = current_first t.version t.kept h.rising in
    let rest = one_each marks t.kept h.rising in
    omega arith
