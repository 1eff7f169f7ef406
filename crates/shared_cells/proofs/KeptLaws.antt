-- The versions that a round keeps, as a rising list.
use Rattle.std.proofs.Common.{◌≡◌, ◌⊎◌, inl, inr, ⊎_elim, ℕ, zero, suc, ◌+◌, ◌<◌, ◌≤◌, eqb, List, [], ◌∷◌, ◌++◌, length, get_or, insert, map, replicate, Bool, true, false, true≢false, cond, refl, sym, ap, ◌∙◌, subst, arith, Some, eq-eqb, length-append}
use Rattle.std.specs.Prelude.{◌||◌, ◌==◌, Result, Err}
use Rattle.std.specs.Ordering.{nat_cmp}
use Rattle.std.specs.List.Sorted.{IsBinarySearchResult}
use Rattle.std.proofs.lemmas.List.Sorted.{searched}
use Rattle.std.specs.List.{All, AllPairs, Contains, list_any}
use Rattle.std.proofs.lemmas.List.{get_or-map, length-map, get_or_default}
use Rattle.std.proofs.lemmas.List.Edits.{length-insert, get_or-insert_at, get_or-insert_below, get_or-insert_above}
use Rattle.std.proofs.lemmas.List.Elements.{All-contains, Contains-append_left}
use Rattle.std.proofs.lemmas.List.Folds.{Any-from_list_any}
use Rattle.std.proofs.lemmas.List.Kept.{AllPairs-filter}
use Rattle.std.proofs.lemmas.Bool.{cases_order}
use Rattle.std.proofs.lemmas.Bool.Decides.{eqb_tells}
use Rattle.pin_core.specs.declared.kept.Kept.{Kept}
use Rattle.pin_core.specs.declared.kept.Mark.{Mark}
use Rattle.pin_core.specs.declared.kept.Mark.TheVariants as mark
use Rattle.pin_core.specs.Sound.{turn_of}
use Rattle.pin_core.specs.Words.{version_of}
use Rattle.pin_core.specs.Machine.{is_settled, mark_of, names_version, kept_by_round}
use Rattle.pin_core.proofs.Lists.{contains_cases, contains_later, contains_filter, filter_test, pairs_head, pairs_tail}
use Rattle.shared_cells.specs.declared.view.Naming.{Naming}
use Rattle.shared_cells.specs.declared.view.TurnView.{TurnView}
use Rattle.shared_cells.specs.declared.view.View.{View}
use Rattle.shared_cells.specs.Views.{kept_in, marks_of, naming_by, namings_by, rounded_view}
use Rattle.shared_cells.specs.Steps.{IsOfKept, IsDue, Marks, IsNamed, Rounded}
use Rattle.shared_cells.proofs.RoundLaws.{InRound, begins, next_marked}
use Rattle.shared_cells.proofs.Chunks.{contains_map}

-- strictly rising
abbrev pub Rises : List ℕ → Type 0
Rises = AllPairs (λ v w. v < w)

-- two rising lists with the same elements are the same

head_least : (x : ℕ) (xs : List ℕ) (v : ℕ) → Rises (x ∷ xs) → Contains (x ∷ xs) v → x ≤ v
head_least x xs v rises has = ⊎_elim (λ (e : x ≡ v). let l : x ≤ v = omega arith in l)
    (λ (c : Contains xs v). let l : x < v = All-contains (λ (w : ℕ). x < w) xs v (pairs_head (λ v w. v < w) x xs rises) c in omega arith) (contains_cases x v xs has)

tail_above : (x : ℕ) (xs : List ℕ) (v : ℕ) → Rises (x ∷ xs) → Contains xs v → x < v
tail_above x xs v rises c = All-contains (λ (w : ℕ). x < w) xs v (pairs_head (λ v w. v < w) x xs rises) c

pub same_rising : (xs ys : List ℕ) → Rises xs → Rises ys → ((v : ℕ) → Contains xs v → Contains ys v) → ((v : ℕ) → Contains ys v → Contains xs v) → xs ≡ ys
same_rising [] [] rx ry to from = refl
same_rising [] (y ∷ ys) rx ry to from = absurd (let c = from y (0, omega arith, refl) in let l = c.1 in omega arith)
same_rising (x ∷ xs) [] rx ry to from = absurd (let c = to x (0, omega arith, refl) in let l = c.1 in omega arith)
same_rising (x ∷ xs) (y ∷ ys) rx ry to from =
    let a : y ≤ x = head_least y ys x ry (to x (0, omega arith, refl)) in
    let b : x ≤ y = head_least x xs y rx (from y (0, omega arith, refl)) in
    let e : x ≡ y = omega arith in
    let rest = same_rising xs ys (pairs_tail (λ v w. v < w) x xs rx) (pairs_tail (λ v w. v < w) y ys ry)
    (λ v c. let l = tail_above x xs v rx c in ⊎_elim (λ (s : y ≡ v). absurd (omega arith)) (λ (d : Contains ys v). d) (contains_cases y v ys (to v (contains_later x v xs c))))
    (λ v c. let l = tail_above y ys v ry c in ⊎_elim (λ (s : x ≡ v). absurd (omega arith)) (λ (d : Contains xs v). d) (contains_cases x v xs (from v (contains_later y v ys c)))) in
    λ i. e i ∷ rest i

-- an element put in at its place

by_order : (a b : ℕ) → (a < b) ⊎ ((b < a) ⊎ (a ≡ b))
by_order a b = ⊎_elim (λ (e : a ≡ b). inr (inr e)) (⊎_elim (λ (l : a < b). inl l) (λ (g : b < a). inr (inl g))) (cases_order a b)

-- where an element stands, read with any default
contains_at : (xs : List ℕ) (k w : ℕ) → k < length xs → get_or xs k 0 ≡ w → Contains xs w
contains_at xs k w l e = (k, l, get_or_default xs k w 0 l ∙ e)

place_of : (xs : List ℕ) (w : ℕ) (c : Contains xs w) → get_or xs c.0 0 ≡ w
place_of xs w c = get_or_default xs c.0 0 w c.1 ∙ c.2

rises_from_zero : (xs : List ℕ) → ((a b : ℕ) → a < b → b < length xs → get_or xs a 0 < get_or xs b 0) → Rises xs
rises_from_zero xs f a b d l within = let e = get_or_default xs a d 0 (let m = within in omega arith) in let g = get_or_default xs b d 0 within in let r = f a b l within in omega arith

module _ (xs : List ℕ) (i v : ℕ) (within : i ≤ length xs) (below : (k : ℕ) → k < i → get_or xs k 0 < v) (above : (k : ℕ) → i ≤ k → k < length xs → v < get_or xs k 0) where
  abbrev new : List ℕ
  new = insert xs i v

  long : length (insert xs i v) ≡ length xs + 1
  long = length-insert xs i v within

  at_later : (k : ℕ) → i < k → k < length (insert xs i v) → (j : ℕ) × (k ≡ j + 1) × (i ≤ j) × (j < length xs) × (get_or (insert xs i v) k 0 ≡ get_or xs j 0)
  at_later zero gt l = absurd (omega arith)
  at_later (suc j) gt l = let n = long in
      (j, (let e : suc j ≡ j + 1 = omega arith in e), (let le : i ≤ j = omega arith in le), (let lt : j < length xs = omega arith in lt), ap (λ (k : ℕ). get_or (insert xs i v) k 0) (let e : suc j ≡ j + 1 = omega arith in e) ∙ get_or-insert_above xs i v 0 j (omega arith) within)

  pub insert_rises : Rises xs → Rises (insert xs i v)
  insert_rises rises = rises_from_zero (insert xs i v) (λ a b l inside. ⊎_elim
      (λ (la : a < i). ⊎_elim
      (λ (lb : b < i). let ea = get_or-insert_below xs i v 0 a la within in let eb = get_or-insert_below xs i v 0 b lb within in let r = rises a b 0 l (omega arith) in omega arith)
      (⊎_elim (λ (gb : i < b). let t = at_later b gb inside in let ea = get_or-insert_below xs i v 0 a la within in let et = t.4 in let r = rises a t.0 0 (let le = t.2 in omega arith) t.3 in omega arith)
      (λ (sb : b ≡ i). let ea = get_or-insert_below xs i v 0 a la within in let eb : get_or (insert xs i v) b 0 ≡ v = ap (λ (k : ℕ). get_or (insert xs i v) k 0) sb ∙ get_or-insert_at xs i v 0 within in let r = below a la in omega arith))
      (by_order b i))
      (⊎_elim
      (λ (ga : i < a). let t = at_later a ga (omega arith) in let u = at_later b (omega arith) inside in let et = t.4 in let eu = u.4 in let r = rises t.0 u.0 0 (let x = t.1 in let y = u.1 in omega arith) u.3 in omega arith)
      (λ (sa : a ≡ i). let u = at_later b (omega arith) inside in let eu = u.4 in let ea : get_or (insert xs i v) a 0 ≡ v = ap (λ (k : ℕ). get_or (insert xs i v) k 0) sa ∙ get_or-insert_at xs i v 0 within in let r = above u.0 u.2 u.3 in omega arith))
      (by_order a i))

  pub insert_has : Contains (insert xs i v) v
  insert_has = contains_at (insert xs i v) i v (let n = long in omega arith) (get_or-insert_at xs i v 0 within)

  pub insert_keeps : (w : ℕ) → Contains xs w → Contains (insert xs i v) w
  insert_keeps w c = ⊎_elim
      (λ (l : c.0 < i). contains_at (insert xs i v) c.0 w (let n = long in let m = c.1 in omega arith) (get_or-insert_below xs i v 0 c.0 l within ∙ place_of xs w c))
      (λ (ge : (i < c.0) ⊎ (c.0 ≡ i)). contains_at (insert xs i v) (c.0 + 1) w (let n = long in let m = c.1 in omega arith) (get_or-insert_above xs i v 0 c.0 (⊎_elim (λ (g : i < c.0). let r : i ≤ c.0 = omega arith in r) (λ (e : c.0 ≡ i). let r : i ≤ c.0 = omega arith in r) ge) within ∙ place_of xs w c))
      (by_order c.0 i)

  pub insert_only : (w : ℕ) → Contains (insert xs i v) w → (w ≡ v) ⊎ Contains xs w
  insert_only w c = ⊎_elim
      (λ (l : c.0 < i). inr (contains_at xs c.0 w (omega arith) (sym (get_or-insert_below xs i v 0 c.0 l within) ∙ place_of (insert xs i v) w c)))
      (⊎_elim (λ (g : i < c.0). let t = at_later c.0 g c.1 in inr (contains_at xs t.0 w t.3 (sym t.4 ∙ place_of (insert xs i v) w c)))
      (λ (e : c.0 ≡ i). inl (sym (place_of (insert xs i v) w c) ∙ ap (λ (k : ℕ). get_or (insert xs i v) k 0) e ∙ get_or-insert_at xs i v 0 within)))
      (by_order c.0 i)

-- numbers that rise don't fall
pub never_falls : (xs : List ℕ) → Rises xs → (i j : ℕ) → i ≤ j → j < length xs → get_or xs i 0 ≤ get_or xs j 0
never_falls xs rises i j l within = ⊎_elim (λ (lt : i < j). let r = rises i j 0 lt within in omega arith)
    (⊎_elim (λ (gt : j < i). absurd (omega arith)) (λ (e : i ≡ j). let s = ap (λ (k : ℕ). get_or xs k 0) e in omega arith)) (by_order i j)

-- where a binary search would put a number that isn't there
pub search_place : (xs lent : List ℕ) (v place : ℕ) (r : Result ℕ ℕ) → lent ≡ xs → Rises xs → IsBinarySearchResult (λ y. nat_cmp y v) lent r → r ≡ Err place
    → (place ≤ length xs) × ((k : ℕ) → k < place → get_or xs k 0 < v) × ((k : ℕ) → place ≤ k → k < length xs → v < get_or xs k 0)
search_place xs lent v place r same rises found is = searched xs v (Err place) (subst (λ (l : List ℕ). IsBinarySearchResult (λ (y : ℕ). nat_cmp y v) l (Err place)) same (subst (IsBinarySearchResult (λ (y : ℕ). nat_cmp y v) lent) is found)) (never_falls xs rises)

-- what a round keeps, and what the marks name

or_left : (a b : Bool) → a ≡ true → (a || b) ≡ true
or_left a b e = subst (λ (z : Bool). (z || b) ≡ true) (sym e) refl

or_right : (a b : Bool) → b ≡ true → (a || b) ≡ true
or_right true b e = refl
or_right false b e = e

or_cases : (a b : Bool) → (a || b) ≡ true → (a ≡ true) ⊎ (b ≡ true)
or_cases true b e = inl refl
or_cases false b e = inr e

any_before : (v : ℕ) (xs ys : List Mark) → list_any (names_version v) xs ≡ true → list_any (names_version v) (xs ++ ys) ≡ true
any_before v [] ys e = absurd (true≢false (sym e))
any_before v (x ∷ xs) ys e = ⊎_elim (λ (a : names_version v x ≡ true). or_left (names_version v x) (list_any (names_version v) (xs ++ ys)) a)
    (λ (b : list_any (names_version v) xs ≡ true). or_right (names_version v x) (list_any (names_version v) (xs ++ ys)) (any_before v xs ys b)) (or_cases (names_version v x) (list_any (names_version v) xs) e)

any_last : (v : ℕ) (xs : List Mark) (m : Mark) → names_version v m ≡ true → list_any (names_version v) (xs ++ m ∷ []) ≡ true
any_last v [] m e = or_left (names_version v m) false e
any_last v (x ∷ xs) m e = or_right (names_version v x) (list_any (names_version v) (xs ++ m ∷ [])) (any_last v xs m e)

any_cases : (v : ℕ) (xs : List Mark) (m : Mark) → list_any (names_version v) (xs ++ m ∷ []) ≡ true → (list_any (names_version v) xs ≡ true) ⊎ (names_version v m ≡ true)
any_cases v [] m e = ⊎_elim (λ (a : names_version v m ≡ true). inr a) (λ (b : false ≡ true). absurd (true≢false (sym b))) (or_cases (names_version v m) false e)
any_cases v (x ∷ xs) m e = ⊎_elim (λ (a : names_version v x ≡ true). inl (or_left (names_version v x) (list_any (names_version v) xs) a))
    (λ (b : list_any (names_version v) (xs ++ m ∷ []) ≡ true). ⊎_elim (λ (c : list_any (names_version v) xs ≡ true). inl (or_right (names_version v x) (list_any (names_version v) xs) c)) inr (any_cases v xs m b))
    (or_cases (names_version v x) (list_any (names_version v) (xs ++ m ∷ [])) e)

-- a mark names one version at most, which is kept
named_is_kept : (kept : List Kept) (v : ℕ) (m : Mark) → names_version v m ≡ true → IsOfKept kept m → (k : Kept) × Contains kept k × (k.version ≡ v)
named_is_kept kept v mark.Blank e fits = absurd (true≢false (sym e))
named_is_kept kept v mark.Idle e fits = absurd (true≢false (sym e))
named_is_kept kept v mark.Entering e fits = absurd (true≢false (sym e))
named_is_kept kept v (mark.Pinned w) e fits = (fits.0, fits.1, fits.2 ∙ (let s : w ≡ v = grind (arith, eqb_tells w v) in s))

contains_unmap : (ks : List Kept) (v : ℕ) → Contains (map (λ k. k.version) ks) v → (k : Kept) × Contains ks k × (k.version ≡ v)
contains_unmap [] v c = absurd (let l = c.1 in omega arith)
contains_unmap (k ∷ ks) v c = ⊎_elim (λ (e : k.version ≡ v). (k, (0, omega arith, refl), e)) (λ (d : Contains (map (λ (k : Kept). k.version) ks) v). let r = contains_unmap ks v d in (r.0, contains_later k r.0 ks r.1, r.2))
    (contains_cases k.version v (map (λ (k : Kept). k.version) ks) c)

versions_rise : (ks : List Kept) → AllPairs (λ k j. k.version < j.version) ks → Rises (map (λ k. k.version) ks)
versions_rise [] pairs a b d l within = absurd (omega arith)
versions_rise (k ∷ ks) pairs a b d l within =
    let n = length-map (k ∷ ks) (λ (j : Kept). j.version) in
    let ea = get_or-map (λ (j : Kept). j.version) (k ∷ ks) a k d (omega arith) in
    let eb = get_or-map (λ (j : Kept). j.version) (k ∷ ks) b k d (omega arith) in
    let r = pairs a b k l (omega arith) in
    omega arith

module _ (kept : List Kept) (marks : List Mark) (version : ℕ) (rising : AllPairs (λ k j. k.version < j.version) kept) (of_kept : All (IsOfKept kept) marks) (current : Kept) (has_current : Contains kept current) (is_current : current.version ≡ version) where
  abbrev test : Kept → Bool
  test k = (k.version == version) || list_any (names_version k.version) marks

  there : (k : Kept) → Contains kept k → test k ≡ true → Contains (map (λ k. k.version) (kept_by_round (turn_of version kept marks))) k.version
  there k has passes = contains_map (λ (k : Kept). k.version) (kept_by_round (turn_of version kept marks)) k (contains_filter test kept k has passes)

  named_there : (v : ℕ) → IsDue version marks v → Contains (map (λ k. k.version) (kept_by_round (turn_of version kept marks))) v
  named_there v named = ⊎_elim
      (λ (e : v ≡ version). subst (Contains (map (λ (k : Kept). k.version) (kept_by_round (turn_of version kept marks)))) (is_current ∙ sym e)
      (there current has_current (or_left (current.version == version) (list_any (names_version current.version) marks) (eq-eqb current.version version is_current))))
      (λ (any : list_any (names_version v) marks ≡ true).
      let a = Any-from_list_any (names_version v) marks any in
      let k = named_is_kept kept v a.1 a.4 (All-contains (IsOfKept kept) marks a.1 of_kept (a.0, a.2, a.3)) in
      subst (Contains (map (λ (k : Kept). k.version) (kept_by_round (turn_of version kept marks)))) k.2
      (there k.0 k.1 (or_right (k.0.version == version) (list_any (names_version k.0.version) marks) (ap (λ (w : ℕ). list_any (names_version w) marks) k.2 ∙ any)))) named

  there_named : (v : ℕ) → Contains (map (λ k. k.version) (kept_by_round (turn_of version kept marks))) v → IsDue version marks v
  there_named v c =
      let k = contains_unmap (kept_by_round (turn_of version kept marks)) v c in
      let passes = filter_test test kept k.0 k.1 in
      subst (IsDue version marks) k.2 (⊎_elim (λ (a : (k.0.version == version) ≡ true). inl (let s : k.0.version ≡ version = grind (arith, eqb_tells k.0.version version) in s)) inr
      (or_cases (k.0.version == version) (list_any (names_version k.0.version) marks) passes))

  -- The list that was gathered is that of the versions that the round keeps.
  pub gathered_all : (list : List ℕ) → Rises list → ((v : ℕ) → Contains list v → IsDue version marks v) → ((v : ℕ) → IsDue version marks v → Contains list v) → list ≡ map (λ k. k.version) (kept_by_round (turn_of version kept marks))
  gathered_all list rises only all = same_rising list (map (λ (k : Kept). k.version) (kept_by_round (turn_of version kept marks))) rises
      (versions_rise (kept_by_round (turn_of version kept marks)) (AllPairs-filter (λ k j. k.version < j.version) test kept rising))
      (λ v c. named_there v (only v c)) (λ v c. all v (there_named v c))

-- what a mark names is listed by it

named_listed : (p v : ℕ) (m : Mark) → names_version v m ≡ true → (n : Naming) × Contains (naming_by p m) n × (n.version ≡ v)
named_listed p v mark.Blank e = absurd (true≢false (sym e))
named_listed p v mark.Idle e = absurd (true≢false (sym e))
named_listed p v mark.Entering e = absurd (true≢false (sym e))
named_listed p v (mark.Pinned w) e = (record { pass = p; version = w }, (0, omega arith, refl), (let s : w ≡ v = grind (arith, eqb_tells w v) in s))

contains_later_list : (xs ys : List Naming) (n : Naming) → Contains ys n → Contains (xs ++ ys) n
contains_later_list [] ys n c = c
contains_later_list (x ∷ xs) ys n c = contains_later x n (xs ++ ys) (contains_later_list xs ys n c)

pub listed_by : (p : ℕ) (marks : List Mark) (v : ℕ) → list_any (names_version v) marks ≡ true → (n : Naming) × Contains (namings_by p marks) n × (n.version ≡ v)
listed_by p [] v e = absurd (true≢false (sym e))
listed_by p (m ∷ ms) v e = ⊎_elim
    (λ (a : names_version v m ≡ true). let n = named_listed p v m a in (n.0, Contains-append_left (naming_by p m) (namings_by (p + 1) ms) n.0 n.1, n.2))
    (λ (b : list_any (names_version v) ms ≡ true). let n = listed_by (p + 1) ms v b in (n.0, contains_later_list (naming_by p m) (namings_by (p + 1) ms) n.0 n.1, n.2))
    (or_cases (names_version v m) (list_any (names_version v) ms) e)

-- the marks so far, and the versions that were gathered by them

pub named_before : (version : ℕ) (found : List Mark) (m : Mark) (v : ℕ) → IsDue version found v → IsDue version (found ++ m ∷ []) v
named_before version found m v named = ⊎_elim inl (λ (e : list_any (names_version v) found ≡ true). inr (any_before v found (m ∷ []) e)) named

pub named_cases : (version : ℕ) (found : List Mark) (m : Mark) (v : ℕ) → IsDue version (found ++ m ∷ []) v → IsDue version found v ⊎ (names_version v m ≡ true)
named_cases version found m v named = ⊎_elim (λ (e : v ≡ version). inl (inl e))
    (λ (e : list_any (names_version v) (found ++ m ∷ []) ≡ true). ⊎_elim (λ (b : list_any (names_version v) found ≡ true). inl (inr b)) (λ (n : names_version v m ≡ true). inr n) (any_cases v found m e)) named

pub named_last : (version : ℕ) (found : List Mark) (v : ℕ) → IsDue version (found ++ mark.Pinned v ∷ []) v
named_last version found v = inr (any_last v found (mark.Pinned v) (eq-eqb v v refl))

-- a pin that isn't 0 or 1 marks its pass as pinned
pub pin_marks : (pin : ℕ) → (pin ≡ 0 → ⊥) → is_settled (mark_of pin) ≡ true → mark_of pin ≡ mark.Pinned (version_of pin)
pin_marks pin some settled = go (eqb pin 0) (eqb pin 1) refl refl settled
  where
    go : (a b : Bool) → eqb pin 0 ≡ a → eqb pin 1 ≡ b → is_settled (cond a mark.Idle (cond b mark.Entering (mark.Pinned (version_of pin)))) ≡ true → cond a mark.Idle (cond b mark.Entering (mark.Pinned (version_of pin))) ≡ mark.Pinned (version_of pin)
    go true b ea eb e = absurd (some (grind (arith, eqb_tells pin 0)))
    go false true ea eb e = absurd (true≢false (sym e))
    go false false ea eb e = refl

pub pin_low : (pin : ℕ) → (pin ≡ 0 → ⊥) → is_settled (mark_of pin) ≡ true → 2 ≤ pin
pin_low pin some settled = go (eqb pin 0) (eqb pin 1) refl refl settled
  where
    go : (a b : Bool) → eqb pin 0 ≡ a → eqb pin 1 ≡ b → is_settled (cond a mark.Idle (cond b mark.Entering (mark.Pinned (version_of pin)))) ≡ true → 2 ≤ pin
    go true b ea eb e = absurd (some (grind (arith, eqb_tells pin 0)))
    go false true ea eb e = absurd (true≢false (sym e))
    go false false ea eb e = grind (arith, eqb_tells pin 0, eqb_tells pin 1)

module _ {O E : Type 0} where
  -- So many passes of the round have been marked, and these versions gathered.
  pub record Gathered (n version : ℕ) (v w : View O E) (pass : ℕ) (list : List ℕ) : Type 0 where
    pub found : List Mark
    pub count : length found ≡ pass
    pub round : InRound n v w found
    pub only : (k : ℕ) → Contains list k → IsDue version found k
    pub all : (k : ℕ) → IsDue version found k → Contains list k
    pub few : length list ≤ pass + 1
    pub rises : Rises list

  pub gathers_first : (n version : ℕ) (v : View O E) (turn : TurnView) → v.turn ≡ Some turn → marks_of v.turn ≡ replicate n mark.Blank → 0 < n → (list : List ℕ) → list ≡ version ∷ [] → Gathered n version v v 0 list
  gathers_first n version v turn is blank some list first = record {
    found = [];
    count = refl;
    round = begins n v turn is blank some;
    only = λ k c. ⊎_elim (λ (e : version ≡ k). inl (sym e)) (λ (d : Contains [] k). absurd (let l = d.1 in omega arith)) (contains_cases version k [] (subst (λ (l : List ℕ). Contains l k) first c));
    all = λ k named. ⊎_elim (λ (e : k ≡ version). subst (λ (l : List ℕ). Contains l k) (sym first) (0, omega arith, sym e)) (λ (e : false ≡ true). absurd (true≢false (sym e))) named;
    few = (let e = ap length first in omega arith);
    rises = subst Rises (sym first) (λ a b d l within. absurd (omega arith));
  }

  module _ (n version : ℕ) (v w w' : View O E) (pass : ℕ) (list : List ℕ) (g : Gathered n version v w pass list) (pin : ℕ) (marks : Marks w pass pin w') (settled : is_settled (mark_of pin) ≡ true) (small : pass < n) where
    next : InRound n v w' (g.found ++ mark_of pin ∷ [])
    next = next_marked n v w w' g.found g.round pin (subst (λ (p : ℕ). Marks w p pin w') (sym g.count) marks) settled (let c = g.count in omega arith)

    counted : length (g.found ++ mark_of pin ∷ []) ≡ pass + 1
    counted = length-append g.found (mark_of pin ∷ []) ∙ ap (λ (k : ℕ). k + 1) g.count

    -- an idle pass names nothing
    pub gathers_idle : pin ≡ 0 → Gathered n version v w' (pass + 1) list
    gathers_idle idle = record {
      found = g.found ++ mark_of pin ∷ [];
      count = counted;
      round = next;
      only = λ k c. named_before version g.found (mark_of pin) k (g.only k c);
      all = λ k named. ⊎_elim (λ (b : IsDue version g.found k). g.all k b) (λ (e : names_version k (mark_of pin) ≡ true). absurd (true≢false (sym (sym (ap (λ (x : ℕ). names_version k (mark_of x)) idle) ∙ e))))
          (named_cases version g.found (mark_of pin) k named);
      few = (let f = g.few in omega arith);
      rises = g.rises;
    }

    pub gathers_pinned : (more : List ℕ) → (pin ≡ 0 → ⊥) → Contains more (version_of pin) → ((k : ℕ) → Contains list k → Contains more k) → ((k : ℕ) → Contains more k → (k ≡ version_of pin) ⊎ Contains list k) → length more ≤ length list + 1 → Rises more
        → Gathered n version v w' (pass + 1) more
    gathers_pinned more some has stay only few rises =
        let is = pin_marks pin some settled in record {
          found = g.found ++ mark_of pin ∷ [];
          count = counted;
          round = next;
          only = λ k c. ⊎_elim
              (λ (e : k ≡ version_of pin). subst (λ (m : Mark). IsDue version (g.found ++ m ∷ []) k) (sym is) (subst (λ (x : ℕ). IsDue version (g.found ++ mark.Pinned x ∷ []) k) e (named_last version g.found k)))
              (λ (c' : Contains list k). named_before version g.found (mark_of pin) k (g.only k c')) (only k c);
          all = λ k named. ⊎_elim (λ (b : IsDue version g.found k). stay k (g.all k b))
              (λ (e : names_version k (mark_of pin) ≡ true).
              let t : (version_of pin == k) ≡ true = sym (ap (names_version k) is) ∙ e in
              let same : version_of pin ≡ k = grind (arith, eqb_tells (version_of pin) k) in
              subst (Contains more) same has)
              (named_cases version g.found (mark_of pin) k named);
          few = (let f = g.few in omega arith);
          rises = rises;
        }

  -- when all passes are marked the list is what is kept, and each of its versions but the current one is listed
  module _ (n version : ℕ) (v w : View O E) (list : List ℕ) (g : Gathered n version v w n list) where
    done : w ≡ rounded_view v g.round.turn g.found
    done = g.round.ended (let t = g.round.total in let c = g.count in omega arith)

    gathered_kept : version ≡ length v.seen.history → AllPairs (λ k j. k.version < j.version) (kept_in v.turn) → (current : Kept) → Contains (kept_in v.turn) current → current.version ≡ version → list ≡ map (λ k. k.version) (kept_in w.turn)
    gathered_kept is rising current has newest =
        let kept : kept_in v.turn ≡ g.round.turn.kept = ap kept_in g.round.is_turn in
        gathered_all g.round.turn.kept g.found version (subst (AllPairs (λ k j. k.version < j.version)) kept rising) g.round.named current (subst (λ (ks : List Kept). Contains ks current) kept has) newest list g.rises g.only g.all
        ∙ sym (ap (λ (x : View O E). map (λ (k : Kept). k.version) (kept_in x.turn)) done ∙ ap (λ (m : ℕ). map (λ (k : Kept). k.version) (kept_by_round (turn_of m g.round.turn.kept g.found))) (sym is))

    pub gathered_named : (k : ℕ) → Contains list k → (k ≡ version) ⊎ IsNamed w k
    gathered_named k c = ⊎_elim inl (λ (e : list_any (names_version k) g.found ≡ true). let n = listed_by 0 g.found k e in
        inr (n.0, subst (λ (x : View O E). Contains x.seen.namings n.0) (sym done) (contains_later_list v.seen.namings (namings_by 0 g.found) n.0 n.1), n.2)) (g.only k c)

    pub gathered_round : version ≡ length v.seen.history → AllPairs (λ k j. k.version < j.version) (kept_in v.turn) → (current : Kept) → Contains (kept_in v.turn) current → current.version ≡ version → Rounded v w list
    gathered_round is rising current has newest = record {
      turn = g.round.turn;
      marks = g.found;
      is_turn = g.round.is_turn;
      each = g.count ∙ sym g.round.each;
      settled = g.round.settled;
      named = g.round.named;
      after = done;
      kept = gathered_kept is rising current has newest;
      exact = λ k. ((λ c. subst (λ (m : ℕ). IsDue m g.found k) is (g.only k c)), (λ due. g.all k (subst (λ (m : ℕ). IsDue m g.found k) (sym is) due)));
    }
