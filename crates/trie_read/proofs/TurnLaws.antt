-- A path turned to the next twig, and to the one before.
use Rattle.std.proofs.Common.{◌≡◌, ℕ, suc, ◌+◌, ◌-◌, ◌<◌, ◌≤◌, List, [], ◌++◌, Option, Some, slice_get, slice_set, length, get_or, length-set, ◌≢◌, append-nil, append_assoc, arith, refl, sym, ◌∙◌, ap, subst}
use Rattle.std.proofs.lemmas.List.{get_or-set_same, get_or-set_other}
use Rattle.std.proofs.lemmas.Option.{slice_get-get_or, get_or_from_slice_get, slice_get_within}
use Rattle.trie_model.specs.Keys.{Entry}
use Rattle.trie_model.specs.Trees.{Tree, Twigs, entries_of, entries, count, beside, IsTree}
use Rattle.trie_model.specs.Trees.Tree.{branch}
use Rattle.trie_model.specs.Trees.Twigs.{none, twig}
use Rattle.trie_model.proofs.BitmapLaws.{count-beside, few}
use Rattle.trie_model.proofs.SplitLaws.{entries-beside, rising_of}
use Rattle.trie_read.specs.declared.path.Step.{Step}
use Rattle.trie_read.specs.declared.path.Path.{Path}
use Rattle.trie_read.specs.Walks.{HangsBy, AnyStep, TurnedNext, TurnedBack}
use Rattle.trie_read.proofs.PathLaws.{hangs_kept, shape_above}

pub some_same : (a b : Step) (o : Option Step) → o ≡ Some a → o ≡ Some b → a ≡ b
some_same a b o e f = cc

pub no_twigs : (l : Twigs) → count l ≡ 0 → l ≡ none
no_twigs none e = refl
no_twigs (twig p t rest) e = absurd (omega arith)

beside_assoc : (l : Twigs) (p : ℕ) (t : Tree) (r : Twigs) → beside (beside l (twig p t none)) r ≡ beside l (twig p t r)
beside_assoc none p t r = refl
beside_assoc (twig q u l) p t r = ap (twig q u) (beside_assoc l p t r)

-- ---- to what comes next
-- what was passed so far ends with the tree at this level
pub record PassedTo (steps : List Step) (whole : Tree) (level : ℕ) (passed after : List Entry) : Type 0 where
  pub tree : Tree
  pub front : List Entry
  pub hangs : HangsBy AnyStep steps whole level tree front after
  pub is : front ++ entries_of tree ≡ passed

pub passed_up : (steps : List Step) (whole : Tree) (n : ℕ) (passed after : List Entry) (step : Step) → slice_get steps n ≡ Some step → step.count ≤ step.index + 1 → PassedTo steps whole (suc n) passed after → PassedTo steps whole n passed after
passed_up steps whole n passed after step there last p =
    let h = p.hangs in
    let s = some_same h.step step (slice_get steps n) h.there there in
    let index = h.on.index ∙ ap (λ (x : Step). x.index) s in
    let counted = h.on.whole ∙ ap (λ (x : Step). x.count) s in
    let right = no_twigs h.on.right (omega arith) in
    let back : after ≡ h.on.after_all = h.on.after_is ∙ ap (λ (ts : Twigs). entries ts ++ h.on.after_all) right in
    record {
      tree = branch h.step.offset h.step.twigs (beside h.on.left (twig h.on.position p.tree h.on.right));
      front = h.on.before_all;
      hangs = subst (HangsBy AnyStep steps whole n (branch h.step.offset h.step.twigs (beside h.on.left (twig h.on.position p.tree h.on.right))) h.on.before_all) (sym back) h.on.parent;
      is = ap (λ (es : List Entry). h.on.before_all ++ es) (entries-beside h.on.left (twig h.on.position p.tree h.on.right) ∙ ap (λ (ts : Twigs). entries h.on.left ++ (entries_of p.tree ++ entries ts)) right ∙ ap (λ (es : List Entry). entries h.on.left ++ es) (append-nil (entries_of p.tree)))
          ∙ sym (append_assoc h.on.before_all (entries h.on.left) (entries_of p.tree)) ∙ ap (λ (es : List Entry). es ++ entries_of p.tree) (sym h.on.before_is) ∙ p.is;
    }

pub passed_whole : (steps : List Step) (whole : Tree) (passed after : List Entry) → PassedTo steps whole 0 passed after → after ≡ []
passed_whole steps whole passed after p = p.hangs.2

pub turned_next : (path new : Path) (whole : Tree) (n : ℕ) (passed after : List Entry) (step : Step) → slice_get path.steps n ≡ Some step → step.index + 1 < step.count → PassedTo path.steps whole (suc n) passed after → new.depth ≡ suc n →
    slice_get new.steps n ≡ Some (record step { index = step.index + 1 }) → ((i : ℕ) → i < n → slice_get new.steps i ≡ slice_get path.steps i) → TurnedNext new whole passed after
turned_next path new whole n passed after step there more p depth now kept = go p.hangs.on.right refl
  where
    h : HangsBy AnyStep path.steps whole (suc n) p.tree p.front after
    h = p.hangs

    go : (r : Twigs) → p.hangs.on.right ≡ r → TurnedNext new whole passed after
    go none e = absurd (let s = some_same p.hangs.step step (slice_get path.steps n) p.hangs.there there in let a = p.hangs.on.index ∙ ap (λ (x : Step). x.index) s in let b = p.hangs.on.whole ∙ ap (λ (x : Step). x.count) s in let c = ap count e in omega arith)
    go (twig q u r) e =
        let o = p.hangs.on in
        let s : p.hangs.step ≡ step = some_same p.hangs.step step (slice_get path.steps n) p.hangs.there there in
        let left = beside o.left (twig o.position p.tree none) in
        let c = count-beside o.left (twig o.position p.tree none) in
        let index = o.index ∙ ap (λ (x : Step). x.index) s in
        let counted = o.whole ∙ ap (λ (x : Step). x.count) s ∙ refl in
        let ce = ap count e in
        let same : beside o.left (twig o.position p.tree o.right) ≡ beside left (twig q u r) = ap (λ (ts : Twigs). beside o.left (twig o.position p.tree ts)) e ∙ sym (beside_assoc o.left o.position p.tree (twig q u r)) in
        let parent : HangsBy AnyStep new.steps whole n (branch step.offset step.twigs (beside left (twig q u r))) o.before_all o.after_all =
        hangs_kept AnyStep AnyStep (λ a b c d x. x) path.steps new.steps whole n kept (branch step.offset step.twigs (beside left (twig q u r))) o.before_all o.after_all
        (subst (λ (x : Step). HangsBy AnyStep path.steps whole n (branch x.offset x.twigs (beside left (twig q u r))) o.before_all o.after_all) s
        (subst (λ (ts : Twigs). HangsBy AnyStep path.steps whole n (branch p.hangs.step.offset p.hangs.step.twigs ts) o.before_all o.after_all) same o.parent)) in
        let front : passed ≡ o.before_all ++ entries left =
        sym p.is ∙ ap (λ (es : List Entry). es ++ entries_of p.tree) o.before_is ∙ append_assoc o.before_all (entries o.left) (entries_of p.tree)
        ∙ ap (λ (es : List Entry). o.before_all ++ es) (ap (λ (es : List Entry). entries o.left ++ es) (sym (append-nil (entries_of p.tree))) ∙ sym (entries-beside o.left (twig o.position p.tree none))) in
        let here : HangsBy AnyStep new.steps whole (suc n) u passed (entries r ++ o.after_all) = record {
          step = record step { index = step.index + 1 };
          there = now;
          on = record { left = left; position = q; right = r; before_all = o.before_all; after_all = o.after_all; parent = parent; index = omega arith; whole = omega arith; before_is = front; after_is = refl };
          so = tt;
        } in
        record {
          tree = u;
          rest = entries r ++ o.after_all;
          is = o.after_is ∙ ap (λ (ts : Twigs). entries ts ++ o.after_all) e ∙ append_assoc (entries_of u) (entries r) o.after_all;
          hangs = subst (λ (k : ℕ). HangsBy AnyStep new.steps whole k u passed (entries r ++ o.after_all)) (sym depth) here;
        }

-- ---- to what comes right before
pub record AheadFrom (steps : List Step) (whole : Tree) (level : ℕ) (before ahead : List Entry) : Type 0 where
  pub tree : Tree
  pub rest : List Entry
  pub hangs : HangsBy AnyStep steps whole level tree before rest
  pub is : entries_of tree ++ rest ≡ ahead

pub ahead_up : (steps : List Step) (whole : Tree) (n : ℕ) (before ahead : List Entry) (step : Step) → slice_get steps n ≡ Some step → step.index ≡ 0 → AheadFrom steps whole (suc n) before ahead → AheadFrom steps whole n before ahead
ahead_up steps whole n before ahead step there first p =
    let h = p.hangs in
    let s = some_same h.step step (slice_get steps n) h.there there in
    let index = h.on.index ∙ ap (λ (x : Step). x.index) s in
    let left = no_twigs h.on.left (omega arith) in
    let front : before ≡ h.on.before_all = h.on.before_is ∙ ap (λ (ts : Twigs). h.on.before_all ++ entries ts) left ∙ append-nil h.on.before_all in
    record {
      tree = branch h.step.offset h.step.twigs (beside h.on.left (twig h.on.position p.tree h.on.right));
      rest = h.on.after_all;
      hangs = subst (λ (es : List Entry). HangsBy AnyStep steps whole n (branch h.step.offset h.step.twigs (beside h.on.left (twig h.on.position p.tree h.on.right))) es h.on.after_all) (sym front) h.on.parent;
      is = ap (λ (ts : Twigs). entries (beside ts (twig h.on.position p.tree h.on.right)) ++ h.on.after_all) left ∙ append_assoc (entries_of p.tree) (entries h.on.right) h.on.after_all ∙ ap (λ (es : List Entry). entries_of p.tree ++ es) (sym h.on.after_is) ∙ p.is;
    }

pub ahead_whole : (steps : List Step) (whole : Tree) (before ahead : List Entry) → AheadFrom steps whole 0 before ahead → before ≡ []
ahead_whole steps whole before ahead p = p.hangs.1

record LastTwig (l : Twigs) : Type 0 where
  left : Twigs
  position : ℕ
  tree : Tree
  is : l ≡ beside left (twig position tree none)

last_twig : (l : Twigs) → 0 < count l → LastTwig l
last_twig none some = absurd (omega arith)
last_twig (twig p t none) some = record { left = none; position = p; tree = t; is = refl }
last_twig (twig p t (twig q u rest)) some = let x = last_twig (twig q u rest) (omega arith) in record { left = twig p t x.left; position = x.position; tree = x.tree; is = ap (twig p t) x.is }

pub turned_back : (path new : Path) (whole : Tree) (n : ℕ) (before ahead : List Entry) (step : Step) → slice_get path.steps n ≡ Some step → 0 < step.index → AheadFrom path.steps whole (suc n) before ahead → new.depth ≡ suc n →
    slice_get new.steps n ≡ Some (record step { index = step.index - 1 }) → ((i : ℕ) → i < n → slice_get new.steps i ≡ slice_get path.steps i) → TurnedBack new whole before ahead
turned_back path new whole n before ahead step there more p depth now kept =
    let o = p.hangs.on in
    let s : p.hangs.step ≡ step = some_same p.hangs.step step (slice_get path.steps n) p.hangs.there there in
    let index = o.index ∙ ap (λ (x : Step). x.index) s in
    let counted = o.whole ∙ ap (λ (x : Step). x.count) s in
    let l = last_twig o.left (omega arith) in
    let c = ap count l.is ∙ count-beside l.left (twig l.position l.tree none) in
    let right = twig o.position p.tree o.right in
    let same : beside o.left (twig o.position p.tree o.right) ≡ beside l.left (twig l.position l.tree right) = ap (λ (ts : Twigs). beside ts right) l.is ∙ beside_assoc l.left l.position l.tree right in
    let parent : HangsBy AnyStep new.steps whole n (branch step.offset step.twigs (beside l.left (twig l.position l.tree right))) o.before_all o.after_all =
    hangs_kept AnyStep AnyStep (λ a b c d x. x) path.steps new.steps whole n kept (branch step.offset step.twigs (beside l.left (twig l.position l.tree right))) o.before_all o.after_all
    (subst (λ (x : Step). HangsBy AnyStep path.steps whole n (branch x.offset x.twigs (beside l.left (twig l.position l.tree right))) o.before_all o.after_all) s
    (subst (λ (ts : Twigs). HangsBy AnyStep path.steps whole n (branch p.hangs.step.offset p.hangs.step.twigs ts) o.before_all o.after_all) same o.parent)) in
    let back : ahead ≡ entries right ++ o.after_all = sym p.is ∙ ap (λ (es : List Entry). entries_of p.tree ++ es) o.after_is ∙ sym (append_assoc (entries_of p.tree) (entries o.right) o.after_all) in
    let here : HangsBy AnyStep new.steps whole (suc n) l.tree (o.before_all ++ entries l.left) ahead = record {
      step = record step { index = step.index - 1 };
      there = now;
      on = record { left = l.left; position = l.position; right = right; before_all = o.before_all; after_all = o.after_all; parent = parent; index = omega arith; whole = omega arith; before_is = refl; after_is = back };
      so = tt;
    } in
    record {
      tree = l.tree;
      rest = o.before_all ++ entries l.left;
      is = o.before_is ∙ ap (λ (es : List Entry). o.before_all ++ es) (ap entries l.is ∙ entries-beside l.left (twig l.position l.tree none) ∙ ap (λ (es : List Entry). entries l.left ++ es) (append-nil (entries_of l.tree))) ∙ sym (append_assoc o.before_all (entries l.left) (entries_of l.tree));
      hangs = subst (λ (k : ℕ). HangsBy AnyStep new.steps whole k l.tree (o.before_all ++ entries l.left) ahead) (sym depth) here;
    }

-- ---- as a walk up the path finds it
set_here : (steps : List Step) (n : ℕ) (s : Step) → n < length steps → slice_get (slice_set steps n s) n ≡ Some s
set_here steps n s l = slice_get-get_or (slice_set steps n s) n s (let e = length-set steps n s in omega arith) ∙ ap (λ (x : Step). Some x) (get_or-set_same steps n s s l)

set_below : (steps : List Step) (n i : ℕ) (s : Step) → n < length steps → i < n → slice_get (slice_set steps n s) i ≡ slice_get steps i
set_below steps n i s l m =
    let other : i ≢ n = omega arith in
    slice_get-get_or (slice_set steps n s) i s (let e = length-set steps n s in omega arith) ∙ ap (λ (x : Step). Some x) (get_or-set_other steps n i s s other) ∙ sym (slice_get-get_or steps i s (omega arith))

pub next_up : (now old : Path) (whole : Tree) (level : ℕ) (passed after : List Entry) (d : Step) → now ≡ old → 0 < level → (get_or now.steps (level - 1) d).count ≤ (get_or now.steps (level - 1) d).index + 1 → PassedTo old.steps whole level passed after → PassedTo old.steps whole (level - 1) passed after
next_up now old whole level passed after d same some last p =
    let n : level ≡ suc (level - 1) = omega arith in
    let q = subst (λ (k : ℕ). PassedTo old.steps whole k passed after) n p in
    let e : get_or now.steps (level - 1) d ≡ q.hangs.step = ap (λ (x : Path). get_or x.steps (level - 1) d) same ∙ get_or_from_slice_get old.steps (level - 1) q.hangs.step d q.hangs.there in
    passed_up old.steps whole (level - 1) passed after q.hangs.step q.hangs.there (subst (λ (s : Step). s.count ≤ s.index + 1) e last) q

pub next_turn : (now old : Path) (whole : Tree) (level : ℕ) (passed after : List Entry) (d : Step) → now ≡ old → 0 < level → (get_or now.steps (level - 1) d).index + 1 < (get_or now.steps (level - 1) d).count → PassedTo old.steps whole level passed after →
    TurnedNext (record { steps = slice_set now.steps (level - 1) (record (get_or now.steps (level - 1) d) { index = (get_or now.steps (level - 1) d).index + 1 }); depth = level }) whole passed after
next_turn now old whole level passed after d same some more p =
    let n : level ≡ suc (level - 1) = omega arith in
    let q = subst (λ (k : ℕ). PassedTo old.steps whole k passed after) n p in
    let s = get_or now.steps (level - 1) d in
    let e : s ≡ q.hangs.step = ap (λ (x : Path). get_or x.steps (level - 1) d) same ∙ get_or_from_slice_get old.steps (level - 1) q.hangs.step d q.hangs.there in
    let steps = ap (λ (x : Path). x.steps) same in
    let inside : level - 1 < length now.steps = let l = slice_get_within old.steps (level - 1) q.hangs.step q.hangs.there in let m = ap (λ (x : Path). length x.steps) same in omega arith in
    turned_next old (record { steps = slice_set now.steps (level - 1) (record s { index = s.index + 1 }); depth = level }) whole (level - 1) passed after q.hangs.step q.hangs.there (subst (λ (x : Step). x.index + 1 < x.count) e more) q n
    (set_here now.steps (level - 1) (record s { index = s.index + 1 }) inside ∙ ap (λ (x : Step). Some (record x { index = x.index + 1 })) e)
    (λ i l. set_below now.steps (level - 1) i (record s { index = s.index + 1 }) inside l ∙ ap (λ (x : List Step). slice_get x i) steps)

pub back_up : (now old : Path) (whole : Tree) (level : ℕ) (before ahead : List Entry) (d : Step) → now ≡ old → 0 < level → (get_or now.steps (level - 1) d).index ≤ 0 → AheadFrom old.steps whole level before ahead → AheadFrom old.steps whole (level - 1) before ahead
back_up now old whole level before ahead d same some first p =
    let n : level ≡ suc (level - 1) = omega arith in
    let q = subst (λ (k : ℕ). AheadFrom old.steps whole k before ahead) n p in
    let e : get_or now.steps (level - 1) d ≡ q.hangs.step = ap (λ (x : Path). get_or x.steps (level - 1) d) same ∙ get_or_from_slice_get old.steps (level - 1) q.hangs.step d q.hangs.there in
    let zero_index = subst (λ (s : Step). s.index ≤ 0) e first in
    ahead_up old.steps whole (level - 1) before ahead q.hangs.step q.hangs.there (omega arith) q

pub back_turn : (now old : Path) (whole : Tree) (level : ℕ) (before ahead : List Entry) (d : Step) → now ≡ old → 0 < level → 0 < (get_or now.steps (level - 1) d).index → AheadFrom old.steps whole level before ahead →
    TurnedBack (record { steps = slice_set now.steps (level - 1) (record (get_or now.steps (level - 1) d) { index = (get_or now.steps (level - 1) d).index - 1 }); depth = level }) whole before ahead
back_turn now old whole level before ahead d same some more p =
    let n : level ≡ suc (level - 1) = omega arith in
    let q = subst (λ (k : ℕ). AheadFrom old.steps whole k before ahead) n p in
    let s = get_or now.steps (level - 1) d in
    let e : s ≡ q.hangs.step = ap (λ (x : Path). get_or x.steps (level - 1) d) same ∙ get_or_from_slice_get old.steps (level - 1) q.hangs.step d q.hangs.there in
    let steps = ap (λ (x : Path). x.steps) same in
    let inside : level - 1 < length now.steps = let l = slice_get_within old.steps (level - 1) q.hangs.step q.hangs.there in let m = ap (λ (x : Path). length x.steps) same in omega arith in
    turned_back old (record { steps = slice_set now.steps (level - 1) (record s { index = s.index - 1 }); depth = level }) whole (level - 1) before ahead q.hangs.step q.hangs.there (subst (λ (x : Step). 0 < x.index) e more) q n
    (set_here now.steps (level - 1) (record s { index = s.index - 1 }) inside ∙ ap (λ (x : Step). Some (record x { index = x.index - 1 })) e)
    (λ i l. set_below now.steps (level - 1) i (record s { index = s.index - 1 }) inside l ∙ ap (λ (x : List Step). slice_get x i) steps)

pub step_small : (steps : List Step) (whole : Tree) (n : ℕ) (t : Tree) (before after : List Entry) → IsTree 0 whole → (h : HangsBy AnyStep steps whole (suc n) t before after) → h.step.index + 1 ≤ 47
step_small steps whole n t before after shape h =
    let up = shape_above AnyStep steps whole shape n t before after h in
    let r = few 0 47 (beside h.on.left (twig h.on.position t h.on.right)) (rising_of h.step.offset 0 (beside h.on.left (twig h.on.position t h.on.right)) (let z : 0 ≤ 47 = omega arith in z) up.5) in
    let c = count-beside h.on.left (twig h.on.position t h.on.right) in let i = h.on.index in omega arith

pub next_small : (now old : Path) (whole : Tree) (level : ℕ) (passed after : List Entry) (d : Step) → now ≡ old → 0 < level → IsTree 0 whole → PassedTo old.steps whole level passed after → (get_or now.steps (level - 1) d).index + 1 ≤ 47
next_small now old whole level passed after d same some shape p =
    let n : level ≡ suc (level - 1) = omega arith in
    let q = subst (λ (k : ℕ). PassedTo old.steps whole k passed after) n p in
    let e : get_or now.steps (level - 1) d ≡ q.hangs.step = ap (λ (x : Path). get_or x.steps (level - 1) d) same ∙ get_or_from_slice_get old.steps (level - 1) q.hangs.step d q.hangs.there in
    subst (λ (s : Step). s.index + 1 ≤ 47) (sym e) (step_small old.steps whole (level - 1) q.tree q.front after shape q.hangs)
