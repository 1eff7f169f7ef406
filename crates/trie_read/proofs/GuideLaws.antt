-- A path that a key guides, and what stands on each side of its end.
use Rattle.std.proofs.Common.{◌≡◌, ℕ, zero, suc, ◌-◌, ◌/◌, ◌%◌, ◌^◌, ◌<◌, ◌≤◌, ◌⊎◌, List, [], ◌∷◌, ◌++◌, Some, slice_get, get_or, count_ones, append_assoc, arith, inl, inr, refl, sym, ◌∙◌, ap, subst}
use Rattle.std.proofs.lemmas.Bool.{cases_lt}
use Rattle.std.proofs.lemmas.Option.{get_or_from_slice_get}
use Rattle.packed_node.specs.declared.Cell.{Cell}
use Rattle.packed_node.specs.declared.Branch.{Branch}
use Rattle.trie_model.specs.Extents.{Extents}
use Rattle.trie_model.specs.Keys.{at, Same, IsKey, Entry, InList, Less, Rises}
use Rattle.trie_model.specs.Order.{IsSplitAt}
use Rattle.trie_model.specs.Trees.{Rising, Tree, Twigs, entries_of, entries, count, bitmap_of, beside, IsTree, AreTwigs}
use Rattle.trie_model.specs.Trees.Tree.{leaf, branch}
use Rattle.trie_model.specs.Trees.Twigs.{none, twig}
use Rattle.trie_model.proofs.KeyLaws.{in_left, in_right, in_both}
use Rattle.trie_model.proofs.BitmapLaws.{count-beside}
use Rattle.trie_model.proofs.SplitLaws.{Found, Missing, look, rising_of, keys_lower, keys_upper, twigs_left, entries-beside}
use Rattle.trie_model.proofs.SideLaws.{AgreesWith, agrees_with, lower_left, upper_right}
use Rattle.trie_read.specs.declared.path.Step.{Step}
use Rattle.trie_read.specs.declared.path.Path.{Path}
use Rattle.trie_read.specs.Finds.{IsBranchOf}
use Rattle.trie_read.specs.Walks.{step_of, HangsBy, Guided, CutAt}
use Rattle.trie_read.proofs.TwigLaws.{Ith}
use Rattle.trie_read.proofs.PathLaws.{shape_above, below_step, at_depth}
use Rattle.trie_read.proofs.TurnLaws.{some_same}

-- ---- twigs cut at places
same_rest : (p q : ℕ) (t u : Tree) (r s : Twigs) → twig p t r ≡ twig q u s → r ≡ s
same_rest p q t u r s e = cc

same_first : (p q : ℕ) (t u : Tree) (r s v : Twigs) → twig p t r ≡ twig q u s → twig p t v ≡ twig q u v
same_first p q t u r s v e = cc

-- at one place in two ways
cut_same : (l m r s : Twigs) → beside l r ≡ beside m s → count l ≡ count m → (l ≡ m) × (r ≡ s)
cut_same none none r s e n = (refl, e)
cut_same none (twig q u m) r s e n = absurd (omega arith)
cut_same (twig p t l) none r s e n = absurd (omega arith)
cut_same (twig p t l) (twig q u m) r s e n =
    let c = cut_same l m r s (same_rest p q t u (beside l r) (beside m s) e) (omega arith) in
    (same_first p q t u (beside l r) (beside m s) l e ∙ ap (twig q u) c.0, c.1)

-- at two neighbouring ones
cut_again : (l left right r : Twigs) (p : ℕ) (t : Tree) → beside l (twig p t r) ≡ beside left right → suc (count l) ≡ count left → (left ≡ beside l (twig p t none)) × (r ≡ right)
cut_again none none right r p t e n = absurd (omega arith)
cut_again none (twig q u none) right r p t e n = (sym (same_first p q t u r right none e), same_rest p q t u r right e)
cut_again none (twig q u (twig v w more)) right r p t e n = absurd (omega arith)
cut_again (twig a b l) none right r p t e n = absurd (omega arith)
cut_again (twig a b l) (twig q u left) right r p t e n =
    let c = cut_again l left right r p t (same_rest a q b u (beside l (twig p t r)) (beside left right) e) (omega arith) in
    (ap (twig q u) c.0 ∙ sym (same_first a q b u (beside l (twig p t r)) (beside left right) (beside l (twig p t none)) e), c.1)

-- positions that rise
rising_front : (lo hi : ℕ) (l : Twigs) (p : ℕ) (t : Tree) → Rising lo hi (beside l (twig p t none)) → Rising lo hi l
rising_front lo hi none p t r = let a = r.0 in let b = r.1 in omega arith
rising_front lo hi (twig q u l) p t r = (r.0, r.1, rising_front (suc q) hi l p t r.2)

rising_from : (lo hi n : ℕ) (ts : Twigs) → n ≤ lo → Rising lo hi ts → Rising n hi ts
rising_from lo hi n none l r = omega arith
rising_from lo hi n (twig q u ts) l r = (let a = r.0 in omega arith, r.1, r.2)

-- ---- the step that the key chooses
pub guided_step : (has : ℕ → Cell → Type 0) (k : List ℕ) (b : Branch) (below : Twigs) (i : ℕ) (x : Ith has b.offset b.twigs i below) → IsBranchOf has b below → IsKey k →
    ((b.bitmap / 2 ^ at k b.offset) % 2 ≡ 1 → i ≡ count_ones (b.bitmap % 2 ^ at k b.offset)) → (((b.bitmap / 2 ^ at k b.offset) % 2 ≡ 1 → ⊥) → i ≡ count_ones (b.bitmap % 2 ^ at k b.offset) - 1) → Guided k (step_of b i) x.left x.tree x.right
guided_step has k b below i x h is there absent =
    elim (look 0 47 (at k b.offset) below (let z : 0 ≤ at k b.offset = omega arith in z) (is.positions b.offset) (rising_of b.offset 0 below (let z : 0 ≤ 47 = omega arith in z) h.tree.5)) [ inl f ↦ found f | inr m ↦ missing m ]
  where
    bits : (n : ℕ) → count_ones (bitmap_of below % 2 ^ at k b.offset) ≡ n → count_ones (b.bitmap % 2 ^ at k b.offset) ≡ n
    bits n e = ap (λ (m : ℕ). count_ones (m % 2 ^ at k b.offset)) h.bitmap ∙ e

    found : Found 0 47 (at k b.offset) below → Rising 0 (at k b.offset) x.left × Rising (suc (at k b.offset)) 47 x.right
    found f =
        let n = bits (count f.left) f.index in
        let index = there (subst (λ (m : ℕ). (m / 2 ^ at k b.offset) % 2 ≡ 1) (sym h.bitmap) f.bit) in
        let c = cut_same x.left f.left (twig x.position x.tree x.right) (twig (at k b.offset) f.here f.rest) (sym x.is ∙ f.is) (let p = x.place in omega arith) in
        let rest = same_rest x.position (at k b.offset) x.tree f.here x.right f.rest c.1 in
        (subst (Rising 0 (at k b.offset)) (sym c.0) f.lower, subst (Rising (suc (at k b.offset)) 47) (sym rest) f.upper)

    missing : Missing 0 47 (at k b.offset) below → Rising 0 (at k b.offset) x.left × Rising (suc (at k b.offset)) 47 x.right
    missing m =
        let n = bits (count m.left) m.index in
        let clear : (b.bitmap / 2 ^ at k b.offset) % 2 ≡ 0 = subst (λ (w : ℕ). (w / 2 ^ at k b.offset) % 2 ≡ 0) (sym h.bitmap) m.bit in
        let index = absent (λ e. omega arith) in
        elim (cases_lt 0 (count m.left)) [
          | inl some ↦ (
              let c = cut_again x.left m.left m.right x.right x.position x.tree (sym x.is ∙ m.is) (let p = x.place in omega arith) in
              (rising_front 0 (at k b.offset) x.left x.position x.tree (subst (Rising 0 (at k b.offset)) c.0 m.lower), subst (Rising (suc (at k b.offset)) 47) (sym c.1) m.upper)
              )
          | inr nothing ↦ (
              let c = cut_same x.left m.left (twig x.position x.tree x.right) m.right (sym x.is ∙ m.is) (let p = x.place in omega arith) in
              let r = subst (Rising (suc (at k b.offset)) 47) (sym c.1) m.upper in
              (subst (Rising 0 (at k b.offset)) (sym c.0) m.lower, rising_from (suc x.position) 47 (suc (at k b.offset)) x.right (let a = r.0 in omega arith) r.2)
              )
        ]

pub nearest_inside : (has : ℕ → Cell → Type 0) (k : List ℕ) (b : Branch) (below : Twigs) (i : ℕ) → IsBranchOf has b below → IsKey k →
    ((b.bitmap / 2 ^ at k b.offset) % 2 ≡ 1 → i ≡ count_ones (b.bitmap % 2 ^ at k b.offset)) → (((b.bitmap / 2 ^ at k b.offset) % 2 ≡ 1 → ⊥) → i ≡ count_ones (b.bitmap % 2 ^ at k b.offset) - 1) → i < count below
nearest_inside has k b below i h is there absent =
    elim (look 0 47 (at k b.offset) below (let z : 0 ≤ at k b.offset = omega arith in z) (is.positions b.offset) (rising_of b.offset 0 below (let z : 0 ≤ 47 = omega arith in z) h.tree.5)) [ inl f ↦ found f | inr m ↦ missing m ]
  where
    bits : (n : ℕ) → count_ones (bitmap_of below % 2 ^ at k b.offset) ≡ n → count_ones (b.bitmap % 2 ^ at k b.offset) ≡ n
    bits n e = ap (λ (m : ℕ). count_ones (m % 2 ^ at k b.offset)) h.bitmap ∙ e

    found : Found 0 47 (at k b.offset) below → i < count below
    found f =
        let n = bits (count f.left) f.index in
        let index = there (subst (λ (m : ℕ). (m / 2 ^ at k b.offset) % 2 ≡ 1) (sym h.bitmap) f.bit) in
        let c = ap count f.is ∙ count-beside f.left (twig (at k b.offset) f.here f.rest) in omega arith

    missing : Missing 0 47 (at k b.offset) below → i < count below
    missing m =
        let n = bits (count m.left) m.index in
        let clear : (b.bitmap / 2 ^ at k b.offset) % 2 ≡ 0 = subst (λ (w : ℕ). (w / 2 ^ at k b.offset) % 2 ≡ 0) (sym h.bitmap) m.bit in
        let index = absent (λ e. omega arith) in
        let c = ap count m.is ∙ count-beside m.left m.right in let two = h.tree.3 in omega arith

-- ---- the sides of a path whose last branch lies before the key's first difference from what is below
pub in_parent : (o w : ℕ) (l r : Twigs) (p : ℕ) (t : Tree) (y : Entry) → InList y (entries_of t) → InList y (entries_of (branch o w (beside l (twig p t r))))
in_parent o w l r p t y i = subst (InList y) (sym (entries-beside l (twig p t r))) (in_right y (entries l) (entries_of t ++ entries r) (in_left y (entries_of t) (entries r) i))

-- the twigs behind one
pub twigs_behind : (o lo : ℕ) (l r : Twigs) (p : ℕ) (t : Tree) → AreTwigs o lo (beside l (twig p t r)) → AreTwigs o (suc p) r
twigs_behind o lo none r p t a = a.4
twigs_behind o lo (twig q u rest) r p t a = twigs_behind o (suc q) rest r p t a.4

-- a step before the last one lies before
pub earlier : (k : List ℕ) (steps : List Step) (whole : Tree) → IsTree 0 whole → (n : ℕ) (t : Tree) (before after : List Entry) (h : HangsBy (Guided k) steps whole (suc n) t before after) (m : ℕ) (step : Step) → suc m ≡ n → slice_get steps m ≡ Some step → step.offset < h.step.offset
earlier k steps whole shape n t before after h m step e there =
    let up = shape_above (Guided k) steps whole shape n t before after h in
    let q : HangsBy (Guided k) steps whole (suc m) (branch h.step.offset h.step.twigs (beside h.on.left (twig h.on.position t h.on.right))) h.on.before_all h.on.after_all = at_depth (Guided k) steps whole n (suc m) (branch h.step.offset h.step.twigs (beside h.on.left (twig h.on.position t h.on.right))) h.on.before_all h.on.after_all (sym e) h.on.parent in
    let s = ap (λ (z : Step). z.offset) (some_same q.step step (slice_get steps m) q.there there) in
    let tree = below_step (Guided k) steps whole shape m (branch h.step.offset h.step.twigs (beside h.on.left (twig h.on.position t h.on.right))) h.on.before_all h.on.after_all q in
    let a = tree.0 in omega arith

-- the key agrees before the branch with all that hangs on it, and the twigs beside the step's are on their sides
pub with_all : (k : List ℕ) (steps : List Step) (whole : Tree) → IsTree 0 whole → (n : ℕ) (t : Tree) (before after : List Entry) (h : HangsBy (Guided k) steps whole (suc n) t before after) (y : Entry) → InList y (entries_of t) → Same h.step.offset k y.key →
    AgreesWith h.step.offset k (entries (beside h.on.left (twig h.on.position t h.on.right)))
with_all k steps whole shape n t before after h y i same =
    let up = shape_above (Guided k) steps whole shape n t before after h in
    agrees_with h.step.offset k (entries (beside h.on.left (twig h.on.position t h.on.right))) y up.4 (in_parent h.step.offset h.step.twigs h.on.left h.on.right h.on.position t y i) same

pub in_front : (l s : Twigs) (x : Entry) → InList x (entries l) → InList x (entries (beside l s))
in_front l s x i = subst (InList x) (sym (entries-beside l s)) (in_left x (entries l) (entries s) i)

in_back : (l r : Twigs) (p : ℕ) (t : Tree) (x : Entry) → InList x (entries r) → InList x (entries (beside l (twig p t r)))
in_back l r p t x i = subst (InList x) (sym (entries-beside l (twig p t r))) (in_right x (entries l) (entries_of t ++ entries r) (in_right x (entries_of t) (entries r) i))

pub guided_sides : (k : List ℕ) (steps : List Step) (whole : Tree) → IsTree 0 whole → (n : ℕ) (t : Tree) (before after : List Entry) → HangsBy (Guided k) steps whole n t before after → (y : Entry) → InList y (entries_of t) → (place : ℕ) → Same place k y.key →
    ((m : ℕ) (step : Step) → suc m ≡ n → slice_get steps m ≡ Some step → step.offset ≤ place) → ((x : Entry) → InList x before → Less x.key k) × ((x : Entry) → InList x after → Less k x.key)
guided_sides k steps whole shape zero t before after h y i place same early = (λ x j. absurd (subst (InList x) h.1 j), λ x j. absurd (subst (InList x) h.2 j))
guided_sides k steps whole shape (suc n) t before after h y i place same early =
    let o = early n h.step refl h.there in
    let up = shape_above (Guided k) steps whole shape n t before after h in
    let more = guided_sides k steps whole shape n (branch h.step.offset h.step.twigs (beside h.on.left (twig h.on.position t h.on.right))) h.on.before_all h.on.after_all h.on.parent y (in_parent h.step.offset h.step.twigs h.on.left h.on.right h.on.position t y i) place same
    (λ m step e there. (let d = earlier k steps whole shape n t before after h m step e there in omega arith)) in
    let with_k = with_all k steps whole shape n t before after h y i (λ j l. same j (omega arith)) in
    let left = lower_left h.step.offset 0 k h.on.left (twigs_left h.step.offset 0 h.on.left (twig h.on.position t h.on.right) up.5) h.so.0 (λ x j. with_k x (in_front h.on.left (twig h.on.position t h.on.right) x j)) in
    let right = upper_right h.step.offset (suc h.on.position) k h.on.right (twigs_behind h.step.offset 0 h.on.left h.on.right h.on.position t up.5) h.so.1 (λ x j. with_k x (in_back h.on.left h.on.right h.on.position t x j)) in (
      λ x j. elim (in_both x h.on.before_all (entries h.on.left) (subst (InList x) h.on.before_is j)) [ inl a ↦ more.0 x a | inr b ↦ left x b ],
      λ x j. elim (in_both x (entries h.on.right) h.on.after_all (subst (InList x) h.on.after_is j)) [ inl a ↦ right x a | inr b ↦ more.1 x b ],
    )

-- what is beside the path's end reads otherwise than the key at a branch that the path passes
pub guided_apart : (k : List ℕ) (steps : List Step) (whole : Tree) → IsTree 0 whole → (n : ℕ) (t : Tree) (before after : List Entry) → HangsBy (Guided k) steps whole n t before after → (place : ℕ) →
    ((m : ℕ) (step : Step) → suc m ≡ n → slice_get steps m ≡ Some step → step.offset ≤ place) → (x : Entry) → InList x before ⊎ InList x after → Same (suc place) k x.key → ⊥
guided_apart k steps whole shape zero t before after h place early x side same = elim side [ inl a ↦ subst (InList x) h.1 a | inr b ↦ subst (InList x) h.2 b ]
guided_apart k steps whole shape (suc n) t before after h place early x side same =
    let o = early n h.step refl h.there in
    let up = shape_above (Guided k) steps whole shape n t before after h in
    let more = guided_apart k steps whole shape n (branch h.step.offset h.step.twigs (beside h.on.left (twig h.on.position t h.on.right))) h.on.before_all h.on.after_all h.on.parent place
    (λ m step e there. (let d = earlier k steps whole shape n t before after h m step e there in omega arith)) x in
    let reads : at k h.step.offset ≡ at x.key h.step.offset = same h.step.offset (omega arith) in
    elim side [
      | inl a ↦ elim (in_both x h.on.before_all (entries h.on.left) (subst (InList x) h.on.before_is a)) [
        | inl b ↦ more (inl b) same
        | inr b ↦ (let l = keys_lower h.step.offset 0 (at k h.step.offset) h.on.left (twigs_left h.step.offset 0 h.on.left (twig h.on.position t h.on.right) up.5) h.so.0 x b in omega arith)
      ]
      | inr a ↦ elim (in_both x (entries h.on.right) h.on.after_all (subst (InList x) h.on.after_is a)) [
        | inl b ↦ (let u = keys_upper h.step.offset (suc h.on.position) (suc (at k h.step.offset)) 47 h.on.right (twigs_behind h.step.offset 0 h.on.left h.on.right h.on.position t up.5) h.so.1 x b in omega arith)
        | inr b ↦ more (inr b) same
      ]
    ]

-- ---- the split of the list
pub rises_parts : (xs ys : List Entry) → Rises (xs ++ ys) → ((x y : Entry) → InList x xs → InList y ys → Less x.key y.key) × Rises ys
rises_parts [] ys r = (λ x y i. absurd i, r)
rises_parts (z ∷ xs) ys r = let p = rises_parts xs ys r.1 in (λ x y i j. elim i [ inl e ↦ subst (λ (w : Entry). Less w.key y.key) (sym e) (r.0 y (in_right y xs ys j)) | inr l ↦ p.0 x y l j ], p.1)

-- at an entry that has the key
pub split_here : (k : List ℕ) (version before after : List Entry) (e : Entry) → Rises version → version ≡ before ++ (e ∷ after) → e.key ≡ k → IsSplitAt k version before (e ∷ after)
split_here k version before after e rises whole same =
    let p = rises_parts before (e ∷ after) (subst Rises whole rises) in
    record {
      whole = whole;
      lower = λ x i. subst (Less x.key) same (p.0 x e i (inl refl));
      upper = λ x i. elim i [ inl h ↦ inl (sym (ap (λ (z : Entry). z.key) h ∙ same)) | inr h ↦ inr (subst (λ (z : List ℕ). Less z x.key) same (p.1.0 x h)) ];
    }

-- after entries that are all before the key
pub split_after : (k : List ℕ) (version before part after : List Entry) → version ≡ before ++ (part ++ after) → ((x : Entry) → InList x before → Less x.key k) → ((x : Entry) → InList x part → Less x.key k) → ((x : Entry) → InList x after → Less k x.key) → IsSplitAt k version (before ++ part) after
split_after k version before part after whole l m u = record { whole = whole ∙ sym (append_assoc before part after); lower = λ x i. elim (in_both x before part i) [ inl a ↦ l x a | inr b ↦ m x b ]; upper = λ x i. inr (u x i) }

-- before entries that are all after it
pub split_before : (k : List ℕ) (version before part after : List Entry) → version ≡ before ++ (part ++ after) → ((x : Entry) → InList x before → Less x.key k) → ((x : Entry) → InList x part → Less k x.key) → ((x : Entry) → InList x after → Less k x.key) → IsSplitAt k version before (part ++ after)
split_before k version before part after whole l m u = record { whole = whole; lower = l; upper = λ x i. inr (elim (in_both x part after i) [ inl a ↦ m x a | inr b ↦ u x b ]) }

-- all that read as an entry does up to the first difference are on its side
pub all_before : (k : List ℕ) (e : Entry) (es : List Entry) (place : ℕ) → Same place k e.key → at e.key place < at k place → ((x : Entry) → InList x es → Same (suc place) x.key e.key) → (x : Entry) → InList x es → Less x.key k
all_before k e es place same less alike x i = record { place = place; same = λ j l. alike x i j (omega arith) ∙ sym (same j l); lower = (let r = alike x i place (omega arith) in omega arith) }

pub all_after : (k : List ℕ) (e : Entry) (es : List Entry) (place : ℕ) → Same place k e.key → at k place < at e.key place → ((x : Entry) → InList x es → Same (suc place) x.key e.key) → (x : Entry) → InList x es → Less k x.key
all_after k e es place same less alike x i = record { place = place; same = λ j l. same j l ∙ sym (alike x i j (omega arith)); lower = (let r = alike x i place (omega arith) in omega arith) }

-- ---- the path cut
pub record CutTo (key : List ℕ) (steps : List Step) (depth : ℕ) (whole : Tree) (e : Entry) (place : ℕ) : Type 0 where
  pub tree : Tree
  pub before : List Entry
  pub after : List Entry
  pub hangs : HangsBy (Guided key) steps whole depth tree before after
  pub there : InList e (entries_of tree)
  pub alike : (x : Entry) → InList x (entries_of tree) → Same (suc place) x.key e.key

pub cut_start : (key : List ℕ) (steps : List Step) (depth : ℕ) (whole : Tree) (e : Entry) (w : Extents) (place : ℕ) (before after : List Entry) → HangsBy (Guided key) steps whole depth (leaf e w) before after → CutTo key steps depth whole e place
cut_start key steps depth whole e w place before after h = record { tree = leaf e w; before = before; after = after; hangs = h; there = inl refl; alike = λ x i j l. elim i [ inl y ↦ ap (λ (z : Entry). at z.key j) y | inr z ↦ absurd z ] }

-- a step more is taken back
pub cut_more : (key : List ℕ) (steps : List Step) (depth : ℕ) (whole : Tree) (e : Entry) (place : ℕ) (d : Step) → IsTree 0 whole → 0 < depth → place < (get_or steps (depth - 1) d).offset → CutTo key steps depth whole e place → CutTo key steps (depth - 1) whole e place
cut_more key steps depth whole e place d shape some past c =
    let n : depth ≡ suc (depth - 1) = omega arith in
    let h = at_depth (Guided key) steps whole depth (suc (depth - 1)) c.tree c.before c.after n c.hangs in
    let s = ap (λ (x : Step). x.offset) (get_or_from_slice_get steps (depth - 1) h.step d h.there) in
    let up = shape_above (Guided key) steps whole shape (depth - 1) c.tree c.before c.after h in
    let there = in_parent h.step.offset h.step.twigs h.on.left h.on.right h.on.position c.tree e c.there in
    record { tree = branch h.step.offset h.step.twigs (beside h.on.left (twig h.on.position c.tree h.on.right)); before = h.on.before_all; after = h.on.after_all; hangs = h.on.parent; there = there; alike = λ x i j l. up.4 x e i there j (omega arith) }

pub cut_end : (key : List ℕ) (path : Path) (whole : Tree) (e : Entry) (place : ℕ) (d : Step) → (0 < path.depth → (get_or path.steps (path.depth - 1) d).offset ≤ place) → CutTo key path.steps path.depth whole e place → CutAt key path whole e place
cut_end key path whole e place d last c = record {
  tree = c.tree;
  before = c.before;
  after = c.after;
  hangs = c.hangs;
  there = c.there;
  alike = c.alike;
  early = λ n step depth there. (
      let m : path.depth - 1 ≡ n = omega arith in
      let s = ap (λ (x : Step). x.offset) (ap (λ (i : ℕ). get_or path.steps i d) m ∙ get_or_from_slice_get path.steps n step d there) in
      let l = last (omega arith) in omega arith
      );
}
