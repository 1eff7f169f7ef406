-- The names above a key's that stand before the end of a path which the key guides.
use Rattle.std.proofs.Common.{◌≡◌, ℕ, zero, suc, ◌+◌, ◌/◌, ◌%◌, ◌^◌, ◌<◌, ◌≤◌, List, [], ◌∷◌, ◌++◌, length, take, map, Option, Some, None, slice_get, get_or, append_assoc, append-nil, length-append, arith, inl, inr, refl, sym, ◌∙◌, ap, subst}
use Rattle.std.proofs.lemmas.Bool.{cases_lt}
use Rattle.std.proofs.lemmas.List.{get_or_past}
use Rattle.std.proofs.lemmas.Option.{get_or_from_slice_get}
use Rattle.packed_node.specs.declared.Cell.{Cell}
use Rattle.packed_node.specs.declared.Leaf.{Leaf}
use Rattle.packed_node.specs.declared.Branch.{Branch}
use Rattle.packed_node.specs.declared.Node.{Node}
use Rattle.packed_node.specs.declared.Node.TheVariants as node
use Rattle.packed_node.specs.Nodes.{IsNode, packed}
use Rattle.zone_model.specs.Keys.{IsKey as IsNameKey}
use Rattle.trie_model.specs.Extents.{Extents}
use Rattle.trie_model.specs.Keys.{at, Same, IsKey, Entry, InList}
use Rattle.trie_model.specs.Order.{EndsAt, chain, labels_in}
use Rattle.trie_model.specs.Trees.{Rising, Tree, Twigs, entries_of, entries, count, bitmap_of, beside, IsTree, AreTwigs}
use Rattle.trie_model.specs.Trees.Tree.{leaf, branch}
use Rattle.trie_model.specs.Trees.Twigs.{none, twig}
use Rattle.trie_model.specs.Memory.{node_of, top_cell, Beneath}
use Rattle.trie_model.proofs.KeyLaws.{in_left, in_right}
use Rattle.trie_model.proofs.GrowthLaws.{each_entry}
use Rattle.trie_model.proofs.BitmapLaws.{set_bit, clear_bit}
use Rattle.trie_model.proofs.SplitLaws.{twigs_left, rising_of}
use Rattle.trie_model.proofs.OrderLaws.{rises_tree}
use Rattle.trie_model.proofs.ChainLaws.{chain-append, chain_above, chain_beside, chain_few}
use Rattle.trie_model.proofs.NameLaws.{labels_few, name_key}
use Rattle.trie_model.proofs.NodeLaws.{BranchTold, branch_told, leaf_said, node_read}
use Rattle.trie_read.specs.declared.ancestors.Ancestor.{Ancestor}
use Rattle.trie_read.specs.declared.path.Step.{Step}
use Rattle.trie_read.specs.declared.path.Path.{Path}
use Rattle.trie_read.specs.Reads.{IsLeafOf, IsNamed}
use Rattle.trie_read.specs.Above.{AreAncestors, Passes, HasEnding}
use Rattle.trie_read.specs.Walks.{AnyStep, HangsBy, Guided, HangsAtLevel, HasNode}
use Rattle.trie_read.proofs.NodeLaws.{leaf_told}
use Rattle.trie_read.proofs.PathLaws.{hanging, hangs_kept, hangs_between, shape_above, at_depth}
use Rattle.trie_read.proofs.GuideLaws.{earlier, with_all, in_parent, in_front}

-- ---- lists of leaves
pub ancestors_more : (lies : Leaf → Entry → Type 0) (es fs : List Entry) (names bs : List Ancestor) → AreAncestors lies es names → AreAncestors lies fs bs → AreAncestors lies (es ++ fs) (names ++ bs)
ancestors_more lies [] fs [] bs h m = m
ancestors_more lies [] fs (a ∷ names) bs h m = absurd h
ancestors_more lies (e ∷ es) fs [] bs h m = absurd h
ancestors_more lies (e ∷ es) fs (a ∷ names) bs h m = (h.0, h.1, ancestors_more lies es fs names bs h.2 m)

pub ancestors_many : (lies : Leaf → Entry → Type 0) (es : List Entry) (names : List Ancestor) → AreAncestors lies es names → length names ≡ length es
ancestors_many lies [] [] h = refl
ancestors_many lies [] (a ∷ names) h = absurd h
ancestors_many lies (e ∷ es) [] h = absurd h
ancestors_many lies (e ∷ es) (a ∷ names) h = ap suc (ancestors_many lies es names h.2)

pub ancestors_labels : (lies : Leaf → Entry → Type 0) (es : List Entry) (names : List Ancestor) → AreAncestors lies es names → map (λ (a : Ancestor). a.labels) names ≡ map (λ (e : Entry). labels_in e.key) es
ancestors_labels lies [] [] h = refl
ancestors_labels lies [] (a ∷ names) h = absurd h
ancestors_labels lies (e ∷ es) [] h = absurd h
ancestors_labels lies (e ∷ es) (a ∷ names) h = ap (λ (n : ℕ). n ∷ map (λ (x : Ancestor). x.labels) names) h.1 ∙ ap (λ (ns : List ℕ). labels_in e.key ∷ ns) (ancestors_labels lies es names h.2)

-- ---- a path that the key guides, by its first steps
pub record Higher (k : List ℕ) (steps : List Step) (whole : Tree) (n : ℕ) (y : Entry) (place : ℕ) : Type 0 where
  pub tree : Tree
  pub before : List Entry
  pub after : List Entry
  pub hangs : HangsBy (Guided k) steps whole n tree before after
  pub there : InList y (entries_of tree)
  pub early : (m : ℕ) (step : Step) → suc m ≡ n → slice_get steps m ≡ Some step → step.offset ≤ place

higher_here : (k : List ℕ) (steps : List Step) (whole : Tree) (d n : ℕ) (t : Tree) (before after : List Entry) (y : Entry) (place : ℕ) → HangsBy (Guided k) steps whole d t before after → InList y (entries_of t) → ((m : ℕ) (step : Step) → suc m ≡ d → slice_get steps m ≡ Some step → step.offset ≤ place) → d ≡ n → Higher k steps whole n y place
higher_here k steps whole d n t before after y place h i early e = record { tree = t; before = before; after = after; hangs = at_depth (Guided k) steps whole d n t before after e h; there = i; early = λ m step f there. early m step (f ∙ sym e) there }

pub higher : (k : List ℕ) (steps : List Step) (whole : Tree) → IsTree 0 whole → (d n : ℕ) (t : Tree) (before after : List Entry) (y : Entry) (place : ℕ) → HangsBy (Guided k) steps whole d t before after → InList y (entries_of t) → ((m : ℕ) (step : Step) → suc m ≡ d → slice_get steps m ≡ Some step → step.offset ≤ place) → n ≤ d → Higher k steps whole n y place
higher k steps whole shape zero n t before after y place h i early l = higher_here k steps whole 0 n t before after y place h i early (omega arith)
higher k steps whole shape (suc d) n t before after y place h i early l = elim (cases_lt n (suc d)) [
  | inl m ↦ higher k steps whole shape d n (branch h.step.offset h.step.twigs (beside h.on.left (twig h.on.position t h.on.right))) h.on.before_all h.on.after_all y place h.on.parent (in_parent h.step.offset h.step.twigs h.on.left h.on.right h.on.position t y i)
      (λ m step e there. let o = early d h.step refl h.there in let b = earlier k steps whole shape d t before after h m step e there in omega arith) (omega arith)
  | inr g ↦ higher_here k steps whole (suc d) n t before after y place h i early (omega arith)
]

pub passes_higher : (has : ℕ → Cell → Type 0) (k : List ℕ) (path : Path) (root : ℕ) (before : List Entry) (p : Passes has k path root before) (n : ℕ) → n ≤ path.depth → Higher k path.steps p.whole n p.met p.place
passes_higher has k path root before p n l = higher k path.steps p.whole p.leads.shape path.depth n p.tree before p.after p.met p.place p.leads.hangs p.there p.early l

pub passes_node : (has : ℕ → Cell → Type 0) (k : List ℕ) (path : Path) (root : ℕ) (before : List Entry) (p : Passes has k path root before) (n : ℕ) → n ≤ path.depth → HasNode has path root n
passes_node has k path root before p n l =
    let h = passes_higher has k path root before p n l in
    record { whole = p.whole; tree = h.tree; before = h.before; after = h.after; at = record { top = p.top; shape = p.leads.shape; beneath = p.leads.beneath; hangs = hangs_kept (Guided k) AnyStep (λ s l t r so. tt) path.steps path.steps p.whole n (λ i m. refl) h.tree h.before h.after h.hangs } }

-- ---- the names above among the twigs before a step's
first_zero : (o w p q v : ℕ) (t u : Tree) (r s : Twigs) → branch o w (twig p t r) ≡ branch q v (twig 0 u s) → p ≡ 0
first_zero o w p q v t u r s e = cc

first_tree : (o w p q v : ℕ) (t u : Tree) (r s : Twigs) → branch o w (twig p t r) ≡ branch q v (twig 0 u s) → t ≡ u
first_tree o w p q v t u r s e = cc

same_entry : (a b : Entry) (v w : Extents) → leaf a v ≡ leaf b w → a ≡ b
same_entry a b v w e = cc

-- the one that was found
pub record FoundLeft (has : ℕ → Cell → Type 0) (o : ℕ) (k : List ℕ) (left : Twigs) (l : Leaf) : Type 0 where
  pub entry : Entry
  pub leaf_of : IsLeafOf has entry l
  pub chain : chain k (entries left) ≡ entry ∷ []
  pub labels : labels_in entry.key ≡ labels_in (take o k)
  pub there : InList entry (entries left)

pub found_left : (has : ℕ → Cell → Type 0) (o w : ℕ) (k : List ℕ) (left right : Twigs) (p : ℕ) (t : Tree) (l : Leaf) → IsKey k → AreTwigs o 0 left → Rising 0 (at k o) left → ((x : Entry) → InList x (entries left) → Same o k x.key) → EndsAt o k → 0 < count left →
    HasEnding has (branch o w (beside left (twig p t right))) (Some l) → FoundLeft has o k left l
found_left has o w k none right p t l kk a r same ends some h = absurd (omega arith)
found_left has o w k (twig q u s) right p t l kk a r same ends some h =
    let is = h.1.1.1.1.1 in
    let z = first_zero o w q h.0 h.1.0 u (leaf h.1.1.0 h.1.1.1.0) (beside s (twig p t right)) h.1.1.1.1.0 is in
    let first = first_tree o w q h.0 h.1.0 u (leaf h.1.1.0 h.1.1.1.0) (beside s (twig p t right)) h.1.1.1.1.0 is in
    let c = chain_above o k u s kk (subst (λ (n : ℕ). AreTwigs o 0 (twig n u s)) z a) (subst (λ (n : ℕ). Rising 0 (at k o) (twig n u s)) z r) same ends in
    let e = same_entry h.1.1.0 c.0.entry h.1.1.1.0 c.0.extents (sym first ∙ c.0.is) in
    record {
      entry = h.1.1.0;
      leaf_of = h.1.1.1.1.2;
      chain = c.1 ∙ ap (λ (x : Entry). x ∷ []) (sym e);
      labels = ap (λ (x : Entry). labels_in x.key) e ∙ ap labels_in c.0.key;
      there = in_left h.1.1.0 (entries_of u) (entries s) (subst (λ (v : Tree). InList h.1.1.0 (entries_of v)) (sym first) (inl refl));
    }

-- none was found
pub none_left : (has : ℕ → Cell → Type 0) (o w : ℕ) (k : List ℕ) (left right : Twigs) (p : ℕ) (t : Tree) → IsKey k → AreTwigs o 0 left → Rising 0 (at k o) left → ((x : Entry) → InList x (entries left) → Same o k x.key) →
    HasEnding has (branch o w (beside left (twig p t right))) None → chain k (entries left) ≡ []
none_left has o w k left right p t kk a r same h = chain_beside o k left kk a r same (λ u s is ends.
    let c = chain_above o k u s kk (subst (AreTwigs o 0) is a) (subst (Rising 0 (at k o)) is r) (λ x i. same x (subst (λ (ts : Twigs). InList x (entries ts)) (sym is) i)) ends in
    h o w c.0.entry c.0.extents (beside s (twig p t right)) (ap (λ (ts : Twigs). branch o w (beside ts (twig p t right))) is ∙ ap (λ (v : Tree). branch o w (twig 0 v (beside s (twig p t right)))) c.0.is))

no_twigs : (left : Twigs) → count left ≡ 0 → left ≡ none
no_twigs none e = refl
no_twigs (twig p t r) e = absurd (omega arith)

-- ---- a step more
-- what stands before a step's twig agrees with the key up to its branch
pub record Beside (k : List ℕ) (o : ℕ) (left : Twigs) : Type 0 where
  pub twigs : AreTwigs o 0 left
  pub agree : (x : Entry) → InList x (entries left) → Same o k x.key

pub besides : (has : ℕ → Cell → Type 0) (k : List ℕ) (path : Path) (root : ℕ) (before : List Entry) (p : Passes has k path root before) (n : ℕ) → n < path.depth → (t : Tree) (b a : List Entry) (h : HangsBy (Guided k) path.steps p.whole (suc n) t b a) → InList p.met (entries_of t) → Beside k h.step.offset h.on.left
besides has k path root before p n l t b a h i =
    let up = shape_above (Guided k) path.steps p.whole p.leads.shape n t b a h in
    let o = (passes_higher has k path root before p (suc n) (omega arith)).early n h.step refl h.there in
    let with_k = with_all k path.steps p.whole p.leads.shape n t b a h p.met i (λ j m. p.same j (omega arith)) in
    record { twigs = twigs_left h.step.offset 0 h.on.left (twig h.on.position t h.on.right) up.5; agree = λ x j. with_k x (in_front h.on.left (twig h.on.position t h.on.right) x j) }

-- the branch of the step, as it hangs in the memory
pub branch_at : (has : ℕ → Cell → Type 0) (k : List ℕ) (path : Path) (root : ℕ) (before : List Entry) (p : Passes has k path root before) (n : ℕ) (t : Tree) (b a : List Entry) (h : HangsBy (Guided k) path.steps p.whole (suc n) t b a) →
    HangsAtLevel AnyStep has path root n p.whole (branch h.step.offset h.step.twigs (beside h.on.left (twig h.on.position t h.on.right))) h.on.before_all h.on.after_all
branch_at has k path root before p n t b a h = record {
  top = p.top;
  shape = p.leads.shape;
  beneath = p.leads.beneath;
  hangs = hangs_kept (Guided k) AnyStep (λ s l t r so. tt) path.steps path.steps p.whole n (λ i m. refl) (branch h.step.offset h.step.twigs (beside h.on.left (twig h.on.position t h.on.right))) h.on.before_all h.on.after_all h.on.parent;
}

chain_front : (k : List ℕ) (front part b : List Entry) → b ≡ front ++ part → chain k b ≡ chain k front ++ chain k part
chain_front k front part b e = ap (chain k) e ∙ chain-append k front part

pub passed_none : (lies : Leaf → Entry → Type 0) (k : List ℕ) (front part b : List Entry) (names : List Ancestor) → b ≡ front ++ part → chain k part ≡ [] → AreAncestors lies (chain k front) names → AreAncestors lies (chain k b) names
passed_none lies k front part b names e empty h =
    subst (λ (es : List Entry). AreAncestors lies es names) (sym (chain_front k front part b e ∙ ap (λ (es : List Entry). chain k front ++ es) empty ∙ append-nil (chain k front))) h

pub passed_one : (lies : Leaf → Entry → Type 0) (k : List ℕ) (front part b : List Entry) (names : List Ancestor) (e : Entry) (x : Ancestor) → b ≡ front ++ part → chain k part ≡ e ∷ [] → lies x.leaf e → x.labels ≡ labels_in e.key → AreAncestors lies (chain k front) names → AreAncestors lies (chain k b) (names ++ (x ∷ []))
passed_one lies k front part b names e x is one l n h =
    subst (λ (es : List Entry). AreAncestors lies es (names ++ (x ∷ []))) (sym (chain_front k front part b is ∙ ap (λ (es : List Entry). chain k front ++ es) one))
    (ancestors_more lies (chain k front) (e ∷ []) names (x ∷ []) h (l, n, tt))

-- of the names above there are few
pub chain_room : (k : List ℕ) (front part rest : List Entry) (whole : Tree) (e : Entry) → IsNameKey k → IsTree 0 whole → front ++ (part ++ rest) ≡ entries_of whole → chain k part ≡ e ∷ [] → length (chain k front) < 128
chain_room k front part rest whole e kk shape is one =
    let few = chain_few k (entries_of whole) (rises_tree 0 whole shape) (λ x i. (each_entry 0 whole shape x i).key) in
    let labels = labels_few k kk in
    let all = sym (chain_front k front (part ++ rest) (entries_of whole) (sym is) ∙ ap (λ (es : List Entry). chain k front ++ es) (chain-append k part rest ∙ ap (λ (es : List Entry). es ++ chain k rest) one)) in
    let n = ap (λ (es : List Entry). length es) all in
    let m = length-append (chain k front) (e ∷ chain k rest) in omega arith

-- what was read of the node after so many steps
pub record ReadAt (has : ℕ → Cell → Type 0) (level : ℕ) (t : Tree) (n : Node) : Type 0 where
  pub tree : IsTree level t
  pub beneath : Beneath has t
  pub is : node_of t ≡ n

pub read_at : (has : ℕ → Cell → Type 0) (path : Path) (root level : ℕ) (whole t : Tree) (before after : List Entry) (c : Cell) (r n : Node) → HangsAtLevel AnyStep has path root level whole t before after → c ≡ top_cell t → ((m : Node) → IsNode m → packed m ≡ c → r ≡ m) → r ≡ n → ReadAt has level t n
read_at has path root level whole t before after c r n at is back e =
    let x = hanging AnyStep has path.steps whole at.shape at.beneath level t before after at.hangs in
    record { tree = x.tree; beneath = x.beneath; is = sym (node_read level t c r x.tree is back) ∙ e }

-- what was read of a twig for keys that end at the branch
no_leaf : (o w : ℕ) (at : Extents) (below : Twigs) (e : Entry) → leaf e at ≡ branch o w below → ⊥
no_leaf o w at below e is = cc

pub no_ending_leaf : (has : ℕ → Cell → Type 0) (t : Tree) (l : Leaf) → node_of t ≡ node.Leaf l → HasEnding has t None
no_ending_leaf has t l is o w e at rest b = let x = leaf_said t l is in no_leaf o w x.extents (twig 0 (leaf e at) rest) x.entry (sym x.is ∙ b)

same_below : (o w p v : ℕ) (a b : Twigs) → branch o w a ≡ branch p v b → a ≡ b
same_below o w p v a b e = cc

pub no_ending_twig : (has : ℕ → Cell → Type 0) (low : ℕ) (t : Tree) (b : Branch) → IsTree low t → node_of t ≡ node.Branch b → ((b.bitmap / 2 ^ 0) % 2 ≡ 1 → ⊥) → HasEnding has t None
no_ending_twig has low t b tree is bit o w e at rest same =
    let x = branch_told t b is in
    let below = same_below b.offset b.twigs o w x.below (twig 0 (leaf e at) rest) (sym x.is ∙ same) in
    let shape = subst (IsTree low) same tree in
    let rising = rising_of o 0 (twig 0 (leaf e at) rest) (let z : 0 ≤ 47 = omega arith in z) shape.5 in
    bit (ap (λ (n : ℕ). n / 2 ^ 0 % 2) (x.bitmap ∙ ap bitmap_of below) ∙ set_bit 0 47 0 (twig 0 (leaf e at) rest) (record { left = none; right = twig 0 (leaf e at) rest; is = refl; lower = (let z : 0 ≤ 0 = omega arith in z); upper = rising }) (leaf e at) rest refl)

-- the branch has one
pub record FirstTwig (has : ℕ → Cell → Type 0) (b : Branch) (t : Tree) : Type 0 where
  pub tree : Tree
  pub right : Twigs
  pub is : t ≡ branch b.offset b.twigs (twig 0 tree right)
  pub deeper : IsTree (suc b.offset) tree
  pub there : has b.twigs (top_cell tree)
  pub beneath : Beneath has tree

pub first_twig : (has : ℕ → Cell → Type 0) (low : ℕ) (t : Tree) (b : Branch) → IsTree low t → Beneath has t → node_of t ≡ node.Branch b → (b.bitmap / 2 ^ 0) % 2 ≡ 1 → FirstTwig has b t
first_twig has low t b tree beneath is bit = go x.below (subst (IsTree low) x.is tree) (subst (Beneath has) x.is beneath) x.is (sym (ap (λ (n : ℕ). n / 2 ^ 0 % 2) x.bitmap) ∙ bit)
  where
    x : BranchTold t b
    x = branch_told t b is

    go : (below : Twigs) → IsTree low (branch b.offset b.twigs below) → Beneath has (branch b.offset b.twigs below) → t ≡ branch b.offset b.twigs below → (bitmap_of below / 2 ^ 0) % 2 ≡ 1 → FirstTwig has b t
    go none shape lies e set = absurd (let two = shape.3 in omega arith)
    go (twig q u s) shape lies e set =
        let zero : q ≡ 0 = elim (cases_lt 0 q) [
          | inl l ↦ (
              let rising = rising_of b.offset 0 (twig q u s) (let z : 0 ≤ 47 = omega arith in z) shape.5 in
              let clear = clear_bit 0 47 0 (twig q u s) (record { left = none; right = twig q u s; is = refl; lower = (let z : 0 ≤ 0 = omega arith in z); upper = rising }) (l, rising.1, rising.2) in absurd (omega arith)
              )
          | inr g ↦ omega arith
        ] in
        record { tree = u; right = s; is = e ∙ ap (λ (n : ℕ). branch b.offset b.twigs (twig n u s)) zero; deeper = shape.5.3; there = lies.0; beneath = lies.1 }

pub ending_leaf : (has : ℕ → Cell → Type 0) (b : Branch) (t : Tree) (l : Leaf) (x : FirstTwig has b t) → node_of x.tree ≡ node.Leaf l → HasEnding has t (Some l)
ending_leaf has b t l x is =
    let y = leaf_told has (suc b.offset) x.tree l x.deeper x.beneath is in
    (b.offset, (b.twigs, (y.entry, (y.extents, (x.right, x.is ∙ ap (λ (u : Tree). branch b.offset b.twigs (twig 0 u x.right)) y.tree, y.leaf_of)))))

first_of : (o w p v q r : ℕ) (t u : Tree) (a s : Twigs) → branch o w (twig q t a) ≡ branch p v (twig r u s) → t ≡ u
first_of o w p v q r t u a s e = cc

pub no_ending_branch : (has : ℕ → Cell → Type 0) (b c : Branch) (t : Tree) (x : FirstTwig has b t) → node_of x.tree ≡ node.Branch c → HasEnding has t None
no_ending_branch has b c t x is o w e at rest same =
    let y = branch_told x.tree c is in
    no_leaf c.offset c.twigs at y.below e (sym (first_of b.offset b.twigs o w 0 0 x.tree (leaf e at) x.right rest (sym x.is ∙ same)) ∙ y.is)

-- ---- what was gathered by the first steps
abbrev pub SoFar : (ℕ → Cell → Type 0) → List ℕ → Path → Tree → Entry → ℕ → List Ancestor → Type 0
SoFar has k path whole met n names = (t : Tree) (b a : List Entry) → HangsBy (Guided k) path.steps whole n t b a → InList met (entries_of t) → AreAncestors (IsNamed has) (chain k b) names

pub gathered_start : (has : ℕ → Cell → Type 0) (k : List ℕ) (path : Path) (whole : Tree) (met : Entry) (names : List Ancestor) → names ≡ [] → SoFar has k path whole met 0 names
gathered_start has k path whole met names empty t b a h i = subst (λ (es : List Entry). AreAncestors (IsNamed has) (chain k es) names) (sym h.1) (subst (AreAncestors (IsNamed has) []) (sym empty) tt)

hangs_next : (k : List ℕ) (path : Path) (whole : Tree) (n : ℕ) (t : Tree) (b a : List Entry) → HangsBy (Guided k) path.steps whole (n + 1) t b a → HangsBy (Guided k) path.steps whole (suc n) t b a
hangs_next k path whole n t b a h = at_depth (Guided k) path.steps whole (n + 1) (suc n) t b a (omega arith) h

-- the step is the first twig's
pub gathered_first : (has : ℕ → Cell → Type 0) (k : List ℕ) (path : Path) (root : ℕ) (before : List Entry) (p : Passes has k path root before) (n : ℕ) (names : List Ancestor) (d : Step) → n < path.depth → SoFar has k path p.whole p.met n names → (0 < (get_or path.steps n d).index → ⊥) → SoFar has k path p.whole p.met (n + 1) names
gathered_first has k path root before p n names d l far first t b a hangs i =
    let h = hangs_next k path p.whole n t b a hangs in
    let s = ap (λ (x : Step). x.index) (get_or_from_slice_get path.steps n h.step d h.there) in
    let empty = no_twigs h.on.left (let e = h.on.index in elim (cases_lt 0 (count h.on.left)) [ inl m ↦ absurd (first (omega arith)) | inr g ↦ omega arith ]) in
    passed_none (IsNamed has) k h.on.before_all (entries h.on.left) b names h.on.before_is (ap (λ (ts : Twigs). chain k (entries ts)) empty)
    (far (branch h.step.offset h.step.twigs (beside h.on.left (twig h.on.position t h.on.right))) h.on.before_all h.on.after_all h.on.parent (in_parent h.step.offset h.step.twigs h.on.left h.on.right h.on.position t p.met i))

-- no label ends there
pub gathered_within : (has : ℕ → Cell → Type 0) (k : List ℕ) (path : Path) (root : ℕ) (before : List Entry) (p : Passes has k path root before) (n : ℕ) (names : List Ancestor) (d : Step) → n < path.depth → SoFar has k path p.whole p.met n names → IsKey k → (EndsAt (get_or path.steps n d).offset k → ⊥) → SoFar has k path p.whole p.met (n + 1) names
gathered_within has k path root before p n names d l far kk never t b a hangs i =
    let h = hangs_next k path p.whole n t b a hangs in
    let s = ap (λ (x : Step). x.offset) (get_or_from_slice_get path.steps n h.step d h.there) in
    let x = besides has k path root before p n l t b a h i in
    passed_none (IsNamed has) k h.on.before_all (entries h.on.left) b names h.on.before_is (chain_beside h.step.offset k h.on.left kk x.twigs h.so.0 x.agree (λ u r e ends. never (subst (λ (o : ℕ). EndsAt o k) (sym s) ends)))
    (far (branch h.step.offset h.step.twigs (beside h.on.left (twig h.on.position t h.on.right))) h.on.before_all h.on.after_all h.on.parent (in_parent h.step.offset h.step.twigs h.on.left h.on.right h.on.position t p.met i))

-- ---- no label ends at the branches from a level on
lowest : (left : Twigs) (high : ℕ) → Rising 0 high left → high ≡ 0 → left ≡ none
lowest none high r e = refl
lowest (twig p t s) high r e = absurd (let l = r.1 in omega arith)

gathered_past : (has : ℕ → Cell → Type 0) (k : List ℕ) (path : Path) (root : ℕ) (before : List Entry) (p : Passes has k path root before) (n : ℕ) (names : List Ancestor) (d : Step) → n < path.depth → SoFar has k path p.whole p.met n names → IsKey k → (last : ℕ) → ((place : ℕ) → last < place → place < length k → EndsAt place k → ⊥) → last < (get_or path.steps n d).offset → SoFar has k path p.whole p.met (n + 1) names
gathered_past has k path root before p n names d l far kk last never past t b a hangs i = elim (cases_lt (get_or path.steps n d).offset (length k)) [
  | inl x ↦ gathered_within has k path root before p n names d l far kk (never (get_or path.steps n d).offset past x) t b a hangs i
  | inr x ↦ (
      let h = hangs_next k path p.whole n t b a hangs in
      let s = ap (λ (y : Step). y.offset) (get_or_from_slice_get path.steps n h.step d h.there) in
      let empty = lowest h.on.left (at k h.step.offset) h.so.0 (get_or_past k h.step.offset 0 (omega arith)) in
      passed_none (IsNamed has) k h.on.before_all (entries h.on.left) b names h.on.before_is (ap (λ (ts : Twigs). chain k (entries ts)) empty)
      (far (branch h.step.offset h.step.twigs (beside h.on.left (twig h.on.position t h.on.right))) h.on.before_all h.on.after_all h.on.parent (in_parent h.step.offset h.step.twigs h.on.left h.on.right h.on.position t p.met i))
      )
]

-- branches lie ever deeper along the path
deeper : (has : ℕ → Cell → Type 0) (k : List ℕ) (path : Path) (root : ℕ) (before : List Entry) (p : Passes has k path root before) (n m : ℕ) (d : Step) → n ≤ m → m < path.depth → (get_or path.steps n d).offset ≤ (get_or path.steps m d).offset
deeper has k path root before p n zero d l less = let e : 0 ≡ n = omega arith in subst (λ (i : ℕ). (get_or path.steps i d).offset ≤ (get_or path.steps 0 d).offset) e (omega arith)
deeper has k path root before p n (suc m) d l less = elim (cases_lt n (suc m)) [
  | inl x ↦ (
      let u = (passes_higher has k path root before p (suc m) (omega arith)).hangs in
      let v = passes_higher has k path root before p (suc (suc m)) (omega arith) in
      let w = v.hangs in
      let a = earlier k path.steps p.whole p.leads.shape (suc m) v.tree v.before v.after w m u.step refl u.there in
      let s = ap (λ (y : Step). y.offset) (get_or_from_slice_get path.steps m u.step d u.there) in
      let t = ap (λ (y : Step). y.offset) (get_or_from_slice_get path.steps (suc m) w.step d w.there) in
      let r = deeper has k path root before p n m d (omega arith) (omega arith) in omega arith
      )
  | inr x ↦ (let e : suc m ≡ n = omega arith in subst (λ (i : ℕ). (get_or path.steps i d).offset ≤ (get_or path.steps (suc m) d).offset) e (omega arith))
]

pub gathered_rest : (has : ℕ → Cell → Type 0) (k : List ℕ) (path : Path) (root : ℕ) (before : List Entry) (p : Passes has k path root before) (n : ℕ) (names : List Ancestor) (d : Step) → n < path.depth → SoFar has k path p.whole p.met n names → IsKey k → (last : ℕ) → ((place : ℕ) → last < place → place < length k → EndsAt place k → ⊥) → last < (get_or path.steps n d).offset →
    (m : ℕ) → n ≤ m → m ≤ path.depth → SoFar has k path p.whole p.met m names
gathered_rest has k path root before p n names d l far kk last never past zero up less = let e : n ≡ 0 = omega arith in subst (λ (i : ℕ). SoFar has k path p.whole p.met i names) e far
gathered_rest has k path root before p n names d l far kk last never past (suc m) up less = elim (cases_lt n (suc m)) [
  | inl x ↦ (
      let deep = deeper has k path root before p n m d (omega arith) (omega arith) in
      let e : m + 1 ≡ suc m = omega arith in
      subst (λ (i : ℕ). SoFar has k path p.whole p.met i names) e
      (gathered_past has k path root before p m names d (omega arith) (gathered_rest has k path root before p n names d l far kk last never past m (omega arith) (omega arith)) kk last never (omega arith))
      )
  | inr x ↦ (let e : n ≡ suc m = omega arith in subst (λ (i : ℕ). SoFar has k path p.whole p.met i names) e far)
]

abbrev pub EndingAt : (ℕ → Cell → Type 0) → Path → ℕ → ℕ → Option Leaf → Type 0
EndingAt has path root n r = (whole t : Tree) (b a : List Entry) → HangsAtLevel AnyStep has path root n whole t b a → HasEnding has t r

-- no twig is for keys that end there
pub gathered_none : (has : ℕ → Cell → Type 0) (k : List ℕ) (path : Path) (root : ℕ) (before : List Entry) (p : Passes has k path root before) (n : ℕ) (names : List Ancestor) (d : Step) → n < path.depth → SoFar has k path p.whole p.met n names → IsKey k → EndingAt has path root n None → SoFar has k path p.whole p.met (n + 1) names
gathered_none has k path root before p n names d l far kk ending t b a hangs i =
    let h = hangs_next k path p.whole n t b a hangs in
    let x = besides has k path root before p n l t b a h i in
    let up : Tree = branch h.step.offset h.step.twigs (beside h.on.left (twig h.on.position t h.on.right)) in
    passed_none (IsNamed has) k h.on.before_all (entries h.on.left) b names h.on.before_is
    (none_left has h.step.offset h.step.twigs k h.on.left h.on.right h.on.position t kk x.twigs h.so.0 x.agree (ending p.whole up h.on.before_all h.on.after_all (branch_at has k path root before p n t b a h)))
    (far up h.on.before_all h.on.after_all h.on.parent (in_parent h.step.offset h.step.twigs h.on.left h.on.right h.on.position t p.met i))

-- one is
left_of : (has : ℕ → Cell → Type 0) (k : List ℕ) (path : Path) (root : ℕ) (before : List Entry) (p : Passes has k path root before) (n : ℕ) (l : Leaf) (d : Step) → n < path.depth → IsKey k → 0 < (get_or path.steps n d).index → EndsAt (get_or path.steps n d).offset k → EndingAt has path root n (Some l) →
    (t : Tree) (b a : List Entry) (h : HangsBy (Guided k) path.steps p.whole (suc n) t b a) → InList p.met (entries_of t) → FoundLeft has h.step.offset k h.on.left l
left_of has k path root before p n l d less kk some ends ending t b a h i =
    let s = get_or_from_slice_get path.steps n h.step d h.there in
    let x = besides has k path root before p n less t b a h i in
    let up : Tree = branch h.step.offset h.step.twigs (beside h.on.left (twig h.on.position t h.on.right)) in
    found_left has h.step.offset h.step.twigs k h.on.left h.on.right h.on.position t l kk x.twigs h.so.0 x.agree (subst (λ (y : Step). EndsAt y.offset k) s ends) (let e = h.on.index in let f = ap (λ (y : Step). y.index) s in omega arith)
    (ending p.whole up h.on.before_all h.on.after_all (branch_at has k path root before p n t b a h))

pub gathered_one : (has : ℕ → Cell → Type 0) (k : List ℕ) (path : Path) (root : ℕ) (before : List Entry) (p : Passes has k path root before) (n : ℕ) (names : List Ancestor) (d : Step) → n < path.depth → SoFar has k path p.whole p.met n names → (l : Leaf) (labels : ℕ) → IsKey k → 0 < (get_or path.steps n d).index → EndsAt (get_or path.steps n d).offset k → EndingAt has path root n (Some l) → labels ≡ labels_in (take (get_or path.steps n d).offset k) →
    SoFar has k path p.whole p.met (n + 1) (names ++ (record { leaf = l; labels = labels } ∷ []))
gathered_one has k path root before p n names d less far l labels kk some ends ending many t b a hangs i =
    let h = hangs_next k path p.whole n t b a hangs in
    let s = ap (λ (y : Step). labels_in (take y.offset k)) (get_or_from_slice_get path.steps n h.step d h.there) in
    let x = left_of has k path root before p n l d less kk some ends ending t b a h i in
    let whole = hangs_between (Guided k) path.steps p.whole (suc n) t b a h in
    let inside : InList x.entry (entries_of p.whole) = subst (InList x.entry) whole (in_left x.entry b (entries_of t ++ a) (subst (InList x.entry) (sym h.on.before_is) (in_right x.entry h.on.before_all (entries h.on.left) x.there))) in
    passed_one (IsNamed has) k h.on.before_all (entries h.on.left) b names x.entry (record { leaf = l; labels = labels }) h.on.before_is x.chain (x.leaf_of, p.told x.entry inside) (many ∙ s ∙ sym x.labels)
    (far (branch h.step.offset h.step.twigs (beside h.on.left (twig h.on.position t h.on.right))) h.on.before_all h.on.after_all h.on.parent (in_parent h.step.offset h.step.twigs h.on.left h.on.right h.on.position t p.met i))

pub gathered_room : (has : ℕ → Cell → Type 0) (k : List ℕ) (path : Path) (root : ℕ) (before : List Entry) (p : Passes has k path root before) (n : ℕ) (names : List Ancestor) (d : Step) → n < path.depth → SoFar has k path p.whole p.met n names → (l : Leaf) → IsNameKey k → 0 < (get_or path.steps n d).index → EndsAt (get_or path.steps n d).offset k → EndingAt has path root n (Some l) → length names < 128
gathered_room has k path root before p n names d less far l kk some ends ending =
    let u = passes_higher has k path root before p (suc n) (omega arith) in
    let h = u.hangs in
    let x = left_of has k path root before p n l d less (name_key k kk) some ends ending u.tree u.before u.after h u.there in
    let whole = hangs_between (Guided k) path.steps p.whole (suc n) u.tree u.before u.after h in
    let up = far (branch h.step.offset h.step.twigs (beside h.on.left (twig h.on.position u.tree h.on.right))) h.on.before_all h.on.after_all h.on.parent (in_parent h.step.offset h.step.twigs h.on.left h.on.right h.on.position u.tree p.met u.there) in
    let many = ancestors_many (IsNamed has) (chain k h.on.before_all) names up in
    let room = chain_room k h.on.before_all (entries h.on.left) (entries_of u.tree ++ u.after) p.whole x.entry kk p.leads.shape
    (sym (append_assoc h.on.before_all (entries h.on.left) (entries_of u.tree ++ u.after)) ∙ ap (λ (es : List Entry). es ++ (entries_of u.tree ++ u.after)) (sym h.on.before_is) ∙ whole) x.chain in omega arith
