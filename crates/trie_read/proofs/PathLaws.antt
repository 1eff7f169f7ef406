-- Paths from the root of a trie down.
use Rattle.std.proofs.Common.{◌≡◌, ℕ, zero, suc, ◌+◌, ◌-◌, ◌<◌, ◌≤◌, List, ◌++◌, Some, slice_get, get_or, count_ones, append-nil, append_assoc, arith, refl, sym, ◌∙◌, ap, subst}
use Rattle.std.proofs.lemmas.Option.{get_or_from_slice_get}
use Rattle.packed_node.specs.declared.Cell.{Cell}
use Rattle.packed_node.specs.declared.Leaf.{Leaf}
use Rattle.packed_node.specs.declared.Branch.{Branch}
use Rattle.packed_node.specs.declared.Node.{Node}
use Rattle.packed_node.specs.declared.Node.TheVariants as node
use Rattle.packed_node.specs.Nodes.{IsNode, SaysNode, packed}
use Rattle.trie_model.specs.Keys.{Entry}
use Rattle.trie_model.specs.Trees.{Tree, Twigs, entries_of, entries, count, beside, IsTree, AreTwigs}
use Rattle.trie_model.specs.Trees.Tree.{leaf, branch}
use Rattle.trie_model.specs.Trees.Twigs.{none, twig}
use Rattle.trie_model.specs.Memory.{node_of, top_cell, Beneath}
use Rattle.trie_model.proofs.BitmapLaws.{count-beside}
use Rattle.trie_model.proofs.SplitLaws.{entries-beside, lie_right}
use Rattle.trie_read.specs.declared.path.Step.{Step}
use Rattle.trie_read.specs.declared.path.Path.{Path}
use Rattle.trie_read.specs.Reads.{IsTop}
use Rattle.trie_read.specs.Finds.{IsBranchOf}
use Rattle.trie_read.specs.Walks.{step_of, HangsOn, HangsBy, AnyStep, LeadsTo, LeadsToCell, LeadsToLeaf, LeadsToFirst, LeadsToLast}
use Rattle.trie_read.proofs.NodeLaws.{branch_told, LeafTold, leaf_told}
use Rattle.trie_model.proofs.NodeLaws.{says_node, node_read}
use Rattle.trie_read.proofs.TwigLaws.{loosen, Ith, twigs_counted}

-- ---- what hangs on a path
abbrev hook_kept : (step : Step) (above other : Tree → List Entry → List Entry → Type 0) → ((t : Tree) (b a : List Entry) → above t b a → other t b a) → (t : Tree) (before after : List Entry) (h : HangsOn step above t before after) → HangsOn step other t before after
hook_kept step above other keep t before after h = record {
  left = h.left;
  position = h.position;
  right = h.right;
  before_all = h.before_all;
  after_all = h.after_all;
  parent = keep (branch step.offset step.twigs (beside h.left (twig h.position t h.right))) h.before_all h.after_all h.parent;
  index = h.index;
  whole = h.whole;
  before_is = h.before_is;
  after_is = h.after_is;
}

-- by the steps before n alone, and by what is said of them
pub hangs_kept : (said other : Step → Twigs → Tree → Twigs → Type 0) → ((s : Step) (l : Twigs) (t : Tree) (r : Twigs) → said s l t r → other s l t r) → (steps new : List Step) (whole : Tree) (n : ℕ) → ((i : ℕ) → i < n → slice_get new i ≡ slice_get steps i) →
    (t : Tree) (before after : List Entry) → HangsBy said steps whole n t before after → HangsBy other new whole n t before after
hangs_kept said other weak steps new whole zero same t before after h = h
hangs_kept said other weak steps new whole (suc n) same t before after h = record {
  step = h.step;
  there = same n (omega arith) ∙ h.there;
  on = hook_kept h.step (HangsBy said steps whole n) (HangsBy other new whole n) (hangs_kept said other weak steps new whole n (λ i l. same i (omega arith))) t before after h.on;
  so = weak h.step h.on.left t h.on.right h.so;
}

-- the twig that a step takes: offsets rise, and its cell is where the step says
pub record Hung (has : ℕ → Cell → Type 0) (step : Step) (t : Tree) : Type 0 where
  pub tree : IsTree (suc step.offset) t
  pub there : has (step.twigs + step.index) (top_cell t)
  pub beneath : Beneath has t

twig_tree : (o lo : ℕ) (l r : Twigs) (p : ℕ) (t : Tree) → AreTwigs o lo (beside l (twig p t r)) → IsTree (suc o) t
twig_tree o lo none r p t a = a.3
twig_tree o lo (twig q u rest) r p t a = twig_tree o (suc q) rest r p t a.4

pub hung_on : (has : ℕ → Cell → Type 0) (step : Step) (left right : Twigs) (p : ℕ) (t : Tree) (low : ℕ) → IsTree low (branch step.offset step.twigs (beside left (twig p t right))) → Beneath has (branch step.offset step.twigs (beside left (twig p t right))) → count left ≡ step.index → Hung has step t
hung_on has step left right p t low tree beneath index =
    let cells = lie_right has step.twigs left (twig p t right) beneath in
    record { tree = twig_tree step.offset 0 left right p t tree.5; there = subst (λ (n : ℕ). has (step.twigs + n) (top_cell t)) index cells.0; beneath = cells.1 }

deeper_than : (low n : ℕ) (t : Tree) → n ≤ low → IsTree low t → IsTree n t
deeper_than low n (leaf e w) l h = h
deeper_than low n (branch o w below) l h = (let a = h.0 in omega arith, h.1, h.2, h.3, h.4, h.5)

pub record Hangs (has : ℕ → Cell → Type 0) (n : ℕ) (t : Tree) : Type 0 where
  pub tree : IsTree n t
  pub beneath : Beneath has t

pub hanging : (said : Step → Twigs → Tree → Twigs → Type 0) (has : ℕ → Cell → Type 0) (steps : List Step) (whole : Tree) → IsTree 0 whole → Beneath has whole → (n : ℕ) (t : Tree) (before after : List Entry) → HangsBy said steps whole n t before after → Hangs has n t
hanging said has steps whole shape beneath zero t before after h = record { tree = subst (IsTree 0) (sym h.0) shape; beneath = subst (Beneath has) (sym h.0) beneath }
hanging said has steps whole shape beneath (suc n) t before after h =
    let up = hanging said has steps whole shape beneath n (branch h.step.offset h.step.twigs (beside h.on.left (twig h.on.position t h.on.right))) h.on.before_all h.on.after_all h.on.parent in
    let here = hung_on has h.step h.on.left h.on.right h.on.position t n up.tree up.beneath h.on.index in
    record { tree = deeper_than (suc h.step.offset) (suc n) t (let a = up.tree.0 in omega arith) here.tree; beneath = here.beneath }

-- the branch that the last step takes a twig of
pub above : (said : Step → Twigs → Tree → Twigs → Type 0) (has : ℕ → Cell → Type 0) (steps : List Step) (whole : Tree) → IsTree 0 whole → Beneath has whole → (n : ℕ) (t : Tree) (before after : List Entry) (h : HangsBy said steps whole (suc n) t before after) → Hung has h.step t
above said has steps whole shape beneath n t before after h =
    let up = hanging said has steps whole shape beneath n (branch h.step.offset h.step.twigs (beside h.on.left (twig h.on.position t h.on.right))) h.on.before_all h.on.after_all h.on.parent in
    hung_on has h.step h.on.left h.on.right h.on.position t n up.tree up.beneath h.on.index

-- it stands between what is before and after it
pub hangs_between : (said : Step → Twigs → Tree → Twigs → Type 0) (steps : List Step) (whole : Tree) (n : ℕ) (t : Tree) (before after : List Entry) → HangsBy said steps whole n t before after → before ++ (entries_of t ++ after) ≡ entries_of whole
hangs_between said steps whole zero t before after h =
    ap (λ (es : List Entry). es ++ (entries_of t ++ after)) h.1 ∙ ap (λ (es : List Entry). entries_of t ++ es) h.2 ∙ append-nil (entries_of t) ∙ ap entries_of h.0
hangs_between said steps whole (suc n) t before after h =
    let up = hangs_between said steps whole n (branch h.step.offset h.step.twigs (beside h.on.left (twig h.on.position t h.on.right))) h.on.before_all h.on.after_all h.on.parent in
    ap (λ (es : List Entry). es ++ (entries_of t ++ after)) h.on.before_is ∙ ap (λ (es : List Entry). (h.on.before_all ++ entries h.on.left) ++ (entries_of t ++ es)) h.on.after_is
    ∙ around h.on.before_all (entries h.on.left) (entries_of t) (entries h.on.right) h.on.after_all ∙ ap (λ (es : List Entry). h.on.before_all ++ (es ++ h.on.after_all)) (sym (entries-beside h.on.left (twig h.on.position t h.on.right))) ∙ up
  where
    around : (a b c d e : List Entry) → (a ++ b) ++ (c ++ (d ++ e)) ≡ a ++ ((b ++ (c ++ d)) ++ e)
    around a b c d e = append_assoc a b (c ++ (d ++ e)) ∙ ap (λ (es : List Entry). a ++ es) (ap (λ (es : List Entry). b ++ es) (sym (append_assoc c d e)) ∙ sym (append_assoc b (c ++ d) e))

-- ---- a path that leads to a tree whose cell was read
pub top_of : (said : Step → Twigs → Tree → Twigs → Type 0) (has : ℕ → Cell → Type 0) (path : Path) (whole t : Tree) (before after : List Entry) (cell : Cell) → LeadsTo said has path whole t before after → cell ≡ top_cell t → IsTop has path.depth cell t
top_of said has path whole t before after cell l is = let h = hanging said has path.steps whole l.shape l.beneath path.depth t before after l.hangs in record { tree = h.tree; is = is; beneath = h.beneath }

pub leads_as : (said : Step → Twigs → Tree → Twigs → Type 0) (has : ℕ → Cell → Type 0) (path : Path) (whole t u : Tree) (before after : List Entry) → t ≡ u → LeadsTo said has path whole t before after → LeadsTo said has path whole u before after
leads_as said has path whole t u before after e l = subst (λ (x : Tree). LeadsTo said has path whole x before after) e l

pub leads_in : {S : Type 0} (H : S → ℕ → Cell → Type 0) (s0 s1 : S) (said : Step → Twigs → Tree → Twigs → Type 0) (path : Path) (whole t : Tree) (before after : List Entry) → s1 ≡ s0 → LeadsTo said (H s0) path whole t before after → LeadsTo said (H s1) path whole t before after
leads_in H s0 s1 said path whole t before after e l = subst (λ s. LeadsTo said (H s) path whole t before after) (sym e) l

-- one step more
pub stepped : (said : Step → Twigs → Tree → Twigs → Type 0) (has : ℕ → Cell → Type 0) (path new : Path) (whole : Tree) (b : Branch) (below : Twigs) (before after : List Entry) (i : ℕ) (x : Ith has b.offset b.twigs i below) → LeadsTo said has path whole (branch b.offset b.twigs below) before after →
    count_ones b.bitmap ≡ count below → new.depth ≡ path.depth + 1 → slice_get new.steps path.depth ≡ Some (step_of b i) → ((j : ℕ) → j < path.depth → slice_get new.steps j ≡ slice_get path.steps j) → said (step_of b i) x.left x.tree x.right →
    LeadsTo said has new whole x.tree (before ++ entries x.left) (entries x.right ++ after)
stepped said has path new whole b below before after i x l counted depth step kept so =
    let more : HangsBy said new.steps whole (suc path.depth) x.tree (before ++ entries x.left) (entries x.right ++ after) = record {
      step = step_of b i;
      there = step;
      on = record {
        left = x.left;
        position = x.position;
        right = x.right;
        before_all = before;
        after_all = after;
        parent = hangs_kept said said (λ s l t r q. q) path.steps new.steps whole path.depth kept (branch b.offset b.twigs (beside x.left (twig x.position x.tree x.right))) before after
            (subst (λ (ts : Twigs). HangsBy said path.steps whole path.depth (branch b.offset b.twigs ts) before after) x.is l.hangs);
        index = x.place;
        whole = (let n = ap count x.is ∙ count-beside x.left (twig x.position x.tree x.right) in omega arith);
        before_is = refl;
        after_is = refl;
      };
      so = so;
    } in
    let n : suc path.depth ≡ new.depth = omega arith in
    record { shape = l.shape; beneath = l.beneath; hangs = subst (λ (k : ℕ). HangsBy said new.steps whole k x.tree (before ++ entries x.left) (entries x.right ++ after)) n more }

pub first_none : (has : ℕ → Cell → Type 0) (o r : ℕ) (below : Twigs) (x : Ith has o r 0 below) → x.left ≡ none
first_none has o r below x = empty x.left x.place
  where
    empty : (l : Twigs) → count l ≡ 0 → l ≡ none
    empty none e = refl
    empty (twig p t rest) e = absurd (omega arith)

pub last_none : (has : ℕ → Cell → Type 0) (o r i : ℕ) (below : Twigs) (x : Ith has o r i below) → suc i ≡ count below → x.right ≡ none
last_none has o r i below x e = empty x.right (let n = ap count x.is ∙ count-beside x.left (twig x.position x.tree x.right) in let p = x.place in omega arith)
  where
    empty : (l : Twigs) → count l ≡ 0 → l ≡ none
    empty none e = refl
    empty (twig p t rest) e = absurd (omega arith)

-- through the first twig: nothing comes before it
pub first_before : (has : ℕ → Cell → Type 0) (b : Branch) (below : Twigs) (before : List Entry) (x : Ith has b.offset b.twigs 0 below) → before ++ entries x.left ≡ before
first_before has b below before x = ap (λ (ts : Twigs). before ++ entries ts) (first_none has b.offset b.twigs below x) ∙ append-nil before

pub first_all : (has : ℕ → Cell → Type 0) (b : Branch) (below : Twigs) (after : List Entry) (x : Ith has b.offset b.twigs 0 below) → entries_of x.tree ++ (entries x.right ++ after) ≡ entries below ++ after
first_all has b below after x =
    sym (append_assoc (entries_of x.tree) (entries x.right) after) ∙ ap (λ (es : List Entry). es ++ after) (sym (ap entries x.is ∙ ap (λ (ts : Twigs). entries (beside ts (twig x.position x.tree x.right))) (first_none has b.offset b.twigs below x)))

pub last_after : (has : ℕ → Cell → Type 0) (b : Branch) (below : Twigs) (i : ℕ) (after : List Entry) (x : Ith has b.offset b.twigs i below) → suc i ≡ count below → entries x.right ++ after ≡ after
last_after has b below i after x e = ap (λ (ts : Twigs). entries ts ++ after) (last_none has b.offset b.twigs i below x e)

pub last_all : (has : ℕ → Cell → Type 0) (b : Branch) (below : Twigs) (i : ℕ) (before : List Entry) (x : Ith has b.offset b.twigs i below) → suc i ≡ count below → (before ++ entries x.left) ++ entries_of x.tree ≡ before ++ entries below
last_all has b below i before x e =
    append_assoc before (entries x.left) (entries_of x.tree)
    ∙ ap (λ (es : List Entry). before ++ es) (ap (λ (es : List Entry). entries x.left ++ es) (sym (append-nil (entries_of x.tree)) ∙ ap (λ (ts : Twigs). entries_of x.tree ++ entries ts) (sym (last_none has b.offset b.twigs i below x e))) ∙ sym (ap entries x.is ∙ entries-beside x.left (twig x.position x.tree x.right)))

-- at a leaf
pub leads_to_leaf : (said : Step → Twigs → Tree → Twigs → Type 0) (has : ℕ → Cell → Type 0) (path : Path) (whole t : Tree) (before after : List Entry) (l : Leaf) (x : LeafTold has t l) → LeadsTo said has path whole t before after → LeadsToLeaf said has path whole x.entry l before after
leads_to_leaf said has path whole t before after l x leads = record { extents = x.extents; leads = leads_as said has path whole t (leaf x.entry x.extents) before after x.tree leads; leaf_of = x.leaf_of }

pub first_leaf : (has : ℕ → Cell → Type 0) (path : Path) (whole t : Tree) (before after : List Entry) (l : Leaf) (x : LeafTold has t l) → LeadsTo AnyStep has path whole t before after → LeadsToFirst has path whole l before (entries_of t ++ after)
first_leaf has path whole t before after l x leads = record { entry = x.entry; after = after; is = ap (λ (es : List Entry). es ++ after) x.is; leaf = leads_to_leaf AnyStep has path whole t before after l x leads }

pub last_leaf : (has : ℕ → Cell → Type 0) (path : Path) (whole t : Tree) (before after : List Entry) (l : Leaf) (x : LeafTold has t l) → LeadsTo AnyStep has path whole t before after → LeadsToLast has path whole l (before ++ entries_of t) after
last_leaf has path whole t before after l x leads = record { entry = x.entry; before = before; is = ap (λ (es : List Entry). before ++ es) x.is; leaf = leads_to_leaf AnyStep has path whole t before after l x leads }

-- a path that leads to a branch
pub record AtBranch (said : Step → Twigs → Tree → Twigs → Type 0) (has : ℕ → Cell → Type 0) (path : Path) (whole t : Tree) (before after : List Entry) (b : Branch) : Type 0 where
  pub below : Twigs
  pub of : IsBranchOf has b below
  pub all : entries_of t ≡ entries below
  pub leads : LeadsTo said has path whole (branch b.offset b.twigs below) before after
  pub room : path.depth < 504
  pub counted : count_ones b.bitmap ≡ count below
  pub two : 2 ≤ count below

pub at_branch : (said : Step → Twigs → Tree → Twigs → Type 0) (has : ℕ → Cell → Type 0) (path : Path) (whole t : Tree) (before after : List Entry) (b : Branch) → LeadsTo said has path whole t before after → node_of t ≡ node.Branch b → AtBranch said has path whole t before after b
at_branch said has path whole t before after b leads is =
    let x = branch_told t b is in
    let h = hanging said has path.steps whole leads.shape leads.beneath path.depth t before after leads.hangs in
    let deep = subst (IsTree path.depth) x.is h.tree in
    let of : IsBranchOf has b x.below = record { tree = loosen path.depth (branch b.offset b.twigs x.below) deep; lies = subst (Beneath has) x.is h.beneath; bitmap = x.bitmap } in
    record { below = x.below; of = of; all = ap entries_of x.is; leads = leads_as said has path whole t (branch b.offset b.twigs x.below) before after x.is leads; room = (let a = deep.0 in let e = deep.1 in omega arith); counted = twigs_counted has b x.below of; two = of.tree.3 }

pub at_leaf : (said : Step → Twigs → Tree → Twigs → Type 0) (has : ℕ → Cell → Type 0) (path : Path) (whole t : Tree) (before after : List Entry) (l : Leaf) → LeadsTo said has path whole t before after → node_of t ≡ node.Leaf l → LeafTold has t l
at_leaf said has path whole t before after l leads is =
    let h = hanging said has path.steps whole leads.shape leads.beneath path.depth t before after leads.hangs in
    leaf_told has path.depth t l h.tree h.beneath is

-- the node that a path leads to, as it was read
pub node_there : (said : Step → Twigs → Tree → Twigs → Type 0) (has : ℕ → Cell → Type 0) (path : Path) (whole t : Tree) (before after : List Entry) (cell : Cell) (r : Node) → LeadsTo said has path whole t before after → cell ≡ top_cell t → ((n : Node) → IsNode n → packed n ≡ cell → r ≡ n) → r ≡ node_of t
node_there said has path whole t before after cell r leads is back =
    node_read path.depth t cell r (hanging said has path.steps whole leads.shape leads.beneath path.depth t before after leads.hangs).tree is back

pub says_there : (said : Step → Twigs → Tree → Twigs → Type 0) (has : ℕ → Cell → Type 0) (path : Path) (cell : Cell) → LeadsToCell said has path cell → SaysNode cell
says_there said has path cell l = says_node path.depth l.tree cell (hanging said has path.steps l.whole l.leads.shape l.leads.beneath path.depth l.tree l.before l.after l.leads.hangs).tree l.is

-- ---- the shape alone
pub shape_at : (said : Step → Twigs → Tree → Twigs → Type 0) (steps : List Step) (whole : Tree) → IsTree 0 whole → (n : ℕ) (t : Tree) (before after : List Entry) → HangsBy said steps whole n t before after → IsTree n t
shape_at said steps whole shape zero t before after h = subst (IsTree 0) (sym h.0) shape
shape_at said steps whole shape (suc n) t before after h =
    let up = shape_at said steps whole shape n (branch h.step.offset h.step.twigs (beside h.on.left (twig h.on.position t h.on.right))) h.on.before_all h.on.after_all h.on.parent in
    deeper_than (suc h.step.offset) (suc n) t (let a = up.0 in omega arith) (twig_tree h.step.offset 0 h.on.left h.on.right h.on.position t up.5)

pub shape_above : (said : Step → Twigs → Tree → Twigs → Type 0) (steps : List Step) (whole : Tree) → IsTree 0 whole → (n : ℕ) (t : Tree) (before after : List Entry) (h : HangsBy said steps whole (suc n) t before after) → IsTree n (branch h.step.offset h.step.twigs (beside h.on.left (twig h.on.position t h.on.right)))
shape_above said steps whole shape n t before after h = shape_at said steps whole shape n (branch h.step.offset h.step.twigs (beside h.on.left (twig h.on.position t h.on.right))) h.on.before_all h.on.after_all h.on.parent

pub depth_few : (said : Step → Twigs → Tree → Twigs → Type 0) (steps : List Step) (whole : Tree) → IsTree 0 whole → (n : ℕ) (t : Tree) (before after : List Entry) → HangsBy said steps whole n t before after → n ≤ 504
depth_few said steps whole shape zero t before after h = omega arith
depth_few said steps whole shape (suc n) t before after h = let up = shape_above said steps whole shape n t before after h in let a = up.0 in let b = up.1 in omega arith

pub at_depth : (said : Step → Twigs → Tree → Twigs → Type 0) (steps : List Step) (whole : Tree) (d n : ℕ) (t : Tree) (before after : List Entry) → d ≡ n → HangsBy said steps whole d t before after → HangsBy said steps whole n t before after
at_depth said steps whole d n t before after e h = subst (λ (k : ℕ). HangsBy said steps whole k t before after) e h

pub below_step : (said : Step → Twigs → Tree → Twigs → Type 0) (steps : List Step) (whole : Tree) → IsTree 0 whole → (n : ℕ) (t : Tree) (before after : List Entry) (h : HangsBy said steps whole (suc n) t before after) → IsTree (suc h.step.offset) t
below_step said steps whole shape n t before after h = twig_tree h.step.offset 0 h.on.left h.on.right h.on.position t (shape_above said steps whole shape n t before after h).5

-- where the last step leads
pub node_above : (said : Step → Twigs → Tree → Twigs → Type 0) (has : ℕ → Cell → Type 0) (steps : List Step) (whole t : Tree) (n : ℕ) (before after : List Entry) (d : Step) → 0 < n → IsTree 0 whole → Beneath has whole → HangsBy said steps whole n t before after →
    has ((get_or steps (n - 1) d).twigs + (get_or steps (n - 1) d).index) (top_cell t)
node_above said has steps whole t n before after d some shape beneath hangs =
    let e : n ≡ suc (n - 1) = omega arith in
    let h = at_depth said steps whole n (suc (n - 1)) t before after e hangs in
    let up = above said has steps whole shape beneath (n - 1) t before after h in
    subst (λ (s : Step). has (s.twigs + s.index) (top_cell t)) (sym (get_or_from_slice_get steps (n - 1) h.step d h.there)) up.there

pub step_fits : (said : Step → Twigs → Tree → Twigs → Type 0) (steps : List Step) (whole t : Tree) (n : ℕ) (before after : List Entry) (d : Step) → 0 < n → IsTree 0 whole → HangsBy said steps whole n t before after → (get_or steps (n - 1) d).twigs + (get_or steps (n - 1) d).index ≤ 4194304
step_fits said steps whole t n before after d some shape hangs =
    let e : n ≡ suc (n - 1) = omega arith in
    let h = at_depth said steps whole n (suc (n - 1)) t before after e hangs in
    let up = shape_above said steps whole shape (n - 1) t before after h in
    let row = up.2.inside in
    let c = count-beside h.on.left (twig h.on.position t h.on.right) in
    let i = h.on.index in
    subst (λ (s : Step). s.twigs + s.index ≤ 4194304) (sym (get_or_from_slice_get steps (n - 1) h.step d h.there)) (omega arith)

-- the node that a way down has come to
pub record ComesTo (said : Step → Twigs → Tree → Twigs → Type 0) (has : ℕ → Cell → Type 0) (path : Path) (whole : Tree) (n : Node) : Type 0 where
  pub tree : Tree
  pub before : List Entry
  pub after : List Entry
  pub leads : LeadsTo said has path whole tree before after
  pub is : n ≡ node_of tree

pub came_to_branch : (said : Step → Twigs → Tree → Twigs → Type 0) (has : ℕ → Cell → Type 0) (path : Path) (whole : Tree) (n : Node) (b : Branch) (h : ComesTo said has path whole n) → n ≡ node.Branch b → AtBranch said has path whole h.tree h.before h.after b
came_to_branch said has path whole n b h is = at_branch said has path whole h.tree h.before h.after b h.leads (sym h.is ∙ is)

pub came_to_leaf : (said : Step → Twigs → Tree → Twigs → Type 0) (has : ℕ → Cell → Type 0) (path : Path) (whole : Tree) (n : Node) (l : Leaf) (h : ComesTo said has path whole n) → n ≡ node.Leaf l → LeafTold has h.tree l
came_to_leaf said has path whole n l h is = at_leaf said has path whole h.tree h.before h.after l h.leads (sym h.is ∙ is)

pub comes_further : (said : Step → Twigs → Tree → Twigs → Type 0) (has : ℕ → Cell → Type 0) (path new : Path) (whole : Tree) (n m : Node) (b : Branch) (h : ComesTo said has path whole n) (a : AtBranch said has path whole h.tree h.before h.after b) (i : ℕ) (x : Ith has b.offset b.twigs i a.below) (c : Cell) →
    new.depth ≡ path.depth + 1 → slice_get new.steps path.depth ≡ Some (step_of b i) → ((j : ℕ) → j < path.depth → slice_get new.steps j ≡ slice_get path.steps j) → said (step_of b i) x.left x.tree x.right →
    ((d : Cell) → has (b.twigs + i) d → c ≡ d) → ((y : Node) → IsNode y → packed y ≡ c → m ≡ y) → ComesTo said has new whole m
comes_further said has path new whole n m b h a i x c depth step kept so read back = record {
  tree = x.tree;
  before = h.before ++ entries x.left;
  after = entries x.right ++ h.after;
  leads = stepped said has path new whole b a.below h.before h.after i x a.leads a.counted depth step kept so;
  is = node_read (b.offset + 1) x.tree c m x.deeper (read (top_cell x.tree) x.there) back;
}
