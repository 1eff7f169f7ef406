-- Where an iterator stands: between two entries of a version, at the end of a path of steps from the root down.
use Rattle.std.specs.Prelude.{◌≡◌, ℕ, zero, suc, ◌+◌, ◌≤◌, List, [], ◌∷◌, ◌++◌, Bool, true, false, Option, Some, None, MatchOption, slice_get, count_ones}
use Rattle.packed_node.specs.declared.Cell.{Cell}
use Rattle.packed_node.specs.declared.Leaf.{Leaf}
use Rattle.packed_node.specs.declared.Branch.{Branch}
use Rattle.zone_model.specs.Keys.{Leads, IsKey}
use Rattle.shift_key.specs.declared.difference.Difference.{Difference}
use Rattle.shift_key.specs.Differences.{IsDifference}
use Rattle.trie_model.specs.Extents.{Extents}
use Rattle.trie_model.specs.Keys.{at, Same, Entry, InList}
use Rattle.trie_model.specs.Trees.{Rising, Tree, Twigs, entries_of, entries, count, beside, IsTree}
use Rattle.trie_model.specs.Trees.Tree.{leaf, branch}
use Rattle.trie_model.specs.Trees.Twigs.{twig}
use Rattle.trie_model.specs.Memory.{top_cell, Beneath, IsTrieAt, Stands}
use Rattle.trie_read.specs.Reads.{IsLeafOf, EachTells}
use Rattle.trie_read.specs.declared.ancestors.Ancestor.{Ancestor}
use Rattle.trie_read.specs.declared.path.Step.{Step}
use Rattle.trie_read.specs.declared.path.Path.{Path}
use Rattle.trie_read.specs.declared.iter.Cursor.{Cursor}
use Rattle.trie_read.specs.declared.iter.Cursor.TheVariants.{Start, Facing, Past}
use Rattle.trie_read.specs.declared.iter.Iter.{Iter}
use Rattle.trie_read.specs.declared.iter.Met.{Met}

-- a step takes the twig with this index of a branch
abbrev pub step_of : Branch → ℕ → Step
step_of b index = record { twigs = b.twigs; offset = b.offset; index = index; count = count_ones b.bitmap }

-- The tree is the twig that a step takes of its branch. The branch hangs above, with entries before and after all of its own.
pub record HangsOn (step : Step) (above : Tree → List Entry → List Entry → Type 0) (t : Tree) (before after : List Entry) : Type 0 where
  pub left : Twigs
  pub position : ℕ
  pub right : Twigs
  pub before_all : List Entry
  pub after_all : List Entry
  pub parent : above (branch step.offset step.twigs (beside left (twig position t right))) before_all after_all
  pub index : count left ≡ step.index
  pub whole : count left + suc (count right) ≡ step.count
  pub before_is : before ≡ before_all ++ entries left
  pub after_is : after ≡ entries right ++ after_all

-- a step of which something is said, at a place of the path
pub record HangsAt (said : Step → Twigs → Tree → Twigs → Type 0) (steps : List Step) (n : ℕ) (above : Tree → List Entry → List Entry → Type 0) (t : Tree) (before after : List Entry) : Type 0 where
  pub step : Step
  pub there : slice_get steps n ≡ Some step
  pub on : HangsOn step above t before after
  pub so : said step on.left t on.right

-- the tree hangs in the whole one at the end of n steps, with these entries before and after it
abbrev pub HangsBy : (Step → Twigs → Tree → Twigs → Type 0) → List Step → Tree → ℕ → Tree → List Entry → List Entry → Type 0
HangsBy said steps whole zero t before after = (t ≡ whole) × (before ≡ []) × (after ≡ [])
HangsBy said steps whole (suc n) t before after = HangsAt said steps n (HangsBy said steps whole n) t before after

abbrev pub AnyStep : Step → Twigs → Tree → Twigs → Type 0
AnyStep step left t right = Unit {0}

-- the twigs on each side of the step are on their sides of the key's position at the branch
abbrev pub Guided : List ℕ → Step → Twigs → Tree → Twigs → Type 0
Guided key step left t right = Rising 0 (at key step.offset) left × Rising (suc (at key step.offset)) 47 right

-- a path leads to the tree, in a trie that lies in the memory
pub record LeadsTo (said : Step → Twigs → Tree → Twigs → Type 0) (has : ℕ → Cell → Type 0) (path : Path) (whole t : Tree) (before after : List Entry) : Type 0 where
  pub shape : IsTree 0 whole
  pub beneath : Beneath has whole
  pub hangs : HangsBy said path.steps whole path.depth t before after

-- a path leads to some tree with this cell
pub record LeadsToCell (said : Step → Twigs → Tree → Twigs → Type 0) (has : ℕ → Cell → Type 0) (path : Path) (cell : Cell) : Type 0 where
  pub whole : Tree
  pub tree : Tree
  pub before : List Entry
  pub after : List Entry
  pub leads : LeadsTo said has path whole tree before after
  pub is : cell ≡ top_cell tree

-- the tree hangs in the whole one, which lies in the memory from the root on, at the end of the first steps of a path
pub record HangsAtLevel (said : Step → Twigs → Tree → Twigs → Type 0) (has : ℕ → Cell → Type 0) (path : Path) (root level : ℕ) (whole t : Tree) (before after : List Entry) : Type 0 where
  pub top : has root (top_cell whole)
  pub shape : IsTree 0 whole
  pub beneath : Beneath has whole
  pub hangs : HangsBy said path.steps whole level t before after

-- some tree does
pub record HasNode (has : ℕ → Cell → Type 0) (path : Path) (root level : ℕ) : Type 0 where
  pub whole : Tree
  pub tree : Tree
  pub before : List Entry
  pub after : List Entry
  pub at : HangsAtLevel AnyStep has path root level whole tree before after

-- a path leads to an entry's leaf
pub record LeadsToLeaf (said : Step → Twigs → Tree → Twigs → Type 0) (has : ℕ → Cell → Type 0) (path : Path) (whole : Tree) (e : Entry) (l : Leaf) (before after : List Entry) : Type 0 where
  pub extents : Extents
  pub leads : LeadsTo said has path whole (leaf e extents) before after
  pub leaf_of : IsLeafOf has e l

-- it leads to the first of these entries, or to the last
pub record LeadsToFirst (has : ℕ → Cell → Type 0) (path : Path) (whole : Tree) (l : Leaf) (before all : List Entry) : Type 0 where
  pub entry : Entry
  pub after : List Entry
  pub is : all ≡ entry ∷ after
  pub leaf : LeadsToLeaf AnyStep has path whole entry l before after

pub record LeadsToLast (has : ℕ → Cell → Type 0) (path : Path) (whole : Tree) (l : Leaf) (all after : List Entry) : Type 0 where
  pub entry : Entry
  pub before : List Entry
  pub is : all ≡ before ++ (entry ∷ [])
  pub leaf : LeadsToLeaf AnyStep has path whole entry l before after

-- a path that leads somewhere
pub record IsPath (path : Path) : Type 0 where
  pub whole : Tree
  pub tree : Tree
  pub before : List Entry
  pub after : List Entry
  pub shape : IsTree 0 whole
  pub hangs : HangsBy AnyStep path.steps whole path.depth tree before after

-- a path turned from a tree to what comes next after it, or right before it, where anything does
pub record TurnedNext (path : Path) (whole : Tree) (before after : List Entry) : Type 0 where
  pub tree : Tree
  pub rest : List Entry
  pub is : after ≡ entries_of tree ++ rest
  pub hangs : HangsBy AnyStep path.steps whole path.depth tree before rest

abbrev pub TurnsNext : Path → Tree → List Entry → List Entry → Bool → Type 0
TurnsNext path whole before after true = TurnedNext path whole before after
TurnsNext path whole before after false = after ≡ []

pub record TurnedBack (path : Path) (whole : Tree) (before after : List Entry) : Type 0 where
  pub tree : Tree
  pub rest : List Entry
  pub is : before ≡ rest ++ entries_of tree
  pub hangs : HangsBy AnyStep path.steps whole path.depth tree rest after

abbrev pub TurnsBack : Path → Tree → List Entry → List Entry → Bool → Type 0
TurnsBack path whole before after true = TurnedBack path whole before after
TurnsBack path whole before after false = before ≡ []

-- a path guided by the key leads to some leaf
pub record Approached (key : List ℕ) (has : ℕ → Cell → Type 0) (path : Path) (whole : Tree) (l : Leaf) : Type 0 where
  pub entry : Entry
  pub before : List Entry
  pub after : List Entry
  pub leaf : LeadsToLeaf (Guided key) has path whole entry l before after

-- the path was cut where the branches lie past a place: all below it read the same as the entry up to that place
pub record CutAt (key : List ℕ) (path : Path) (whole : Tree) (e : Entry) (place : ℕ) : Type 0 where
  pub tree : Tree
  pub before : List Entry
  pub after : List Entry
  pub hangs : HangsBy (Guided key) path.steps whole path.depth tree before after
  pub there : InList e (entries_of tree)
  pub alike : (x : Entry) → InList x (entries_of tree) → Same (suc place) x.key e.key
  pub early : (n : ℕ) (step : Step) → suc n ≡ path.depth → slice_get path.steps n ≡ Some step → step.offset ≤ place

-- a path leads to the leaf of an entry of the version, which has these entries before and after it
pub record OnLeaf (has : ℕ → Cell → Type 0) (root : Option ℕ) (path : Path) (l : Leaf) (before : List Entry) (e : Entry) (after : List Entry) : Type 0 where
  pub at : ℕ
  pub root_is : root ≡ Some at
  pub whole : Tree
  pub trie : IsTrieAt has at whole (before ++ (e ∷ after))
  pub leaf : LeadsToLeaf AnyStep has path whole e l before after

pub record Faces (has : ℕ → Cell → Type 0) (root : Option ℕ) (path : Path) (l : Leaf) (before after : List Entry) : Type 0 where
  pub entry : Entry
  pub rest : List Entry
  pub is : after ≡ entry ∷ rest
  pub on : OnLeaf has root path l before entry rest

pub record HasPassed (has : ℕ → Cell → Type 0) (root : Option ℕ) (path : Path) (l : Leaf) (before after : List Entry) : Type 0 where
  pub entry : Entry
  pub rest : List Entry
  pub is : before ≡ rest ++ (entry ∷ [])
  pub on : OnLeaf has root path l rest entry after

-- the leaf of the next entry is faced, or there is none; the previous one's was passed, or there is none
abbrev pub FacesNext : (ℕ → Cell → Type 0) → Path → Option Leaf → Option ℕ → List Entry → List Entry → Type 0
FacesNext has path answer root before after = MatchOption answer (after ≡ []) (λ l. Faces has root path l before after)

abbrev pub HasPassedLast : (ℕ → Cell → Type 0) → Path → Option Leaf → Option ℕ → List Entry → List Entry → Type 0
HasPassedLast has path answer root before after = MatchOption answer (before ≡ []) (λ l. HasPassed has root path l before after)

-- from a tree that a path leads to, the leaf of its first entry is faced, or that of its last was passed
abbrev pub FacesFirst : (ℕ → Cell → Type 0) → ℕ → Path → Path → Leaf → Type 0
FacesFirst has root path path_new l = (version : List Entry) (whole t : Tree) (before after : List Entry) → IsTrieAt has root whole version
    → LeadsTo AnyStep has path whole t before after → Faces has (Some root) path_new l before (entries_of t ++ after)

abbrev pub PassesLast : (ℕ → Cell → Type 0) → ℕ → Path → Path → Leaf → Type 0
PassesLast has root path path_new l = (version : List Entry) (whole t : Tree) (before after : List Entry) → IsTrieAt has root whole version
    → LeadsTo AnyStep has path whole t before after → HasPassed has (Some root) path_new l (before ++ entries_of t) after

abbrev pub IsAt : (ℕ → Cell → Type 0) → Option ℕ → Path → Cursor → List Entry → List Entry → Type 0
IsAt has root path Start before after = (path.depth ≡ 0) × (before ≡ [])
IsAt has root path (Facing l) before after = Faces has root path l before after
IsAt has root path (Past l) before after = HasPassed has root path l before after

-- the iterator stands between the two parts of the version for which the root stands
pub record StandsBetween (has : ℕ → Cell → Type 0) (root : Option ℕ) (iter : Iter) (before after : List Entry) : Type 0 where
  pub root_is : iter.root ≡ root
  pub stands : Stands has root (before ++ after)
  pub told : EachTells Leads (before ++ after)
  pub place : IsAt has root iter.path iter.place before after

-- it stands somewhere
pub record StandsSomewhere (has : ℕ → Cell → Type 0) (iter : Iter) : Type 0 where
  pub root : Option ℕ
  pub before : List Entry
  pub after : List Entry
  pub standing : StandsBetween has root iter before after

-- wherever it stands, this holds of the root, and of the entries before it and after it
abbrev pub Wherever : (ℕ → Cell → Type 0) → Iter → (Option ℕ → List Entry → List Entry → Type 0) → Type 0
Wherever has iter holds = (root : Option ℕ) (before after : List Entry) → StandsBetween has root iter before after → holds root before after

-- of the whole version this holds
abbrev pub InVersion : (ℕ → Cell → Type 0) → Iter → (Option ℕ → List Entry → Type 0) → Type 0
InVersion has iter holds = (root : Option ℕ) (before after : List Entry) → StandsBetween has root iter before after → holds root (before ++ after)

-- A step of an iterator to the next entry, of which something is told.
pub record StepsNext (has : ℕ → Cell → Type 0) (iter iter_new : Iter) (told : Entry → Type 0) (none : Type 0) : Type 0 where
  -- where there is one it is told of, and the iterator stands right after it
  pub next : (root : Option ℕ) (before after : List Entry) (e : Entry) → StandsBetween has root iter before (e ∷ after) → told e
  pub passed : (root : Option ℕ) (before after : List Entry) (e : Entry) → StandsBetween has root iter before (e ∷ after) → StandsBetween has root iter_new (before ++ e ∷ []) after
  -- at the end nothing is told, and the iterator stays
  pub end : (root : Option ℕ) (before : List Entry) → StandsBetween has root iter before [] → none
  pub stays : (root : Option ℕ) (before : List Entry) → StandsBetween has root iter before [] → StandsBetween has root iter_new before []

-- A step to the previous one.
pub record StepsBack (has : ℕ → Cell → Type 0) (iter iter_new : Iter) (told : Entry → Type 0) (none : Type 0) : Type 0 where
  -- where there is one it is told of, and the iterator stands right before it
  pub prev : (root : Option ℕ) (before after : List Entry) (e : Entry) → StandsBetween has root iter (before ++ e ∷ []) after → told e
  pub passed : (root : Option ℕ) (before after : List Entry) (e : Entry) → StandsBetween has root iter (before ++ e ∷ []) after → StandsBetween has root iter_new before (e ∷ after)
  -- at the beginning nothing is told, and the iterator stays
  pub beginning : (root : Option ℕ) (after : List Entry) → StandsBetween has root iter [] after → none
  pub stays : (root : Option ℕ) (after : List Entry) → StandsBetween has root iter [] after → StandsBetween has root iter_new [] after

-- the iterator at the beginning
pub record IsStart (root : Option ℕ) (iter : Iter) : Type 0 where
  pub root_is : iter.root ≡ root
  pub place : iter.place ≡ Start
  pub depth : iter.path.depth ≡ 0

-- the path leads to the leaf that was met, if it has the key; else to a tree that reads as its entry does up to the first difference
abbrev pub LeadsToMet : (ℕ → Cell → Type 0) → List ℕ → Path → Tree → Entry → Leaf → Option Difference → Type 0
LeadsToMet has key path whole e l None = (x : Extents) × ((before : List Entry) × ((after : List Entry) × HangsBy (Guided key) path.steps whole path.depth (leaf e x) before after))
LeadsToMet has key path whole e l (Some d) = CutAt key path whole e d.place

-- what was met by a key's way
pub record Meets (has : ℕ → Cell → Type 0) (key : List ℕ) (root : ℕ) (path : Path) (met : Met) (version : List Entry) : Type 0 where
  pub whole : Tree
  pub trie : IsTrieAt has root whole version
  pub told : EachTells Leads version
  pub is_key : IsKey key
  pub entry : Entry
  pub there : InList entry version
  pub leaf_of : IsLeafOf has entry met.leaf
  pub differs : IsDifference key entry.key met.difference
  pub leads : LeadsToMet has key path whole entry met.leaf met.difference

-- an iterator that stands somewhere below this root can meet a key's leaf; no name was put in yet
pub record CanMeet (has : ℕ → Cell → Type 0) (root : ℕ) (iter : Iter) (above : List Ancestor) : Type 0 where
  pub stands : StandsSomewhere has iter
  pub root_is : iter.root ≡ Some root
  pub empty : above ≡ []
