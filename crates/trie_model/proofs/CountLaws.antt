-- How many of the cells that a tree reaches count: a weight for each reference, as 1 in one chunk and 0 elsewhere.
use Rattle.std.proofs.Common.{◌≡◌, ℕ, suc, ◌+◌, length, arith, refl, ◌∙◌, ap}
use Rattle.trie_model.proofs.SplitLaws.{Found, Missing}
use Rattle.trie_model.specs.Extents.{Extents, row, weigh_extents}
use Rattle.trie_model.specs.Reach.{weigh_tree, weigh}
use Rattle.trie_model.specs.Keys.{Entry}
use Rattle.trie_model.specs.Trees.{Tree, Twigs, count, beside}
use Rattle.trie_model.specs.Trees.Tree.{leaf}
use Rattle.trie_model.specs.Trees.Twigs.{none, twig}

-- what hangs on the twigs
abbrev pub under : (ℕ → ℕ) → Twigs → ℕ
under w none = 0
under w (twig p t rest) = weigh_tree w t + under w rest

-- the twigs' own cells, and what hangs on them
pub weigh_is : (w : ℕ → ℕ) (r : ℕ) (ts : Twigs) → weigh w r ts ≡ row w r (count ts) + under w ts
weigh_is w r none = refl
weigh_is w r (twig p t rest) = let h = weigh_is w (suc r) rest in omega arith

pub under-beside : (w : ℕ → ℕ) (l s : Twigs) → under w (beside l s) ≡ under w l + under w s
under-beside w none s = omega arith
under-beside w (twig p t rest) s = let h = under-beside w rest s in omega arith

-- a twig added: the old row goes, a longer one comes, with the item
pub weigh_add : (w : ℕ → ℕ) (r rn p : ℕ) (x : Extents) (e : Entry) (below : Twigs) (m : Missing 0 47 p below) →
    weigh w rn (beside m.left (twig p (leaf e x) m.right)) + row w r (count below) ≡ weigh w r below + row w rn (count (beside m.left (twig p (leaf e x) m.right))) + weigh_extents w (length e.item) x
weigh_add w r rn p x e below m =
    let a = weigh_is w rn (beside m.left (twig p (leaf e x) m.right)) in
    let b = weigh_is w r below in
    let c = under-beside w m.left (twig p (leaf e x) m.right) in
    let d = ap (under w) m.is ∙ under-beside w m.left m.right in omega arith

-- a twig's tree replaced
pub weigh_replace : (w : ℕ → ℕ) (r rn p : ℕ) (below : Twigs) (f : Found 0 47 p below) (new : Tree) →
    weigh w rn (beside f.left (twig p new f.rest)) + row w r (count below) + weigh_tree w f.here ≡ weigh w r below + row w rn (count (beside f.left (twig p new f.rest))) + weigh_tree w new
weigh_replace w r rn p below f new =
    let a = weigh_is w rn (beside f.left (twig p new f.rest)) in
    let b = weigh_is w r below in
    let c = under-beside w f.left (twig p new f.rest) in
    let d = ap (under w) f.is ∙ under-beside w f.left (twig p f.here f.rest) in omega arith

-- a twig dropped
pub weigh_drop : (w : ℕ → ℕ) (r rn p : ℕ) (below : Twigs) (f : Found 0 47 p below) →
    weigh w rn (beside f.left f.rest) + row w r (count below) + weigh_tree w f.here ≡ weigh w r below + row w rn (count (beside f.left f.rest))
weigh_drop w r rn p below f =
    let a = weigh_is w rn (beside f.left f.rest) in
    let b = weigh_is w r below in
    let c = under-beside w f.left f.rest in
    let d = ap (under w) f.is ∙ under-beside w f.left (twig p f.here f.rest) in omega arith
