-- The way down to what is to be moved.
use Rattle.std.proofs.Common.{◌≡◌, ℕ, ◌+◌, ◌<◌, ◌≤◌, ◌++◌, Bool, List, [], ◌∷◌, slice_index, count_ones, Result, Ok, Err, arith, refl, sym, ◌∙◌, ap, subst}
use Rattle.std.specs.Prelude.{IfErr}
use Rattle.packed_node.specs.declared.Cell.{Cell}
use Rattle.packed_node.specs.declared.Branch.{Branch}
use Rattle.packed_node.specs.declared.Node.{Node}
use Rattle.packed_node.specs.declared.Node.TheVariants as node
use Rattle.packed_node.specs.Nodes.{IsNode, packed}
use Rattle.trie_model.specs.Keys.{Entry}
use Rattle.trie_model.specs.Memory.{top_cell, node_of}
use Rattle.trie_model.specs.Trees.{Tree, count, bitmap_of, beside, IsTree}
use Rattle.trie_model.specs.Trees.Twigs.{twig}
use Rattle.trie_model.proofs.BitmapLaws.{ones_of}
use Rattle.trie_model.proofs.NodeLaws.{branch_told, node_read, says_node, places_left, fewer_left}
use Rattle.trie_model.proofs.SplitLaws.{rising_of}
use Rattle.chunk_usage.specs.Ledger.{Ledger}
use Rattle.trie_space.specs.Ways.{NotBefore, Fork, fork, plug, end_at}
use Rattle.trie_space.proofs.WayLaws.{plug-append, end_at-append, IsFork, is_fork, fork_count, low_at, end_lies}
use Rattle.evacuate.specs.declared.stack.Stack.{Stack}
use Rattle.evacuate.specs.Evacuations.{HasSparse}
use Rattle.evacuate.specs.Fillings.{Moves}
use Rattle.evacuate.specs.Places.{moved, Stood, Hung, IsHung, IsStood}
use Rattle.evacuate.specs.Stacks.{Steps, LeadsTo, Found, IsDue, Reached, Underway, TwigsAt}
use Rattle.evacuate.proofs.SparseLaws.{lies_left, lies_stay}
use Rattle.evacuate.proofs.TreeLaws.{hung_low, hung_tree}

module _ {S : Type 0} {has : S → ℕ → Cell → Type 0} {s : S} {l : Ledger} {r at : ℕ} {es : List Entry} {way : List Fork} {t : Tree} (h : Hung has s l r at es way t) where
  -- the cell says the tree's node
  pub hung_there : has s at (top_cell t)
  hung_there = subst (λ q. has s q (top_cell t)) (sym h.at_is) (end_lies (has s) r way t h.stood.rooted.top h.stood.rooted.beneath).0

  pub hung_says : {c : Cell} → c ≡ top_cell t → (n : Node) × IsNode n × (packed n ≡ c)
  hung_says {c} is = says_node 0 t c (hung_tree h) is

  pub hung_read : {c : Cell} {n : Node} → c ≡ top_cell t → ((m : Node) → IsNode m → packed m ≡ c → n ≡ m) → n ≡ node_of t
  hung_read {c} {n} is back = node_read 0 t c n (hung_tree h) is back

-- what holds anyway holds of a refusal
pub by_err : {T E A : Type 0} (r : Result T E) → A → IfErr r (λ _. A)
by_err (Ok x) a = tt
by_err (Err e) a = a

-- where nothing has changed
pub stood_same : {S : Type 0} {has : S → ℕ → Cell → Type 0} {s s1 : S} {l l1 : Ledger} {r : ℕ} {es : List Entry} {t : Tree} → s1 ≡ s → l1 ≡ l → Stood has s l r es t → Stood has s1 l1 r es t
stood_same {has = has} {s} {s1} {l} {l1} {r} {es} {t} e f h = subst (λ z. Stood has z l1 r es t) (sym e) (subst (λ z. Stood has s z r es t) (sym f) h)

pub is_stood_same : {S : Type 0} {has : S → ℕ → Cell → Type 0} {s s1 : S} {l l1 : Ledger} {r : ℕ} → s1 ≡ s → l1 ≡ l → IsStood has s l r → IsStood has s1 l1 r
is_stood_same e f h = record { es = h.es; t = h.t; stood = stood_same e f h.stood }

pub begins : {S : Type 0} {has : S → ℕ → Cell → Type 0} {s : S} {l : Ledger} {r : ℕ} {es : List Entry} {t : Tree} → Stood has s l r es t → Hung has s l r r es [] t
begins h = record { stood = h; at_is = refl }

pub underway_first : {S : Type 0} {has : S → ℕ → Cell → Type 0} {s : S} {l : Ledger} {r : ℕ} {es : List Entry} {t : Tree} {stack : Stack} {n : Node} → Stood has s l r es t → (f : Found l stack t) → n ≡ node_of t → Underway has l stack s l r r es n
underway_first {has = has} {s} {l} {r} {es} h f is = record {
  upper = [];
  rest = f.way;
  end = f.end;
  hung = subst (Hung has s l r r es []) f.is (begins h);
  node_is = is ∙ ap node_of f.is;
  leads = f.leads;
  sparse = f.sparse;
}

-- ---- a branch on the way

same_branch : (a b : Branch) → node.Branch a ≡ node.Branch b → a ≡ b
same_branch a b e = cc

-- the way goes on through it
pub record Passes (b : Branch) (stack : Stack) (rest : List Fork) (end : Tree) : Type 0 where
  pub f : Fork
  pub further : List Fork
  pub is : rest ≡ f ∷ further
  pub branch_is : record { offset = f.offset; bitmap = bitmap_of (beside f.left (twig f.position (plug further end) f.right)); twigs = f.first } ≡ b
  pub index : slice_index stack.indices f.offset ≡ count f.left
  pub steps : Steps stack further

pub passes : (b : Branch) (stack : Stack) (rest : List Fork) (end : Tree) → LeadsTo stack rest end → node.Branch b ≡ node_of (plug rest end) → b.offset < stack.end → Passes b stack rest end
passes b stack [] end leads is before = let x = branch_told end b (sym is) in absurd (let z : stack.end ≤ b.offset = subst (NotBefore stack.end) x.is leads.ends in omega arith)
passes b stack (f ∷ further) end leads is before = record { f = f; further = further; is = refl; branch_is = same_branch _ b (sym is); index = leads.steps.1; steps = leads.steps.2 }

-- or ends
pub ends_here : (stack : Stack) (rest : List Fork) (end : Tree) → LeadsTo stack rest end → NotBefore stack.end (plug rest end) → rest ≡ []
ends_here stack [] end leads not_before = refl
ends_here stack (f ∷ further) end leads not_before = absurd (let a = leads.steps.0 in let b : stack.end ≤ f.offset = not_before in omega arith)

module _ {S : Type 0} {has : S → ℕ → Cell → Type 0} {l0 : Ledger} {stack : Stack} {s : S} {l : Ledger} {r at : ℕ} {es : List Entry} {n : Node} (u : Underway has l0 stack s l r at es n) where
  pub underway_hung : {m : Node} → n ≡ m → IsHung has s l at m
  underway_hung e = record { r = r; es = es; way = u.upper; t = plug u.rest u.end; hung = u.hung; is = sym e ∙ u.node_is }

  module _ (b : Branch) (is : n ≡ node.Branch b) (before : b.offset < stack.end) where
    pub branch_node_is : node.Branch b ≡ node_of (plug u.rest u.end)
    branch_node_is = sym is ∙ u.node_is

    pub pass : Passes b stack u.rest u.end
    pass = passes b stack u.rest u.end u.leads branch_node_is before

    abbrev below : Tree
    below = plug pass.further u.end

    fork_is : plug u.rest u.end ≡ fork pass.f below
    fork_is = ap (λ w. plug w u.end) pass.is

    fork_known : IsFork (low_at 0 u.upper) pass.f below
    fork_known = is_fork (low_at 0 u.upper) pass.f below (subst (IsTree (low_at 0 u.upper)) fork_is (hung_low u.hung))

    offset_is : pass.f.offset ≡ b.offset
    offset_is = ap (λ (x : Branch). x.offset) pass.branch_is

    pub early : b.offset ≤ 503
    early = let e = fork_known.early in let o = offset_is in omega arith

    pub index_is : slice_index stack.indices b.offset ≡ count pass.f.left
    index_is = ap (slice_index stack.indices) (sym offset_is) ∙ pass.index

    pub index_inside : slice_index stack.indices b.offset < count_ones b.bitmap
    index_inside =
        let i = index_is in
        let c = fork_count pass.f below in
        let o = ones_of 0 47 _ (rising_of pass.f.offset 0 (beside pass.f.left (twig pass.f.position below pass.f.right)) (let z : 0 ≤ 47 = omega arith in z) (subst (IsTree (low_at 0 u.upper)) fork_is (hung_low u.hung)).5) in
        let p = ap (λ (x : Branch). count_ones x.bitmap) pass.branch_is in omega arith

    -- its twigs lie where they did, or elsewhere; the way goes on at the stack's twig
    module _ {s1 : S} {l1 : Ledger} {next index : ℕ} (said : index ≡ slice_index stack.indices b.offset) (at_twig : TwigsAt has s1 l1 r at es u.upper (plug u.rest u.end) index next) where
      abbrev new_fork : Fork
      new_fork = record pass.f { first = at_twig.to }

      further_hung : Hung has s1 l1 r next es (u.upper ++ (new_fork ∷ [])) below
      further_hung = record {
        stood = subst (Stood has s1 l1 r es) (ap (λ t. plug u.upper (moved t at_twig.to)) fork_is ∙ sym (plug-append u.upper (new_fork ∷ []) below)) at_twig.hung.stood;
        at_is = at_twig.twig_is ∙ ap (λ (i : ℕ). at_twig.to + i) (said ∙ index_is) ∙ sym (end_at-append r u.upper (new_fork ∷ []));
      }

      pub further_there : has s1 next (top_cell below)
      further_there = hung_there further_hung

      pub further_says : {c : Cell} → c ≡ top_cell below → (m : Node) × IsNode m × (packed m ≡ c)
      further_says = hung_says further_hung

      pub underway_further : {s2 : S} {c : Cell} {m : Node} → s2 ≡ s1 → c ≡ top_cell below → ((k : Node) → IsNode k → packed k ≡ c → m ≡ k) → Underway has l0 stack s2 l1 r next es m
      underway_further {s2} {c} {m} same read back = record {
        upper = u.upper ++ (new_fork ∷ []);
        rest = pass.further;
        end = u.end;
        hung = subst (λ s. Hung has s l1 r next es (u.upper ++ (new_fork ∷ [])) below) (sym same) further_hung;
        node_is = hung_read further_hung read back;
        leads = record { steps = pass.steps; ends = u.leads.ends };
        sparse = u.sparse;
      }

      pub fewer_places : {c : Cell} {m : Node} → c ≡ top_cell below → ((k : Node) → IsNode k → packed k ≡ c → m ≡ k) → places_left m < places_left n
      fewer_places {c} {m} read back =
          let f = fewer_left pass.f.offset below b fork_known.tree (sym offset_is) fork_known.early in
          let x = ap places_left (hung_read further_hung read back) in
          let y = ap places_left is in omega arith

  -- where it ends
  module _ (not_before : (t : Tree) → n ≡ node_of t → NotBefore stack.end t) where
    pub end_node : n ≡ node_of u.end
    end_node = u.node_is ∙ ap (λ w. node_of (plug w u.end)) (ends_here stack u.rest u.end u.leads (not_before (plug u.rest u.end) u.node_is))

    pub reached_here : Reached has l0 s l r at es n
    reached_here = record {
      way = u.upper;
      end = u.end;
      hung = subst (λ w. Hung has s l r at es u.upper (plug w u.end)) (ends_here stack u.rest u.end u.leads (not_before (plug u.rest u.end) u.node_is)) u.hung;
      node_is = end_node;
      sparse = u.sparse;
    }

-- what was reached hangs there
pub reached_hung : {S : Type 0} {has : S → ℕ → Cell → Type 0} {l0 : Ledger} {s : S} {l : Ledger} {r at : ℕ} {es : List Entry} {n m : Node} → Reached has l0 s l r at es n → n ≡ m → IsHung has s l at m
reached_hung {r = r} {es = es} x e = record { r = r; es = es; way = x.way; t = x.end; hung = x.hung; is = sym e ∙ x.node_is }

-- where it isn't moved a sparse chunk is left
pub underway_left : {S : Type 0} {has : S → ℕ → Cell → Type 0} {given : List Bool} {l0 : Ledger} {stack : Stack} {s : S} {l : Ledger} {r at : ℕ} {es : List Entry} {n : Node} →
    Underway has l0 stack s l r at es n → Moves given 0 l0 l → HasSparse l
underway_left {has = has} {l0 = l0} {s = s} {l} {r} {es = es} u m = lies_left end_hung (lies_stay l0 l m.sparse u.end u.sparse)
  where
    end_hung : Hung has s l r (end_at r (u.upper ++ u.rest)) es (u.upper ++ u.rest) u.end
    end_hung = record { stood = subst (Stood has s l r es) (sym (plug-append u.upper u.rest u.end)) u.hung.stood; at_is = refl }

-- what was reached is still to be moved, since a sparse chunk stays so on the way
pub reached_due : {S : Type 0} {has : S → ℕ → Cell → Type 0} {given : List Bool} {l0 : Ledger} {s : S} {l : Ledger} {r at : ℕ} {es : List Entry} {n m : Node} → Reached has l0 s l r at es n → n ≡ m → Moves given 0 l0 l → IsDue has s l at m
unfolding reached_hung
reached_due {l0 = l0} {l = l} x e m = record { hung = reached_hung x e; sparse = lies_stay l0 l m.sparse x.end x.sparse }
