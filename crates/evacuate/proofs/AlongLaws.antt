-- The way down along a path: from a branch to one of its twigs.
use Rattle.std.proofs.Common.{◌≡◌, ℕ, ◌+◌, ◌<◌, ◌≤◌, ◌^◌, ◌++◌, Bool, List, [], ◌∷◌, count_ones, arith, refl, sym, ◌∙◌, ap, subst}
use Rattle.packed_node.specs.declared.Cell.{Cell}
use Rattle.packed_node.specs.declared.Branch.{Branch}
use Rattle.packed_node.specs.declared.Node.{Node}
use Rattle.packed_node.specs.declared.Node.TheVariants as node
use Rattle.packed_node.specs.Nodes.{IsNode, packed}
use Rattle.trie_model.specs.Keys.{Entry}
use Rattle.trie_model.specs.Memory.{top_cell, node_of}
use Rattle.trie_model.specs.Trees.{Tree}
use Rattle.trie_model.specs.Trees.Tree.{branch}
use Rattle.trie_model.proofs.NodeLaws.{BranchTold, branch_told, places_left, fewer_left}
use Rattle.trie_read.specs.Reads.{IsTop}
use Rattle.chunk_usage.specs.Ledger.{Ledger}
use Rattle.trie_space.specs.Ways.{Fork, fork, plug, end_at}
use Rattle.trie_space.proofs.WayLaws.{plug-append, end_at-append}
use Rattle.evacuate.specs.declared.path_walk.Passage.{Passage}
use Rattle.evacuate.specs.Moving.{CanMove, MovesCells, RearrangedNode}
use Rattle.evacuate.specs.Places.{moved, Stood, Hung, HangsIn, IsStood, IsHung}
use Rattle.evacuate.specs.Rearranging.{CanWalkOn, OnWay, Rearranged}
use Rattle.evacuate.specs.Stacks.{PassedTo, TwigsAt}
use Rattle.evacuate.proofs.DescentLaws.{begins, hung_there, hung_says, hung_read}
use Rattle.evacuate.proofs.MovingLaws.{cells_same, cells_then}
use Rattle.evacuate.proofs.StackLaws.{TwigAt, early, twig_here, row_inside, counted}
use Rattle.evacuate.proofs.TreeLaws.{hung_hangs}

-- ---- a walk that only reads

-- the node of a tree's top
pub record IsAt (has : ℕ → Cell → Type 0) (n : Node) : Type 0 where
  pub low : ℕ
  pub c : Cell
  pub t : Tree
  pub top : IsTop has low c t
  pub is : n ≡ node_of t

module _ {has : ℕ → Cell → Type 0} {n : Node} (h : IsAt has n) (b : Branch) (is : n ≡ node.Branch b) where
  pub told_at : BranchTold h.t b
  told_at = branch_told h.t b (sym h.is ∙ is)

  pub twig_at_descent : (i : ℕ) → i < count_ones b.bitmap → TwigAt has b.offset b.twigs i told_at.below
  twig_at_descent i l = twig_here h.top told_at i l

  pub fewer_at : (i : ℕ) (l : i < count_ones b.bitmap) {m : Node} → m ≡ node_of (twig_at_descent i l).t → places_left m < places_left n
  fewer_at i l {m} e =
      let x = twig_at_descent i l in
      let f = fewer_left b.offset x.t b x.tree refl (early h.top told_at) in
      let p = ap places_left e in let q = ap places_left is in omega arith

-- ---- a walk that writes

-- a branch's twigs lie where they did
pub twigs_stay : {S : Type 0} {has : S → ℕ → Cell → Type 0} {s : S} {l : Ledger} {r at i : ℕ} {es : List Entry} {way : List Fork} {t : Tree} {b : Branch} → Hung has s l r at es way t → node.Branch b ≡ node_of t → TwigsAt has s l r at es way t i (b.twigs + i)
twigs_stay {has = has} {s} {l} {r} {at} {es = es} {way} {t} {b} h is =
    let told = branch_told t b (sym is) in
    record { to = b.twigs; hung = subst (Hung has s l r at es way) (sym (ap (λ t. moved t b.twigs) told.is ∙ sym told.is)) h; twig_is = refl }

module _ {S : Type 0} {has : S → ℕ → Cell → Type 0} {s : S} {l : Ledger} {r at : ℕ} {es : List Entry} where
  pub hangs_first : {t : Tree} {n : Node} → r ≡ at → Stood has s l r es t → n ≡ node_of t → HangsIn has s l r at es n
  hangs_first {t} {n} e h is = record { way = []; t = t; hung = subst (λ q. Hung has s l r q es [] t) e (begins h); is = is }

  module _ {n : Node} (h : HangsIn has s l r at es n) where
    pub is_hung : {m : Node} → n ≡ m → IsHung has s l at m
    is_hung e = record { r = r; es = es; way = h.way; t = h.t; hung = h.hung; is = sym e ∙ h.is }

    pub stood_in : (u : Tree) × Stood has s l r es u
    stood_in = (plug h.way h.t, h.hung.stood)

    pub top_at : {s1 : S} → s1 ≡ s → (t : Tree) × IsTop (has s1) 0 (top_cell t) t × (n ≡ node_of t)
    top_at same = (h.t, subst (λ z. IsTop (has z) 0 (top_cell h.t) h.t) (sym same) (hung_hangs h.hung).top, h.is)

    module _ (b : Branch) (is : n ≡ node.Branch b) where
      pub branch_in : node.Branch b ≡ node_of h.t
      branch_in = sym is ∙ h.is

      pub told_in : BranchTold h.t b
      told_in = branch_told h.t b (sym branch_in)

      pub top_in : IsTop (has s) 0 (top_cell h.t) h.t
      top_in = (hung_hangs h.hung).top

      pub inside_in : b.twigs + count_ones b.bitmap ≤ 2 ^ 22
      inside_in = let r = (row_inside top_in told_in).inside in let c = counted top_in told_in in omega arith

      module _ (i : ℕ) (inside : i < count_ones b.bitmap) where
        pub twig_in : TwigAt (has s) b.offset b.twigs i told_in.below
        twig_in = twig_here top_in told_in i inside

        abbrev below : Tree
        below = twig_in.t

        abbrev old_fork : Fork
        old_fork = record { offset = b.offset; first = b.twigs; left = twig_in.left; position = twig_in.position; right = twig_in.right }

        fork_is : h.t ≡ fork old_fork below
        fork_is = told_in.is ∙ ap (branch b.offset b.twigs) twig_in.is

        pub twigs_there : TwigsAt has s l r at es h.way h.t i (b.twigs + i)
        twigs_there = twigs_stay h.hung branch_in

        -- its twigs lie where they did, or elsewhere
        module _ {s1 : S} {l1 : Ledger} {next : ℕ} (at_twig : TwigsAt has s1 l1 r at es h.way h.t i next) where
          abbrev new_fork : Fork
          new_fork = record old_fork { first = at_twig.to }

          further_hung : Hung has s1 l1 r next es (h.way ++ (new_fork ∷ [])) below
          further_hung = record {
            stood = subst (Stood has s1 l1 r es) (ap (λ t. plug h.way (moved t at_twig.to)) fork_is ∙ sym (plug-append h.way (new_fork ∷ []) below)) at_twig.hung.stood;
            at_is = at_twig.twig_is ∙ ap (λ (k : ℕ). at_twig.to + k) (sym twig_in.place) ∙ sym (end_at-append r h.way (new_fork ∷ []) ∙ ap (λ q. end_at q (new_fork ∷ [])) (sym at_twig.hung.at_is));
          }

          pub further_in : has s1 next (top_cell below)
          further_in = hung_there further_hung

          pub says_in : {c : Cell} → c ≡ top_cell below → (m : Node) × IsNode m × (packed m ≡ c)
          says_in = hung_says further_hung

          pub hangs_further : {s2 : S} {c : Cell} {m : Node} → s2 ≡ s1 → c ≡ top_cell below → ((k : Node) → IsNode k → packed k ≡ c → m ≡ k) → HangsIn has s2 l1 r next es m
          hangs_further {s2} {c} {m} same read back = record {
            way = h.way ++ (new_fork ∷ []);
            t = below;
            hung = subst (λ s. Hung has s l1 r next es (h.way ++ (new_fork ∷ [])) below) (sym same) further_hung;
            is = hung_read further_hung read back;
          }

          pub fewer_in : {c : Cell} {m : Node} → c ≡ top_cell below → ((k : Node) → IsNode k → packed k ≡ c → m ≡ k) → places_left m < places_left n
          fewer_in {c} {m} read back =
              let f = fewer_left b.offset below b twig_in.tree refl (early top_in told_in) in
              let x = ap places_left (hung_read further_hung read back) in
              let y = ap places_left is in omega arith

        pub read_there : {s1 : S} → s1 ≡ s → has s1 (b.twigs + i) (top_cell below)
        read_there same = subst (λ z. has z (b.twigs + i) (top_cell below)) (sym same) (further_in twigs_there)

module _ {S : Type 0} {has : S → ℕ → Cell → Type 0} {kept : S → List ℕ} {given : S → List Bool} {r : ℕ} {s : S} {l : Ledger} where
  pub way_begins : {at : ℕ} {n : Node} → CanWalkOn has kept given r at n s l → OnWay has kept given r s l s l at n
  way_begins can = record { way = can.hangs; writable = can.writable; cells = cells_same refl refl can.ready }

  module _ {s1 : S} {l1 : Ledger} {at : ℕ} {n : Node} (h : OnWay has kept given r s l s1 l1 at n) where
    pub way_ends : Rearranged has kept given r s l s1 l1
    way_ends = record { stood = λ es t x. stood_in (h.way es t x); cells = h.cells }

    pub way_can : IsStood has s l r → {m : Node} → n ≡ m → CanMove has kept given at m s1 l1
    way_can can is = record { hung = is_hung (h.way _ _ can.stood) is; writable = h.writable; ready = h.cells.ready }

    -- cells were read, and a path was noted
    pub way_read : {s2 : S} {l2 : Ledger} → s2 ≡ s1 → l2 ≡ l1 → OnWay has kept given r s l s2 l2 at n
    way_read {s2} e f = subst (λ z. OnWay has kept given r s l s2 z at n) (sym f) (subst (λ z. OnWay has kept given r s l z l1 at n) (sym e) h)

    -- at its end what hangs on the node is moved
    pub way_moves : {s2 : S} {l2 : Ledger} {m : Node} → n ≡ m → RearrangedNode has kept given at m s1 l1 s2 l2 → Rearranged has kept given r s l s2 l2
    way_moves is b = record { stood = λ es t x. let u = h.way es t x in b.stood r es u.way u.t u.hung (sym is ∙ u.is); cells = cells_then h.cells b.cells }

    -- to a twig, once there were moves
    pub way_goes_on : (p : Passage) (is : n ≡ node.Branch p.descent.branch) → p.descent.index < count_ones p.descent.branch.bitmap → {s2 s3 : S} {l2 : Ledger} {next : ℕ} {c : Cell} {m : Node} →
        PassedTo has given at p s1 l1 s2 l2 next → MovesCells has kept given s1 l1 s2 l2 → s3 ≡ s2 → ((d : Cell) → has s2 next d → c ≡ d) → ((k : Node) → IsNode k → packed k ≡ c → m ≡ k) → OnWay has kept given r s l s3 l2 next m
    way_goes_on p is inside {l2 = l2} {next} {c} {m} to cells same read back =
        let b = p.descent.branch in let i = p.descent.index in
        subst (λ z. OnWay has kept given r s l z l2 next m) (sym same) (record {
          way = λ es t x. let u = h.way es t x in let w = to.hung r es u.way u.t u.hung (branch_in u b is) in hangs_further u b is i inside w refl (read _ (further_in u b is i inside w)) back;
          writable = to.writable;
          cells = cells_then h.cells cells;
        })

-- the way began once cells were read
pub way_from : {S : Type 0} {has : S → ℕ → Cell → Type 0} {kept : S → List ℕ} {given : S → List Bool} {r : ℕ} {s s1 s2 : S} {l l2 : Ledger} {at : ℕ} {n : Node} → s1 ≡ s → OnWay has kept given r s1 l s2 l2 at n → OnWay has kept given r s l s2 l2 at n
way_from {has = has} {kept} {given} {r} {s2 = s2} {l} {l2} {at} {n} same h = subst (λ z. OnWay has kept given r z l s2 l2 at n) same h
