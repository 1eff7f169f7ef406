-- What lies below a root is moved step by step.
use Rattle.std.proofs.Common.{◌≡◌, ℕ, ◌+◌, ◌/◌, ◌<◌, ◌≤◌, Bool, List, sym, ◌∙◌, ap, subst, arith}
use Rattle.packed_node.specs.declared.Branch.{Branch}
use Rattle.packed_node.specs.declared.Cell.{Cell}
use Rattle.packed_node.specs.declared.Node.{Node}
use Rattle.packed_node.specs.declared.Node.TheVariants as node
use Rattle.trie_model.specs.Keys.{Entry}
use Rattle.trie_model.specs.Trees.{Tree}
use Rattle.chunk_usage.specs.Ledger.{Ledger}
use Rattle.chunk_usage.specs.Rooms.{reserve_account_of}
use Rattle.trie_read.specs.Reads.{IsTop}
use Rattle.trie_space.specs.Spaces.{IsWritable, Ready}
use Rattle.trie_space.specs.Ways.{plug}
use Rattle.trie_space.proofs.SpaceLaws.{fenced_then, writable_later}
use Rattle.evacuate.specs.declared.stack.Stack.{Stack}
use Rattle.evacuate.specs.Evacuations.{HasSparse}
use Rattle.evacuate.specs.Fillings.{Fewer, Fills, Paid}
use Rattle.evacuate.specs.Moving.{CanMove, LeavesRest, MovesCells, NodeMoved, RearrangedNode}
use Rattle.evacuate.specs.Places.{IsStood, Stood, first_of, width_of}
use Rattle.evacuate.specs.Rearranging.{CanRearrange, Rearranged}
use Rattle.evacuate.specs.Stacks.{Finds, Found, IsDue, Reaches, Underway}
use Rattle.evacuate.proofs.DescentLaws.{reached_due, reached_hung, stood_same}
use Rattle.evacuate.proofs.EndLaws.{node_top}
use Rattle.evacuate.proofs.FillingLaws.{moves_then, sparse_old}
use Rattle.evacuate.proofs.MovingLaws.{cells_same, cells_then}
use Rattle.evacuate.proofs.SparseLaws.{branch_sparse, lies_left}
use Rattle.evacuate.proofs.TreeLaws.{hung_cells}

module _ {S : Type 0} {has : S → ℕ → Cell → Type 0} {kept : S → List ℕ} {given : S → List Bool} {r : ℕ} where
  -- nothing was moved
  pub rearranged_same : {s s1 : S} {l l1 : Ledger} → s1 ≡ s → l1 ≡ l → Ready kept given reserve_account_of s l → Rearranged has kept given r s l s1 l1
  rearranged_same e f ready = record { stood = λ es t h. (t, stood_same e f h); cells = cells_same e f ready }

  pub rearranged_then : {s s1 s2 : S} {l l1 l2 : Ledger} → Rearranged has kept given r s l s1 l1 → Rearranged has kept given r s1 l1 s2 l2 → Rearranged has kept given r s l s2 l2
  rearranged_then a b = record { stood = λ es t h. let x = a.stood es t h in b.stood es x.0 x.1; cells = cells_then a.cells b.cells }

  -- more may be moved
  pub can_again : {s s1 : S} {l l1 : Ledger} → Rearranged has kept given r s l s1 l1 → CanRearrange has kept given r s l → CanRearrange has kept given r s1 l1
  can_again a can =
      let x = a.stood can.stands.es can.stands.t can.stands.stood in
      record {
        stands = record { es = can.stands.es; t = x.0; stood = x.1 };
        writable = writable_later can.writable a.cells.frame.grows a.cells.frame.given_stays;
        ready = a.cells.ready;
      }

  -- cells were read
  pub can_read : {s s1 : S} {l l1 : Ledger} → s1 ≡ s → l1 ≡ l → CanRearrange has kept given r s l → CanRearrange has kept given r s1 l1
  can_read e f can = can_again (rearranged_same e f can.ready) can

  -- on the way along a stack
  pub underway_ends : {s s1 : S} {l l1 : Ledger} {stack : Stack} {at : ℕ} {n : Node} → ((es : List Entry) (t : Tree) → Stood has s l r es t → Underway has l stack s1 l1 r at es n) → MovesCells has kept given s l s1 l1 → Rearranged has kept given r s l s1 l1
  underway_ends way cells = record { stood = λ es t h. let u = way es t h in (plug u.upper (plug u.rest u.end), u.hung.stood); cells = cells }

  -- what it leads to is moved too
  module _ {s s1 : S} {l l1 : Ledger} {at : ℕ} {n : Node} (a : Rearranged has kept given r s l s1 l1) (reached : Reaches has r s l s1 l1 at n) (can : IsStood has s l r) {m : Node} (is : n ≡ m) where
    pub found_can : IsWritable given reserve_account_of s1 l1 at → CanMove has kept given at m s1 l1
    found_can writable = record { hung = reached_hung (reached _ _ can.stood) is; writable = writable; ready = a.cells.ready }

    pub found_due : (old : List Bool) → Fills old l → IsDue has s1 l1 at m
    found_due old fills = reached_due (reached _ _ can.stood) is (a.cells.moves old fills)

    pub found_left : (old : List Bool) → Fills old l → HasSparse l1
    found_left old fills = let due = found_due old fills in lies_left due.hung.hung due.sparse

    pub found_item : {s2 : S} {l2 : Ledger} → RearrangedNode has kept given at m s1 l1 s2 l2 → Rearranged has kept given r s l s2 l2
    found_item b = record { stood = λ es t h. let x = reached es t h in b.stood r es x.way x.end x.hung (sym is ∙ x.node_is); cells = cells_then a.cells b.cells }

    pub fewer_found : (l2 : Ledger) → (IsDue has s1 l1 at m → Fewer l1 l2) → Fewer l l2
    fewer_found l2 less old fills = let x = a.cells.moves old fills in let y = less (found_due old fills) old x.fills in let z = x.fewer in omega arith

  -- a row of twigs
  module _ {s s1 s2 : S} {l l1 l2 : Ledger} {at to : ℕ} {n : Node} (a : Rearranged has kept given r s l s1 l1) (reached : Reaches has r s l s1 l1 at n) (can : IsStood has s l r) (b : Branch) (is : n ≡ node.Branch b) (moved : NodeMoved has given at (node.Branch b) s1 l1 s2 l2 to) where
    paid : (old : List Bool) → Fills old l → Paid old (width_of (node.Branch b)) l1 l2
    paid old fills =
        let x = a.cells.moves old fills in
        let due = found_due a reached can is old fills in
        moved.paid old x.fills (sparse_old old l1 x.fills (b.twigs / 1024) (branch_sparse l1 due.hung.t b due.hung.is due.sparse))

    pub found_row : LeavesRest has kept given reserve_account_of s1 l1 s2 l2 → Rearranged has kept given r s l s2 l2
    found_row rest = record {
      stood = λ es t h. let x = reached es t h in (_, (moved.hung r es x.way x.end x.hung (sym is ∙ x.node_is)).stood);
      cells = record { moves = λ old fills. moves_then (a.cells.moves old fills) (paid old fills).moves; frame = fenced_then a.cells.frame rest.frame; ready = rest.ready };
    }

    pub fewer_row : Fewer l l2
    fewer_row old fills =
        let due = found_due a reached can is old fills in
        let some = (hung_cells due.hung.hung (ap first_of due.hung.is) (ap width_of due.hung.is)).row.some in
        let x = (a.cells.moves old fills).fewer in let y = (paid old fills).less in omega arith

module _ {S : Type 0} {has : S → ℕ → Cell → Type 0} {r : ℕ} where
  -- the root's cell was read, and from there the stack was laid
  pub found_on : {s s1 s2 : S} {l l1 : Ledger} {stack : Stack} {node : Cell} → s1 ≡ s → ((d : Cell) → has s r d → node ≡ d) → s2 ≡ s1 → l1 ≡ l → ((t : Tree) → IsTop (has s1) 0 node t → Found l stack t) → Finds has s2 l1 r stack
  found_on {stack = stack} e read f g found es t h = subst (λ z. Found z stack t) (sym g) (found t (node_top (stood_same (sym (f ∙ e)) (sym g) h) e read))
