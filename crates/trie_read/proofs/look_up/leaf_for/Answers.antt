use Rattle.std.proofs.Common.{◌≡◌, ◌≢◌, ℕ, ◌%◌, ◌^◌, count_ones, Option, Some, None, IsNone, is_none, unwrap_or, inl, inr, ◌+◌, ◌≤◌, arith, sym, ◌∙◌, ap, subst, true≢false}
use Rattle.std.proofs.lemmas.Bool.{cases_eq}
use Rattle.std.specs.Int.{bit_at}
use Rattle.packed_node.specs.declared.Node.{Node}
use Rattle.packed_node.specs.declared.Node.TheVariants as node
use Rattle.trie_model.proofs.NodeLaws.{places_left}
use Rattle.trie_model.specs.Memory.{top_cell}
use Rattle.trie_model.proofs.NameLaws.{name_key}
use Rattle.trie_read.proofs.FindLaws.{along_first, first_says, along_next, along_more, next_says, along_absent, along_past, along_leaf, along_falls}
use Rattle.packed_node.specs.declared.Leaf.{Leaf}
use Rattle.trie_read.specs.Reads.{LeadsKey}
use Rattle.trie_read.proofs.look_up.leaf_for.Goals as goal

most_places : (n : Node) → places_left n ≤ 504
most_places (node.Leaf l) = omega arith
most_places (node.Branch b) = omega arith

pub of-node-requires : goal.of-node-requires
of-node-requires g c = let h = c.requires in first_says _ c.args.root h.0 c.read.result h.1 c.read.ensures.value

pub loop-node-init : goal.loop-node-init
loop-node-init g c = record {
  same = c.read.ensures.same;
  counted = (let s = c.read.ensures.counted in omega arith);
  places = (let s = c.read.ensures.counted in let p = most_places c.of-node.result in omega arith);
  few = (let s = c.read.ensures.counted in omega arith);
  along = λ version stands. along_first _ c.args.key.now c.args.root version c.read.result c.of-node.result stands c.read.ensures.value c.of-node.ensures.back;
}

pub twig_at-requires : goal.twig_at-requires
twig_at-requires g c = let p = (name_key c.args.key.now c.len-len.ensures.key).positions c.in-Branch.branch.offset in let e = c.position.ensures in omega arith

-- what is told of a twig that is there
has_bit : (bitmap p i : ℕ) → (bit_at bitmap p ≢ 1 → IsNone (Some i)) → bit_at bitmap p ≡ 1
has_bit bitmap p i absent = elim (cases_eq (bit_at bitmap p) 1) [ inl one ↦ one | inr n ↦ absurd (true≢false (absent n)) ]

index_is : (bitmap p i : ℕ) → (bit_at bitmap p ≡ 1 → Some i ≡ Some (count_ones (bitmap % 2 ^ p))) → bit_at bitmap p ≡ 1 → i ≡ count_ones (bitmap % 2 ^ p)
index_is bitmap p i there bit = ap (λ (o : Option ℕ). unwrap_or o 0) (there bit)

none_some : (i : ℕ) → ◌≡◌ {A = Option ℕ} None (Some i) → ⊥
none_some i e = true≢false (ap (λ (o : Option ℕ). is_none o) e)

pub overflow_add-branch : goal.overflow_add-branch
overflow_add-branch g c =
    let h = c.requires in let has = g.C.CellRead.has c.args.cells.now in let k = c.args.key.now in let b = c.in-Branch.branch in let kk = name_key k c.len-len.ensures.key in let bit = has_bit c.in-Branch.branch.bitmap c.position.result c.in_ok-index-in-Branch.index c.in_ok-index-in-Branch.ensures.absent in
    let n = along_next has k h.0 c.loop-node.node b c.position.result c.in_ok-index-in-Branch.index (c.loop-node.invariant.along h.0 h.1) c.in-Branch.is kk c.position.ensures (index_is c.in-Branch.branch.bitmap c.position.result c.in_ok-index-in-Branch.index c.in_ok-index-in-Branch.ensures.there bit) bit in
    let i = n.inside in omega arith

pub read-requires-in-Branch : goal.read-requires-in-Branch
read-requires-in-Branch g c =
    let h = c.requires in let has = g.C.CellRead.has c.args.cells.now in let k = c.args.key.now in let b = c.in-Branch.branch in let kk = name_key k c.len-len.ensures.key in let bit = has_bit c.in-Branch.branch.bitmap c.position.result c.in_ok-index-in-Branch.index c.in_ok-index-in-Branch.ensures.absent in
    let n = along_next has k h.0 c.loop-node.node b c.position.result c.in_ok-index-in-Branch.index (c.loop-node.invariant.along h.0 h.1) c.in-Branch.is kk c.position.ensures (index_is c.in-Branch.branch.bitmap c.position.result c.in_ok-index-in-Branch.index c.in_ok-index-in-Branch.ensures.there bit) bit in
    record { there = (top_cell n.here, subst (λ s. g.C.CellRead.has s (b.twigs + c.in_ok-index-in-Branch.index) (top_cell n.here)) (sym c.loop-node.invariant.same) n.there) }

pub of-node-requires-in-Branch : goal.of-node-requires-in-Branch
of-node-requires-in-Branch g c =
    let h = c.requires in let has = g.C.CellRead.has c.args.cells.now in let k = c.args.key.now in let b = c.in-Branch.branch in let kk = name_key k c.len-len.ensures.key in let bit = has_bit c.in-Branch.branch.bitmap c.position.result c.in_ok-index-in-Branch.index c.in_ok-index-in-Branch.ensures.absent in
    let n = along_next has k h.0 c.loop-node.node b c.position.result c.in_ok-index-in-Branch.index (c.loop-node.invariant.along h.0 h.1) c.in-Branch.is kk c.position.ensures (index_is c.in-Branch.branch.bitmap c.position.result c.in_ok-index-in-Branch.index c.in_ok-index-in-Branch.ensures.there bit) bit in
    next_says has k (b.offset + 1) (b.twigs + c.in_ok-index-in-Branch.index) (c.loop-node.invariant.along h.0 h.1).tree c.read-in-Branch.result n (λ x i. c.read-in-Branch.ensures.value x (subst (λ s. g.C.CellRead.has s (c.in-Branch.branch.twigs + c.in_ok-index-in-Branch.index) x) (sym c.loop-node.invariant.same) i))

pub loop-node-smaller : goal.loop-node-smaller
loop-node-smaller g c =
    let h = c.requires in let has = g.C.CellRead.has c.args.cells.now in let k = c.args.key.now in let b = c.in-Branch.branch in let kk = name_key k c.len-len.ensures.key in let bit = has_bit c.in-Branch.branch.bitmap c.position.result c.in_ok-index-in-Branch.index c.in_ok-index-in-Branch.ensures.absent in
    let n = along_next has k h.0 c.loop-node.node b c.position.result c.in_ok-index-in-Branch.index (c.loop-node.invariant.along h.0 h.1) c.in-Branch.is kk c.position.ensures (index_is c.in-Branch.branch.bitmap c.position.result c.in_ok-index-in-Branch.index c.in_ok-index-in-Branch.ensures.there bit) bit in
    along_falls has k h.0 c.loop-node.node c.of-node-in-Branch.result b (b.twigs + c.in_ok-index-in-Branch.index) c.read-in-Branch.result (c.loop-node.invariant.along h.0 h.1) c.in-Branch.is n (λ x i. c.read-in-Branch.ensures.value x (subst (λ s. g.C.CellRead.has s (c.in-Branch.branch.twigs + c.in_ok-index-in-Branch.index) x) (sym c.loop-node.invariant.same) i)) c.of-node-in-Branch.ensures.back

pub loop-node-preserved : goal.loop-node-preserved
loop-node-preserved g c = record {
  same = c.read-in-Branch.ensures.same ∙ c.loop-node.invariant.same;
  counted = (let s = c.read-in-Branch.ensures.counted in let t = c.loop-node.invariant.counted in omega arith);
  places = (let s = c.read-in-Branch.ensures.counted in let t = c.loop-node.invariant.places in let f = loop-node-smaller g c in omega arith);
  few = (let s = c.read-in-Branch.ensures.counted in let t = c.loop-node.invariant.places in let p = ap places_left c.in-Branch.is in let e = c.len-len.ensures.length in let l = c.if-branch-len.false in let f = loop-node-smaller g c in omega arith);
  along = λ version stands. along_more (g.C.CellRead.has c.args.cells.now) c.args.key.now version c.loop-node.node c.in-Branch.branch c.position.result c.in_ok-index-in-Branch.index c.read-in-Branch.result c.of-node-in-Branch.result (c.loop-node.invariant.along version stands) c.in-Branch.is
      (name_key c.args.key.now c.len-len.ensures.key) c.position.ensures (index_is c.in-Branch.branch.bitmap c.position.result c.in_ok-index-in-Branch.index c.in_ok-index-in-Branch.ensures.there (has_bit c.in-Branch.branch.bitmap c.position.result c.in_ok-index-in-Branch.index c.in_ok-index-in-Branch.ensures.absent)) (has_bit c.in-Branch.branch.bitmap c.position.result c.in_ok-index-in-Branch.index c.in_ok-index-in-Branch.ensures.absent) (λ x i. c.read-in-Branch.ensures.value x (subst (λ s. g.C.CellRead.has s (c.in-Branch.branch.twigs + c.in_ok-index-in-Branch.index) x) (sym c.loop-node.invariant.same) i)) c.of-node-in-Branch.ensures.back;
}

pub returns-in-Leaf-clause-leaf : goal.returns-in-Leaf-clause-leaf
returns-in-Leaf-clause-leaf g c version stands = along_leaf _ c.args.key.now version c.loop-node.node c.in-Leaf.leaf (c.loop-node.invariant.along version stands) c.in-Leaf.is

pub returns-then-branch-len-clause-leaf : goal.returns-then-branch-len-clause-leaf
returns-then-branch-len-clause-leaf g c version stands = along_past (g.C.CellRead.has c.args.cells.now) c.args.key.now version c.loop-node.node c.in-Branch.branch (c.loop-node.invariant.along version stands) c.in-Branch.is (let e = c.len-len.ensures.length in let l = c.if-branch-len.true in omega arith)

pub returns-in_err-index-in-Branch-clause-leaf : goal.returns-in_err-index-in-Branch-clause-leaf
returns-in_err-index-in-Branch-clause-leaf g c version stands =
    let has = g.C.CellRead.has c.args.cells.now in
    subst (λ (r : Option Leaf). LeadsKey has c.args.key.now version r) (sym c.from_residual.ensures)
    (along_absent has c.args.key.now version c.loop-node.node c.in-Branch.branch c.position.result (c.loop-node.invariant.along version stands) c.in-Branch.is (name_key c.args.key.now c.len-len.ensures.key) c.position.ensures
    (λ bit. none_some (count_ones (c.in-Branch.branch.bitmap % 2 ^ c.position.result)) (c.in_err-index-in-Branch.ensures.there bit)))
