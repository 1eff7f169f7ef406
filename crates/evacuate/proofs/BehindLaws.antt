-- From an extent to the one behind it.
use Rattle.std.proofs.Common.{◌≡◌, inr, ℕ, ◌-◌, ◌/◌, ◌<◌, ◌≤◌, ◌++◌, true, Bool, List, [], ◌∷◌, length, arith, refl, sym, ◌∙◌, ap, subst}
use Rattle.packed_node.specs.declared.Cell.{Cell}
use Rattle.packed_node.specs.declared.Leaf.{Leaf}
use Rattle.packed_node.specs.declared.Node.TheVariants as node
use Rattle.trie_model.specs.Extents.{Extents, first_of as first_cell_of}
use Rattle.trie_model.specs.Extents.Extents.{last, linked}
use Rattle.trie_model.specs.Keys.{Entry}
use Rattle.trie_model.specs.Memory.{node_of}
use Rattle.trie_model.specs.Trees.{Tree}
use Rattle.trie_model.specs.Trees.Tree.{leaf}
use Rattle.trie_model.proofs.NodeLaws.{leaf_said}
use Rattle.chunk_usage.specs.Counting.{is_sparse}
use Rattle.chunk_usage.specs.Ledger.{Ledger}
use Rattle.trie_space.specs.Ways.{Fork, plug, end_at}
use Rattle.evacuate.specs.Chains.{chain, octets_behind, Goes}
use Rattle.evacuate.specs.Evacuations.{HasSparse}
use Rattle.evacuate.specs.Fillings.{Fewer}
use Rattle.evacuate.specs.Moving.{CanMoveBehind, MovesCells}
use Rattle.evacuate.specs.Places.{moved, put_first, Stood, Hung}
use Rattle.evacuate.specs.Sparse.{SparseExtents, LiesSparse}
use Rattle.evacuate.proofs.ChainLaws.{goes_are}
use Rattle.evacuate.proofs.SparseLaws.{lies_left}
use Rattle.evacuate.proofs.TreeLaws.{hung_tree}

-- ---- fewer cells of old chunks count

pub fewer_then : {S : Type 0} {has : S → ℕ → Cell → Type 0} {kept : S → List ℕ} {given : S → List Bool} {s s1 s2 : S} {l l1 l2 : Ledger} → Fewer l l1 → MovesCells has kept given s l s1 l1 → MovesCells has kept given s1 l1 s2 l2 → Fewer l l2
fewer_then f a b old fills = let x = f old fills in let y = (b.moves old (a.moves old fills).fills).fewer in omega arith

-- ---- one more extent lies before

chain_more : (front : List ℕ) (at : ℕ) (x : Extents) → chain (front ++ (at ∷ [])) x ≡ chain front (linked at x)
chain_more [] at x = refl
chain_more (r ∷ front) at x = ap (linked r) (chain_more front at x)

octets_more : (front : List ℕ) (at n : ℕ) → octets_behind (front ++ (at ∷ [])) n ≡ octets_behind front n - 4080
octets_more [] at n = refl
octets_more (r ∷ front) at n = octets_more front at (n - 4080)

chain_sparse : (l : Ledger) (front : List ℕ) (x : Extents) → SparseExtents l x → SparseExtents l (chain front x)
chain_sparse l [] x h = h
chain_sparse l (r ∷ front) x h = inr (chain_sparse l front x h)

pub goes_same : {S : Type 0} {has : S → ℕ → Cell → Type 0} {s s1 : S} {l : Ledger} {r at n : ℕ} {es : List Entry} {way : List Fork} {e : Entry} {front : List ℕ} {rest : Extents} → s1 ≡ s → Goes has s l r at n es way e front rest → Goes has s1 l r at n es way e front rest
goes_same {has = has} {l = l} {r} {at} {n} {es} {way} {e} {front} {rest} same g = subst (λ z. Goes has z l r at n es way e front rest) (sym same) g

-- cells were read
pub can_behind_read : {S : Type 0} {has : S → ℕ → Cell → Type 0} {kept : S → List ℕ} {given : S → List Bool} {s s1 : S} {l : Ledger} {at n : ℕ} → s1 ≡ s → CanMoveBehind has kept given at n s l → CanMoveBehind has kept given at n s1 l
can_behind_read {has = has} {kept} {given} {l = l} {at} {n} same can = subst (λ z. CanMoveBehind has kept given at n z l) (sym same) can

-- the extent behind one, once it is where it is to be
pub record Further {S : Type 0} (has : S → ℕ → Cell → Type 0) (s : S) (l : Ledger) (r n to : ℕ) (es : List Entry) (way : List Fork) (e : Entry) (front : List ℕ) (rest : Extents) : Type 0 where
  pub beyond : Extents
  pub is : rest ≡ linked (first_cell_of rest) beyond
  pub goes : Goes has s l r to n es way e front beyond

module _ {S : Type 0} {has : S → ℕ → Cell → Type 0} {s : S} {l : Ledger} {r at n : ℕ} {es : List Entry} {way : List Fork} {e : Entry} {front : List ℕ} where
  pub goes_hung : {rest : Extents} → Goes has s l r at n es way e front rest → Hung has s l r (end_at r way) es way (leaf e (chain front (linked at rest)))
  goes_hung g = record { stood = g.stood; at_is = refl }

  pub goes_left : {rest : Extents} → Goes has s l r at n es way e front rest → SparseExtents l rest → HasSparse l
  goes_left {rest} g h = lies_left (goes_hung g) (chain_sparse l front (linked at rest) (inr h))

  pub further : {rest : Extents} {to : ℕ} → Goes has s l r at n es way e front (put_first rest to) → 4096 < n - 4080 → Further has s l r (n - 4080) to es way e (front ++ (at ∷ [])) rest
  further {rest = last q} {to} g long = absurd (let a = (goes_are g).2.0 in let z = g.size in omega arith)
  further {rest = linked q x} {to} g long = record {
    beyond = x;
    is = refl;
    goes = record {
      stood = subst (λ (y : Extents). Stood has s l r es (plug way (leaf e y))) (sym (chain_more front at (linked to x))) g.stood;
      size = octets_more front at (length e.item) ∙ ap (λ (m : ℕ). m - 4080) g.size;
    };
  }

  -- or it is the last one
  pub last_behind : {rest : Extents} → Goes has s l r at n es way e front rest → n - 4080 ≤ 4096 → SparseExtents l rest → is_sparse l (first_cell_of rest / 1024) ≡ true
  last_behind {rest = last q} g short h = h
  last_behind {rest = linked q x} g short h = absurd (let a = (goes_are g).2.0 in let z = g.size in omega arith)

-- ---- from a leaf to the extents of its item

pub record Begins {S : Type 0} (has : S → ℕ → Cell → Type 0) (s : S) (l : Ledger) (r n to : ℕ) (es : List Entry) (way : List Fork) (t : Tree) (first : ℕ) : Type 0 where
  pub e : Entry
  pub rest : Extents
  pub is : t ≡ leaf e (linked first rest)
  pub goes : Goes has s l r to n es way e [] rest

pub begins_at : {S : Type 0} {has : S → ℕ → Cell → Type 0} {s : S} {l : Ledger} {r at to : ℕ} {es : List Entry} {way : List Fork} {t : Tree} {x : Leaf} → Hung has s l r at es way (moved t to) → node.Leaf x ≡ node_of t → 4096 < x.len → Begins has s l r x.len to es way t x.at
begins_at {has = has} {s} {l} {r} {at} {to} {es} {way} {t} {x} h is long =
    let said = leaf_said t x (sym is) in
    of said.entry said.extents said.is said.at said.len (subst (λ (u : Tree). Hung has s l r at es way (moved u to)) said.is h)
  where
    of : (e : Entry) (y : Extents) → t ≡ leaf e y → x.at ≡ first_cell_of y → x.len ≡ length e.item → Hung has s l r at es way (moved (leaf e y) to) → Begins has s l r x.len to es way t x.at
    of e (last q) u a n k = absurd (let z = (hung_tree k).1.0 in omega arith)
    of e (linked q y) u a n k = record { e = e; rest = y; is = u ∙ ap (λ (p : ℕ). leaf e (linked p y)) (sym a); goes = record { stood = k.stood; size = sym n } }

-- a short item has one extent
pub lone_sparse : {S : Type 0} {has : S → ℕ → Cell → Type 0} {s : S} {l : Ledger} {r at : ℕ} {es : List Entry} {way : List Fork} {t : Tree} {x : Leaf} → Hung has s l r at es way t → node.Leaf x ≡ node_of t → x.len ≤ 4096 → LiesSparse l t → is_sparse l (x.at / 1024) ≡ true
lone_sparse {has = has} {s} {l} {r} {at} {es} {way} {t} {x} h is short sparse =
    let said = leaf_said t x (sym is) in
    of said.entry said.extents said.at said.len (subst (Hung has s l r at es way) said.is h) (subst (LiesSparse l) said.is sparse)
  where
    of : (e : Entry) (y : Extents) → x.at ≡ first_cell_of y → x.len ≡ length e.item → Hung has s l r at es way (leaf e y) → SparseExtents l y → is_sparse l (x.at / 1024) ≡ true
    of e (last q) a n k z = ap (λ (p : ℕ). is_sparse l (p / 1024)) a ∙ z
    of e (linked q y) a n k z = absurd (let w = (hung_tree k).1.0 in omega arith)
