-- A test that each reference passes, and how often a reference is met.
use Rattle.std.proofs.Common.{◌≡◌, ℕ, zero, suc, ◌+◌, ◌<◌, ◌≤◌, ◌⊎◌, inl, inr, Bool, true, false, cond, ◌-◌, length, arith, refl, sym, ◌∙◌, ap, subst}
use Rattle.std.proofs.lemmas.Bool.{true≢false, cases_lt}
use Rattle.std.proofs.lemmas.Bool.Decides.{nat_tests}
use Rattle.trie_model.specs.Extents.{Extents, linked_cells, content_cells, EachCell, row, weigh_extents}
use Rattle.trie_model.specs.Extents.Extents.{last, linked}
use Rattle.trie_model.specs.Trees.{Tree, Twigs}
use Rattle.trie_model.specs.Trees.Tree.{leaf, branch}
use Rattle.trie_model.specs.Trees.Twigs.{none, twig}
use Rattle.trie_model.specs.Reach.{weigh_tree, weigh, WithinTree, Within}
use Rattle.chunk_usage.specs.Rooms.{Account, Handed}
use Rattle.trie_space.specs.Weights.{at_place, mark}

pub at_itself : (q : ℕ) → ◌≡◌ {A = ℕ} (at_place q q) 1
at_itself q = grind (arith, nat_tests)

pub at_another : (q x : ℕ) → (x ≡ q → ⊥) → ◌≡◌ {A = ℕ} (at_place q x) 0
at_another q x ne = grind (arith, nat_tests)

pub marked : (test : ℕ → Bool) (q : ℕ) → test q ≡ true → ◌≡◌ {A = ℕ} (mark test q) 1
marked test q e = ap (λ (b : Bool). cond {A = ℕ} b 1 0) e

pub unmarked : (test : ℕ → Bool) (q : ℕ) → test q ≡ false → ◌≡◌ {A = ℕ} (mark test q) 0
unmarked test q e = ap (λ (b : Bool). cond {A = ℕ} b 1 0) e

pub mark_le : (test : ℕ → Bool) (q : ℕ) → mark test q ≤ 1
mark_le test q = go (test q)
  where
    go : (b : Bool) → cond {A = ℕ} b 1 0 ≤ 1
    go true = omega arith
    go false = omega arith

pub mark_tells : (test : ℕ → Bool) (q : ℕ) → 1 ≤ mark test q → test q ≡ true
mark_tells test q h = go (test q) refl
  where
    go : (b : Bool) → test q ≡ b → test q ≡ true
    go true e = e
    go false e = absurd (let u = unmarked test q e in omega arith)

pub mark_grows : (a b : ℕ → Bool) (q : ℕ) → (a q ≡ true → b q ≡ true) → mark a q ≤ mark b q
mark_grows a b q grows = go (a q) refl
  where
    go : (x : Bool) → a q ≡ x → mark a q ≤ mark b q
    go true e = let m = marked a q e in let n = marked b q (grows e) in omega arith
    go false e = let m = unmarked a q e in omega arith

-- a row meets a reference outside it never, and each of its own once
pub row_misses : (q r n : ℕ) → ((i : ℕ) → i < n → q ≡ r + i → ⊥) → row (at_place q) r n ≡ 0
row_misses q r zero out = refl
row_misses q r (suc n) out =
    let a = at_another q r (λ e. out 0 (omega arith) (omega arith)) in
    let b = row_misses q (suc r) n (λ i l e. out (suc i) (omega arith) (omega arith)) in omega arith

pub row_meets : (q r n i : ℕ) → i < n → q ≡ r + i → row (at_place q) r n ≡ 1
row_meets q r zero i l e = absurd (omega arith)
row_meets q r (suc n) zero l e =
    let same : r ≡ q = omega arith in
    let a : ◌≡◌ {A = ℕ} (at_place q r) 1 = ap (at_place q) same ∙ at_itself q in
    let b = row_misses q (suc r) n (λ i m f. omega arith) in omega arith
row_meets q r (suc n) (suc i) l e =
    let a = at_another q r (λ f. omega arith) in
    let b = row_meets q (suc r) n i (omega arith) (omega arith) in omega arith

-- is it in the row
pub in_row : (q r n : ℕ) → ((i : ℕ) × (i < n) × (q ≡ r + i)) ⊎ ((i : ℕ) → i < n → q ≡ r + i → ⊥)
in_row q r n = elim (cases_lt q r) [
  | inl l ↦ inr (λ i m e. omega arith)
  | inr g ↦ elim (cases_lt q (r + n)) [ inl l ↦ inl (q - r, omega arith, omega arith) | inr h ↦ inr (λ i m e. omega arith) ]
]

-- what is so of each cell of some extents is so of one that is met there
pub met_each : (P : ℕ → Type 0) (n : ℕ) (x : Extents) → EachCell P n x → (q : ℕ) → 1 ≤ weigh_extents (at_place q) n x → P q
met_each P n (last r) h q m = elim (in_row q r (content_cells n)) [
  | inl i ↦ subst P (sym i.2) (h i.0 i.1)
  | inr out ↦ absurd (let z = row_misses q r (content_cells n) out in omega arith)
]
met_each P n (linked r x) h q m = elim (in_row q r linked_cells) [
  | inl i ↦ subst P (sym i.2) (h.0 i.0 i.1)
  | inr out ↦ met_each P (n - 4080) x h.1 q (let z = row_misses q r linked_cells out in omega arith)
]

-- and where something is so of each that is met, of each cell
pub each_met : (P : ℕ → Type 0) (n : ℕ) (x : Extents) → ((q : ℕ) → 1 ≤ weigh_extents (at_place q) n x → P q) → EachCell P n x
each_met P n (last r) h = λ k l. h (r + k) (let m = row_meets (r + k) r (content_cells n) k l refl in omega arith)
each_met P n (linked r x) h = (λ k l. h (r + k) (let m = row_meets (r + k) r linked_cells k l refl in omega arith), each_met P (n - 4080) x (λ q l. h q (omega arith)))

-- each reference of the tree passes a test that those pass which it meets
abbrev mutual
  pub within_met : (P : ℕ → Bool) (t : Tree) → ((q : ℕ) → 1 ≤ weigh_tree (at_place q) t → P q ≡ true) → WithinTree P t
  within_met P (leaf e x) h = each_met (λ q. P q ≡ true) (length e.item) x h
  within_met P (branch o w below) h = twigs_met P w below h

  pub twigs_met : (P : ℕ → Bool) (r : ℕ) (ts : Twigs) → ((q : ℕ) → 1 ≤ weigh (at_place q) r ts → P q ≡ true) → Within P r ts
  twigs_met P r none h = tt
  twigs_met P r (twig p t rest) h = (
    h r (let a = at_itself r in omega arith),
    within_met P t (λ q l. h q (omega arith)),
    twigs_met P (suc r) rest (λ q l. h q (omega arith)),
  )

-- and a reference that fails the test isn't met
abbrev mutual
  pub met_within : (P : ℕ → Bool) (t : Tree) → WithinTree P t → (q : ℕ) → P q ≡ false → weigh_tree (at_place q) t ≡ 0
  met_within P (leaf e x) h q f = elim (cases_lt 0 (weigh_extents (at_place q) (length e.item) x)) [
    | inl some ↦ absurd (true≢false (sym (met_each (λ p. P p ≡ true) (length e.item) x h q some) ∙ f))
    | inr few ↦ omega arith
  ]
  met_within P (branch o w below) h q f = met_in P w below h q f

  pub met_in : (P : ℕ → Bool) (r : ℕ) (ts : Twigs) → Within P r ts → (q : ℕ) → P q ≡ false → weigh (at_place q) r ts ≡ 0
  met_in P r none h q f = refl
  met_in P r (twig p t rest) h q f =
      let a = at_another q r (λ same. true≢false (sym h.0 ∙ ap P same ∙ f)) in
      let b = met_within P t h.1 q f in
      let c = met_in P (suc r) rest h.2 q f in omega arith

-- the same, as a space tells it
pub handed_fresh : {old new : Account} {r n : ℕ} → Handed old new r n → ((q : ℕ) → old.used q ≡ true → new.used q ≡ true) → (q : ℕ) → row (at_place q) r n + mark old.used q ≤ mark new.used q
handed_fresh {old} {new} {r} {n} h stays q = elim (in_row q r n) [
  | inl i ↦ (
      let a = row_meets q r n i.0 i.1 i.2 in
      let b = unmarked old.used q (ap old.used i.2 ∙ h.unused i.0 i.1) in
      let c = marked new.used q (ap new.used i.2 ∙ h.taken i.0 i.1) in omega arith
      )
  | inr out ↦ (let a = row_misses q r n out in let b = mark_grows old.used new.used q (stays q) in omega arith)
]
