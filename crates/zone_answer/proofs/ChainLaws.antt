-- What a search tells of the names at or above a name: which are there, and whether the name itself is.
use Rattle.std.proofs.Common.{◌≡◌, ◌∙◌, ℕ, ◌-◌, ◌≤◌, Bool, true, false, cond, eqb, ◌||◌, List, [], ◌∷◌, length, take, map, inl, inr, Option, Some, None, unwrap_or, refl, sym, ap, subst, arith, take-append-drop}
use Rattle.std.proofs.lemmas.Bool.Decides.{nat_tests}
use Rattle.std.specs.List.{AllByRecursion, list_any}
use Rattle.std.specs.Ordering.{is_eq}
use Rattle.zone_model.specs.Names.{Name, IsName, ancestor, is_under, name_cmp}
use Rattle.zone_model.specs.Keys.{key_of}
use Rattle.zone_model.specs.Records.{Entry}
use Rattle.zone_model.specs.Versions.{Version, entry_of, owned, exists}
use Rattle.zone_model.proofs.NameLemmas.{same_name-true}
use Rattle.zone_model.proofs.KeyLaws.{key_once}
use Rattle.zone_model.proofs.OrderLemmas.{ends_under}
use Rattle.trie_model.specs.Keys as trie
use Rattle.trie_model.specs.Order.{begins, chain_labels, labels_in, IsThere}
use Rattle.trie_model.proofs.AboveLaws.{under_begins}
use Rattle.trie_model.proofs.ChainLaws.{chain_take, chain_skip}
use Rattle.trie_model.proofs.NameLaws.{labels_of}
use Rattle.zone_answer.specs.Standing.{IsStorable, IsVersion, trie_entry}
use Rattle.zone_answer.proofs.AncestorLaws.{length-ancestor, self_under}

abbrev among : ℕ → List ℕ → Bool
among k labels = list_any (λ n. eqb n k) labels

eqb_self : (n k : ℕ) → n ≡ k → eqb n k ≡ true
eqb_self n k e = grind (arith, nat_tests)

or_false : (a b : Bool) → (a || b) ≡ false → (a ≡ false) × (b ≡ false)
or_false true b h = absurd cc
or_false false b h = (refl, h)

-- it isn't among the labels without one that is skipped
among_rest : (k : ℕ) (key : List ℕ) (x : trie.Entry) (es : List trie.Entry) → among k (chain_labels key (x ∷ es)) ≡ false → among k (chain_labels key es) ≡ false
among_rest k key x es h = go (begins x.key key) refl
  where
    go : (b : Bool) → begins x.key key ≡ b → among k (chain_labels key es) ≡ false
    go true e = (or_false (eqb (labels_in x.key) k) (among k (chain_labels key es)) (sym (ap (among k) (chain_take key x es e)) ∙ h)).1
    go false e = sym (ap (among k) (chain_skip key x es e)) ∙ h

pub ancestor_under : (k : ℕ) (name : Name) → is_under name (ancestor k name) ≡ true
ancestor_under k name =
    subst (λ (x : Name). is_under x (ancestor k name) ≡ true) (take-append-drop (length name - k) name) (ends_under (take (length name - k) name) (ancestor k name))

first_not : (k : ℕ) (name : Name) (pair : Name × Entry) (es : List trie.Entry) → IsStorable pair → k ≤ length name → among k (chain_labels (key_of name) (trie_entry pair ∷ es)) ≡ false → ancestor k name ≡ pair.0 → ⊥
first_not k name pair es item l h same =
    let under : is_under name pair.0 ≡ true = subst (λ (x : Name). is_under name x ≡ true) same (ancestor_under k name) in
    let begun = under_begins pair.0 name under in
    let labels : labels_in (key_of pair.0) ≡ k = labels_of pair.0 item.name.each ∙ ap (λ (x : Name). length x) (sym same) ∙ length-ancestor k name l in
    let hit = eqb_self (labels_in (key_of pair.0)) k labels in
    let off = (or_false (eqb (labels_in (key_of pair.0)) k) (among k (chain_labels (key_of name) es)) (sym (ap (among k) (chain_take (key_of name) (trie_entry pair) es begun)) ∙ h)).0 in
    let bad : true ≡ false = sym hit ∙ off in absurd cc

not_listed : (k : ℕ) (name : Name) (version : Version) → AllByRecursion IsStorable version → k ≤ length name → among k (chain_labels (key_of name) (map trie_entry version)) ≡ false → entry_of (ancestor k name) version ≡ None
not_listed k name [] items l h = refl
not_listed k name (pair ∷ version) items l h = by_name (is_eq (name_cmp (ancestor k name) pair.0)) refl (not_listed k name version items.1 l (among_rest k (key_of name) (trie_entry pair) (map trie_entry version) h))
  where
    by_name : (b : Bool) → is_eq (name_cmp (ancestor k name) pair.0) ≡ b → entry_of (ancestor k name) version ≡ None → cond (is_eq (name_cmp (ancestor k name) pair.0)) (Some pair.1) (entry_of (ancestor k name) version) ≡ None
    by_name true e rest = absurd (first_not k name pair (map trie_entry version) items.0 l h (same_name-true (ancestor k name) pair.0 e))
    by_name false e rest = ap (λ b. cond b (Some pair.1) (entry_of (ancestor k name) version)) e ∙ rest

-- a name that the chain hasn't owns nothing
pub off_chain : (k : ℕ) (name : Name) (version : Version) (labels : List ℕ) → IsVersion version → k ≤ length name → labels ≡ chain_labels (key_of name) (map trie_entry version) → among k labels ≡ false → owned (ancestor k name) version ≡ []
off_chain k name version labels v l is h = ap (λ (o : Option Entry). unwrap_or o []) (not_listed k name version v.items l (sym (ap (among k) is) ∙ h))

-- ---- whether the name is there

pub there_exists : (name : Name) (version : Version) → IsName name → AllByRecursion IsStorable version → IsThere (key_of name) (map trie_entry version) → exists name version ≡ true
there_exists name [] is items t = absurd t.1
there_exists name (pair ∷ version) is items t = elim t.1 [
  | inl s ↦ (
      let same : pair.0 ≡ name = key_once pair.0 name items.0.name.each is.each (sym (ap (λ (y : trie.Entry). y.key) s) ∙ t.2) in
      ap (λ (b : Bool). b || exists name version) (subst (λ (x : Name). is_under x name ≡ true) (sym same) (self_under name))
      )
  | inr r ↦ ap (λ (b : Bool). is_under pair.0 name || b) (there_exists name version is items.1 (t.0, r, t.2)) ∙ or_true (is_under pair.0 name)
]
  where
    or_true : (b : Bool) → (b || true) ≡ true
    or_true true = refl
    or_true false = refl
