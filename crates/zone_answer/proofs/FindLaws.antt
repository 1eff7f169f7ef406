-- What a search tells of the names around a name.
use Rattle.std.proofs.Common.{◌≡◌, ◌∙◌, ℕ, ◌+◌, ◌-◌, ◌≤◌, Bool, true, false, cond, not, ◌||◌, List, [], ◌∷◌, ◌++◌, Option, Some, None, length, map, drop, inl, inr, refl, sym, ap, subst, arith}
use Rattle.std.proofs.Math.Seq.{drop-append_seam}
use Rattle.std.proofs.lemmas.List.{length-append}
use Rattle.std.proofs.lemmas.List.Elements.{All-cons, All-nil, filter-append}
use Rattle.std.specs.List.{All, AllByRecursion, filter, last_or, list_any}
use Rattle.std.specs.Map.{keys_of}
use Rattle.std.specs.declared.cmp.Ordering.TheVariants as order
use Rattle.std.specs.Ordering.{is_eq, is_gt, ordering_reverse}
use Rattle.zone_model.specs.Names.{Name, IsName, ancestor, is_under, name_cmp, same_name}
use Rattle.zone_model.specs.NameOrder.{name_cmp_total}
use Rattle.zone_model.specs.Keys.{key_of}
use Rattle.zone_model.specs.Records as records
use Rattle.zone_model.specs.Versions.{Version}
use Rattle.zone_model.proofs.KeyLaws.{key_once}
use Rattle.zone_model.proofs.NameLemmas.{same_name-true}
use Rattle.zone_model.proofs.OrderLemmas.{under_ends}
use Rattle.trie_model.specs.Keys as trie
use Rattle.trie_model.specs.Order.{begins, chain_labels, labels_in, IsThere, IsPredecessor, IsUpTo}
use Rattle.trie_model.proofs.AboveLaws.{under_begins, begins_under}
use Rattle.trie_model.proofs.ChainLaws.{chain_take, chain_skip, begins_same}
use Rattle.trie_model.proofs.NameLaws.{labels_of}
use Rattle.trie_read.specs.Finds.{IsKind}
use Rattle.trie_read.specs.declared.found.Kind.{Kind}
use Rattle.trie_read.specs.declared.found.Kind.TheVariants.{Exact, Partial, Absent}
use Rattle.zone_answer.specs.Neighbours.{Names}
use Rattle.zone_answer.specs.Standing.{IsStorable, trie_entry}
use Rattle.zone_answer.proofs.KeyOrder.{before_key, up_to_key}
use Rattle.zone_answer.proofs.OwnedLaws.{self_equal}
use Rattle.zone_answer.proofs.SplitLaws.{parted, all_back}
use Rattle.zone_answer.specs.Around.{chain, up_to, kind_by, find}
use Rattle.zone_answer.specs.Around as around
use Rattle.zone_answer.proofs.FilterLaws.{none_pass, each}
use Rattle.zone_answer.proofs.WalkLaws.{keys-append}

-- ---- the names at or above a name

-- the key begins another's exactly where the name is at or above the other
begins_is : (name : Name) (pair : Name × records.Entry) → IsName name → IsStorable pair → begins (key_of pair.0) (key_of name) ≡ is_under name pair.0
begins_is name pair is item = by_under (is_under name pair.0) refl
  where
    by_under : (b : Bool) → is_under name pair.0 ≡ b → begins (key_of pair.0) (key_of name) ≡ b
    by_under true e = under_begins pair.0 name e
    by_under false e = by_begins (begins (key_of pair.0) (key_of name)) refl
      where
        by_begins : (c : Bool) → begins (key_of pair.0) (key_of name) ≡ c → c ≡ false
        by_begins true h = sym (begins_under pair.0 name item.name.each is.each h) ∙ e
        by_begins false h = refl

-- an ancestor has its number of labels, which tells it
above_is : (name owner : Name) → is_under name owner ≡ true → (ancestor (length owner) name ≡ owner) × (length owner ≤ length name)
above_is name owner under =
    let u = under_ends name owner under in
    let long : length name ≡ length u.0 + length owner = ap (λ (l : Name). length l) u.1 ∙ length-append u.0 owner in
    let places : length name - length owner ≡ length u.0 = omega (arith, long) in
    (ap (λ (n : ℕ). drop n name) places ∙ ap (λ (l : Name). drop (length u.0) l) u.1 ∙ drop-append_seam u.0 owner, omega (arith, long))

pub labels_fit : (name : Name) (version : Version) → IsName name → AllByRecursion IsStorable version → All (λ k. k ≤ length name) (chain_labels (key_of name) (map trie_entry version))
labels_fit name [] is items = All-nil (λ k. k ≤ length name)
labels_fit name (pair ∷ version) is items = by_begins (begins (key_of pair.0) (key_of name)) refl (labels_fit name version is items.1)
  where
    by_begins : (b : Bool) → begins (key_of pair.0) (key_of name) ≡ b → All (λ k. k ≤ length name) (chain_labels (key_of name) (map trie_entry version)) → All (λ k. k ≤ length name) (chain_labels (key_of name) (trie_entry pair ∷ map trie_entry version))
    by_begins true e rest =
        let fits : labels_in (key_of pair.0) ≤ length name = subst (λ (n : ℕ). n ≤ length name) (sym (labels_of pair.0 items.0.name.each)) (above_is name pair.0 (sym (begins_is name pair is items.0) ∙ e)).1 in
        subst (All (λ k. k ≤ length name)) (sym (chain_take (key_of name) (trie_entry pair) (map trie_entry version) e)) (All-cons (λ k. k ≤ length name) (labels_in (key_of pair.0)) (chain_labels (key_of name) (map trie_entry version)) fits rest)
    by_begins false e rest = subst (All (λ k. k ≤ length name)) (sym (chain_skip (key_of name) (trie_entry pair) (map trie_entry version) e)) rest

pub chain_is : (name : Name) (version : Version) → IsName name → AllByRecursion IsStorable version → map (λ k. ancestor k name) (chain_labels (key_of name) (map trie_entry version)) ≡ chain name version
chain_is name [] is items = refl
chain_is name (pair ∷ version) is items = by_begins (begins (key_of pair.0) (key_of name)) refl (chain_is name version is items.1)
  where
    by_begins : (b : Bool) → begins (key_of pair.0) (key_of name) ≡ b → map (λ k. ancestor k name) (chain_labels (key_of name) (map trie_entry version)) ≡ chain name version → map (λ k. ancestor k name) (chain_labels (key_of name) (trie_entry pair ∷ map trie_entry version)) ≡ cond (is_under name pair.0) (pair.0 ∷ chain name version) (chain name version)
    by_begins true e rest =
        let under = sym (begins_is name pair is items.0) ∙ e in
        let same : ancestor (labels_in (key_of pair.0)) name ≡ pair.0 = ap (λ (n : ℕ). ancestor n name) (labels_of pair.0 items.0.name.each) ∙ (above_is name pair.0 under).0 in
        ap (λ (l : List ℕ). map (λ k. ancestor k name) l) (chain_take (key_of name) (trie_entry pair) (map trie_entry version) e)
        ∙ ap (λ (n : Name). n ∷ map (λ k. ancestor k name) (chain_labels (key_of name) (map trie_entry version))) same ∙ ap (λ (l : List Name). pair.0 ∷ l) rest
        ∙ sym (ap (λ (b : Bool). cond b (pair.0 ∷ chain name version) (chain name version)) under)
    by_begins false e rest =
        ap (λ (l : List ℕ). map (λ k. ancestor k name) l) (chain_skip (key_of name) (trie_entry pair) (map trie_entry version) e) ∙ rest
        ∙ sym (ap (λ (b : Bool). cond b (pair.0 ∷ chain name version) (chain name version)) (sym (begins_is name pair is items.0) ∙ e))

-- ---- whether the name is there

there_any : (name : Name) (version : Version) → IsName name → AllByRecursion IsStorable version → IsThere (key_of name) (map trie_entry version) → list_any (same_name name) (keys_of version) ≡ true
there_any name [] is items t = absurd t.1
there_any name (pair ∷ version) is items t = elim t.1 [
  | inl s ↦ (
      let same : pair.0 ≡ name = key_once pair.0 name items.0.name.each is.each (sym (ap (λ (y : trie.Entry). y.key) s) ∙ t.2) in
      ap (λ (b : Bool). b || list_any (same_name name) (keys_of version)) (subst (λ (n : Name). same_name name n ≡ true) (sym same) (ap is_eq (self_equal name)))
      )
  | inr r ↦ ap (λ (b : Bool). same_name name pair.0 || b) (there_any name version is items.1 (t.0, r, t.2)) ∙ or_true (same_name name pair.0)
]
  where
    or_true : (b : Bool) → (b || true) ≡ true
    or_true true = refl
    or_true false = refl

none_any : (name : Name) (version : Version) → (IsThere (key_of name) (map trie_entry version) → ⊥) → list_any (same_name name) (keys_of version) ≡ false
none_any name [] never = refl
none_any name (pair ∷ version) never = by_same (same_name name pair.0) refl (none_any name version (λ t. never (t.0, inr t.1, t.2)))
  where
    by_same : (b : Bool) → same_name name pair.0 ≡ b → list_any (same_name name) (keys_of version) ≡ false → (same_name name pair.0 || list_any (same_name name) (keys_of version)) ≡ false
    by_same true e rest = absurd (never (trie_entry pair, inl refl, ap key_of (sym (same_name-true name pair.0 e))))
    by_same false e rest = ap (λ (b : Bool). b || list_any (same_name name) (keys_of version)) e ∙ rest

-- an entry that begins the key is in the chain, so there is one
some_above : (name : Name) (version : Version) → IsName name → AllByRecursion IsStorable version → (e : trie.Entry) → trie.InList e (map trie_entry version) → begins e.key (key_of name) ≡ true → chain name version ≡ [] → ⊥
some_above name [] is items e i b none = i
some_above name (pair ∷ version) is items e i b none = by_under (is_under name pair.0) refl none (λ r. some_above name version is items.1 e r b)
  where
    by_under : (u : Bool) → is_under name pair.0 ≡ u → cond (is_under name pair.0) (pair.0 ∷ chain name version) (chain name version) ≡ [] → (trie.InList e (map trie_entry version) → chain name version ≡ [] → ⊥) → ⊥
    by_under true h empty rest = let bad : pair.0 ∷ chain name version ≡ [] = sym (ap (λ (b : Bool). cond b (pair.0 ∷ chain name version) (chain name version)) h) ∙ empty in absurd cc
    by_under false h empty rest = elim i [
      | inl s ↦ (
          let begun : begins (key_of pair.0) (key_of name) ≡ true = subst (λ (x : trie.Entry). begins x.key (key_of name) ≡ true) s b in
          let bad : true ≡ false = sym begun ∙ begins_is name pair is items.0 ∙ h in absurd cc
          )
      | inr r ↦ rest r (sym (ap (λ (b : Bool). cond b (pair.0 ∷ chain name version) (chain name version)) h) ∙ empty)
    ]

begins_self : (key : List ℕ) → begins key key ≡ true
begins_self key = begins_same key key (omega arith) (λ i l. refl)

some_kind : (names : List Name) → (names ≡ [] → ⊥) → Partial ≡ kind_by false names
some_kind [] never = absurd (never refl)
some_kind (top ∷ names) never = refl

pub kind_is : (name : Name) (version : Version) (kind : Kind) → IsName name → AllByRecursion IsStorable version → IsKind (key_of name) (map trie_entry version) kind → kind ≡ (find name version).kind
kind_is name version Exact is items k = ap (λ (b : Bool). kind_by b (chain name version)) (sym (there_any name version is items k))
kind_is name version Partial is items k =
    some_kind (chain name version) (some_above name version is items k.1.0 k.1.1 k.1.2) ∙ ap (λ (b : Bool). kind_by b (chain name version)) (sym (none_any name version k.0))
kind_is name version Absent is items k =
    let never : IsThere (key_of name) (map trie_entry version) → ⊥ = λ t. (let begun : begins t.0.key (key_of name) ≡ true = subst (λ (x : List ℕ). begins x (key_of name) ≡ true) (sym t.2) (begins_self (key_of name)) in let not = k t.0 t.1 in absurd cc) in
    let empty : chain name version ≡ [] = none_pass (λ other. is_under name other) (keys_of version) (each (λ other. is_under name other) false version items (λ pair item i. sym (begins_is name pair is item) ∙ k (trie_entry pair) i)) in
    ap (λ (l : List Name). kind_by false l) (sym empty) ∙ ap (λ (b : Bool). kind_by b (chain name version)) (sym (none_any name version never))

-- ---- the last name that isn't after it

is_after : (name other : Name) → name_cmp name other ≡ order.Less → is_gt (name_cmp other name) ≡ true
is_after name other e = ap is_gt (name_cmp_total.antisymm other name ∙ ap ordering_reverse e)

last_is : (o : Option Name) (names : List Name) (name : Name) → last_or o (names ++ name ∷ []) ≡ Some name
last_is o [] name = refl
last_is o (x ∷ names) name = last_is (Some x) names name

abbrev isnt_after : Name → Name → Bool
isnt_after name other = not (is_gt (name_cmp other name))

-- names behind one that passes, and that don't pass themselves
last_passes : (test : Name → Bool) (front : List Name) (name : Name) (back : List Name) → test name ≡ true → filter test back ≡ [] → last_or None (filter test (front ++ name ∷ back)) ≡ Some name
last_passes test front name back here none =
    ap (λ (l : List Name). last_or None l) (filter-append test front (name ∷ back) ∙ ap (λ (l : List Name). filter test front ++ l) (ap (λ (b : Bool). cond b (name ∷ filter test back) (filter test back)) here ∙ ap (λ (l : List Name). name ∷ l) none))
    ∙ last_is None (filter test front) name

pub predecessor_is : (name : Name) (version : Version) (key : Option (List ℕ)) (found : Option Name) → IsName name → AllByRecursion IsStorable version → IsPredecessor (key_of name) (map trie_entry version) key → Names key found → found ≡ last_or None (up_to name version)
predecessor_is name version None found is items p named =
    named ∙ ap (λ (l : List Name). last_or None l) (sym (none_pass (isnt_after name) (keys_of version) (each (isnt_after name) false version items (λ pair item i. ap not (is_after name pair.0 (before_key name pair.0 is.each item.name.each (p (trie_entry pair) i)))))))
predecessor_is name version (Some key) None is items p named = absurd named
predecessor_is name version (Some key) (Some found) is items p named =
    let parts = parted version p.1.before (p.0 ∷ p.1.after) p.1.whole in
    by_back parts.front parts.back parts.whole parts.back_is
  where
    by_back : (front back : Version) → version ≡ front ++ back → p.0 ∷ p.1.after ≡ map trie_entry back → Some found ≡ last_or None (up_to name version)
    by_back front [] whole e = absurd cc
    by_back front (pair ∷ back) whole e =
        let here : p.0 ≡ trie_entry pair = cc in
        let behind : p.1.after ≡ map trie_entry back = cc in
        let all = all_back front (pair ∷ back) (subst (AllByRecursion IsStorable) whole items) in
        let same : found ≡ pair.0 = key_once found pair.0 named.1.each all.0.name.each (named.0 ∙ p.2 ∙ ap (λ (x : trie.Entry). x.key) here) in
        let upto = up_to_key pair.0 name all.0.name.each is.each (subst (λ (x : trie.Entry). IsUpTo x.key (key_of name)) here p.1.up_to) in
        let none = none_pass (isnt_after name) (keys_of back) (each (isnt_after name) false back all.1 (λ other item i. ap not (is_after name other.0 (before_key name other.0 is.each item.name.each (p.1.beyond (trie_entry other) (subst (trie.InList (trie_entry other)) (sym behind) i)))))) in
        ap (λ (n : Name). Some n) same
        ∙ sym (last_passes (isnt_after name) (keys_of front) pair.0 (keys_of back) (ap not upto) none)
        ∙ ap (λ (l : List Name). last_or None (filter (isnt_after name) l)) (sym (keys-append front (pair ∷ back)) ∙ ap keys_of (sym whole))

pub found_is : (name : Name) (version : Version) (kind : Kind) (names : List Name) (predecessor : Option Name) → kind ≡ (find name version).kind → names ≡ chain name version → predecessor ≡ last_or None (up_to name version) → record { kind = kind; chain = names; predecessor = predecessor } ≡ find name version
found_is name version kind names predecessor k c p =
    ap (λ (x : Kind). made x names predecessor) k ∙ ap (λ (l : List Name). made (find name version).kind l predecessor) c ∙ ap (λ (o : Option Name). made (find name version).kind (chain name version) o) p
  where
    made : Kind → List Name → Option Name → around.Found
    made k l o = record { kind = k; chain = l; predecessor = o }
