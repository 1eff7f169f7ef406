-- What the trie has under a name's key is the item of what the name owns.
use Rattle.std.proofs.Common.{◌≡◌, ◌∙◌, Bool, true, false, cond, [], ◌∷◌, inl, inr, Option, Some, None, unwrap_or, map, refl, sym, ap, subst}
use Rattle.std.specs.List.{AllByRecursion}
use Rattle.std.specs.List.Sorted.{IsStrictlySortedBy}
use Rattle.std.specs.Map.{keys_of}
use Rattle.std.specs.declared.cmp.Ordering.{Ordering}
use Rattle.std.specs.declared.cmp.Ordering.TheVariants.{Less, Equal, Greater}
use Rattle.std.specs.Ordering.{is_eq, ordering_reverse}
use Rattle.zone_model.specs.Names.{Name, IsName, name_cmp}
use Rattle.zone_model.specs.NameOrder.{name_cmp_total}
use Rattle.zone_model.specs.Keys.{key_of}
use Rattle.zone_model.specs.Records.{Entry, IsItem, item}
use Rattle.zone_model.specs.Versions.{Version, entry_of, owned}
use Rattle.zone_model.proofs.NameLemmas.{same_name-true}
use Rattle.zone_model.proofs.KeyLaws.{key_once}
use Rattle.rr_data.proofs.EntryChanges.{item_once}
use Rattle.trie_model.specs.Keys as trie
use Rattle.trie_model.specs.Order.{IsThere}
use Rattle.zone_answer.specs.Standing.{IsStorable, IsVersion, trie_entry}

reversed_self : (o : Ordering) → o ≡ ordering_reverse o → o ≡ Equal
reversed_self Less e = absurd cc
reversed_self Equal e = refl
reversed_self Greater e = absurd cc

pub self_equal : (x : Name) → name_cmp x x ≡ Equal
self_equal x = reversed_self (name_cmp x x) (name_cmp_total.antisymm x x)

-- an entry of the trie is that of a pair
pub record Kept (e : trie.Entry) (version : Version) : Type 0 where
  pub pair : Name × Entry
  pub is : e ≡ trie_entry pair
  pub storable : IsStorable pair

pub kept : (e : trie.Entry) (version : Version) → AllByRecursion IsStorable version → trie.InList e (map trie_entry version) → Kept e version
kept e [] items i = absurd i
kept e (pair ∷ version) items (inl s) = record { pair = pair; is = s; storable = items.0 }
kept e (pair ∷ version) items (inr r) = let k = kept e version items.1 r in record { pair = k.pair; is = k.is; storable = k.storable }

-- a name that is there comes after what comes before all names
pub later_name : (x name : Name) (e : trie.Entry) (version : Version) → IsName name → AllByRecursion IsStorable version → AllByRecursion (λ y. name_cmp x y ≡ Less) (keys_of version) → trie.InList e (map trie_entry version) → e.key ≡ key_of name → name_cmp x name ≡ Less
later_name x name e [] is items above i k = absurd i
later_name x name e (pair ∷ version) is items above (inl s) k =
    let same : pair.0 ≡ name = key_once pair.0 name items.0.name.each is.each (sym (ap (λ (y : trie.Entry). y.key) s) ∙ k) in
    subst (λ (n : Name). name_cmp x n ≡ Less) same above.0
later_name x name e (pair ∷ version) is items above (inr r) k = later_name x name e version is items.1 above.1 r k

false_or : (b : Bool) {P : Type 0} → (b ≡ true → P) → (b ≡ false → P) → P
false_or true p q = p refl
false_or false p q = q refl

-- the entry that is read from the item under a name's key
pub entry_there : (name : Name) (version : Version) (e : trie.Entry) (owner : Name) (entry : Entry) → IsName name → IsStrictlySortedBy name_cmp (keys_of version) → AllByRecursion IsStorable version → trie.InList e (map trie_entry version) → e.key ≡ key_of name → IsItem e.item owner entry → entry_of name version ≡ Some entry
unfolding IsStrictlySortedBy
entry_there name [] e owner entry is rising items i k item = absurd i
entry_there name (pair ∷ version) e owner entry is rising items (inl s) k item =
    let same : pair.0 ≡ name = key_once pair.0 name items.0.name.each is.each (sym (ap (λ (y : trie.Entry). y.key) s) ∙ k) in
    let hit : is_eq (name_cmp name pair.0) ≡ true = subst (λ (n : Name). is_eq (name_cmp name n) ≡ true) (sym same) (ap is_eq (self_equal name)) in
    let one = item_once e.item owner pair.0 entry pair.1 item (subst (λ (x : trie.Entry). IsItem x.item pair.0 pair.1) (sym s) items.0) in
    ap (λ b. cond b (Some pair.1) (entry_of name version)) hit ∙ ap (λ (x : Entry). Some x) (sym one.1)
entry_there name (pair ∷ version) e owner entry is rising items (inr r) k item =
    let l = later_name pair.0 name e version is items.1 rising.0 r k in
    false_or (is_eq (name_cmp name pair.0))
    (λ h.
    let same : name ≡ pair.0 = same_name-true name pair.0 h in
    let bad : Less ≡ Equal = sym (subst (λ (n : Name). name_cmp n name ≡ Less) (sym same) l) ∙ self_equal name in absurd cc)
    (λ h. ap (λ b. cond b (Some pair.1) (entry_of name version)) h ∙ entry_there name version e owner entry is rising.1 items.1 r k item)

entry_none : (name : Name) (version : Version) → ((e : trie.Entry) → trie.InList e (map trie_entry version) → e.key ≡ key_of name → ⊥) → entry_of name version ≡ None
entry_none name [] never = refl
entry_none name (pair ∷ version) never = false_or (is_eq (name_cmp name pair.0))
    (λ h. absurd (never (trie_entry pair) (inl refl) (ap key_of (sym (same_name-true name pair.0 h)))))
    (λ h. ap (λ b. cond b (Some pair.1) (entry_of name version)) h ∙ entry_none name version (λ e i k. never e (inr i) k))

-- ---- what is read

pub nothing_owned : (name : Name) (version : Version) → (IsThere (key_of name) (map trie_entry version) → ⊥) → [] ≡ owned name version
nothing_owned name version never = sym (ap (λ (o : Option Entry). unwrap_or o []) (entry_none name version (λ e i k. never (e, i, k))))

-- the item under a name's key is that of what the name owns
pub item_under : (name : Name) (version : Version) (e : trie.Entry) → IsName name → IsVersion version → trie.InList e (map trie_entry version) → e.key ≡ key_of name → IsItem e.item name (owned name version)
item_under name version e is v i key =
    let k = kept e version v.items i in
    let same : k.pair.0 ≡ name = key_once k.pair.0 name k.storable.name.each is.each (sym (ap (λ (y : trie.Entry). y.key) k.is) ∙ key) in
    let item : IsItem e.item k.pair.0 k.pair.1 = subst (λ (x : trie.Entry). IsItem x.item k.pair.0 k.pair.1) (sym k.is) k.storable in
    let own : owned name version ≡ k.pair.1 = ap (λ (o : Option Entry). unwrap_or o []) (entry_there name version e k.pair.0 k.pair.1 is v.rising v.items i key item) in
    subst (λ (n : Name). IsItem e.item n (owned name version)) same (subst (λ (x : Entry). IsItem e.item k.pair.0 x) (sym own) item)
