-- What storing an entry under a name needs of the version, and makes of it.
use Rattle.std.proofs.Common.{◌≡◌, ◌∙◌, ℕ, ◌+◌, ◌<◌, ◌≤◌, Bool, true, false, cond, List, [], ◌∷◌, length, Option, Some, None, unwrap_or, refl, sym, ap, subst, arith}
use Rattle.std.specs.List.{AllByRecursion}
use Rattle.std.specs.List.Sorted.{IsStrictlySortedBy}
use Rattle.std.specs.Map.{keys_of, remove_entry}
use Rattle.std.specs.BTreeMap.{insert_entry, is_at}
use Rattle.std.specs.declared.cmp.Ordering.TheVariants as order
use Rattle.std.specs.Ordering.{is_eq}
use Rattle.zone_model.specs.Names.{Name, IsName, name_cmp}
use Rattle.zone_model.specs.Keys.{key_of}
use Rattle.zone_model.specs.Records.{Entry, IsItem, item}
use Rattle.zone_model.specs.Versions.{Version, entry_of, owned, put}
use Rattle.rr_data.specs.ItemViews.{SaysEntry}
use Rattle.rr_data.proofs.EntryChanges.{item_once}
use Rattle.trie_model.specs.Keys as trie
use Rattle.zone_answer.specs.Standing.{IsStorable, IsVersion, trie_entry}
use Rattle.zone_answer.proofs.OwnedLaws.{self_equal, kept, entry_there, nothing_owned}
use Rattle.trie_model.specs.Extents.{cells_in}
use Rattle.job_model.specs.Sizes.{item_cells, trie_entries}
use Rattle.zone_edit.proofs.VersionLaws.{by_name, put_here, put_over, put_later, gone_here, gone_later, turned, after_all}

pub put_some : (name : Name) (entry : Entry) (version : Version) → 0 < length entry → put name entry version ≡ insert_entry name_cmp version name entry
put_some name [] version some = absurd (omega arith)
put_some name (first ∷ rest) version some = refl

-- ---- what a name owns in a version in which an entry was put

at_name : (name : Name) (entry : Entry) (other : Name × Entry) (rest : Version) → name ≡ other.0 → entry_of name (other ∷ rest) ≡ Some other.1
at_name name entry other rest same = ap (λ (b : Bool). cond b (Some other.1) (entry_of name rest)) (subst (λ (n : Name). is_eq (name_cmp name n) ≡ true) same (ap is_eq (self_equal name)))

past_name : (name : Name) (other : Name × Entry) (rest : Version) → name_cmp other.0 name ≡ order.Less → entry_of name (other ∷ rest) ≡ entry_of name rest
past_name name other rest l = ap (λ (b : Bool). cond b (Some other.1) (entry_of name rest)) (ap is_eq (turned other.0 name l))

put_there : (name : Name) (entry : Entry) (version : Version) → entry_of name (insert_entry name_cmp version name entry) ≡ Some entry
put_there name entry [] = at_name name entry (name, entry) [] refl
put_there name entry (pair ∷ rest) =
    by_name name pair.0
    (λ l. ap (entry_of name) (put_here name entry pair rest l) ∙ at_name name entry (name, entry) (pair ∷ rest) refl)
    (λ same. ap (entry_of name) (put_over name entry pair rest same) ∙ at_name name entry (name, entry) rest refl)
    (λ l. ap (entry_of name) (put_later name entry pair rest l) ∙ past_name name pair (insert_entry name_cmp rest name entry) l ∙ put_there name entry rest)

pub owned_put : (name : Name) (entry : Entry) (version : Version) → owned name (insert_entry name_cmp version name entry) ≡ entry
owned_put name entry version = ap (λ (o : Option Entry). unwrap_or o []) (put_there name entry version)

-- ---- whether a name is there

-- a name that the trie has owns something
pub owned_there : (name : Name) (version : Version) (e : trie.Entry) → IsName name → IsVersion version → trie.InList e (trie_entries version) → e.key ≡ key_of name → 0 < length (owned name version)
owned_there name version e is v i k =
    let x = kept e version v.items i in
    let there = entry_there name version e x.pair.0 x.pair.1 is v.rising v.items i k (subst (λ (y : trie.Entry). IsItem y.item x.pair.0 x.pair.1) (sym x.is) x.storable) in
    subst (λ (o : Option Entry). 0 < length (unwrap_or o [])) (sym there) x.storable.some

pub owns_some : (name : Name) (version : Version) → 0 < length (owned name version) → entry_of name version ≡ Some (owned name version)
owns_some name version some = by_entry (entry_of name version) some
  where
    by_entry : (o : Option Entry) → 0 < length (unwrap_or o []) → o ≡ Some (unwrap_or o [])
    by_entry None h = absurd (omega arith)
    by_entry (Some entry) h = refl

owns_none : (name : Name) (version : Version) → AllByRecursion IsStorable version → owned name version ≡ [] → entry_of name version ≡ None
owns_none name [] items e = refl
owns_none name (pair ∷ rest) items e = by_test (λ k. owns_none name rest items.1 k) (is_eq (name_cmp name pair.0)) e
  where
    by_test : (owned name rest ≡ [] → entry_of name rest ≡ None) → (b : Bool) → unwrap_or (cond b (Some pair.1) (entry_of name rest)) [] ≡ [] → cond b (Some pair.1) (entry_of name rest) ≡ None
    by_test further true h = let some = items.0.some in let none : length pair.1 ≡ 0 = ap (λ (l : Entry). length l) h in absurd (omega arith)
    by_test further false h = further h

-- ---- what changes nothing

none_below : (name : Name) (version : Version) → AllByRecursion (λ y. name_cmp name y ≡ order.Less) (keys_of version) → entry_of name version ≡ None
none_below name [] a = refl
none_below name (pair ∷ rest) a = ap (λ (b : Bool). cond b (Some pair.1) (entry_of name rest)) (ap is_eq a.0) ∙ none_below name rest a.1

same_put : (name : Name) (entry : Entry) (version : Version) → IsStrictlySortedBy name_cmp (keys_of version) → entry_of name version ≡ Some entry → insert_entry name_cmp version name entry ≡ version
unfolding IsStrictlySortedBy
same_put name entry [] rising e = absurd cc
same_put name entry (pair ∷ rest) rising e =
    by_name name pair.0
    (λ l. let none : entry_of name (pair ∷ rest) ≡ None = none_below name (pair ∷ rest) (l, after_all name pair.0 (keys_of rest) l rising.0) in absurd cc)
    (λ same.
    let here : Some pair.1 ≡ Some entry = sym (at_name name entry pair rest same) ∙ e in
    let is : pair.1 ≡ entry = cc in
    put_over name entry pair rest same ∙ ap (λ (n : Name). (n, entry) ∷ rest) same ∙ ap (λ (x : Entry). (pair.0, x) ∷ rest) (sym is))
    (λ l. put_later name entry pair rest l ∙ ap (λ (v : Version). pair ∷ v) (same_put name entry rest rising.1 (sym (past_name name pair rest l) ∙ e)))

same_gone : (name : Name) (version : Version) → entry_of name version ≡ None → remove_entry (is_at (name_cmp name)) version ≡ version
same_gone name [] e = refl
same_gone name (pair ∷ rest) e = by_test (λ k. same_gone name rest k) (is_eq (name_cmp name pair.0)) e
  where
    by_test : (entry_of name rest ≡ None → remove_entry (is_at (name_cmp name)) rest ≡ rest) → (b : Bool) → cond b (Some pair.1) (entry_of name rest) ≡ None → cond b rest (pair ∷ remove_entry (is_at (name_cmp name)) rest) ≡ pair ∷ rest
    by_test further true h = absurd cc
    by_test further false h = ap (λ (v : Version). pair ∷ v) (further h)

-- a name owns again what it owned
pub unchanged_put : (name : Name) (entry : Entry) (version : Version) → IsVersion version → 0 < length entry → entry ≡ owned name version → put name entry version ≡ version
unchanged_put name entry version v some is =
    let owned_some : 0 < length (owned name version) = subst (λ (x : Entry). 0 < length x) is some in
    put_some name entry version some ∙ same_put name entry version v.rising (owns_some name version owned_some ∙ ap (λ (x : Entry). Some x) (sym is))

pub unchanged_gone : (name : Name) (version : Version) → IsVersion version → owned name version ≡ [] → put name [] version ≡ version
unchanged_gone name version v none = same_gone name version (owns_none name version v.items none)

-- ---- what changes something

pub put_changes : (name : Name) (entry : Entry) (version : Version) → 0 < length entry → (entry ≡ owned name version → ⊥) → put name entry version ≡ version → ⊥
put_changes name entry version some differs same =
    differs (sym (ap (owned name) (sym same ∙ put_some name entry version some) ∙ owned_put name entry version))

gone_none : (name : Name) (version : Version) → IsStrictlySortedBy name_cmp (keys_of version) → entry_of name (remove_entry (is_at (name_cmp name)) version) ≡ None
unfolding IsStrictlySortedBy
gone_none name [] rising = refl
gone_none name (pair ∷ rest) rising =
    by_name name pair.0
    (λ l. ap (λ (v : Version). entry_of name v) (not_here pair rest (ap is_eq l)) ∙ ap (λ (b : Bool). cond b (Some pair.1) (entry_of name (remove_entry (is_at (name_cmp name)) rest))) (ap is_eq l) ∙ gone_none name rest rising.1)
    (λ same. ap (entry_of name) (gone_here name pair rest same) ∙ none_below name rest (subst (λ (n : Name). AllByRecursion (λ y. name_cmp n y ≡ order.Less) (keys_of rest)) (sym same) rising.0))
    (λ l. ap (entry_of name) (gone_later name pair rest l) ∙ past_name name pair (remove_entry (is_at (name_cmp name)) rest) l ∙ gone_none name rest rising.1)
  where
    not_here : (pair : Name × Entry) (rest : Version) → is_eq (name_cmp name pair.0) ≡ false → remove_entry (is_at (name_cmp name)) (pair ∷ rest) ≡ pair ∷ remove_entry (is_at (name_cmp name)) rest
    not_here pair rest e = ap (λ (b : Bool). cond b rest (pair ∷ remove_entry (is_at (name_cmp name)) rest)) e

pub gone_changes : (name : Name) (version : Version) → IsVersion version → 0 < length (owned name version) → put name [] version ≡ version → ⊥
gone_changes name version v some same =
    let none : owned name version ≡ [] = ap (λ (o : Option Entry). unwrap_or o []) (ap (entry_of name) (sym same) ∙ gone_none name version v.rising) in
    let zero : length (owned name version) ≡ 0 = ap (λ (l : Entry). length l) none in
    omega (arith, zero, some)

-- ---- the trie's entry of a name

abbrev pub record_of : List ℕ → List ℕ → trie.Entry
record_of key bytes = record { key = key; item = bytes }

pub storable : (name : Name) (bytes : List ℕ) (entry : Entry) → IsItem bytes name entry → IsStorable (name, entry)
storable name bytes entry is = subst (λ (x : List ℕ). IsItem x name entry) is.octets is

pub same_entry : (name : Name) (key bytes : List ℕ) (entry : Entry) → key ≡ key_of name → IsItem bytes name entry → record_of key bytes ≡ trie_entry (name, entry)
same_entry name key bytes entry k is = ap (λ (x : List ℕ). record_of x bytes) k ∙ ap (record_of (key_of name)) is.octets

pub nobody : (name : Name) (key : List ℕ) (version : Version) → IsName name → IsVersion version → [] ≡ owned name version → key ≡ key_of name → (x : trie.Entry) × trie.InList x (trie_entries version) × (x.key ≡ key) → ⊥
nobody name key version is v none k x =
    let some = owned_there name version x.0 is v x.1 (x.2 ∙ k) in
    let zero : 0 ≡ length (owned name version) = ap (λ (l : Entry). length l) none in
    omega (arith, zero, some)

pub somebody : (name : Name) (key : List ℕ) (version : Version) (entry : Entry) → 0 < length entry → entry ≡ owned name version → key ≡ key_of name → ((x : trie.Entry) → trie.InList x (trie_entries version) → x.key ≡ key → ⊥) → ⊥
somebody name key version entry some is k never =
    let none = nothing_owned name version (λ x. never x.0 x.1 (x.2 ∙ sym k)) in
    let zero : length entry ≡ 0 = ap (λ (l : Entry). length l) (is ∙ sym none) in
    omega (arith, zero, some)

-- two entries of a name with one item are one
pub one_entry : (name : Name) (a b : List ℕ) (e f : Entry) → IsItem a name e → IsItem b name f → a ≡ b → e ≡ f
one_entry name a b e f h k same = let one = item_once b name name e f (subst (λ (x : List ℕ). IsItem x name e) same h) k in one.1

pub nothing_some : (entry : Entry) → 0 < length entry → entry ≡ [] → ⊥
nothing_some entry some none = let zero : length entry ≡ 0 = ap (λ (l : Entry). length l) none in omega (arith, zero, some)

-- an item that is written is the one that its name then owns
pub written_few : (name : Name) (bytes : List ℕ) (entry : Entry) (version : Version) → IsItem bytes name entry → 3 + cells_in bytes ≤ 3 + item_cells name (put name entry version)
written_few name bytes entry version is =
    let owns : owned name (put name entry version) ≡ entry = ap (owned name) (put_some name entry version is.some) ∙ owned_put name entry version in
    subst (λ (n : ℕ). 3 + cells_in bytes ≤ 3 + n) (ap cells_in (is.octets ∙ ap (item name) (sym owns))) (omega arith)

-- ---- what octets say

-- those of a name that owns something are its item
pub said_item : (name : Name) (octets : List ℕ) (entry : Entry) → SaysEntry name octets entry → (entry ≡ [] → ⊥) → IsItem octets name entry
said_item name [] entry h some = absurd (some h)
said_item name (b ∷ octets) entry h some = h
