-- What was read of a name is what it owns.
use Rattle.std.proofs.Common.{◌≡◌, ◌∙◌, ℕ, zero, suc, ◌-◌, Bool, true, false, cond, eqb, ◌||◌, List, [], ◌∷◌, length, take, drop, map, inl, inr, Option, Some, None, refl, sym, ap, subst, arith, length-append, length-take}
use Rattle.std.proofs.lemmas.List.{drop_at}
use borrow.Author.Tests.{eqb-true}
use Rattle.std.specs.List.{find, list_any}
use Rattle.std.specs.Option.{option_map}
use Rattle.packed_node.specs.declared.Leaf.{Leaf}
use Rattle.zone_model.specs.Names.{Name, IsName, ancestor, is_under, wire}
use Rattle.zone_model.specs.Keys.{key_of}
use Rattle.zone_model.specs.Records.{IsItem}
use Rattle.zone_model.specs.Versions.{Version, owned}
use Rattle.zone_model.proofs.OrderLemmas.{under_ends}
use Rattle.rr_data.proofs.ItemViewLemmas.{item_says}
use Rattle.trie_model.specs.Keys as trie
use Rattle.trie_model.specs.Order.{begins, chain, labels_in, IsThere}
use Rattle.trie_model.proofs.AboveLaws.{begins_under}
use Rattle.trie_model.proofs.NameLaws.{labels_of}
use Rattle.trie_read.specs.Above.{AreAncestors}
use Rattle.trie_read.specs.Readings.{Fetched}
use Rattle.trie_read.specs.declared.ancestors.Ancestor.{Ancestor}
use Rattle.zone_answer.specs.Parts.{IsRead, IsHeld}
use Rattle.zone_answer.specs.Standing.{IsVersion, trie_entry}
use Rattle.zone_answer.specs.declared.records.Held.{Held}
use Rattle.zone_answer.proofs.ChainLaws.{there_exists}
use Rattle.zone_answer.proofs.OwnedLaws.{kept, item_under, nothing_owned}

-- ---- one name

-- the item under its key was read
pub read_of : (name : Name) (version : Version) (e : trie.Entry) (octets : List ℕ) (len : ℕ) → IsName name → IsVersion version → trie.InList e (map trie_entry version) → e.key ≡ key_of name → len ≡ length e.item → take len octets ≡ e.item → IsRead name version octets len
read_of name version e octets len is v i key l t =
    let item = item_under name version e is v i key in
    let size : length (take len octets) ≡ len = ap (λ (b : List ℕ). length b) t ∙ sym l in
    record {
      within = omega (arith, size, length-take len octets);
      says = item_says name (take len octets) (owned name version) (subst (λ (b : List ℕ). IsItem b name (owned name version)) (sym t) item);
      there = λ some. there_exists name version is v.items (e, i, key);
    }

-- there is none
pub read_nothing : (name : Name) (version : Version) (octets : List ℕ) → (IsThere (key_of name) (map trie_entry version) → ⊥) → IsRead name version octets 0
read_nothing name version octets never = record { within = omega arith; says = sym (nothing_owned name version never); there = λ some. absurd (omega arith) }

pub fetched : (name : Name) (version : Version) (key old new : List ℕ) (len : ℕ) → IsName name → IsVersion version → key ≡ key_of name → Fetched key (map trie_entry version) old new (Some len) → IsRead name version new len
fetched name version key old new len is v k f = read_of name version f.0 new len is v f.1 (f.2 ∙ k) f.3 f.4

pub not_fetched : (name : Name) (version : Version) (key old new : List ℕ) → key ≡ key_of name → Fetched key (map trie_entry version) old new None → IsRead name version new 0
not_fetched name version key old new k f = read_nothing name version new (subst (λ (x : List ℕ). IsThere x (map trie_entry version) → ⊥) k f.0)

-- as it is held
pub held_of : (held : Held) (version : Version) (octets : List ℕ) → IsRead held.name version octets held.len → IsHeld octets held (owned held.name version)
held_of held version octets r = record { within = r.within; says = r.says }

-- ---- a name above

-- the leaf of the first ancestor of so many labels
abbrev pub Sought : (Leaf → trie.Entry → Type 0) → ℕ → List trie.Entry → Option Leaf → Type 0
Sought lies labels es None = list_any (λ n. eqb n labels) (map (λ (e : trie.Entry). labels_in e.key) es) ≡ false
Sought lies labels es (Some leaf) = (e : trie.Entry) × trie.InList e es × lies leaf e × (labels_in e.key ≡ labels)

abbrev leaf_with : ℕ → List Ancestor → Option Leaf
leaf_with labels above = option_map (λ (a : Ancestor). a.leaf) (find (λ (a : Ancestor). eqb a.labels labels) above)

sought_later : (lies : Leaf → trie.Entry → Type 0) (labels : ℕ) (e : trie.Entry) (es : List trie.Entry) (o : Option Leaf) → eqb (labels_in e.key) labels ≡ false → Sought lies labels es o → Sought lies labels (e ∷ es) o
sought_later lies labels e es None t h = ap (λ (b : Bool). b || list_any (λ n. eqb n labels) (map (λ (x : trie.Entry). labels_in x.key) es)) t ∙ h
sought_later lies labels e es (Some leaf) t h = (h.0, inr h.1, h.2, h.3)

pub sought : (lies : Leaf → trie.Entry → Type 0) (labels : ℕ) (es : List trie.Entry) (above : List Ancestor) → AreAncestors lies es above → Sought lies labels es (leaf_with labels above)
sought lies labels [] [] h = refl
sought lies labels [] (a ∷ above) h = absurd h
sought lies labels (e ∷ es) [] h = absurd h
sought lies labels (e ∷ es) (a ∷ above) h = by_test (eqb a.labels labels) refl (sought lies labels es above h.2)
  where
    by_test : (b : Bool) → eqb a.labels labels ≡ b → Sought lies labels es (leaf_with labels above) → Sought lies labels (e ∷ es) (leaf_with labels (a ∷ above))
    by_test true t rest =
        subst (λ (b : Bool). Sought lies labels (e ∷ es) (option_map (λ (x : Ancestor). x.leaf) (cond b (Some a) (find (λ (x : Ancestor). eqb x.labels labels) above)))) (sym t)
        (e, inl refl, h.0, sym h.1 ∙ eqb-true a.labels labels t)
    by_test false t rest =
        subst (λ (b : Bool). Sought lies labels (e ∷ es) (option_map (λ (x : Ancestor). x.leaf) (cond b (Some a) (find (λ (x : Ancestor). eqb x.labels labels) above)))) (sym t)
        (sought_later lies labels e es (leaf_with labels above) (ap (λ (n : ℕ). eqb n labels) (sym h.1) ∙ t) rest)

in_chain : (key : List ℕ) (all : List trie.Entry) (e : trie.Entry) → trie.InList e (chain key all) → trie.InList e all × (begins e.key key ≡ true)
in_chain key [] e i = absurd i
in_chain key (x ∷ all) e i = by_test (begins x.key key) refl (in_chain key all e) i
  where
    by_test : (b : Bool) → begins x.key key ≡ b → (trie.InList e (chain key all) → trie.InList e all × (begins e.key key ≡ true)) → trie.InList e (cond b (x ∷ chain key all) (chain key all)) → trie.InList e (x ∷ all) × (begins e.key key ≡ true)
    by_test true t rest (inl s) = (inl s, ap (λ (y : trie.Entry). begins y.key key) s ∙ t)
    by_test true t rest (inr r) = let h = rest r in (inr h.0, h.1)
    by_test false t rest r = let h = rest r in (inr h.0, h.1)

ancestor_at : (name top : Name) (n : ℕ) → is_under name top ≡ true → length top ≡ n → top ≡ ancestor n name
ancestor_at name top n u l =
    let e = under_ends name top u in
    let size = ap (λ (x : Name). length x) e.1 in
    let parts = length-append e.0 top in
    sym (ap (drop (length name - n)) e.1 ∙ drop_at e.0 top (length name - n) (omega arith))

name_drop : (k : ℕ) (name : Name) → IsName name → IsName (drop k name)
name_drop zero name is = is
name_drop (suc k) [] is = is
name_drop (suc k) (label ∷ labels) is =
    let parts = length-append label (wire labels) in
    let short = is.short in
    name_drop k labels (record { each = is.each.1; short = omega arith })

pub ancestor_name : (n : ℕ) (name : Name) → IsName name → IsName (ancestor n name)
ancestor_name n name is = name_drop (length name - n) name is

-- the name above of so many labels, by the entry that was sought
pub ancestor_key : (name : Name) (version : Version) (labels : ℕ) (e : trie.Entry) → IsName name → IsVersion version → trie.InList e (chain (key_of name) (map trie_entry version)) → labels_in e.key ≡ labels → trie.InList e (map trie_entry version) × (e.key ≡ key_of (ancestor labels name))
ancestor_key name version labels e is v i l =
    let c = in_chain (key_of name) (map trie_entry version) e i in
    let k = kept e version v.items c.0 in
    let key : e.key ≡ key_of k.pair.0 = ap (λ (x : trie.Entry). x.key) k.is in
    let under = begins_under k.pair.0 name k.storable.name.each is.each (subst (λ (x : List ℕ). begins x (key_of name) ≡ true) key c.1) in
    let size : length k.pair.0 ≡ labels = sym (labels_of k.pair.0 k.storable.name.each) ∙ ap labels_in (sym key) ∙ l in
    (c.0, key ∙ ap key_of (ancestor_at name k.pair.0 labels under size))

-- the name of so many labels at or above a name, by what was read of the leaf that was sought
pub read_above : (lies : Leaf → trie.Entry → Type 0) (name : Name) (version : Version) (labels : ℕ) (leaf : Leaf) (octets : List ℕ) (len : ℕ) → IsName name → IsVersion version → Sought lies labels (chain (key_of name) (map trie_entry version)) (Some leaf) →
    ((e : trie.Entry) → lies leaf e → (len ≡ length e.item) × (take len octets ≡ e.item)) → IsRead (ancestor labels name) version octets len
read_above lies name version labels leaf octets len is v s read =
    let k = ancestor_key name version labels s.0 is v s.1 s.3 in
    let r = read s.0 s.2 in
    read_of (ancestor labels name) version s.0 octets len (ancestor_name labels name is) v k.0 k.1 r.0 r.1
