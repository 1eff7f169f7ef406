-- Which names at or above a name exist, by the place at which its key parts from those of all names.
use Rattle.std.proofs.Common.{◌≡◌, ◌∙◌, ℕ, ◌<◌, ◌≤◌, Bool, true, false, ◌||◌, List, [], ◌∷◌, length, take, map, inl, inr, Some, None, refl, sym, ap, subst, arith, length-take, get_or-take}
use Rattle.std.proofs.lemmas.Bool.{cases_lt}
use Rattle.std.specs.List.{AllByRecursion}
use Rattle.packed_node.specs.declared.Leaf.{Leaf}
use Rattle.zone_model.specs.Names.{Name, IsName, ancestor, is_under}
use Rattle.zone_model.specs.Keys.{key_of}
use Rattle.zone_model.specs.Versions.{Version, exists, owned}
use Rattle.trie_model.specs.Keys as trie
use Rattle.trie_model.specs.Order.{begins, chain, labels_in}
use Rattle.trie_model.proofs.AboveLaws.{under_begins, begins_under}
use Rattle.trie_model.proofs.ChainLaws.{not_so, begins_same, begins_short, begins_reads, read_inside, labels_le, labels_longer}
use Rattle.trie_model.proofs.NameLaws.{name_key, labels_of, key_ended}
use Rattle.shift_key.specs.Differences.{IsDifference}
use Rattle.shift_key.specs.declared.difference.Difference.{Difference}
use Rattle.trie_read.specs.Above.{AreAncestors}
use Rattle.trie_read.specs.Readings.{IsNearest}
use Rattle.trie_read.specs.declared.ancestors.Ancestor.{Ancestor}
use Rattle.trie_read.specs.declared.iter.Met.{Met}
use Rattle.zone_answer.specs.Answers.{encloser, wildcard_under, node}
use Rattle.zone_answer.specs.Standing.{IsApart, IsStorable, PartsAt, Shows, ShowsAbove, trie_entry}
use Rattle.zone_answer.proofs.AncestorLaws.{length-ancestor, encloser_at, no_encloser}
use Rattle.zone_answer.proofs.ChainLaws.{ancestor_under}
use Rattle.zone_answer.proofs.HeldLaws.{ancestor_name}
use Rattle.zone_answer.proofs.OwnedLaws.{kept, nothing_owned}

-- ---- names whose keys begin that of an entry

begun_exists : (top : Name) (version : Version) (e : trie.Entry) → IsName top → AllByRecursion IsStorable version → trie.InList e (map trie_entry version) → begins (key_of top) e.key ≡ true → exists top version ≡ true
begun_exists top [] e is items i b = absurd i
begun_exists top (pair ∷ version) e is items i b = elim i [
  | inl s ↦ (
      let begun : begins (key_of top) (key_of pair.0) ≡ true = subst (λ (y : trie.Entry). begins (key_of top) y.key ≡ true) s b in
      ap (λ (t : Bool). t || exists top version) (begins_under top pair.0 is.each items.0.name.each begun)
      )
  | inr r ↦ ap (λ (t : Bool). is_under pair.0 top || t) (begun_exists top version e is items.1 r b) ∙ or_true (is_under pair.0 top)
]
  where
    or_true : (b : Bool) → (b || true) ≡ true
    or_true true = refl
    or_true false = refl

none_begun : (top : Name) (version : Version) → ((e : trie.Entry) → trie.InList e (map trie_entry version) → begins (key_of top) e.key ≡ true → ⊥) → exists top version ≡ false
none_begun top [] never = refl
none_begun top (pair ∷ version) never =
    ap (λ (t : Bool). t || exists top version) (not_so (is_under pair.0 top) (λ u. never (trie_entry pair) (inl refl) (under_begins top pair.0 u)))
    ∙ none_begun top version (λ e i. never e (inr i))

-- a key that reads as another does to the other's end is as long
as_long : (a b : List ℕ) → trie.IsKey a → trie.IsKey b → ((i : ℕ) → i < length a → trie.at a i ≡ trie.at b i) → length a ≤ length b
as_long a b ka kb same = elim (cases_lt (length b) (length a)) [ inl l ↦ absurd (short l) | inr g ↦ g ]
  where
    past : trie.at b (length b) ≡ 0
    past = elim (cases_lt 0 (trie.at b (length b))) [ inl l ↦ absurd (let r = read_inside b (length b) l in omega arith) | inr g ↦ omega arith ]

    short : length b < length a → ⊥
    short l =
        let f = ka.full (length b) l (same (length b) l ∙ past) in
        let s = same f.0 (omega arith) in
        let e = kb.ended f.0 (sym f.1) in
        let p = f.2 in omega arith

shape_of : (name : Name) → IsName name → trie.IsKey (key_of name)
shape_of name is = name_key (key_of name) (name, is, refl)

-- ---- what a search tells

-- where the key of the nearest name first differs from the key
pub parts_at : (lies : Leaf → trie.Entry → Type 0) (key : List ℕ) (all : List trie.Entry) (met : Met) (d : Difference) → met.difference ≡ Some d → IsNearest lies key all met → PartsAt key all d.place
parts_at lies key all met d e n = record { entry = n.entry; there = n.there; same = (subst (IsDifference key n.entry.key) e n.differs).0.before; most = n.most d e }

-- there a name's key parts from those of all names
pub apart_at : {holds : List trie.Entry → Type 0} (stands : List trie.Entry → List trie.Entry → Type 0) (lies : Leaf → trie.Entry → Type 0) (key : List ℕ) (name : Name) (zone : Version) (met : Met) (d : Difference)
    → key ≡ key_of name → met.difference ≡ Some d → IsNearest lies key (map trie_entry zone) met → Shows holds zone → stands [] (map trie_entry zone) → IsApart holds stands name d.place zone
apart_at stands lies key name zone met d k e near shows standing = record {
  on = record { shows = shows; before = []; after = map trie_entry zone; whole = refl; standing = standing };
  parts = subst (λ (l : List ℕ). PartsAt l (map trie_entry zone) d.place) k (parts_at lies key (map trie_entry zone) met d e near);
}

-- the leaves that were passed are those of the name and of the names above it
pub above_at : {holds : List trie.Entry → Type 0} (lies : Leaf → trie.Entry → Type 0) (key : List ℕ) (name : Name) (zone : Version) (passed above : List Ancestor)
    → key ≡ key_of name → above ≡ passed → Shows holds zone → AreAncestors lies (chain key (map trie_entry zone)) passed → ShowsAbove holds lies name above zone
above_at lies key name zone passed above k e shows names = record {
  shows = shows;
  above_are = subst (AreAncestors lies (chain (key_of name) (map trie_entry zone))) (sym e) (subst (λ (l : List ℕ). AreAncestors lies (chain l (map trie_entry zone)) passed) k names);
}

-- it doesn't differ
pub found_at : (lies : Leaf → trie.Entry → Type 0) (key : List ℕ) (all : List trie.Entry) (met : Met) → met.difference ≡ None → (n : IsNearest lies key all met) → n.entry.key ≡ key
found_at lies key all met e n = sym (subst (IsDifference key n.entry.key) e n.differs)

-- no name has the key
pub not_there : (name : Name) (version : Version) (place : ℕ) → PartsAt (key_of name) (map trie_entry version) place → [] ≡ owned name version
not_there name version place p = nothing_owned name version (λ t. p.most t.0 t.1 (λ i l. ap (λ (k : List ℕ). trie.at k i) (sym t.2)))

-- there is no name at all
pub none_exists : (name : Name) (version : Version) → map trie_entry version ≡ [] → exists name version ≡ false
none_exists name [] e = refl
none_exists name (pair ∷ version) e = absurd cc

pub none_owned : (name : Name) (version : Version) → map trie_entry version ≡ [] → [] ≡ owned name version
none_owned name [] e = refl
none_owned name (pair ∷ version) e = absurd cc

pub no_node : (name : Name) (version : Version) → map trie_entry version ≡ [] → None ≡ node version name
no_node name [] e = sym (ap (wildcard_under []) (no_encloser name))
no_node name (pair ∷ version) e = absurd cc

-- ---- by the place

-- a name whose key ends by then exists
pub ends_by : (name top : Name) (version : Version) (place : ℕ) → IsName top → AllByRecursion IsStorable version → is_under name top ≡ true → PartsAt (key_of name) (map trie_entry version) place → length (key_of top) ≤ place → exists top version ≡ true
ends_by name top version place is items under p l =
    let begun = under_begins top name under in
    let k = kept p.entry version items p.there in
    let key : p.entry.key ≡ key_of k.pair.0 = ap (λ (e : trie.Entry). e.key) k.is in
    let shape : trie.IsKey p.entry.key = subst trie.IsKey (sym key) (shape_of k.pair.0 k.storable.name) in
    let reads : (i : ℕ) → i < length (key_of top) → trie.at (key_of top) i ≡ trie.at p.entry.key i = λ i j. begins_reads (key_of top) (key_of name) begun i j ∙ p.same i (omega arith) in
    begun_exists top version p.entry is items p.there (begins_same (key_of top) p.entry.key (as_long (key_of top) p.entry.key (shape_of top is) shape reads) reads)

-- one whose key ends behind it doesn't
pub ends_behind : (name top : Name) (version : Version) (place : ℕ) → is_under name top ≡ true → PartsAt (key_of name) (map trie_entry version) place → place < length (key_of top) → exists top version ≡ false
ends_behind name top version place under p l =
    let begun = under_begins top name under in
    none_begun top version (λ e i b. p.most e i (λ j k. sym (begins_reads (key_of top) (key_of name) begun j (omega arith)) ∙ begins_reads (key_of top) e.key b j (omega arith)))

-- ---- how many labels end by then

begins_front : (n : ℕ) (key : List ℕ) → begins (take n key) key ≡ true
begins_front n key = begins_same (take n key) key (let l = length-take n key in omega arith) (λ i l. get_or-take n key i 0 (let m = length-take n key in omega arith))

-- at least as many as a name has whose key does
labels_by : (name top : Name) (place : ℕ) → IsName top → is_under name top ≡ true → length (key_of top) ≤ place → length top ≤ labels_in (take place (key_of name))
labels_by name top place is under l =
    let begun = under_begins top name under in
    let size = length-take place (key_of name) in
    let short = begins_short (key_of top) (key_of name) begun in
    let whole : length (key_of top) ≤ length (take place (key_of name)) = omega arith in
    let front = begins_same (key_of top) (take place (key_of name)) whole (λ i j. begins_reads (key_of top) (key_of name) begun i j ∙ sym (get_or-take place (key_of name) i 0 (omega arith))) in
    let fewer = labels_le (key_of top) (take place (key_of name)) front in
    let labels = labels_of top is.each in omega arith

-- fewer than one has whose key doesn't
labels_behind : (name top : Name) (place : ℕ) → IsName top → is_under name top ≡ true → place < length (key_of top) → labels_in (take place (key_of name)) < length top
labels_behind name top place is under l =
    let size = length-take place (key_of name) in
    let longer : length (take place (key_of name)) < length (key_of top) = omega arith in
    let fewer = labels_longer (take place (key_of name)) (key_of top) (key_of name) (key_ended top is.each) (begins_front place (key_of name)) (under_begins top name under) longer in
    let labels = labels_of top is.each in omega arith

-- no more than the name has
pub labels_within : (name : Name) (place : ℕ) → IsName name → labels_in (take place (key_of name)) ≤ length name
labels_within name place is = let fewer = labels_le (take place (key_of name)) (key_of name) (begins_front place (key_of name)) in let labels = labels_of name is.each in omega arith

-- as many as the closest encloser has
pub encloser_by : (name : Name) (version : Version) (place : ℕ) → IsName name → AllByRecursion IsStorable version → PartsAt (key_of name) (map trie_entry version) place → encloser version name ≡ Some (ancestor (labels_in (take place (key_of name))) name)
encloser_by name version place is items p = with_labels (labels_in (take place (key_of name))) refl
  where
    with_labels : (n : ℕ) → labels_in (take place (key_of name)) ≡ n → encloser version name ≡ Some (ancestor n name)
    with_labels n e =
        let within = labels_within name place is in
        let few : n ≤ length name = omega arith in
        let here : exists (ancestor n name) version ≡ true = elim (cases_lt place (length (key_of (ancestor n name)))) [
          | inl l ↦ absurd (let fewer = labels_behind name (ancestor n name) place (ancestor_name n name is) (ancestor_under n name) l in let labels = length-ancestor n name few in omega arith)
          | inr g ↦ ends_by name (ancestor n name) version place (ancestor_name n name is) items (ancestor_under n name) p g
        ] in
        encloser_at version name n few here (λ k more l. elim (cases_lt place (length (key_of (ancestor k name)))) [
          | inl b ↦ ends_behind name (ancestor k name) version place (ancestor_under k name) p b
          | inr g ↦ absurd (let fewer = labels_by name (ancestor k name) place (ancestor_name k name is) (ancestor_under k name) g in let labels = length-ancestor k name l in omega arith)
        ])
