-- What an operation of an index makes of a version's entries is what the version becomes.
use Rattle.std.proofs.Common.{◌≡◌, ◌∙◌, ◌<◌, Bool, true, false, cond, List, [], ◌∷◌, ◌++◌, inl, inr, length, Some, unwrap_or, refl, sym, ap, subst, arith}
use Rattle.std.specs.List.{AllByRecursion}
use Rattle.std.specs.List.Sorted.{IsStrictlySortedBy}
use Rattle.std.specs.Map.{keys_of, remove_entry}
use Rattle.std.specs.BTreeMap.{insert_entry, is_at}
use Rattle.std.specs.declared.cmp.Ordering.TheVariants as order
use Rattle.std.specs.Ordering.{is_eq}
use Rattle.zone_model.specs.Names.{Name, IsName, name_cmp}
use Rattle.zone_model.specs.Keys.{key_of}
use Rattle.zone_model.specs.Records.{Entry}
use Rattle.zone_model.specs.Versions.{Version, entry_of, owned}
use Rattle.zone_model.proofs.NameLemmas.{same_name-true}
use Rattle.zone_model.proofs.KeyLaws.{key_cmp-key_of}
use Rattle.trie_model.specs.Keys as trie
use Rattle.trie_model.specs.Keys.{InList, Less, Rises}
use Rattle.trie_model.specs.Changes.{Inserted}
use Rattle.trie_model.proofs.AboveLaws.{cmp_before}
use Rattle.trie_write.specs.Exchanges.{Exchanged}
use Rattle.trie_write.specs.Deletions.{Deleted}
use Rattle.zone_answer.specs.Standing.{IsStorable, IsVersion, trie_entry}
use Rattle.job_model.specs.Sizes.{trie_entries}
use Rattle.qp_multi.specs.Operations.{with_entry, without}
use Rattle.qp_multi.proofs.OperationLaws as sets
use Rattle.zone_edit.proofs.VersionLaws.{by_name, after_all, inserted_is, exchanged_is, deleted_is}

abbrev Entries : Type 0
Entries = List trie.Entry

name_less : (a b : Name) → IsName a → IsName b → name_cmp a b ≡ order.Less → Less (key_of a) (key_of b)
name_less a b ia ib l = cmp_before (key_of a) (key_of b) (key_cmp-key_of a b ia.each ib.each ∙ l)

-- ---- the entries of a version rise

all_above : (name : Name) (version : Version) → IsName name → AllByRecursion (λ y. name_cmp name y ≡ order.Less) (keys_of version) → AllByRecursion IsStorable version → (x : trie.Entry) → InList x (trie_entries version) → Less (key_of name) x.key
all_above name [] is above items x i = absurd i
all_above name (pair ∷ rest) is above items x i = elim i [
  | inl s ↦ subst (λ (y : trie.Entry). Less (key_of name) y.key) (sym s) (name_less name pair.0 is items.0.name above.0)
  | inr r ↦ all_above name rest is above.1 items.1 x r
]

pub entries_rise : (version : Version) → IsStrictlySortedBy name_cmp (keys_of version) → AllByRecursion IsStorable version → Rises (trie_entries version)
unfolding IsStrictlySortedBy
entries_rise [] rising items = tt
entries_rise (pair ∷ rest) rising items = (all_above pair.0 rest items.0.name rising.0 items.1, entries_rise rest rising.1 items.1)

-- ---- a name that isn't there parts them

record Parting (name : Name) (version : Version) : Type 0 where
  before : Entries
  after : Entries
  whole : trie_entries version ≡ before ++ after
  lower : (x : trie.Entry) → InList x before → Less x.key (key_of name)
  upper : (x : trie.Entry) → InList x after → Less (key_of name) x.key

parting : (name : Name) (version : Version) → IsName name → IsStrictlySortedBy name_cmp (keys_of version) → AllByRecursion IsStorable version → ((x : trie.Entry) → InList x (trie_entries version) → x.key ≡ key_of name → ⊥) → Parting name version
unfolding IsStrictlySortedBy
parting name [] is rising items none = record { before = []; after = []; whole = refl; lower = λ x i. absurd i; upper = λ x i. absurd i }
parting name (pair ∷ rest) is rising items none =
    by_name name pair.0
    (λ l. record {
      before = [];
      after = trie_entries (pair ∷ rest);
      whole = refl;
      lower = λ x i. absurd i;
      upper = all_above name (pair ∷ rest) is (l, after_all name pair.0 (keys_of rest) l rising.0) items;
    })
    (λ same. absurd (none (trie_entry pair) (inl refl) (ap key_of (sym same))))
    (λ l. later l (parting name rest is rising.1 items.1 (λ x i. none x (inr i))))
  where
    later : name_cmp pair.0 name ≡ order.Less → Parting name rest → Parting name (pair ∷ rest)
    later l p = record {
      before = trie_entry pair ∷ p.before;
      after = p.after;
      whole = ap (λ (xs : Entries). trie_entry pair ∷ xs) p.whole;
      lower = λ x i. elim i [
        | inl s ↦ subst (λ (y : trie.Entry). Less y.key (key_of name)) (sym s) (name_less pair.0 name items.0.name is l)
        | inr r ↦ p.lower x r
      ];
      upper = p.upper;
    }

pub inserted : (name : Name) (entry : Entry) (version : Version) → IsName name → IsVersion version → ((x : trie.Entry) → InList x (trie_entries version) → x.key ≡ key_of name → ⊥)
    → with_entry (trie_entries version) (trie_entry (name, entry)) ≡ trie_entries (insert_entry name_cmp version name entry)
inserted name entry version is v none =
    let p = parting name version is v.rising v.items none in
    let made : Inserted (trie_entry (name, entry)) (trie_entries version) (p.before ++ (trie_entry (name, entry) ∷ p.after)) =
    record { before = p.before; after = p.after; old_is = p.whole; new_is = refl; lower = p.lower; upper = p.upper } in
    sym (sets.inserted_is (trie_entry (name, entry)) (trie_entries version) (p.before ++ (trie_entry (name, entry) ∷ p.after)) made)
    ∙ inserted_is name entry version (p.before ++ (trie_entry (name, entry) ∷ p.after)) is v made

-- ---- a name that is there

record Around (x : trie.Entry) (es : Entries) : Type 0 where
  before : Entries
  after : Entries
  whole : es ≡ before ++ (x ∷ after)

around : (x : trie.Entry) (es : Entries) → InList x es → Around x es
around x [] i = absurd i
around x (y ∷ es) i = elim i [
  | inl s ↦ record { before = []; after = es; whole = ap (λ (z : trie.Entry). z ∷ es) (sym s) }
  | inr r ↦ further (around x es r)
]
  where
    further : Around x es → Around x (y ∷ es)
    further a = record { before = y ∷ a.before; after = a.after; whole = ap (λ (xs : Entries). y ∷ xs) a.whole }

-- what has a name's key
abbrev pub IsOwner : Name → Version → Type 0
IsOwner name version = (x : trie.Entry) × InList x (trie_entries version) × (x.key ≡ key_of name)

pub owner_in : (name : Name) (version : Version) → 0 < length (owned name version) → IsOwner name version
owner_in name [] some = absurd (omega arith)
owner_in name (pair ∷ rest) some = by_test (λ h. owner_in name rest h) (is_eq (name_cmp name pair.0)) refl some
  where
    by_test : (0 < length (owned name rest) → IsOwner name rest) → (b : Bool) → is_eq (name_cmp name pair.0) ≡ b → 0 < length (unwrap_or (cond b (Some pair.1) (entry_of name rest)) []) → IsOwner name (pair ∷ rest)
    by_test further true t h = (trie_entry pair, inl refl, ap key_of (sym (same_name-true name pair.0 t)))
    by_test further false t h = let x = further h in (x.0, inr x.1, x.2)

pub exchanged : (name : Name) (entry : Entry) (version : Version) → IsName name → IsVersion version → IsOwner name version
    → with_entry (trie_entries version) (trie_entry (name, entry)) ≡ trie_entries (insert_entry name_cmp version name entry)
exchanged name entry version is v x =
    let a = around x.0 (trie_entries version) x.1 in
    let made : Exchanged (trie_entry (name, entry)) (trie_entries version) (a.before ++ (trie_entry (name, entry) ∷ a.after)) =
    record { before = a.before; gone = x.0; after = a.after; old_is = a.whole; new_is = refl; same_key = x.2 } in
    sym (sets.exchanged_is (trie_entry (name, entry)) (trie_entries version) (a.before ++ (trie_entry (name, entry) ∷ a.after)) (entries_rise version v.rising v.items) made)
    ∙ exchanged_is name entry version (a.before ++ (trie_entry (name, entry) ∷ a.after)) is v made

pub deleted : (name : Name) (version : Version) → IsName name → IsVersion version → IsOwner name version → without (trie_entries version) (key_of name) ≡ trie_entries (remove_entry (is_at (name_cmp name)) version)
deleted name version is v x =
    let a = around x.0 (trie_entries version) x.1 in
    let made : Deleted (key_of name) (trie_entries version) (a.before ++ a.after) =
    record { gone = x.0; removed = record { before = a.before; after = a.after; old_is = a.whole; new_is = refl }; same_key = x.2 } in
    sym (sets.deleted_is (key_of name) (trie_entries version) (a.before ++ a.after) (entries_rise version v.rising v.items) made)
    ∙ deleted_is name version (a.before ++ a.after) is v made
