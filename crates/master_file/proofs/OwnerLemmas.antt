-- What is held under sort keys is the version of the definitions.
use Rattle.std.proofs.Common.{◌≡◌, ◌∙◌, ℕ, ◌<◌, ◌≤◌, Bool, true, false, cond, not, ltb, eqb, ◌&&◌, List, [], ◌∷◌, ◌++◌, length, refl, sym, ap, subst, arith, Option, Some, None, Result, Ok, Err, OnOk, unwrap_or, is_some}
use borrow.Author.Tests.{ltb-false}
use Rattle.std.specs.List.{AllByRecursion}
use Rattle.std.specs.List.Sorted.{IsStrictlySortedBy}
use Rattle.std.specs.Map.{lookup, keys_of}
use Rattle.std.specs.BTreeMap.{insert_entry, is_at}
use Rattle.std.specs.declared.cmp.Ordering.{Ordering}
use Rattle.std.specs.declared.cmp.Ordering.TheVariants.{Less, Equal, Greater}
use Rattle.std.specs.Ordering.{nat_cmp, match_ordering, is_eq}
use Rattle.zone_model.specs.Names.{Name, IsName, name_cmp, is_under, same_name}
use Rattle.zone_model.specs.Records.{Entry, item, with_rr, joined, changed_at, rrset_of, item_limit}
use Rattle.zone_model.specs.Versions.{Version, entry_of, is_lone, has_soa}
use Rattle.zone_model.specs.Refusals.{Refused}
use Rattle.zone_model.specs.MasterFile.{soa_count, entry_fault, unless_fault, placed_in, added}
use Rattle.zone_model.specs.declared.ZoneKind.{ZoneKind}
use Rattle.zone_model.specs.declared.ZoneKind.TheVariants.{SoaRule, CnameAndOther, LongEntry, OutsideZone}
use Rattle.zone_model.proofs.NameLemmas.{name_cmp-IsAntisymmetric}
use Rattle.zone_model.proofs.OrderLemmas.{ends_under}
use Rattle.dns_name.specs.declared.sort_key.SortKey.{SortKey}
use Rattle.dns_name.specs.SortKeys.{KeyBelow, key_cmp}
use Rattle.dns_name.proofs.SortKeyLemmas.{key_cmp-name}
use Rattle.zone_text.specs.declared.refusal.ZoneRefusal.{ZoneRefusal}
use Rattle.zone_text.specs.Views.{Gives}
use Rattle.master_file.specs.Owners.{Held, version_of, owned_at, placed_at, CanBeItem, IsHeld, AllHeld}

-- a key, and the name that has it
record IsKey (apex : Name) (key : SortKey) (owner : Name) : Type 0 where
  below : KeyBelow owner apex key
  name : IsName owner

cmp_same : (apex : Name) (key : SortKey) (owner : Name) (e : SortKey × (Name × Entry)) → IsKey apex key owner → IsHeld apex e → key_cmp key e.0 ≡ name_cmp owner e.1.0
cmp_same apex key owner e k h = key_cmp-name key e.0 owner e.1.0 apex k.below h.below k.name h.name

is_eq_Equal : (o : Ordering) → is_eq o ≡ true → o ≡ Equal
is_eq_Equal Less h = absurd cc
is_eq_Equal Equal h = refl
is_eq_Equal Greater h = absurd cc

-- ---- what a key has

owned_same : (apex : Name) (key : SortKey) (owner : Name) (held : Held) → IsKey apex key owner → AllHeld apex held → owned_at key owner held ≡ (owner, unwrap_or (entry_of owner (version_of held)) [])
owned_same apex key owner [] k h = refl
owned_same apex key owner (e ∷ es) k h =
    ap (λ (o : Ordering). unwrap_or (cond (is_eq o) (Some e.1) (lookup (is_at (key_cmp key)) es)) (owner, [])) (cmp_same apex key owner e k h.0)
    ∙ by_order (owned_same apex key owner es k h.1) (name_cmp owner e.1.0) refl
  where
    by_order : owned_at key owner es ≡ (owner, unwrap_or (entry_of owner (version_of es)) []) → (o : Ordering) → name_cmp owner e.1.0 ≡ o → unwrap_or (cond (is_eq o) (Some e.1) (lookup (is_at (key_cmp key)) es)) (owner, []) ≡ (owner, unwrap_or (cond (is_eq o) (Some e.1.1) (entry_of owner (version_of es))) [])
    by_order rest Less x = rest
    by_order rest Equal x = ap (λ (n : Name). (n, e.1.1)) (sym (name_cmp-IsAntisymmetric owner e.1.0 x))
    by_order rest Greater x = rest

-- ---- what is put under it

insert_same : (apex : Name) (key : SortKey) (owner : Name) (entry : Entry) (held : Held) → IsKey apex key owner → AllHeld apex held → version_of (insert_entry key_cmp held key (owner, entry)) ≡ insert_entry name_cmp (version_of held) owner entry
insert_same apex key owner entry [] k h = refl
insert_same apex key owner entry (e ∷ es) k h =
    ap (λ (o : Ordering). version_of (match_ordering o ((key, (owner, entry)) ∷ e ∷ es) ((e.0, (owner, entry)) ∷ es) (e ∷ insert_entry key_cmp es key (owner, entry)))) (cmp_same apex key owner e k h.0)
    ∙ by_order (insert_same apex key owner entry es k h.1) (name_cmp owner e.1.0) refl
  where
    by_order : version_of (insert_entry key_cmp es key (owner, entry)) ≡ insert_entry name_cmp (version_of es) owner entry → (o : Ordering) → name_cmp owner e.1.0 ≡ o
        → version_of (match_ordering o ((key, (owner, entry)) ∷ e ∷ es) ((e.0, (owner, entry)) ∷ es) (e ∷ insert_entry key_cmp es key (owner, entry)))
        ≡ match_ordering o ((owner, entry) ∷ version_of (e ∷ es)) ((e.1.0, entry) ∷ version_of es) (e.1 ∷ insert_entry name_cmp (version_of es) owner entry)
    by_order rest Less x = refl
    by_order rest Equal x = ap (λ (n : Name). (n, entry) ∷ version_of es) (name_cmp-IsAntisymmetric owner e.1.0 x)
    by_order rest Greater x = ap (λ (v : Version). e.1 ∷ v) rest

held_inserted : (apex : Name) (key : SortKey) (owner : Name) (entry : Entry) (held : Held) → IsKey apex key owner → CanBeItem (owner, entry) → AllHeld apex held → AllHeld apex (insert_entry key_cmp held key (owner, entry))
held_inserted apex key owner entry [] k i h = (record { below = k.below; name = k.name; item = i }, tt)
held_inserted apex key owner entry (e ∷ es) k i h = by_order (held_inserted apex key owner entry es k i h.1) (key_cmp key e.0) refl
  where
    by_order : AllHeld apex (insert_entry key_cmp es key (owner, entry)) → (o : Ordering) → key_cmp key e.0 ≡ o → AllHeld apex (match_ordering o ((key, (owner, entry)) ∷ e ∷ es) ((e.0, (owner, entry)) ∷ es) (e ∷ insert_entry key_cmp es key (owner, entry)))
    by_order rest Less x = (record { below = k.below; name = k.name; item = i }, h)
    by_order rest Equal x =
        let same : owner ≡ e.1.0 = name_cmp-IsAntisymmetric owner e.1.0 (sym (cmp_same apex key owner e k h.0) ∙ x) in
        (record { below = subst (λ (n : Name). KeyBelow n apex e.0) (sym same) h.0.below; name = k.name; item = i }, h.1)
    by_order rest Greater x = (h.0, rest)

-- ---- a record joins

some_record : (rtype ttl : ℕ) (octets : List ℕ) (entry : Entry) → 0 < length (with_rr rtype ttl octets entry)
some_record rtype ttl octets [] = omega arith
some_record rtype ttl octets (first ∷ rest) = by_order (nat_cmp rtype first.rtype)
  where
    by_order : (o : Ordering) → 0 < length (match_ordering o (joined rtype ttl octets None ++ (first ∷ rest)) (joined rtype ttl octets (Some first) ++ rest) (first ∷ changed_at rtype (joined rtype ttl octets) rest))
    by_order Less = omega arith
    by_order Equal = omega arith
    by_order Greater = omega arith

faultless : (owner : Name) (entry : Entry) → entry_fault owner entry ≡ None → length (item owner entry) ≤ item_limit
faultless owner entry h = by_tests (ltb 1 (soa_count entry)) (not (is_lone entry)) (ltb item_limit (length (item owner entry))) refl h
  where
    by_tests : (a b c : Bool) → ltb item_limit (length (item owner entry)) ≡ c → cond a (Some SoaRule) (cond b (Some CnameAndOther) (cond c (Some LongEntry) None)) ≡ None → length (item owner entry) ≤ item_limit
    by_tests true b c e k = absurd cc
    by_tests false true c e k = absurd cc
    by_tests false false true e k = absurd cc
    by_tests false false false e k = ltb-false item_limit (length (item owner entry)) e

-- a refusal is the same whatever is refused
refused_same : {A B : Type 0} (x y : Refused ZoneKind) → ◌≡◌ {A = Result A (Refused ZoneKind)} (Err x) (Err y) → ◌≡◌ {A = Result B (Refused ZoneKind)} (Err x) (Err y)
refused_same x y h = let e : x ≡ y = cc in ap (λ (z : Refused ZoneKind). Err z) e

-- what a call made of all that is held, as a version, and what holds of it
pub record Joins (apex : Name) (last : ℕ) (owner : Name) (rtype time : ℕ) (octets : List ℕ) (held : Held) (result : Result (Unit {0}) ZoneRefusal) (new : Held) : Type 0 where
  pub gives : Gives result (version_of new) (placed_in last owner rtype time octets (version_of held))
  pub keeps : OnOk result (AllHeld apex new)

pub joins : (apex : Name) (last : ℕ) (key : SortKey) (owner : Name) (rtype time : ℕ) (octets : List ℕ) (held new : Held) (result : Result (Unit {0}) ZoneRefusal)
    → KeyBelow owner apex key → IsName owner → AllHeld apex held → Gives result new (placed_at last key owner rtype time octets held) → Joins apex last owner rtype time octets held result new
joins apex last key owner rtype time octets held new result below name all gives = by_fault (entry_fault owner entry) refl result (subst (λ w. Gives result new w) placed gives)
  where
    k : IsKey apex key owner
    k = record { below = below; name = name }

    entry : Entry
    entry = with_rr rtype time octets (unwrap_or (entry_of owner (version_of held)) [])

    placed : placed_at last key owner rtype time octets held ≡ unless_fault last (entry_fault owner entry) (insert_entry key_cmp held key (owner, entry))
    placed = ap (λ (o : Name × Entry). unless_fault last (entry_fault o.0 (with_rr rtype time octets o.1)) (insert_entry key_cmp held key (o.0, with_rr rtype time octets o.1))) (owned_same apex key owner held k all)

    by_fault : (f : Option ZoneKind) → entry_fault owner entry ≡ f → (r : Result (Unit {0}) ZoneRefusal) → Gives r new (unless_fault last (entry_fault owner entry) (insert_entry key_cmp held key (owner, entry))) → Joins apex last owner rtype time octets held r new
    by_fault None e (Ok u) g =
        let made : insert_entry key_cmp held key (owner, entry) ≡ new = (let h : Ok (insert_entry key_cmp held key (owner, entry)) ≡ Ok new = sym (ap (λ (x : Option ZoneKind). unless_fault last x (insert_entry key_cmp held key (owner, entry))) e) ∙ g in cc) in
        record {
          gives =
              ap (λ (x : Option ZoneKind). unless_fault last x (insert_entry name_cmp (version_of held) owner entry)) e
              ∙ ap (λ (v : Version). Ok v) (sym (insert_same apex key owner entry held k all) ∙ ap version_of made);
          keeps = subst (AllHeld apex) made (held_inserted apex key owner entry held k (record { some = some_record rtype time octets (unwrap_or (entry_of owner (version_of held)) []); short = faultless owner entry e }) all);
        }
    by_fault None e (Err r) g = record {
      gives = λ told.
          let bad : ◌≡◌ {A = Result Held (Refused ZoneKind)} (Ok (insert_entry key_cmp held key (owner, entry))) (Err (record { line = r.line; kind = r.kind })) = sym (ap (λ (x : Option ZoneKind). unless_fault last x (insert_entry key_cmp held key (owner, entry))) e) ∙ g told in absurd cc;
      keeps = tt;
    }
    by_fault (Some fault) e (Ok u) g =
        let bad : ◌≡◌ {A = Result Held (Refused ZoneKind)} (Err (record { line = last; kind = fault })) (Ok new) = sym (ap (λ (x : Option ZoneKind). unless_fault last x (insert_entry key_cmp held key (owner, entry))) e) ∙ g in absurd cc
    by_fault (Some fault) e (Err r) g = record {
      gives = λ told.
          ap (λ (x : Option ZoneKind). unless_fault last x (insert_entry name_cmp (version_of held) owner entry)) e
          ∙ refused_same (record { line = last; kind = fault }) (record { line = r.line; kind = r.kind }) (sym (ap (λ (x : Option ZoneKind). unless_fault last x (insert_entry key_cmp held key (owner, entry))) e) ∙ g told);
      keeps = tt;
    }

pub under : (owner apex : Name) (key : SortKey) → KeyBelow owner apex key → is_under owner apex ≡ true
under owner apex key b = ap (λ (n : Name). is_under n apex) b.1 ∙ ends_under b.0 apex

-- an SOA below the apex is refused
pub low_refused : (apex : Name) (last : ℕ) (owner : Name) (rtype time : ℕ) (octets : List ℕ) (version : Version) → is_under owner apex ≡ true → (eqb rtype 6 && not (same_name owner apex)) ≡ true
    → added apex last owner rtype time octets version ≡ Err (record { line = last; kind = SoaRule })
unfolding added
low_refused apex last owner rtype time octets version u l =
    ap (λ (b : Bool). cond (not b) (Err (record { line = last; kind = OutsideZone })) (cond (eqb rtype 6 && not (same_name owner apex)) (Err (record { line = last; kind = SoaRule })) (placed_in last owner rtype time octets version))) u
    ∙ ap (λ (b : Bool). cond b (Err (record { line = last; kind = SoaRule })) (placed_in last owner rtype time octets version)) l

-- any other record under it joins its owner's
pub added_placed : (apex : Name) (last : ℕ) (owner : Name) (rtype time : ℕ) (octets : List ℕ) (version : Version) → is_under owner apex ≡ true → (eqb rtype 6 && not (same_name owner apex)) ≡ false
    → added apex last owner rtype time octets version ≡ placed_in last owner rtype time octets version
unfolding added
added_placed apex last owner rtype time octets version u l =
    ap (λ (b : Bool). cond (not b) (Err (record { line = last; kind = OutsideZone })) (cond (eqb rtype 6 && not (same_name owner apex)) (Err (record { line = last; kind = SoaRule })) (placed_in last owner rtype time octets version))) u
    ∙ ap (λ (b : Bool). cond b (Err (record { line = last; kind = SoaRule })) (placed_in last owner rtype time octets version)) l

-- the apex has an SOA where what its key has has one
pub soa_same : (apex : Name) (key : SortKey) (held : Held) (found : Name × Entry) → KeyBelow apex apex key → IsName apex → AllHeld apex held → owned_at key apex held ≡ found → is_some (rrset_of 6 found.1) ≡ has_soa apex (version_of held)
soa_same apex key held found below name all e =
    ap (λ (o : Name × Entry). is_some (rrset_of 6 o.1)) (sym e ∙ owned_same apex key apex held (record { below = below; name = name }) all)

-- ---- names in their order

names_above : (apex : Name) (e : SortKey × (Name × Entry)) (es : Held) → IsHeld apex e → AllHeld apex es → AllByRecursion (λ y. key_cmp e.0 y ≡ Less) (keys_of es) → AllByRecursion (λ y. name_cmp e.1.0 y ≡ Less) (keys_of (version_of es))
names_above apex e [] h all a = tt
names_above apex e (f ∷ es) h all a = (sym (cmp_same apex e.0 e.1.0 f (record { below = h.below; name = h.name }) all.0) ∙ a.0, names_above apex e es h all.1 a.1)

pub names_rise : (apex : Name) (held : Held) → AllHeld apex held → IsStrictlySortedBy key_cmp (keys_of held) → IsStrictlySortedBy name_cmp (keys_of (version_of held))
unfolding IsStrictlySortedBy
names_rise apex [] all s = tt
names_rise apex (e ∷ es) all s = (names_above apex e es all.0 all.1 s.0, names_rise apex es all.1 s.1)

pub all_items : (apex : Name) (held : Held) → AllHeld apex held → AllByRecursion CanBeItem (version_of held)
all_items apex [] h = tt
all_items apex (e ∷ es) h = (h.0.item, all_items apex es h.1)
