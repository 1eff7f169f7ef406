-- Records whose data are names alone name nobody twice.
use Rattle.std.proofs.Common.{◌≡◌, ◌∙◌, ℕ, zero, suc, eqb, Bool, true, false, cond, not, List, [], ◌∷◌, ◌++◌, length, filter, filter_map, flat_map, Option, Some, None, option_and_then, refl, sym, ap, subst, append_assoc, append-nil, unwrap_or, eqb-true}
use Rattle.std.proofs.lemmas.Cmp.{nat_list_cmp_total}
use Rattle.std.specs.List.{AllByRecursion, IsDistinct, cons_option}
use Rattle.std.specs.BTreeMap.{is_at}
use Rattle.std.specs.Option.{option_map}
use Rattle.std.specs.declared.cmp.Ordering.TheVariants.{Less, Greater}
use Rattle.std.specs.Ordering.{ordering_reverse}
use Rattle.zone_model.specs.Names.{Name, name_cmp, same_name, star_under, wire}
use Rattle.zone_model.specs.Records.{Rrset, Entry, IsEntry, IsRrset, RisingOctets, RisingSets, octets_cmp, rrset_of}
use Rattle.zone_model.specs.Rows.{rows_of}
use Rattle.zone_model.specs.Splits.{is_label_of, split_labels, split_name, split_octets, under_label}
use Rattle.zone_model.specs.Versions.{Version, entry_of, exists, owned}
use Rattle.zone_model.proofs.NameLemmas.{same_name-true}
use Rattle.zone_model.proofs.SplitLemmas.{and_some, cond_some, map_some, octets_sound}
use Rattle.zone_answer.specs.Answers.{encloser, node, wildcard_under}
use Rattle.zone_answer.specs.Responses.{addresses, addresses_for, name_from, octets_before, once, whole_name}
use Rattle.zone_answer.specs.Standing.{IsStorable, IsVersion}
use Rattle.zone_answer.proofs.AddressLaws.{once_addresses}

-- ---- data that are a name are its wire form

labels_on : ℕ → ℕ → List ℕ × List ℕ → Option (Name × List ℕ)
labels_on n most x = cond (is_label_of n x.0) (option_map (under_label x.0) (split_labels most x.1)) None

label_spelled : (n most : ℕ) (bytes : List ℕ) (x : Name × List ℕ) → ((behind : List ℕ) (y : Name × List ℕ) → split_labels most behind ≡ Some y → behind ≡ wire y.0 ++ y.1)
    → option_and_then (labels_on n most) (split_octets n bytes) ≡ Some x → n ∷ bytes ≡ wire x.0 ++ x.1
unfolding labels_on
label_spelled n most bytes x rest h =
    let a = and_some (labels_on n most) (split_octets n bytes) x h in
    let o = octets_sound n bytes a.0 a.1 in
    let c = cond_some (is_label_of n a.0.0) (option_map (under_label a.0.0) (split_labels most a.0.1)) x a.2 in
    let m = map_some (under_label a.0.0) (split_labels most a.0.1) x c.1 in
    let behind : a.0.1 ≡ wire m.0.0 ++ m.0.1 = rest a.0.1 m.0 m.1 in
    let here : n ∷ bytes ≡ wire (a.0.0 ∷ m.0.0) ++ m.0.1 =
    ap (λ (k : ℕ). k ∷ bytes) (sym o.0) ∙ ap (λ (l : List ℕ). length a.0.0 ∷ l) (o.1 ∙ ap (λ (l : List ℕ). a.0.0 ++ l) behind ∙ sym (append_assoc a.0.0 (wire m.0.0) m.0.1)) in
    subst (λ (y : Name × List ℕ). n ∷ bytes ≡ wire y.0 ++ y.1) m.2 here

by_first : (n : ℕ) (bytes : List ℕ) (x : Name × List ℕ) (other : Option (Name × List ℕ)) → (other ≡ Some x → n ∷ bytes ≡ wire x.0 ++ x.1) → cond (eqb n 0) (Some ([], bytes)) other ≡ Some x → n ∷ bytes ≡ wire x.0 ++ x.1
by_first n bytes x other k h = by_test (eqb n 0) refl h
  where
    by_test : (b : Bool) → eqb n 0 ≡ b → cond b (Some ([], bytes)) other ≡ Some x → n ∷ bytes ≡ wire x.0 ++ x.1
    by_test true e h = let is : ([], bytes) ≡ x = cc in subst (λ (y : Name × List ℕ). n ∷ bytes ≡ wire y.0 ++ y.1) is (ap (λ (k : ℕ). k ∷ bytes) (eqb-true n 0 e))
    by_test false e h = k h

labels_spelled : (most : ℕ) (bytes : List ℕ) (x : Name × List ℕ) → split_labels most bytes ≡ Some x → bytes ≡ wire x.0 ++ x.1
unfolding split_labels labels_on
labels_spelled zero [] x h = absurd cc
labels_spelled (suc most) [] x h = absurd cc
labels_spelled zero (n ∷ rest) x h = by_first n rest x None (λ e. absurd cc) h
labels_spelled (suc most) (n ∷ rest) x h = by_first n rest x (option_and_then (labels_on n most) (split_octets n rest)) (label_spelled n most rest x (labels_spelled most)) h

name_spelled : (bytes : List ℕ) (x : Name × List ℕ) → split_name bytes ≡ Some x → bytes ≡ wire x.0 ++ x.1
name_spelled bytes x h =
    let a = and_some _ (split_labels 127 bytes) x h in
    let c = cond_some _ (Some a.0) x a.2 in
    let e : a.0 ≡ x = cc in
    subst (λ (y : Name × List ℕ). bytes ≡ wire y.0 ++ y.1) e (labels_spelled 127 bytes a.0 a.1)

alone : (octets : List ℕ) (name : Name) → name_from 0 octets ≡ Some name → octets ≡ wire name
alone octets name h = by_split (split_name octets) refl h
  where
    by_split : (o : Option (Name × List ℕ)) → split_name octets ≡ o → whole_name o ≡ Some name → octets ≡ wire name
    by_split None e h = absurd cc
    by_split (Some (n, [])) e h = let same : n ≡ name = cc in name_spelled octets (n, []) e ∙ append-nil (wire n) ∙ ap wire same
    by_split (Some (n, c ∷ more)) e h = absurd cc

-- ---- other data, other names

apart : (a b : List ℕ) (n m : Name) → octets_cmp a b ≡ Less → name_from 0 a ≡ Some n → name_from 0 b ≡ Some m → same_name n m ≡ false
apart a b n m less x y = by_test (same_name n m) refl
  where
    never : a ≡ b → same_name n m ≡ false
    never same =
        let here : octets_cmp a a ≡ Less = ap (octets_cmp a) same ∙ less in
        let turned : Less ≡ Greater = sym here ∙ nat_list_cmp_total.antisymm a a ∙ ap ordering_reverse here in
        absurd cc

    by_test : (t : Bool) → same_name n m ≡ t → same_name n m ≡ false
    by_test true e = never (alone a n x ∙ ap wire (same_name-true n m e) ∙ sym (alone b m y))
    by_test false e = e

rising_above : (a r : List ℕ) (records : List (List ℕ)) → RisingOctets (Some a) (r ∷ records) → RisingOctets (Some a) records
rising_above a r [] h = tt
rising_above a r (s ∷ records) h = (nat_list_cmp_total.trans a r s h.0 h.2.0, h.2.1, h.2.2)

others_apart : (a : List ℕ) (n : Name) (records : List (List ℕ)) → name_from 0 a ≡ Some n → RisingOctets (Some a) records → AllByRecursion (λ m. same_name n m ≡ false) (filter_map (name_from 0) records)
others_apart a n [] e h = tt
others_apart a n (r ∷ records) e h = by_name (name_from 0 r) refl (others_apart a n records e (rising_above a r records h))
  where
    by_name : (o : Option Name) → name_from 0 r ≡ o → AllByRecursion (λ m. same_name n m ≡ false) (filter_map (name_from 0) records) → AllByRecursion (λ m. same_name n m ≡ false) (cons_option o (filter_map (name_from 0) records))
    by_name None is later = later
    by_name (Some m) is later = (apart a r n m h.0 e is, later)

names_distinct : (before : Option (List ℕ)) (records : List (List ℕ)) → RisingOctets before records → IsDistinct same_name (filter_map (name_from 0) records)
unfolding IsDistinct
names_distinct before [] h = tt
names_distinct before (r ∷ records) h = by_name (name_from 0 r) refl (names_distinct (Some r) records h.2)
  where
    by_name : (o : Option Name) → name_from 0 r ≡ o → IsDistinct same_name (filter_map (name_from 0) records) → IsDistinct same_name (cons_option o (filter_map (name_from 0) records))
    by_name None is later = later
    by_name (Some m) is later = (others_apart r m records is h.2, later)

kept : (name : Name) (xs : List Name) → AllByRecursion (λ m. same_name name m ≡ false) xs → filter (λ m. not (same_name name m)) xs ≡ xs
kept name [] h = refl
kept name (x ∷ xs) h = ap (λ (b : Bool). cond (not b) (x ∷ filter (λ m. not (same_name name m)) xs) (filter (λ m. not (same_name name m)) xs)) h.0 ∙ ap (λ (l : List Name). x ∷ l) (kept name xs h.1)

once_is : (xs : List Name) → IsDistinct same_name xs → once xs ≡ xs
unfolding IsDistinct
once_is [] d = refl
once_is (x ∷ xs) d = ap (λ (l : List Name). x ∷ filter (λ m. not (same_name x m)) l) (once_is xs d.1) ∙ ap (λ (l : List Name). x ∷ l) (kept x xs d.0)

-- of an RRset of such data each name is gone to once, though nobody looks whether it was
pub server_addresses : (origin : Name) (version : Version) (place : ℕ) (owner : Name) (s : Rrset) → octets_before s.rtype ≡ Some place → place ≡ 0 → RisingOctets None s.records
    → flat_map (addresses origin version) (filter_map (name_from place) s.records) ≡ addresses_for origin version (rows_of owner s)
server_addresses origin version place owner s e zeroth rising =
    let once : once (filter_map (name_from place) s.records) ≡ filter_map (name_from place) s.records =
    subst (λ (k : ℕ). once (filter_map (name_from k) s.records) ≡ filter_map (name_from k) s.records) (sym zeroth) (once_is (filter_map (name_from 0) s.records) (names_distinct None s.records rising)) in
    ap (flat_map (addresses origin version)) (sym once) ∙ once_addresses origin version place owner s e

-- ---- the records of a version's RRsets rise

first_is : (before : Option ℕ) (first : Rrset) (rest : Entry) → RisingSets before (first ∷ rest) → IsRrset first × RisingSets (Some first.rtype) rest
first_is None first rest h = (h.0, h.1)
first_is (Some t) first rest h = (h.1, h.2)

set_rises : (before : Option ℕ) (rtype : ℕ) (entry : Entry) (s : Rrset) → RisingSets before entry → rrset_of rtype entry ≡ Some s → RisingOctets None s.records
set_rises before rtype [] s h e = absurd cc
set_rises before rtype (first ∷ rest) s h e = by_test (eqb first.rtype rtype) e (set_rises (Some first.rtype) rtype rest s (first_is before first rest h).1)
  where
    by_test : (b : Bool) → cond b (Some first) (rrset_of rtype rest) ≡ Some s → (rrset_of rtype rest ≡ Some s → RisingOctets None s.records) → RisingOctets None s.records
    by_test true is later = let same : first ≡ s = cc in subst (λ (r : Rrset). RisingOctets None r.records) same (first_is before first rest h).0.rising
    by_test false is later = later is

owned_proper : (name : Name) (version : Version) → AllByRecursion IsStorable version → IsEntry (owned name version)
owned_proper name [] h = tt
owned_proper name (pair ∷ version) h = by_test (is_at (name_cmp name) pair.0) (owned_proper name version h.1)
  where
    by_test : (b : Bool) → IsEntry (owned name version) → IsEntry (unwrap_or (cond b (Some pair.1) (entry_of name version)) [])
    by_test true later = h.0.proper
    by_test false later = later

node_proper : (version : Version) (name : Name) (entry : Entry) → AllByRecursion IsStorable version → node version name ≡ Some entry → IsEntry entry
node_proper version name entry h e = by_test (exists name version) e
  where
    is_owned : (n : Name) → owned n version ≡ entry → IsEntry entry
    is_owned n same = subst IsEntry same (owned_proper n version h)

    by_star : (n : Name) (b : Bool) → cond b (Some (owned (star_under n) version)) None ≡ Some entry → IsEntry entry
    by_star n true is = is_owned (star_under n) cc
    by_star n false is = absurd cc

    by_encloser : (o : Option Name) → wildcard_under version o ≡ Some entry → IsEntry entry
    by_encloser None is = absurd cc
    by_encloser (Some n) is = by_star n (exists (star_under n) version) is

    by_test : (b : Bool) → cond b (Some (owned name version)) (wildcard_under version (encloser version name)) ≡ Some entry → IsEntry entry
    by_test true is = is_owned name cc
    by_test false is = by_encloser (encloser version name) is

pub node_set_rises : (version : Version) (name : Name) (rtype : ℕ) (entry : Entry) (s : Rrset) → IsVersion version → node version name ≡ Some entry → rrset_of rtype entry ≡ Some s → RisingOctets None s.records
node_set_rises version name rtype entry s v n e = set_rises None rtype entry s (node_proper version name entry v.items n) e
