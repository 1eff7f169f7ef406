-- The octets of an item say its owner and entry, and only an item's octets say any.
use Rattle.std.proofs.Common.{◌≡◌, ◌∙◌, ℕ, zero, suc, ◌<◌, ◌≤◌, ◌^◌, true, false, cond, leb, eqb, List, [], ◌∷◌, ◌++◌, length, refl, sym, ap, subst, arith, Option, Some, None, option_and_then, length-append, append_assoc}
use Rattle.std.proofs.lemmas.Bool.Decides.{nat_tests}
use Rattle.std.specs.Option.{option_map}
use Rattle.std.specs.List.{flat_map}
use Rattle.std.specs.Int.{w16, w32, to_be_bytes, from_be_bytes}
use Rattle.std.proofs.lemmas.Nat.{from_be_bytes-to_be_bytes_2, be_bytes_2, from_be_bytes-to_be_bytes_4, be_bytes_4}
use Rattle.std.proofs.lemmas.List.{append-nil, nil_from_length}
use borrow.Author.Tests.{leb-true, ltb-true, eqb-true}
use Rattle.std.specs.Ordering.{is_lt}
use Rattle.std.specs.declared.cmp.Ordering.{Ordering}
use Rattle.std.specs.declared.cmp.Ordering.TheVariants.{Less, Equal, Greater}
use Rattle.zone_model.specs.Names.{Name, wire}
use Rattle.zone_model.specs.Records.{Rrset, Entry, octets_cmp, record_bytes, rrset_bytes, item, item_limit, AboveOctets, RisingOctets, IsRrset, RisingSets, IsEntry, IsItem}
use Rattle.zone_model.specs.Splits.{split_octets, split_name}
use Rattle.zone_model.specs.Items.{split_short, split_number, split_record, is_above, split_records, set_of, split_set, type_above, split_sets, ended, entry_of, item_of}
use Rattle.zone_model.proofs.SplitLemmas.{octets_back, name_back, name_sound, SplitsName, IsBytes, and_some, map_some, cond_some, bytes_behind, bytes_before, octets_sound}

pub short_back : (n : ℕ) (rest : List ℕ) → n < 2 ^ 16 → split_short (to_be_bytes w16 n ++ rest) ≡ Some (n, rest)
short_back n rest h =
    ap (option_map (λ (x : List ℕ × List ℕ). (from_be_bytes w16 x.0, x.1))) (octets_back (to_be_bytes w16 n) rest) ∙ ap (λ (k : ℕ). Some (k, rest)) (from_be_bytes-to_be_bytes_2 n h)

pub number_back : (n : ℕ) (rest : List ℕ) → n < 2 ^ 32 → split_number (to_be_bytes w32 n ++ rest) ≡ Some (n, rest)
number_back n rest h =
    ap (option_map (λ (x : List ℕ × List ℕ). (from_be_bytes w32 x.0, x.1))) (octets_back (to_be_bytes w32 n) rest) ∙ ap (λ (k : ℕ). Some (k, rest)) (from_be_bytes-to_be_bytes_4 n h)

pub record_back : (octets rest : List ℕ) → length octets ≤ 65535 → split_record (record_bytes octets ++ rest) ≡ Some (octets, rest)
record_back octets rest h =
    ap (option_and_then (λ x. split_octets x.0 x.1)) (short_back (length octets) (octets ++ rest) (omega arith)) ∙ octets_back octets rest

above_true : (before : Option (List ℕ)) (octets : List ℕ) → AboveOctets before octets → is_above before octets ≡ true
above_true None octets h = refl
above_true (Some b) octets h = ap is_lt h

pub records_back : (records : List (List ℕ)) (before : Option (List ℕ)) (rest : List ℕ) → RisingOctets before records → split_records (length records) before (flat_map record_bytes records ++ rest) ≡ Some (records, rest)
unfolding split_records
records_back [] before rest h = refl
records_back (octets ∷ records) before rest h =
    let f = λ (x : List ℕ × List ℕ). cond (is_above before x.0) (option_map (λ (y : List (List ℕ) × List ℕ). (x.0 ∷ y.0, y.1)) (split_records (length records) (Some x.0) x.1)) None in
    ap (λ (l : List ℕ). option_and_then f (split_record l)) (append_assoc (record_bytes octets) (flat_map record_bytes records) rest)
    ∙ ap (option_and_then f) (record_back octets (flat_map record_bytes records ++ rest) h.1)
    ∙ ap (λ b. cond b (option_map (λ (y : List (List ℕ) × List ℕ). (octets ∷ y.0, y.1)) (split_records (length records) (Some octets) (flat_map record_bytes records ++ rest))) None) (above_true before octets h.0)
    ∙ ap (option_map (λ (y : List (List ℕ) × List ℕ). (octets ∷ y.0, y.1))) (records_back records (Some octets) rest h.2)

some_records : (n : ℕ) (bytes : List ℕ) (x : Option (Rrset × List ℕ)) → 0 < n → cond (eqb n 0) None x ≡ x
some_records n bytes x h = let t : eqb n 0 ≡ false = grind (arith, nat_tests) in ap (λ b. cond b None x) t

pub set_back : (s : Rrset) (rest : List ℕ) → IsRrset s → length s.records < 2 ^ 16 → split_set (rrset_bytes s ++ rest) ≡ Some (s, rest)
unfolding split_set
set_back s rest h few =
    let l : rrset_bytes s ++ rest ≡ to_be_bytes w16 s.rtype ++ (to_be_bytes w32 s.ttl ++ (to_be_bytes w16 (length s.records) ++ (flat_map record_bytes s.records ++ rest))) = refl in
    let c = λ (n : ℕ × List ℕ). cond (eqb n.0 0) None (option_map (set_of s.rtype s.ttl) (split_records n.0 None n.1)) in
    let b = λ (l : ℕ × List ℕ). option_and_then (λ (n : ℕ × List ℕ). cond (eqb n.0 0) None (option_map (set_of s.rtype l.0) (split_records n.0 None n.1))) (split_short l.1) in
    let a = λ (t : ℕ × List ℕ). option_and_then (λ (l : ℕ × List ℕ). option_and_then (λ (n : ℕ × List ℕ). cond (eqb n.0 0) None (option_map (set_of t.0 l.0) (split_records n.0 None n.1))) (split_short l.1)) (split_number t.1) in
    ap (option_and_then a) (short_back s.rtype (to_be_bytes w32 s.ttl ++ (to_be_bytes w16 (length s.records) ++ (flat_map record_bytes s.records ++ rest))) (omega (arith, h.rtype)))
    ∙ ap (option_and_then b) (number_back s.ttl (to_be_bytes w16 (length s.records) ++ (flat_map record_bytes s.records ++ rest)) (omega (arith, h.ttl)))
    ∙ ap (option_and_then c) (short_back (length s.records) (flat_map record_bytes s.records ++ rest) few)
    ∙ some_records (length s.records) rest (option_map (set_of s.rtype s.ttl) (split_records (length s.records) None (flat_map record_bytes s.records ++ rest))) h.some
    ∙ ap (option_map (set_of s.rtype s.ttl)) (records_back s.records None rest h.rising)

type_true : (before t : ℕ) → before < t → type_above (Some before) t ≡ true
type_true before t h = grind (arith, nat_tests)

abbrev sets_on : ℕ → Option ℕ → Rrset × List ℕ → Option (List Rrset × List ℕ)
sets_on n before x = cond (type_above before x.0.rtype) (option_map (λ (y : List Rrset × List ℕ). (x.0 ∷ y.0, y.1)) (split_sets n (Some x.0.rtype) x.1)) None

one_set : (s : Rrset) (sets : List Rrset) (before : Option ℕ) (rest : List ℕ) → IsRrset s → length s.records < 2 ^ 16 → type_above before s.rtype ≡ true → split_sets (length sets) (Some s.rtype) (flat_map rrset_bytes sets ++ rest) ≡ Some (sets, rest)
    → split_sets (suc (length sets)) before ((rrset_bytes s ++ flat_map rrset_bytes sets) ++ rest) ≡ Some (s ∷ sets, rest)
unfolding split_sets
one_set s sets before rest h few t i =
    ap (λ (l : List ℕ). option_and_then (sets_on (length sets) before) (split_set l)) (append_assoc (rrset_bytes s) (flat_map rrset_bytes sets) rest)
    ∙ ap (option_and_then (sets_on (length sets) before)) (set_back s (flat_map rrset_bytes sets ++ rest) h few)
    ∙ ap (λ b. cond b (option_map (λ (y : List Rrset × List ℕ). (s ∷ y.0, y.1)) (split_sets (length sets) (Some s.rtype) (flat_map rrset_bytes sets ++ rest))) None) t
    ∙ ap (option_map (λ (y : List Rrset × List ℕ). (s ∷ y.0, y.1))) i

each_record : (records : List (List ℕ)) → length records ≤ length (flat_map record_bytes records)
each_record [] = omega arith
each_record (octets ∷ records) = omega (arith, each_record records, length-append (record_bytes octets) (flat_map record_bytes records))

few_records : (s : Rrset) (sets : List Rrset) → length (rrset_bytes s ++ flat_map rrset_bytes sets) < 2 ^ 16 → length s.records < 2 ^ 16
few_records s sets h = omega (arith, each_record s.records, length-append (rrset_bytes s) (flat_map rrset_bytes sets))

fewer : (s : Rrset) (sets : List Rrset) → length (rrset_bytes s ++ flat_map rrset_bytes sets) < 2 ^ 16 → length (flat_map rrset_bytes sets) < 2 ^ 16
fewer s sets h = omega (arith, length-append (rrset_bytes s) (flat_map rrset_bytes sets))

pub sets_back : (sets : List Rrset) (before : Option ℕ) (rest : List ℕ) → RisingSets before sets → length (flat_map rrset_bytes sets) < 2 ^ 16 → split_sets (length sets) before (flat_map rrset_bytes sets ++ rest) ≡ Some (sets, rest)
unfolding split_sets
sets_back [] None rest h few = refl
sets_back [] (Some b) rest h few = refl
sets_back (s ∷ sets) None rest h few = one_set s sets None rest h.0 (few_records s sets few) refl (sets_back sets (Some s.rtype) rest h.1 (fewer s sets few))
sets_back (s ∷ sets) (Some b) rest h few = one_set s sets (Some b) rest h.1 (few_records s sets few) (type_true b s.rtype h.0) (sets_back sets (Some s.rtype) rest h.2 (fewer s sets few))

each_set : (entry : Entry) → length entry ≤ length (flat_map rrset_bytes entry)
each_set [] = omega arith
each_set (s ∷ entry) = omega (arith, each_set entry, length-append (rrset_bytes s) (flat_map rrset_bytes entry))

-- an entry is read back from its octets
entry_back : (entry : Entry) → 0 < length entry → length (flat_map rrset_bytes entry) < 2 ^ 16 → IsEntry entry → entry_of (to_be_bytes w16 (length entry) ++ flat_map rrset_bytes entry) ≡ Some entry
unfolding entry_of
entry_back entry some few h =
    let f = λ (c : ℕ × List ℕ). cond (eqb c.0 0) None (option_and_then ended (split_sets c.0 None c.1)) in
    let z : eqb (length entry) 0 ≡ false = grind (arith, nat_tests) in
    let sets : split_sets (length entry) None (flat_map rrset_bytes entry) ≡ Some (entry, []) = ap (split_sets (length entry) None) (sym (append-nil (flat_map rrset_bytes entry))) ∙ sets_back entry None [] h few in
    ap (option_and_then f) (short_back (length entry) (flat_map rrset_bytes entry) (omega (arith, each_set entry)))
    ∙ ap (λ b. cond b None (option_and_then ended (split_sets (length entry) None (flat_map rrset_bytes entry)))) z
    ∙ ap (option_and_then ended) sets

short_entry : (owner : Name) (entry : Entry) → length (item owner entry) ≤ item_limit → length (flat_map rrset_bytes entry) < 2 ^ 16
short_entry owner entry h = omega (arith, length-append (wire owner ++ to_be_bytes w16 (length entry)) (flat_map rrset_bytes entry))

-- an RRset has fewer records than octets
pub few_in_set : (s : Rrset) → length s.records ≤ length (rrset_bytes s)
few_in_set s = omega (arith, each_record s.records)

-- an item has fewer RRsets than octets
pub few_in_item : (owner : Name) (entry : Entry) → length entry ≤ length (item owner entry)
few_in_item owner entry = omega (arith, each_set entry, length-append (wire owner ++ to_be_bytes w16 (length entry)) (flat_map rrset_bytes entry))

-- the owner and the entry of an item are read back from it
pub item_back : (bytes : List ℕ) (owner : Name) (entry : Entry) → IsItem bytes owner entry → item_of bytes ≡ Some (owner, entry)
unfolding item_of
item_back bytes owner entry h =
    let t : leb (length bytes) item_limit ≡ true = grind (arith, nat_tests, h.short) in
    let f = λ (x : Name × List ℕ). option_map (λ (e : Entry). (x.0, e)) (entry_of x.1) in
    let l : length (item owner entry) ≤ item_limit = subst (λ (b : List ℕ). length b ≤ item_limit) h.octets h.short in
    let parts : bytes ≡ wire owner ++ (to_be_bytes w16 (length entry) ++ flat_map rrset_bytes entry) = h.octets ∙ append_assoc (wire owner) (to_be_bytes w16 (length entry)) (flat_map rrset_bytes entry) in
    ap (λ b. cond b (option_and_then f (split_name bytes)) None) t
    ∙ ap (λ (b : List ℕ). option_and_then f (split_name b)) parts
    ∙ ap (option_and_then f) (name_back owner (to_be_bytes w16 (length entry) ++ flat_map rrset_bytes entry) h.name)
    ∙ ap (option_map (λ (e : Entry). (owner, e))) (entry_back entry h.some (short_entry owner entry l) h.proper)

-- ---- only what was written

short_small : (l : List ℕ) → length l ≡ 2 → IsBytes l → from_be_bytes w16 l < 2 ^ 16
short_small [] e b = absurd (omega arith)
short_small (x ∷ []) e b = absurd (omega arith)
short_small (x ∷ y ∷ []) e b = let f : x < 256 = b 0 in let g : y < 256 = b 1 in omega arith
short_small (x ∷ y ∷ z ∷ l) e b = absurd (omega arith)

pub short_sound : (bytes : List ℕ) (x : ℕ × List ℕ) → IsBytes bytes → split_short bytes ≡ Some x → (x.0 < 2 ^ 16) × (bytes ≡ to_be_bytes w16 x.0 ++ x.1)
short_sound bytes x b h =
    let m = map_some (λ (y : List ℕ × List ℕ). (from_be_bytes w16 y.0, y.1)) (split_octets 2 bytes) x h in
    let o = octets_sound 2 bytes m.0 m.1 in
    let small : IsBytes m.0.0 = bytes_before m.0.0 m.0.1 (subst IsBytes o.1 b) in
    subst (λ (y : ℕ × List ℕ). (y.0 < 2 ^ 16) × (bytes ≡ to_be_bytes w16 y.0 ++ y.1)) m.2
    (short_small m.0.0 o.0 small, o.1 ∙ ap (λ (l : List ℕ). l ++ m.0.1) (sym (be_bytes_2 m.0.0 (from_be_bytes w16 m.0.0) o.0 small refl)))

pub record_sound : (bytes : List ℕ) (x : List ℕ × List ℕ) → IsBytes bytes → split_record bytes ≡ Some x → (length x.0 ≤ 65535) × (bytes ≡ record_bytes x.0 ++ x.1)
record_sound bytes x b h =
    let a = and_some (λ (y : ℕ × List ℕ). split_octets y.0 y.1) (split_short bytes) x h in
    let s = short_sound bytes a.0 b a.1 in
    let o = octets_sound a.0.0 a.0.1 x a.2 in
    let lt : a.0.0 < 2 ^ 16 = s.0 in
    let le : length x.0 ≤ 65535 = omega (arith, o.0) in
    (le, s.1 ∙ ap (λ (r : List ℕ). to_be_bytes w16 a.0.0 ++ r) o.1 ∙ ap (λ (k : ℕ). to_be_bytes w16 k ++ (x.0 ++ x.1)) (sym o.0))

above_sound : (before : Option (List ℕ)) (octets : List ℕ) → is_above before octets ≡ true → AboveOctets before octets
above_sound None octets h = tt
above_sound (Some b) octets h = by_order (octets_cmp b octets) h
  where
    by_order : (o : Ordering) → is_lt o ≡ true → o ≡ Less
    by_order Less h = refl
    by_order Equal h = absurd cc
    by_order Greater h = absurd cc

pub records_sound : (n : ℕ) (before : Option (List ℕ)) (bytes : List ℕ) (x : List (List ℕ) × List ℕ) → IsBytes bytes → split_records n before bytes ≡ Some x → (length x.0 ≡ n) × RisingOctets before x.0 × (bytes ≡ flat_map record_bytes x.0 ++ x.1)
unfolding split_records
records_sound zero before bytes x b h =
    let e : ([], bytes) ≡ x = cc in
    (ap (λ (y : List (List ℕ) × List ℕ). length y.0) (sym e), subst (λ (y : List (List ℕ) × List ℕ). RisingOctets before y.0) e tt, ap (λ (y : List (List ℕ) × List ℕ). flat_map record_bytes y.0 ++ y.1) e)
records_sound (suc n) before bytes x b h =
    let f = λ (y : List ℕ × List ℕ). cond (is_above before y.0) (option_map (λ (z : List (List ℕ) × List ℕ). (y.0 ∷ z.0, z.1)) (split_records n (Some y.0) y.1)) None in
    let a = and_some f (split_record bytes) x h in
    let r = record_sound bytes a.0 b a.1 in
    let c = cond_some (is_above before a.0.0) (option_map (λ (z : List (List ℕ) × List ℕ). (a.0.0 ∷ z.0, z.1)) (split_records n (Some a.0.0) a.0.1)) x a.2 in
    let m = map_some (λ (z : List (List ℕ) × List ℕ). (a.0.0 ∷ z.0, z.1)) (split_records n (Some a.0.0) a.0.1) x c.1 in
    let i = records_sound n (Some a.0.0) a.0.1 m.0 (bytes_behind (record_bytes a.0.0) a.0.1 (rw r.1 at b)) m.1 in
    let up : AboveOctets before a.0.0 = above_sound before a.0.0 c.0 in
    let longer : length (a.0.0 ∷ m.0.0) ≡ suc n = ap suc i.0 in
    let same : bytes ≡ flat_map record_bytes (a.0.0 ∷ m.0.0) ++ m.0.1 = r.1 ∙ ap (λ (l : List ℕ). record_bytes a.0.0 ++ l) i.2 ∙ sym (append_assoc (record_bytes a.0.0) (flat_map record_bytes m.0.0) m.0.1) in
    let rises : RisingOctets before (a.0.0 ∷ m.0.0) = (up, r.0, i.1) in
    subst (λ (y : List (List ℕ) × List ℕ). (length y.0 ≡ suc n) × RisingOctets before y.0 × (bytes ≡ flat_map record_bytes y.0 ++ y.1)) m.2 (longer, rises, same)

number_small : (l : List ℕ) → length l ≡ 4 → IsBytes l → from_be_bytes w32 l < 2 ^ 32
number_small [] e b = absurd (omega arith)
number_small (x ∷ []) e b = absurd (omega arith)
number_small (x ∷ y ∷ []) e b = absurd (omega arith)
number_small (x ∷ y ∷ z ∷ []) e b = absurd (omega arith)
number_small (x ∷ y ∷ z ∷ w ∷ []) e b = let f : x < 256 = b 0 in let g : y < 256 = b 1 in let h : z < 256 = b 2 in let i : w < 256 = b 3 in omega arith
number_small (x ∷ y ∷ z ∷ w ∷ v ∷ l) e b = absurd (omega arith)

pub number_sound : (bytes : List ℕ) (x : ℕ × List ℕ) → IsBytes bytes → split_number bytes ≡ Some x → (x.0 < 2 ^ 32) × (bytes ≡ to_be_bytes w32 x.0 ++ x.1)
number_sound bytes x b h =
    let m = map_some (λ (y : List ℕ × List ℕ). (from_be_bytes w32 y.0, y.1)) (split_octets 4 bytes) x h in
    let o = octets_sound 4 bytes m.0 m.1 in
    let small : IsBytes m.0.0 = bytes_before m.0.0 m.0.1 (subst IsBytes o.1 b) in
    subst (λ (y : ℕ × List ℕ). (y.0 < 2 ^ 32) × (bytes ≡ to_be_bytes w32 y.0 ++ y.1)) m.2
    (number_small m.0.0 o.0 small, o.1 ∙ ap (λ (l : List ℕ). l ++ m.0.1) (sym (be_bytes_4 m.0.0 (from_be_bytes w32 m.0.0) o.0 small refl)))

not_none : {A : Type 0} (n : ℕ) (o : Option A) (y : A) → cond (eqb n 0) None o ≡ Some y → (0 < n) × (o ≡ Some y)
not_none zero o y h = absurd cc
not_none (suc n) o y h = (omega arith, some_on n o ∙ h)
  where
    some_on : {A : Type 0} (n : ℕ) (o : Option A) → o ≡ cond (eqb (suc n) 0) None o
    some_on n o = let t : eqb (suc n) 0 ≡ false = grind (arith, nat_tests) in ap (λ b. cond b None o) (sym t)

set_made : (bytes a b c rest : List ℕ) (rtype ttl n : ℕ) (records : List (List ℕ)) → bytes ≡ to_be_bytes w16 rtype ++ a → a ≡ to_be_bytes w32 ttl ++ b → b ≡ to_be_bytes w16 n ++ c → c ≡ flat_map record_bytes records ++ rest → length records ≡ n
    → rtype < 2 ^ 16 → ttl < 2 ^ 32 → n < 2 ^ 16 → 0 < n → RisingOctets None records → IsRrset (record { rtype = rtype; ttl = ttl; records = records }) × (bytes ≡ rrset_bytes (record { rtype = rtype; ttl = ttl; records = records }) ++ rest)
set_made bytes a b c rest rtype ttl n records p q r s l x y z some up = (
  record { rtype = omega (arith, x); ttl = omega (arith, y); some = omega arith; rising = up },
  p ∙ ap (λ (k : List ℕ). to_be_bytes w16 rtype ++ k) (q ∙ ap (λ (k : List ℕ). to_be_bytes w32 ttl ++ k) (r ∙ ap (λ (k : List ℕ). to_be_bytes w16 n ++ k) s ∙ ap (λ (k : ℕ). to_be_bytes w16 k ++ (flat_map record_bytes records ++ rest)) (sym l))),
)

pub set_sound : (bytes : List ℕ) (x : Rrset × List ℕ) → IsBytes bytes → split_set bytes ≡ Some x → IsRrset x.0 × (bytes ≡ rrset_bytes x.0 ++ x.1)
unfolding split_set
set_sound bytes x b h =
    let t = and_some _ (split_short bytes) x h in
    let l = and_some _ (split_number t.0.1) x t.2 in
    let n = and_some _ (split_short l.0.1) x l.2 in
    let st = short_sound bytes t.0 b t.1 in
    let bt : IsBytes t.0.1 = bytes_behind (to_be_bytes w16 t.0.0) t.0.1 (rw st.1 at b) in
    let sl = number_sound t.0.1 l.0 bt l.1 in
    let bl : IsBytes l.0.1 = bytes_behind (to_be_bytes w32 l.0.0) l.0.1 (rw sl.1 at bt) in
    let sn = short_sound l.0.1 n.0 bl n.1 in
    let bn : IsBytes n.0.1 = bytes_behind (to_be_bytes w16 n.0.0) n.0.1 (rw sn.1 at bl) in
    let some = not_none n.0.0 (option_map (set_of t.0.0 l.0.0) (split_records n.0.0 None n.0.1)) x n.2 in
    let m = map_some (set_of t.0.0 l.0.0) (split_records n.0.0 None n.0.1) x some.1 in
    let r = records_sound n.0.0 None n.0.1 m.0 bn m.1 in
    subst (λ (y : Rrset × List ℕ). IsRrset y.0 × (bytes ≡ rrset_bytes y.0 ++ y.1)) m.2 (set_made bytes t.0.1 l.0.1 n.0.1 m.0.1 t.0.0 l.0.0 n.0.0 m.0.0 st.1 sl.1 sn.1 r.2 r.0 st.0 sl.0 sn.0 some.0 r.1)

rises : (before : Option ℕ) (s : Rrset) (sets : List Rrset) → type_above before s.rtype ≡ true → IsRrset s → RisingSets (Some s.rtype) sets → RisingSets before (s ∷ sets)
rises None s sets t h r = (h, r)
rises (Some b) s sets t h r = (ltb-true b s.rtype t, h, r)

rises_none : (before : Option ℕ) → RisingSets before []
rises_none None = tt
rises_none (Some b) = tt

pub sets_sound : (n : ℕ) (before : Option ℕ) (bytes : List ℕ) (x : List Rrset × List ℕ) → IsBytes bytes → split_sets n before bytes ≡ Some x → (length x.0 ≡ n) × RisingSets before x.0 × (bytes ≡ flat_map rrset_bytes x.0 ++ x.1)
unfolding split_sets
sets_sound zero before bytes x b h =
    let e : ([], bytes) ≡ x = cc in
    subst (λ (y : List Rrset × List ℕ). (length y.0 ≡ 0) × RisingSets before y.0 × (bytes ≡ flat_map rrset_bytes y.0 ++ y.1)) e (refl, rises_none before, refl)
sets_sound (suc n) before bytes x b h =
    let a = and_some (sets_on n before) (split_set bytes) x h in
    let r = set_sound bytes a.0 b a.1 in
    let c = cond_some (type_above before a.0.0.rtype) (option_map (λ (z : List Rrset × List ℕ). (a.0.0 ∷ z.0, z.1)) (split_sets n (Some a.0.0.rtype) a.0.1)) x a.2 in
    let m = map_some (λ (z : List Rrset × List ℕ). (a.0.0 ∷ z.0, z.1)) (split_sets n (Some a.0.0.rtype) a.0.1) x c.1 in
    let i = sets_sound n (Some a.0.0.rtype) a.0.1 m.0 (bytes_behind (rrset_bytes a.0.0) a.0.1 (rw r.1 at b)) m.1 in
    subst (λ (y : List Rrset × List ℕ). (length y.0 ≡ suc n) × RisingSets before y.0 × (bytes ≡ flat_map rrset_bytes y.0 ++ y.1)) m.2 (
      ap suc i.0,
      rises before a.0.0 m.0.0 c.0 r.0 i.1,
      r.1 ∙ ap (λ (l : List ℕ). rrset_bytes a.0.0 ++ l) i.2 ∙ sym (append_assoc (rrset_bytes a.0.0) (flat_map rrset_bytes m.0.0) m.0.1),
    )

ended_of : (x : List Rrset × List ℕ) (entry : List Rrset) → ended x ≡ Some entry → (x.0 ≡ entry) × (x.1 ≡ [])
ended_of x entry h =
    let c = cond_some (eqb (length x.1) 0) (Some x.0) entry h in
    (cc, nil_from_length x.1 (eqb-true (length x.1) 0 c.0))

-- what an entry's octets say is an entry of some record, and these are its octets
entry_sound : (bytes : List ℕ) (entry : Entry) → IsBytes bytes → entry_of bytes ≡ Some entry → (0 < length entry) × IsEntry entry × (bytes ≡ to_be_bytes w16 (length entry) ++ flat_map rrset_bytes entry)
unfolding entry_of
entry_sound bytes entry b h =
    let f = λ (c : ℕ × List ℕ). cond (eqb c.0 0) None (option_and_then ended (split_sets c.0 None c.1)) in
    let c = and_some f (split_short bytes) entry h in
    let s = short_sound bytes c.0 b c.1 in
    let bc : IsBytes c.0.1 = bytes_behind (to_be_bytes w16 c.0.0) c.0.1 (subst IsBytes s.1 b) in
    let some = not_none c.0.0 (option_and_then ended (split_sets c.0.0 None c.0.1)) entry c.2 in
    let x = and_some ended (split_sets c.0.0 None c.0.1) entry some.1 in
    let e = ended_of x.0 entry x.2 in
    let r = sets_sound c.0.0 None c.0.1 x.0 bc x.1 in
    made bytes c.0.1 c.0.0 entry s.1 some.0 (subst (λ (y : List Rrset). length y ≡ c.0.0) e.0 r.0) (subst (λ (y : List Rrset). RisingSets None y) e.0 r.1)
    (r.2 ∙ ap (λ (y : List Rrset). flat_map rrset_bytes y ++ x.0.1) e.0 ∙ ap (λ (y : List ℕ). flat_map rrset_bytes entry ++ y) e.1 ∙ append-nil (flat_map rrset_bytes entry))
  where
    made : (bytes c : List ℕ) (n : ℕ) (entry : Entry) → bytes ≡ to_be_bytes w16 n ++ c → 0 < n → length entry ≡ n → RisingSets None entry → c ≡ flat_map rrset_bytes entry → (0 < length entry) × IsEntry entry × (bytes ≡ to_be_bytes w16 (length entry) ++ flat_map rrset_bytes entry)
    made bytes c n entry q some l up r = (omega (arith, l), up, q ∙ ap (λ (k : List ℕ). to_be_bytes w16 n ++ k) r ∙ ap (λ (k : ℕ). to_be_bytes w16 k ++ flat_map rrset_bytes entry) (sym l))

-- only an item is read
pub item_sound : (bytes : List ℕ) (x : Name × Entry) → IsBytes bytes → item_of bytes ≡ Some x → IsItem bytes x.0 x.1
unfolding item_of
item_sound bytes x b h =
    let f = λ (y : Name × List ℕ). option_map (λ (e : Entry). (y.0, e)) (entry_of y.1) in
    let c = cond_some (leb (length bytes) item_limit) (option_and_then f (split_name bytes)) x h in
    let a = and_some f (split_name bytes) x c.1 in
    let n : SplitsName bytes a.0 = name_sound bytes a.0 b a.1 in
    let m = map_some (λ (e : Entry). (a.0.0, e)) (entry_of a.0.1) x a.2 in
    let e = entry_sound a.0.1 m.0 (bytes_behind (wire a.0.0) a.0.1 (subst IsBytes n.octets b)) m.1 in
    let short : length bytes ≤ item_limit = leb-true (length bytes) item_limit c.0 in
    subst (λ (y : Name × Entry). IsItem bytes y.0 y.1) m.2
    (record { name = n.name; some = e.0; proper = e.1; octets = n.octets ∙ ap (λ (k : List ℕ). wire a.0.0 ++ k) e.2 ∙ sym (append_assoc (wire a.0.0) (to_be_bytes w16 (length m.0)) (flat_map rrset_bytes m.0)); short = short })
