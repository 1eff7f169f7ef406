-- The difference of two versions makes of the one before the one after, name by name.
use Rattle.std.proofs.Common.{◌≡◌, ◌≢◌, ◌∙◌, ℕ, ◌<◌, true, ◌&&◌, cond, List, [], ◌∷◌, ◌++◌, length, refl, sym, ap, subst, arith, Option, Some, None, Result, Ok, Err, unwrap_or}
use Rattle.std.specs.List.{AllByRecursion}
use Rattle.std.specs.List.Sorted.{IsStrictlySortedBy}
use Rattle.std.specs.Option.{is_some}
use Rattle.std.specs.Map.{keys_of, remove_entry}
use Rattle.std.specs.BTreeMap.{insert_entry, is_at}
use Rattle.std.specs.declared.cmp.Ordering.{Ordering}
use Rattle.std.specs.declared.cmp.Ordering.TheVariants.{Less, Equal, Greater}
use Rattle.std.specs.Ordering.{is_eq, match_ordering, ordering_reverse}
use Rattle.std.proofs.lemmas.Cmp.{tied_itself}
use Rattle.zone_model.specs.Names.{Name, name_cmp}
use Rattle.zone_model.specs.NameOrder.{name_cmp_total}
use Rattle.zone_model.specs.Records.{Rrset, Entry, rrset_of, IsEntry}
use Rattle.zone_model.specs.Versions.{Version, Operation, DeleteName, entry_of, owned, put, owner_of, changed, apply, all_applied, and_then}
use Rattle.zone_model.specs.declared.Refusal.{Refusal}
use Rattle.zone_model.specs.declared.Refusal.TheVariants.{Soa}
use Rattle.zone_model.proofs.NameLemmas.{name_cmp-IsAntisymmetric}
use Rattle.report_laws.proofs.WellFormedLemmas.{above_more, turned as turned_back}
use Rattle.zone_diff.specs.declared.Serial.{Serial}
use Rattle.zone_diff.specs.declared.sets.Side.{Side}
use Rattle.zone_diff.specs.declared.sets.Side.TheVariants.{Before, After}
use Rattle.zone_diff.specs.Differences.{record_change, soa_additions, staying, entry_difference, merged, difference, with_set, made_entry}
use Rattle.zone_diff.proofs.EachLemmas.{Each, HasSoa, all_any, all_of, of_difference, of_entry, of_soas}
use Rattle.zone_diff.proofs.FitLemmas.{IsFit, all_changed}
use Rattle.zone_diff.proofs.SoaLemmas.{SoaPair}
use Rattle.zone_diff.proofs.EntryLaws.{entry_exchanged}

-- ---- names in their order

pub self_name : (n : Name) → name_cmp n n ≡ Equal
self_name n = tied_itself name_cmp_total n

pub turned : (a b : Name) → name_cmp a b ≡ Less → name_cmp b a ≡ Greater
turned a b e = name_cmp_total.antisymm b a ∙ ap ordering_reverse e

-- the name stands before all of a version's
abbrev pub IsAhead : Name → Version → Type 0
IsAhead n version = AllByRecursion (λ y. name_cmp n y ≡ Less) (keys_of version)

-- ---- a version that begins with what a name owns

abbrev pub stood : Name → Entry → Version → Version
stood n [] rest = rest
stood n (s ∷ entry) rest = (n, s ∷ entry) ∷ rest

pub none_ahead : (n : Name) (rest : Version) → IsAhead n rest → entry_of n rest ≡ None
none_ahead n [] h = refl
none_ahead n (pair ∷ rest) h = ap (λ (o : Ordering). cond (is_eq o) (Some pair.1) (entry_of n rest)) h.0 ∙ none_ahead n rest h.1

gone_ahead : (n : Name) (rest : Version) → IsAhead n rest → remove_entry (is_at (name_cmp n)) rest ≡ rest
gone_ahead n [] h = refl
gone_ahead n (pair ∷ rest) h = ap (λ (o : Ordering). cond (is_eq o) rest (pair ∷ remove_entry (is_at (name_cmp n)) rest)) h.0 ∙ ap (λ (v : Version). pair ∷ v) (gone_ahead n rest h.1)

put_ahead : (n : Name) (entry : Entry) (rest : Version) → IsAhead n rest → insert_entry name_cmp rest n entry ≡ (n, entry) ∷ rest
put_ahead n entry [] h = refl
put_ahead n entry (pair ∷ rest) h = ap (λ (o : Ordering). match_ordering o ((n, entry) ∷ pair ∷ rest) ((pair.0, entry) ∷ rest) (pair ∷ insert_entry name_cmp rest n entry)) h.0

pub owned_stood : (n : Name) (entry : Entry) (rest : Version) → IsAhead n rest → owned n (stood n entry rest) ≡ entry
owned_stood n [] rest h = ap (λ (e : Option Entry). unwrap_or e []) (none_ahead n rest h)
owned_stood n (s ∷ entry) rest h = ap (λ (o : Ordering). unwrap_or (cond (is_eq o) (Some (s ∷ entry)) (entry_of n rest)) []) (self_name n)

pub put_stood : (n : Name) (next entry : Entry) (rest : Version) → IsAhead n rest → put n next (stood n entry rest) ≡ stood n next rest
put_stood n [] [] rest h = gone_ahead n rest h
put_stood n [] (s ∷ entry) rest h = ap (λ (o : Ordering). cond (is_eq o) rest ((n, s ∷ entry) ∷ remove_entry (is_at (name_cmp n)) rest)) (self_name n)
put_stood n (t ∷ next) [] rest h = put_ahead n (t ∷ next) rest h
put_stood n (t ∷ next) (s ∷ entry) rest h = ap (λ (o : Ordering). match_ordering o ((n, t ∷ next) ∷ (n, s ∷ entry) ∷ rest) ((n, t ∷ next) ∷ rest) ((n, s ∷ entry) ∷ insert_entry name_cmp rest n (t ∷ next))) (self_name n)

-- ---- operations of one name

abbrev pub AllOf : Name → List Operation → Type 0
AllOf n operations = AllByRecursion (λ (operation : Operation). owner_of operation ≡ n) operations

one_applied : (origin n : Name) (operation : Operation) (entry : Entry) (rest : Version) → IsAhead n rest → owner_of operation ≡ n
    → apply origin operation (stood n entry rest) ≡ and_then (changed origin operation entry) (λ x. Ok (stood n x rest))
one_applied origin n operation entry rest h is =
    ap (λ (o : Name). and_then (changed origin operation (owned o (stood n entry rest))) (λ x. Ok (put o x (stood n entry rest)))) is
    ∙ ap (λ (e : Entry). and_then (changed origin operation e) (λ x. Ok (put n x (stood n entry rest)))) (owned_stood n entry rest h)
    ∙ by_result (changed origin operation entry)
  where
    by_result : (r : Result Entry Refusal) → and_then r (λ x. Ok (put n x (stood n entry rest))) ≡ and_then r (λ x. Ok (stood n x rest))
    by_result (Ok x) = ap (λ (v : Version). Ok v) (put_stood n x entry rest h)
    by_result (Err e) = refl

pub stood_applied : (origin n : Name) (operations : List Operation) (entry next : Entry) (rest : Version) → IsAhead n rest → AllOf n operations → all_changed origin operations entry ≡ Ok next
    → all_applied origin operations (stood n entry rest) ≡ Ok (stood n next rest)
stood_applied origin n [] entry next rest h a e = let same : entry ≡ next = cc in ap (λ (x : Entry). Ok (stood n x rest)) same
stood_applied origin n (first ∷ operations) entry next rest h a e =
    ap (λ (r : Result Version Refusal). and_then r (all_applied origin operations)) (one_applied origin n first entry rest h a.0)
    ∙ by_result (λ x f. stood_applied origin n operations x next rest h a.1 f) (changed origin first entry) e
  where
    by_result : ((x : Entry) → all_changed origin operations x ≡ Ok next → all_applied origin operations (stood n x rest) ≡ Ok (stood n next rest)) → (r : Result Entry Refusal) → and_then r (all_changed origin operations) ≡ Ok next
        → and_then (and_then r (λ x. Ok (stood n x rest))) (all_applied origin operations) ≡ Ok (stood n next rest)
    by_result more (Ok x) f = more x f
    by_result more (Err refusal) f = absurd cc

-- ---- operations of names behind

abbrev pub AllBehind : Name → List Operation → Type 0
AllBehind n operations = AllByRecursion (λ (operation : Operation). name_cmp n (owner_of operation) ≡ Less) operations

put_behind : (o : Name) (entry : Entry) (pair : Name × Entry) (rest : Version) → name_cmp o pair.0 ≡ Greater → put o entry (pair ∷ rest) ≡ pair ∷ put o entry rest
put_behind o [] pair rest g = ap (λ (x : Ordering). cond (is_eq x) rest (pair ∷ remove_entry (is_at (name_cmp o)) rest)) g
put_behind o (s ∷ entry) pair rest g = ap (λ (x : Ordering). match_ordering x ((o, s ∷ entry) ∷ pair ∷ rest) ((pair.0, s ∷ entry) ∷ rest) (pair ∷ insert_entry name_cmp rest o (s ∷ entry))) g

one_behind : (origin : Name) (operation : Operation) (pair : Name × Entry) (rest : Version) → name_cmp pair.0 (owner_of operation) ≡ Less
    → apply origin operation (pair ∷ rest) ≡ and_then (apply origin operation rest) (λ v. Ok (pair ∷ v))
one_behind origin operation pair rest l =
    let o : Name = owner_of operation in
    let g : name_cmp (owner_of operation) pair.0 ≡ Greater = turned pair.0 (owner_of operation) l in
    ap (λ (x : Ordering). and_then (changed origin operation (unwrap_or (cond (is_eq x) (Some pair.1) (entry_of (owner_of operation) rest)) [])) (λ e. Ok (put (owner_of operation) e (pair ∷ rest)))) g
    ∙ by_result g (changed origin operation (owned (owner_of operation) rest))
  where
    by_result : name_cmp (owner_of operation) pair.0 ≡ Greater → (r : Result Entry Refusal) → and_then r (λ e. Ok (put (owner_of operation) e (pair ∷ rest))) ≡ and_then (and_then r (λ e. Ok (put (owner_of operation) e rest))) (λ v. Ok (pair ∷ v))
    by_result g (Ok e) = ap (λ (v : Version). Ok v) (put_behind (owner_of operation) e pair rest g)
    by_result g (Err e) = refl

pub behind_applied : (origin : Name) (operations : List Operation) (pair : Name × Entry) (rest next : Version) → AllBehind pair.0 operations → all_applied origin operations rest ≡ Ok next
    → all_applied origin operations (pair ∷ rest) ≡ Ok (pair ∷ next)
behind_applied origin [] pair rest next a e = let same : rest ≡ next = cc in ap (λ (v : Version). Ok (pair ∷ v)) same
behind_applied origin (first ∷ operations) pair rest next a e =
    ap (λ (r : Result Version Refusal). and_then r (all_applied origin operations)) (one_behind origin first pair rest a.0)
    ∙ by_result (λ v f. behind_applied origin operations pair v next a.1 f) (apply origin first rest) e
  where
    by_result : ((v : Version) → all_applied origin operations v ≡ Ok next → all_applied origin operations (pair ∷ v) ≡ Ok (pair ∷ next)) → (r : Result Version Refusal) → and_then r (all_applied origin operations) ≡ Ok next
        → and_then (and_then r (λ v. Ok (pair ∷ v))) (all_applied origin operations) ≡ Ok (pair ∷ next)
    by_result more (Ok v) f = more v f
    by_result more (Err refusal) f = absurd cc

pub both_applied : (origin : Name) (front back : List Operation) (version : Version) → all_applied origin (front ++ back) version ≡ and_then (all_applied origin front version) (all_applied origin back)
both_applied origin [] back version = refl
both_applied origin (first ∷ front) back version = by_first (λ v. both_applied origin front back v) (apply origin first version)
  where
    by_first : ((v : Version) → all_applied origin (front ++ back) v ≡ and_then (all_applied origin front v) (all_applied origin back)) → (r : Result Version Refusal)
        → and_then r (all_applied origin (front ++ back)) ≡ and_then (and_then r (all_applied origin front)) (all_applied origin back)
    by_first more (Ok v) = more v
    by_first more (Err refusal) = refl

pub applied_on : (origin : Name) (front back : List Operation) (version working : Version) → all_applied origin front version ≡ Ok working → all_applied origin (front ++ back) version ≡ all_applied origin back working
applied_on origin front back version working e = both_applied origin front back version ∙ ap (λ (r : Result Version Refusal). and_then r (all_applied origin back)) e

-- ---- whose the operations are

pub entry_of_name : (mode : Serial) (n : Name) (before after : Entry) → AllOf n (entry_difference mode n before after)
entry_of_name mode n before after = of_entry IsOf mode n before after (each Before before) (each After after) (soas (rrset_of 6 after))
  where
    IsOf : Operation → Type 0
    IsOf operation = owner_of operation ≡ n

    by_side : (side : Side) (s : Rrset) (octets : List ℕ) → owner_of (record_change side n s octets) ≡ n
    by_side Before s octets = refl
    by_side After s octets = refl

    each : (side : Side) (sets : Entry) → AllByRecursion (λ (s : Rrset). s.rtype ≢ 6 → Each IsOf side n s) sets
    each side sets = all_any (λ (s : Rrset). s.rtype ≢ 6 → Each IsOf side n s) (λ s other. record { whole = λ e. refl; records = all_any (λ (octets : List ℕ). IsOf (record_change side n s octets)) (by_side side s) s.records }) sets

    soas : (y : Option Rrset) → AllOf n (soa_additions mode n (rrset_of 6 before) y)
    soas None = tt
    soas (Some t) = of_soas IsOf mode n (rrset_of 6 before) t.ttl t.records (all_any (HasSoa IsOf n t.ttl) (λ octets. (refl, refl)) t.records)

all_behind : (m n : Name) (operations : List Operation) → name_cmp m n ≡ Less → AllOf n operations → AllBehind m operations
all_behind m n operations l a =
    all_of (λ (operation : Operation). owner_of operation ≡ n) (λ (operation : Operation). name_cmp m (owner_of operation) ≡ Less) (λ operation e. subst (λ (o : Name). name_cmp m o ≡ Less) (sym e) l) operations a

each_ahead : (m : Name) (version : Version) → IsAhead m version → AllByRecursion (λ (pair : Name × Entry). name_cmp m pair.0 ≡ Less) version
each_ahead m [] h = tt
each_ahead m (pair ∷ version) h = (h.0, each_ahead m version h.1)

pub difference_behind : (mode : Serial) (m : Name) (before after : Version) → IsAhead m before → IsAhead m after → AllBehind m (difference mode before after)
difference_behind mode m before after g h =
    of_difference (λ (operation : Operation). name_cmp m (owner_of operation) ≡ Less) mode (λ (pair : Name × Entry). name_cmp m pair.0 ≡ Less) (λ b l. l)
    (λ a l. all_behind m a.0 (entry_difference mode a.0 [] a.1) l (entry_of_name mode a.0 [] a.1)) (λ b a same l k. all_behind m b.0 (entry_difference mode b.0 b.1 a.1) l (entry_of_name mode b.0 b.1 a.1))
    before after (each_ahead m before g) (each_ahead m after h)

-- ---- names without an SOA

pub record IsPlainPair (pair : Name × Entry) : Type 0 where
  pub proper : IsEntry pair.1
  pub some : 0 < length pair.1
  pub fit : IsFit pair.0 pair.1
  pub no_soa : rrset_of 6 pair.1 ≡ None

-- a version of such names, in their order
pub record IsPlainVersion (version : Version) : Type 0 where
  pub rising : IsStrictlySortedBy name_cmp (keys_of version)
  pub each : AllByRecursion IsPlainPair version

first_ahead : (pair : Name × Entry) (rest : Version) → IsPlainVersion (pair ∷ rest) → IsAhead pair.0 rest
unfolding IsStrictlySortedBy
first_ahead pair rest v = v.rising.0

rest_plain : (pair : Name × Entry) (rest : Version) → IsPlainVersion (pair ∷ rest) → IsPlainVersion rest
unfolding IsStrictlySortedBy
rest_plain pair rest v = record { rising = v.rising.1; each = v.each.1 }

plain_pair : (origin n : Name) (x y : Option Rrset) → x ≡ None → y ≡ None → SoaPair origin n x y
plain_pair origin n x y a b = subst (λ (f : Option Rrset). SoaPair origin n f y) (sym a) (subst (λ (f : Option Rrset). SoaPair origin n None f) (sym b) tt)

made_plain : (mode : Serial) (before after : Entry) → rrset_of 6 before ≡ None → made_entry mode before after ≡ after
made_plain mode before after e = ap (λ (x : Option Rrset). with_set (staying mode x (rrset_of 6 after)) after) e

plain_exchanged : (mode : Serial) (origin n : Name) (before after : Entry) → IsEntry before → rrset_of 6 before ≡ None → IsEntry after → IsFit n after → rrset_of 6 after ≡ None
    → all_changed origin (entry_difference mode n before after) before ≡ Ok after
plain_exchanged mode origin n before after b e a f g =
    entry_exchanged mode origin n before after (record { before_is = b; after_is = a; fit = f; soa = plain_pair origin n (rrset_of 6 before) (rrset_of 6 after) e g })
    ∙ ap (λ (x : Entry). Ok x) (made_plain mode before after e)

pub stood_is : (n : Name) (entry : Entry) (rest : Version) → 0 < length entry → stood n entry rest ≡ (n, entry) ∷ rest
stood_is n [] rest some = absurd (omega arith)
stood_is n (s ∷ entry) rest some = refl

-- a name comes
comes : (mode : Serial) (origin : Name) (a : Name × Entry) (rest : Version) → IsPlainPair a → IsAhead a.0 rest → all_applied origin (entry_difference mode a.0 [] a.1) rest ≡ Ok (a ∷ rest)
comes mode origin a rest p h =
    stood_applied origin a.0 (entry_difference mode a.0 [] a.1) [] a.1 rest h (entry_of_name mode a.0 [] a.1) (plain_exchanged mode origin a.0 [] a.1 tt refl p.proper p.fit p.no_soa)
    ∙ ap (λ (v : Version). Ok v) (stood_is a.0 a.1 rest p.some)

-- a name goes
goes : (origin : Name) (b : Name × Entry) (rest : Version) → IsPlainPair b → IsAhead b.0 rest → all_applied origin (DeleteName b.0 ∷ []) (b ∷ rest) ≡ Ok rest
goes origin b rest p h =
    ap (all_applied origin (DeleteName b.0 ∷ [])) (sym (stood_is b.0 b.1 rest p.some))
    ∙ stood_applied origin b.0 (DeleteName b.0 ∷ []) b.1 [] rest h (refl, tt)
    (ap (λ (f : Option Rrset). and_then (cond (is_some f && true) (Err Soa) (Ok [])) (all_changed origin [])) p.no_soa)

-- a name's records are exchanged
exchanges : (mode : Serial) (origin : Name) (b a : Name × Entry) (rest : Version) → IsPlainPair b → IsPlainPair a → b.0 ≡ a.0 → IsAhead b.0 rest → all_applied origin (entry_difference mode b.0 b.1 a.1) (b ∷ rest) ≡ Ok (a ∷ rest)
exchanges mode origin b a rest p q same h =
    ap (all_applied origin (entry_difference mode b.0 b.1 a.1)) (sym (stood_is b.0 b.1 rest p.some))
    ∙ stood_applied origin b.0 (entry_difference mode b.0 b.1 a.1) b.1 a.1 rest h (entry_of_name mode b.0 b.1 a.1)
    (plain_exchanged mode origin b.0 b.1 a.1 p.proper p.no_soa q.proper (subst (λ (n : Name). IsFit n a.1) (sym same) q.fit) q.no_soa)
    ∙ ap (λ (v : Version). Ok v) (stood_is b.0 a.1 rest q.some ∙ ap (λ (n : Name). (n, a.1) ∷ rest) same)

news : (mode : Serial) (origin : Name) (after : Version) → IsPlainVersion after → all_applied origin (difference mode [] after) [] ≡ Ok after
news mode origin [] v = refl
news mode origin (a ∷ after) v =
    applied_on origin (entry_difference mode a.0 [] a.1) (difference mode [] after) [] (a ∷ []) (comes mode origin a [] v.each.0 tt)
    ∙ behind_applied origin (difference mode [] after) a [] after (difference_behind mode a.0 [] after tt (first_ahead a after v)) (news mode origin after (rest_plain a after v))

merges : (mode : Serial) (origin : Name) (b : Name × Entry) (before after : Version) → IsPlainVersion (b ∷ before) → IsPlainVersion after
    → ((v : Version) → IsPlainVersion v → all_applied origin (difference mode before v) before ≡ Ok v) → all_applied origin (merged mode b (difference mode before) after) (b ∷ before) ≡ Ok after
merges mode origin b before [] p q more =
    applied_on origin (DeleteName b.0 ∷ []) (difference mode before []) (b ∷ before) before (goes origin b before p.each.0 (first_ahead b before p)) ∙ more [] q
merges mode origin b before (a ∷ after) p q more = by_order (name_cmp b.0 a.0) refl (merges mode origin b before after p (rest_plain a after q) more)
  where
    by_order : (o : Ordering) → name_cmp b.0 a.0 ≡ o → all_applied origin (merged mode b (difference mode before) after) (b ∷ before) ≡ Ok after
        → all_applied origin (match_ordering o (DeleteName b.0 ∷ difference mode before (a ∷ after)) (entry_difference mode b.0 b.1 a.1 ++ difference mode before after) (entry_difference mode a.0 [] a.1 ++ merged mode b (difference mode before) after)) (b ∷ before) ≡ Ok (a ∷ after)
    by_order Less e on =
        applied_on origin (DeleteName b.0 ∷ []) (difference mode before (a ∷ after)) (b ∷ before) before (goes origin b before p.each.0 (first_ahead b before p)) ∙ more (a ∷ after) q
    by_order Equal e on =
        let same : b.0 ≡ a.0 = name_cmp-IsAntisymmetric b.0 a.0 e in
        let ahead = first_ahead b before p in
        applied_on origin (entry_difference mode b.0 b.1 a.1) (difference mode before after) (b ∷ before) (a ∷ before) (exchanges mode origin b a before p.each.0 q.each.0 same ahead)
        ∙ behind_applied origin (difference mode before after) a before after (difference_behind mode a.0 before after (subst (λ (n : Name). IsAhead n before) same ahead) (first_ahead a after q)) (more after (rest_plain a after q))
    by_order Greater e on =
        let l : name_cmp a.0 b.0 ≡ Less = turned_back b.0 a.0 e in
        let ahead : IsAhead a.0 (b ∷ before) = (l, above_more a.0 b.0 before l (first_ahead b before p)) in
        applied_on origin (entry_difference mode a.0 [] a.1) (merged mode b (difference mode before) after) (b ∷ before) (a ∷ b ∷ before) (comes mode origin a (b ∷ before) q.each.0 ahead)
        ∙ behind_applied origin (merged mode b (difference mode before) after) a (b ∷ before) after (difference_behind mode a.0 (b ∷ before) after ahead (first_ahead a after q)) on

pub plain_difference : (mode : Serial) (origin : Name) (before after : Version) → IsPlainVersion before → IsPlainVersion after → all_applied origin (difference mode before after) before ≡ Ok after
plain_difference mode origin [] after p q = news mode origin after q
plain_difference mode origin (b ∷ before) after p q = merges mode origin b before after p q (λ v r. plain_difference mode origin before v (rest_plain b before p) r)
