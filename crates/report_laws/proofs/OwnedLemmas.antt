-- What a name owns behind operations, and versions that are the same where all names own the same.
use Rattle.std.proofs.Common.{◌≡◌, ◌∙◌, ◌<◌, Bool, true, false, cond, List, [], ◌∷◌, length, Some, Result, Ok, Err, refl, sym, ap, subst, arith, unwrap_or}
use Rattle.std.specs.Prelude.{IsOk}
use Rattle.std.specs.List.{AllByRecursion}
use Rattle.std.specs.List.Sorted.{IsStrictlySortedBy}
use Rattle.std.specs.Map.{keys_of, remove_entry}
use Rattle.std.specs.BTreeMap.{is_at}
use Rattle.std.specs.Ordering.{is_eq}
use Rattle.std.specs.declared.cmp.Ordering.{Ordering}
use Rattle.std.specs.declared.cmp.Ordering.TheVariants.{Less, Equal, Greater}
use Rattle.zone_model.specs.Names.{Name, name_cmp, same_name}
use Rattle.zone_model.specs.Records.{Entry}
use Rattle.zone_model.specs.Versions.{Version, Operation, entry_of, owned, put, owner_of, changed, and_then, apply, all_applied}
use Rattle.zone_model.specs.Transactions.{Transaction, all_met, whole}
use Rattle.zone_model.specs.declared.Refusal.{Refusal}
use Rattle.zone_model.specs.declared.Refusal.TheVariants.{Prereq}
use Rattle.zone_model.proofs.NameLemmas.{name_cmp-IsAntisymmetric, same_name-true}
use Rattle.job_model.specs.Outcomes.{accepted_or, after}
use Rattle.report_laws.proofs.WellFormedLemmas.{Above, above_more, turned, rising_put, rising_left, owned_at, put_owned, others_put, others_left}

abbrev pub Sorted : Version → Type 0
Sorted version = IsStrictlySortedBy name_cmp (keys_of version)

-- ---- what is put

-- a name below all others owns nothing
owned_below : (name : Name) (version : Version) → Above name version → owned name version ≡ []
owned_below name [] h = refl
owned_below name (pair ∷ rest) h = ap (λ (o : Ordering). unwrap_or (cond (is_eq o) (Some pair.1) (entry_of name rest)) []) h.0 ∙ owned_below name rest h.1

-- nor does one that was taken out
owned_removed : (name : Name) (version : Version) → Sorted version → owned name (remove_entry (is_at (name_cmp name)) version) ≡ []
unfolding IsStrictlySortedBy
owned_removed name [] h = refl
owned_removed name (pair ∷ rest) h = by_test (is_eq (name_cmp name pair.0)) refl (owned_removed name rest h.1)
  where
    by_test : (b : Bool) → is_eq (name_cmp name pair.0) ≡ b → owned name (remove_entry (is_at (name_cmp name)) rest) ≡ [] → owned name (cond b rest (pair ∷ remove_entry (is_at (name_cmp name)) rest)) ≡ []
    by_test true e i = subst (λ (n : Name). owned n rest ≡ []) (sym (same_name-true name pair.0 e)) (owned_below pair.0 rest h.0)
    by_test false e i = ap (λ (b : Bool). unwrap_or (cond b (Some pair.1) (entry_of name (remove_entry (is_at (name_cmp name)) rest))) []) e ∙ i

put_is : (name : Name) (entry : Entry) (version : Version) → Sorted version → owned name (put name entry version) ≡ entry
put_is name [] version h = owned_removed name version h
put_is name (s ∷ entry) version h = put_owned name (s ∷ entry) version

put_other : (other name : Name) (entry : Entry) (version : Version) → same_name other name ≡ false → owned other (put name entry version) ≡ owned other version
put_other other name [] version n = others_left other name version n
put_other other name (s ∷ entry) version n = others_put other name (s ∷ entry) version n

put_sorted : (name : Name) (entry : Entry) (version : Version) → Sorted version → Sorted (put name entry version)
put_sorted name [] version h = rising_left (is_at (name_cmp name)) version h
put_sorted name (s ∷ entry) version h = rising_put name (s ∷ entry) version h

-- ---- operations that are accepted

abbrev pub kept_or : Entry → Result Entry Refusal → Entry
kept_or entry (Ok next) = next
kept_or entry (Err refusal) = entry

-- what an operation makes of what a name owns, and what several do
abbrev pub entry_after : Name → Name → Operation → Entry → Entry
entry_after origin name operation entry = cond (same_name name (owner_of operation)) (kept_or entry (changed origin operation entry)) entry

abbrev pub entry_behind : Name → Name → List Operation → Entry → Entry
entry_behind origin name [] entry = entry
entry_behind origin name (first ∷ rest) entry = entry_behind origin name rest (entry_after origin name first entry)

-- the name owns that in a version whose names rise
pub record Becomes (name : Name) (entry : Entry) (version : Version) : Type 0 where
  pub owns : owned name version ≡ entry
  pub sorted : Sorted version

one_owned : (origin name : Name) (operation : Operation) (version next : Version) → Sorted version → apply origin operation version ≡ Ok next → Becomes name (entry_after origin name operation (owned name version)) next
one_owned origin name operation version next h e = by_result (changed origin operation (owned (owner_of operation) version)) refl e
  where
    by_name : (entry : Entry) → changed origin operation (owned (owner_of operation) version) ≡ Ok entry → (b : Bool) → same_name name (owner_of operation) ≡ b
        → owned name (put (owner_of operation) entry version) ≡ cond b (kept_or (owned name version) (changed origin operation (owned name version))) (owned name version)
    by_name entry c true s =
        subst (λ (n : Name). owned n (put (owner_of operation) entry version) ≡ kept_or (owned n version) (changed origin operation (owned n version))) (sym (same_name-true name (owner_of operation) s))
        (put_is (owner_of operation) entry version h ∙ sym (ap (kept_or (owned (owner_of operation) version)) c))
    by_name entry c false s = put_other name (owner_of operation) entry version s

    by_result : (r : Result Entry Refusal) → changed origin operation (owned (owner_of operation) version) ≡ r → and_then r (λ entry. Ok (put (owner_of operation) entry version)) ≡ Ok next
        → Becomes name (entry_after origin name operation (owned name version)) next
    by_result (Err refusal) c k = absurd cc
    by_result (Ok entry) c k =
        let is : put (owner_of operation) entry version ≡ next = cc in
        subst (Becomes name (entry_after origin name operation (owned name version))) is
        (record { owns = by_name entry c (same_name name (owner_of operation)) refl; sorted = put_sorted (owner_of operation) entry version h })

all_owned : (origin name : Name) (operations : List Operation) (version next : Version) → Sorted version → all_applied origin operations version ≡ Ok next → Becomes name (entry_behind origin name operations (owned name version)) next
all_owned origin name [] version next h e = let is : version ≡ next = cc in subst (Becomes name (owned name version)) is (record { owns = refl; sorted = h })
all_owned origin name (first ∷ rest) version next h e = by_result (λ (v : Version). all_owned origin name rest v next) (apply origin first version) refl e
  where
    by_result : ((v : Version) → Sorted v → all_applied origin rest v ≡ Ok next → Becomes name (entry_behind origin name rest (owned name v)) next) → (r : Result Version Refusal) → apply origin first version ≡ r → and_then r (all_applied origin rest) ≡ Ok next
        → Becomes name (entry_behind origin name rest (entry_after origin name first (owned name version))) next
    by_result others (Err refusal) a k = absurd cc
    by_result others (Ok v) a k =
        let one = one_owned origin name first version v h a in
        let more = others v one.sorted k in
        record { owns = more.owns ∙ ap (entry_behind origin name rest) one.owns; sorted = more.sorted }

pub after_owned : (origin name : Name) (t : Transaction) (version : Version) → Sorted version → IsOk (whole origin t version) → Becomes name (entry_behind origin name t.operations (owned name version)) (after origin t version)
after_owned origin name t version h ok = by_result (whole origin t version) refl ok
  where
    by_needs : (next : Version) (b : Bool) → cond b (all_applied origin t.operations version) (Err Prereq) ≡ Ok next → Becomes name (entry_behind origin name t.operations (owned name version)) next
    by_needs next true e = all_owned origin name t.operations version next h e
    by_needs next false e = absurd cc

    by_result : (r : Result Version Refusal) → whole origin t version ≡ r → IsOk r → Becomes name (entry_behind origin name t.operations (owned name version)) (accepted_or version r)
    by_result (Ok next) e k = by_needs next (all_met version t.needs) e
    by_result (Err refusal) e k = absurd cc

-- ---- versions by what their names own

abbrev pub AllSome : Version → Type 0
AllSome version = AllByRecursion (λ (pair : Name × Entry). 0 < length pair.1) version

owned_first : (pair : Name × Entry) (rest : Version) → owned pair.0 (pair ∷ rest) ≡ pair.1
owned_first pair rest = owned_at pair.0 pair.1 rest

some_none : (entry : Entry) → 0 < length entry → entry ≡ [] → ⊥
some_none entry some none = let long = ap (λ (e : Entry). length e) none in omega (arith, long, some)

pub same_versions : (u v : Version) → Sorted u → Sorted v → AllSome u → AllSome v → ((name : Name) → owned name u ≡ owned name v) → u ≡ v
unfolding IsStrictlySortedBy
same_versions [] [] hu hv su sv same = refl
same_versions [] (q ∷ v) hu hv su sv same = absurd (some_none q.1 sv.0 (sym (owned_first q v) ∙ sym (same q.0)))
same_versions (p ∷ u) [] hu hv su sv same = absurd (some_none p.1 su.0 (sym (owned_first p u) ∙ same p.0))
same_versions (p ∷ u) (q ∷ v) hu hv su sv same = by_order (name_cmp p.0 q.0) refl (same_versions u v hu.1 hv.1 su.1 sv.1)
  where
    behind : p.0 ≡ q.0 → (name : Name) (b : Bool) → is_eq (name_cmp name p.0) ≡ b → owned name u ≡ owned name v
    behind e name true t =
        let left : owned p.0 u ≡ [] = owned_below p.0 u hu.0 in
        let right : owned p.0 v ≡ [] = subst (λ (n : Name). owned n v ≡ []) (sym e) (owned_below q.0 v hv.0) in
        subst (λ (n : Name). owned n u ≡ owned n v) (sym (same_name-true name p.0 t)) (left ∙ sym right)
    behind e name false t =
        let far : is_eq (name_cmp name q.0) ≡ false = subst (λ (n : Name). is_eq (name_cmp name n) ≡ false) e t in
        sym (ap (λ (b : Bool). unwrap_or (cond b (Some p.1) (entry_of name u)) []) t) ∙ same name ∙ ap (λ (b : Bool). unwrap_or (cond b (Some q.1) (entry_of name v)) []) far

    by_order : (o : Ordering) → name_cmp p.0 q.0 ≡ o → (((name : Name) → owned name u ≡ owned name v) → u ≡ v) → p ∷ u ≡ q ∷ v
    by_order Less e rest = absurd (some_none p.1 su.0 (sym (owned_first p u) ∙ same p.0 ∙ owned_below p.0 (q ∷ v) (e, above_more p.0 q.0 v e hv.0)))
    by_order Equal e rest =
        let name : p.0 ≡ q.0 = name_cmp-IsAntisymmetric p.0 q.0 e in
        let entry : p.1 ≡ q.1 = sym (owned_first p u) ∙ same p.0 ∙ subst (λ (n : Name). owned n (q ∷ v) ≡ q.1) (sym name) (owned_first q v) in
        let tail : u ≡ v = rest (λ (n : Name). behind name n (is_eq (name_cmp n p.0)) refl) in
        ap (λ (n : Name). (n, p.1) ∷ u) name ∙ ap (λ (x : Entry). (q.0, x) ∷ u) entry ∙ ap (λ (w : Version). q ∷ w) tail
    by_order Greater e rest =
        let below : name_cmp q.0 p.0 ≡ Less = turned p.0 q.0 e in
        absurd (some_none q.1 sv.0 (sym (owned_first q v) ∙ sym (same q.0) ∙ owned_below q.0 (p ∷ u) (below, above_more q.0 p.0 u below hu.0)))
