-- Looked at once, records that rise give the same as each looked up.
use Rattle.std.proofs.Common.{arith, ◌≡◌, ◌∙◌, ℕ, Bool, true, false, not, ◌||◌, cond, eqb, List, [], ◌∷◌, ◌++◌, map, refl, sym, ap, subst, append_assoc, append-nil, Option, Some, None, Result, OnOk}
use Rattle.std.specs.declared.cmp.Ordering.{Ordering}
use Rattle.std.specs.declared.cmp.Ordering.TheVariants.{Less, Equal, Greater}
use Rattle.std.specs.declared.alloc.AllocError.{AllocError}
use Rattle.std.specs.Ordering.{is_eq, match_ordering, ordering_reverse}
use Rattle.std.proofs.lemmas.Bool.Decides.{nat_tests}
use Rattle.std.proofs.lemmas.Cmp.{nat_list_cmp_total}
use Rattle.zone_model.specs.Names.{Name}
use Rattle.zone_model.specs.Records.{Rrset, octets_cmp, has_record, RisingOctets}
use Rattle.zone_model.specs.Versions.{Operation}
use Rattle.zone_diff.specs.declared.sets.Side.{Side}
use Rattle.zone_diff.specs.declared.sets.Side.TheVariants.{Before, After}
use Rattle.zone_diff.specs.Differences.{lacking, record_change, set_changes, whole_change}
use Rattle.zone_diff.specs.Merges.{reached, is_first, lacking_beside, Rises}
use Rattle.zone_diff.specs.Sinks.{Aim, Adds, AddsFront}
use Rattle.zone_diff.proofs.RecordLemmas.{none_behind}

-- what is reached has what stands from there on
reached_has : (r octets : List ℕ) (others : List (List ℕ)) → (octets_cmp octets r ≡ Less) → has_record r (reached octets others) ≡ has_record r others
reached_has r octets [] l = refl
reached_has r octets (first ∷ rest) l = by_order (octets_cmp octets first) refl (reached_has r octets rest l)
  where
    by_order : (o : Ordering) → octets_cmp octets first ≡ o → has_record r (reached octets rest) ≡ has_record r rest → has_record r (match_ordering o (first ∷ rest) (first ∷ rest) (reached octets rest)) ≡ (is_eq (octets_cmp r first) || has_record r rest)
    by_order Less e on = refl
    by_order Equal e on = refl
    by_order Greater e on =
        let below : octets_cmp first octets ≡ Less = nat_list_cmp_total.antisymm first octets ∙ ap ordering_reverse e in
        let lt : octets_cmp first r ≡ Less = nat_list_cmp_total.trans first octets r below l in
        on ∙ sym (ap (λ (b : Bool). b || has_record r rest) (ap is_eq (nat_list_cmp_total.antisymm r first ∙ ap ordering_reverse lt)))

reached_rises : (octets : List ℕ) (before : Option (List ℕ)) (others : List (List ℕ)) → RisingOctets before others → RisingOctets None (reached octets others)
reached_rises octets before [] h = tt
reached_rises octets before (first ∷ rest) h = by_order (octets_cmp octets first) (reached_rises octets (Some first) rest h.2)
  where
    by_order : (o : Ordering) → RisingOctets None (reached octets rest) → RisingOctets None (match_ordering o (first ∷ rest) (first ∷ rest) (reached octets rest))
    by_order Less on = (tt, h.1, h.2)
    by_order Equal on = (tt, h.1, h.2)
    by_order Greater on = on

first_has : (octets : List ℕ) (before : Option (List ℕ)) (others : List (List ℕ)) → RisingOctets before others → is_first octets (reached octets others) ≡ has_record octets others
first_has octets before [] h = refl
first_has octets before (first ∷ rest) h = by_order (octets_cmp octets first) refl (first_has octets (Some first) rest h.2)
  where
    by_order : (o : Ordering) → octets_cmp octets first ≡ o → is_first octets (reached octets rest) ≡ has_record octets rest
        → is_first octets (match_ordering o (first ∷ rest) (first ∷ rest) (reached octets rest)) ≡ (is_eq o || has_record octets rest)
    by_order Less e on = ap is_eq e ∙ sym (none_behind octets first rest e h.2)
    by_order Equal e on = ap is_eq e
    by_order Greater e on = on

lacking_alike : (octets : List ℕ) (others less records : List (List ℕ)) → ((r : List ℕ) → octets_cmp octets r ≡ Less → has_record r less ≡ has_record r others) → RisingOctets (Some octets) records → lacking less records ≡ lacking others records
lacking_alike octets others less [] f h = refl
lacking_alike octets others less (x ∷ records) f h =
    let on : lacking less records ≡ lacking others records = lacking_alike x others less records (λ r l. f r (nat_list_cmp_total.trans octets x r h.0 l)) h.2 in
    ap (λ (b : Bool). cond (not b) (x ∷ lacking less records) (lacking less records)) (f x h.0) ∙ ap (λ (l : List (List ℕ)). cond (not (has_record x others)) (x ∷ l) l) on

turned : (b : Bool) (xs ys : List (List ℕ)) → cond b xs ys ≡ cond (not b) ys xs
turned b xs ys = grind arith

pub beside_is : (before after : Option (List ℕ)) (others records : List (List ℕ)) → RisingOctets before others → RisingOctets after records → lacking_beside others records ≡ lacking others records
beside_is before after others [] h k = refl
beside_is before after others (x ∷ records) h k =
    let on : lacking_beside (reached x others) records ≡ lacking others records =
    beside_is None (Some x) (reached x others) records (reached_rises x before others h) k.2 ∙ lacking_alike x others (reached x others) records (λ r l. reached_has r x others l) k.2 in
    ap (λ (l : List (List ℕ)). cond (is_first x (reached x others)) l (x ∷ l)) on
    ∙ ap (λ (b : Bool). cond b (lacking others records) (x ∷ lacking others records)) (first_has x before others h)
    ∙ turned (has_record x others) (lacking others records) (x ∷ lacking others records)

beside_none : (records : List (List ℕ)) → lacking_beside [] records ≡ records
beside_none [] = refl
beside_none (x ∷ records) = ap (λ (l : List (List ℕ)). x ∷ l) (beside_none records)

pub whole_comes : (side : Side) (owner : Name) (s : Rrset) → side ≡ After → map (record_change side owner s) (lacking_beside [] s.records) ≡ whole_change side owner s
whole_comes Before owner s e = absurd cc
whole_comes After owner s e = ap (map (record_change After owner s)) (beside_none s.records)

pub changes_alike : (side : Side) (owner : Name) (s t : Rrset) → s.ttl ≡ t.ttl → Rises (Some s) → Rises (Some t) → map (record_change side owner s) (lacking_beside t.records s.records) ≡ set_changes side owner (Some t) s
changes_alike side owner s t e h k =
    let same : eqb s.ttl t.ttl ≡ true = grind (arith, nat_tests) in
    ap (map (record_change side owner s)) (beside_is None None t.records s.records k h)
    ∙ sym (ap (λ (b : Bool). cond b (map (record_change side owner s) (lacking t.records s.records)) (whole_change side owner s)) same)

-- ---- sinks

pub adds_alike : (r : Result (Unit {0}) AllocError) (had has : Aim → List Operation → Type 0) (xs ys : List Operation) → xs ≡ ys → OnOk r (Adds had has xs) → OnOk r (Adds had has ys)
adds_alike r had has xs ys e h = subst (λ (l : List Operation). OnOk r (Adds had has l)) e h

pub front_starts : (had : Aim → List Operation → Type 0) (all : List Operation) → AddsFront had had all all
front_starts had all = record { done = []; gives = refl; added = λ aim operations h. subst (had aim) (sym (append-nil operations)) h }

-- several operations came
pub front_joins : (had has next : Aim → List Operation → Type 0) (all left come : List Operation) → AddsFront had has all (come ++ left) → Adds has next come → AddsFront had next all left
front_joins had has next all left come f a = record {
  done = f.done ++ come;
  gives = append_assoc f.done come left ∙ f.gives;
  added = λ aim operations h. subst (next aim) (append_assoc operations f.done come) (a aim (operations ++ f.done) (f.added aim operations h));
}

-- what came behind what came before
pub adds_joined : (had has next : Aim → List Operation → Type 0) (xs ys : List Operation) → Adds had has xs → Adds has next ys → Adds had next (xs ++ ys)
adds_joined had has next xs ys a b = λ aim operations h. subst (next aim) (append_assoc operations xs ys) (b aim (operations ++ xs) (a aim operations h))

pub front_ends : (had has : Aim → List Operation → Type 0) (all left : List Operation) → left ≡ [] → AddsFront had has all left → Adds had has all
front_ends had has all left e f =
    let is : f.done ≡ all = sym (append-nil f.done) ∙ ap (λ (l : List Operation). f.done ++ l) (sym e) ∙ f.gives in
    subst (Adds had has) is f.added

-- an operation that came unless what it is for was there
pub front_unless : (had has next : Aim → List Operation → Type 0) (all : List Operation) (f : List ℕ → Operation) (octets : List ℕ) (others rest : List (List ℕ)) (b : Bool) → b ≡ is_first octets (reached octets others)
    → AddsFront had has all (map f (lacking_beside others (octets ∷ rest))) → Adds has next (cond b [] (f octets ∷ [])) → AddsFront had next all (map f (lacking_beside (reached octets others) rest))
front_unless had has next all f octets others rest b e front adds =
    by_test b (subst (λ (t : Bool). AddsFront had has all (map f (cond t (lacking_beside (reached octets others) rest) (octets ∷ lacking_beside (reached octets others) rest)))) (sym e) front) adds
  where
    by_test : (t : Bool) → AddsFront had has all (map f (cond t (lacking_beside (reached octets others) rest) (octets ∷ lacking_beside (reached octets others) rest))) → Adds has next (cond t [] (f octets ∷ []))
        → AddsFront had next all (map f (lacking_beside (reached octets others) rest))
    by_test true x a = front_joins had has next all (map f (lacking_beside (reached octets others) rest)) [] x a
    by_test false x a = front_joins had has next all (map f (lacking_beside (reached octets others) rest)) (f octets ∷ []) x a
