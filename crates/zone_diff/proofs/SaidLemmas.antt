-- The operations of a difference are as scripts say them: records as master files have them, at names of the zone.
use Rattle.std.proofs.Common.{◌≡◌, ◌≢◌, ◌∙◌, ℕ, zero, suc, ◌+◌, ◌-◌, ◌%◌, ◌<◌, ◌≤◌, Bool, true, false, cond, leb, List, [], ◌∷◌, ◌++◌, length, take, drop, get_or, set, refl, sym, ap, subst, arith, Option, Some, None, Ok, length-append, length-set}
use borrow.Author.Tests.{eqb-true}
use Rattle.std.specs.List.{AllByRecursion}
use Rattle.std.specs.Option.{option_map}
use Rattle.zone_model.specs.Names.{Name, IsName, wire}
use Rattle.zone_model.specs.Records.{Rrset, Entry, rrset_of}
use Rattle.master_file.specs.Rows.{IsRecord}
use Rattle.zone_model.specs.Versions.{Version, Operation, Add, DeleteName, DeleteSet, DeleteRecord, all_applied}
use Rattle.zone_model.specs.DataWords.{most_time, data_type}
use Rattle.zone_model.specs.Types.{Field, NameField, NumberField, TimeField}
use Rattle.zone_model.specs.Splits.{split_octets, split_name}
use Rattle.zone_model.specs.DataForms.{field_rest, fits_behind, fields_fit, form_fits}
use Rattle.zone_model.proofs.SplitLemmas.{map_some, name_sound, name_back, bytes_behind}
use Rattle.zone_change.proofs.FoundLaws.{is_found}
use Rattle.master_file.specs.Rows.{CanBeDumped}
use Rattle.report_laws.specs.Changes.{IsInside, IsSaid, row_of}
use Rattle.report_laws.proofs.EntryLemmas.{IsData, IsSet, AllSets}
use Rattle.report_laws.proofs.WellFormedLemmas.{IsOwned, well_formed}
use Rattle.report_laws.proofs.ChangeLemmas.{whole_dumped}
use Rattle.zone_diff.specs.declared.Serial.{Serial}
use Rattle.zone_diff.specs.Serials.{renumbered}
use Rattle.zone_diff.specs.declared.sets.Side.{Side}
use Rattle.zone_diff.specs.declared.sets.Side.TheVariants.{Before, After}
use Rattle.zone_diff.specs.Differences.{addition, record_change, soa_additions, entry_difference, difference, made}
use Rattle.zone_diff.proofs.SoaForms.{is_bytes, rest_long, time_split}
use Rattle.zone_diff.proofs.DifferenceLaws.{found_all, difference_makes, front_taken}
use Rattle.zone_diff.proofs.EachLemmas.{Each, HasSoa, all_of, front_all, of_difference, of_entry, of_soas}
use Rattle.zone_diff.specs.Cuts.{CutAt}

-- ---- another serial leaves the form

set_behind : (a b : List ℕ) (i j v : ℕ) → j ≡ length a + i → set (a ++ b) j v ≡ a ++ set b i v
set_behind [] b i j v e = let same : j ≡ i = omega arith in ap (λ (k : ℕ). set b k v) same
set_behind (x ∷ a) b i zero v e = absurd (omega arith)
set_behind (x ∷ a) b i (suc j) v e = let less : j ≡ length a + i = omega arith in ap (λ (l : List ℕ). x ∷ l) (set_behind a b i j v less)

drop_set : (k i v : ℕ) (l : List ℕ) → i < k → drop k (set l i v) ≡ drop k l
drop_set zero i v l lt = absurd (omega arith)
drop_set (suc k) i v [] lt = refl
drop_set (suc k) zero v (x ∷ l) lt = refl
drop_set (suc k) (suc i) v (x ∷ l) lt = let less : i < k = omega arith in drop_set k i v l less

-- octets that fields begin with a name
record BehindName (fields : List Field) (octets : List ℕ) : Type 0 where
  name : Name
  is : IsName name
  rest : List ℕ
  whole : octets ≡ wire name ++ rest
  bytes : (i : ℕ) → get_or rest i 0 < 256
  fit : fields_fit fields rest ≡ true

behind_name : (fields : List Field) (octets : List ℕ) → ((i : ℕ) → get_or octets i 0 < 256) → fields_fit (NameField ∷ fields) octets ≡ true → BehindName fields octets
unfolding fields_fit
behind_name fields octets b e = by_rest (split_name octets) refl e
  where
    by_rest : (r : Option (Name × List ℕ)) → split_name octets ≡ r → fits_behind (option_map (λ (x : Name × List ℕ). x.1) r) (fields_fit fields) ≡ true → BehindName fields octets
    by_rest None f h = absurd cc
    by_rest (Some x) f h =
        let s = name_sound octets x b f in
        record { name = x.0; is = s.name; rest = x.1; whole = s.octets; bytes = bytes_behind (wire x.0) x.1 (subst (λ (l : List ℕ). (i : ℕ) → get_or l i 0 < 256) s.octets b); fit = h }

-- a number in the octets that stand behind names, so many from their end
record Renumbers (fields : List Field) (octets : List ℕ) (v : ℕ) : Type 0 where
  long : 17 ≤ length octets
  fit : fields_fit fields (set octets (length octets - 17) v) ≡ true

named_renumbers : (fields : List Field) (octets : List ℕ) (v : ℕ) → ((i : ℕ) → get_or octets i 0 < 256) → fields_fit (NameField ∷ fields) octets ≡ true
    → ((rest : List ℕ) → ((i : ℕ) → get_or rest i 0 < 256) → fields_fit fields rest ≡ true → Renumbers fields rest v) → Renumbers (NameField ∷ fields) octets v
unfolding fields_fit
named_renumbers fields octets v b e more =
    let n = behind_name fields octets b e in
    let t = more n.rest n.bytes n.fit in
    let t_long = t.long in
    let lengths : length octets ≡ length (wire n.name) + length n.rest = ap (λ (l : List ℕ). length l) n.whole ∙ length-append (wire n.name) n.rest in
    let at : length octets - 17 ≡ length (wire n.name) + (length n.rest - 17) = omega (arith, lengths, t_long) in
    let is : set octets (length octets - 17) v ≡ wire n.name ++ set n.rest (length n.rest - 17) v =
    ap (λ (l : List ℕ). set l (length octets - 17) v) n.whole ∙ set_behind (wire n.name) n.rest (length n.rest - 17) (length octets - 17) v at in
    record {
      long = omega (arith, lengths, t_long);
      fit = ap (fields_fit (NameField ∷ fields)) is
          ∙ ap (λ (r : Option (Name × List ℕ)). fits_behind (option_map (λ (x : Name × List ℕ). x.1) r) (fields_fit fields)) (name_back n.name (set n.rest (length n.rest - 17) v) n.is)
          ∙ t.fit;
    }

time_rest : (octets rest : List ℕ) → field_rest TimeField octets ≡ Some rest → length octets ≡ 4 + length rest
time_rest octets rest e = let t = time_split octets rest e in rest_long 4 octets rest t.0 t.1 t.2

number_rest : (octets rest : List ℕ) → field_rest NumberField octets ≡ Some rest → length octets ≡ 4 + length rest
number_rest octets rest e = let m = map_some (λ (x : List ℕ × List ℕ). x.1) (split_octets 4 octets) rest e in rest_long 4 octets rest m.0 m.1 m.2

-- fields behind a time or number
one_rest : (r : Option (List ℕ)) (fit : List ℕ → Bool) → fits_behind r fit ≡ true → (rest : List ℕ) × (r ≡ Some rest) × (fit rest ≡ true)
one_rest None fit e = absurd cc
one_rest (Some rest) fit e = (rest, refl, e)

no_fields : (octets : List ℕ) → fields_fit [] octets ≡ true → length octets ≡ 0
unfolding fields_fit
no_fields octets e = eqb-true (length octets) 0 e

time_long : (n : ℕ) (fields : List Field) → ((rest : List ℕ) → fields_fit fields rest ≡ true → length rest ≡ n) → (octets : List ℕ) → fields_fit (TimeField ∷ fields) octets ≡ true → length octets ≡ 4 + n
unfolding fields_fit
time_long n fields more octets e =
    let o = one_rest (field_rest TimeField octets) (fields_fit fields) e in
    time_rest octets o.0 o.1 ∙ ap (λ (k : ℕ). 4 + k) (more o.0 o.2)

times_long : (octets : List ℕ) → fields_fit (TimeField ∷ TimeField ∷ TimeField ∷ TimeField ∷ []) octets ≡ true → length octets ≡ 16
times_long octets e =
    time_long 12 (TimeField ∷ TimeField ∷ TimeField ∷ []) (time_long 8 (TimeField ∷ TimeField ∷ []) (time_long 4 (TimeField ∷ []) (time_long 0 [] no_fields))) octets e

rest_of_cond : (b : Bool) (x y : List ℕ) → option_map (λ (p : List ℕ × List ℕ). p.1) (cond b (Some (x, y)) None) ≡ cond b (Some y) None
rest_of_cond true x y = refl
rest_of_cond false x y = refl

number_same : (octets : List ℕ) (i v : ℕ) → i < 4 → field_rest NumberField (set octets i v) ≡ field_rest NumberField octets
number_same octets i v lt =
    rest_of_cond (leb 4 (length (set octets i v))) (take 4 (set octets i v)) (drop 4 (set octets i v))
    ∙ ap (λ (n : ℕ). cond (leb 4 n) (Some (drop 4 (set octets i v))) None) (length-set octets i v)
    ∙ ap (λ (l : List ℕ). cond (leb 4 (length octets)) (Some l) None) (drop_set 4 i v octets lt)
    ∙ sym (rest_of_cond (leb 4 (length octets)) (take 4 octets) (drop 4 octets))

number_renumbers : (octets : List ℕ) (v : ℕ) → fields_fit (NumberField ∷ TimeField ∷ TimeField ∷ TimeField ∷ TimeField ∷ []) octets ≡ true → Renumbers (NumberField ∷ TimeField ∷ TimeField ∷ TimeField ∷ TimeField ∷ []) octets v
unfolding fields_fit
number_renumbers octets v e =
    let o = one_rest (field_rest NumberField octets) (fields_fit (TimeField ∷ TimeField ∷ TimeField ∷ TimeField ∷ [])) e in
    let size : length octets ≡ 4 + length o.0 = number_rest octets o.0 o.1 in
    let behind : length o.0 ≡ 16 = times_long o.0 o.2 in
    let lt : length octets - 17 < 4 = omega (arith, size, behind) in
    record {
      long = omega (arith, size, behind);
      fit = ap (λ (r : Option (List ℕ)). fits_behind r (fields_fit (TimeField ∷ TimeField ∷ TimeField ∷ TimeField ∷ []))) (number_same octets (length octets - 17) v lt) ∙ e;
    }

renumbered_form : (octets : List ℕ) → AllByRecursion (λ c. c < 256) octets → form_fits 6 octets ≡ true → form_fits 6 (renumbered octets) ≡ true
renumbered_form octets b e =
    let v : ℕ = (get_or octets (length octets - 17) 0 + 1) % 256 in
    let r = named_renumbers (NameField ∷ NumberField ∷ TimeField ∷ TimeField ∷ TimeField ∷ TimeField ∷ []) octets ((get_or octets (length octets - 17) 0 + 1) % 256) (is_bytes octets b) e
    (λ rest c f. named_renumbers (NumberField ∷ TimeField ∷ TimeField ∷ TimeField ∷ TimeField ∷ []) rest ((get_or octets (length octets - 17) 0 + 1) % 256) c f (λ more d g. number_renumbers more ((get_or octets (length octets - 17) 0 + 1) % 256) g)) in
    r.fit

set_all : (P : ℕ → Type 0) (l : List ℕ) (i v : ℕ) → P v → AllByRecursion P l → AllByRecursion P (set l i v)
set_all P [] i v p h = tt
set_all P (x ∷ l) zero v p h = (p, h.1)
set_all P (x ∷ l) (suc i) v p h = (h.0, set_all P l i v p h.1)

below : (n : ℕ) → n % 256 < 256
below n = omega arith

renumbered_data : (octets : List ℕ) → IsData 6 octets → IsData 6 (renumbered octets)
renumbered_data octets d = record {
  bytes = set_all (λ c. c < 256) octets (length octets - 17) ((get_or octets (length octets - 17) 0 + 1) % 256) (below (get_or octets (length octets - 17) 0 + 1)) d.bytes;
  short = subst (λ (n : ℕ). n ≤ 65535) (sym (length-set octets (length octets - 17) ((get_or octets (length octets - 17) 0 + 1) % 256))) d.short;
  form = renumbered_form octets d.bytes d.form;
}

-- ---- what is said

-- a type as master files have it
pub record IsType (t : ℕ) : Type 0 where
  pub number : t ≤ 65535
  pub kind : data_type t ≡ Some t

-- an operation whose words say all of it: what it deletes also is as master files have it
abbrev pub IsTold : Name → Operation → Type 0
IsTold origin (Add a) = IsInside origin a.owner × IsRecord (row_of a)
IsTold origin (DeleteName owner) = IsInside origin owner
IsTold origin (DeleteSet owner rtype) = IsInside origin owner × IsType rtype
IsTold origin (DeleteRecord owner rtype octets) = IsInside origin owner × IsType rtype × IsData rtype octets

told_said : (origin : Name) (operation : Operation) → IsTold origin operation → IsSaid origin operation
told_said origin (Add a) h = h
told_said origin (DeleteName owner) h = h
told_said origin (DeleteSet owner rtype) h = h.0
told_said origin (DeleteRecord owner rtype octets) h = h.0

abbrev AllSaidBy : Name → List Operation → Type 0
AllSaidBy origin operations = AllByRecursion (IsTold origin) operations

all_told_said : (origin : Name) (operations : List Operation) → AllSaidBy origin operations → AllByRecursion (IsSaid origin) operations
all_told_said origin = all_of (IsTold origin) (IsSaid origin) (told_said origin)

-- what is known of the records of an RRset
record IsKnown (t ttl : ℕ) : Type 0 where
  number : t ≤ 65535
  kind : data_type t ≡ Some t
  time : ttl ≤ most_time

known_of : (origin n : Name) (s : Rrset) → IsSet origin n s → IsKnown s.rtype s.ttl
known_of origin n s is = record { number = is.number; kind = is.kind; time = is.time }

one_said : (origin n : Name) (t ttl : ℕ) (octets : List ℕ) → IsInside origin n → IsKnown t ttl → IsData t octets → IsTold origin (addition n t ttl octets)
one_said origin n t ttl octets inside k d = (inside, record { owner = inside.name; number = k.number; kind = k.kind; time = k.time; bytes = d.bytes; short = d.short; form = d.form })

type_of : (origin n : Name) (s : Rrset) → IsSet origin n s → IsType s.rtype
type_of origin n s is = record { number = is.number; kind = is.kind }

record_said : (side : Side) (origin n : Name) (s : Rrset) → IsInside origin n → IsSet origin n s → (octets : List ℕ) → IsData s.rtype octets → IsTold origin (record_change side n s octets)
record_said Before origin n s inside is octets d = (inside, type_of origin n s is, d)
record_said After origin n s inside is octets d = one_said origin n s.rtype s.ttl octets inside (known_of origin n s is) d

sets_said : (side : Side) (origin n : Name) (sets : Entry) → IsInside origin n → AllSets origin n sets → AllByRecursion (λ (s : Rrset). s.rtype ≢ 6 → Each (IsTold origin) side n s) sets
sets_said side origin n sets inside h = all_of (IsSet origin n) (λ (s : Rrset). s.rtype ≢ 6 → Each (IsTold origin) side n s) (λ s is other. record {
  whole = λ e. (inside, type_of origin n s is);
  records = all_of (IsData s.rtype) (λ (octets : List ℕ). IsTold origin (record_change side n s octets)) (record_said side origin n s inside is) s.records is.each;
}) sets h

soa_said : (mode : Serial) (origin n : Name) (x : Option Rrset) (after : Entry) → IsInside origin n → AllSets origin n after → ((s : Rrset) → rrset_of 6 after ≡ Some s → s.rtype ≡ 6) → AllSaidBy origin (soa_additions mode n x (rrset_of 6 after))
soa_said mode origin n x after inside h typed = by_found (rrset_of 6 after) refl
  where
    by_found : (f : Option Rrset) → rrset_of 6 after ≡ f → AllSaidBy origin (soa_additions mode n x f)
    by_found None e = tt
    by_found (Some t) e =
        let is = found_all (IsSet origin n) 6 after t h e in
        let k : IsKnown 6 t.ttl = subst (λ (k : ℕ). IsKnown k t.ttl) (typed t e) (known_of origin n t is) in
        of_soas (IsTold origin) mode n x t.ttl t.records
        (all_of (IsData 6) (HasSoa (IsTold origin) n t.ttl) (λ octets d. (one_said origin n 6 t.ttl octets inside k d, one_said origin n 6 t.ttl (renumbered octets) inside k (renumbered_data octets d))) t.records
        (subst (λ (k : ℕ). AllByRecursion (IsData k) t.records) (typed t e) is.each))

inside_of : (origin : Name) (pair : Name × Entry) → IsOwned origin pair → IsInside origin pair.0
inside_of origin pair o = record { name = o.item.name; under = o.under }

pair_said : (mode : Serial) (origin : Name) (before : Entry) (a : Name × Entry) → AllSets origin a.0 before → IsOwned origin a → AllSaidBy origin (entry_difference mode a.0 before a.1)
pair_said mode origin before a g o =
    let inside : IsInside origin a.0 = inside_of origin a o in
    of_entry (IsTold origin) mode a.0 before a.1 (sets_said Before origin a.0 before inside g) (sets_said After origin a.0 a.1 inside o.sets)
    (soa_said mode origin a.0 (rrset_of 6 before) a.1 inside o.sets (λ s e. (is_found None 6 a.1 s o.item.proper e).1))

pub difference_told : (mode : Serial) (origin : Name) (before after : Version) → CanBeDumped origin before → CanBeDumped origin after → AllByRecursion (IsTold origin) (difference mode before after)
difference_told mode origin before after h k =
    let a = well_formed origin before h in
    let b = well_formed origin after k in
    of_difference (IsTold origin) mode (IsOwned origin) (inside_of origin) (λ c o. pair_said mode origin [] c tt o)
    (λ b a same p o. subst (λ (n : Name). AllSaidBy origin (entry_difference mode n b.1 a.1)) (sym same) (pair_said mode origin b.1 a (subst (λ (n : Name). AllSets origin n b.1) same p.sets) o)) before after a.each b.each

-- ---- so each part of a difference leaves a zone

pub cut : (mode : Serial) (origin : Name) (before after : Version) (front back : List Operation) → CanBeDumped origin before → CanBeDumped origin after → difference mode before after ≡ front ++ back
    → (middle : Version) × CutAt origin front back before (made mode origin before after) middle
cut mode origin before after front back h k e =
    let m = front_taken origin front back before (made mode origin before after) (subst (λ (l : List Operation). all_applied origin l before ≡ Ok (made mode origin before after)) e (difference_makes mode origin before after h k)) in
    let saids : AllSaidBy origin front = front_all (IsTold origin) front back (subst (AllSaidBy origin) e (difference_told mode origin before after h k)) in
    (m.0, record { taken = m.1; zone = whole_dumped origin (record { needs = []; operations = front }) before m.0 m.1 h (all_told_said origin front saids); on = m.2 })
