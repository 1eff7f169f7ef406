-- The minimum of an SOA is a time.
use Rattle.std.proofs.Common.{◌≡◌, ◌∙◌, ℕ, ◌+◌, ◌-◌, ◌*◌, ◌≤◌, true, leb, eqb-true, List, [], ◌∷◌, ◌++◌, length, get_or, Option, Some, None, refl, sym, ap, subst, arith, length-append, append_assoc, get_or-drop}
use Rattle.std.proofs.lemmas.List.{drop_at}
use borrow.Author.Tests.{leb-true}
use Rattle.std.specs.Option.{option_map}
use Rattle.std.specs.Int.{w32, from_be_bytes}
use Rattle.zone_model.specs.Names.{Name, wire}
use Rattle.zone_model.specs.DataWords.{most_time}
use Rattle.zone_model.specs.Types.{Field, NameField, ShortField, NumberField, TimeField, AddressField, Address6Field}
use Rattle.zone_model.specs.Splits.{split_octets, split_name}
use Rattle.zone_model.specs.DataForms.{split_time, field_rest, fits_behind, fields_fit}
use Rattle.zone_model.specs.MasterFile.{number_at, minimum_of}
use Rattle.zone_model.proofs.SplitLemmas.{and_some, map_some, cond_some, octets_sound, name_sound}
use Rattle.report_laws.specs.Octets.{AllOctets}
use Rattle.report_laws.proofs.EntryLemmas.{IsData}
use Rattle.report_laws.proofs.NameLemmas.{index_small}

-- octets that end with these
record EndsWith (octets back : List ℕ) : Type 0 where
  front : List ℕ
  is : octets ≡ front ++ back

-- octets that end with a time
record EndsWithTime (octets : List ℕ) : Type 0 where
  front : List ℕ
  last : List ℕ
  is : octets ≡ front ++ last
  four : length last ≡ 4
  most : from_be_bytes w32 last ≤ most_time

all_behind : (front back : List ℕ) → AllOctets (front ++ back) → AllOctets back
all_behind [] back h = h
all_behind (c ∷ front) back h = all_behind front back h.1

split_ends : (n : ℕ) (octets back : List ℕ) → option_map (λ (x : List ℕ × List ℕ). x.1) (split_octets n octets) ≡ Some back → EndsWith octets back
split_ends n octets back h =
    let m = map_some (λ (x : List ℕ × List ℕ). x.1) (split_octets n octets) back h in
    subst (EndsWith octets) m.2 (record { front = m.0.0; is = (octets_sound n octets m.0 m.1).1 })

time_split : (octets : List ℕ) (x : List ℕ × List ℕ) → split_time octets ≡ Some x → (split_octets 4 octets ≡ Some x) × (from_be_bytes w32 x.0 ≤ most_time)
time_split octets x h =
    let a = and_some _ (split_octets 4 octets) x h in
    let c = cond_some (leb (from_be_bytes w32 a.0.0) most_time) (Some a.0) x a.2 in
    let same : a.0 ≡ x = cc in
    (a.1 ∙ ap (λ (y : List ℕ × List ℕ). Some y) same, subst (λ (y : List ℕ × List ℕ). from_be_bytes w32 y.0 ≤ most_time) same (leb-true (from_be_bytes w32 a.0.0) most_time c.0))

field_ends : (field : Field) (octets back : List ℕ) → AllOctets octets → field_rest field octets ≡ Some back → EndsWith octets back
field_ends NameField octets back small h =
    let m = map_some (λ (x : Name × List ℕ). x.1) (split_name octets) back h in
    subst (EndsWith octets) m.2 (record { front = wire m.0.0; is = (name_sound octets m.0 (λ i. index_small octets i small) m.1).octets })
field_ends ShortField octets back small h = split_ends 2 octets back h
field_ends NumberField octets back small h = split_ends 4 octets back h
field_ends TimeField octets back small h =
    let m = map_some (λ (x : List ℕ × List ℕ). x.1) (split_time octets) back h in
    let s = time_split octets m.0 m.1 in
    subst (EndsWith octets) m.2 (record { front = m.0.0; is = (octets_sound 4 octets m.0 s.0).1 })
field_ends AddressField octets back small h = split_ends 4 octets back h
field_ends Address6Field octets back small h = split_ends 16 octets back h

rest_fits : (o : Option (List ℕ)) (fields : List Field) → fits_behind o (fields_fit fields) ≡ true → (back : List ℕ) × (o ≡ Some back) × (fields_fit fields back ≡ true)
rest_fits None fields h = absurd cc
rest_fits (Some back) fields h = (back, refl, h)

nil_of : (back : List ℕ) → fields_fit [] back ≡ true → back ≡ []
unfolding fields_fit
nil_of [] h = refl
nil_of (c ∷ back) h = let none : length (c ∷ back) ≡ 0 = eqb-true (length (c ∷ back)) 0 h in absurd (omega arith)

time_last : (octets : List ℕ) → fields_fit (TimeField ∷ []) octets ≡ true → EndsWithTime octets
unfolding fields_fit
time_last octets h =
    let r = rest_fits (field_rest TimeField octets) [] h in
    let m = map_some (λ (x : List ℕ × List ℕ). x.1) (split_time octets) r.0 r.1 in
    let s = time_split octets m.0 m.1 in
    let o = octets_sound 4 octets m.0 s.0 in
    let none : m.0.1 ≡ [] = m.2 ∙ nil_of r.0 r.2 in
    record { front = []; last = m.0.0; is = o.1 ∙ ap (λ (l : List ℕ). m.0.0 ++ l) none ∙ nil_behind m.0.0; four = o.0; most = s.1 }
  where
    nil_behind : (l : List ℕ) → l ++ [] ≡ l
    nil_behind [] = refl
    nil_behind (c ∷ l) = ap (λ (r : List ℕ). c ∷ r) (nil_behind l)

one_ahead : (octets back : List ℕ) → EndsWith octets back → EndsWithTime back → EndsWithTime octets
one_ahead octets back e t = record { front = e.front ++ t.front; last = t.last; is = e.is ∙ ap (λ (l : List ℕ). e.front ++ l) t.is ∙ sym (append_assoc e.front t.front t.last); four = t.four; most = t.most }

step_in : (field : Field) (fields : List Field) (octets : List ℕ) → AllOctets octets → ((back : List ℕ) → AllOctets back → fields_fit fields back ≡ true → EndsWithTime back) → fields_fit (field ∷ fields) octets ≡ true → EndsWithTime octets
unfolding fields_fit
step_in field fields octets small f h =
    let r = rest_fits (field_rest field octets) fields h in
    let e = field_ends field octets r.0 small r.1 in
    one_ahead octets r.0 e (f r.0 (all_behind e.front r.0 (subst AllOctets e.is small)) r.2)

soa_ends : (octets : List ℕ) → AllOctets octets → fields_fit (NameField ∷ NameField ∷ NumberField ∷ TimeField ∷ TimeField ∷ TimeField ∷ TimeField ∷ []) octets ≡ true → EndsWithTime octets
soa_ends octets small h =
    step_in NameField _ octets small (λ a s.
    step_in NameField _ a s (λ b t.
    step_in NumberField _ b t (λ c u.
    step_in TimeField _ c u (λ d v.
    step_in TimeField _ d v (λ e w.
    step_in TimeField _ e w (λ f x. time_last f)))))) h

last_number : (last : List ℕ) → length last ≡ 4 → from_be_bytes w32 last ≡ ((get_or last 0 0 * 256 + get_or last 1 0) * 256 + get_or last 2 0) * 256 + get_or last 3 0
last_number [] e = absurd (omega arith)
last_number (a ∷ []) e = absurd (omega arith)
last_number (a ∷ b ∷ []) e = absurd (omega arith)
last_number (a ∷ b ∷ c ∷ []) e = absurd (omega arith)
last_number (a ∷ b ∷ c ∷ d ∷ []) e = omega arith
last_number (a ∷ b ∷ c ∷ d ∷ x ∷ more) e = absurd (omega arith)

number_behind : (front last : List ℕ) → number_at (length front) (front ++ last) ≡ ((get_or last 0 0 * 256 + get_or last 1 0) * 256 + get_or last 2 0) * 256 + get_or last 3 0
number_behind front last =
    let at : (i : ℕ) → get_or (front ++ last) (length front + i) 0 ≡ get_or last i 0 = λ i. sym (get_or-drop (length front) (front ++ last) i 0) ∙ ap (λ (l : List ℕ). get_or l i 0) (drop_at front last (length front) refl) in
    let zeroth : get_or (front ++ last) (length front) 0 ≡ get_or last 0 0 = ap (λ (n : ℕ). get_or (front ++ last) n 0) (let e : length front ≡ length front + 0 = omega arith in e) ∙ at 0 in
    omega (arith, zeroth, at 1, at 2, at 3)

pub minimum_is : (octets : List ℕ) → IsData 6 octets → minimum_of octets ≤ most_time
minimum_is octets d =
    let e = soa_ends octets d.bytes d.form in
    let place : length octets - 4 ≡ length e.front = omega (arith, ap (λ (l : List ℕ). length l) e.is, length-append e.front e.last, e.four) in
    let value : minimum_of octets ≡ from_be_bytes w32 e.last =
    ap (λ (n : ℕ). number_at n octets) place ∙ ap (λ (l : List ℕ). number_at (length e.front) l) e.is ∙ number_behind e.front e.last ∙ sym (last_number e.last e.four) in
    subst (λ (n : ℕ). n ≤ most_time) (sym value) e.most
