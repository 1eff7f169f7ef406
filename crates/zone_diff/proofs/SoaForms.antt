-- The data of an SOA ends in five numbers, so it has twenty octets or more.
use Rattle.std.proofs.Common.{◌≡◌, ◌∙◌, ℕ, zero, suc, ◌+◌, ◌<◌, ◌≤◌, true, cond, leb, List, [], ◌∷◌, length, get_or, Option, Some, None, refl, ap, subst, arith, length-append}
use Rattle.std.specs.List.{AllByRecursion}
use Rattle.std.specs.Int.{w32, from_be_bytes}
use Rattle.zone_model.specs.Names.{Name, wire}
use Rattle.zone_model.specs.DataWords.{most_time}
use Rattle.zone_model.specs.Types.{Field, NameField, ShortField, NumberField, TimeField, AddressField, Address6Field}
use Rattle.zone_model.specs.Splits.{split_octets, split_name}
use Rattle.zone_model.specs.DataForms.{split_time, field_rest, fits_behind, fields_fit, form_fits}
use Rattle.zone_model.proofs.SplitLemmas.{map_some, and_some, cond_some, octets_sound, name_sound, bytes_behind}

pub is_bytes : (l : List ℕ) → AllByRecursion (λ c. c < 256) l → (i : ℕ) → get_or l i 0 < 256
is_bytes [] h i = omega arith
is_bytes (x ∷ l) h zero = h.0
is_bytes (x ∷ l) h (suc i) = is_bytes l h.1 i

-- a field of numbers has so many octets
abbrev least : Field → ℕ
least NameField = 0
least ShortField = 2
least NumberField = 4
least TimeField = 4
least AddressField = 4
least Address6Field = 16

abbrev least_of : List Field → ℕ
least_of [] = 0
least_of (field ∷ fields) = least field + least_of fields

record Behind (n : ℕ) (octets rest : List ℕ) : Type 0 where
  long : n + length rest ≤ length octets
  bytes : (i : ℕ) → get_or rest i 0 < 256

-- what stands behind n octets
pub rest_long : (n : ℕ) (octets rest : List ℕ) (x : List ℕ × List ℕ) → split_octets n octets ≡ Some x → x.1 ≡ rest → length octets ≡ n + length rest
rest_long n octets rest x e is =
    let s = octets_sound n octets x e in
    let size = s.0 in
    let long : length octets ≡ length x.0 + length x.1 = ap (λ (l : List ℕ). length l) s.1 ∙ length-append x.0 x.1 in
    let behind : length x.1 ≡ length rest = ap (λ (l : List ℕ). length l) is in
    omega (arith, size, long, behind)

pub time_split : (octets rest : List ℕ) → field_rest TimeField octets ≡ Some rest → (x : List ℕ × List ℕ) × (split_octets 4 octets ≡ Some x) × (x.1 ≡ rest)
time_split octets rest e =
    let m = map_some (λ (x : List ℕ × List ℕ). x.1) (split_time octets) rest e in
    let a = and_some (λ (x : List ℕ × List ℕ). cond (leb (from_be_bytes w32 x.0) most_time) (Some x) None) (split_octets 4 octets) m.0 m.1 in
    let c = cond_some (leb (from_be_bytes w32 a.0.0) most_time) (Some a.0) m.0 a.2 in
    let same : a.0 ≡ m.0 = cc in
    (a.0, a.1, ap (λ (x : List ℕ × List ℕ). x.1) same ∙ m.2)

plain_behind : (n : ℕ) (octets rest : List ℕ) → ((i : ℕ) → get_or octets i 0 < 256) → (x : List ℕ × List ℕ) → split_octets n octets ≡ Some x → x.1 ≡ rest → Behind n octets rest
plain_behind n octets rest b x e is =
    let s = octets_sound n octets x e in
    let long = rest_long n octets rest x e is in
    record { long = omega (arith, long); bytes = subst (λ (l : List ℕ). (i : ℕ) → get_or l i 0 < 256) is (bytes_behind x.0 x.1 (subst (λ (l : List ℕ). (i : ℕ) → get_or l i 0 < 256) s.1 b)) }

field_behind : (field : Field) (octets rest : List ℕ) → ((i : ℕ) → get_or octets i 0 < 256) → field_rest field octets ≡ Some rest → Behind (least field) octets rest
field_behind NameField octets rest b e =
    let m = map_some (λ (x : Name × List ℕ). x.1) (split_name octets) rest e in
    let s = name_sound octets m.0 b m.1 in
    let long : length octets ≡ length (wire m.0.0) + length m.0.1 = ap (λ (l : List ℕ). length l) s.octets ∙ length-append (wire m.0.0) m.0.1 in
    subst (Behind 0 octets) m.2 (record { long = omega (arith, long); bytes = bytes_behind (wire m.0.0) m.0.1 (subst (λ (l : List ℕ). (i : ℕ) → get_or l i 0 < 256) s.octets b) })
field_behind ShortField octets rest b e = let m = map_some (λ (x : List ℕ × List ℕ). x.1) (split_octets 2 octets) rest e in plain_behind 2 octets rest b m.0 m.1 m.2
field_behind NumberField octets rest b e = let m = map_some (λ (x : List ℕ × List ℕ). x.1) (split_octets 4 octets) rest e in plain_behind 4 octets rest b m.0 m.1 m.2
field_behind TimeField octets rest b e = let t = time_split octets rest e in plain_behind 4 octets rest b t.0 t.1 t.2
field_behind AddressField octets rest b e = let m = map_some (λ (x : List ℕ × List ℕ). x.1) (split_octets 4 octets) rest e in plain_behind 4 octets rest b m.0 m.1 m.2
field_behind Address6Field octets rest b e = let m = map_some (λ (x : List ℕ × List ℕ). x.1) (split_octets 16 octets) rest e in plain_behind 16 octets rest b m.0 m.1 m.2

fields_long : (fields : List Field) (octets : List ℕ) → ((i : ℕ) → get_or octets i 0 < 256) → fields_fit fields octets ≡ true → least_of fields ≤ length octets
unfolding fields_fit
fields_long [] octets b e = omega arith
fields_long (field ∷ fields) octets b e = by_rest (λ rest k h. fields_long fields rest k h) (field_rest field octets) refl e
  where
    by_rest : ((rest : List ℕ) → ((i : ℕ) → get_or rest i 0 < 256) → fields_fit fields rest ≡ true → least_of fields ≤ length rest) → (r : Option (List ℕ)) → field_rest field octets ≡ r → fits_behind r (fields_fit fields) ≡ true
        → least field + least_of fields ≤ length octets
    by_rest more None f h = absurd cc
    by_rest more (Some rest) f h =
        let behind = field_behind field octets rest b f in
        let long = behind.long in
        let on = more rest behind.bytes h in
        omega (arith, long, on)

pub soa_long : (octets : List ℕ) → AllByRecursion (λ c. c < 256) octets → form_fits 6 octets ≡ true → 20 ≤ length octets
soa_long octets b e = fields_long (NameField ∷ NameField ∷ NumberField ∷ TimeField ∷ TimeField ∷ TimeField ∷ TimeField ∷ []) octets (is_bytes octets b) e
