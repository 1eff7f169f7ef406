-- Rows that are counted as they come.
use Rattle.std.proofs.Common.{◌≡◌, ◌∙◌, ℕ, ◌+◌, eqb, Bool, true, false, cond, List, [], ◌∷◌, ◌++◌, length, Option, Some, None, refl, sym, ap, length-append}
use Rattle.std.proofs.lemmas.List.{length-map}
use Rattle.std.specs.List.{last_or}
use Rattle.std.specs.Option.{option_map}
use Rattle.zone_model.specs.Names.{Name}
use Rattle.zone_model.specs.Records.{Rrset}
use Rattle.zone_model.specs.Rows.{Row, rows_of}
use Rattle.zone_answer.specs.Responses.{of_type}
use Rattle.zone_answer.specs.Sections.{AreCounted, last_owner}
use Rattle.zone_answer.proofs.ResponseLaws.{set_kept, set_gone, of_type-append}

set_size : (owner : Name) (s : Rrset) → length (rows_of owner s) ≡ length s.records
set_size owner s = length-map s.records (λ octets. record { owner = owner; rtype = s.rtype; ttl = s.ttl; octets = octets })

aliases_of : (owner : Name) (s : Rrset) (b : Bool) → eqb s.rtype 5 ≡ b → length (of_type 5 (rows_of owner s)) ≡ cond b (length s.records) 0
aliases_of owner s true e = ap (λ (l : List Row). length l) (set_kept owner s 5 e) ∙ set_size owner s
aliases_of owner s false e = ap (λ (l : List Row). length l) (set_gone owner s 5 e)

last_in_set : (o : Option Row) (owner : Name) (rtype ttl : ℕ) (octets : List ℕ) (records : List (List ℕ)) → option_map (λ (r : Row). r.owner) (last_or o (rows_of owner (record { rtype = rtype; ttl = ttl; records = octets ∷ records }))) ≡ Some owner
last_in_set o owner rtype ttl octets [] = refl
last_in_set o owner rtype ttl octets (next ∷ records) = last_in_set (Some (record { owner = owner; rtype = rtype; ttl = ttl; octets = octets })) owner rtype ttl next records

last_behind : (o : Option Row) (rows : List Row) (owner : Name) (rtype ttl : ℕ) (octets : List ℕ) (records : List (List ℕ)) → option_map (λ (r : Row). r.owner) (last_or o (rows ++ rows_of owner (record { rtype = rtype; ttl = ttl; records = octets ∷ records }))) ≡ Some owner
last_behind o [] owner rtype ttl octets records = last_in_set o owner rtype ttl octets records
last_behind o (row ∷ rows) owner rtype ttl octets records = last_behind (Some row) rows owner rtype ttl octets records

with_records : (rows : List Row) (owner : Name) (rtype ttl : ℕ) (records : List (List ℕ)) → (length records ≡ 0 → ⊥) → last_owner (rows ++ rows_of owner (record { rtype = rtype; ttl = ttl; records = records })) ≡ Some owner
with_records rows owner rtype ttl [] some = absurd (some refl)
with_records rows owner rtype ttl (octets ∷ records) some = last_behind None rows owner rtype ttl octets records

-- the last row is of the last RRset that has some
pub last_of_set : (rows : List Row) (owner : Name) (s : Rrset) → (length s.records ≡ 0 → ⊥) → last_owner (rows ++ rows_of owner s) ≡ Some owner
last_of_set rows owner s some = with_records rows owner s.rtype s.ttl s.records some

-- an RRset more was handed on
pub counted_more : (had has : List Row → Type 0) (count aliases more_count more_aliases : ℕ) (last : Option Name) (owner : Name) (s : Rrset) (rows : List Row) → AreCounted had count aliases last rows → has (rows ++ rows_of owner s)
    → more_count ≡ count + length s.records → more_aliases ≡ aliases + cond (eqb s.rtype 5) (length s.records) 0 → (length s.records ≡ 0 → ⊥) → AreCounted has more_count more_aliases (Some owner) (rows ++ rows_of owner s)
counted_more had has count aliases more_count more_aliases last owner s rows c h n a some = record {
  handed_on = h;
  counted = n ∙ ap (λ (k : ℕ). k + length s.records) c.counted ∙ ap (λ (k : ℕ). length rows + k) (sym (set_size owner s)) ∙ sym (length-append rows (rows_of owner s));
  aliases_counted = a ∙ ap (λ (k : ℕ). k + cond (eqb s.rtype 5) (length s.records) 0) c.aliases_counted ∙ ap (λ (k : ℕ). length (of_type 5 rows) + k) (sym (aliases_of owner s (eqb s.rtype 5) refl))
      ∙ sym (length-append (of_type 5 rows) (of_type 5 (rows_of owner s))) ∙ ap (λ (l : List Row). length l) (sym (of_type-append 5 rows (rows_of owner s)));
  last_is = sym (last_of_set rows owner s some);
}
