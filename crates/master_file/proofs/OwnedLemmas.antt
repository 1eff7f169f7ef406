-- What one name owns, as it is kept.
use Rattle.std.proofs.Common.{◌≡◌, ◌∙◌, ℕ, ◌<◌, ◌≤◌, Bool, true, false, ltb, eqb, List, [], ◌∷◌, ◌++◌, length, refl, sym, ap, subst, arith, Option, Some, None, Ok, unwrap_or}
use Rattle.std.proofs.lemmas.Bool.Decides.{nat_tests}
use Rattle.std.specs.Map.{lookup}
use Rattle.std.specs.BTreeMap.{insert_entry, is_at}
use Rattle.std.specs.List.{flat_map}
use Rattle.std.specs.Int.{w16, to_be_bytes}
use Rattle.std.proofs.Common.{append_assoc}
use Rattle.zone_model.specs.Names.{Name, IsName, BeginsWith, wire}
use Rattle.zone_model.specs.Records.{Entry, IsItem, item, item_limit, fresh, with_rr, rrset_bytes}
use Rattle.zone_model.specs.Items.{item_of}
use Rattle.zone_model.specs.Refusals.{Refused}
use Rattle.zone_model.specs.declared.ZoneKind.{ZoneKind}
use Rattle.zone_model.specs.declared.ZoneKind.TheVariants.{LongEntry}
use Rattle.zone_model.specs.MasterFile.{entry_fault, unless_fault}
use Rattle.zone_model.proofs.ItemLemmas.{item_back}
use Rattle.dns_name.specs.declared.sort_key.SortKey.{SortKey}
use Rattle.dns_name.specs.SortKeys.{key_cmp}
use Rattle.dns_name.proofs.ScanLemmas.{begins_once}
use Rattle.master_file.specs.Owned.{One}
use Rattle.master_file.specs.Owners.{Held, placed_at}

abbrev record_of : ℕ → ZoneKind → Refused ZoneKind
record_of line kind = record { line = line; kind = kind }

-- one record can stand, unless its item is too long
pub single_stands : (owner : Name) (rtype ttl : ℕ) (octets : List ℕ) → length (item owner (fresh rtype ttl octets ∷ [])) ≤ item_limit → entry_fault owner (fresh rtype ttl octets ∷ []) ≡ None
single_stands owner rtype ttl octets h = by_tests (eqb rtype 6) (eqb rtype 5) (ltb item_limit (length (item owner (fresh rtype ttl octets ∷ [])))) refl refl (grind (arith, nat_tests))
  where
    by_tests : (a b c : Bool) → eqb rtype 6 ≡ a → eqb rtype 5 ≡ b → ltb item_limit (length (item owner (fresh rtype ttl octets ∷ []))) ≡ false → entry_fault owner (fresh rtype ttl octets ∷ []) ≡ None
    by_tests true true c e f g = rw (e, f, g) refl
    by_tests true false c e f g = rw (e, f, g) refl
    by_tests false true c e f g = rw (e, f, g) refl
    by_tests false false c e f g = rw (e, f, g) refl

pub single_long : (owner : Name) (rtype ttl : ℕ) (octets : List ℕ) → item_limit < length (item owner (fresh rtype ttl octets ∷ [])) → entry_fault owner (fresh rtype ttl octets ∷ []) ≡ Some LongEntry
single_long owner rtype ttl octets h = by_tests (eqb rtype 6) (eqb rtype 5) refl refl (grind (arith, nat_tests))
  where
    by_tests : (a b : Bool) → eqb rtype 6 ≡ a → eqb rtype 5 ≡ b → ltb item_limit (length (item owner (fresh rtype ttl octets ∷ []))) ≡ true → entry_fault owner (fresh rtype ttl octets ∷ []) ≡ Some LongEntry
    by_tests true true e f g = rw (e, f, g) refl
    by_tests true false e f g = rw (e, f, g) refl
    by_tests false true e f g = rw (e, f, g) refl
    by_tests false false e f g = rw (e, f, g) refl

-- an item is seen as its owner and entry
pub item_view : (octets : List ℕ) (owner : Name) (entry : Entry) → IsItem octets owner entry → unwrap_or (item_of octets) ([], []) ≡ (owner, entry)
item_view octets owner entry is = ap (λ (o : Option (Name × Entry)). unwrap_or o ([], [])) (item_back octets owner entry is)

pub item_length : (octets : List ℕ) (owner : Name) (entry : Entry) → IsItem octets owner entry → length (item owner entry) ≤ item_limit
item_length octets owner entry is = subst (λ (l : List ℕ). length l ≤ item_limit) is.octets is.short

-- so is one that is kept
pub single_is : (octets : List ℕ) (value : Name × Entry) → (owner : Name) × (r : One) × IsItem octets owner (fresh r.rtype r.ttl r.octets ∷ []) → unwrap_or (item_of octets) ([], []) ≡ value → IsItem octets value.0 value.1
single_is octets value kept e = subst (λ (v : Name × Entry). IsItem octets v.0 v.1) (sym (item_view octets kept.0 _ kept.2) ∙ e) kept.2

pub kept_stands : (octets : List ℕ) (value : Name × Entry) → (owner : Name) × (r : One) × IsItem octets owner (fresh r.rtype r.ttl r.octets ∷ []) → unwrap_or (item_of octets) ([], []) ≡ value → entry_fault value.0 value.1 ≡ None
kept_stands octets value kept e =
    subst (λ (v : Name × Entry). entry_fault v.0 v.1 ≡ None) (sym (item_view octets kept.0 _ kept.2) ∙ e) (single_stands kept.0 kept.1.rtype kept.1.ttl kept.1.octets (item_length octets kept.0 _ kept.2))

-- octets that are an item begin with its owner
pub owner_is : (octets : List ℕ) (name owner : Name) (entry : Entry) → IsItem octets owner entry → IsName name → BeginsWith octets name → name ≡ owner
owner_is octets name owner entry is n b =
    begins_once octets name owner n.each is.name.each b
    (to_be_bytes w16 (length entry) ++ flat_map rrset_bytes entry, is.octets ∙ append_assoc (wire owner) (to_be_bytes w16 (length entry)) (flat_map rrset_bytes entry))

pub begins_with_owner : (octets : List ℕ) (owner : Name) (entry : Entry) → IsItem octets owner entry → BeginsWith octets owner
begins_with_owner octets owner entry is = (to_be_bytes w16 (length entry) ++ flat_map rrset_bytes entry, is.octets ∙ append_assoc (wire owner) (to_be_bytes w16 (length entry)) (flat_map rrset_bytes entry))

-- a name's first record is put under its key
pub first_placed : (last : ℕ) (key : SortKey) (owner : Name) (rtype time : ℕ) (octets : List ℕ) (held new : Held) (kept : Name × Entry) → new ≡ insert_entry key_cmp held key kept → lookup (is_at (key_cmp key)) held ≡ None
    → kept ≡ (owner, with_rr rtype time octets []) → entry_fault kept.0 kept.1 ≡ None → placed_at last key owner rtype time octets held ≡ Ok new
first_placed last key owner rtype time octets held new kept e none same stands =
    ap (λ (o : Option (Name × Entry)). let p = unwrap_or o (owner, []) in unless_fault last (entry_fault p.0 (with_rr rtype time octets p.1)) (insert_entry key_cmp held key (p.0, with_rr rtype time octets p.1))) none
    ∙ ap (λ (f : Option ZoneKind). unless_fault last f (insert_entry key_cmp held key (owner, with_rr rtype time octets []))) (ap (λ (p : Name × Entry). entry_fault p.0 p.1) (sym same) ∙ stands)
    ∙ ap (λ (p : Name × Entry). Ok (insert_entry key_cmp held key p)) (sym same) ∙ ap (λ (h : Held). Ok h) (sym e)
