-- What the octets of an item say, from the left: its owner, and its entry.
use Rattle.std.specs.Prelude.{ℕ, zero, suc, Bool, true, List, [], ◌∷◌, length, nat_le, nat_lt, ◌==◌, if◌then◌else◌, Option, Some, None, option_and_then}
use Rattle.std.specs.Option.{option_map}
use Rattle.std.specs.Int.{w16, w32, from_be_bytes}
use Rattle.std.specs.Ordering.{is_lt}
use Rattle.zone_model.specs.Names.{Name}
use Rattle.zone_model.specs.Records.{Rrset, Entry, octets_cmp, item_limit}
use Rattle.zone_model.specs.Splits.{split_octets, split_name}

-- a number of two octets, and of four, with what stands behind it
abbrev pub split_short : List ℕ → Option (ℕ × List ℕ)
split_short bytes = option_map (λ x. (from_be_bytes w16 x.0, x.1)) (split_octets 2 bytes)

abbrev pub split_number : List ℕ → Option (ℕ × List ℕ)
split_number bytes = option_map (λ x. (from_be_bytes w32 x.0, x.1)) (split_octets 4 bytes)

-- a record: its length, and its octets
abbrev pub split_record : List ℕ → Option (List ℕ × List ℕ)
split_record bytes = option_and_then (λ x. split_octets x.0 x.1) (split_short bytes)

abbrev pub is_above : Option (List ℕ) → List ℕ → Bool
is_above None octets = true
is_above (Some before) octets = is_lt (octets_cmp before octets)

-- n records in rising octets, above one that came before
unfoldable pub split_records : ℕ → Option (List ℕ) → List ℕ → Option (List (List ℕ) × List ℕ)
split_records zero before bytes = Some ([], bytes)
split_records (suc n) before bytes = option_and_then (λ x.
    if is_above before x.0 then option_map (λ y. (x.0 ∷ y.0, y.1)) (split_records n (Some x.0) x.1) else None) (split_record bytes)

abbrev pub set_of : ℕ → ℕ → List (List ℕ) × List ℕ → Rrset × List ℕ
set_of rtype ttl x = (record { rtype = rtype; ttl = ttl; records = x.0 }, x.1)

-- an RRset: its type, time to live, count and records
unfoldable pub split_set : List ℕ → Option (Rrset × List ℕ)
split_set bytes = option_and_then (λ t. option_and_then (λ l. option_and_then (λ n.
    if n.0 == 0 then None else option_map (set_of t.0 l.0) (split_records n.0 None n.1)) (split_short l.1)) (split_number t.1)) (split_short bytes)

abbrev pub type_above : Option ℕ → ℕ → Bool
type_above None rtype = true
type_above (Some before) rtype = nat_lt before rtype

-- n RRsets in rising type, above one that came before
unfoldable pub split_sets : ℕ → Option ℕ → List ℕ → Option (List Rrset × List ℕ)
split_sets zero before bytes = Some ([], bytes)
split_sets (suc n) before bytes = option_and_then (λ x.
    if type_above before x.0.rtype then option_map (λ y. (x.0 ∷ y.0, y.1)) (split_sets n (Some x.0.rtype) x.1) else None) (split_set bytes)

abbrev pub ended : List Rrset × List ℕ → Option Entry
ended x = if length x.1 == 0 then Some x.0 else None

-- an entry of some RRset, with nothing behind it
unfoldable pub entry_of : List ℕ → Option Entry
entry_of bytes = option_and_then (λ n. if n.0 == 0 then None else option_and_then ended (split_sets n.0 None n.1)) (split_short bytes)

-- the owner and the entry of an item
unfoldable pub item_of : List ℕ → Option (Name × Entry)
item_of bytes =
    if nat_le (length bytes) item_limit then option_and_then (λ x. option_map (λ entry. (x.0, entry)) (entry_of x.1)) (split_name bytes) else None
