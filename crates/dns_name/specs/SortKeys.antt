-- The sort key of a name: octets that compare one by one as names do (RFC 4034, section 6.1). The labels stand from the
-- root downwards, each with a 0 behind it; octets 0 and 1 are written as a 1 and then 1 or 2.
use Rattle.std.specs.Prelude.{◌≡◌, ℕ, zero, suc, ◌+◌, ◌*◌, Bool, List, [], ◌∷◌, ◌++◌, drop, nat_lt, if◌then◌else◌, true, false}
use Rattle.std.specs.declared.cmp.Ordering.{Ordering}
use Rattle.std.specs.Ordering.{nat_cmp, ordering_then}
use Rattle.std.specs.Cmp.Lexicographic.{slice_cmp}
use Rattle.zone_model.specs.Names.{Label, Name, is_under}
use Rattle.dns_name.specs.declared.sort_key.SortKey.{SortKey}

abbrev pub escaped : ℕ → List ℕ
escaped c = if nat_lt c 2 then 1 ∷ (c + 1) ∷ [] else c ∷ []

abbrev pub label_key : Label → List ℕ
label_key [] = 0 ∷ []
label_key (c ∷ label) = escaped c ++ label_key label

abbrev pub sort_key : Name → List ℕ
sort_key [] = []
sort_key (label ∷ labels) = sort_key labels ++ label_key label

-- Some first octets as one number behind another: nine bits each, one more than the octet, and 0 past the end.
unfoldable pub weight : ℕ → ℕ → List ℕ → ℕ
weight zero n octets = n
weight (suc left) n [] = weight left (512 * n) []
weight (suc left) n (c ∷ octets) = weight left (512 * n + c + 1) octets

-- a name was found to stand under another or not, and the sort key of what stands in front of that was pushed
abbrev pub PushesBelow : Bool → Name → Name → List ℕ → List ℕ → Type 0
PushesBelow true name top old new = (front : Name) × (name ≡ front ++ top) × (new ≡ old ++ sort_key front)
PushesBelow false name top old new = is_under name top ≡ false

-- the parts of a key are those of these octets
pub record IsKeyOf (key : SortKey) (octets : List ℕ) : Type 0 where
  pub front : key.front ≡ weight 7 0 octets
  pub middle : key.middle ≡ weight 7 0 (drop 7 octets)
  pub rest : key.rest.items ≡ drop 7 (drop 7 octets)

-- the key of a name under another, which is that of the labels in front
abbrev pub KeyBelow : Name → Name → SortKey → Type 0
KeyBelow name top key = (front : Name) × (name ≡ front ++ top) × IsKeyOf key (sort_key front)

-- keys compare by their numbers, and then by the octets behind
abbrev pub key_cmp : SortKey → SortKey → Ordering
key_cmp a b = ordering_then (nat_cmp a.front b.front) (ordering_then (nat_cmp a.middle b.middle) (slice_cmp nat_cmp a.rest.items b.rest.items))
