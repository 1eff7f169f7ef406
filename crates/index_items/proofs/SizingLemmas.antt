-- A zone's size, counted item by item.
use Rattle.std.proofs.Common.{◌≡◌, ◌∙◌, ℕ, ◌<◌, ◌^◌, List, [], ◌∷◌, ◌++◌, length, length-append, append-nil, append_assoc, arith, refl, sym, ap, subst}
use Rattle.std.proofs.lemmas.List.{length-map}
use Rattle.std.specs.Int.{w16, to_be_bytes}
use Rattle.std.specs.List.{flat_map}
use Rattle.zone_model.specs.Names.{Name, wire}
use Rattle.zone_model.specs.Records.{Entry, IsItem, rrset_bytes}
use Rattle.zone_model.specs.Versions.{Version}
use Rattle.trie_model.specs.Keys.{Entry as TrieEntry, Rises}
use Rattle.trie_model.proofs.KeyLaws.{in_left}
use Rattle.trie_size.specs.declared.size.TrieSize.{TrieSize}
use Rattle.trie_size.specs.Sizes.{IsSizeOf, Follows}
use Rattle.zone_answer.specs.Standing.{trie_entry}
use Rattle.job_model.specs.Sizes.{trie_entries}

-- the size is that of what is done of all
pub record Counted (size : TrieSize) (left all : Version) : Type 0 where
  pub done : List TrieEntry
  pub sized : IsSizeOf size done
  pub whole : done ++ trie_entries left ≡ trie_entries all

rises_front : (xs ys : List TrieEntry) → Rises (xs ++ ys) → Rises xs
rises_front [] ys r = tt
rises_front (x ∷ xs) ys r = (λ y i. r.0 y (in_left y xs ys i), rises_front xs ys r.1)

-- what is left, its first name taken apart
module _ {size : TrieSize} {all : Version} (pair : Name × Entry) (old left : Version) (octets : List ℕ) (is : IsItem octets pair.0 pair.1) (first : old ≡ pair ∷ left) (so_far : Counted size old all) where
  more : (so_far.done ++ trie_entry pair ∷ []) ++ trie_entries left ≡ trie_entries all
  more = append_assoc so_far.done (trie_entry pair ∷ []) (trie_entries left) ∙ ap (λ (v : Version). so_far.done ++ trie_entries v) (sym first) ∙ so_far.whole

  pub comes_next : length all < 2 ^ 40 → Rises (trie_entries all) → Follows size octets so_far.done (trie_entry pair)
  comes_next few rises = record {
    counted = so_far.sized;
    few = (
        let a = ap (λ (xs : List TrieEntry). length xs) more in
        let b = length-append (so_far.done ++ trie_entry pair ∷ []) (trie_entries left) in
        let c = length-append so_far.done (trie_entry pair ∷ []) in
        let d = length-map all trie_entry in omega arith
        );
    item = sym is.octets;
    leads = record {
      short = is.short;
      name = pair.0;
      is_name = is.name;
      key = refl;
      front = (to_be_bytes w16 (length pair.1) ++ flat_map rrset_bytes pair.1, is.octets ∙ append_assoc (wire pair.0) (to_be_bytes w16 (length pair.1)) (flat_map rrset_bytes pair.1));
    };
    rising = rises_front (so_far.done ++ trie_entry pair ∷ []) (trie_entries left) (subst Rises (sym more) rises);
  }

  pub one_more : {new : TrieSize} → IsSizeOf new (so_far.done ++ trie_entry pair ∷ []) → Counted new left all
  one_more sized = record { done = so_far.done ++ trie_entry pair ∷ []; sized = sized; whole = more }

pub all_counted : {size : TrieSize} {left all : Version} → Counted size left all → left ≡ [] → IsSizeOf size (trie_entries all)
all_counted {size} {left} {all} c none = subst (IsSizeOf size) (sym (append-nil c.done) ∙ ap (λ (v : Version). c.done ++ trie_entries v) (sym none) ∙ c.whole) c.sized
