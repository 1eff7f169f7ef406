-- Items of a version.
use Rattle.std.proofs.Common.{◌≡◌, ◌∙◌, ℕ, ◌-◌, take, List, ◌++◌, length, drop, sym, ap, subst, arith, length-append, append_assoc}
use Rattle.std.proofs.lemmas.List.{drop_at, take_all}
use Rattle.std.specs.List.{flat_map}
use Rattle.std.specs.Int.{w16, to_be_bytes}
use Rattle.zone_model.specs.Names.{Name, IsName, BeginsWith, wire}
use Rattle.dns_name.proofs.ScanLemmas.{begins_once}
use Rattle.zone_model.specs.Keys.{key_of}
use Rattle.zone_model.specs.Records.{Entry, IsItem, item, rrset_bytes}
use Rattle.trie_model.specs.Keys.{Entry as TrieEntry}
use Rattle.zone_answer.specs.Standing.{IsStorable, trie_entry}

abbrev record_of : List ℕ → List ℕ → TrieEntry
record_of key octets = record { key = key; item = octets }

-- octets that are an item begin with its owner
owner_is : (octets : List ℕ) (name owner : Name) (entry : Entry) → IsItem octets owner entry → IsName name → BeginsWith octets name → name ≡ owner
owner_is octets name owner entry is n b =
    begins_once octets name owner n.each is.name.each b
    (to_be_bytes w16 (length entry) ++ flat_map rrset_bytes entry, is.octets ∙ append_assoc (wire owner) (to_be_bytes w16 (length entry)) (flat_map rrset_bytes entry))

-- octets are the name that they begin with and what stands behind it
pub whole_octets : (octets : List ℕ) (name : Name) (split : ℕ) → BeginsWith octets name → split ≡ length (wire name) → wire name ++ take (length octets - split) (drop split octets) ≡ octets
whole_octets octets name split b e =
    ap (λ (l : List ℕ). wire name ++ take (length octets - split) (drop split l)) b.1
    ∙ ap (λ (l : List ℕ). wire name ++ take (length octets - split) l) (drop_at (wire name) b.0 split (sym e))
    ∙ ap (λ (l : List ℕ). wire name ++ l) (take_all (length octets - split) b.0 (omega (arith, ap length b.1, length-append (wire name) b.0)))
    ∙ sym b.1

-- what is made of them is the entry of the item that they are
pub item_entry : (octets : List ℕ) (name : Name) (made : TrieEntry) → BeginsWith octets name → IsName name → (split : ℕ) → split ≡ length (wire name) → made ≡ record { key = key_of name; item = wire name ++ take (length octets - split) (drop split octets) } → (owner : Name) (entry : Entry) → IsItem octets owner entry → made ≡ trie_entry (owner, entry)
item_entry octets name made b n split e m owner entry is =
    m ∙ ap (record_of (key_of name)) (whole_octets octets name split b e) ∙ ap (λ (l : List ℕ). record_of (key_of name) l) is.octets ∙ ap (λ (x : Name). record_of (key_of x) (item owner entry)) (owner_is octets name owner entry is n b)

pub storable : (name : Name) (entry : Entry) (bytes : List ℕ) → IsItem bytes name entry → IsStorable (name, entry)
storable name entry bytes is = subst (λ (x : List ℕ). IsItem x name entry) is.octets is
