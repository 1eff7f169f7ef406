-- A version of a zone, and the entries of the trie that it stands as.
use Rattle.std.specs.Prelude.{◌≡◌, ℕ, ◌≤◌, suc, true, List, ◌++◌, length, map}
use Rattle.std.specs.List.{AllByRecursion}
use Rattle.std.specs.List.Sorted.{IsStrictlySortedBy}
use Rattle.std.specs.Map.{keys_of}
use Rattle.zone_model.specs.Names.{Name, is_under, name_cmp}
use Rattle.zone_model.specs.Keys.{key_of, most_item_octets}
use Rattle.zone_model.specs.Records.{Entry, IsItem, item}
use Rattle.zone_model.specs.Versions.{Version}
use Rattle.packed_node.specs.declared.Leaf.{Leaf}
use Rattle.trie_model.specs.Keys as trie
use Rattle.trie_model.specs.Order.{chain}
use Rattle.trie_read.specs.Above.{AreAncestors}
use Rattle.trie_read.specs.declared.ancestors.Ancestor.{Ancestor}

-- a name's records can be an item
abbrev pub IsStorable : Name × Entry → Type 0
IsStorable pair = IsItem (item pair.0 pair.1) pair.0 pair.1

-- names in strictly rising order, each with some records that can be an item
pub record IsVersion (version : Version) : Type 0 where
  pub rising : IsStrictlySortedBy name_cmp (keys_of version)
  pub items : AllByRecursion IsStorable version

-- what the trie has for a name: its key and its item
abbrev pub trie_entry : Name × Entry → trie.Entry
trie_entry pair = record { key = key_of pair.0; item = item pair.0 pair.1 }

-- a reading that holds some entries shows the version that they are
pub record Shows (holds : List trie.Entry → Type 0) (version : Version) : Type 0 where
  pub version_is : IsVersion version
  pub held : holds (map trie_entry version)

-- it shows some version
abbrev pub ShowsSome : (List trie.Entry → Type 0) → Type 0
ShowsSome holds = (version : Version) × Shows holds version

-- it shows a version, and these are the leaves of a name and of the names above it that are there
pub record ShowsAbove (holds : List trie.Entry → Type 0) (lies : Leaf → trie.Entry → Type 0) (name : Name) (above : List Ancestor) (version : Version) : Type 0 where
  pub shows : Shows holds version
  pub above_are : AreAncestors lies (chain (key_of name) (map trie_entry version)) above

-- it shows a version, and an iterator stands somewhere in it
pub record StandsOn (holds : List trie.Entry → Type 0) (stands : List trie.Entry → List trie.Entry → Type 0) (version : Version) : Type 0 where
  pub shows : Shows holds version
  pub before : List trie.Entry
  pub after : List trie.Entry
  pub whole : map trie_entry version ≡ before ++ after
  pub standing : stands before after

-- a key has its positions before a place in common with some entry's, and no more with any
pub record PartsAt (key : List ℕ) (all : List trie.Entry) (place : ℕ) : Type 0 where
  pub entry : trie.Entry
  pub there : trie.InList entry all
  pub same : trie.Same place key entry.key
  pub most : (x : trie.Entry) → trie.InList x all → trie.Same (suc place) key x.key → ⊥

-- it shows a version, an iterator stands somewhere in it, and the key of a name parts at a place from its names' keys
pub record IsApart (holds : List trie.Entry → Type 0) (stands : List trie.Entry → List trie.Entry → Type 0) (name : Name) (place : ℕ) (version : Version) : Type 0 where
  pub on : StandsOn holds stands version
  pub parts : PartsAt (key_of name) (map trie_entry version) place

-- ---- what a look at a name asks for

-- its item is read by its key
pub record CanFetch (holds : List trie.Entry → Type 0) (name : Name) (positions item : List ℕ) : Type 0 where
  -- a version is shown
  pub shown : ShowsSome holds
  -- the key is the name's
  pub key : positions ≡ key_of name
  -- each item fits
  pub room : most_item_octets ≤ length item

-- so it is, of a name that a zone may have
pub record CanGive (holds : List trie.Entry → Type 0) (origin name : Name) (positions item : List ℕ) : Type 0 where
  -- a version is shown
  pub shown : ShowsSome holds
  -- the name is at or under the origin
  pub under : is_under name origin ≡ true
  -- the key is the name's
  pub key : positions ≡ key_of name
  -- each item fits
  pub room : most_item_octets ≤ length item

-- the names above one that a zone may have are looked at
pub record CanLookAbove (holds : List trie.Entry → Type 0) (lies : Leaf → trie.Entry → Type 0) (origin name : Name) (above : List Ancestor)
    (item : List ℕ) : Type 0 where
  -- a version is shown, and these are the leaves of the names above
  pub shown : (zone : Version) × ShowsAbove holds lies name above zone
  -- the name is at or under the origin
  pub under : is_under name origin ≡ true
  -- each item fits
  pub room : most_item_octets ≤ length item
