-- What the trie holds: entries, each a key and an item, in the order of their keys.
-- A key is a list of positions (BIND's doc/design/qp-trie.md, "domain names and shift keys"): one or two, from 1 on, for
-- each octet of a name, and a 0 at the end of each label. Past its end it reads 0. An item is a list of octets.
use Rattle.std.specs.Prelude.{◌≡◌, ℕ, suc, ◌<◌, ◌≤◌, ◌⊎◌, List, [], ◌∷◌, length, slice_index}
use Rattle.zone_model.specs.Keys.{most_item_octets}

-- the position at a place
abbrev pub at : List ℕ → ℕ → ℕ
at key place = slice_index key place

-- the same positions before n
abbrev pub Same : ℕ → List ℕ → List ℕ → Type 0
Same n a b = (i : ℕ) → i < n → at a i ≡ at b i

pub record IsKey (key : List ℕ) : Type 0 where
  pub short : length key ≤ 504
  pub positions : (i : ℕ) → at key i < 47
  -- the last label is ended
  pub ended : (i : ℕ) → suc i ≡ length key → at key i ≡ 0
  -- no label is empty
  pub full : (i : ℕ) → i < length key → at key i ≡ 0 → (j : ℕ) × (i ≡ suc j) × (0 < at key j)

abbrev pub AreOctets : List ℕ → Type 0
AreOctets item = (i : ℕ) → slice_index item i < 256

pub record IsItem (item : List ℕ) : Type 0 where
  pub some : 0 < length item
  pub short : length item ≤ most_item_octets
  pub octets : AreOctets item

pub record Entry : Type 0 where
  pub key : List ℕ
  pub item : List ℕ

pub record IsEntry (e : Entry) : Type 0 where
  pub key : IsKey e.key
  pub item : IsItem e.item

-- a comes before b: at the first place where they differ it has the lower position
pub record Less (a b : List ℕ) : Type 0 where
  pub place : ℕ
  pub same : Same place a b
  pub lower : at a place < at b place

abbrev pub InList : Entry → List Entry → Type 0
InList e [] = ⊥
InList e (x ∷ xs) = (e ≡ x) ⊎ InList e xs

-- strictly rising
abbrev pub Rises : List Entry → Type 0
Rises [] = Unit {0}
Rises (x ∷ xs) = ((y : Entry) → InList y xs → Less x.key y.key) × Rises xs
