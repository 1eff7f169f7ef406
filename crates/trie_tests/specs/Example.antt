-- Names of one letter, with nothing but the name in their items: entries for a test.
use Rattle.std.specs.Prelude.{ℕ, List, [], ◌∷◌}
use Rattle.trie_model.specs.Keys.{Entry}

-- the letter's position, and the end of the label
abbrev pub key_of_letter : ℕ → List ℕ
key_of_letter position = position ∷ (0 ∷ [])

abbrev pub item_of_letter : ℕ → List ℕ
item_of_letter letter = 1 ∷ (letter ∷ (0 ∷ []))

-- a. and b.
abbrev pub two_names : List Entry
two_names = record { key = key_of_letter 17; item = item_of_letter 97 } ∷ (record { key = key_of_letter 18; item = item_of_letter 98 } ∷ [])
