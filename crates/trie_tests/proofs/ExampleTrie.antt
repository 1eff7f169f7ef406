-- A trie of the names a. and b. in the first five cells of a memory.
use Rattle.std.specs.Char.{to_ascii_lowercase}
use Rattle.zone_model.specs.Keys.{first_position, second_position, key_of, Leads}
use Rattle.trie_model.specs.Extents.{ItemLies}
use Rattle.trie_model.specs.Extents.Extents.{last}
use Rattle.trie_read.specs.Reads.{EachTells}
use Rattle.std.proofs.Common.{◌≡◌, ◌∙◌, List, length, ℕ, zero, suc, ◌+◌, ◌^◌, ◌<◌, ◌≤◌, eqb, [], ◌∷◌, Some, slice_index, count_by, count_ones, arith, inl, inr, refl, ap, subst}
use Rattle.std.proofs.lemmas.Bool.Decides.{nat_tests}
use Rattle.packed_node.specs.declared.Cell.{Cell}
use Rattle.packed_node.specs.Nodes.{leaf_cell, branch_cell, IsBranch}
use Rattle.trie_model.specs.Keys.{at, IsKey, Entry, IsEntry}
use Rattle.trie_model.specs.Trees.{Tree, IsTree, AllAt}
use Rattle.trie_model.specs.Trees.Tree.{leaf, branch}
use Rattle.trie_model.specs.Trees.Twigs.{none, twig}
use Rattle.trie_model.specs.Reach.{reach}
use Rattle.trie_model.specs.Memory.{Stands}
use Rattle.trie_tests.specs.Example.{key_of_letter, item_of_letter, two_names}
use lib.Count

abbrev entry_of_letter : ℕ → ℕ → Entry
entry_of_letter position letter = record { key = key_of_letter position; item = item_of_letter letter }

abbrev example : Tree
example = branch 0 1 (twig 17 (leaf (entry_of_letter 17 97) (last 3)) (twig 18 (leaf (entry_of_letter 18 98) (last 4)) none))

letter_is_key : (p : ℕ) → 17 ≤ p → p ≤ 42 → IsKey (key_of_letter p)
letter_is_key p l m = record { short = omega arith; positions = positions; ended = ended; full = full }
  where
    positions : (i : ℕ) → at (key_of_letter p) i < 47
    positions zero = omega arith
    positions (suc zero) = omega arith
    positions (suc (suc i)) = omega arith

    ended : (i : ℕ) → suc i ≡ length (key_of_letter p) → at (key_of_letter p) i ≡ 0
    ended zero e = absurd (omega arith)
    ended (suc zero) e = refl
    ended (suc (suc i)) e = refl

    full : (i : ℕ) → i < length (key_of_letter p) → at (key_of_letter p) i ≡ 0 → (j : ℕ) × (i ≡ suc j) × (0 < at (key_of_letter p) j)
    full zero k e = absurd (omega arith)
    full (suc zero) k e = (0, refl, omega arith)
    full (suc (suc i)) k e = absurd (omega arith)

letter_is_entry : (p l : ℕ) → 17 ≤ p → p ≤ 42 → l < 256 → IsEntry (entry_of_letter p l)
letter_is_entry p l a b c = record { key = letter_is_key p a b; item = record { some = omega arith; short = omega arith; octets = octets } }
  where
    octets : (i : ℕ) → slice_index (item_of_letter l) i < 256
    octets zero = omega arith
    octets (suc zero) = c
    octets (suc (suc zero)) = omega arith
    octets (suc (suc (suc i))) = omega arith

all_at : (p l : ℕ) → AllAt 0 p (entry_of_letter p l ∷ [])
all_at p l e i = elim i [ inl y ↦ ap (λ (z : Entry). at z.key 0) y | inr z ↦ absurd z ]

shape : IsTree 0 example
shape = (
  omega arith,
  omega arith,
  record { inside = omega arith; together = omega arith },
  omega arith,
  λ a b i j k l. absurd (omega arith),
  (
    omega arith,
    omega arith,
    all_at 17 97,
    (letter_is_entry 17 97 (omega arith) (omega arith) (omega arith), (omega arith, record { inside = omega arith; together = omega arith })),
    (omega arith, omega arith, all_at 18 98, (letter_is_entry 18 98 (omega arith) (omega arith) (omega arith), (omega arith, record { inside = omega arith; together = omega arith })), tt),
  ),
)

once : (q : ℕ) → count_by (λ x. eqb x q) (reach 0 example) ≤ 1
once q = grind (arith, nat_tests)

two_bits : count_ones (2 ^ 17 + 2 ^ 18) ≡ 2
unfolding lib.Count.ones
two_bits = refl

pub example_branch : (bitmap : ℕ) → bitmap ≡ 2 ^ 17 + 2 ^ 18 → IsBranch (record { offset = 0; bitmap = bitmap; twigs = 1 })
example_branch bitmap e = record { positions = omega arith; two = (let n = ap count_ones e in let m = two_bits in omega arith); early = omega arith; inside = omega arith }

pub two_names_stand : (has : ℕ → Cell → Type 0) (bitmap : ℕ) → bitmap ≡ 2 ^ 17 + 2 ^ 18 → has 0 (branch_cell (record { offset = 0; bitmap = bitmap; twigs = 1 })) → has 1 (leaf_cell (record { len = 3; at = 3 })) →
    has 2 (leaf_cell (record { len = 3; at = 4 })) → ItemLies has (last 3) (item_of_letter 97) → ItemLies has (last 4) (item_of_letter 98) → Stands has (Some 0) two_names
two_names_stand has bitmap e root a b first second = (
  example,
  record {
    shape = shape;
    inside = omega arith;
    top = subst (λ (n : ℕ). has 0 (branch_cell (record { offset = 0; bitmap = n; twigs = 1 }))) e root;
    beneath = (a, first, (b, second, tt));
    once = once;
    holds = refl;
  },
)

-- the items of a. and b. tell their keys
letter_leads : (key item : List ℕ) (octet : ℕ) → item ≡ item_of_letter octet → octet < 256 → to_ascii_lowercase octet ≡ octet → key ≡ key_of ((octet ∷ []) ∷ []) → Leads key item
letter_leads key item octet i l f k = record {
  short = (let n = ap (λ (xs : List ℕ). length xs) i in omega arith);
  name = (octet ∷ []) ∷ [];
  is_name = record { each = (record { some = omega arith; short = omega arith; octets = (l, tt); folded = (f, tt) }, tt); short = omega arith };
  key = k;
  front = ([], i ∙ refl);
}

pub two_names_tell : EachTells Leads two_names
unfolding first_position second_position
two_names_tell e i = elim i [
  | inl a ↦ letter_leads e.key e.item 97 (ap (λ (x : Entry). x.item) a) (omega arith) refl (ap (λ (x : Entry). x.key) a)
  | inr j ↦ elim j [ inl b ↦ letter_leads e.key e.item 98 (ap (λ (x : Entry). x.item) b) (omega arith) refl (ap (λ (x : Entry). x.key) b) | inr z ↦ absurd z ]
]
