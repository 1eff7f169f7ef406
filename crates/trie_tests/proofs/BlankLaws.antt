-- The cells of an item of one extent, in a memory of which no version is kept.
use Rattle.std.proofs.Common.{◌≡◌, ◌≢◌, ℕ, zero, suc, ◌+◌, ◌%◌, ◌/◌, ◌<◌, ◌≤◌, Bool, true, nat_lt, List, [], ◌∷◌, Contains, length, slice_index, refl, sym, ap, subst, arith}
use Rattle.std.specs.List.{list_all}
use Rattle.std.proofs.lemmas.Bool.Decides.{nat_tests}
use Rattle.packed_node.specs.declared.Cell.{Cell}
use Rattle.chunk_cells.specs.Chunks.{IsGiven}
use Rattle.chunk_cells.specs.Laying.{AreBlank}
use Rattle.trie_model.specs.Extents.{Extents, AreExtents, IsBeside, IsRow, ItemLies, HasItem, content_cells, item_cell}
use Rattle.trie_model.specs.Extents.Extents.{last, linked}
use Rattle.trie_model.proofs.ExtentLaws.{linked_is, first_true, second_true}

none_kept : (q : ℕ) → Contains [] q → ⊥
none_kept q c = let l = c.1 in omega arith

pub lone_blank : (given : List Bool) (n r : ℕ) (x : Extents) → x ≡ last r → n ≤ 4096 → IsRow r (content_cells n) → IsGiven given (r / 1024) → AreBlank [] given n x
lone_blank given n r x is short row g = subst (AreBlank [] given n) (sym is) (record {
  are = (short, row);
  apart = tt;
  in_given = λ k l. let t = row.together in let e : r / 1024 ≡ (r + k) / 1024 = omega arith in subst (IsGiven given) e g;
  unkept = λ k l. none_kept (r + k);
})

-- its cells, and the item
pub lone_cell : (has : ℕ → Cell → Type 0) (r : ℕ) (x : Extents) (item : List ℕ) → x ≡ last r → ItemLies has x item → (k : ℕ) → k < content_cells (length item) → has (r + k) (item_cell item k)
lone_cell has r x item is lies = subst (λ (y : Extents). ItemLies has y item) is lies

pub lone_item : (has : ℕ → Cell → Type 0) (n r : ℕ) (x : Extents) (item : List ℕ) → x ≡ last r → n ≤ 4096 → IsRow r (content_cells n) → length item ≡ n → ItemLies has x item → HasItem has r n item
lone_item has n r x item is short row size lies = record {
  extents = last r;
  there = record { from = refl; size = size; are = (short, row); lies = lone_cell has r x item is lies };
}

-- a cell behind it, or before it
pub lone_beside : (q n r : ℕ) (x : Extents) → x ≡ last r → ((k : ℕ) → k < content_cells n → q ≢ r + k) → IsBeside q n x
lone_beside q n r x is apart = subst (IsBeside q n) (sym is) apart

-- an item of 4,097 octets in two extents
pub two_extents : AreExtents 4097 (linked 1030 (last 2048))
two_extents =
    let s = linked_is in
    (omega arith, record { inside = omega arith; together = omega arith }, (omega arith, record { inside = omega arith; together = omega arith }))

pub two_blank : (given : List Bool) → IsGiven given 1 → IsGiven given 2 → AreBlank [] given 4097 (linked 1030 (last 2048))
two_blank given first second = record {
  are = two_extents;
  apart = (λ k l j m e. let s = linked_is in omega arith, tt);
  in_given = (
    λ k l. let s = linked_is in let e : 1 ≡ (1030 + k) / 1024 = omega arith in subst (IsGiven given) e first,
    λ k l. let e : 2 ≡ (2048 + k) / 1024 = omega arith in subst (IsGiven given) e second,
  );
  unkept = (λ k l. none_kept (1030 + k), λ k l. none_kept (2048 + k));
}

-- numbers that pass the test are octets
pub small : (xs : List ℕ) → list_all (λ x. nat_lt x 256) xs ≡ true → (i : ℕ) → slice_index xs i < 256
small [] h i = omega arith
small (x ∷ xs) h zero = let t = first_true (nat_lt x 256) (list_all (λ x. nat_lt x 256) xs) h in grind (arith, nat_tests)
small (x ∷ xs) h (suc i) = small xs (second_true (nat_lt x 256) (list_all (λ x. nat_lt x 256) xs) h) i
