-- The extents that an array gives, the first one apart.
use Rattle.std.proofs.Common.{◌≡◌, ℕ, zero, suc, ◌+◌, ◌-◌, ◌/◌, ◌<◌, ◌≤◌, Bool, List, [], ◌∷◌, Contains, length, drop, slice_index, arith, refl, ◌∙◌, ap, subst}
use Rattle.trie_model.specs.Extents.{Extents, first_of, linked_cells, links, content_cells, IsRow, IsBeside}
use Rattle.chunk_cells.specs.Chunks.{IsGiven}
use Rattle.trie_model.specs.Extents.Extents.{last, linked}
use Rattle.chunk_cells.specs.Laying.{AreBlank, extents_at}

first_only : (at : List ℕ) → 0 < length at → extents_at 0 at ≡ last (slice_index at 0)
first_only [] some = absurd (omega arith)
first_only (r ∷ rs) some = refl

first_of_more : (count : ℕ) (at : List ℕ) → 0 < length at → extents_at (suc count) at ≡ linked (slice_index at 0) (extents_at count (drop 1 at))
first_of_more count [] some = absurd (omega arith)
first_of_more count (r ∷ rs) some = refl

-- the only extent
pub one_extent : (n : ℕ) (at : List ℕ) → n ≤ 4096 → 0 < length at → extents_at (links n) at ≡ last (slice_index at 0)
one_extent n at short some = let e : links n ≡ 0 = omega arith in ap (λ (k : ℕ). extents_at k at) e ∙ first_only at some

-- the first of several
pub more_extents : (n : ℕ) (at : List ℕ) → 4096 < n → 0 < length at → extents_at (links n) at ≡ linked (slice_index at 0) (extents_at (links (n - 4080)) (drop 1 at))
more_extents n at long some = let e : links n ≡ suc (links (n - 4080)) = omega arith in ap (λ (k : ℕ). extents_at k at) e ∙ first_of_more (links (n - 4080)) at some

pub first_is : (count : ℕ) (at : List ℕ) → 0 < length at → first_of (extents_at count at) ≡ slice_index at 0
first_is count [] some = absurd (omega arith)
first_is zero (r ∷ rs) some = refl
first_is (suc count) (r ∷ rs) some = refl

pub record IsBlankRow (kept : List ℕ) (given : List Bool) (r count : ℕ) : Type 0 where
  pub row : IsRow r count
  pub in_given : (k : ℕ) → k < count → IsGiven given ((r + k) / 1024)
  pub unkept : (k : ℕ) → k < count → Contains kept (r + k) → ⊥

pub blank_row : (kept : List ℕ) (given : List Bool) (n : ℕ) (at : List ℕ) → n ≤ 4096 → 0 < length at → AreBlank kept given n (extents_at (links n) at) → IsBlankRow kept given (slice_index at 0) (content_cells n)
blank_row kept given n at short some h = of (subst (AreBlank kept given n) (one_extent n at short some) h)
  where
    of : AreBlank kept given n (last (slice_index at 0)) → IsBlankRow kept given (slice_index at 0) (content_cells n)
    of b = record { row = b.are.1; in_given = b.in_given; unkept = b.unkept }

-- the first of several, and those behind it
pub record BlankRows (kept : List ℕ) (given : List Bool) (n r : ℕ) (rest : Extents) : Type 0 where
  pub first : IsBlankRow kept given r linked_cells
  pub beside : (k : ℕ) → k < linked_cells → IsBeside (r + k) (n - 4080) rest
  pub behind : AreBlank kept given (n - 4080) rest

pub blank_rows : (kept : List ℕ) (given : List Bool) (n : ℕ) (at : List ℕ) → 4096 < n → 0 < length at → AreBlank kept given n (extents_at (links n) at) →
    BlankRows kept given n (slice_index at 0) (extents_at (links (n - 4080)) (drop 1 at))
blank_rows kept given n at long some h = of (subst (AreBlank kept given n) (more_extents n at long some) h)
  where
    of : AreBlank kept given n (linked (slice_index at 0) (extents_at (links (n - 4080)) (drop 1 at))) → BlankRows kept given n (slice_index at 0) (extents_at (links (n - 4080)) (drop 1 at))
    of b = record {
      first = record { row = b.are.1; in_given = b.in_given.0; unkept = b.unkept.0 };
      beside = b.apart.0;
      behind = record { are = b.are.2; apart = b.apart.1; in_given = b.in_given.1; unkept = b.unkept.1 };
    }
