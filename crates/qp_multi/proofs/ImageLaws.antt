-- A kept image, read in the turn's cells: a root stands there for its version.
use Rattle.std.proofs.Common.{◌≡◌, ◌∙◌, ⊎_elim, inl, inr, ℕ, suc, ◌/◌, ◌<◌, ◌≤◌, ◌==◌, Bool, true, List, [], ◌∷◌, ◌++◌, map, count_by, slice_index, Option, Some, None, refl, sym, ap, arith}
use Rattle.std.specs.List.{All, AllPairs, Contains, list_all}
use Rattle.std.proofs.lemmas.List.Folds.{list_all-map}
use Rattle.std.proofs.lemmas.List.FromFn.{get_or-map-range_with_len, length-map-range_with_len}
use Rattle.std.proofs.lemmas.List.{get_or_past}
use Rattle.std.proofs.lemmas.Bool.{cases_lt}
use Rattle.std.proofs.lemmas.Bool.Decides.{nat_tests}
use Rattle.packed_node.specs.declared.Cell.{Cell}
use Rattle.pin_core.specs.declared.kept.CellAt.{CellAt}
use Rattle.pin_core.specs.declared.kept.Kept.{Kept}
use Rattle.pin_core.proofs.Lists.{contains_cases}
use Rattle.trie_model.specs.Keys.{Entry}
use Rattle.trie_model.specs.Reach.{reach, reach_below}
use Rattle.trie_model.proofs.ExtentLaws.{first_true, second_true}
use Rattle.trie_model.proofs.ReachLaws.{tested}
use Rattle.trie_space.specs.Standing.{Standing, StandsIn}
use Rattle.trie_write.proofs.RootLaws.{stands_later}
use Rattle.qp_multi.specs.Meanings.{in_image, Holds, IsImageOf, IsVersion}
use Rattle.qp_multi.specs.Turns.{cell_counts, current_image, current_root}
use Rattle.qp_multi.specs.Keepings.{numbers_of}
use Rattle.qp_multi.proofs.Lists.{all_from, none_counts, count_map}
use Rattle.qp_multi.proofs.QueryLaws.{in_cells}

abbrev pub cell_of : CellAt → Cell
cell_of c = record { big = c.big; small = c.small }

-- the newest of versions that rise is the last

pub current_is : (kept : List Kept) (n : ℕ) (k : Kept) → AllPairs (λ k j. k.version < j.version) kept → All (λ k. k.version ≤ n) kept → Contains kept k → k.version ≡ n → (current_image kept ≡ k.image) × (current_root kept ≡ k.root)
current_is [] n k rising newest c e = absurd (let l = c.1 in omega arith)
current_is (j ∷ []) n k rising newest c e = ⊎_elim
    (λ (same : j ≡ k). (ap (λ (x : Kept). x.image) same, ap (λ (x : Kept). x.root) same))
    (λ (none : Contains [] k). absurd (let l = none.1 in omega arith)) (contains_cases j k [] c)
current_is (j ∷ (i ∷ kept)) n k rising newest c e = ⊎_elim
    (λ (same : j ≡ k). absurd (
    let first : j.version < i.version = rising 0 1 j (omega arith) (omega arith) in
    let last : i.version ≤ n = newest 1 j (omega arith) in
    let v : j.version ≡ k.version = ap (λ (x : Kept). x.version) same in omega arith))
    (λ (later : Contains (i ∷ kept) k). current_is (i ∷ kept) n k
    (λ a b d l m. rising (suc a) (suc b) d (omega arith) (omega arith)) (λ a d l. newest (suc a) d (omega arith)) later e) (contains_cases j k (i ∷ kept) c)

-- and has the last number
pub ends_with : (kept : List Kept) (n : ℕ) (k : Kept) → AllPairs (λ k j. k.version < j.version) kept → All (λ k. k.version ≤ n) kept → Contains kept k → k.version ≡ n → (older : List ℕ) × (numbers_of kept ≡ older ++ n ∷ [])
ends_with [] n k rising newest c e = absurd (let l = c.1 in omega arith)
ends_with (j ∷ []) n k rising newest c e = ⊎_elim
    (λ (same : j ≡ k). ([], ap (λ (v : ℕ). v ∷ []) (ap (λ (x : Kept). x.version) same ∙ e)))
    (λ (none : Contains [] k). absurd (let l = none.1 in omega arith)) (contains_cases j k [] c)
ends_with (j ∷ (i ∷ kept)) n k rising newest c e = ⊎_elim
    (λ (same : j ≡ k). absurd (
    let first : j.version < i.version = rising 0 1 j (omega arith) (omega arith) in
    let last : i.version ≤ n = newest 1 j (omega arith) in
    let v : j.version ≡ k.version = ap (λ (x : Kept). x.version) same in omega arith))
    (λ (later : Contains (i ∷ kept) k).
    let rest = ends_with (i ∷ kept) n k (λ a b d l m. rising (suc a) (suc b) d (omega arith) (omega arith)) (λ a d l. newest (suc a) d (omega arith)) later e in
    (j.version ∷ rest.0, ap (λ (vs : List ℕ). j.version ∷ vs) rest.1)) (contains_cases j k (i ∷ kept) c)

-- the counts of an image, whose cells lie in so many chunks
pub counts_of : (chunks : ℕ) (image : List CellAt) → ((c : CellAt) → Contains image c → c.at / 1024 < chunks) → (k : ℕ) → slice_index (cell_counts chunks image) k ≡ count_by (λ (c : CellAt). c.at / 1024 == k) image
counts_of chunks image within k = elim (cases_lt k chunks) [
  | inl lt ↦ get_or-map-range_with_len (λ chunk. count_by (λ (c : CellAt). c.at / 1024 == chunk) image) 0 chunks k k 0 lt (omega arith)
  | inr past ↦ (
      let n = length-map-range_with_len (λ chunk. count_by (λ (c : CellAt). c.at / 1024 == chunk) image) 0 chunks in
      get_or_past (cell_counts chunks image) k 0 (omega arith)
      ∙ sym (none_counts (λ (c : CellAt). c.at / 1024 == k) image (λ c h. let l = within c h in grind (arith, nat_tests))))
]

module _ (has : ℕ → Cell → Type 0) (used : ℕ → Bool) (live : ℕ → ℕ) (image : List CellAt)
    (there : (c : CellAt) → Contains image c → has c.at (cell_of c)) (in_use : (c : CellAt) → Contains image c → used c.at ≡ true)
    (counted : (k : ℕ) → live k ≡ count_by (λ (c : CellAt). c.at / 1024 == k) image) where
  all_used : list_all used (map (λ (c : CellAt). c.at) image) ≡ true
  all_used = list_all-map used (λ (c : CellAt). c.at) image ∙ all_from (λ (c : CellAt). used c.at) image in_use

  -- an image that is there, and of which the cells alone count, stands for its version
  pub image_stands : (root : Option ℕ) (es : List Entry) → IsImageOf image root es → Standing has used live root es
  image_stands None es is = (is.1, λ k. counted k ∙ ap (count_by (λ (c : CellAt). c.at / 1024 == k)) is.0)
  image_stands (Some r) es is =
      let reached : list_all used (reach r is.0) ≡ true = ap (list_all used) (sym is.2) ∙ all_used in
      let first : StandsIn (in_image image) used live r is.0 es = record {
        trie = is.1;
        top_in_use = first_true (used r) (list_all used (reach_below is.0)) reached;
        in_use = tested used is.0 (second_true (used r) (list_all used (reach_below is.0)) reached);
        counted = λ k. counted k ∙ sym (count_map (λ (q : ℕ). q / 1024 == k) (λ (c : CellAt). c.at) image) ∙ ap (count_by (λ (q : ℕ). q / 1024 == k)) is.2;
      } in
      (is.0, stands_later first (λ q c u h. there (record { at = q; big = c.big; small = c.small }) (in_cells image q c h)) (λ q u. u) (λ k. refl))

-- a version's image tells of the version
pub version_holds : (image : List CellAt) (root : Option ℕ) (es : List Entry) → IsVersion image root es → Holds image root es
version_holds image None es v = (v.image_of.1, v.tells)
version_holds image (Some r) es v = ((v.image_of.0, v.image_of.1), v.tells)
