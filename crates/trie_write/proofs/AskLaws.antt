-- Which requests a change makes, as numbers of cells side by side.
use Rattle.std.proofs.Common.{◌≡◌, ℕ, zero, suc, ◌-◌, ◌<◌, ◌⊎◌, ◌++◌, List, [], ◌∷◌, length, map, get_or, Contains, arith, inl, inr, sym, ◌∙◌, ap, subst}
use Rattle.std.proofs.lemmas.List.{map-append}
use Rattle.std.proofs.lemmas.List.Elements.{Contains-append_left, Contains-append_right, Contains-append_cases}
use Rattle.trie_model.specs.Trees.{Tree, IsTree}
use Rattle.trie_write.specs.Laid.{extent_sizes}
use Rattle.trie_write.specs.Paths.{branches_on_path, insert_asks, replace_asks, delete_asks}
use Rattle.trie_space.specs.Ways.{Fork, plug, Along, twigs_of}
use Rattle.trie_write.proofs.PathLaws.{branches_plug}

-- ---- lists that have a number

pub first_of : (x y : ℕ) (xs : List ℕ) → x ≡ y → Contains (x ∷ xs) y
first_of x y xs e = (0, omega arith, e)

pub later_of : (x y : ℕ) (xs : List ℕ) → Contains xs y → Contains (x ∷ xs) y
later_of x y xs h = (suc h.0, (let l = h.1 in omega arith), h.2)

pub either_of : (x y : ℕ) (xs : List ℕ) → Contains (x ∷ xs) y → (x ≡ y) ⊎ Contains xs y
either_of x y xs h = go h.0 h.1 h.2
  where
    go : (k : ℕ) → k < suc (length xs) → get_or (x ∷ xs) k y ≡ y → (x ≡ y) ⊎ Contains xs y
    go zero l e = inl e
    go (suc k) l e = inr (k, omega arith, e)

pub made_of : (f : ℕ → ℕ) (y : ℕ) (xs : List ℕ) → Contains xs y → Contains (map f xs) (f y)
made_of f y [] h = absurd (let l : h.0 < 0 = h.1 in omega arith)
made_of f y (x ∷ xs) h = elim (either_of x y xs h) [ inl e ↦ first_of (f x) (f y) (map f xs) (ap f e) | inr m ↦ later_of (f x) (f y) (map f xs) (made_of f y xs m) ]

-- ---- on the way to a change

-- the branches on a path are those of the way and those behind it
pub on_way : (place : ℕ) (key : List ℕ) (t : Tree) (way : List Fork) (end : Tree) → IsTree 0 t → t ≡ plug way end → Along place key way → branches_on_path key t ≡ map twigs_of way ++ branches_on_path key end
on_way place key t way end h is along = ap (branches_on_path key) is ∙ branches_plug place 0 key way end (subst (IsTree 0) is h) along

pub lower_asked : (upper lower way : List Fork) (n : ℕ) → way ≡ upper ++ lower → Contains (map twigs_of lower) n → Contains (map twigs_of way) n
lower_asked upper lower way n whole h =
    subst (λ (w : List Fork). Contains (map twigs_of w) n) (sym whole)
    (subst (λ (ns : List ℕ). Contains ns n) (sym (map-append twigs_of upper lower)) (Contains-append_right (map twigs_of upper) (map twigs_of lower) n h))

-- the path's branches are some before a place and some behind it
module _ (all before behind : List ℕ) (n : ℕ) (is : all ≡ before ++ behind) where
  row_asked : Contains (1 ∷ before) n → Contains (1 ∷ all) n
  row_asked h = subst (λ (ns : List ℕ). Contains (1 ∷ ns) n) (sym is) (Contains-append_left (1 ∷ before) behind n h)

  made_behind : (f : ℕ → ℕ) → Contains (map f behind) n → Contains (map f all) n
  made_behind f h =
      subst (λ (ns : List ℕ). Contains (map f ns) n) (sym is)
      (subst (λ (ns : List ℕ). Contains ns n) (sym (map-append f before behind)) (Contains-append_right (map f before) (map f behind) n h))

  -- ---- to make the way mutable

  pub insert_opens : (item : List ℕ) → Contains (1 ∷ before) n → Contains (insert_asks item all) n
  insert_opens item h = Contains-append_right (extent_sizes (length item)) (2 ∷ 1 ∷ (all ++ map suc all)) n (later_of 2 n (1 ∷ (all ++ map suc all)) (Contains-append_left (1 ∷ all) (map suc all) n (row_asked h)))

  pub replace_opens : (item : List ℕ) → Contains (1 ∷ before) n → Contains (replace_asks item all) n
  replace_opens item h = Contains-append_right (extent_sizes (length item)) (1 ∷ all) n (row_asked h)

  pub delete_opens : Contains (1 ∷ before) n → Contains (delete_asks all) n
  delete_opens h = Contains-append_left (1 ∷ all) (map (λ (m : ℕ). m - 1) all) n (row_asked h)

  -- ---- for what is put at its end

  pub insert_puts : (item : List ℕ) → Contains (extent_sizes (length item) ++ (2 ∷ map suc behind)) n → Contains (insert_asks item all) n
  insert_puts item h = elim (Contains-append_cases (extent_sizes (length item)) (2 ∷ map suc behind) n h) [
    | inl l ↦ Contains-append_left (extent_sizes (length item)) (2 ∷ 1 ∷ (all ++ map suc all)) n l
    | inr r ↦ Contains-append_right (extent_sizes (length item)) (2 ∷ 1 ∷ (all ++ map suc all)) n (elim (either_of 2 n (map suc behind) r) [
      | inl two ↦ first_of 2 n (1 ∷ (all ++ map suc all)) two
      | inr more ↦ Contains-append_right (2 ∷ 1 ∷ all) (map suc all) n (made_behind suc more)
    ])
  ]

  pub delete_puts : (m : ℕ) → n ≡ m - 1 → Contains behind m → Contains (delete_asks all) n
  delete_puts m e h =
      Contains-append_right (1 ∷ all) (map (λ (k : ℕ). k - 1) all) n
      (made_behind (λ (k : ℕ). k - 1) (subst (λ (k : ℕ). Contains (map (λ (j : ℕ). j - 1) behind) k) (sym e) (made_of (λ (k : ℕ). k - 1) m behind h)))

-- the first name
pub insert_begins : (item branches : List ℕ) (n : ℕ) → branches ≡ [] → Contains (extent_sizes (length item) ++ (1 ∷ [])) n → Contains (insert_asks item branches) n
insert_begins item branches n none h = subst (λ (ns : List ℕ). Contains (insert_asks item ns) n) (sym none) (elim (Contains-append_cases (extent_sizes (length item)) (1 ∷ []) n h) [
  | inl l ↦ Contains-append_left (extent_sizes (length item)) (2 ∷ 1 ∷ []) n l
  | inr r ↦ Contains-append_right (extent_sizes (length item)) (2 ∷ 1 ∷ []) n (later_of 2 n (1 ∷ []) r)
])
