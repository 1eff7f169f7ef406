-- The cells that the working root reaches make the image of its version.
use Rattle.std.proofs.Common.{◌≡◌, ◌≢◌, ◌∙◌, ⊎_elim, ℕ, zero, suc, ◌/◌, ◌<◌, ◌≤◌, ◌==◌, ◌+◌, ◌||◌, nat_lt, Bool, true, false, cond, List, [], ◌∷◌, map, length, count_by, slice_index, get_or, Option, Some, None, refl, sym, ap, subst, arith, eq-eqb}
use Rattle.std.specs.List.{AllPairs, Contains, list_all, list_any, range_with_len}
use Rattle.std.proofs.lemmas.Bool.Decides.{nat_tests}
use Rattle.std.proofs.lemmas.Grind.{same_number_lists}
use Rattle.std.proofs.lemmas.List.{length-map, get_or-map, get_or_default}
use Rattle.std.proofs.lemmas.List.FromFn.{get_or-map-range_with_len, length-map-range_with_len}
use Rattle.std.proofs.lemmas.List.Elements.{All-weaker, All-contains_itself}
use Rattle.std.proofs.lemmas.List.Sums.{sum_by-cons}
use Rattle.packed_node.specs.declared.Cell.{Cell}
use Rattle.pin_core.specs.declared.kept.CellAt.{CellAt}
use Rattle.pin_core.specs.Words.{cell_at, size_of}
use Rattle.pin_core.specs.Machine.{image_of}
use Rattle.pin_core.proofs.Lists.{contains_cases}
use Rattle.trie_model.specs.Keys.{Entry}
use Rattle.trie_model.specs.Trees.{Tree}
use Rattle.trie_model.specs.Memory.{top_cell}
use Rattle.trie_model.specs.Reach.{reach, reach_below}
use Rattle.trie_model.proofs.MoveLaws.{beneath_kept, tree_weaker}
use Rattle.trie_model.proofs.ExtentLaws.{both_true, first_true, second_true}
use Rattle.trie_model.proofs.ReachLaws.{tested, tests}
use Rattle.chunk_usage.specs.Ledger.{Ledger, IsLedger, is_used, row_of}
use Rattle.zone_model.specs.Keys.{Leads}
use Rattle.trie_read.specs.Reads.{EachTells}
use Rattle.trie_space.specs.Standing.{StandsIn}
use Rattle.trie_write.proofs.RootLaws.{stands_later}
use Rattle.chunk_sets.proofs.FlagLemmas.{get_set}
use Rattle.chunk_usage.proofs.SpaceLaws.{used_given}
use Rattle.chunk_cells.specs.Chunks.{IsGiven}
use Rattle.shared_cells.specs.Cells.{Cells, given_chunks, HasCell, HasAt}
use Rattle.shared_cells.specs.Steps.{IsImage}
use Rattle.shared_cells.proofs.Chunks.{cells_are_image}
use Rattle.qp_multi.specs.Meanings.{in_image, IsVersion}
use Rattle.qp_multi.specs.Bases.{IsRooted}
use Rattle.qp_multi.specs.Turns.{chunk_set, cell_counts}
use Rattle.chunk_usage.specs.Keeping.{is_among}
use Rattle.qp_multi.specs.Images.{found, image_at}
use Rattle.qp_multi.proofs.FoundLaws.{Says, found_is}
use Rattle.qp_multi.proofs.Lists.{all_of, all_from, contains_first, count_map, in_map, of_map}
use Rattle.qp_multi.proofs.RowLaws.{among_of, of_among}

-- the cell at a reference, by the words
abbrev cell_in : List ℕ → ℕ → CellAt
cell_in words q = record { at = q; big = slice_index words (cell_at q); small = slice_index words (cell_at q + 1) }

pub references_of : (words qs : List ℕ) → map (λ (c : CellAt). c.at) (image_of words qs) ≡ qs
references_of words [] = refl
references_of words (q ∷ qs) = ap (λ (xs : List ℕ). q ∷ xs) (references_of words qs)

-- an image has a cell
has_cell_in : (image : List CellAt) (q : ℕ) (c : Cell) → Contains image (record { at = q; big = c.big; small = c.small }) → in_image image q c
unfolding in_image
has_cell_in image q c h = h

-- no reference twice

count_first : (p : ℕ → Bool) (q : ℕ) (qs : List ℕ) → count_by p (q ∷ qs) ≡ cond (p q) 1 0 + count_by p qs
count_first p q qs = sum_by-cons (λ x. cond (p x) 1 0) q qs

count_there : (p : ℕ → Bool) (qs : List ℕ) (q : ℕ) → Contains qs q → p q ≡ true → 1 ≤ count_by p qs
count_there p [] q c h = absurd (let l = c.1 in omega arith)
count_there p (x ∷ qs) q c h = ⊎_elim
    (λ (e : x ≡ q). let one : ◌≡◌ {A = ℕ} (cond (p x) 1 0) 1 = ap (λ (b : Bool). cond {A = ℕ} b 1 0) (ap p e ∙ h) in let f = count_first p x qs in omega arith)
    (λ (d : Contains qs q). let more = count_there p qs q d h in let f = count_first p x qs in omega arith) (contains_cases x q qs c)

pub apart : (qs : List ℕ) → ((q : ℕ) → count_by (λ x. x == q) qs ≤ 1) → AllPairs (λ a b. a ≢ b) qs
apart [] once i j d l within = absurd (omega arith)
apart (x ∷ qs) once zero zero d l within = absurd (omega arith)
apart (x ∷ qs) once zero (suc j) d l within = λ e.
    let there : Contains qs x = (j, (let m : j < length qs = omega arith in m), later qs j d x (omega arith) (sym e)) in
    let more = count_there (λ y. y == x) qs x there (eq-eqb x x refl) in
    let one : ◌≡◌ {A = ℕ} (cond (x == x) 1 0) 1 = ap (λ (b : Bool). cond {A = ℕ} b 1 0) (eq-eqb x x refl) in
    let f = count_first (λ y. y == x) x qs in
    let g = once x in
    let none : ⊥ = omega arith in none
  where
    later : (qs : List ℕ) (j d x : ℕ) → j < length qs → get_or qs j d ≡ x → get_or qs j x ≡ x
    later qs j d x l e = get_or_default qs j x d l ∙ e
apart (x ∷ qs) once (suc i) zero d l within = absurd (omega arith)
apart (x ∷ qs) once (suc i) (suc j) d l within = apart qs (λ q. let f = count_first (λ y. y == q) x qs in let g = once q in omega arith) i j d (omega arith) (omega arith)

-- the same of the cells
apart_cells : (words qs : List ℕ) → AllPairs (λ a b. a ≢ b) qs → AllPairs (λ (c d : CellAt). c.at ≢ d.at) (image_of words qs)
apart_cells words qs pairs i j d l within =
    let n = length-map qs (cell_in words) in
    let ei = ap (λ (c : CellAt). c.at) (get_or-map (cell_in words) qs i 0 d (omega arith)) in
    let ej = ap (λ (c : CellAt). c.at) (get_or-map (cell_in words) qs j 0 d (omega arith)) in
    λ e. pairs i j 0 l (omega arith) (sym ei ∙ e ∙ ej)

module _ (cells : Cells) (u : Ledger) (es : List Entry) where
  abbrev words : List ℕ
  words = cells.words

  abbrev stands_at : ℕ → Tree → Type 0
  stands_at r t = StandsIn (HasCell cells) (is_used u) (λ k. slice_index u.live k) r t es

  says : (q : ℕ) (c : Cell) → true ≡ true → HasCell cells q c → Says words q c
  says q c t h = record { big = h.big; small = h.small }

  -- what is found is what the root reaches
  pub found_reach : (r : ℕ) (t : Tree) → stands_at r t → found words (Some r) ≡ reach r t
  found_reach r t s = ap (λ (xs : List ℕ). r ∷ xs) (found_is words 505 0 r t s.trie.shape (omega arith) (omega arith) (says r (top_cell t) refl s.trie.top)
      (beneath_kept (λ q. true) (HasCell cells) (Says words) says t (tree_weaker (is_used u) (λ q. true) (λ q h. refl) t s.in_use) s.trie.beneath))

  image_is : (r : ℕ) (t : Tree) → stands_at r t → image_at words (Some r) ≡ image_of words (reach r t)
  image_is r t s = ap (image_of words) (found_reach r t s)

  module _ (r : ℕ) (t : Tree) (s : stands_at r t) where
    reached : list_all (is_among (reach r t)) (reach r t) ≡ true
    reached = all_from (is_among (reach r t)) (reach r t) (λ q c. among_of (reach r t) q c)

    in_reach : StandsIn (HasCell cells) (is_among (reach r t)) (λ k. slice_index u.live k) r t es
    in_reach = record {
      trie = s.trie;
      top_in_use = first_true (is_among (reach r t) r) (list_all (is_among (reach r t)) (reach_below t)) reached;
      in_use = tested (is_among (reach r t)) t (second_true (is_among (reach r t) r) (list_all (is_among (reach r t)) (reach_below t)) reached);
      counted = s.counted;
    }

    in_the_image : (q : ℕ) (c : Cell) → is_among (reach r t) q ≡ true → HasCell cells q c → in_image (image_of words (reach r t)) q c
    in_the_image q c h there =
        let at = in_map (cell_in words) (reach r t) q (of_among (reach r t) q h) in
        let same : cell_in words q ≡ record { at = q; big = c.big; small = c.small } = ap (λ (b : ℕ). let x : CellAt = record { at = q; big = b; small = slice_index words (cell_at q + 1) } in x) there.big ∙ ap (λ (b : ℕ). let x : CellAt = record { at = q; big = c.big; small = b } in x) there.small in
        has_cell_in (image_of words (reach r t)) q c (subst (Contains (image_of words (reach r t))) same at)

    version_reached : EachTells Leads es → IsVersion (image_of words (reach r t)) (Some r) es
    version_reached tells = record {
      image_of = (t, (stands_later in_reach in_the_image (λ q h. h) (λ k. refl)).trie, references_of words (reach r t));
      tells = tells;
    }

    used_reached : (c : CellAt) → Contains (image_of words (reach r t)) c → is_used u c.at ≡ true
    used_reached c h =
        let q = of_map (cell_in words) (reach r t) c h in
        let all = both_true (is_used u r) (list_all (is_used u) (reach_below t)) s.top_in_use (tests (is_used u) t s.in_use) in
        ap (λ (x : CellAt). is_used u x.at) (sym q.2) ∙ all_of (is_used u) (reach r t) q.0 all q.1

    fits_reached : (passes : ℕ) → IsLedger u → given_chunks cells ≡ u.given → IsImage (size_of passes cells.chunks) words (Some r) (image_of words (reach r t))
    fits_reached passes is same = cells_are_image passes cells (Some r) (image_of words (reach r t)) (cell_in words r, contains_first (cell_in words r) (image_of words (reach_below t)), refl)
        (apart_cells words (reach r t) (apart (reach r t) s.trie.once))
        (All-weaker (Contains (image_of words (reach r t))) (HasAt cells) (λ c h.
        let q = of_map (cell_in words) (reach r t) c h in
        let given : IsGiven u.given (q.0 / 1024) = get_set u.given (q.0 / 1024) (used_given u is q.0 (ap (λ (x : CellAt). is_used u x.at) q.2 ∙ used_reached c h)) in
        subst (HasAt cells) q.2 (record { given = subst (λ (g : List Bool). IsGiven g (q.0 / 1024)) (sym same) given; big = refl; small = refl }))
        (image_of words (reach r t)) (All-contains_itself (image_of words (reach r t))))

    counts_reached : (k : ℕ) → slice_index u.live k ≡ count_by (λ (c : CellAt). c.at / 1024 == k) (image_of words (reach r t))
    counts_reached k = s.counted k ∙ ap (count_by (λ (q : ℕ). q / 1024 == k)) (sym (references_of words (reach r t))) ∙ count_map (λ (q : ℕ). q / 1024 == k) (λ (c : CellAt). c.at) (image_of words (reach r t))

  -- the same of any root

  pub version_image : (root : Option ℕ) → IsRooted (HasCell cells) u root es → IsVersion (image_at words root) root es
  version_image None s = record { image_of = (refl, s.stands.0); tells = s.tells }
  version_image (Some r) s = subst (λ (image : List CellAt). IsVersion image (Some r) es) (sym (image_is r s.stands.0 s.stands.1)) (version_reached r s.stands.0 s.stands.1 s.tells)

  pub image_fits : (passes : ℕ) (root : Option ℕ) → IsRooted (HasCell cells) u root es → IsLedger u → given_chunks cells ≡ u.given → IsImage (size_of passes cells.chunks) words root (image_at words root)
  image_fits passes None s is same = cells_are_image passes cells None [] refl (λ i j d l within. absurd (omega arith)) (λ k d l. absurd (omega arith))
  image_fits passes (Some r) s is same = subst (IsImage (size_of passes cells.chunks) words (Some r)) (sym (image_is r s.stands.0 s.stands.1)) (fits_reached r s.stands.0 s.stands.1 passes is same)

  pub image_used : (root : Option ℕ) → IsRooted (HasCell cells) u root es → (c : CellAt) → Contains (image_at words root) c → is_used u c.at ≡ true
  image_used None s c h = absurd (let l = h.1 in omega arith)
  image_used (Some r) s c h = used_reached r s.stands.0 s.stands.1 c (subst (λ (image : List CellAt). Contains image c) (image_is r s.stands.0 s.stands.1) h)

  pub image_counts : (root : Option ℕ) → IsRooted (HasCell cells) u root es → (k : ℕ) → slice_index u.live k ≡ count_by (λ (c : CellAt). c.at / 1024 == k) (image_at words root)
  image_counts None s k = s.stands.1 k
  image_counts (Some r) s k = counts_reached r s.stands.0 s.stands.1 k ∙ ap (count_by (λ (c : CellAt). c.at / 1024 == k)) (sym (image_is r s.stands.0 s.stands.1))

-- counts and chunk sets, as lists

pub live_counts : (n : ℕ) (live : List ℕ) (image : List CellAt) → length live ≡ n → ((k : ℕ) → slice_index live k ≡ count_by (λ (c : CellAt). c.at / 1024 == k) image) → live ≡ cell_counts n image
live_counts n live image long counts =
    let m = length-map-range_with_len (λ chunk. count_by (λ (c : CellAt). c.at / 1024 == chunk) image) 0 n in
    same_number_lists live (cell_counts n image) (long ∙ sym m)
    (λ k l. counts k ∙ sym (get_or-map-range_with_len (λ chunk. count_by (λ (c : CellAt). c.at / 1024 == chunk) image) 0 n k k 0 (omega arith) (omega arith)))

some_counts : {A : Type 0} (p : A → Bool) (xs : List A) → nat_lt 0 (count_by p xs) ≡ list_any p xs
some_counts p [] = refl
some_counts {A} p (x ∷ xs) = ap (nat_lt 0) (sum_by-cons (λ y. cond (p y) 1 0) x xs) ∙ go (p x) (some_counts p xs)
  where
    go : (b : Bool) → nat_lt 0 (count_by p xs) ≡ list_any p xs → nat_lt 0 (cond b 1 0 + count_by p xs) ≡ (b || list_any p xs)
    go true rest = let n = count_by p xs in grind (arith, nat_tests)
    go false rest = ap (nat_lt 0) (let e : 0 + count_by p xs ≡ count_by p xs = omega arith in e) ∙ rest

flags_are : (image : List CellAt) (ns : List ℕ) → map (nat_lt 0) (map (λ chunk. count_by (λ (c : CellAt). c.at / 1024 == chunk) image) ns) ≡ map (λ chunk. list_any (λ (c : CellAt). c.at / 1024 == chunk) image) ns
flags_are image [] = refl
flags_are image (n ∷ ns) =
    ap (λ (b : Bool). b ∷ map (nat_lt 0) (map (λ chunk. count_by (λ (c : CellAt). c.at / 1024 == chunk) image) ns)) (some_counts (λ (c : CellAt). c.at / 1024 == n) image)
    ∙ ap (λ (bs : List Bool). list_any (λ (c : CellAt). c.at / 1024 == n) image ∷ bs) (flags_are image ns)

pub row_set : (n : ℕ) (live : List ℕ) (image : List CellAt) → live ≡ cell_counts n image → row_of live ≡ chunk_set n image
row_set n live image e = ap row_of e ∙ flags_are image (range_with_len 0 n)
