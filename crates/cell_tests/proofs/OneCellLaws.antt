-- Versions of one cell, for the tests.
use Rattle.std.proofs.Common.{◌≡◌, ◌⊎◌, inl, inr, ⊎_elim, ℕ, ◌+◌, ◌*◌, ◌/◌, ◌%◌, ◌<◌, List, [], ◌∷◌, ◌++◌, length, take, get_or, set, map, Bool, true, false, true≢false, refl, sym, ap, ◌∙◌, subst, arith, eq-eqb, length-set, get_or-set_same}
use Rattle.std.specs.Prelude.{◌==◌, Option, Some, None}
use Rattle.std.specs.List.{All, Contains, flat_map, fold, list_any}
use Rattle.std.proofs.lemmas.List.Elements.{All-cons, All-nil}
use Rattle.std.proofs.lemmas.List.{length-take}
use Rattle.std.proofs.lemmas.List.Elements.{All-contains}
use Rattle.std.proofs.lemmas.Option.{slice_get-get_or}
use Rattle.pin_core.specs.declared.kept.CellAt.{CellAt}
use Rattle.pin_core.proofs.Lists.{none_passes, contains_cases, contains_later}
use Rattle.chunk_cells.specs.Chunks.{IsGiven}
use Rattle.std.specs.Bool.{OnTrue}
use Rattle.packed_node.specs.declared.Cell.{Cell}
use Rattle.pin_core.specs.declared.kept.Kept.{Kept}
use Rattle.shared_cells.specs.declared.view.Entry.{Entry}
use Rattle.shared_cells.specs.declared.view.Progress.{Progress}
use Rattle.shared_cells.specs.declared.view.TurnView.{TurnView}
use Rattle.shared_cells.specs.declared.view.View.{View}
use Rattle.shared_cells.specs.Views.{pinned_image, pinned_root}
use Rattle.shared_cells.specs.Steps.{Confirmed, IsImage, Pins}
use Rattle.shared_cells.specs.Cells.{Cells, cells_of, given_chunks, kept_references, HasCell, HasAt}
use Rattle.cell_tests.specs.OneCell.{place_of, cell_of, IsVersion, AreOf}
use Rattle.shared_cells.proofs.Chunks.{given_by_words, has_by_words, contains_map, cells_are_image}

-- no reference is in a chunk that none of the versions is in
pub not_in_use : (versions references : List ℕ) (chunk : ℕ) → list_any (λ v. v % 6 == chunk) versions ≡ false → AreOf versions references → (q : ℕ) → Contains references q → q / 1024 ≡ chunk → ⊥
not_in_use versions references chunk unused of q has same =
    let v = of q has in
    let no = All-contains (λ (v : ℕ). (v % 6 == chunk) ≡ false) versions v.0 (none_passes (λ v. v % 6 == chunk) versions unused) v.1 in
    true≢false (sym (eq-eqb (v.0 % 6) chunk (sym v.2 ∙ same)) ∙ no)

-- a chunk that was given
pub just_given : (given : List Bool) (n : ℕ) → n % 6 < length given → IsGiven (set given (n % 6) true) (1024 * (n % 6) / 1024)
just_given given n l = subst (IsGiven (set given (n % 6) true)) (let e : n % 6 ≡ 1024 * (n % 6) / 1024 = omega arith in e)
    (slice_get-get_or (set given (n % 6) true) (n % 6) true (let m = length-set given (n % 6) true in omega arith) ∙ ap (λ (b : Bool). Some b) (get_or-set_same given (n % 6) true true l))

-- tables that are as wide have as many chunks
append_there : (xs ys : List ℕ) (y : ℕ) → Contains (xs ++ ys) y → Contains xs y ⊎ Contains ys y
append_there [] ys y c = inr c
append_there (x ∷ xs) ys y c = ⊎_elim (λ (e : x ≡ y). inl (0, omega arith, e))
    (λ (d : Contains (xs ++ ys) y). ⊎_elim (λ (a : Contains xs y). inl (contains_later x y xs a)) (λ (b : Contains ys y). inr b) (append_there xs ys y d)) (contains_cases x y (xs ++ ys) c)

pub same_count : (a b words : ℕ) → 4161 + 2048 * a ≡ words → 4161 + 2048 * b ≡ words → a ≡ b
same_count a b words e f = omega arith

module _ (count : ℕ) (t : Option TurnView) (cells : Cells) (kept : List Kept) (same : cells.chunks ≡ count) (is : cells_of cells.chunks t ≡ record cells { kept = kept }) where
  now : cells_of count t ≡ record cells { kept = kept }
  now = ap (λ (n : ℕ). cells_of n t) (sym same) ∙ is

  pub given_back : (given : List Bool) → given_chunks cells ≡ given → given_chunks (cells_of count t) ≡ given
  given_back given e = given_by_words (cells_of count t) cells kept now ∙ e

  pub has_back : (at : ℕ) (c : Cell) (b : Bool) → OnTrue b (HasCell cells at c) → OnTrue b (HasCell (cells_of count t) at c)
  has_back at c true has = has_by_words (cells_of count t) cells kept now at c has
  has_back at c false has = has

-- the number that a history leads to
pub counted : (n : ℕ) (history : List (Entry ℕ)) → fold (λ m e. m + 1) n history ≡ n + length history
counted n [] = (let e : n ≡ n + 0 = omega arith in e)
counted n (e ∷ es) = counted (n + 1) es ∙ (let same : n + 1 + length es ≡ n + length (e ∷ es) = omega arith in same)

pub all_counted : (lawful : ℕ → ℕ → Type 0) (v : View ℕ ℕ) (turn : TurnView) (word : ℕ) → Confirmed (λ n change. n + 1) lawful (λ change. Unit {0}) IsVersion v turn word → v.seen.opening ≡ Some 0 → All (λ k. IsVersion k.image k.root k.version) turn.kept
all_counted lawful v turn word told open_at i d l =
    let k = get_or turn.kept i d in
    let old = told.newest i d l in
    subst (IsVersion k.image k.root) (counted 0 (take k.version v.seen.history) ∙ (let n : 0 + length (take k.version v.seen.history) ≡ k.version = omega (arith, length-take k.version v.seen.history) in n)) (told.images 0 open_at i d l)

flat_there : {A : Type 0} (f : A → List ℕ) (xs : List A) (y : ℕ) → Contains (flat_map f xs) y → (x : A) × Contains xs x × Contains (f x) y
flat_there f [] y c = absurd (let l = c.1 in omega arith)
flat_there {A} f (x ∷ xs) y c = ⊎_elim (λ (a : Contains (f x) y). (x, (0, omega arith, refl), a))
    (λ (b : Contains (flat_map f xs) y). let r = flat_there f xs y b in (r.0, contains_later x r.0 xs r.1, r.2)) (append_there (f x) (flat_map f xs) y c)

-- the references of kept versions of one cell
pub kept_are_of : (cells : Cells) (versions : List ℕ) → map (λ k. k.version) cells.kept ≡ versions → All (λ k. IsVersion k.image k.root k.version) cells.kept → AreOf versions (kept_references cells)
kept_are_of cells versions same all q c =
    let f = flat_there (λ (k : Kept). map (λ (x : CellAt). x.at) k.image) cells.kept q c in
    let k = f.0 in
    let is = All-contains (λ (j : Kept). IsVersion j.image j.root j.version) cells.kept f.0 all f.1 in
    let one : Contains (place_of k.version ∷ []) q = subst (λ (image : List CellAt). Contains (map (λ (x : CellAt). x.at) image) q) is.0 f.2 in
    let at : place_of k.version ≡ q = ⊎_elim (λ (e : place_of k.version ≡ q). e) (λ (none : Contains [] q). absurd (let l = none.1 in omega arith)) (contains_cases (place_of k.version) q [] one) in
    (k.version, subst (λ (vs : List ℕ). Contains vs k.version) same (contains_map (λ (j : Kept). j.version) cells.kept k f.1), (let e = at in omega arith))

-- one written cell is an image
pub one_image : (passes chunks : ℕ) (t : Option TurnView) (turn : TurnView) (n : ℕ) (b : Bool) → t ≡ Some turn → b ≡ true → OnTrue b (HasCell (cells_of chunks t) (place_of n) (record { big = n; small = n })) → IsImage (record { passes = passes; chunks = chunks }) turn.words (Some (place_of n)) (cell_of n ∷ [])
one_image passes chunks t turn n b is done has =
    let cells = cells_of chunks (Some turn) in
    let there = subst (λ (o : Option TurnView). HasCell (cells_of chunks o) (place_of n) (record { big = n; small = n })) is (subst (λ (x : Bool). OnTrue x (HasCell (cells_of chunks t) (place_of n) (record { big = n; small = n }))) done has) in
    cells_are_image passes cells (Some (place_of n)) (cell_of n ∷ []) (cell_of n, (0, omega arith, refl), refl) (λ i j d l within. absurd (omega arith)) (All-cons (HasAt cells) (cell_of n) [] there (All-nil (HasAt cells)))

-- what a pass has pinned, which knows that version 0 is 0
pub pinned_is : (lawful : ℕ → ℕ → Type 0) (v w : View ℕ ℕ) → Pins (λ n change. n + 1) lawful (λ change. Unit {0}) IsVersion v w → v.seen.opening ≡ Some 0 → IsVersion (pinned_image w.progress) (pinned_root w.progress) (length w.seen.history)
pinned_is lawful v w told open_at =
    let number : 0 + length w.seen.history ≡ length w.seen.history = omega arith in
    let stood = told.stood 0 (ap (λ (x : View ℕ ℕ). x.seen.opening) told.view ∙ open_at) in
    subst (λ (p : Progress). IsVersion (pinned_image p) (pinned_root p) (length w.seen.history)) (sym (ap (λ (x : View ℕ ℕ). x.progress) told.view))
    (subst (IsVersion told.kept.image told.kept.root) (counted 0 w.seen.history ∙ number) stood)

abbrev or_zero : Option ℕ → ℕ
or_zero None = 0
or_zero (Some n) = n

-- a version's image has its cell where its root is
pub one_cell : (image : List CellAt) (root : Option ℕ) (n at : ℕ) → IsVersion image root n → root ≡ Some at → Contains image (record { at = at; big = n; small = n })
one_cell image root n at is e =
    let same : place_of n ≡ at = ap or_zero (sym is.1 ∙ e) in
    let cell : cell_of n ≡ record { at = at; big = n; small = n } = ap (λ (q : ℕ). record { at = q; big = n; small = n }) same in
    subst (λ (xs : List CellAt). Contains xs (record { at = at; big = n; small = n })) (sym is.0) (0, omega arith, cell)
