-- Chunks, cells and kept references, as the traits of cells have them, by the words that the turn knows.
use Rattle.std.proofs.Common.{◌≡◌, ◌≢◌, ℕ, zero, suc, ◌+◌, ◌*◌, ◌/◌, ◌<◌, ◌≤◌, List, [], ◌∷◌, ◌++◌, length, map, get_or, set, Bool, true, false, refl, sym, ap, ◌∙◌, subst, arith, Option, Some, None, length-set, get_or-set_same, get_or-set_other, eq-eqb}
use Rattle.std.specs.Prelude.{slice_get, ◌==◌}
use Rattle.std.specs.List.{All, AllPairs, Contains, flat_map}
use Rattle.std.proofs.lemmas.List.{same_lists, length-map, get_or-map}
use Rattle.std.proofs.lemmas.List.Elements.{All-weaker, Contains-append_left}
use Rattle.std.proofs.lemmas.List.FromFn.{length-map-range_with_len, get_or-map-range_with_len}
use Rattle.std.proofs.lemmas.List.Folds.{Any-from_list_any}
use Rattle.std.proofs.lemmas.Option.{slice_get_within, slice_get-get_or, get_or_from_slice_get}
use Rattle.std.proofs.lemmas.Bool.Decides.{eqb_tells}
use mathlib.Core.Logic.{dite}
use native.Mathlib.Decide.{ℕ_discrete}
use Rattle.atomic_table.specs.Seated.{TableId}
use Rattle.atomic_table.specs.Table.{Me}
use Rattle.packed_node.specs.declared.Cell.{Cell}
use Rattle.pin_core.specs.declared.kept.CellAt.{CellAt}
use Rattle.pin_core.specs.declared.kept.Kept.{Kept}
use Rattle.pin_core.specs.Words.{size_of, status_at, cell_at, chunk_of}
use Rattle.pin_core.specs.Sound.{HasRoot, AgreesWith, IsGiven}
use Rattle.pin_core.specs.Machine.{is_kept_cell, is_kept_chunk, has_cell, meets}
use Rattle.chunk_cells.specs.Chunks as chunk
use Rattle.shared_cells.specs.declared.view.TurnView.{TurnView}
use Rattle.shared_cells.specs.declared.view.View.{View}
use Rattle.shared_cells.specs.Views.{words_of, kept_in, stored_in, stored_view}
use Rattle.shared_cells.specs.Cells.{Cells, cells_of, given_chunks, kept_references, HasCell, HasAt}
use Rattle.shared_cells.specs.Steps.{IsImage}

-- what stands at a place of the list of chunks

pub given_long : (cells : Cells) → length (given_chunks cells) ≡ cells.chunks
given_long cells = length-map-range_with_len (λ c. get_or cells.words (status_at c) 0 == 1) 0 cells.chunks

pub given_there : (cells : Cells) (c : ℕ) (d : Bool) → c < cells.chunks → get_or (given_chunks cells) c d ≡ (get_or cells.words (status_at c) 0 == 1)
given_there cells c d l = get_or-map-range_with_len (λ c. get_or cells.words (status_at c) 0 == 1) 0 cells.chunks c c d l (omega arith)

pub chunk_within : (cells : Cells) (c : ℕ) (b : Bool) → slice_get (given_chunks cells) c ≡ Some b → c < cells.chunks
chunk_within cells c b e = let l = slice_get_within (given_chunks cells) c b e in let n = given_long cells in omega arith

pub status_given : (cells : Cells) (c : ℕ) → chunk.IsGiven (given_chunks cells) c → get_or cells.words (status_at c) 0 ≡ 1
status_given cells c e =
    let t : (get_or cells.words (status_at c) 0 == 1) ≡ true = sym (given_there cells c true (chunk_within cells c true e)) ∙ get_or_from_slice_get (given_chunks cells) c true true e in
    grind (arith, eqb_tells (get_or cells.words (status_at c) 0) 1)

pub given_status : (cells : Cells) (c : ℕ) → c < cells.chunks → get_or cells.words (status_at c) 0 ≡ 1 → chunk.IsGiven (given_chunks cells) c
given_status cells c l e = slice_get-get_or (given_chunks cells) c true (let n = given_long cells in omega arith) ∙ ap (λ (b : Bool). Some b) (given_there cells c true l ∙ eq-eqb (get_or cells.words (status_at c) 0) 1 e)

-- a stored word

abbrev stored : Cells → ℕ → ℕ → Cells
stored cells i x = record cells { words = set cells.words i x }

-- of no chunk is it the status
pub given_stays : (cells : Cells) (i x : ℕ) → cells.chunks ≤ 4096 → 4161 ≤ i → given_chunks (record cells { words = set cells.words i x }) ≡ given_chunks cells
given_stays cells i x few far = same_lists (given_chunks (stored cells i x)) (given_chunks cells) (given_long (stored cells i x) ∙ sym (given_long cells)) (λ k d l. let n = given_long (stored cells i x) in
    given_there (stored cells i x) k d (omega arith) ∙ ap (λ (w : ℕ). w == 1) (get_or-set_other cells.words i (status_at k) x 0 (λ e. omega arith)) ∙ sym (given_there cells k d (omega arith)))

-- it is this chunk's status
pub given_changes : (cells : Cells) (c x : ℕ) → c < cells.chunks → 4161 ≤ length cells.words → cells.chunks ≤ 4096 → given_chunks (record cells { words = set cells.words (status_at c) x }) ≡ set (given_chunks cells) c (x == 1)
given_changes cells c x small wide few = same_lists (given_chunks new) (set (given_chunks cells) c (x == 1)) (given_long new ∙ sym (length-set (given_chunks cells) c (x == 1) ∙ given_long cells))
    (λ k d l. let n = given_long new in dite (ℕ_discrete k c)
    (λ same. subst (λ (j : ℕ). get_or (given_chunks new) j d ≡ get_or (set (given_chunks cells) c (x == 1)) j d) (sym same)
    (given_there new c d small ∙ ap (λ (w : ℕ). w == 1) (get_or-set_same cells.words (status_at c) x 0 (omega arith)) ∙ sym (get_or-set_same (given_chunks cells) c (x == 1) d (let m = given_long cells in omega arith))))
    (λ apart. given_there new k d (omega arith) ∙ ap (λ (w : ℕ). w == 1) (get_or-set_other cells.words (status_at c) (status_at k) x 0 (λ e. apart (omega arith))) ∙ sym (get_or-set_other (given_chunks cells) c k (x == 1) d apart ∙ given_there cells k d (omega arith))))
  where
    new : Cells
    new = record cells { words = set cells.words (status_at c) x }

-- kept references

pub contains_map : {A : Type 0} (f : A → ℕ) (xs : List A) (x : A) → Contains xs x → Contains (map f xs) (f x)
contains_map f xs x c = (c.0, (let l = c.1 in let n = length-map xs f in omega arith), get_or-map f xs c.0 x (f x) c.1 ∙ ap f c.2)

contains_right : (xs ys : List ℕ) (y : ℕ) → Contains ys y → Contains (xs ++ ys) y
contains_right [] ys y c = c
contains_right (x ∷ xs) ys y c = let r = contains_right xs ys y c in (suc r.0, (let l = r.1 in omega arith), r.2)

contains_flat : {A : Type 0} (f : A → List ℕ) (xs : List A) (x : A) (y : ℕ) (k : ℕ) → k < length xs → get_or xs k x ≡ x → Contains (f x) y → Contains (flat_map f xs) y
contains_flat {A} f [] x y k l e h = absurd (omega arith)
contains_flat {A} f (z ∷ zs) x y zero l e h = Contains-append_left (f z) (flat_map f zs) y (subst (λ (w : A). Contains (f w) y) (sym e) h)
contains_flat {A} f (z ∷ zs) x y (suc k) l e h = contains_right (f z) (flat_map f zs) y (contains_flat f zs x y k (omega arith) e h)

-- each reference of a kept image is among them
kept_among : (cells : Cells) (k : Kept) (c : CellAt) → Contains cells.kept k → Contains k.image c → Contains (kept_references cells) c.at
kept_among cells k c has there = contains_flat (λ (k : Kept). map (λ (c : CellAt). c.at) k.image) cells.kept k c.at has.0 has.1 has.2 (contains_map (λ (c : CellAt). c.at) k.image c there)

pub unkept_cell : (cells : Cells) (at : ℕ) → (Contains (kept_references cells) at → ⊥) → is_kept_cell cells.kept at ≡ false
unkept_cell cells at unkept = go (is_kept_cell cells.kept at) refl
  where
    go : (b : Bool) → is_kept_cell cells.kept at ≡ b → b ≡ false
    go false e = refl
    go true e =
        let a = Any-from_list_any (λ k. has_cell k.image at) cells.kept e in
        let c = Any-from_list_any (λ c. c.at == at) a.1.image a.4 in
        let t : (c.1.at == at) ≡ true = c.4 in
        let same : c.1.at ≡ at = grind (arith, eqb_tells c.1.at at) in
        absurd (unkept (subst (Contains (kept_references cells)) same (kept_among cells a.1 c.1 (a.0, a.2, a.3) (c.0, c.2, c.3))))

pub unkept_chunk : (cells : Cells) (number : ℕ) → ((q : ℕ) → Contains (kept_references cells) q → q / 1024 ≢ number) → is_kept_chunk cells.kept number ≡ false
unkept_chunk cells number unkept = go (is_kept_chunk cells.kept number) refl
  where
    go : (b : Bool) → is_kept_chunk cells.kept number ≡ b → b ≡ false
    go false e = refl
    go true e =
        let a = Any-from_list_any (λ k. meets k.image number) cells.kept e in
        let c = Any-from_list_any (λ c. chunk_of c.at == number) a.1.image a.4 in
        let t : (chunk_of c.1.at == number) ≡ true = c.4 in
        let same : chunk_of c.1.at ≡ number = grind (arith, eqb_tells (chunk_of c.1.at) number) in
        absurd (unkept c.1.at (kept_among cells a.1 c.1 (a.0, a.2, a.3) (c.0, c.2, c.3)) same)

-- a cell that is written

-- both words
abbrev put : Cells → ℕ → Cell → Cells
put cells at c = record cells { words = set (set cells.words (cell_at at) c.big) (cell_at at + 1) c.small }

pub put_given : (cells : Cells) (at : ℕ) (c : Cell) → cells.chunks ≤ 4096 → given_chunks (put cells at c) ≡ given_chunks cells
put_given cells at c few = given_stays (stored cells (cell_at at) c.big) (cell_at at + 1) c.small few (omega arith) ∙ given_stays cells (cell_at at) c.big few (omega arith)

pub put_has : (cells : Cells) (at : ℕ) (c : Cell) → cells.chunks ≤ 4096 → length cells.words ≡ 4161 + 2048 * cells.chunks → chunk.IsGiven (given_chunks cells) (at / 1024) → HasCell (put cells at c) at c
put_has cells at c few wide given =
    let l = chunk_within cells (at / 1024) true given in record {
      given = subst (λ (bs : List Bool). chunk.IsGiven bs (at / 1024)) (sym (put_given cells at c few)) given;
      big = get_or-set_other (set cells.words (cell_at at) c.big) (cell_at at + 1) (cell_at at) c.small 0 (λ e. omega arith) ∙ get_or-set_same cells.words (cell_at at) c.big 0 (omega arith);
      small = get_or-set_same (set cells.words (cell_at at) c.big) (cell_at at + 1) c.small 0 (let n = length-set cells.words (cell_at at) c.big in omega arith);
    }

pub put_others : (cells : Cells) (at : ℕ) (c : Cell) → cells.chunks ≤ 4096 → (q : ℕ) (d : Cell) → q ≢ at → HasCell cells q d → HasCell (put cells at c) q d
put_others cells at c few q d apart has = record {
  given = subst (λ (bs : List Bool). chunk.IsGiven bs (q / 1024)) (sym (put_given cells at c few)) has.given;
  big = get_or-set_other (set cells.words (cell_at at) c.big) (cell_at at + 1) (cell_at q) c.small 0 (λ e. apart (omega arith)) ∙ get_or-set_other cells.words (cell_at at) (cell_at q) c.big 0 (λ e. apart (omega arith)) ∙ has.big;
  small = get_or-set_other (set cells.words (cell_at at) c.big) (cell_at at + 1) (cell_at q + 1) c.small 0 (λ e. apart (omega arith)) ∙ get_or-set_other cells.words (cell_at at) (cell_at q + 1) c.big 0 (λ e. apart (omega arith)) ∙ has.small;
}

-- a chunk's status changes, and the cells of the others stay

pub status_others : (cells : Cells) (number x : ℕ) → number < cells.chunks → cells.chunks ≤ 4096 → length cells.words ≡ 4161 + 2048 * cells.chunks
    → (q : ℕ) (d : Cell) → q / 1024 ≢ number → HasCell cells q d → HasCell (record cells { words = set cells.words (status_at number) x }) q d
status_others cells number x small few wide q d apart has = record {
  given = given_status (stored cells (status_at number) x) (q / 1024) (chunk_within cells (q / 1024) true has.given)
      (get_or-set_other cells.words (status_at number) (status_at (q / 1024)) x 0 (λ e. apart (omega arith)) ∙ status_given cells (q / 1024) has.given);
  big = get_or-set_other cells.words (status_at number) (cell_at q) x 0 (λ e. omega arith) ∙ has.big;
  small = get_or-set_other cells.words (status_at number) (cell_at q + 1) x 0 (λ e. omega arith) ∙ has.small;
}

-- a chunk that is given: also the cells of that chunk, of which there were none
pub give_cells : (cells : Cells) (number : ℕ) → number < cells.chunks → cells.chunks ≤ 4096 → length cells.words ≡ 4161 + 2048 * cells.chunks
    → (q : ℕ) (d : Cell) → HasCell cells q d → HasCell (record cells { words = set cells.words (status_at number) 1 }) q d
give_cells cells number small few wide q d has = dite (ℕ_discrete (q / 1024) number)
    (λ same. record {
      given = given_status (stored cells (status_at number) 1) (q / 1024) (chunk_within cells (q / 1024) true has.given)
          (subst (λ (c : ℕ). get_or (set cells.words (status_at number) 1) (status_at c) 0 ≡ 1) (sym same) (get_or-set_same cells.words (status_at number) 1 0 (omega arith)));
      big = get_or-set_other cells.words (status_at number) (cell_at q) 1 0 (λ e. omega arith) ∙ has.big;
      small = get_or-set_other cells.words (status_at number) (cell_at q + 1) 1 0 (λ e. omega arith) ∙ has.small;
    })
    (λ apart. status_others cells number 1 small few wide q d apart has)

-- What a publish needs: cells that the turn has, the root among them, each once, are an image.
pub cells_are_image : (passes : ℕ) (cells : Cells) (root : Option ℕ) (image : List CellAt) → HasRoot root image → AllPairs (λ c d. c.at ≢ d.at) image → All (HasAt cells) image → IsImage (size_of passes cells.chunks) cells.words root image
cells_are_image passes cells root image rooted once has = record {
  rooted = rooted;
  once = once;
  unchanged = All-weaker (HasAt cells) (AgreesWith cells.words) (λ c h. (h.big, h.small)) image has;
  given = All-weaker (HasAt cells) (IsGiven (size_of passes cells.chunks) cells.words) (λ c h. let l = chunk_within cells (chunk_of c.at) true h.given in (omega arith, status_given cells (chunk_of c.at) h.given)) image has;
}

-- what the cells are after the seat's words have changed

stored_cells : (chunks : ℕ) (t : Option TurnView) (i x : ℕ) → cells_of chunks (stored_in t i x) ≡ record (cells_of chunks t) { words = set (words_of t) i x }
stored_cells chunks None i x = refl
stored_cells chunks (Some turn) i x = refl

pub stored_kept : (t : Option TurnView) (i x : ℕ) → kept_in (stored_in t i x) ≡ kept_in t
stored_kept None i x = refl
stored_kept (Some turn) i x = refl

module _ (chunks : ℕ) (t : Option TurnView) (cells : Cells) (is : cells_of chunks t ≡ cells) where
  pub same_chunks : chunks ≡ cells.chunks
  same_chunks = ap (λ (x : Cells). x.chunks) is

  pub few_chunks : chunks ≤ 4096 → cells.chunks ≤ 4096
  few_chunks few = subst (λ (n : ℕ). n ≤ 4096) same_chunks few

  pub same_kept : kept_in t ≡ cells.kept
  same_kept = ap (λ (x : Cells). x.kept) is

  pub wide_words : (table here : TableId) → here ≡ table → length (words_of t) ≡ table.words → 4161 + 2048 * chunks ≡ here.words → length cells.words ≡ 4161 + 2048 * cells.chunks
  wide_words table here same copied wide = subst (λ (x : Cells). length x.words ≡ 4161 + 2048 * x.chunks) is (copied ∙ sym (ap (λ (x : TableId). x.words) same) ∙ sym wide)

  pub status_stored : (i x : ℕ) → cells_of chunks (stored_in t i x) ≡ record cells { words = set cells.words i x }
  status_stored i x = stored_cells chunks t i x ∙ ap (λ (y : Cells). record y { words = set y.words i x }) is

  pub cell_stored : (at : ℕ) (c : Cell) → cells_of chunks (stored_in (stored_in t (cell_at at) c.big) (cell_at at + 1) c.small) ≡ record cells { words = set (set cells.words (cell_at at) c.big) (cell_at at + 1) c.small }
  cell_stored at c = stored_cells chunks (stored_in t (cell_at at) c.big) (cell_at at + 1) c.small ∙ ap (λ (y : Cells). record y { words = set y.words (cell_at at + 1) c.small }) (status_stored (cell_at at) c.big)

module _ {O E : Type 0} (chunks : ℕ) (m m1 : Me (Unit {0}) (View O E)) (cells : Cells) (is : cells_of chunks m.0.turn ≡ cells) where
  -- after one store, and after two
  pub once_stored : (i x : ℕ) → m1 ≡ (stored_view m.0 i x, m.1) → cells_of chunks m1.0.turn ≡ record cells { words = set cells.words i x }
  once_stored i x e = ap (λ (y : Me (Unit {0}) (View O E)). cells_of chunks y.0.turn) e ∙ status_stored chunks m.0.turn cells is i x

  pub kept_once : (i x : ℕ) → m1 ≡ (stored_view m.0 i x, m.1) → kept_in m1.0.turn ≡ cells.kept
  kept_once i x e = ap (λ (y : Me (Unit {0}) (View O E)). kept_in y.0.turn) e ∙ stored_kept m.0.turn i x ∙ same_kept chunks m.0.turn cells is

  pub twice_stored : (m2 : Me (Unit {0}) (View O E)) (at : ℕ) (c : Cell) → m1 ≡ (stored_view m.0 (cell_at at) c.big, m.1) → m2 ≡ (stored_view m1.0 (cell_at at + 1) c.small, m1.1)
      → cells_of chunks m2.0.turn ≡ record cells { words = set (set cells.words (cell_at at) c.big) (cell_at at + 1) c.small }
  twice_stored m2 at c e1 e2 = ap (λ (y : Me (Unit {0}) (View O E)). cells_of chunks y.0.turn) (e2 ∙ ap (λ (y : Me (Unit {0}) (View O E)). let z : Me (Unit {0}) (View O E) = (stored_view y.0 (cell_at at + 1) c.small, y.1) in z) e1)
      ∙ cell_stored chunks m.0.turn cells is at c

-- what is given, and which cells there are, hangs on chunks and words alone

pub given_by_words : (a b : Cells) (kept : List Kept) → a ≡ record b { kept = kept } → given_chunks a ≡ given_chunks b
given_by_words a b kept is = ap given_chunks is

pub has_by_words : (a b : Cells) (kept : List Kept) → a ≡ record b { kept = kept } → (at : ℕ) (c : Cell) → HasCell b at c → HasCell a at c
has_by_words a b kept is at c has = subst (λ (x : Cells). HasCell x at c) (sym is) (record { given = has.given; big = has.big; small = has.small })
