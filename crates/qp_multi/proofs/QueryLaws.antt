-- A pinned version's cells as a query reads them.
use Rattle.std.proofs.Common.{◌≡◌, ◌∙◌, ℕ, List, [], ◌∷◌, length, Option, Some, None, MatchOption, refl, sym, subst, ap, arith, length-append}
use Rattle.std.proofs.Props.{props}
use Rattle.std.specs.Prelude.{Contains}
use Rattle.atomic_table.specs.Seated.{TableId}
use Rattle.packed_node.specs.declared.Cell.{Cell}
use Rattle.packed_node.specs.declared.Leaf.{Leaf}
use Rattle.trie_read.specs.declared.path.Path.{Path}
use Rattle.trie_read.specs.Walks.{HasPassed}
use Rattle.pin_core.specs.declared.kept.CellAt.{CellAt}
use Rattle.shared_cells.specs.declared.pinned.PinnedSeat.{PinnedSeat}
use Rattle.shared_cells.specs.Views.{pinned_image}
use Rattle.trie_model.specs.Keys.{Entry}
use Rattle.qp_multi.specs.declared.meaning.Operation.{Operation}
use Rattle.qp_multi.specs.Meanings.{in_image}

-- an image's cell is among its cells
pub in_cells : (image : List CellAt) (r : ℕ) (c : Cell) → in_image image r c → Contains image (record { at = r; big = c.big; small = c.small })
unfolding in_image
in_cells image r c h = h

-- a cell of the version that a seat has pinned
pub pinned_cell : (s t : PinnedSeat (List Entry) (List Operation)) → t ≡ s → (r : ℕ) (c : Cell) → in_image (pinned_image s.place.me.0.progress) r c
    → Contains (pinned_image t.place.me.0.progress) (record { at = r; big = c.big; small = c.small })
pinned_cell s t e r c h = subst (λ (u : PinnedSeat (List Entry) (List Operation)). Contains (pinned_image u.place.me.0.progress) (record { at = r; big = c.big; small = c.small })) (sym e) (in_cells _ r c h)

-- what is said of an image as a memory is so of the cells of a seat that has pinned it
pub in_pinned : (said : (ℕ → Cell → Type 0) → Type 0) (s t : PinnedSeat (List Entry) (List Operation)) → t ≡ s → said (in_image (pinned_image s.place.me.0.progress))
    → said (λ r c. Contains (pinned_image t.place.me.0.progress) (record { at = r; big = c.big; small = c.small }))
unfolding in_image
in_pinned said s t e h = subst (λ (u : PinnedSeat (List Entry) (List Operation)). said (λ r c. Contains (pinned_image u.place.me.0.progress) (record { at = r; big = c.big; small = c.small }))) (sym e) h

one_table : (z w : TableId) → IsProp (z ≡ w)
one_table z w = hlevel props

one_name : (z w : Option TableId) → IsProp (z ≡ w)
one_name z w = hlevel props

-- what is made of equal seats of a table with a name is equal
pub same_made : {Q : Type 0} (table : TableId) (name : Option TableId) (make : (s : PinnedSeat (List Entry) (List Operation)) → s.place.table_id ≡ table → name ≡ Some s.place.table_id → Q) (s t : PinnedSeat (List Entry) (List Operation)) → s ≡ t
    → (h : s.place.table_id ≡ table) (k : name ≡ Some s.place.table_id) (h' : t.place.table_id ≡ table) (k' : name ≡ Some t.place.table_id) → make s h k ≡ make t h' k'
same_made table name make s t e h k =
    subst (λ (u : PinnedSeat (List Entry) (List Operation)). (h' : u.place.table_id ≡ table) (k' : name ≡ Some u.place.table_id) → make s h k ≡ make u h' k') e
    (λ h' k'. ap (λ x. make s x k) (one_table s.place.table_id table h h') ∙ ap (λ x. make s h' x) (one_name name (Some s.place.table_id) k k'))

-- nothing stands before the first name
pub none_behind : (has : ℕ → Cell → Type 0) (root : Option ℕ) (path : Path) (r : Option Leaf) (after : List Entry) → MatchOption r (◌≡◌ {A = List Entry} [] []) (λ (l : Leaf). HasPassed has root path l [] after) → r ≡ None
none_behind has root path None after h = refl
none_behind has root path (Some l) after h = absurd (
    let e = ap (λ (es : List Entry). length es) h.is in
    let n = length-append h.rest (h.entry ∷ []) in
    let none : ⊥ = omega arith in none)
