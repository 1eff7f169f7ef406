-- The cells of an item, extent by extent: how many they are, what they weigh, and a test that each passes.
use Rattle.std.proofs.Common.{◌≡◌, ◌≢◌, ℕ, zero, suc, ◌+◌, ◌-◌, ◌*◌, ◌^◌, ◌<◌, ◌≤◌, Bool, true, false, ◌&&◌, List, length, length-append, drop, sum_by, inl, inr, arith, refl, sym, ◌∙◌, ap, subst}
use Rattle.std.proofs.lemmas.Bool.{true≢false, cases_lt}
use Rattle.std.proofs.lemmas.List.{length-drop}
use Rattle.std.proofs.lemmas.List.Sums.{sum_by-cons, sum_by-append}
use Rattle.std.proofs.lemmas.List.Folds.{list_all-append}
use Rattle.std.specs.List.{list_all}
use Rattle.packed_node.specs.declared.Cell.{Cell}
use Rattle.trie_model.specs.Extents.{Extents, first_of, linked_cells, content_cells, links, IsRow, AreExtents, item_cell, link_cell, ItemLies, LiesAt, HasItem, side_by_side, spots, EachCell, IsBeside, WithinExtents, row, weigh_extents}
use Rattle.trie_model.specs.Extents.Extents.{last, linked}

-- it is a number, told where it is needed alone: else each sum of so many terms would be written out
pub linked_is : linked_cells ≡ 256
unfolding linked_cells
linked_is = refl

pub row_is : (w : ℕ → ℕ) (r n : ℕ) → sum_by w (side_by_side r n) ≡ row w r n
row_is w r zero = refl
row_is w r (suc n) = let a = row_is w (suc r) n in sum_by-cons w r (side_by_side (suc r) n) ∙ omega arith

pub length-side_by_side : (r n : ℕ) → length (side_by_side r n) ≡ n
length-side_by_side r zero = refl
length-side_by_side r (suc n) = ap suc (length-side_by_side (suc r) n)

pub both_true : (a b : Bool) → a ≡ true → b ≡ true → (a && b) ≡ true
both_true a b e f = ap (λ x. x && b) e ∙ f

pub first_true : (a b : Bool) → (a && b) ≡ true → a ≡ true
first_true true b e = refl
first_true false b e = e

pub second_true : (a b : Bool) → (a && b) ≡ true → b ≡ true
second_true true b e = e
second_true false b e = absurd (true≢false (sym e))

row_tests : (P : ℕ → Bool) (r n : ℕ) → ((k : ℕ) → k < n → P (r + k) ≡ true) → list_all P (side_by_side r n) ≡ true
row_tests P r zero h = refl
row_tests P r (suc n) h =
    let e : r + 0 ≡ r = omega arith in
    both_true (P r) (list_all P (side_by_side (suc r) n)) (subst (λ (i : ℕ). P i ≡ true) e (h 0 (omega arith)))
    (row_tests P (suc r) n (λ k l. let f : r + suc k ≡ suc r + k = omega arith in subst (λ (i : ℕ). P i ≡ true) f (h (suc k) (omega arith))))

row_tested : (P : ℕ → Bool) (r n : ℕ) → list_all P (side_by_side r n) ≡ true → (k : ℕ) → k < n → P (r + k) ≡ true
row_tested P r zero h k l = absurd (omega arith)
row_tested P r (suc n) h zero l = let e : r ≡ r + 0 = omega arith in subst (λ (i : ℕ). P i ≡ true) e (first_true (P r) (list_all P (side_by_side (suc r) n)) h)
row_tested P r (suc n) h (suc k) l =
    let e : suc r + k ≡ r + suc k = omega arith in subst (λ (i : ℕ). P i ≡ true) e (row_tested P (suc r) n (second_true (P r) (list_all P (side_by_side (suc r) n)) h) k (omega arith))

-- the list of them, and what is said along the extents
pub extents_weighed : (w : ℕ → ℕ) (n : ℕ) (x : Extents) → sum_by w (spots n x) ≡ weigh_extents w n x
extents_weighed w n (last r) = row_is w r (content_cells n)
extents_weighed w n (linked r x) =
    let a = row_is w r linked_cells in let b = extents_weighed w (n - 4080) x in
    sum_by-append w (side_by_side r linked_cells) (spots (n - 4080) x) ∙ omega arith

pub extents_test : (P : ℕ → Bool) (n : ℕ) (x : Extents) → WithinExtents P n x → list_all P (spots n x) ≡ true
extents_test P n (last r) h = row_tests P r (content_cells n) h
extents_test P n (linked r x) h =
    list_all-append P (side_by_side r linked_cells) (spots (n - 4080) x) ∙
    both_true (list_all P (side_by_side r linked_cells)) (list_all P (spots (n - 4080) x)) (row_tests P r linked_cells h.0) (extents_test P (n - 4080) x h.1)

pub extents_tested : (P : ℕ → Bool) (n : ℕ) (x : Extents) → list_all P (spots n x) ≡ true → WithinExtents P n x
extents_tested P n (last r) h = row_tested P r (content_cells n) h
extents_tested P n (linked r x) h =
    let parts = sym (list_all-append P (side_by_side r linked_cells) (spots (n - 4080) x)) ∙ h in (
      row_tested P r linked_cells (first_true (list_all P (side_by_side r linked_cells)) (list_all P (spots (n - 4080) x)) parts),
      extents_tested P (n - 4080) x (second_true (list_all P (side_by_side r linked_cells)) (list_all P (spots (n - 4080) x)) parts),
    )

-- an extent that has others behind it takes 256 cells of the item's
pub cells_behind : (n : ℕ) → 4096 < n → content_cells n + links n ≡ linked_cells + (content_cells (n - 4080) + links (n - 4080))
cells_behind n l = let e = linked_is in omega arith

pub length-spots : (n : ℕ) (x : Extents) → AreExtents n x → length (spots n x) ≡ content_cells n + links n
length-spots n (last r) h = let a = length-side_by_side r (content_cells n) in let b = h.0 in omega arith
length-spots n (linked r x) h =
    let a = length-side_by_side r linked_cells in let b = length-spots (n - 4080) x h.2 in let c = cells_behind n h.0 in
    length-append (side_by_side r linked_cells) (spots (n - 4080) x) ∙ omega arith

pub weigh_ones : (w : ℕ → ℕ) → ((r n : ℕ) → row w r n ≡ n) → (n : ℕ) (x : Extents) → AreExtents n x → weigh_extents w n x ≡ content_cells n + links n
weigh_ones w ones n (last r) h = let a = ones r (content_cells n) in let b = h.0 in omega arith
weigh_ones w ones n (linked r x) h = let a = ones r linked_cells in let b = weigh_ones w ones (n - 4080) x h.2 in let c = cells_behind n h.0 in omega arith

-- the extents of an item lie below 2^22, and the first of them has a cell
pub first_inside : (n : ℕ) (x : Extents) → 0 < n → AreExtents n x → first_of x < 2 ^ 22
first_inside n (last r) some h = let a = h.1.inside in omega arith
first_inside n (linked r x) some h = let a = h.1.inside in let e = linked_is in omega arith

-- there are extents for any number of octets
pub record Laid (n : ℕ) : Type 0 where
  pub extents : Extents
  pub are : AreExtents n extents

pub short_row : (n : ℕ) → n ≤ 1024 → IsRow 0 n
short_row n l = record { inside = omega arith; together = omega arith }

lay : (m n : ℕ) → n ≤ 4096 + 4080 * m → Laid n
lay zero n l = record { extents = last 0; are = (omega arith, short_row (content_cells n) (omega arith)) }
lay (suc m) n l = elim (cases_lt 4096 n) [
  | inl long ↦ (let rest = lay m (n - 4080) (omega arith) in record { extents = linked 0 rest.extents; are = (long, short_row linked_cells (let e = linked_is in omega arith), rest.are) })
  | inr short ↦ record { extents = last 0; are = (short, short_row (content_cells n) (omega arith)) }
]

pub laid : (n : ℕ) → Laid n
laid n = lay n n (omega arith)

-- an item stays where it lies, from one memory to another
pub item_kept : (P : ℕ → Type 0) (has new : ℕ → Cell → Type 0) → ((q : ℕ) (c : Cell) → P q → has q c → new q c) → (x : Extents) (item : List ℕ) →
    EachCell P (length item) x → ItemLies has x item → ItemLies new x item
item_kept P has new keep (last r) item within h = λ k l. keep (r + k) (item_cell item k) (within k l) (h k l)
item_kept P has new keep (linked r x) item within h = (
  λ k l. keep (r + k) (item_cell item k) (within.0 k (let e = linked_is in omega arith)) (h.0 k l),
  keep (r + 255) (link_cell (first_of x)) (within.0 255 (let e = linked_is in omega arith)) h.1,
  item_kept P has new keep x (drop 4080 item) (subst (λ (n : ℕ). EachCell P n x) (sym (length-drop 4080 item)) within.1) h.2,
)

pub each_weaker : (P Q : ℕ → Type 0) → ((q : ℕ) → P q → Q q) → (n : ℕ) (x : Extents) → EachCell P n x → EachCell Q n x
each_weaker P Q weak n (last r) h = λ k l. weak (r + k) (h k l)
each_weaker P Q weak n (linked r x) h = (λ k l. weak (r + k) (h.0 k l), each_weaker P Q weak (n - 4080) x h.1)

-- no cell of these is one of 256 others
pub each_beside : (r n : ℕ) (x : Extents) → ((k : ℕ) → k < linked_cells → IsBeside (r + k) n x) → EachCell (λ q. (k : ℕ) → k < linked_cells → q ≢ r + k) n x
each_beside r n (last p) h = λ j l k m e. h k m j l (sym e)
each_beside r n (linked p x) h = (λ j l k m e. (h k m).0 j l (sym e), each_beside r (n - 4080) x (λ k m. (h k m).1))

-- ---- an item that lies from a reference on
first_lies : (has : ℕ → Cell → Type 0) (x : Extents) (item : List ℕ) → ItemLies has x item → (k : ℕ) → k < content_cells (length item) → k < 255 → has (first_of x + k) (item_cell item k)
first_lies has (last r) item h k l m = h k l
first_lies has (linked r x) item h k l m = h.0 k m

-- its first cells
pub front_lies : (has : ℕ → Cell → Type 0) (r n : ℕ) (item : List ℕ) → HasItem has r n item → (k : ℕ) → k < content_cells n → k < 255 → has (r + k) (item_cell item k)
front_lies has r n item h k l m =
    subst (λ (q : ℕ). has (q + k) (item_cell item k)) h.there.from (first_lies has h.extents item h.there.lies k (subst (λ (s : ℕ). k < content_cells s) (sym h.there.size) l) m)

pub front_inside : (has : ℕ → Cell → Type 0) (r n : ℕ) (item : List ℕ) → HasItem has r n item → (k : ℕ) → k ≤ content_cells n → k ≤ 256 → r + k ≤ 2 ^ 22
front_inside has r n item h k l m = let e = h.there.from in let f = inside_of h.extents h.there.are in omega arith
  where
    inside_of : (x : Extents) → AreExtents n x → first_of x + k ≤ 2 ^ 22
    inside_of (last q) a = let i = a.1.inside in omega arith
    inside_of (linked q x) a = let i = a.1.inside in let e = linked_is in omega arith

-- one that lies side by side
pub record LiesInRow (has : ℕ → Cell → Type 0) (r n : ℕ) (item : List ℕ) : Type 0 where
  pub row : IsRow r (content_cells n)
  pub cells : (k : ℕ) → k < content_cells n → has (r + k) (item_cell item k)

pub lies_in_row : (has : ℕ → Cell → Type 0) (r n : ℕ) (item : List ℕ) → HasItem has r n item → n ≤ 4096 → LiesInRow has r n item
lies_in_row has r n item h short = subst (λ (q : ℕ). LiesInRow has q n item) h.there.from (of h.extents h.there.are h.there.lies)
  where
    of : (x : Extents) → AreExtents n x → ItemLies has x item → LiesInRow has (first_of x) n item
    of (last q) a l = record { row = a.1; cells = λ k m. l k (subst (λ (s : ℕ). k < content_cells s) (sym h.there.size) m) }
    of (linked q x) a l = absurd (let b = a.0 in omega arith)

-- and one that goes on behind a link
pub record LiesOn (has : ℕ → Cell → Type 0) (r n : ℕ) (item : List ℕ) : Type 0 where
  pub row : IsRow r linked_cells
  pub cells : (k : ℕ) → k < 255 → has (r + k) (item_cell item k)
  pub next : ℕ
  pub link : has (r + 255) (link_cell next)
  pub inside : next < 2 ^ 22
  pub rest : HasItem has next (n - 4080) (drop 4080 item)

pub lies_on : (has : ℕ → Cell → Type 0) (r n : ℕ) (item : List ℕ) → HasItem has r n item → 4096 < n → LiesOn has r n item
lies_on has r n item h long = subst (λ (q : ℕ). LiesOn has q n item) h.there.from (of h.extents h.there.are h.there.lies)
  where
    of : (x : Extents) → AreExtents n x → ItemLies has x item → LiesOn has (first_of x) n item
    of (last q) a l = absurd (let b = a.0 in omega arith)
    of (linked q x) a l = record {
      row = a.1;
      cells = l.0;
      next = first_of x;
      link = l.1;
      inside = first_inside (n - 4080) x (omega arith) a.2;
      rest = record { extents = x; there = record { from = refl; size = length-drop 4080 item ∙ ap (λ (s : ℕ). s - 4080) h.there.size; are = a.2; lies = l.2 } };
    }

-- where extents behind a link lie
pub behind_link : (has : ℕ → Cell → Type 0) (r n : ℕ) (item : List ℕ) (p : ℕ) (x : Extents) → LiesAt has r n item (linked p x) → LiesAt has (first_of x) (n - 4080) (drop 4080 item) x
behind_link has r n item p x h = record { from = refl; size = length-drop 4080 item ∙ ap (λ (s : ℕ). s - 4080) h.size; are = h.are.2; lies = h.lies.2 }

-- few octets have one extent, and more have one before others
pub lone : (has : ℕ → Cell → Type 0) (r n : ℕ) (item : List ℕ) (x : Extents) → LiesAt has r n item x → n ≤ 4096 → x ≡ last r
lone has r n item (last q) h short = ap last h.from
lone has r n item (linked q x) h short = absurd (let b = h.are.0 in omega arith)

pub record Goes (has : ℕ → Cell → Type 0) (r n : ℕ) (item : List ℕ) (x : Extents) : Type 0 where
  pub rest : Extents
  pub is : x ≡ linked r rest
  pub row : IsRow r linked_cells
  pub link : has (r + 255) (link_cell (first_of rest))
  pub inside : first_of rest < 2 ^ 22
  pub behind : LiesAt has (first_of rest) (n - 4080) (drop 4080 item) rest

pub goes_on : (has : ℕ → Cell → Type 0) (r n : ℕ) (item : List ℕ) (x : Extents) → LiesAt has r n item x → 4096 < n → Goes has r n item x
goes_on has r n item (last q) h long = absurd (let b = h.are.0 in omega arith)
goes_on has r n item (linked q x) h long = record {
  rest = x;
  is = ap (λ (p : ℕ). linked p x) h.from;
  row = subst (λ (p : ℕ). IsRow p linked_cells) h.from h.are.1;
  link = subst (λ (p : ℕ). has (p + 255) (link_cell (first_of x))) h.from h.lies.1;
  inside = first_inside (n - 4080) x (omega arith) h.are.2;
  behind = behind_link has r n item q x h;
}
