-- How many chunks a working set and kept versions need, in numbers.
use Rattle.std.proofs.Common.{◌≡◌, ◌⊎◌, ⊎_elim, ℕ, zero, suc, ◌+◌, ◌-◌, ◌*◌, ◌/◌, ◌<◌, ◌≤◌, ◌==◌, nat_lt, Bool, true, false, not, cond, ◌||◌, ◌&&◌, eq-eqb, map, sum_by, if◌then◌else◌, List, [], ◌∷◌, Contains, length, slice_index, slice_index_or, Option, Some, None, arith, refl, sym, ◌∙◌, ap, subst, inl, inr}
use Rattle.std.proofs.lemmas.Bool.{cases_lt, cases_Bool}
use Rattle.std.proofs.lemmas.Bool.Decides.{nat_tests}
use Rattle.std.proofs.lemmas.List.{length-map}
use Rattle.std.proofs.lemmas.List.Sums.{count_by-le-length, sum_by-cons}
use Rattle.packed_node.specs.declared.Cell.{Cell}
use Rattle.trie_model.specs.Extents.{row}
use Rattle.trie_model.specs.Keys.{Entry}
use Rattle.trie_model.specs.Shape.{cells}
use Rattle.trie_model.specs.Trees.{Tree}
use Rattle.trie_model.specs.Reach.{in_chunk, weigh_tree}
use Rattle.trie_model.proofs.ExtentLaws.{second_true}
use Rattle.trie_model.proofs.ReachLaws.{live_is}
use Rattle.chunk_usage.specs.declared.bump.Bump.{Bump}
use Rattle.chunk_usage.specs.declared.space.Shortage.{Shortage}
use Rattle.chunk_usage.specs.Ledger.{Ledger, Frozen, Row, is_in_row, frozen_part, is_bump, is_given, free_count, reserve_of}
use Rattle.chunk_usage.specs.Handing.{Lacks, consumed}
use Rattle.chunk_usage.specs.Keeping.{is_in_rows, is_needed, freed}
use Rattle.chunk_usage.proofs.RecyclingLaws.{freed_by_chunk}
use Rattle.zone_model.specs.Keys.{Leads}
use Rattle.trie_read.specs.Reads.{EachTells}
use Rattle.trie_write.specs.Paths.{twigs_on_path}
use Rattle.trie_write.specs.Roots.{OnPath}
use Rattle.trie_space.specs.Standing.{StandsIn, Standing}
use Rattle.trie_model.proofs.SizeLaws.{size_is, no_cells}
use Rattle.qp_multi.proofs.CountedLaws.{row_le}
use Rattle.qp_multi.proofs.MeetLaws.{firsts, branches, met_first, row_add, firsts_sum, firsts_few, equal_once, path_few, set_few}
use Rattle.qp_multi.proofs.OpenLaws.{none_unconsumed, clear_is}
use Rattle.qp_multi.proofs.RisenLaws.{risen, risen_few, risen_has, with_bump, open_first, open_later, open_few}
use Rattle.std.specs.List.{All, list_any}
use Rattle.std.proofs.lemmas.List.FromFn.{get_or-map-range_with_len}
use Rattle.pin_core.specs.declared.kept.CellAt.{CellAt}
use Rattle.pin_core.specs.declared.kept.Kept.{Kept}
use Rattle.pin_core.proofs.Lists.{contains_cases}
use Rattle.trie_model.proofs.ShapeLaws.{cells_are}
use Rattle.qp_multi.specs.Meanings.{IsVersion}
use Rattle.qp_multi.specs.Passes.{Known}
use Rattle.qp_multi.specs.Turns.{row_for}
use Rattle.qp_multi.specs.Keepings.{numbers_of}
use Rattle.qp_multi.specs.Fulls.{cells_kept, version_at}

-- the chunks with live cells, as numbers
abbrev pub some_live : (ℕ → ℕ) → ℕ → ℕ
some_live live k = if nat_lt 0 (live k) then 1 else 0

-- the branches below a root
abbrev pub RootMeets : (ℕ → ℕ) → List Entry → ℕ → Type 0
RootMeets live es b = (n : ℕ) → row (some_live live) 0 n + b ≤ cells es

module _ {has : ℕ → Cell → Type 0} {used : ℕ → Bool} {live : ℕ → ℕ} {r : ℕ} {t : Tree} {es : List Entry} (s : StandsIn has used live r t es) where
  met_le : (k : ℕ) → some_live live k ≤ in_chunk k r + firsts (in_chunk k) t
  met_le k = elim (cases_lt 0 (live k)) [
    | inl some ↦ (
        let a = s.counted k in
        let b = live_is k r t in
        let n : ◌≡◌ {A = ℕ} (some_live live k) 1 = grind (arith, nat_tests) in
        elim (cases_lt 0 (weigh_tree (in_chunk k) t)) [
          | inl below ↦ (let c = met_first k 0 t s.trie.shape below in omega arith)
          | inr none ↦ omega arith
        ])
    | inr none ↦ (let n : ◌≡◌ {A = ℕ} (some_live live k) 0 = grind (arith, nat_tests) in omega arith)
  ]

  pub tree_meets : RootMeets live es (branches t)
  tree_meets n =
      let a = row_le (some_live live) (λ k. in_chunk k r + firsts (in_chunk k) t) met_le 0 n in
      let b = firsts_few 0 t s.trie.shape in
      let c = ap cells (sym s.trie.holds) ∙ size_is 0 t s.trie.shape in
      let d = firsts_sum n t in
      let e = equal_once (r / 1024) 0 n in
      let f = row_add (λ k. in_chunk k r) (λ k. firsts (in_chunk k) t) 0 n in omega arith

-- a root whose key's path has n twigs, and whose chunks are few
pub record Path (has : ℕ → Cell → Type 0) (used : ℕ → Bool) (live : ℕ → ℕ) (root : Option ℕ) (key : List ℕ) (es : List Entry) : Type 0 where
  pub n : ℕ
  pub b : ℕ
  pub on_path : OnPath has used live root key n
  pub few : n ≤ 47 * b
  pub meets : RootMeets live es b

none_met : (live : ℕ → ℕ) → ((k : ℕ) → live k ≡ 0) → (r n : ℕ) → row (some_live live) r n ≡ 0
none_met live none r zero = refl
none_met live none r (suc n) =
    let a : ◌≡◌ {A = ℕ} (some_live live r) 0 = (let z = none r in grind (arith, nat_tests)) in
    let b = none_met live none (suc r) n in omega arith

pub path_of : {has : ℕ → Cell → Type 0} {used : ℕ → Bool} {live : ℕ → ℕ} (root : Option ℕ) (key : List ℕ) (es : List Entry) → Standing has used live root es → EachTells Leads es → Path has used live root key es
path_of {live = live} None key es s tells = record { n = 0; b = 0; on_path = refl; few = omega arith; meets = λ n. let a = none_met live s.1 0 n in omega arith }
path_of {live = live} (Some r) key es s tells = record {
  n = twigs_on_path key s.0;
  b = branches s.0;
  on_path = (s.0, es, s.1, tells, refl);
  few = path_few key 0 s.0 s.1.trie.shape;
  meets = tree_meets s.1;
}

-- chunks that stay given are open, were so at the last freeze, or have live cells now or then

abbrev pub open_one : Option Bump → ℕ → ℕ
open_one o k = if is_bump o k then 1 else 0

pub open_once : (o : Option Bump) (n : ℕ) → row (open_one o) 0 n ≤ 1
open_once None n = zeros 0 n
  where
    zeros : (r n : ℕ) → row (λ k. 0) r n ≤ 1
    zeros r zero = omega arith
    zeros r (suc n) = let a = zeros (suc r) n in omega arith
open_once (Some o) n = equal_once o.chunk 0 n

-- each chunk that stays allocated is needed

abbrev pub NeededBy : Ledger → ℕ → Type 0
NeededBy l k = ((is_bump l.bump k ≡ true) ⊎ (is_bump l.fender k ≡ true)) ⊎ ((0 < slice_index l.live k) ⊎ (is_in_rows l.rows k ≡ true))

pub each_needed : (l : Ledger) (k : ℕ) → is_given (freed l) k ≡ true → NeededBy (freed l) k
each_needed l k t = go (is_bump l.bump k) (is_bump l.fender k) (nat_lt 0 (slice_index l.live k)) refl refl refl (second_true (is_given l k) (is_needed l k) (sym (freed_by_chunk l k) ∙ t))
  where
    go : (a b c : Bool) → is_bump l.bump k ≡ a → is_bump l.fender k ≡ b → nat_lt 0 (slice_index l.live k) ≡ c → (a || (b || (c || is_in_rows l.rows k))) ≡ true → NeededBy l k
    go true b c p q r h = inl (inl p)
    go false true c p q r h = inl (inr q)
    go false false true p q r h = inr (inl (grind (arith, nat_tests, r)))
    go false false false p q r h = inr (inr h)

abbrev pub live_of : Ledger → ℕ → ℕ
live_of l k = slice_index l.live k

-- 1 for a chunk that some kept version has a cell in
abbrev pub some_row : List Row → ℕ → ℕ
some_row rows k = if is_in_rows rows k then 1 else 0

abbrev reasons : Ledger → ℕ → ℕ
reasons l k = (open_one l.bump k + open_one l.fender k) + (some_live (live_of l) k + some_row l.rows k)

some_one : (live : ℕ → ℕ) (k : ℕ) → 0 < live k → ◌≡◌ {A = ℕ} (some_live live k) 1
some_one live k some = let e : nat_lt 0 (live k) ≡ true = grind (arith, nat_tests) in ap (λ (x : Bool). cond {A = ℕ} x 1 0) e

needed_counts : (l : Ledger) (k : ℕ) → NeededBy l k → 1 ≤ reasons l k
needed_counts l k (inl (inl h)) = let e : ◌≡◌ {A = ℕ} (open_one l.bump k) 1 = ap (λ (x : Bool). cond {A = ℕ} x 1 0) h in omega arith
needed_counts l k (inl (inr h)) = let e : ◌≡◌ {A = ℕ} (open_one l.fender k) 1 = ap (λ (x : Bool). cond {A = ℕ} x 1 0) h in omega arith
needed_counts l k (inr (inl h)) = let e = some_one (live_of l) k h in omega arith
needed_counts l k (inr (inr h)) = let e : ◌≡◌ {A = ℕ} (some_row l.rows k) 1 = ap (λ (x : Bool). cond {A = ℕ} x 1 0) h in omega arith

pub given_few : (l : Ledger) → ((k : ℕ) → is_given l k ≡ true → NeededBy l k) → length l.given ≤ free_count l + (2 + row (some_live (live_of l)) 0 (length l.given) + row (some_row l.rows) 0 (length l.given))
given_few l needed =
    let n = length l.given in
    let a = set_few l.given (reasons l) (λ k t. needed_counts l k (needed k t)) in
    let b = row_add (λ k. open_one l.bump k + open_one l.fender k) (λ k. some_live (live_of l) k + some_row l.rows k) 0 n in
    let c = row_add (open_one l.bump) (open_one l.fender) 0 n in
    let d = row_add (some_live (live_of l)) (some_row l.rows) 0 n in
    let e = open_once l.bump n in
    let f = open_once l.fender n in omega arith

-- chunks that kept versions have cells in

pub any_counts : (a b : Bool) → (if a || b then 1 else 0) ≤ (if a then 1 else 0) + (if b then 1 else 0)
any_counts true b = omega arith
any_counts false b = omega arith

-- an image lies in no more chunks than it has cells
pub met_by_image : (image : List CellAt) (n : ℕ) → row (λ k. if list_any (λ (c : CellAt). c.at / 1024 == k) image then 1 else 0) 0 n ≤ length image
met_by_image [] n = none_there 0 n
  where
    none_there : (r n : ℕ) → row (λ k. 0) r n ≤ 0
    none_there r zero = omega arith
    none_there r (suc n) = let a = none_there (suc r) n in omega arith
met_by_image (c ∷ image) n =
    let a = row_le (λ k. if (c.at / 1024 == k) || list_any (λ (c : CellAt). c.at / 1024 == k) image then 1 else 0)
    (λ k. (if c.at / 1024 == k then 1 else 0) + (if list_any (λ (c : CellAt). c.at / 1024 == k) image then 1 else 0))
    (λ k. any_counts (c.at / 1024 == k) (list_any (λ (c : CellAt). c.at / 1024 == k) image)) 0 n in
    let b = row_add (λ k. if c.at / 1024 == k then 1 else 0) (λ k. if list_any (λ (c : CellAt). c.at / 1024 == k) image then 1 else 0) 0 n in
    let d = equal_once (c.at / 1024) 0 n in
    let e = met_by_image image n in omega arith

-- the same of a row, below the number of chunks
row_met : (chunks : ℕ) (k : Kept) (r n : ℕ) → r + n ≤ chunks → row (λ j. if is_in_row (row_for chunks k) j then 1 else 0) r n ≡ row (λ j. if list_any (λ (c : CellAt). c.at / 1024 == j) k.image then 1 else 0) r n
row_met chunks k r zero inside = refl
row_met chunks k r (suc n) inside =
    let here : is_in_row (row_for chunks k) r ≡ list_any (λ (c : CellAt). c.at / 1024 == r) k.image = get_or-map-range_with_len (λ chunk. list_any (λ (c : CellAt). c.at / 1024 == chunk) k.image) 0 chunks r r false (omega arith) (omega arith) in
    let one : ◌≡◌ {A = ℕ} (if is_in_row (row_for chunks k) r then 1 else 0) (if list_any (λ (c : CellAt). c.at / 1024 == r) k.image then 1 else 0) = ap (λ (b : Bool). cond {A = ℕ} b 1 0) here in
    let more = row_met chunks k (suc r) n (omega arith) in omega arith

pub rows_met : (chunks : ℕ) (kept : List Kept) → row (some_row (map (row_for chunks) kept)) 0 chunks ≤ sum_by (λ (k : Kept). length k.image) kept
rows_met chunks [] = none_there 0 chunks
  where
    none_there : (r n : ℕ) → row (λ k. 0) r n ≤ 0
    none_there r zero = omega arith
    none_there r (suc n) = let a = none_there (suc r) n in omega arith
rows_met chunks (k ∷ kept) =
    let rows = map (row_for chunks) kept in
    let a = row_le (some_row (row_for chunks k ∷ rows)) (λ j. (if is_in_row (row_for chunks k) j then 1 else 0) + some_row rows j) (λ j. any_counts (is_in_row (row_for chunks k) j) (is_in_rows rows j)) 0 chunks in
    let b = row_add (λ j. if is_in_row (row_for chunks k) j then 1 else 0) (some_row rows) 0 chunks in
    let c = row_met chunks k 0 chunks (omega arith) in
    let d = met_by_image k.image chunks in
    let e = rows_met chunks kept in
    let f = sum_by-cons (λ (j : Kept). length j.image) k kept in omega arith

-- a version's image has as many cells as the version's trie
pub image_cells : (image : List CellAt) (root : Option ℕ) (es : List Entry) → IsVersion image root es → length image ≡ cells es
image_cells image None es is = ap (λ (i : List CellAt). length i) is.image_of.0 ∙ sym (ap cells is.image_of.1 ∙ no_cells)
image_cells image (Some r) es is =
    let t = is.image_of.0 in
    let trie = is.image_of.1 in
    sym (length-map image (λ (c : CellAt). c.at)) ∙ ap (λ (qs : List ℕ). length qs) is.image_of.2 ∙ cells_are 0 r t trie.shape ∙ ap cells trie.holds

pub kept_images : (v : Known) (kept : List Kept) → All (λ k. IsVersion k.image k.root (version_at v k.version)) kept → sum_by (λ (k : Kept). length k.image) kept ≡ cells_kept v (numbers_of kept)
kept_images v [] all = refl
kept_images v (k ∷ kept) all =
    let here = image_cells k.image k.root (version_at v k.version) (all 0 k (omega arith)) in
    let more = kept_images v kept (λ i d l. all (suc i) d (omega arith)) in
    sum_by-cons (λ (j : Kept). length j.image) k kept ∙ (let f = sum_by-cons (λ (n : ℕ). cells (version_at v n)) k.version (numbers_of kept) in omega arith)

-- so where a call then finds no room, the cells are many
pub many : (m new : Ledger) (f : Shortage) (chunks cells_es cells_base meets_es meets_base b n written : ℕ) → length m.given ≡ chunks → length new.given ≡ chunks → chunks ≤ free_count m + (2 + meets_es + meets_base) → meets_es + b ≤ cells_es → meets_base ≤ cells_base
    → n ≤ 47 * b → written ≤ 4115 → consumed new ≤ consumed m + (written + n) → Lacks new f → chunks - reserve_of new - 8 ≤ cells_es + cells_base
many m new f chunks cells_es cells_base meets_es meets_base b n written old_length new_length given es base path short cost lacks =
    let all = none_unconsumed new.bump f.needed lacks.0.few_left lacks.2 in
    let none = lacks.0.none_free in
    let free = count_by-le-length not new.given in
    let free_m = count_by-le-length not m.given in omega arith

-- the chunks that were allocated since
abbrev pub taken : Ledger → Ledger → List ℕ
taken m new = risen m.given new.given 0

zeroth : (k : ℕ) → 0 + k ≡ k
zeroth k = omega arith

pub met_or_opened : (m new : Ledger) → ((k : ℕ) → is_given m k ≡ true → NeededBy m k) → length new.given ≡ length m.given → frozen_part new ≡ frozen_part m → ((k : ℕ) → slice_index new.live k ≡ slice_index m.live k) → (k : ℕ) → is_given new k ≡ true
    → ((is_bump new.fender k ≡ true) ⊎ Contains (with_bump m.bump (taken m new)) k) ⊎ ((0 < slice_index new.live k) ⊎ (is_in_rows new.rows k ≡ true))
met_or_opened m new needed chunks frozen live k given = elim (cases_Bool (is_given m k)) [
  | inl before ↦ was (needed k before)
  | inr not_before ↦ inl (inr (open_later m.bump (taken m new) k (subst (λ (i : ℕ). Contains (taken m new) i) (zeroth k) (risen_has m.given new.given 0 k chunks given not_before))))
]
  where
    was : NeededBy m k → ((is_bump new.fender k ≡ true) ⊎ Contains (with_bump m.bump (taken m new)) k) ⊎ ((0 < slice_index new.live k) ⊎ (is_in_rows new.rows k ≡ true))
    was (inl (inl h)) = inl (inr (open_first m.bump (taken m new) k h))
    was (inl (inr h)) = inl (inl (ap (λ (f : Frozen). is_bump f.bump k) frozen ∙ h))
    was (inr (inl h)) = inr (inl (let e = live k in omega arith))
    was (inr (inr h)) = inr (inr (ap (λ (f : Frozen). is_in_rows f.rows k) frozen ∙ h))

-- each of them is what it is said to be

risen_only : (a b : List Bool) (r k : ℕ) → Contains (risen a b r) k → (j : ℕ) × (k ≡ r + j) × (slice_index_or a j false ≡ false) × (slice_index_or b j false ≡ true)
risen_only [] b r k h = absurd (let l = h.1 in omega arith)
risen_only (x ∷ a) [] r k h = absurd (let l = h.1 in omega arith)
risen_only (x ∷ a) (y ∷ b) r k h = go x y h (λ c. risen_only a b (suc r) k c)
  where
    later : (j : ℕ) × (k ≡ suc r + j) × (slice_index_or a j false ≡ false) × (slice_index_or b j false ≡ true) → (x y : Bool) → (j : ℕ) × (k ≡ r + j) × (slice_index_or (x ∷ a) j false ≡ false) × (slice_index_or (y ∷ b) j false ≡ true)
    later m x y = (suc m.0, (let e = m.1 in omega arith), m.2, m.3)

    go : (x y : Bool) → Contains (if y && not x then r ∷ risen a b (suc r) else risen a b (suc r)) k → (Contains (risen a b (suc r)) k → (j : ℕ) × (k ≡ suc r + j) × (slice_index_or a j false ≡ false) × (slice_index_or b j false ≡ true))
        → (j : ℕ) × (k ≡ r + j) × (slice_index_or (x ∷ a) j false ≡ false) × (slice_index_or (y ∷ b) j false ≡ true)
    go true true h more = later (more h) true true
    go true false h more = later (more h) true false
    go false false h more = later (more h) false false
    go false true h more = ⊎_elim
        (λ (e : r ≡ k). (0, (let s : k ≡ r + 0 = omega arith in s), refl, refl))
        (λ (c : Contains (risen a b (suc r)) k). later (more c) false true) (contains_cases r k (risen a b (suc r)) h)

pub opened_is : (m new : Ledger) (k : ℕ) → Contains (with_bump m.bump (taken m new)) k → (is_bump m.bump k ≡ true) ⊎ ((is_given m k ≡ false) × (is_given new k ≡ true))
opened_is m new k h = go m.bump h
  where
    since : Contains (taken m new) k → (is_given m k ≡ false) × (is_given new k ≡ true)
    since c =
        let x = risen_only m.given new.given 0 k c in
        let e : x.0 ≡ k = (let f = x.1 in omega arith) in
        (subst (λ (i : ℕ). is_given m i ≡ false) e x.2, subst (λ (i : ℕ). is_given new i ≡ true) e x.3)

    go : (o : Option Bump) → Contains (with_bump o (taken m new)) k → (is_bump o k ≡ true) ⊎ ((is_given m k ≡ false) × (is_given new k ≡ true))
    go None c = inr (since c)
    go (Some o) c = ⊎_elim
        (λ (e : o.chunk ≡ k). inl (eq-eqb o.chunk k e))
        (λ (d : Contains (taken m new) k). inr (since d)) (contains_cases o.chunk k (taken m new) c)

pub few_taken : (m new : Ledger) (f : Shortage) (cost : ℕ) → length new.given ≡ length m.given → ((k : ℕ) → is_given m k ≡ true → is_given new k ≡ true) → consumed new ≤ consumed m + cost → Lacks new f → 769 * length (with_bump m.bump (taken m new)) ≤ 769 + cost
few_taken m new f cost chunks stays short lacks =
    let a = open_few m.bump (taken m new) in
    let b = risen_few m.given new.given 0 chunks stays in
    let c = clear_is m.given in
    let d = clear_is new.given in
    let all = none_unconsumed new.bump f.needed lacks.0.few_left lacks.2 in
    let free = count_by-le-length not new.given in
    let free_m = count_by-le-length not m.given in omega arith
