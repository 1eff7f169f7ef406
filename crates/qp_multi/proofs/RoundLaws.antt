-- What a round leaves in place: the kept versions that it names, with their rows.
use Rattle.std.proofs.Common.{◌≡◌, ◌⊎◌, ◌∙◌, ⊎_elim, inl, inr, ℕ, suc, ◌+◌, ◌<◌, ◌≤◌, ◌==◌, ◌||◌, Bool, true, false, cond, List, [], ◌∷◌, ◌++◌, map, length, take, slice_index, Option, Some, refl, sym, ap, subst, arith, eq-eqb}
use Rattle.std.specs.Prelude.{IfSome, unwrap_or}
use Rattle.std.specs.List.{All, AllPairs, Contains, filter, list_any, range_with_len}
use Rattle.std.proofs.lemmas.Bool.Decides.{eqb_tells}
use Rattle.std.proofs.lemmas.List.{length-map}
use Rattle.std.proofs.lemmas.Simd.{map-map}
use Rattle.std.proofs.lemmas.List.Elements.{All-filter}
use Rattle.std.proofs.lemmas.List.Kept.{AllPairs-filter}
use Rattle.pin_core.specs.Words.{status_at}
use Rattle.pin_core.specs.Machine.{names_version}
use Rattle.pin_core.specs.declared.kept.CellAt.{CellAt}
use Rattle.pin_core.specs.declared.kept.Kept.{Kept}
use Rattle.pin_core.proofs.Lists.{contains_cases, contains_filter, contains_from_filter}
use Rattle.trie_model.specs.Keys.{Entry}
use Rattle.chunk_usage.specs.Ledger.{Ledger, Row, newest}
use Rattle.chunk_usage.specs.Keeping.{is_among, kept_versions, narrowed, rows_of}
use Rattle.shared_cells.specs.declared.view.TurnView.{TurnView}
use Rattle.shared_cells.specs.History.{version_after}
use Rattle.shared_cells.specs.Views.{is_told, kept_in, words_of, namings_by}
use Rattle.shared_cells.proofs.Seats.{told_there}
use Rattle.shared_cells.specs.Steps.{Confirmed, Rounded}
use Rattle.qp_multi.specs.declared.meaning.Operation.{Operation}
use Rattle.qp_multi.specs.Operations.{applied}
use Rattle.qp_multi.specs.Meanings.{IsVersion}
use Rattle.qp_multi.specs.Passes.{Known}
use Rattle.qp_multi.specs.Turns.{Agrees, AgreesWithin, cells_with, row_for, cell_counts, current_image, current_root, is_immutable}
use Rattle.qp_multi.specs.Keepings.{GoesOn, numbers_of}
use Rattle.qp_multi.specs.Fulls.{version_at}
use Rattle.qp_multi.proofs.ImageLaws.{current_is, ends_with}
use Rattle.qp_multi.proofs.Lists.{either_true, all_flat, all_from_flat}
use Rattle.qp_multi.proofs.RowLaws.{filter_same, among_of, of_among}

-- tests that hold together are the same
both_ways : (a b : Bool) → (a ≡ true → b ≡ true) → (b ≡ true → a ≡ true) → a ≡ b
both_ways true b to from = sym (to refl)
both_ways false true to from = from refl
both_ways false false to from = refl

or_cases : (a b : Bool) → (a || b) ≡ true → (a ≡ true) ⊎ (b ≡ true)
or_cases true b e = inl refl
or_cases false b e = inr e

filter_map : {A B : Type 0} (q : B → Bool) (f : A → B) (xs : List A) → filter q (map f xs) ≡ map f (filter (λ x. q (f x)) xs)
filter_map q f [] = refl
filter_map {A} q f (x ∷ xs) = go (q (f x)) (filter_map q f xs)
  where
    go : (b : Bool) → filter q (map f xs) ≡ map f (filter (λ x. q (f x)) xs) → cond b (f x ∷ filter q (map f xs)) (filter q (map f xs)) ≡ map f (cond b (x ∷ filter (λ x. q (f x)) xs) (filter (λ x. q (f x)) xs))
    go true rest = ap (λ ys. f x ∷ ys) rest
    go false rest = rest

-- the newest of versions that rise has the last row
pub newest_row : (chunks : ℕ) (kept : List Kept) (n : ℕ) (k : Kept) → AllPairs (λ k j. k.version < j.version) kept → All (λ k. k.version ≤ n) kept → Contains kept k → k.version ≡ n → newest (map (row_for chunks) kept) ≡ Some (row_for chunks k)
newest_row chunks [] n k rising newest c e = absurd (let l = c.1 in omega arith)
newest_row chunks (j ∷ []) n k rising newest c e = ⊎_elim
    (λ (same : j ≡ k). ap (λ (x : Kept). Some (row_for chunks x)) same)
    (λ (none : Contains [] k). absurd (let l = none.1 in omega arith)) (contains_cases j k [] c)
newest_row chunks (j ∷ (i ∷ kept)) n k rising newest c e = ⊎_elim
    (λ (same : j ≡ k). absurd (
    let first : j.version < i.version = rising 0 1 j (omega arith) (omega arith) in
    let last : i.version ≤ n = newest 1 j (omega arith) in
    let v : j.version ≡ k.version = ap (λ (x : Kept). x.version) same in omega arith))
    (λ (later : Contains (i ∷ kept) k). newest_row chunks (i ∷ kept) n k
    (λ a b d l m. rising (suc a) (suc b) d (omega arith) (omega arith)) (λ a d l. newest (suc a) d (omega arith)) later e) (contains_cases j k (i ∷ kept) c)

module _ {permitted : List Operation → Type 0} (lawful : List Entry → List Entry → Type 0) (v : Known) (turn : TurnView) (word : ℕ) (is_turn : v.turn ≡ Some turn) (told : Confirmed applied lawful permitted IsVersion v turn word) (w : Known) (versions : List ℕ) (r : Rounded v w versions) where
  abbrev current : ℕ
  current = length v.seen.history

  abbrev test : Kept → Bool
  test k = (k.version == current) || list_any (names_version k.version) r.marks

  same_turn : r.turn ≡ turn
  same_turn = let e : Some r.turn ≡ Some turn = sym r.is_turn ∙ is_turn in cc

  kept_before : kept_in v.turn ≡ turn.kept
  kept_before = ap kept_in is_turn

  kept_now : kept_in w.turn ≡ filter test turn.kept
  kept_now = ap (λ (x : Known). kept_in x.turn) r.after ∙ ap (λ (t : TurnView). filter test t.kept) same_turn

  pub words_same : words_of w.turn ≡ words_of v.turn
  words_same = ap (λ (x : Known). words_of x.turn) r.after ∙ ap words_of (sym r.is_turn)

  pub goes_on : GoesOn v w
  goes_on = record {
    pass = ap (λ (x : Known). x.pass) r.after;
    opening = ap (λ (x : Known). x.seen.opening) r.after;
    history = ap (λ (x : Known). x.seen.history) r.after;
    namings = (namings_by 0 r.marks, ap (λ (x : Known). x.seen.namings) r.after);
  }

  -- which versions are left
  due : (n : ℕ) → is_among versions n ≡ ((n == current) || list_any (names_version n) r.marks)
  due n = both_ways (is_among versions n) ((n == current) || list_any (names_version n) r.marks)
      (λ h. either_true (n == current) (list_any (names_version n) r.marks) (⊎_elim
      (λ (e : n ≡ current). inl (eq-eqb n current e))
      (λ (e : list_any (names_version n) r.marks ≡ true). inr e) ((r.exact n).0 (of_among versions n h))))
      (λ h. among_of versions n ((r.exact n).1 (⊎_elim
      (λ (e : (n == current) ≡ true). inl (let s : n ≡ current = grind (arith, eqb_tells n current) in s))
      (λ (e : list_any (names_version n) r.marks ≡ true). inr e) (or_cases (n == current) (list_any (names_version n) r.marks) h))))

  pub current_left : is_among versions current ≡ true
  current_left = among_of versions current ((r.exact current).1 (inl refl))

  -- the current version is still the last one
  abbrev last : Kept
  last = told.current.0

  last_passes : test last ≡ true
  last_passes = ap (λ (b : Bool). b || list_any (names_version last.version) r.marks) (eq-eqb last.version current told.current.2)

  before_is : (current_image turn.kept ≡ last.image) × (current_root turn.kept ≡ last.root)
  before_is = current_is turn.kept current last told.rising told.newest told.current.1 told.current.2

  now_is : (current_image (filter test turn.kept) ≡ last.image) × (current_root (filter test turn.kept) ≡ last.root)
  now_is = current_is (filter test turn.kept) current last (AllPairs-filter (λ k j. k.version < j.version) test turn.kept told.rising)
      (All-filter test (λ k. k.version ≤ current) turn.kept told.newest) (contains_filter test turn.kept last told.current.1 last_passes) told.current.2

  image_same : current_image (kept_in w.turn) ≡ current_image (kept_in v.turn)
  image_same = ap current_image kept_now ∙ now_is.0 ∙ sym before_is.0 ∙ ap current_image (sym kept_before)

  pub root_same : current_root (kept_in w.turn) ≡ current_root (kept_in v.turn)
  root_same = ap current_root kept_now ∙ now_is.1 ∙ sym before_is.1 ∙ ap current_root (sym kept_before)

  -- it is the last of those that are left
  pub ends_left : (older : List ℕ) × (numbers_of (kept_in w.turn) ≡ older ++ current ∷ [])
  ends_left = subst (λ (kept : List Kept). (older : List ℕ) × (numbers_of kept ≡ older ++ current ∷ [])) (sym kept_now)
      (ends_with (filter test turn.kept) current last (AllPairs-filter (λ k j. k.version < j.version) test turn.kept told.rising)
      (All-filter test (λ k. k.version ≤ current) turn.kept told.newest) (contains_filter test turn.kept last told.current.1 last_passes) told.current.2)

  -- each version that is left has its image
  pub images_left : is_told v.seen.opening ≡ true → All (λ k. IsVersion k.image k.root (version_at v k.version)) (kept_in w.turn)
  images_left known =
      let o = told_there v.seen.opening known in
      let IsKept : Kept → Type 0 = λ k. IsVersion k.image k.root (version_at v k.version) in
      subst (All IsKept) (sym kept_now) (All-filter test IsKept turn.kept
      (subst (λ (opening : Option (List Entry)). All (λ (k : Kept). IsVersion k.image k.root (version_after applied (unwrap_or opening []) (take k.version v.seen.history))) turn.kept) (sym o.1) (told.images o.0 o.1)))

  module _ (u : Ledger) (count most : ℕ) (agrees : AgreesWithin most (cells_with u v.turn) u count) where
    abbrev chunks : ℕ
    chunks = length u.given

    rows_are : u.rows ≡ map (row_for chunks) turn.kept
    rows_are = agrees.rows ∙ ap (map (row_for chunks)) kept_before

    pub newest_left : IfSome (newest u.rows) (λ row. is_among versions row.version ≡ true)
    newest_left = subst (λ (o : Option Row). IfSome o (λ row. is_among versions row.version ≡ true))
        (sym (ap newest rows_are ∙ newest_row chunks turn.kept current last told.rising told.newest told.current.1 told.current.2))
        (ap (is_among versions) told.current.2 ∙ current_left)

    rows_now : rows_of versions u.rows ≡ map (row_for chunks) (kept_in w.turn)
    rows_now =
        ap (rows_of versions) rows_are
        ∙ filter_map (λ (row : Row). is_among versions row.version) (row_for chunks) turn.kept
        ∙ ap (map (row_for chunks)) (filter_same (λ (k : Kept). is_among versions k.version) test turn.kept (λ k c. due k.version))
        ∙ ap (map (row_for chunks)) (sym kept_now)

    pub numbers_now : kept_versions (narrowed u versions) ≡ versions
    numbers_now = ap (map (λ (row : Row). row.version)) rows_now ∙ map-map (λ (row : Row). row.version) (row_for chunks) (kept_in w.turn) ∙ sym r.kept

    pub agrees_rounded : length versions ≤ count + 1 → Agrees (cells_with u w.turn) (narrowed u versions) count
    agrees_rounded few = record {
      given = ap (λ (words : List ℕ). map (λ chunk. slice_index words (status_at chunk) == 1) (range_with_len 0 chunks)) words_same ∙ agrees.given;
      rows = rows_now;
      few_rows =
          let a = ap (λ (rows : List Row). length rows) rows_now ∙ length-map (kept_in w.turn) (row_for chunks) in
          let b = ap (λ (ns : List ℕ). length ns) r.kept ∙ length-map (kept_in w.turn) (λ (k : Kept). k.version) in
          omega arith;
      last_live = agrees.last_live ∙ ap (cell_counts chunks) (sym image_same);
      immutable = all_from_flat (is_immutable u) (λ (k : Kept). map (λ (c : CellAt). c.at) k.image) (kept_in w.turn) (λ k c.
          all_flat (is_immutable u) (λ (k : Kept). map (λ (c : CellAt). c.at) k.image) (kept_in v.turn) k agrees.immutable
          (subst (λ (ks : List Kept). Contains ks k) (sym kept_before) (contains_from_filter test turn.kept k (subst (λ (ks : List Kept). Contains ks k) kept_now c))));
      passes = agrees.passes;
    }
