-- An index is opened: what that asks for, and what the turn then agrees on.
use Rattle.std.proofs.Common.{◌≡◌, ◌∙◌, ⊎_elim, inl, inr, ℕ, ◌==◌, Bool, true, false, List, [], ◌∷◌, ◌++◌, map, length, replicate, slice_index, Option, Some, None, refl, sym, ap, subst, arith}
use Rattle.std.specs.List.{Contains, range_with_len}
use Rattle.std.proofs.lemmas.List.{same_lists, length-replicate, get_or-replicate, get_or-set_other, get_or_past}
use Rattle.std.proofs.lemmas.Bool.{cases_lt}
use Rattle.std.proofs.lemmas.List.FromFn.{get_or-map-range_with_len, length-map-range_with_len}
use Rattle.pin_core.specs.declared.kept.CellAt.{CellAt}
use Rattle.pin_core.specs.declared.kept.Kept.{Kept}
use Rattle.pin_core.specs.Words.{status_at, size_of, word_count, current_word}
use Rattle.pin_core.proofs.Lists.{contains_cases}
use Rattle.trie_model.specs.Keys.{Entry}
use Rattle.chunk_usage.specs.Ledger.{Ledger, Row, IsLedger, row_of, is_used, is_mutable, unused}
use Rattle.chunk_usage.specs.Keeping.{frozen}
use Rattle.shared_cells.specs.declared.view.TableSize.{TableSize}
use Rattle.shared_cells.specs.declared.view.TurnView.{TurnView}
use Rattle.shared_cells.specs.Cells.{cells_of, given_chunks}
use Rattle.shared_cells.specs.Views.{core_size, kept_in, kept_of, words_of, first_turn}
use Rattle.shared_cells.specs.Steps.{CanOpen, IsImage}
use Rattle.qp_multi.specs.declared.meaning.Operation.{Operation}
use Rattle.qp_multi.specs.Operations.{applied}
use Rattle.qp_multi.specs.Meanings.{IsVersion}
use Rattle.qp_multi.specs.Passes.{Known}
use Rattle.qp_multi.specs.Turns.{Agrees, cells_with, row_for, cell_counts, current_image, is_immutable}
use Rattle.qp_multi.specs.Bases.{StandsFor}
use Rattle.qp_multi.specs.Images.{image_at}
use Rattle.qp_multi.specs.Openings.{IsUnused}
use Rattle.qp_multi.proofs.KeepLaws.{immutable_of}
use Rattle.qp_multi.proofs.OpenLaws.{none_consumed}
use Rattle.qp_multi.proofs.Lists.{all_from, all_from_flat, of_map}
use Rattle.qp_multi.proofs.VersionLaws.{version_image, image_fits, image_used, image_counts, live_counts, row_set}

module _ (v : Known) (u : Ledger) (is : IsLedger u) (given : given_chunks (cells_with u v.turn) ≡ u.given) (root : Option ℕ) (es : List Entry) (works : StandsFor v u root es) where
  abbrev image : List CellAt
  image = image_at (words_of v.turn) root

  pub can_open : {permitted : List Operation → Type 0} (lawful : List Entry → List Entry → Type 0) (key : TableSize) (turn : TurnView) → v.turn ≡ Some turn → key.chunks ≡ length u.given → lawful es es → CanOpen applied lawful permitted IsVersion key v (Some es) root image
  can_open lawful key turn is_turn chunks good = record {
    turn = turn;
    opening = es;
    is_turn = is_turn;
    is_version = refl;
    fits = subst (λ (t : Option TurnView). IsImage (core_size key) (words_of t) root image) is_turn
        (subst (λ (n : ℕ). IsImage (size_of key.passes n) (words_of v.turn) root image) (sym chunks) (image_fits (cells_with u v.turn) u es key.passes root works is given));
    good = good;
    stood = version_image (cells_with u v.turn) u es root works;
  }

  module _ (w : Known) (new : Ledger) (count : ℕ) (no_rows : u.rows ≡ []) (passes : u.passes ≡ count) (after : new ≡ frozen u 0) (settled : (q : ℕ) → is_used new q ≡ true → is_mutable new q ≡ false)
      (kept_now : kept_in w.turn ≡ kept_of 0 root image ∷ []) (words_now : words_of w.turn ≡ words_of v.turn) where
    abbrev chunks : ℕ
    chunks = length u.given

    abbrev first : Kept
    first = kept_of 0 root image

    live_is : u.live ≡ cell_counts chunks image
    live_is = live_counts chunks u.live image is.counted (image_counts (cells_with u v.turn) u es root works)

    first_immutable : (k : Kept) → Contains (first ∷ []) k → (c : CellAt) → Contains k.image c → is_immutable new c.at ≡ true
    first_immutable k h c i = ⊎_elim
        (λ (same : first ≡ k).
        let used : is_used new c.at ≡ true = ap (λ (l : Ledger). is_used l c.at) after ∙ image_used (cells_with u v.turn) u es root works c (subst (λ (x : Kept). Contains x.image c) (sym same) i) in
        immutable_of new c.at used (settled c.at used))
        (λ (none : Contains [] k). absurd (let l = none.1 in omega arith)) (contains_cases first k [] h)

    agrees_opened : Agrees (cells_with u w.turn) (frozen u 0) count
    agrees_opened = record {
      given = ap (λ (words : List ℕ). map (λ chunk. slice_index words (status_at chunk) == 1) (range_with_len 0 chunks)) words_now ∙ given;
      rows =
          ap (λ (rows : List Row). rows ++ record { version = 0; chunks = row_of u.live } ∷ []) no_rows
          ∙ ap (λ (flags : List Bool). let r : List Row = record { version = 0; chunks = flags } ∷ [] in r) (row_set chunks u.live image live_is)
          ∙ ap (map (row_for chunks)) (sym kept_now);
      few_rows = (let a = ap (λ (rows : List Row). length (rows ++ record { version = 0; chunks = row_of u.live } ∷ [])) no_rows in omega arith);
      last_live = live_is ∙ ap (cell_counts chunks) (sym (ap current_image kept_now));
      immutable = all_from_flat (is_immutable (frozen u 0)) (λ (k : Kept). map (λ (c : CellAt). c.at) k.image) (kept_in w.turn) (λ k h.
          all_from (is_immutable (frozen u 0)) (map (λ (c : CellAt). c.at) k.image) (λ q j.
          let c = of_map (λ (c : CellAt). c.at) k.image q j in
          subst (λ (x : ℕ). is_immutable (frozen u 0) x ≡ true) c.2
          (subst (λ (l : Ledger). is_immutable l c.0.at ≡ true) after (first_immutable k (subst (λ (ks : List Kept). Contains ks k) kept_now h) c.0 c.1))));
      passes = passes;
    }

    pub first_agrees : Agrees (cells_with new w.turn) new count
    first_agrees = subst (λ (l : Ledger). Agrees (cells_with l w.turn) l count) (sym after) agrees_opened

-- a table that was just made

zeros : (n i : ℕ) → slice_index (replicate n 0) i ≡ 0
zeros n i = elim (cases_lt i n) [ inl lt ↦ get_or-replicate n i 0 0 lt | inr past ↦ get_or_past (replicate n 0) i 0 (let e = length-replicate {A = ℕ} n 0 in omega arith) ]

abbrev made_turn : TableSize → ℕ → Option TurnView
made_turn size made = Some (record (first_turn size) { made = made })

status_free : (size : TableSize) (made chunk : ℕ) → slice_index (words_of (made_turn size made)) (status_at chunk) ≡ 0
status_free size made chunk = get_or-set_other (replicate (word_count (core_size size)) 0) 0 (status_at chunk) (current_word 0 None) 0 (λ e. omega arith) ∙ zeros (word_count (core_size size)) (status_at chunk)

none_given : (size : TableSize) (made : ℕ) → given_chunks (cells_of size.chunks (made_turn size made)) ≡ replicate size.chunks false
none_given size made =
    let long : length (given_chunks (cells_of size.chunks (made_turn size made))) ≡ size.chunks = length-map-range_with_len (λ chunk. slice_index (words_of (made_turn size made)) (status_at chunk) == 1) 0 size.chunks in
    same_lists (given_chunks (cells_of size.chunks (made_turn size made))) (replicate size.chunks false) (long ∙ sym (length-replicate {A = Bool} size.chunks false))
    (λ k d l. get_or-map-range_with_len (λ chunk. slice_index (words_of (made_turn size made)) (status_at chunk) == 1) 0 size.chunks k k d (omega arith) (omega arith)
    ∙ ap (λ (word : ℕ). word == 1) (status_free size made k)
    ∙ sym (get_or-replicate {A = Bool} size.chunks k false d (omega arith)))

pub is_unused : (size : TableSize) (made passes : ℕ) (u : Ledger) → u ≡ unused size.chunks passes → IsUnused (made_turn size made) u passes
is_unused size made passes u e = subst (λ (l : Ledger). IsUnused (made_turn size made) l passes) (sym e) (record {
  given = ap (λ (n : ℕ). given_chunks (cells_of n (made_turn size made))) (length-replicate {A = Bool} size.chunks false) ∙ none_given size made;
  none_kept = refl;
  uncounted = zeros size.chunks;
  none_consumed = none_consumed size.chunks passes;
  no_rows = refl;
  passes_are = refl;
})
