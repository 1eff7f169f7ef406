-- The working set is published, and frozen: what a publish asks for, and what the turn then agrees on.
use Rattle.std.proofs.Common.{◌≡◌, ◌∙◌, ⊎_elim, ℕ, suc, ◌+◌, ◌<◌, ◌≤◌, ◌==◌, ◌^◌, Bool, true, false, List, [], ◌∷◌, ◌++◌, map, length, slice_index, Option, Some, refl, sym, ap, subst, arith, length-append}
use Rattle.std.specs.Prelude.{unwrap_or}
use Rattle.std.specs.List.{All, Contains, range_with_len}
use Rattle.std.proofs.lemmas.List.{map-append}
use Rattle.std.proofs.lemmas.List.Elements.{Contains-append_cases}
use Rattle.std.proofs.lemmas.List.Sums.{fold-append}
use Rattle.pin_core.specs.declared.kept.CellAt.{CellAt}
use Rattle.pin_core.specs.declared.kept.Kept.{Kept}
use Rattle.pin_core.specs.Words.{status_at, size_of}
use Rattle.pin_core.proofs.Lists.{contains_cases}
use Rattle.trie_model.specs.Keys.{Entry}
use Rattle.chunk_usage.specs.Ledger.{Ledger, Row, IsLedger, row_of, is_used, is_mutable}
use Rattle.chunk_usage.specs.Keeping.{AreOlder, frozen}
use Rattle.shared_cells.specs.declared.view.Entry.{Entry as Commit}
use Rattle.shared_cells.specs.declared.view.PassView.{PassView}
use Rattle.shared_cells.specs.declared.view.TableSize.{TableSize}
use Rattle.shared_cells.specs.declared.view.TurnView.{TurnView}
use Rattle.shared_cells.specs.History.{entry_of, with_entry, version_after}
use Rattle.shared_cells.specs.Views.{core_size, kept_in, kept_of, words_of}
use Rattle.shared_cells.specs.Steps.{CanPublish, IsImage}
use Rattle.qp_multi.specs.declared.meaning.Operation.{Operation}
use Rattle.qp_multi.specs.Operations.{applied, AreWithin}
use Rattle.qp_multi.specs.Meanings.{IsVersion}
use Rattle.qp_multi.specs.Passes.{Known, first_version, version_seen}
use Rattle.qp_multi.specs.Turns.{Agrees, AgreesWithin, cells_with, row_for, cell_counts, current_image, current_root, is_immutable}
use Rattle.qp_multi.specs.Bases.{StandsFor}
use Rattle.qp_multi.specs.Images.{image_at}
use Rattle.qp_multi.proofs.KeepLaws.{immutable_used, immutable_of}
use Rattle.qp_multi.proofs.Lists.{all_of, all_from, all_flat, all_from_flat, in_map, of_map}
use Rattle.qp_multi.proofs.VersionLaws.{version_image, image_fits, image_used, image_counts, live_counts, row_set}

-- the last of the kept versions

last_image : (kept : List Kept) (k : Kept) → current_image (kept ++ k ∷ []) ≡ k.image
last_image [] k = refl
last_image (j ∷ []) k = refl
last_image (j ∷ (i ∷ kept)) k = last_image (i ∷ kept) k

last_root : (kept : List Kept) (k : Kept) → current_root (kept ++ k ∷ []) ≡ k.root
last_root [] k = refl
last_root (j ∷ []) k = refl
last_root (j ∷ (i ∷ kept)) k = last_root (i ∷ kept) k

-- the next version is newer than all kept ones
pub all_older : (chunks : ℕ) (kept : List Kept) (version : ℕ) → All (λ k. k.version ≤ version) kept → AreOlder (map (row_for chunks) kept) (version + 1)
all_older chunks [] version newest = tt
all_older chunks (k ∷ kept) version newest = ((let l = newest 0 k (omega arith) in omega arith), all_older chunks kept version (λ i d l. newest (suc i) d (omega arith)))

-- the version that the next commit leads to
pub next_is : (v : Known) (opening : List Entry) (number : ℕ) (operations : List Operation) → v.seen.opening ≡ Some opening → version_after applied opening (with_entry v.seen (entry_of number operations)).history ≡ applied (version_seen v.seen) operations
next_is v opening number operations is =
    fold-append (λ (o : List Entry) (c : Commit (List Operation)). applied o c.change) opening v.seen.history (entry_of number operations ∷ [])
    ∙ ap (λ (o : Option (List Entry)). applied (version_after applied (unwrap_or o []) v.seen.history) operations) (sym is)

module _ (v : Known) (u : Ledger) (is : IsLedger u) (count : ℕ) (agrees : Agrees (cells_with u v.turn) u count) (root : Option ℕ) (es : List Entry) (works : StandsFor v u root es) where
  abbrev image : List CellAt
  image = image_at (words_of v.turn) root

  -- what a publish asks for
  pub can_publish : (lawful : List Entry → List Entry → Type 0) (most : Option ℕ) (key : TableSize) (turn : TurnView) (own : PassView (List Operation)) (opening : List Entry) (operations : List Operation)
      → v.turn ≡ Some turn → v.pass ≡ Some own → v.seen.opening ≡ Some opening → key.chunks ≡ length u.given → length v.seen.history + 1 < 2 ^ 40 → es ≡ applied (version_seen v.seen) operations → lawful (first_version v.seen) es → AreWithin most operations
      → CanPublish applied lawful (AreWithin most) IsVersion key v (Some operations) root image
  can_publish lawful most key turn own opening operations is_turn is_pass is_open chunks few made good within =
      let next = next_is v opening own.number operations is_open in
      record {
        turn = turn;
        own = own;
        opening = opening;
        entry = operations;
        is_turn = is_turn;
        is_pass = is_pass;
        is_open = is_open;
        is_change = refl;
        few = few;
        fits = subst (λ (t : Option TurnView). IsImage (core_size key) (words_of t) root image) is_turn
            (subst (λ (n : ℕ). IsImage (size_of key.passes n) (words_of v.turn) root image) (sym chunks) (image_fits (cells_with u v.turn) u es key.passes root works is agrees.given));
        good = subst (λ (o : Option (List Entry)). lawful (unwrap_or o []) (version_after applied opening (with_entry v.seen (entry_of own.number operations)).history)) is_open
            (subst (lawful (first_version v.seen)) (made ∙ sym next) good);
        stood = subst (IsVersion image root) (made ∙ sym next) (version_image (cells_with u v.turn) u es root works);
        allowed = within;
      }

  module _ (w : Known) (new : Ledger) (version : ℕ) (number : version ≡ length v.seen.history + 1) (after : new ≡ frozen u version) (settled : (q : ℕ) → is_used new q ≡ true → is_mutable new q ≡ false)
      (kept_now : kept_in w.turn ≡ kept_in v.turn ++ kept_of (length v.seen.history + 1) root image ∷ []) (words_now : words_of w.turn ≡ words_of v.turn) where
    abbrev chunks : ℕ
    chunks = length u.given

    abbrev latest : Kept
    latest = kept_of (length v.seen.history + 1) root image

    live_is : u.live ≡ cell_counts chunks image
    live_is = live_counts chunks u.live image is.counted (image_counts (cells_with u v.turn) u es root works)

    used_still : (q : ℕ) → is_used u q ≡ true → is_used new q ≡ true
    used_still q h = ap (λ (l : Ledger). is_used l q) after ∙ h

    still_immutable : (q : ℕ) → is_used u q ≡ true → is_immutable new q ≡ true
    still_immutable q h = immutable_of new q (used_still q h) (settled q (used_still q h))

    all_immutable : (k : Kept) → Contains (kept_in v.turn ++ latest ∷ []) k → (c : CellAt) → Contains k.image c → is_immutable new c.at ≡ true
    all_immutable k h c i = ⊎_elim
        (λ (old : Contains (kept_in v.turn) k). still_immutable c.at (immutable_used u c.at
        (all_of (is_immutable u) (map (λ (c : CellAt). c.at) k.image) c.at (all_flat (is_immutable u) (λ (k : Kept). map (λ (c : CellAt). c.at) k.image) (kept_in v.turn) k agrees.immutable old) (in_map (λ (c : CellAt). c.at) k.image c i))))
        (λ (last : Contains (latest ∷ []) k). ⊎_elim
        (λ (same : latest ≡ k). still_immutable c.at (image_used (cells_with u v.turn) u es root works c (subst (λ (x : Kept). Contains x.image c) (sym same) i)))
        (λ (none : Contains [] k). absurd (let l = none.1 in omega arith)) (contains_cases latest k [] last))
        (Contains-append_cases (kept_in v.turn) (latest ∷ []) k h)

    agrees_frozen : AgreesWithin (count + 2) (cells_with u w.turn) (frozen u version) count
    agrees_frozen = record {
      given = ap (λ (words : List ℕ). map (λ chunk. slice_index words (status_at chunk) == 1) (range_with_len 0 chunks)) words_now ∙ agrees.given;
      rows =
          ap (λ (rows : List Row). rows ++ record { version = version; chunks = row_of u.live } ∷ []) agrees.rows
          ∙ ap (λ (r : Row). map (row_for chunks) (kept_in v.turn) ++ r ∷ []) (ap (λ (n : ℕ). let r : Row = record { version = n; chunks = row_of u.live } in r) number ∙ ap (λ (flags : List Bool). let r : Row = record { version = length v.seen.history + 1; chunks = flags } in r) (row_set chunks u.live image live_is))
          ∙ sym (map-append (row_for chunks) (kept_in v.turn) (latest ∷ []))
          ∙ ap (map (row_for chunks)) (sym kept_now);
      few_rows = let a = length-append u.rows (record { version = version; chunks = row_of u.live } ∷ []) in let b = agrees.few_rows in omega arith;
      last_live = live_is ∙ ap (cell_counts chunks) (sym (ap current_image kept_now ∙ last_image (kept_in v.turn) latest));
      immutable = all_from_flat (is_immutable (frozen u version)) (λ (k : Kept). map (λ (c : CellAt). c.at) k.image) (kept_in w.turn) (λ k h.
          all_from (is_immutable (frozen u version)) (map (λ (c : CellAt). c.at) k.image) (λ q j.
          let c = of_map (λ (c : CellAt). c.at) k.image q j in
          subst (λ (x : ℕ). is_immutable (frozen u version) x ≡ true) c.2
          (subst (λ (l : Ledger). is_immutable l c.0.at ≡ true) after (all_immutable k (subst (λ (ks : List Kept). Contains ks k) kept_now h) c.0 c.1))));
      passes = agrees.passes;
    }

    pub agrees_published : AgreesWithin (count + 2) (cells_with new w.turn) new count
    agrees_published = subst (λ (l : Ledger). AgreesWithin (count + 2) (cells_with l w.turn) l count) (sym after) agrees_frozen

    pub root_published : current_root (kept_in w.turn) ≡ root
    root_published = ap current_root kept_now ∙ last_root (kept_in v.turn) latest
