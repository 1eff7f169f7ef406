-- What a transaction begins with: the pass is joined, and the base stands in the turn's cells.
use Rattle.std.proofs.Common.{◌≡◌, ◌∙◌, ℕ, ◌/◌, ◌<◌, ◌==◌, Bool, true, List, [], map, length, take, count_by, slice_index, Option, Some, unwrap_or, refl, sym, ap, subst, arith}
use Rattle.std.specs.List.{All, Contains}
use Rattle.std.proofs.Math.Seq.{take-append_seam}
use Rattle.std.proofs.lemmas.List.{take_all}
use Rattle.std.proofs.lemmas.List.Elements.{All-contains}
use Rattle.std.proofs.lemmas.List.Folds.{list_all-map}
use Rattle.pin_core.specs.declared.kept.CellAt.{CellAt}
use Rattle.pin_core.specs.declared.kept.Kept.{Kept}
use Rattle.pin_core.specs.Sound.{AgreesWith}
use Rattle.chunk_cells.specs.Chunks.{IsGiven}
use Rattle.chunk_usage.specs.Ledger.{Ledger, IsLedger, is_used}
use Rattle.chunk_sets.proofs.FlagLemmas.{get_set, set_within}
use Rattle.chunk_usage.proofs.SpaceLaws.{used_given}
use Rattle.trie_model.specs.Keys.{Entry}
use Rattle.trie_model.proofs.ExtentLaws.{first_true}
use Rattle.shared_cells.specs.declared.view.Entry.{Entry as Commit}
use Rattle.shared_cells.specs.declared.view.TurnView.{TurnView}
use Rattle.trie_space.specs.Standing.{Standing}
use Rattle.shared_cells.specs.History.{IsPartOf, version_after}
use Rattle.shared_cells.specs.Views.{is_told, kept_in, with_pass}
use Rattle.shared_cells.specs.Cells.{given_chunks, HasCell}
use Rattle.shared_cells.specs.Steps.{Confirmed}
use Rattle.shared_cells.proofs.Lists.{begins_length}
use Rattle.shared_cells.proofs.Seats.{told_there}
use Rattle.qp_multi.specs.declared.meaning.Operation.{Operation}
use Rattle.qp_multi.specs.Operations.{applied}
use Rattle.qp_multi.specs.Meanings.{IsVersion}
use Rattle.qp_multi.specs.Passes.{Known, first_version, version_seen}
use Rattle.qp_multi.specs.Turns.{Agrees, AtRest, cells_with, cell_counts, current_image, current_root, is_immutable}
use Rattle.qp_multi.specs.Bases.{StandsFor, Joined}
use Rattle.qp_multi.proofs.Lists.{all_of, all_flat}
use Rattle.qp_multi.proofs.ImageLaws.{cell_of, current_is, counts_of, image_stands}

-- the history to its end
whole_history : (v : Known) (n : ℕ) → n ≡ length v.seen.history → take n v.seen.history ≡ v.seen.history
whole_history v n e = take_all n v.seen.history (omega arith)

opening_is : (v : Known) (o : List Entry) → v.seen.opening ≡ Some o → first_version v.seen ≡ o
opening_is v o e = ap (λ (x : Option (List Entry)). unwrap_or x []) e

module _ {permitted : List Operation → Type 0} (lawful : List Entry → List Entry → Type 0) (v : Known) (turn : TurnView) (word : ℕ) (is_turn : v.turn ≡ Some turn) (told : Confirmed applied lawful permitted IsVersion v turn word) (known : is_told v.seen.opening ≡ true) where
  opening : (o : List Entry) × (v.seen.opening ≡ Some o)
  opening = told_there v.seen.opening known

  -- what is said of the first version's history is said of the version that was seen
  seen_is : (n : ℕ) → n ≡ length v.seen.history → version_after applied opening.0 (take n v.seen.history) ≡ version_seen v.seen
  seen_is n e = ap (version_after applied opening.0) (whole_history v n e) ∙ ap (λ (o : List Entry). version_after applied o v.seen.history) (sym (opening_is v opening.0 opening.1))

  pub joined_of : (t p : Known) → v ≡ with_pass t p → Joined lawful p v
  joined_of t p e = record {
    pass = ap (λ (w : Known). w.pass) e;
    grows = subst (λ (w : Known). IsPartOf v.seen w.told) e told.told;
    commits = told.entries;
    good = subst (λ (o : List Entry). lawful o (version_seen v.seen)) (sym (opening_is v opening.0 opening.1))
        (subst (lawful opening.0) (seen_is (length v.seen.history) refl) (told.versions opening.0 opening.1 (length v.seen.history) (omega arith)));
    versions = λ part begins. subst (λ (o : List Entry). lawful o (version_after applied o part)) (sym (opening_is v opening.0 opening.1))
        (subst (λ (h : List (Commit (List Operation))). lawful opening.0 (version_after applied opening.0 h)) (ap (take (length part)) begins.1 ∙ take-append_seam part begins.0)
        (told.versions opening.0 opening.1 (length part) (begins_length v.seen.history part begins)));
  }

  module _ (u : Ledger) (is : IsLedger u) (count : ℕ) (agrees : Agrees (cells_with u v.turn) u count) where
    -- a cell of a kept version is in use
    kept_used : (k : Kept) → Contains (kept_in v.turn) k → (c : CellAt) → Contains k.image c → is_used u c.at ≡ true
    kept_used k h c i =
        let all = all_flat (is_immutable u) (λ (k : Kept). map (λ (c : CellAt). c.at) k.image) (kept_in v.turn) k agrees.immutable h in
        first_true (is_used u c.at) _ (all_of (λ (c : CellAt). is_immutable u c.at) k.image c (sym (list_all-map (is_immutable u) (λ (c : CellAt). c.at) k.image) ∙ all) i)

    -- and in the turn's words
    kept_there : (k : Kept) → Contains (kept_in v.turn) k → (c : CellAt) → Contains k.image c → HasCell (cells_with u v.turn) c.at (cell_of c)
    kept_there k h c i =
        let in_turn = subst (λ (t : Option TurnView). Contains (kept_in t) k) is_turn h in
        let image = All-contains (λ (k : Kept). All (AgreesWith turn.words) k.image) turn.kept k told.unchanged in_turn in
        let agree = All-contains (AgreesWith turn.words) k.image c image i in
        let given : IsGiven u.given (c.at / 1024) = get_set u.given (c.at / 1024) (used_given u is c.at (kept_used k h c i)) in
        subst (λ (t : Option TurnView). HasCell (cells_with u t) c.at (cell_of c)) (sym is_turn) (record {
          given = subst (λ (t : Option TurnView). IsGiven (given_chunks (cells_with u t)) (c.at / 1024)) is_turn (subst (λ (g : List Bool). IsGiven g (c.at / 1024)) (sym agrees.given) given);
          big = agree.0;
          small = agree.1;
        })

    pub base_stands : AtRest u → (root : Option ℕ) → root ≡ current_root (kept_in v.turn) → StandsFor v u root (version_seen v.seen)
    base_stands rest root root_is = record { stands = stands; tells = good.tells }
      where
        current : Kept
        current = told.current.0

        here : Contains (kept_in v.turn) current
        here = subst (λ (t : Option TurnView). Contains (kept_in t) current) (sym is_turn) told.current.1

        last : (current_image turn.kept ≡ current.image) × (current_root turn.kept ≡ current.root)
        last = current_is turn.kept (length v.seen.history) current told.rising told.newest told.current.1 told.current.2

        good : IsVersion current.image current.root (version_seen v.seen)
        good = subst (IsVersion current.image current.root) (seen_is current.version told.current.2) (All-contains (λ (k : Kept). IsVersion k.image k.root (version_after applied opening.0 (take k.version v.seen.history))) turn.kept current (told.images opening.0 opening.1) told.current.1)

        within : (c : CellAt) → Contains current.image c → c.at / 1024 < length u.given
        within c i = set_within u.given (c.at / 1024) (used_given u is c.at (kept_used current here c i))

        counted : (k : ℕ) → slice_index u.live k ≡ count_by (λ (c : CellAt). c.at / 1024 == k) current.image
        counted k =
            let live : u.live ≡ cell_counts (length u.given) current.image = rest.live ∙ agrees.last_live ∙ ap (λ (t : Option TurnView). cell_counts (length u.given) (current_image (kept_in t))) is_turn ∙ ap (cell_counts (length u.given)) last.0 in
            ap (λ (xs : List ℕ). slice_index xs k) live ∙ counts_of (length u.given) current.image within k

        stands : Standing (HasCell (cells_with u v.turn)) (is_used u) (λ k. slice_index u.live k) root (version_seen v.seen)
        stands = subst (λ (r : Option ℕ). Standing (HasCell (cells_with u v.turn)) (is_used u) (λ k. slice_index u.live k) r (version_seen v.seen))
            (sym (root_is ∙ ap (λ (t : Option TurnView). current_root (kept_in t)) is_turn ∙ last.1))
            (image_stands (HasCell (cells_with u v.turn)) (is_used u) (λ k. slice_index u.live k) current.image (kept_there current here) (kept_used current here) counted current.root (version_seen v.seen) good.image_of)
