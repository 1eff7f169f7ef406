-- The turn is held, whatever becomes of the seats' views.
use Rattle.std.proofs.Common.{◌≡◌, ◌≢◌, ℕ, zero, suc, List, [], ◌∷◌, ◌++◌, set, refl, sym, ap, ◌∙◌, subst}
use mathlib.Core.Option.{some, some-injective, some-ne-none}
use native.Mathlib.Decide.{ℕ_discrete}
use lib.ListN.{get_elem?}
use Rattle.atomic_table.proofs.Lists.{at_longer, set_else}
use Rattle.shared_cells.specs.declared.view.View.{View}
use Rattle.shared_cells.specs.Views.{has_turn}
use Rattle.shared_cells.specs.Rule.{IsHeld}

set_there : {A : Type 0} (xs : List A) (i : ℕ) (x y : A) → get_elem? xs i ≡ some x → get_elem? (set xs i y) i ≡ some y
set_there [] i x y e = absurd (some-ne-none x (sym e))
set_there (z ∷ xs) zero x y e = refl
set_there (z ∷ xs) (suc i) x y e = set_there xs i x y e

module _ {O E : Type 0} where
  -- a seat has the turn, or hasn't, as before
  pub held_set : (views : List (View O E)) (writer id : ℕ) (v w : View O E) → IsHeld views writer → get_elem? views id ≡ some v → has_turn w.turn ≡ has_turn v.turn → IsHeld (set views id w) writer
  held_set views writer id v w h at same = go (ℕ_discrete writer id)
    where
      go : Dec (writer ≡ id) → IsHeld (set views id w) writer
      go (yes e) = record {
        view = w;
        at = subst (λ (j : ℕ). get_elem? (set views id w) j ≡ some w) (sym e) (set_there views id v w at);
        turn = same ∙ ap (λ (u : View O E). has_turn u.turn) (some-injective v h.view (sym at ∙ ap (get_elem? views) (sym e) ∙ h.at)) ∙ h.turn;
      }
      go (no apart) = record { view = h.view; at = set_else views id writer w apart ∙ h.at; turn = h.turn }

  -- another seat's view changes
  pub held_else : (views : List (View O E)) (writer id : ℕ) (w : View O E) → IsHeld views writer → writer ≢ id → IsHeld (set views id w) writer
  held_else views writer id w h apart = record { view = h.view; at = set_else views id writer w apart ∙ h.at; turn = h.turn }

  -- a seat is made
  pub held_more : (views more : List (View O E)) (writer : ℕ) → IsHeld views writer → IsHeld (views ++ more) writer
  held_more views more writer h = record { view = h.view; at = at_longer views more writer h.view h.at; turn = h.turn }
