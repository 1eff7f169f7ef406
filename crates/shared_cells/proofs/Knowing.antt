-- What a seat knows stays true while others act.
use Rattle.std.proofs.Common.{◌≡◌, ◌≢◌, ℕ, ◌≤◌, List, length, take, refl, sym, ap, ◌∙◌, subst, Option, Some, None}
use Rattle.std.specs.List.{All}
use mathlib.Core.Option.{some}
use lib.ListN.{get_elem?}
use Rattle.atomic_table.specs.Table.{State}
use Rattle.pin_core.specs.declared.kept.CellAt.{CellAt}
use Rattle.pin_core.specs.Sound.{stage_at}
use Rattle.shared_cells.specs.declared.view.TableSize.{TableSize}
use Rattle.shared_cells.specs.declared.view.Seen.{Seen}
use Rattle.shared_cells.specs.declared.view.Progress.{Progress}
use Rattle.shared_cells.specs.declared.view.PassView.{PassView}
use Rattle.shared_cells.specs.declared.view.TurnView.{TurnView}
use Rattle.shared_cells.specs.declared.view.View.{View}
use Rattle.shared_cells.specs.History.{IsPartOf, version_after}
use Rattle.shared_cells.specs.Views.{view_of}
use Rattle.shared_cells.proofs.Lists.{nothing_begins}
use Rattle.shared_cells.specs.Rule.{Facts, OwnFits, PassFits, HasAll, TurnFits, Knows, VersionsFit, IsSoundTable}

module _ {O E : Type 0} (size : TableSize) (f f' : Facts O E) where
  pass_still : (j : ℕ) (seen : Seen O E) (p : Progress) → ((own : PassView E) → OwnFits size f j seen p own → OwnFits size f' j seen p own) → (own : Option (PassView E)) → PassFits size f j seen p own → PassFits size f' j seen p own
  pass_still j seen p same None fits = fits
  pass_still j seen p same (Some own) fits = same own fits

  -- another seat has the turn
  turn_else : (j : ℕ) → j ≢ f.writer → (seen : Seen O E) (p : Progress) (turn : Option TurnView) → TurnFits f j seen p turn → TurnFits f' j seen p turn
  turn_else j other seen p None fits = tt
  turn_else j other seen p (Some turn) fits = absurd (other fits.writer)

  turn_still : (j : ℕ) → f'.turn ≡ f.turn → f'.all ≡ f.all → f'.writer ≡ f.writer → (seen : Seen O E) (p : Progress) (turn : Option TurnView) → TurnFits f j seen p turn → TurnFits f' j seen p turn
  turn_still j t a w seen p None fits = tt
  turn_still j t a w seen p (Some turn) fits = record { writer = fits.writer ∙ sym w; turn_is = fits.turn_is ∙ sym t; seen_is = fits.seen_is ∙ sym a; idle = fits.idle }

  -- a seat that hasn't the turn
  pub knows_else : (j : ℕ) (u : View O E) → j ≢ f.writer → ((part : Seen O E) → IsPartOf f.all part → IsPartOf f'.all part)
      → ((own : PassView E) → OwnFits size f j u.seen u.progress own → OwnFits size f' j u.seen u.progress own) → Knows size f j u → Knows size f' j u
  knows_else j u other longer same_own k = record {
    seen = longer u.seen k.seen;
    told = longer u.told k.told;
    pass = pass_still j u.seen u.progress same_own u.pass k.pass;
    turn = turn_else j other u.seen u.progress u.turn k.turn;
  }

  -- any seat, where only passes have moved
  pub knows_still : (j : ℕ) (u : View O E) → f'.turn ≡ f.turn → f'.all ≡ f.all → f'.writer ≡ f.writer
      → ((own : PassView E) → OwnFits size f j u.seen u.progress own → OwnFits size f' j u.seen u.progress own) → Knows size f j u → Knows size f' j u
  knows_still j u t a w same_own k = record {
    seen = subst (λ (all : Seen O E). IsPartOf all u.seen) (sym a) k.seen;
    told = subst (λ (all : Seen O E). IsPartOf all u.told) (sym a) k.told;
    pass = pass_still j u.seen u.progress same_own u.pass k.pass;
    turn = turn_still j t a w u.seen u.progress u.turn k.turn;
  }

-- a seat of no pass and without the turn, which has seen so much
pub view_fits : {O E : Type 0} (size : TableSize) (f : Facts O E) (j : ℕ) (seen : Seen O E) → IsPartOf f.all seen → Knows size f j (view_of seen)
view_fits size f j seen part = record { seen = part; told = nothing_begins f.all; pass = refl; turn = tt }

module _ {O E : Type 0} (applied : O → E → O) (lawful : O → O → Type 0) (permitted : E → Type 0) (stands : List CellAt → Option ℕ → O → Type 0) (size : TableSize) where
  abbrev Rule : State (Unit {0}) (View O E) → Type 0
  Rule = IsSoundTable applied lawful permitted stands size

  pub the_turn : (s : State (Unit {0}) (View O E)) (r : Rule s) (id : ℕ) (v : View O E) (turn : TurnView) → get_elem? s.views id ≡ some v → v.turn ≡ Some turn → HasAll r.facts id v.seen v.progress turn
  the_turn s r id v turn at is = subst (TurnFits r.facts id v.seen v.progress) is (r.seats id v at).turn

  pub the_pass : (s : State (Unit {0}) (View O E)) (r : Rule s) (id : ℕ) (v : View O E) (own : PassView E) → get_elem? s.views id ≡ some v → v.pass ≡ Some own → OwnFits size r.facts id v.seen v.progress own
  the_pass s r id v own at is = subst (PassFits size r.facts id v.seen v.progress) is (r.seats id v at).pass

  -- what the rule says of versions, where only passes have moved
  pub versions_still : (f f' : Facts O E) → f'.turn ≡ f.turn → f'.all ≡ f.all → f'.stages ≡ f.stages → (o : Option O) → VersionsFit applied lawful permitted stands size f o → VersionsFit applied lawful permitted stands size f' o
  versions_still f f' t a g None fits = (a ∙ fits.0, λ p l. ap (λ ss. stage_at ss p) g ∙ fits.1 p l)
  versions_still f f' t a g (Some o) fits = (
    subst (λ (all : Seen O E). (n : ℕ) → n ≤ length all.history → lawful o (version_after applied o (take n all.history))) (sym a) fits.0,
    subst (λ (x : Seen O E × TurnView). All (λ k. stands k.image k.root (version_after applied o (take k.version x.0.history))) x.1.kept) (λ i. (sym a i, sym t i)) fits.1,
  )
