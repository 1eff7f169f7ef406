-- A look by the seat that has the turn keeps the rule, and tells what the rule knows of it.
use Rattle.std.proofs.Common.{◌≡◌, ⊎_elim, ℕ, ◌+◌, ◌<◌, ◌≤◌, List, length, get_or, true, refl, sym, ap, ◌∙◌, subst, arith, Option, Some}
use Rattle.std.specs.List.{All, Contains}
use Rattle.std.proofs.lemmas.List.{set-get_or}
use Rattle.std.proofs.lemmas.List.Elements.{All-weaker}
use mathlib.Core.Option.{some, none}
use lib.ListN.{get_elem?}
use Rattle.atomic_table.specs.Table.{State, Me, Allows, step, keeps}
use Rattle.atomic_table.proofs.Lists.{set_again}
use Rattle.pin_core.specs.declared.kept.CellAt.{CellAt}
use Rattle.pin_core.specs.Words.{pin_at, cell_at, version_of}
use Rattle.pin_core.specs.Sound.{turn_of, AgreesWith, PinFits}
use Rattle.pin_core.proofs.Pins.{current_fits}
use Rattle.shared_cells.specs.declared.view.TableSize.{TableSize}
use Rattle.shared_cells.specs.declared.view.Naming.{Naming}
use Rattle.shared_cells.specs.declared.view.Seen.{Seen}
use Rattle.shared_cells.specs.declared.view.PassView.{PassView}
use Rattle.shared_cells.specs.declared.view.TurnView.{TurnView}
use Rattle.shared_cells.specs.declared.view.View.{View}
use Rattle.shared_cells.specs.Views.{core_size, has_turn}
use Rattle.shared_cells.specs.Rule.{stage_of, NamingFits, HasAll, VersionsFit, IsSoundTable}
use Rattle.shared_cells.specs.Steps.{Confirmed, looked}
use Rattle.shared_cells.proofs.Knowing.{the_turn, the_pass}
use Rattle.shared_cells.proofs.Seats.{turn_there}

module _ {O E : Type 0} (applied : O → E → O) (lawful : O → O → Type 0) (permitted : E → Type 0) (stands : List CellAt → Option ℕ → O → Type 0) (size : TableSize) where
  abbrev Rule : State (Unit {0}) (View O E) → Type 0
  Rule = IsSoundTable applied lawful permitted stands size

  module _ (s : State (Unit {0}) (View O E)) (r : Rule s) (id : ℕ) (v : View O E) (at : get_elem? s.views id ≡ some v) (turn : TurnView) (is_turn : v.turn ≡ Some turn) where
    h : HasAll r.facts id v.seen v.progress turn
    h = the_turn applied lawful permitted stands size s r id v turn at is_turn

    -- the joined pass is idle, so its pin is 0
    idle_pin : (own : PassView E) → v.pass ≡ Some own → get_or s.words (pin_at own.number) 0 ≡ 0
    idle_pin own is =
        let fits = the_pass applied lawful permitted stands size s r id v own at is in
        subst (PinFits r.facts.turn.kept (get_or r.facts.seen own.number 0) (get_or s.words (pin_at own.number) 0)) (fits.stage_is ∙ ap stage_of h.idle) (r.sound.pins own.number (let l = fits.made in let m = r.made in omega arith))

    naming_pinned : (own : PassView E) → v.pass ≡ Some own → (n : Naming) → NamingFits s.words r.facts.pinned n → n.pass ≡ own.number → Contains own.pinned n.version
    naming_pinned own is n fits same = ⊎_elim
        (λ (c : Contains (r.facts.pinned n.pass) n.version). subst (λ (vs : List ℕ). Contains vs n.version) (ap r.facts.pinned same ∙ sym (the_pass applied lawful permitted stands size s r id v own at is).pinned) c)
        (λ (c : (2 ≤ get_or s.words (pin_at n.pass) 0) × (version_of (get_or s.words (pin_at n.pass) 0) ≡ n.version)). absurd (let l = c.0 in let e : get_or s.words (pin_at n.pass) 0 ≡ 0 = ap (λ (q : ℕ). get_or s.words (pin_at q) 0) same ∙ idle_pin own is in omega arith)) fits

    versions_all : (o : O) → r.facts.all.opening ≡ Some o → VersionsFit applied lawful permitted stands size r.facts (Some o)
    versions_all o is = subst (VersionsFit applied lawful permitted stands size r.facts) is r.versions

    -- a cell as it is in the words is so in the turn's copy
    mirrored : (c : CellAt) → AgreesWith s.words c → AgreesWith r.facts.turn.words c
    mirrored c agrees =
        let big = r.mirror (cell_at c.at) (omega arith) in
        let small = r.mirror (cell_at c.at + 1) (omega arith) in
        (sym big ∙ agrees.0, sym small ∙ agrees.1)

    confirms : Confirmed applied lawful permitted stands v turn (get_or s.words 0 0)
    confirms = subst (λ (x : Seen O E × TurnView). Confirmed applied lawful permitted stands (record v { seen = x.0 }) x.1 (get_or s.words 0 0)) (λ i. (sym h.seen_is i, sym h.turn_is i)) (record {
      told = (r.seats id v at).told;
      entries = λ own is. (the_pass applied lawful permitted stands size s r id v own at is).entries;
      namings = λ own is. All-weaker (NamingFits s.words r.facts.pinned) (λ (n : Naming). n.pass ≡ own.number → Contains own.pinned n.version) (naming_pinned own is) r.facts.all.namings r.namings;
      authors = r.authors;
      allowed = r.allowed;
      current = r.sound.current;
      fits = current_fits (core_size size) s.words r.facts.stages r.facts.seen (turn_of (length r.facts.all.history) r.facts.turn.kept r.facts.turn.marks) r.sound;
      newest = r.sound.newest;
      rising = r.sound.rising;
      unchanged = All-weaker (λ k. All (AgreesWith s.words) k.image) (λ k. All (AgreesWith r.facts.turn.words) k.image) (λ k. All-weaker (AgreesWith s.words) (AgreesWith r.facts.turn.words) mirrored k.image) r.facts.turn.kept r.sound.unchanged;
      namers = subst (λ (k : ℕ). All (λ (n : Naming). n.pass < k) r.facts.all.namings) (sym r.sound.marked) r.namers;
      versions = λ o is. (versions_all o is).0;
      images = λ o is. (versions_all o is).1;
    })

  pub may_look : (slots id : ℕ) (m : Me (Unit {0}) (View O E)) → has_turn m.0.turn ≡ true → Allows Rule slots id m 0 (λ n. n) (looked applied lawful permitted stands (step slots 0 0 0 none) m)
  may_look slots id m has s r deep at small = let t = turn_there m.0.turn has in (
    m.0,
    keeps,
    tt,
    subst (λ (x : List ℕ × List (View O E)). Rule record { words = x.0; homes = s.homes; views = x.1 }) (λ i. (sym (set-get_or s.words 0 0) i, sym (set_again s.views id m.0 at) i)) r,
    (refl, (t.0, t.1, confirms s r id m.0 at t.0 t.1)),
  )
