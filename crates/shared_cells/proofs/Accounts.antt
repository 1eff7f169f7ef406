-- A look by a pass that is idle or pinned keeps the rule, and tells what the rule knows of the pass.
use Rattle.std.proofs.Common.{◌≡◌, ⊎_elim, ℕ, ◌+◌, ◌<◌, ◌≤◌, List, [], ◌∷◌, ◌++◌, length, get_or, true, refl, sym, ap, ◌∙◌, subst, arith, Option, Some}
use Rattle.std.specs.List.{Contains}
use Rattle.std.proofs.lemmas.List.{set-get_or}
use Rattle.std.proofs.lemmas.List.Elements.{All-weaker, Contains-push}
use mathlib.Core.Option.{some, none}
use lib.ListN.{get_elem?}
use Rattle.atomic_table.specs.Table.{State, Me, Allows, step, keeps}
use Rattle.atomic_table.proofs.Lists.{set_again}
use Rattle.pin_core.specs.declared.kept.CellAt.{CellAt}
use Rattle.pin_core.specs.declared.kept.Kept.{Kept}
use Rattle.pin_core.specs.Words.{pin_at, version_of}
use Rattle.pin_core.specs.Sound.{PinFits, turn_of}
use Rattle.pin_core.proofs.Pins.{kept_root_fits, version_of_pin}
use Rattle.shared_cells.specs.declared.view.TableSize.{TableSize}
use Rattle.shared_cells.specs.declared.view.Entry.{Entry}
use Rattle.shared_cells.specs.declared.view.Naming.{Naming}
use Rattle.shared_cells.specs.declared.view.Progress.TheVariants as progress
use Rattle.shared_cells.specs.declared.view.PassView.{PassView}
use Rattle.shared_cells.specs.declared.view.View.{View}
use Rattle.shared_cells.specs.Views.{core_size, is_idle, is_pinned, with_note}
use Rattle.shared_cells.specs.Rule.{stage_of, NamingFits, PinNames, ProgressFits, IsSoundTable}
use Rattle.shared_cells.specs.Steps.{Accounts, accounted}
use Rattle.shared_cells.proofs.Knowing.{the_pass}
use Rattle.shared_cells.proofs.Passes.{pinned_there}
use Rattle.shared_cells.proofs.Seats.{idle_is}

module _ {O E : Type 0} (applied : O → E → O) (lawful : O → O → Type 0) (permitted : E → Type 0) (stands : List CellAt → Option ℕ → O → Type 0) (size : TableSize) where
  abbrev Rule : State (Unit {0}) (View O E) → Type 0
  Rule = IsSoundTable applied lawful permitted stands size

  module _ (s : State (Unit {0}) (View O E)) (r : Rule s) (id : ℕ) (v : View O E) (at : get_elem? s.views id ≡ some v) where
    -- what the pass's pin names the pass has pinned
    abbrev NamesOwn : Type 0
    NamesOwn = (own : PassView E) → v.pass ≡ Some own → (version : ℕ) → PinNames s.words own.number version → Contains own.pinned version

    pin_fits : (own : PassView E) → v.pass ≡ Some own → PinFits r.facts.turn.kept (get_or r.facts.seen own.number 0) (get_or s.words (pin_at own.number) 0) (stage_of v.progress)
    pin_fits own is =
        let fits = the_pass applied lawful permitted stands size s r id v own at is in
        subst (PinFits r.facts.turn.kept (get_or r.facts.seen own.number 0) (get_or s.words (pin_at own.number) 0)) fits.stage_is (r.sound.pins own.number (let l = fits.made in let m = r.made in omega arith))

    -- an idle pass's pin is 0, and names none
    idle_names : v.progress ≡ progress.Idle → NamesOwn
    idle_names idle own is version names = absurd (
        let l = names.0 in
        let e : get_or s.words (pin_at own.number) 0 ≡ 0 = subst (λ p. PinFits r.facts.turn.kept (get_or r.facts.seen own.number 0) (get_or s.words (pin_at own.number) 0) (stage_of p)) idle (pin_fits own is) in
        omega arith)

    -- a pinned pass's pin names the version that it has pinned last
    pinned_names : (k : Kept) → v.progress ≡ progress.Pinned k → NamesOwn
    pinned_names k pinned own is version names =
        let fits = the_pass applied lawful permitted stands size s r id v own at is in
        let named = subst (λ p. PinFits r.facts.turn.kept (get_or r.facts.seen own.number 0) (get_or s.words (pin_at own.number) 0) (stage_of p)) pinned (pin_fits own is) in
        let last = (subst (ProgressFits r.facts.turn.kept own.pinned) pinned fits.kept).1 in
        let root = kept_root_fits (core_size size) s.words r.facts.stages r.facts.seen (turn_of (length r.facts.all.history) r.facts.turn.kept r.facts.turn.marks) r.sound named.0 named.1 in
        let same : version_of (get_or s.words (pin_at own.number) 0) ≡ named.0.version = version_of_pin named.0 (get_or s.words (pin_at own.number) 0) (omega arith) named.2 in
        subst (Contains own.pinned) (sym named.3 ∙ sym same ∙ names.1) (subst (λ (vs : List ℕ). Contains vs k.version) (sym last.1) (Contains-push last.0 k.version))

    naming_pinned : NamesOwn → (own : PassView E) → v.pass ≡ Some own → (n : Naming) → NamingFits s.words r.facts.pinned n → n.pass ≡ own.number → Contains own.pinned n.version
    naming_pinned names own is n fits same = ⊎_elim
        (λ (c : Contains (r.facts.pinned n.pass) n.version). subst (λ (vs : List ℕ). Contains vs n.version) (ap r.facts.pinned same ∙ sym (the_pass applied lawful permitted stands size s r id v own at is).pinned) c)
        (λ (c : (2 ≤ get_or s.words (pin_at n.pass) 0) × (version_of (get_or s.words (pin_at n.pass) 0) ≡ n.version)). names own is n.version (subst (λ (q : ℕ). PinNames s.words q n.version) same c)) fits

    accounts : NamesOwn → Accounts size.passes v r.facts.all
    accounts names = record {
      seen = (r.seats id v at).seen;
      told = (r.seats id v at).told;
      entries = λ own is. (the_pass applied lawful permitted stands size s r id v own at is).entries;
      namings = λ own is. All-weaker (NamingFits s.words r.facts.pinned) (λ (n : Naming). n.pass ≡ own.number → Contains own.pinned n.version) (naming_pinned names own is) r.facts.all.namings r.namings;
      authors = All-weaker (λ (e : Entry E). e.author < r.facts.turn.made) (λ (e : Entry E). e.author < size.passes) (λ e l. let m = r.made in omega arith) r.facts.all.history r.authors;
      namers = r.namers;
    }

  looks : (passes slots id : ℕ) (m : Me (Unit {0}) (View O E)) → passes ≡ size.passes → ((s : State (Unit {0}) (View O E)) (r : Rule s) (at : get_elem? s.views id ≡ some m.0) → NamesOwn s r id m.0 at)
      → Allows Rule slots id m 0 (λ n. n) (accounted passes (step slots 0 0 0 none) m)
  looks passes slots id m is names s r deep at small = (
    m.0,
    keeps,
    tt,
    subst (λ (x : List ℕ × List (View O E)). Rule record { words = x.0; homes = s.homes; views = x.1 }) (λ i. (sym (set-get_or s.words 0 0) i, sym (set_again s.views id m.0 at) i)) r,
    (refl, (r.facts.all, subst (λ (n : ℕ). Accounts n m.0 r.facts.all) (sym is) (accounts s r id m.0 at (names s r at)))),
  )

  pub may_account : (passes slots id : ℕ) (m : Me (Unit {0}) (View O E)) → passes ≡ size.passes → is_idle m.0.progress ≡ true → Allows Rule slots id m 0 (λ n. n) (accounted passes (step slots 0 0 0 none) m)
  may_account passes slots id m is idle = looks passes slots id m is (λ s r at. idle_names s r id m.0 at (idle_is m.0.progress idle))

  pub may_account_pinned : (passes slots id : ℕ) (m : Me (Unit {0}) (View O E)) → passes ≡ size.passes → is_pinned m.0.progress ≡ true → Allows Rule slots id m 0 (λ n. n) (accounted passes (step slots 0 0 0 none) m)
  may_account_pinned passes slots id m is pinned = looks passes slots id m is (λ s r at. let k = pinned_there m.0.progress pinned in pinned_names s r id m.0 at k.0 k.1)

  -- after a note was joined

  pub may_account_beside : (passes slots id : ℕ) (v w : View O E) (m was : Me (Unit {0}) (View O E)) → m ≡ (with_note v w, was.1) → passes ≡ size.passes → is_idle v.progress ≡ true → Allows Rule slots id m 0 (λ n. n) (accounted passes (step slots 0 0 0 none) m)
  may_account_beside passes slots id v w m was joined is idle = subst (λ (x : Me (Unit {0}) (View O E)). Allows Rule slots id x 0 (λ n. n) (accounted passes (step slots 0 0 0 none) x)) (sym joined) (may_account passes slots id (with_note v w, was.1) is idle)

  pub may_account_pinned_beside : (passes slots id : ℕ) (v w : View O E) (m was : Me (Unit {0}) (View O E)) → m ≡ (with_note v w, was.1) → passes ≡ size.passes → is_pinned v.progress ≡ true → Allows Rule slots id m 0 (λ n. n) (accounted passes (step slots 0 0 0 none) m)
  may_account_pinned_beside passes slots id v w m was joined is pinned = subst (λ (x : Me (Unit {0}) (View O E)). Allows Rule slots id x 0 (λ n. n) (accounted passes (step slots 0 0 0 none) x)) (sym joined) (may_account_pinned passes slots id (with_note v w, was.1) is pinned)
