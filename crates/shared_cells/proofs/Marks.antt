-- The turn's scans and its help keep the rule.
use Rattle.std.proofs.Common.{◌≡◌, ◌≢◌, ◌⊎◌, inl, inr, ⊎_elim, ℕ, ◌+◌, ◌-◌, ◌<◌, ◌≤◌, eqb, List, [], ◌++◌, length, get_or, set, replicate, Bool, true, false, cond, refl, sym, ap, ◌∙◌, subst, arith, Option, Some, get_or-set_same, get_or-set_other, ne_eqb}
use Rattle.std.specs.List.{All, Contains, list_all}
use Rattle.std.proofs.lemmas.List.{set-get_or}
use Rattle.std.proofs.lemmas.List.Elements.{All-append, All-cons, All-filter, All-nil, All-weaker}
use Rattle.std.proofs.lemmas.Bool.Decides.{eqb_tells}
use mathlib.Core.Logic.{dite}
use mathlib.Core.Option.{some, none}
use native.Mathlib.Decide.{ℕ_discrete}
use prog.Atomic.{either}
use lib.ListN.{get_elem?}
use Rattle.atomic_table.specs.Table.{State, Me, Allows, step, keeps}
use Rattle.pin_core.specs.declared.kept.CellAt.{CellAt}
use Rattle.pin_core.specs.declared.kept.Kept.{Kept}
use Rattle.pin_core.specs.declared.kept.Stage.{Stage}
use Rattle.pin_core.specs.declared.kept.Mark.{Mark}
use Rattle.pin_core.specs.declared.kept.Mark.TheVariants as mark
use Rattle.pin_core.specs.Words.{pin_at, version_of, word_of}
use Rattle.pin_core.specs.Sound.{Turn, Sound, turn_of, stage_at, mark_at, PinFits, MarkFits}
use Rattle.pin_core.specs.Machine.{exchanged, is_settled, mark_of, kept_by_round, round_checked}
use Rattle.pin_core.proofs.Lists.{contains_from_filter, pairs_cases}
use Rattle.pin_core.proofs.Pins.{scans, assigns}
use Rattle.pin_core.proofs.Rounds.{checks}
use Rattle.shared_cells.specs.declared.view.TableSize.{TableSize}
use Rattle.shared_cells.specs.declared.view.Naming.{Naming}
use Rattle.shared_cells.specs.declared.view.Seen.{Seen}
use Rattle.shared_cells.specs.declared.view.Progress.{Progress}
use Rattle.shared_cells.specs.declared.view.Progress.TheVariants as progress
use Rattle.shared_cells.specs.declared.view.TurnView.{TurnView}
use Rattle.shared_cells.specs.declared.view.View.{View}
use Rattle.shared_cells.specs.Views.{core_size, is_told, marked_turn, naming_by, with_namings, marked_view}
use Rattle.shared_cells.specs.Rule.{stage_of, ProgressFits, PinNames, NamingFits, HasAll, IsSoundTable}
use Rattle.shared_cells.specs.Steps.{IsOfKept, scanned, assigned}
use Rattle.shared_cells.proofs.Knowing.{the_turn}
use Rattle.shared_cells.proofs.Seats.{told_there}
use Rattle.shared_cells.proofs.Passes.{either_is}
use Rattle.shared_cells.proofs.Turns.{acts}

-- a round that may have ended

module _ (n : ℕ) (t : Turn) where
  abbrev ended : Bool → Turn
  ended b = cond b (record t { kept = kept_by_round t; marks = replicate n mark.Blank }) t

  ended_version : (b : Bool) → ended b ≡ turn_of t.version (ended b).kept (ended b).marks
  ended_version true = refl
  ended_version false = refl

  ended_fewer : (b : Bool) (P : Kept → Type 0) → All P t.kept → All P (ended b).kept
  ended_fewer true P all = All-filter _ P t.kept all
  ended_fewer false P all = all

  ended_were : (b : Bool) (k : Kept) → Contains (ended b).kept k → Contains t.kept k
  ended_were true k c = contains_from_filter _ t.kept k c
  ended_were false k c = c

-- what a pin says, by its word

of_kept : (kept : List Kept) (cur pin : ℕ) (g : Stage) (m : Mark) → MarkFits kept cur pin g m → IsOfKept kept m
of_kept kept cur pin g mark.Blank fits = tt
of_kept kept cur pin g mark.Idle fits = tt
of_kept kept cur pin g mark.Entering fits = tt
of_kept kept cur pin g (mark.Pinned v) fits = (fits.0, fits.1, fits.2)

namings_fit : (words : List ℕ) (pinned : ℕ → List ℕ) (p : ℕ) (a b : Bool) → eqb (get_or words (pin_at p) 0) 0 ≡ a → eqb (get_or words (pin_at p) 0) 1 ≡ b
    → All (NamingFits words pinned) (naming_by p (cond a mark.Idle (cond b mark.Entering (mark.Pinned (version_of (get_or words (pin_at p) 0))))))
namings_fit words pinned p true b ea eb = All-nil (NamingFits words pinned)
namings_fit words pinned p false true ea eb = All-nil (NamingFits words pinned)
namings_fit words pinned p false false ea eb = All-cons (NamingFits words pinned) (record { pass = p; version = version_of (get_or words (pin_at p) 0) }) []
    (inr (grind (arith, eqb_tells (get_or words (pin_at p) 0) 0, eqb_tells (get_or words (pin_at p) 0) 1), refl)) (All-nil (NamingFits words pinned))

namers_fit : (passes p : ℕ) → p < passes → (m : Mark) → All (λ (n : Naming). n.pass < passes) (naming_by p m)
namers_fit passes p l mark.Blank = All-nil (λ (n : Naming). n.pass < passes)
namers_fit passes p l mark.Idle = All-nil (λ (n : Naming). n.pass < passes)
namers_fit passes p l mark.Entering = All-nil (λ (n : Naming). n.pass < passes)
namers_fit passes p l (mark.Pinned v) = All-cons (λ (n : Naming). n.pass < passes) (record { pass = p; version = v }) [] l (All-nil (λ (n : Naming). n.pass < passes))

module _ {O E : Type 0} (applied : O → E → O) (lawful : O → O → Type 0) (permitted : E → Type 0) (stands : List CellAt → Option ℕ → O → Type 0) (size : TableSize) where
  abbrev Rule : State (Unit {0}) (View O E) → Type 0
  Rule = IsSoundTable applied lawful permitted stands size

  module _ (s : State (Unit {0}) (View O E)) (r : Rule s) (id : ℕ) (v : View O E) (at : get_elem? s.views id ≡ some v) (turn : TurnView) (is_turn : v.turn ≡ Some turn) (o : O) (is_open : v.seen.opening ≡ Some o) (p : ℕ) (small : p < size.passes) where
    h : HasAll r.facts id v.seen v.progress turn
    h = the_turn applied lawful permitted stands size s r id v turn at is_turn

    opened : r.facts.all.opening ≡ Some o
    opened = sym (ap (λ (x : Seen O E). x.opening) (the_turn applied lawful permitted stands size s r id v turn at is_turn).seen_is) ∙ is_open

    -- two kept versions of one number are one
    alone : (k j : Kept) → Contains r.facts.turn.kept k → Contains r.facts.turn.kept j → k.version ≡ j.version → k ≡ j
    alone k j has_k has_j e = ⊎_elim (λ (l : k.version < j.version). absurd (omega arith)) (⊎_elim (λ (l : j.version < k.version). absurd (omega arith)) (λ (same : k ≡ j). same))
        (pairs_cases (λ (k j : Kept). k.version < j.version) r.facts.turn.kept k j r.sound.rising has_k has_j)

    -- the turn's part after the pass is marked by this pin
    abbrev t : ℕ → Turn
    t pin = turn_of (length r.facts.all.history) r.facts.turn.kept (set r.facts.turn.marks p (mark_of pin))

    abbrev new : ℕ → TurnView
    new pin = marked_turn (length r.facts.all.history) r.facts.turn p (mark_of pin)

    -- whether the round has ended by that
    abbrev done : ℕ → Bool
    done pin = list_all is_settled (set r.facts.turn.marks p (mark_of pin))

    module _ (words : List ℕ) (pin : ℕ) (is_pin : get_or words (pin_at p) 0 ≡ pin) (far : (i : ℕ) → i ≢ pin_at p → get_or words i 0 ≡ get_or s.words i 0) (named_on : (version : ℕ) → PinNames s.words p version → PinNames words p version)
        (sound : Sound (core_size size) words r.facts.stages r.facts.seen (t pin)) where
      sound_after : Sound (core_size size) words r.facts.stages r.facts.seen (turn_of (length r.facts.all.history) (new pin).kept (new pin).marks)
      sound_after = subst (λ (n : ℕ). Sound (core_size size) words r.facts.stages r.facts.seen (turn_of (length r.facts.all.history) (round_checked n (t pin)).kept (round_checked n (t pin)).marks)) (sym r.sound.marked)
          (subst (Sound (core_size size) words r.facts.stages r.facts.seen) (ended_version size.passes (t pin) (done pin)) (checks (core_size size) words r.facts.stages r.facts.seen (t pin) sound))

      stay : (q : ℕ) (g : Progress) (pinned : List ℕ) → q < size.passes → stage_at r.facts.stages q ≡ stage_of g → ProgressFits r.facts.turn.kept pinned g → ProgressFits (new pin).kept pinned g
      stay q progress.Idle pinned l is fits = tt
      stay q progress.Entered pinned l is fits = tt
      stay q (progress.Looked w) pinned l is fits = tt
      stay q (progress.Pinned k) pinned l is fits =
          let so = subst (PinFits (new pin).kept (get_or r.facts.seen q 0) (get_or words (pin_at q) 0)) is (sound_after.pins q l) in
          (subst (Contains (new pin).kept) (alone so.0 k (ended_were (length r.facts.turn.marks) (t pin) (done pin) so.0 so.1) fits.0 so.3) so.1, fits.1)

      naming_on : (n : Naming) → NamingFits s.words r.facts.pinned n → NamingFits words r.facts.pinned n
      naming_on n fits = dite (ℕ_discrete n.pass p)
          (λ same. ⊎_elim inl (λ (names : PinNames s.words n.pass n.version). inr (subst (λ (q : ℕ). PinNames words q n.version) (sym same) (named_on n.version (subst (λ (q : ℕ). PinNames s.words q n.version) same names)))) fits)
          (λ apart. subst (λ (x : ℕ). Contains (r.facts.pinned n.pass) n.version ⊎ ((2 ≤ x) × (version_of x ≡ n.version))) (sym (far (pin_at n.pass) (λ e. apart (omega arith)))) fits)

      namings_on : All (NamingFits words r.facts.pinned) (r.facts.all.namings ++ naming_by p (mark_of pin))
      namings_on = All-append (NamingFits words r.facts.pinned) r.facts.all.namings (naming_by p (mark_of pin))
          (All-weaker (NamingFits s.words r.facts.pinned) (NamingFits words r.facts.pinned) naming_on r.facts.all.namings r.namings)
          (subst (λ (x : ℕ). All (NamingFits words r.facts.pinned) (naming_by p (mark_of x))) is_pin (namings_fit words r.facts.pinned p (eqb (get_or words (pin_at p) 0) 0) (eqb (get_or words (pin_at p) 0) 1) refl refl))

      -- the pass is marked by this pin, which its word now is
      marks_keep : Rule record { words = words; homes = s.homes; views = set s.views id (marked_view v turn p (mark_of pin)) }
      marks_keep = subst (λ (y : Seen O E × TurnView). Rule record { words = words; homes = s.homes; views = set s.views id (record v { seen = with_namings y.0 (naming_by p (mark_of pin)); turn = Some (marked_turn (length y.0.history) y.1 p (mark_of pin)) }) })
          (λ i. (sym h.seen_is i, sym h.turn_is i))
          (acts applied lawful permitted stands size s r id v at turn is_turn words (naming_by p (mark_of pin)) (new pin) refl stay (λ e. absurd (let e' = opened in cc)) (ended_fewer (length r.facts.turn.marks) (t pin) (done pin)) sound_after namings_on (namers_fit size.passes p small (mark_of pin))
          (r.copied ∙ r.sound.wide ∙ sym sound.wide) (λ i l. far i (λ e. let m = r.sound.small in omega arith) ∙ r.mirror i l))

      told : IsOfKept turn.kept (mark_of pin)
      told = subst (λ (x : TurnView). IsOfKept x.kept (mark_of pin)) (sym h.turn_is)
          (subst (IsOfKept r.facts.turn.kept) (get_or-set_same r.facts.turn.marks p (mark_of pin) mark.Blank (let e = r.sound.marked in omega arith))
          (of_kept r.facts.turn.kept (get_or words 0 0) (get_or words (pin_at p) 0) (stage_at r.facts.stages p) (mark_at (set r.facts.turn.marks p (mark_of pin)) p) (sound.marks p small)))

    scan_keeps : Rule record { words = s.words; homes = s.homes; views = set s.views id (marked_view v turn p (mark_of (get_or s.words (pin_at p) 0))) }
    scan_keeps = marks_keep s.words (get_or s.words (pin_at p) 0) refl (λ i apart. refl) (λ version names. names)
        (scans (core_size size) s.words r.facts.stages r.facts.seen (turn_of (length r.facts.all.history) r.facts.turn.kept r.facts.turn.marks) r.sound p small)

    scan_told : IsOfKept turn.kept (mark_of (get_or s.words (pin_at p) 0))
    scan_told = told s.words (get_or s.words (pin_at p) 0) refl (λ i apart. refl) (λ version names. names)
        (scans (core_size size) s.words r.facts.stages r.facts.seen (turn_of (length r.facts.all.history) r.facts.turn.kept r.facts.turn.marks) r.sound p small)

    -- what a pin is after help
    abbrev x : ℕ
    x = exchanged (get_or s.words (pin_at p) 0) (get_or s.words 0 0)

    here : get_or (set s.words (pin_at p) x) (pin_at p) 0 ≡ x
    here = get_or-set_same s.words (pin_at p) x 0 (let w = r.sound.wide in let m = r.sound.small in omega arith)

    away : (i : ℕ) → i ≢ pin_at p → get_or (set s.words (pin_at p) x) i 0 ≡ get_or s.words i 0
    away i apart = get_or-set_other s.words (pin_at p) i x 0 apart

    -- a pin that named a version before stays
    still_named : (version : ℕ) → PinNames s.words p version → PinNames (set s.words (pin_at p) x) p version
    still_named version names = subst (λ (y : ℕ). (2 ≤ y) × (version_of y ≡ version))
        (sym (here ∙ ap (λ (b : Bool). cond b (get_or s.words 0 0 + 2) (get_or s.words (pin_at p) 0)) (ne_eqb (get_or s.words (pin_at p) 0) 1 (λ e. let l = names.0 in omega arith)))) names

    assign_keeps : Rule record { words = set s.words (pin_at p) x; homes = s.homes; views = set s.views id (marked_view v turn p (mark_of x)) }
    assign_keeps = marks_keep (set s.words (pin_at p) x) x here away still_named (assigns (core_size size) s.words r.facts.stages r.facts.seen (turn_of (length r.facts.all.history) r.facts.turn.kept r.facts.turn.marks) r.sound p small)

    assign_told : IsOfKept turn.kept (mark_of x)
    assign_told = told (set s.words (pin_at p) x) x here away still_named (assigns (core_size size) s.words r.facts.stages r.facts.seen (turn_of (length r.facts.all.history) r.facts.turn.kept r.facts.turn.marks) r.sound p small)

    -- CUR's word, as the turn knows it
    current_known : (k : Kept) → Contains turn.kept k → k.version ≡ length v.seen.history → get_or s.words 0 0 ≡ word_of k
    current_known k has newest =
        let c = r.sound.current in
        let mine : Contains r.facts.turn.kept k = subst (λ (y : TurnView). Contains y.kept k) h.turn_is has in
        c.3 ∙ ap word_of (alone c.0 k c.1 mine (c.2 ∙ sym (newest ∙ ap (λ (y : Seen O E). length y.history) h.seen_is)))

  module _ (slots id : ℕ) (m : Me (Unit {0}) (View O E)) (turn : TurnView) (is_turn : m.0.turn ≡ Some turn) (is_open : is_told m.0.seen.opening ≡ true) (p : ℕ) (small : p < length turn.marks) where
    inside : (s : State (Unit {0}) (View O E)) (r : Rule s) → get_elem? s.views id ≡ some m.0 → p < size.passes
    inside s r at = let e = r.sound.marked in let same : length turn.marks ≡ length r.facts.turn.marks = ap (λ (y : TurnView). length y.marks) (the_turn applied lawful permitted stands size s r id m.0 turn at is_turn).turn_is in omega arith

    before : pin_at p - 1 ≡ p
    before = omega arith

    pub may_scan : Allows Rule slots id m (pin_at p) (λ n. n) (scanned (step slots (pin_at p) 0 0 none) m)
    may_scan s r deep at small = let o = told_there m.0.seen.opening is_open in let new = marked_view m.0 turn p (mark_of (get_or s.words (pin_at p) 0)) in (
      new,
      keeps,
      tt,
      subst (λ (ws : List ℕ). Rule record { words = ws; homes = s.homes; views = set s.views id new }) (sym (set-get_or s.words (pin_at p) 0)) (scan_keeps s r id m.0 at turn is_turn o.0 o.1 p (inside s r at)),
      ((turn, is_turn, ap (λ (q : ℕ). marked_view m.0 turn q (mark_of (get_or s.words (pin_at p) 0))) (sym before), scan_told s r id m.0 at turn is_turn o.0 o.1 p (inside s r at)), refl),
    )

    pub may_assign : (k : Kept) → Contains turn.kept k → k.version ≡ length m.0.seen.history → Allows Rule slots id m (pin_at p) (λ n. either (eqb n 1) (word_of k + 2) n) (assigned (step slots (pin_at p) 1 (word_of k + 2) none) m)
    may_assign k has newest s r deep at small =
        let o = told_there m.0.seen.opening is_open in
        let pin = get_or s.words (pin_at p) 0 in
        let new = marked_view m.0 turn p (mark_of (exchanged (get_or s.words (pin_at p) 0) (word_of k))) in
        let cur = current_known s r id m.0 at turn is_turn o.0 o.1 p (inside s r at) k has newest in (
          new,
          keeps,
          tt,
          subst (λ (x : ℕ). Rule record { words = set s.words (pin_at p) x; homes = s.homes; views = set s.views id new }) (sym (either_is (eqb (get_or s.words (pin_at p) 0) 1) (word_of k + 2) (get_or s.words (pin_at p) 0)))
              (subst (λ (c : ℕ). Rule record { words = set s.words (pin_at p) (exchanged (get_or s.words (pin_at p) 0) c); homes = s.homes; views = set s.views id (marked_view m.0 turn p (mark_of (exchanged (get_or s.words (pin_at p) 0) c))) }) cur
              (assign_keeps s r id m.0 at turn is_turn o.0 o.1 p (inside s r at))),
          (
            (
              turn,
              is_turn,
              ap (λ (q : ℕ). marked_view m.0 turn q (mark_of (exchanged (get_or s.words (pin_at p) 0) (word_of k)))) (sym before),
              subst (λ (c : ℕ). IsOfKept turn.kept (mark_of (exchanged (get_or s.words (pin_at p) 0) c))) cur (assign_told s r id m.0 at turn is_turn o.0 o.1 p (inside s r at)),
            ),
            refl,
          ),
        )
