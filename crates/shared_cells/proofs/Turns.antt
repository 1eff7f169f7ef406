-- What the turn does beside publishing, on words that it knows and on its round, keeps the rule.
use Rattle.std.proofs.Common.{◌≡◌, ◌⊎◌, ℕ, ◌<◌, ◌≤◌, List, [], ◌++◌, length, take, get_or, set, true, false, refl, sym, ap, ◌∙◌, subst, arith, append-nil, Option, Some, None, length-set, get_or-set_same, get_or-set_other}
use Rattle.std.specs.List.{All, Contains}
use Rattle.std.proofs.lemmas.List.{set-get_or, get_or_past}
use Rattle.std.proofs.lemmas.List.Elements.{All-append, All-nil}
use mathlib.Core.Logic.{dite}
use mathlib.Core.Option.{some, none}
use native.Mathlib.Decide.{dec_le, ℕ_discrete}
use lib.ListN.{get_elem?}
use Rattle.atomic_table.specs.Table.{State, Me, Allows, step, keeps}
use Rattle.atomic_table.proofs.Lists.{set_again}
use Rattle.pin_core.specs.declared.kept.CellAt.{CellAt}
use Rattle.pin_core.specs.declared.kept.Kept.{Kept}
use Rattle.pin_core.specs.declared.event.Half.{Half}
use Rattle.pin_core.specs.declared.event.Half.TheVariants.{Big, Small}
use Rattle.pin_core.specs.Words.{pin_at, status_at, half_at, chunk_of, version_of}
use Rattle.pin_core.specs.Sound.{Sound, turn_of, stage_at}
use Rattle.pin_core.specs.Machine.{is_kept_cell, is_kept_chunk}
use Rattle.pin_core.proofs.Cells.{gives, frees, writes}
use Rattle.shared_cells.specs.declared.view.TableSize.{TableSize}
use Rattle.shared_cells.specs.declared.view.Naming.{Naming}
use Rattle.shared_cells.specs.declared.view.Seen.{Seen}
use Rattle.shared_cells.specs.declared.view.Progress.{Progress}
use Rattle.shared_cells.specs.declared.view.PassView.{PassView}
use Rattle.shared_cells.specs.declared.view.TurnView.{TurnView}
use Rattle.shared_cells.specs.declared.view.View.{View}
use Rattle.shared_cells.specs.History.{OpeningFits, IsPartOf, version_after}
use Rattle.shared_cells.specs.Views.{core_size, has_turn, words_of, kept_in, stored_turn, stored_in, stored_view, with_namings}
use Rattle.shared_cells.specs.Rule.{Facts, stage_of, ProgressFits, NamingFits, OwnFits, PassFits, HasAll, Knows, VersionsFit, IsSoundTable}
use Rattle.shared_cells.specs.Steps.{stored, recalled}
use Rattle.shared_cells.proofs.Lists.{seats_stay, begins_itself, begins_more}
use Rattle.shared_cells.proofs.Holding.{held_set}
use Rattle.shared_cells.proofs.Knowing.{knows_else, the_turn}
use Rattle.shared_cells.proofs.Seats.{turn_there, idle_fits_told}

pub nothing_more : {O E : Type 0} (seen : Seen O E) → with_namings seen [] ≡ seen
nothing_more seen = ap (λ (ns : List Naming). record seen { namings = ns }) (append-nil seen.namings)

past : (at : ℕ) (half : Half) → 64 < half_at at half
past at Big = omega arith
past at Small = omega arith

module _ {O E : Type 0} (applied : O → E → O) (lawful : O → O → Type 0) (permitted : E → Type 0) (stands : List CellAt → Option ℕ → O → Type 0) (size : TableSize) where
  abbrev Rule : State (Unit {0}) (View O E) → Type 0
  Rule = IsSoundTable applied lawful permitted stands size

  module _ (s : State (Unit {0}) (View O E)) (r : Rule s) (id : ℕ) (v : View O E) (at : get_elem? s.views id ≡ some v) (turn : TurnView) (is_turn : v.turn ≡ Some turn) where
    h : HasAll r.facts id v.seen v.progress turn
    h = the_turn applied lawful permitted stands size s r id v turn at is_turn

    module _ (words : List ℕ) (more : List Naming) (new : TurnView) where
      abbrev now : Facts O E
      now = record r.facts { turn = new; all = with_namings r.facts.all more }

      longer : (part : Seen O E) → IsPartOf r.facts.all part → IsPartOf (with_namings r.facts.all more) part
      longer part p = record { opening = p.opening; history = p.history; namings = begins_more r.facts.all.namings part.namings more p.namings }

      -- the kept versions that pinned passes have stay kept
      abbrev PinnedStay : Type 0
      PinnedStay = (p : ℕ) (g : Progress) (pinned : List ℕ) → p < size.passes → stage_at r.facts.stages p ≡ stage_of g → ProgressFits r.facts.turn.kept pinned g → ProgressFits new.kept pinned g

      others_fit : new.made ≡ r.facts.turn.made → PinnedStay → (j : ℕ) (seen : Seen O E) (p : Progress) (own : PassView E) → OwnFits size r.facts j seen p own → OwnFits size now j seen p own
      others_fit made stay j seen p own fits = record {
        made = subst (λ (n : ℕ). own.number < n) (sym made) fits.made;
        at = fits.at;
        entries = fits.entries;
        pinned = fits.pinned;
        seen_length = fits.seen_length;
        stage_is = fits.stage_is;
        kept = stay own.number p own.pinned (let l = fits.made in let m = r.made in omega arith) fits.stage_is fits.kept;
        told = fits.told;
        chunks = fits.chunks;
      }

      -- the joined pass, if there is one
      mine : new.made ≡ r.facts.turn.made → PinnedStay → (p : Option (PassView E)) → PassFits size r.facts id v.seen v.progress p → PassFits size now id (with_namings r.facts.all more) v.progress p
      mine made stay None fits = fits
      mine made stay (Some own) fits = let same = others_fit made stay id v.seen v.progress own fits in record {
        made = same.made;
        at = same.at;
        entries = same.entries;
        pinned = same.pinned;
        seen_length = same.seen_length ∙ ap (λ (x : Seen O E). length x.history) h.seen_is;
        stage_is = same.stage_is;
        kept = same.kept;
        told = idle_fits_told r.facts.all.opening v.progress h.idle;
        chunks = same.chunks;
      }

      versions_on : (r.facts.all.opening ≡ None → more ≡ []) → ((P : Kept → Type 0) → All P r.facts.turn.kept → All P new.kept) → VersionsFit applied lawful permitted stands size now r.facts.all.opening
      versions_on early fewer = go r.facts.all.opening refl r.versions
        where
          go : (o : Option O) → r.facts.all.opening ≡ o → VersionsFit applied lawful permitted stands size r.facts o → VersionsFit applied lawful permitted stands size now o
          go None is fits = (ap (with_namings r.facts.all) (early is) ∙ nothing_more r.facts.all ∙ fits.0, fits.1)
          go (Some o') is fits = (fits.0, fewer (λ k. stands k.image k.root (version_after applied o' (take k.version r.facts.all.history))) fits.1)

      opening_on : (r.facts.all.opening ≡ None → more ≡ []) → OpeningFits r.facts.all.opening r.facts.all.opening r.facts.all → OpeningFits r.facts.all.opening r.facts.all.opening (with_namings r.facts.all more)
      opening_on early = go r.facts.all.opening refl
        where
          go : (o : Option O) → r.facts.all.opening ≡ o → OpeningFits r.facts.all.opening o r.facts.all → OpeningFits r.facts.all.opening o (with_namings r.facts.all more)
          go None is fits = ap (with_namings r.facts.all) (early is) ∙ nothing_more r.facts.all ∙ fits
          go (Some o) is fits = fits

      -- the turn knows this now, and more namings are listed
      pub acts : new.made ≡ r.facts.turn.made → PinnedStay → (r.facts.all.opening ≡ None → more ≡ []) → ((P : Kept → Type 0) → All P r.facts.turn.kept → All P new.kept)
          → Sound (core_size size) words r.facts.stages r.facts.seen (turn_of (length r.facts.all.history) new.kept new.marks) → All (NamingFits words r.facts.pinned) (r.facts.all.namings ++ more) → All (λ (n : Naming). n.pass < size.passes) more
          → length new.words ≡ length words → ((i : ℕ) → 64 < i → get_or words i 0 ≡ get_or new.words i 0)
          → Rule record { words = words; homes = s.homes; views = set s.views id (record v { seen = with_namings r.facts.all more; turn = Some new }) }
      acts made stay early fewer sound namings namers copied mirror = record {
        facts = now;
        made = subst (λ (n : ℕ). n ≤ size.passes) (sym made) r.made;
        authors = subst (λ (n : ℕ). All (λ e. e.author < n) r.facts.all.history) (sym made) r.authors;
        allowed = r.allowed;
        sound = sound;
        seats = seats_stay (Knows size now) s.views id (record v { seen = with_namings r.facts.all more; turn = Some new })
            (let k = r.seats id v at in record {
              seen = record { opening = opening_on early (subst (IsPartOf r.facts.all) h.seen_is k.seen).opening; history = begins_itself r.facts.all.history; namings = begins_itself (r.facts.all.namings ++ more) };
              told = longer v.told k.told;
              pass = mine made stay v.pass k.pass;
              turn = record { writer = h.writer; turn_is = refl; seen_is = refl; idle = h.idle };
            })
            (λ j u other e. knows_else size r.facts now j u (λ same. other (same ∙ sym h.writer)) longer (others_fit made stay j u.seen u.progress) (r.seats j u e));
        held = held_set s.views r.facts.writer id v (record v { seen = with_namings r.facts.all more; turn = Some new }) r.held at (sym (ap has_turn is_turn));
        versions = versions_on early fewer;
        namings = namings;
        namers = All-append (λ (n : Naming). n.pass < size.passes) r.facts.all.namings more r.namers namers;
        copied = copied;
        mirror = mirror;
      }

    -- a word past the pins becomes this
    module _ (i x : ℕ) (far : 64 < i) where
      stored_far : (j : ℕ) → j ≤ 64 → get_or (set s.words i x) j 0 ≡ get_or s.words j 0
      stored_far j l = get_or-set_other s.words i j x 0 (λ e. omega arith)

      namings_stay : All (NamingFits (set s.words i x) r.facts.pinned) r.facts.all.namings
      namings_stay j d l = let few = r.namers j d l in let m = r.sound.small in let n = get_or r.facts.all.namings j d in
          subst (λ (pin : ℕ). Contains (r.facts.pinned n.pass) n.version ⊎ ((2 ≤ pin) × (version_of pin ≡ n.version))) (sym (stored_far (pin_at n.pass) (omega arith))) (r.namings j d l)

      store_keeps : Sound (core_size size) (set s.words i x) r.facts.stages r.facts.seen (turn_of (length r.facts.all.history) r.facts.turn.kept r.facts.turn.marks)
          → Rule record { words = set s.words i x; homes = s.homes; views = set s.views id (stored_view v i x) }
      store_keeps sound = subst (λ (y : Seen O E × Option TurnView). Rule record { words = set s.words i x; homes = s.homes; views = set s.views id (record v { seen = y.0; turn = stored_in y.1 i x }) })
          (λ j. ((nothing_more r.facts.all ∙ sym h.seen_is) j, (sym (ap (λ (y : TurnView). Some y) h.turn_is) ∙ sym is_turn) j))
          (acts (set s.words i x) [] (stored_turn r.facts.turn i x) refl (λ p g pinned l is fits. fits) (λ e. refl) (λ P all. all) sound
          (subst (All (NamingFits (set s.words i x) r.facts.pinned)) (sym (append-nil r.facts.all.namings)) namings_stay) (All-nil (λ (n : Naming). n.pass < size.passes))
          (length-set r.facts.turn.words i x ∙ r.copied ∙ sym (length-set s.words i x)) mirror_on)
        where
          mirror_on : (j : ℕ) → 64 < j → get_or (set s.words i x) j 0 ≡ get_or (set r.facts.turn.words i x) j 0
          mirror_on j l = dite (ℕ_discrete j i)
              (λ same. subst (λ (k : ℕ). get_or (set s.words i x) k 0 ≡ get_or (set r.facts.turn.words i x) k 0) (sym same) (here (dec_le (length s.words) i)))
              (λ apart. get_or-set_other s.words i j x 0 apart ∙ r.mirror j l ∙ sym (get_or-set_other r.facts.turn.words i j x 0 apart))
            where
              here : Dec (length s.words ≤ i) → get_or (set s.words i x) i 0 ≡ get_or (set r.facts.turn.words i x) i 0
              here (yes out) = get_or_past (set s.words i x) i 0 (let n = length-set s.words i x in omega arith) ∙ sym (get_or_past (set r.facts.turn.words i x) i 0 (let n = length-set r.facts.turn.words i x in let c = r.copied in omega arith))
              here (no within) = get_or-set_same s.words i x 0 (omega arith) ∙ sym (get_or-set_same r.facts.turn.words i x 0 (let c = r.copied in omega arith))

  module _ (slots id : ℕ) (m : Me (Unit {0}) (View O E)) (has : has_turn m.0.turn ≡ true) where
    -- the turn stores a word past the pins, if the pin core allows it
    may_store : (i x : ℕ) → 64 < i → ((s : State (Unit {0}) (View O E)) (r : Rule s) → r.facts.turn ≡ (turn_there m.0.turn has).0 → Sound (core_size size) (set s.words i x) r.facts.stages r.facts.seen (turn_of (length r.facts.all.history) r.facts.turn.kept r.facts.turn.marks))
        → Allows Rule slots id m i (λ _. x) (λ _. stored (step slots i x 0 none) m x)
    may_store i x far sound s r deep at small = let t = turn_there m.0.turn has in (
      stored_view m.0 i x,
      keeps,
      tt,
      store_keeps s r id m.0 at t.0 t.1 i x far (sound s r (sym (the_turn applied lawful permitted stands size s r id m.0 t.0 at t.1).turn_is)),
      refl,
    )

    pub may_give : (c : ℕ) → c < size.chunks → Allows Rule slots id m (status_at c) (λ _. 1) (λ _. stored (step slots (status_at c) 1 0 none) m 1)
    may_give c small = may_store (status_at c) 1 (omega arith) (λ s r is. gives (core_size size) s.words r.facts.stages r.facts.seen (turn_of (length r.facts.all.history) r.facts.turn.kept r.facts.turn.marks) r.sound c small)

    kept_is : (turn : TurnView) → turn ≡ (turn_there m.0.turn has).0 → turn.kept ≡ kept_in m.0.turn
    kept_is turn is = ap (λ (t : TurnView). t.kept) is ∙ sym (ap kept_in (turn_there m.0.turn has).1)

    pub may_free : (c : ℕ) → c < size.chunks → is_kept_chunk (kept_in m.0.turn) c ≡ false → Allows Rule slots id m (status_at c) (λ _. 0) (λ _. stored (step slots (status_at c) 0 0 none) m 0)
    may_free c small away = may_store (status_at c) 0 (omega arith)
        (λ s r is. frees (core_size size) s.words r.facts.stages r.facts.seen (turn_of (length r.facts.all.history) r.facts.turn.kept r.facts.turn.marks) r.sound c small
        (ap (λ (ks : List Kept). is_kept_chunk ks c) (kept_is r.facts.turn is) ∙ away))

    pub may_write : (at : ℕ) (half : Half) (x i : ℕ) → i ≡ half_at at half → chunk_of at < size.chunks → is_kept_cell (kept_in m.0.turn) at ≡ false → Allows Rule slots id m i (λ _. x) (λ _. stored (step slots i x 0 none) m x)
    may_write at half x i place small away = may_store i x (let l = past at half in omega arith)
        (λ s r is. subst (λ (j : ℕ). Sound (core_size size) (set s.words j x) r.facts.stages r.facts.seen (turn_of (length r.facts.all.history) r.facts.turn.kept r.facts.turn.marks)) (sym place)
        (writes (core_size size) s.words r.facts.stages r.facts.seen (turn_of (length r.facts.all.history) r.facts.turn.kept r.facts.turn.marks) r.sound at half x small
        (ap (λ (ks : List Kept). is_kept_cell ks at) (kept_is r.facts.turn is) ∙ away)))

  -- the turn loads a word past the pins
  pub may_recall : (slots id i : ℕ) (m : Me (Unit {0}) (View O E)) → has_turn m.0.turn ≡ true → 64 < i → Allows Rule slots id m i (λ n. n) (recalled (step slots i 0 0 none) m)
  may_recall slots id i m has far s r deep at small = let t = turn_there m.0.turn has in (
    m.0,
    keeps,
    tt,
    subst (λ (x : List ℕ × List (View O E)). Rule record { words = x.0; homes = s.homes; views = x.1 }) (λ k. (sym (set-get_or s.words i 0) k, sym (set_again s.views id m.0 at) k)) r,
    (refl, r.mirror i far ∙ ap (λ (t : TurnView). get_or t.words i 0) (sym (the_turn applied lawful permitted stands size s r id m.0 t.0 at t.1).turn_is) ∙ sym (ap (λ (o : Option TurnView). get_or (words_of o) i 0) t.1)),
  )
