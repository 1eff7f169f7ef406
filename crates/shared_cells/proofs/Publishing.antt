-- The step that publishes keeps the rule.
use Rattle.std.proofs.Common.{◌≡◌, ◌≢◌, ◌⊎◌, ℕ, ◌+◌, ◌%◌, ◌<◌, ◌≤◌, max, List, [], ◌∷◌, ◌++◌, length, take, get_or, set, replicate, Bool, cond, refl, sym, ap, ◌∙◌, subst, arith, Option, Some, length-set, length-append, get_or-set_same, get_or-set_other, eq-eqb, ne_eqb}
use Rattle.std.specs.Prelude.{◌==◌}
use Rattle.std.specs.List.{All, Contains}
use Rattle.std.proofs.lemmas.List.{append-nil, take-append-le, take_all}
use Rattle.std.proofs.lemmas.List.Elements.{All-push, All-weaker, Contains-append_left, filter-append}
use mathlib.Core.Logic.{dite}
use mathlib.Core.Option.{some, none}
use native.Mathlib.Decide.{dec_le}
use lib.ListN.{get_elem?}
use Rattle.atomic_table.specs.Table.{State, Me, Allows, step, keeps}
use Rattle.pin_core.specs.declared.kept.CellAt.{CellAt}
use Rattle.pin_core.specs.declared.kept.Kept.{Kept}
use Rattle.pin_core.specs.declared.kept.Mark.TheVariants as mark
use Rattle.pin_core.specs.declared.kept.Stage.TheVariants as stage
use Rattle.pin_core.specs.Words.{pin_at, version_of, current_word}
use Rattle.pin_core.specs.Sound.{Sound, turn_of, stage_at}
use Rattle.pin_core.proofs.Pins.{learns}
use Rattle.pin_core.proofs.Cells.{publishes}
use Rattle.shared_cells.specs.declared.view.TableSize.{TableSize}
use Rattle.shared_cells.specs.declared.view.Entry.{Entry}
use Rattle.shared_cells.specs.declared.view.Naming.{Naming}
use Rattle.shared_cells.specs.declared.view.Seen.{Seen}
use Rattle.shared_cells.specs.declared.view.Progress.{Progress}
use Rattle.shared_cells.specs.declared.view.Progress.TheVariants as progress
use Rattle.shared_cells.specs.declared.view.PassView.{PassView}
use Rattle.shared_cells.specs.declared.view.TurnView.{TurnView}
use Rattle.shared_cells.specs.declared.view.View.{View}
use Rattle.shared_cells.specs.History.{OpeningFits, IsPartOf, entries_by, entry_of, with_entry, version_after}
use Rattle.shared_cells.specs.Views.{core_size, root_of, kept_of, published_turn, published_view, has_turn}
use Rattle.shared_cells.specs.Rule.{Facts, stage_of, ProgressFits, NamingFits, OwnFits, HasAll, Knows, VersionsFit, IsSoundTable}
use Rattle.shared_cells.specs.Steps.{IsImage, CanPublish, published}
use Rattle.shared_cells.proofs.Lists.{seats_stay, begins_longer, begins_itself}
use Rattle.shared_cells.proofs.Holding.{held_set}
use Rattle.shared_cells.proofs.Knowing.{knows_else, the_turn, the_pass}
use Rattle.shared_cells.proofs.Images.{image_stays, root_of_word}

-- pins stay when CUR changes, so namings stay true
namings_stay : (words : List ℕ) (word : ℕ) (pinned : ℕ → List ℕ) (namings : List Naming) → All (NamingFits words pinned) namings → All (NamingFits (set words 0 word) pinned) namings
namings_stay words word pinned = All-weaker (NamingFits words pinned) (NamingFits (set words 0 word) pinned) (λ n fits. subst (λ (pin : ℕ). Contains (pinned n.pass) n.version ⊎ ((2 ≤ pin) × (version_of pin ≡ n.version))) (sym (get_or-set_other words 0 (pin_at n.pass) word 0 (λ e. omega arith))) fits)

module _ {O E : Type 0} (applied : O → E → O) (lawful : O → O → Type 0) (permitted : E → Type 0) (stands : List CellAt → Option ℕ → O → Type 0) (size : TableSize) where
  abbrev Rule : State (Unit {0}) (View O E) → Type 0
  Rule = IsSoundTable applied lawful permitted stands size

  -- the facts after the pass p has published
  module _ (f : Facts O E) (p : ℕ) (change : E) (new : Kept) where
    abbrev e : Entry E
    e = entry_of p change

    abbrev after : Facts O E
    after = record f { turn = published_turn f.turn new; all = with_entry f.all (entry_of p change); seen = set f.seen p (length f.all.history + 1) }

    entries_more : entries_by p f.all.history ++ entry_of p change ∷ [] ≡ entries_by p (f.all.history ++ entry_of p change ∷ [])
    entries_more = sym (filter-append (λ (x : Entry E). x.author == p) f.all.history (entry_of p change ∷ []) ∙ ap (λ (b : Bool). entries_by p f.all.history ++ cond b (entry_of p change ∷ []) []) (eq-eqb p p refl))

    entries_same : (q : ℕ) → q ≢ p → entries_by q f.all.history ≡ entries_by q (f.all.history ++ entry_of p change ∷ [])
    entries_same q other = sym (filter-append (λ (x : Entry E). x.author == q) f.all.history (entry_of p change ∷ [])
        ∙ ap (λ (b : Bool). entries_by q f.all.history ++ cond b (entry_of p change ∷ []) []) (ne_eqb p q (λ same. other (sym same))) ∙ append-nil (entries_by q f.all.history))

    longer : (part : Seen O E) → IsPartOf f.all part → IsPartOf (with_entry f.all (entry_of p change)) part
    longer part s = record { opening = s.opening; history = begins_longer f.all.history part.history (entry_of p change) s.history; namings = s.namings }

    kept_grows : (pinned : List ℕ) (g : Progress) → ProgressFits f.turn.kept pinned g → ProgressFits (f.turn.kept ++ new ∷ []) pinned g
    kept_grows pinned progress.Idle fits = tt
    kept_grows pinned progress.Entered fits = tt
    kept_grows pinned (progress.Looked word) fits = tt
    kept_grows pinned (progress.Pinned k) fits = (Contains-append_left f.turn.kept (new ∷ []) k fits.0, fits.1)

    other_fits : (me j : ℕ) → f.owner p ≡ me → j ≢ me → (seen : Seen O E) (g : Progress) (own : PassView E) → OwnFits size f j seen g own → OwnFits size after j seen g own
    other_fits me j mine other seen g own fits = record {
      made = fits.made;
      at = fits.at;
      entries = fits.entries ∙ entries_same own.number apart;
      pinned = fits.pinned;
      seen_length = get_or-set_other f.seen p own.number (length f.all.history + 1) 0 apart ∙ fits.seen_length;
      stage_is = fits.stage_is;
      kept = kept_grows own.pinned g fits.kept;
      told = fits.told;
      chunks = fits.chunks;
    }
      where
        apart : own.number ≢ p
        apart same = other (sym fits.at ∙ (ap f.owner same ∙ mine))

    long : length (f.all.history ++ entry_of p change ∷ []) ≡ length f.all.history + 1
    long = length-append f.all.history (entry_of p change ∷ [])

    module _ (o : O) (newest : All (λ k. k.version ≤ length f.all.history) f.turn.kept) (next : new.version ≡ length f.all.history + 1)
        (good : lawful o (version_after applied o (f.all.history ++ entry_of p change ∷ []))) (stood : stands new.image new.root (version_after applied o (f.all.history ++ entry_of p change ∷ []))) where
      all_lawful : ((n : ℕ) → n ≤ length f.all.history → lawful o (version_after applied o (take n f.all.history))) → (n : ℕ) → n ≤ length (f.all.history ++ entry_of p change ∷ []) → lawful o (version_after applied o (take n (f.all.history ++ entry_of p change ∷ [])))
      all_lawful was n l = dite (dec_le n (length f.all.history))
          (λ old. subst (λ (h : List (Entry E)). lawful o (version_after applied o h)) (sym (take-append-le n f.all.history (entry_of p change ∷ []) old)) (was n old))
          (λ late. subst (λ (h : List (Entry E)). lawful o (version_after applied o h)) (sym (take_all n (f.all.history ++ entry_of p change ∷ []) (let m = long in omega arith))) good)

      all_stand : All (λ k. stands k.image k.root (version_after applied o (take k.version f.all.history))) f.turn.kept → All (λ k. stands k.image k.root (version_after applied o (take k.version (f.all.history ++ entry_of p change ∷ [])))) (f.turn.kept ++ new ∷ [])
      all_stand was = All-push (λ k. stands k.image k.root (version_after applied o (take k.version (f.all.history ++ entry_of p change ∷ [])))) f.turn.kept new
          (λ i d l. let k = get_or f.turn.kept i d in subst (λ (h : List (Entry E)). stands k.image k.root (version_after applied o h)) (sym (take-append-le k.version f.all.history (entry_of p change ∷ []) (newest i d l))) (was i d l))
          (subst (λ (h : List (Entry E)). stands new.image new.root (version_after applied o h)) (sym (take_all new.version (f.all.history ++ entry_of p change ∷ []) (let m = long in omega arith))) stood)

      versions_open : VersionsFit applied lawful permitted stands size f (Some o) → VersionsFit applied lawful permitted stands size after (Some o)
      versions_open was = (all_lawful was.0, all_stand was.1)

    versions_on : (o : O) (now : Option O) → now ≡ Some o → All (λ k. k.version ≤ length f.all.history) f.turn.kept → new.version ≡ length f.all.history + 1 → lawful o (version_after applied o (f.all.history ++ entry_of p change ∷ []))
        → stands new.image new.root (version_after applied o (f.all.history ++ entry_of p change ∷ [])) → VersionsFit applied lawful permitted stands size f now → VersionsFit applied lawful permitted stands size after now
    versions_on o now is newest next good stood was = subst (VersionsFit applied lawful permitted stands size after) (sym is) (versions_open o newest next good stood (subst (VersionsFit applied lawful permitted stands size f) is was))

  module _ (s : State (Unit {0}) (View O E)) (r : Rule s) (id : ℕ) (v : View O E) (at : get_elem? s.views id ≡ some v) (change : Option E) (root : Option ℕ) (image : List CellAt) (c : CanPublish applied lawful permitted stands size v change root image) where
    h : HasAll r.facts id v.seen v.progress c.turn
    h = the_turn applied lawful permitted stands size s r id v c.turn at c.is_turn

    mine : OwnFits size r.facts id v.seen v.progress c.own
    mine = the_pass applied lawful permitted stands size s r id v c.own at c.is_pass

    abbrev p : ℕ
    p = c.own.number

    abbrev new : Kept
    new = kept_of (length v.seen.history + 1) root image

    abbrev entry : Entry E
    entry = entry_of c.own.number c.entry

    abbrev now : Facts O E
    now = after r.facts c.own.number c.entry (kept_of (length v.seen.history + 1) root image)

    next : length v.seen.history + 1 ≡ length r.facts.all.history + 1
    next = ap (λ (x : Seen O E). length x.history + 1) (the_turn applied lawful permitted stands size s r id v c.turn at c.is_turn).seen_is

    opening_now : r.facts.all.opening ≡ Some c.opening
    opening_now = sym (ap (λ (x : Seen O E). x.opening) (the_turn applied lawful permitted stands size s r id v c.turn at c.is_turn).seen_is) ∙ c.is_open

    within : (c.own.number < size.passes) × (c.own.number < length r.facts.seen)
    within = let l = (the_pass applied lawful permitted stands size s r id v c.own at c.is_pass).made in let m = r.made in let w = r.sound.watched in (omega arith, omega arith)

    idle_stage : stage_at r.facts.stages c.own.number ≡ stage.Idle
    idle_stage = (the_pass applied lawful permitted stands size s r id v c.own at c.is_pass).stage_is ∙ ap stage_of (the_turn applied lawful permitted stands size s r id v c.turn at c.is_turn).idle

    image_now : IsImage (core_size size) s.words root image
    image_now = image_stays (core_size size) c.turn.words s.words root image (λ i l. r.mirror i l ∙ ap (λ (t : TurnView). get_or t.words i 0) (sym h.turn_is)) c.fits

    abbrev word : ℕ
    word = current_word (length v.seen.history + 1) root

    -- the pin core's lists, version n being the current one
    abbrev core : List ℕ → ℕ → ℕ → Type 0
    core seen n marks = Sound (core_size size) (set s.words 0 word) r.facts.stages seen (turn_of n (r.facts.turn.kept ++ new ∷ []) (replicate marks mark.Blank))

    core_now : core r.facts.seen (length v.seen.history + 1) size.passes
    core_now = publishes (core_size size) s.words r.facts.stages r.facts.seen (turn_of (length r.facts.all.history) r.facts.turn.kept r.facts.turn.marks) r.sound new next c.few image_now.rooted image_now.once image_now.unchanged image_now.given

    core_seen : core (set r.facts.seen c.own.number (length r.facts.all.history + 1)) (length v.seen.history + 1) size.passes
    core_seen = subst (λ (n : ℕ). core (set r.facts.seen c.own.number n) (length v.seen.history + 1) size.passes)
        (let l : get_or r.facts.seen c.own.number 0 ≤ length r.facts.all.history = r.sound.not_ahead c.own.number within.0 in let e : max (get_or r.facts.seen c.own.number 0) (length r.facts.all.history + 1) ≡ length r.facts.all.history + 1 = omega arith in e)
        (learns (core_size size) (set s.words 0 word) r.facts.stages r.facts.seen (turn_of (length v.seen.history + 1) (r.facts.turn.kept ++ new ∷ []) (replicate size.passes mark.Blank)) core_now c.own.number (length r.facts.all.history + 1) within.0 idle_stage (let e = next in omega arith))

    sound_now : core (set r.facts.seen c.own.number (length r.facts.all.history + 1)) (length (r.facts.all.history ++ entry ∷ [])) (length r.facts.turn.marks)
    sound_now = subst (λ (n : ℕ). core (set r.facts.seen c.own.number (length r.facts.all.history + 1)) n (length r.facts.turn.marks)) (next ∙ sym (length-append r.facts.all.history (entry ∷ [])))
        (subst (λ (n : ℕ). core (set r.facts.seen c.own.number (length r.facts.all.history + 1)) (length v.seen.history + 1) n) (sym r.sound.marked) core_seen)

    mine_now : OwnFits size now id (with_entry v.seen entry) v.progress (record c.own { entries = c.own.entries ++ entry ∷ [] })
    mine_now = record {
      made = mine.made;
      at = mine.at;
      entries = ap (λ (es : List (Entry E)). es ++ entry ∷ []) mine.entries ∙ entries_more r.facts c.own.number c.entry new;
      pinned = mine.pinned;
      seen_length = get_or-set_same r.facts.seen c.own.number (length r.facts.all.history + 1) 0 within.1 ∙ sym (length-append v.seen.history (entry ∷ []) ∙ next);
      stage_is = mine.stage_is;
      kept = subst (ProgressFits (r.facts.turn.kept ++ new ∷ []) c.own.pinned) (sym h.idle) tt;
      told = mine.told;
      chunks = mine.chunks;
    }

    turn_now : HasAll now id (with_entry v.seen entry) v.progress (published_turn c.turn new)
    turn_now = record { writer = h.writer; turn_is = ap (λ (t : TurnView). published_turn t new) h.turn_is; seen_is = ap (λ (x : Seen O E). with_entry x entry) h.seen_is; idle = h.idle }

    knows_now : Knows size now id (published_view v c.turn c.own c.entry root image)
    knows_now = let k = r.seats id v at in record {
      seen = subst (λ (x : Seen O E). IsPartOf (with_entry x entry) (with_entry v.seen entry)) h.seen_is (record { opening = subst (λ (o : Option O). OpeningFits v.seen.opening o (with_entry v.seen entry)) (sym c.is_open) c.is_open; history = begins_itself (v.seen.history ++ entry ∷ []); namings = begins_itself v.seen.namings });
      told = longer r.facts c.own.number c.entry new v.told k.told;
      pass = mine_now;
      turn = turn_now;
    }

    publish_keeps : Rule record { words = set s.words 0 word; homes = s.homes; views = set s.views id (published_view v c.turn c.own c.entry root image) }
    publish_keeps = record {
      facts = now;
      made = r.made;
      authors = All-push (λ (x : Entry E). x.author < r.facts.turn.made) r.facts.all.history entry r.authors mine.made;
      allowed = All-push (λ (x : Entry E). permitted x.change) r.facts.all.history entry r.allowed c.allowed;
      sound = sound_now;
      seats = seats_stay (Knows size now) s.views id (published_view v c.turn c.own c.entry root image) knows_now
          (λ j u other e. knows_else size r.facts now j u (λ same. other (same ∙ sym h.writer)) (longer r.facts c.own.number c.entry new) (other_fits r.facts c.own.number c.entry new id j mine.at other u.seen u.progress) (r.seats j u e));
      held = held_set s.views r.facts.writer id v (published_view v c.turn c.own c.entry root image) r.held at (sym (ap has_turn c.is_turn));
      versions = versions_on r.facts c.own.number c.entry new c.opening r.facts.all.opening opening_now r.sound.newest next
          (subst (λ (x : Seen O E). lawful c.opening (version_after applied c.opening (with_entry x entry).history)) h.seen_is c.good)
          (subst (λ (x : Seen O E). stands image root (version_after applied c.opening (with_entry x entry).history)) h.seen_is c.stood) r.versions;
      namings = namings_stay s.words word r.facts.pinned r.facts.all.namings r.namings;
      namers = r.namers;
      copied = r.copied ∙ sym (length-set s.words 0 word);
      mirror = λ i l. get_or-set_other s.words 0 i word 0 (λ e. omega arith) ∙ r.mirror i l;
    }

  pub may_publish : (slots id : ℕ) (m : Me (Unit {0}) (View O E)) (change : Option E) (root : Option ℕ) (image : List CellAt) (word : ℕ) (c : CanPublish applied lawful permitted stands size m.0 change root image) → word ≡ current_word (length m.0.seen.history + 1) root
      → Allows Rule slots id m 0 (λ _. word) (λ _. published change image (step slots 0 word 0 none) m word)
  may_publish slots id m change root image word c is s r deep at small = (
    published_view m.0 c.turn c.own c.entry root image,
    keeps,
    tt,
    subst (λ (x : ℕ). Rule record { words = set s.words 0 x; homes = s.homes; views = set s.views id (published_view m.0 c.turn c.own c.entry root image) }) (sym is)
        (publish_keeps s r id m.0 at change root image c),
    ((c.turn, c.own, c.entry, c.is_turn, c.is_pass, c.is_change, ap (λ (x : Option ℕ). published_view m.0 c.turn c.own c.entry x image) (sym told)), refl),
  )
    where
      told : root_of (word % 16777216) ≡ root
      told = ap (λ (x : ℕ). root_of (x % 16777216)) is ∙ root_of_word (core_size size) c.turn.words (length m.0.seen.history + 1) root image (let l = r.sound.small in l.1) c.fits
