-- The step that opens an index keeps the rule.
use Rattle.std.proofs.Common.{◌≡◌, ◌≢◌, ℕ, ◌%◌, ◌<◌, ◌≤◌, List, [], ◌∷◌, length, take, get_or, set, replicate, false, true≢false, refl, sym, ap, ◌∙◌, subst, arith, Option, Some, None, length-set, get_or-set_same, get_or-set_other}
use Rattle.std.specs.List.{All, AllPairs}
use Rattle.std.proofs.lemmas.List.{length-replicate, get_or-replicate}
use Rattle.std.proofs.lemmas.List.Elements.{All-nil}
use Rattle.std.proofs.Math.Seq.{take-nil}
use mathlib.Core.Option.{some, none}
use lib.ListN.{get_elem?}
use Rattle.atomic_table.specs.Table.{State, Me, Allows, step, keeps}
use Rattle.pin_core.specs.declared.kept.CellAt.{CellAt}
use Rattle.pin_core.specs.declared.kept.Kept.{Kept}
use Rattle.pin_core.specs.declared.kept.Mark.TheVariants as mark
use Rattle.pin_core.specs.declared.kept.Stage.{Stage}
use Rattle.pin_core.specs.declared.kept.Stage.TheVariants as stage
use Rattle.pin_core.specs.Words.{Size, pin_at, word_of, current_word}
use Rattle.pin_core.specs.Sound.{Turn, Sound, turn_of, stage_at, HasRoot, AgreesWith, IsGiven, PinFits, MarkFits}
use Rattle.pin_core.proofs.Pins.{images_stay, chunks_stay}
use Rattle.shared_cells.specs.declared.view.TableSize.{TableSize}
use Rattle.shared_cells.specs.declared.view.Seen.{Seen}
use Rattle.shared_cells.specs.declared.view.Progress.{Progress}
use Rattle.shared_cells.specs.declared.view.Progress.TheVariants as progress
use Rattle.shared_cells.specs.declared.view.PassView.{PassView}
use Rattle.shared_cells.specs.declared.view.TurnView.{TurnView}
use Rattle.shared_cells.specs.declared.view.View.{View}
use Rattle.shared_cells.specs.History.{OpeningFits, IsPartOf, version_after}
use Rattle.shared_cells.specs.Views.{core_size, is_told, root_of, kept_of, opened_turn, opened_view, has_turn}
use Rattle.shared_cells.specs.Rule.{Facts, stage_of, ProgressFits, OwnFits, PassFits, HasAll, Knows, NamingFits, VersionsFit, IsSoundTable}
use Rattle.shared_cells.specs.Steps.{IsImage, CanOpen, opened}
use Rattle.shared_cells.proofs.Lists.{seats_stay}
use Rattle.shared_cells.proofs.Holding.{held_set}
use Rattle.shared_cells.proofs.Knowing.{knows_else, the_turn}
use Rattle.shared_cells.proofs.Images.{one, image_stays, root_of_word}

-- while all passes are idle, version 0 may get any root and image
pub opens : (z : Size) (words : List ℕ) (stages : List Stage) (seen : List ℕ) (t : Turn) (h : Sound z words stages seen t) → ((p : ℕ) → p < z.passes → stage_at stages p ≡ stage.Idle) → t.version ≡ 0
    → (root : Option ℕ) (image : List CellAt) → IsImage z words root image → Sound z (set words 0 (current_word 0 root)) stages seen (turn_of 0 (kept_of 0 root image ∷ []) (replicate z.passes mark.Blank))
opens z words stages seen t h idle start root image fits = record {
  small = h.small;
  wide = length-set words 0 (word_of new) ∙ h.wide;
  staged = h.staged;
  watched = h.watched;
  marked = length-replicate z.passes mark.Blank;
  few = omega arith;
  current = (kept_of 0 root image, (0, omega arith, refl), refl, get_or-set_same words 0 (word_of new) 0 (let w = h.wide in omega arith));
  newest = one (λ k. k.version ≤ 0) new (omega arith);
  rising = λ i j d l within. absurd (omega arith);
  rooted = one (λ k. HasRoot k.root k.image) new fits.rooted;
  once = one (λ k. AllPairs (λ c d. c.at ≢ d.at) k.image) new fits.once;
  unchanged = images_stay words (set words 0 (word_of new)) (new ∷ []) beyond (one (λ k. All (AgreesWith words) k.image) new fits.unchanged);
  given = chunks_stay z words (set words 0 (word_of new)) (new ∷ []) beyond (one (λ k. All (IsGiven z words) k.image) new fits.given);
  not_ahead = λ p l. subst (λ (n : ℕ). get_or seen p 0 ≤ n) start (h.not_ahead p l);
  pins = λ p l. subst (PinFits (new ∷ []) (get_or seen p 0) (get_or (set words 0 (word_of new)) (pin_at p) 0)) (sym (idle p l))
      (get_or-set_other words 0 (pin_at p) (word_of new) 0 (λ e. omega arith) ∙ subst (PinFits t.kept (get_or seen p 0) (get_or words (pin_at p) 0)) (idle p l) (h.pins p l));
  marks = λ p l. subst (MarkFits (new ∷ []) (get_or (set words 0 (word_of new)) 0 0) (get_or (set words 0 (word_of new)) (pin_at p) 0) (stage_at stages p)) (sym (get_or-replicate z.passes p mark.Blank mark.Blank l)) tt;
}
  where
    new : Kept
    new = kept_of 0 root image

    beyond : (i : ℕ) → 64 < i → get_or (set words 0 (current_word 0 root)) i 0 ≡ get_or words i 0
    beyond i l = get_or-set_other words 0 i (current_word 0 root) 0 (λ e. omega arith)

-- an idle pass has nothing pinned
idle_fits : (kept : List Kept) (pinned : List ℕ) (p : Progress) → stage_of p ≡ stage.Idle → ProgressFits kept pinned p
idle_fits kept pinned progress.Idle e = tt
idle_fits kept pinned progress.Entered e = tt
idle_fits kept pinned (progress.Looked word) e = tt
idle_fits kept pinned (progress.Pinned k) e = absurd (cc)

untold : {O : Type 0} (o : Option O) → is_told o ≡ false → o ≡ None
untold None e = refl
untold (Some o) e = absurd (true≢false e)

module _ {O E : Type 0} (applied : O → E → O) (lawful : O → O → Type 0) (permitted : E → Type 0) (stands : List CellAt → Option ℕ → O → Type 0) (size : TableSize) where
  abbrev Rule : State (Unit {0}) (View O E) → Type 0
  Rule = IsSoundTable applied lawful permitted stands size

  module _ (s : State (Unit {0}) (View O E)) (r : Rule s) (id : ℕ) (v : View O E) (at : get_elem? s.views id ≡ some v) (turn : TurnView) (is_turn : v.turn ≡ Some turn) (unopened : v.seen.opening ≡ None)
      (o : O) (root : Option ℕ) (image : List CellAt) (fits : IsImage (core_size size) turn.words root image) (good : lawful o o) (stood : stands image root o) where
    h : HasAll r.facts id v.seen v.progress turn
    h = the_turn applied lawful permitted stands size s r id v turn at is_turn

    no_opening : r.facts.all.opening ≡ None
    no_opening = sym (ap (λ (all : Seen O E). all.opening) (the_turn applied lawful permitted stands size s r id v turn at is_turn).seen_is) ∙ unopened

    before : VersionsFit applied lawful permitted stands size r.facts None
    before = subst (VersionsFit applied lawful permitted stands size r.facts) no_opening r.versions

    no_history : r.facts.all.history ≡ []
    no_history = ap (λ (all : Seen O E). all.history) before.0

    abbrev open_facts : Facts O E
    open_facts = record r.facts { turn = opened_turn r.facts.turn root image; all = record r.facts.all { opening = Some o } }

    own_fits : (j : ℕ) (seen : Seen O E) (p : Progress) (own : PassView E) → OwnFits size r.facts j seen p own → OwnFits size open_facts j seen p own
    own_fits j seen p own own_was = record {
      made = own_was.made;
      at = own_was.at;
      entries = own_was.entries;
      pinned = own_was.pinned;
      seen_length = own_was.seen_length;
      stage_is = own_was.stage_is;
      kept = idle_fits (kept_of 0 root image ∷ []) own.pinned p (sym own_was.stage_is ∙ before.1 own.number (let l = own_was.made in let m = r.made in omega arith));
      told = own_was.told;
      chunks = own_was.chunks;
    }

    pass_fits : (p : Option (PassView E)) → PassFits size r.facts id v.seen v.progress p → PassFits size open_facts id (record v.seen { opening = Some o }) v.progress p
    pass_fits None was = was
    pass_fits (Some own) was = let now = own_fits id v.seen v.progress own was in
        record { made = now.made; at = now.at; entries = now.entries; pinned = now.pinned; seen_length = now.seen_length; stage_is = now.stage_is; kept = now.kept; told = tt; chunks = now.chunks }

    -- what was seen before the opening is nothing
    part_fits : (part : Seen O E) (x : Option O) → OpeningFits r.facts.all.opening x part → OpeningFits (Some o) x part
    part_fits part None fits_now = fits_now
    part_fits part (Some y) fits_now = absurd (some_opening y fits_now)
      where
        some_opening : (y : O) → r.facts.all.opening ≡ Some y → ⊥
        some_opening y e = let none_is = no_opening in cc

    longer : (part : Seen O E) → IsPartOf r.facts.all part → IsPartOf (record r.facts.all { opening = Some o }) part
    longer part p = record { opening = part_fits part part.opening p.opening; history = p.history; namings = p.namings }

    mine_fits : IsPartOf (record r.facts.all { opening = Some o }) (record v.seen { opening = Some o })
    mine_fits = record { opening = refl; history = (r.seats id v at).seen.history; namings = (r.seats id v at).seen.namings }

    image_now : IsImage (core_size size) s.words root image
    image_now = image_stays (core_size size) turn.words s.words root image (λ i l. r.mirror i l ∙ ap (λ (t : TurnView). get_or t.words i 0) (sym h.turn_is)) fits

    sound_now : Sound (core_size size) (set s.words 0 (current_word 0 root)) r.facts.stages r.facts.seen (turn_of (length r.facts.all.history) (kept_of 0 root image ∷ []) (replicate (length r.facts.turn.marks) mark.Blank))
    sound_now = subst (λ (n : ℕ). Sound (core_size size) (set s.words 0 (current_word 0 root)) r.facts.stages r.facts.seen (turn_of n (kept_of 0 root image ∷ []) (replicate (length r.facts.turn.marks) mark.Blank))) (sym (ap length no_history))
        (subst (λ (n : ℕ). Sound (core_size size) (set s.words 0 (current_word 0 root)) r.facts.stages r.facts.seen (turn_of 0 (kept_of 0 root image ∷ []) (replicate n mark.Blank))) (sym r.sound.marked)
        (opens (core_size size) s.words r.facts.stages r.facts.seen (turn_of (length r.facts.all.history) r.facts.turn.kept r.facts.turn.marks) r.sound before.1 (ap length no_history) root image image_now))

    versions_now : VersionsFit applied lawful permitted stands size open_facts (Some o)
    versions_now = (
      (λ n l. subst (λ history. lawful o (version_after applied o (take n history))) (sym no_history) (subst (λ history. lawful o (version_after applied o history)) (sym (take-nil n)) good)),
      one (λ k. stands k.image k.root (version_after applied o (take k.version r.facts.all.history))) (kept_of 0 root image) (subst (λ history. stands image root (version_after applied o (take 0 history))) (sym no_history) stood),
    )

    opened_keeps : Rule record { words = set s.words 0 (current_word 0 root); homes = s.homes; views = set s.views id (opened_view v turn o root image) }
    opened_keeps = record {
      facts = open_facts;
      made = r.made;
      authors = r.authors;
      allowed = r.allowed;
      sound = sound_now;
      seats = seats_stay (Knows size open_facts) s.views id (opened_view v turn o root image)
          (let k = r.seats id v at in record {
            seen = mine_fits;
            told = longer v.told k.told;
            pass = pass_fits v.pass k.pass;
            turn = record { writer = h.writer; turn_is = ap (λ (t : TurnView). opened_turn t root image) h.turn_is; seen_is = ap (λ (all : Seen O E). record all { opening = Some o }) h.seen_is; idle = h.idle };
          })
          (λ j u other e. knows_else size r.facts open_facts j u (λ same. other (same ∙ sym h.writer)) longer (own_fits j u.seen u.progress) (r.seats j u e));
      held = held_set s.views r.facts.writer id v (opened_view v turn o root image) r.held at (sym (ap has_turn is_turn));
      versions = versions_now;
      namings = subst (λ (all : Seen O E). All (NamingFits (set s.words 0 (current_word 0 root)) r.facts.pinned) all.namings) (sym before.0) (All-nil (NamingFits (set s.words 0 (current_word 0 root)) r.facts.pinned));
      namers = r.namers;
      copied = r.copied ∙ sym (length-set s.words 0 (current_word 0 root));
      mirror = λ i l. get_or-set_other s.words 0 i (current_word 0 root) 0 (λ e. omega arith) ∙ r.mirror i l;
    }

  pub may_open : (slots id : ℕ) (m : Me (Unit {0}) (View O E)) (version : Option O) (root : Option ℕ) (image : List CellAt) (word : ℕ) → is_told m.0.seen.opening ≡ false → (c : CanOpen applied lawful permitted stands size m.0 version root image) → word ≡ current_word 0 root
      → Allows Rule slots id m 0 (λ _. word) (λ _. opened version image (step slots 0 word 0 none) m word)
  may_open slots id m version root image word new c is s r deep at small = (
    opened_view m.0 c.turn c.opening root image,
    keeps,
    tt,
    subst (λ (x : ℕ). Rule record { words = set s.words 0 x; homes = s.homes; views = set s.views id (opened_view m.0 c.turn c.opening root image) }) (sym is)
        (opened_keeps s r id m.0 at c.turn c.is_turn (untold m.0.seen.opening new) c.opening root image c.fits c.good c.stood),
    ((c.turn, c.opening, c.is_turn, c.is_version, ap (λ (x : Option ℕ). opened_view m.0 c.turn c.opening x image) (sym told)), refl),
  )
    where
      told : root_of (word % 16777216) ≡ root
      told = ap (λ (x : ℕ). root_of (x % 16777216)) is ∙ root_of_word (core_size size) c.turn.words 0 root image (let l = r.sound.small in l.1) c.fits
