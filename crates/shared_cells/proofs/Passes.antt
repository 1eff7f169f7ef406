-- What a pass does on its pin keeps the rule, and tells what it has pinned.
use Rattle.std.proofs.Common.{◌≡◌, ◌≢◌, ◌⊎◌, inl, inr, ⊎_elim, ℕ, ◌+◌, ◌-◌, ◌*◌, ◌%◌, ◌<◌, ◌≤◌, eqb, List, [], ◌∷◌, ◌++◌, length, take, drop, get_or, set, Bool, true, false, true≢false, cond, refl, sym, ap, ◌∙◌, subst, arith, Option, Some, None, append-nil, length-append, get_or-set_same, get_or-set_other, ne_eqb}
use Rattle.std.specs.List.{All, Contains}
use Rattle.std.proofs.lemmas.List.{set-get_or, take_all, take_at, take-append-drop, append_assoc, length-take}
use Rattle.std.proofs.lemmas.List.Elements.{All-contains, All-nil, All-take, All-weaker, Contains-push, Contains-append_left}
use mathlib.Core.Logic.{dite}
use mathlib.Core.Option.{some, none}
use native.Mathlib.Decide.{ℕ_discrete}
use prog.Atomic.{either}
use lib.ListN.{get_elem?}
use Rattle.atomic_table.specs.Table.{State, Me, Step, Allows, step, keeps}
use Rattle.atomic_table.proofs.Lists.{set_again}
use Rattle.pin_core.specs.declared.kept.CellAt.{CellAt}
use Rattle.pin_core.specs.declared.kept.Kept.{Kept}
use Rattle.pin_core.specs.declared.kept.Stage.{Stage}
use Rattle.pin_core.specs.declared.kept.Stage.TheVariants as stage
use Rattle.pin_core.specs.Words.{pin_at, pin_of, version_of}
use Rattle.pin_core.specs.Sound.{Sound, turn_of, stage_at, HasRoot, AgreesWith, IsGiven, Names, PinFits}
use Rattle.pin_core.specs.Machine.{exchanged}
use Rattle.pin_core.proofs.Pins.{enters, looks, leaves, settles, settled_names, current_fits, kept_root_fits, version_of_pin}
use Rattle.shared_cells.specs.declared.view.TableSize.{TableSize}
use Rattle.shared_cells.specs.declared.view.Entry.{Entry}
use Rattle.shared_cells.specs.declared.view.Naming.{Naming}
use Rattle.shared_cells.specs.declared.view.Seen.{Seen}
use Rattle.shared_cells.specs.declared.view.Progress.{Progress}
use Rattle.shared_cells.specs.declared.view.Progress.TheVariants as progress
use Rattle.shared_cells.specs.declared.view.PassView.{PassView}
use Rattle.shared_cells.specs.declared.view.View.{View}
use Rattle.shared_cells.specs.History.{StartsWith, OpeningFits, IsPartOf, version_after}
use Rattle.shared_cells.specs.Views.{core_size, number_of, has_turn, is_told, is_pinned, chunks_of, pinned_image, root_of, with_progress, with_pinned, with_more, pinned_view}
use Rattle.shared_cells.specs.Rule.{Facts, stage_of, ProgressFits, PinNames, NamingFits, IdleUnlessTold, OwnFits, PassFits, TurnFits, Knows, VersionsFit, IsSoundTable}
use Rattle.shared_cells.specs.Steps.{exchanged_by, IsWordOf, entered, glanced, left, read, Pins, Settles, settled, Sights, sighted}
use Rattle.shared_cells.proofs.Lists.{put, put_here, put_else, seats_stay}
use Rattle.shared_cells.proofs.Holding.{held_set}
use Rattle.shared_cells.proofs.Knowing.{knows_still, the_pass}
use Rattle.shared_cells.proofs.Images.{root_of_kept}
use Rattle.shared_cells.proofs.Seats.{no_turn, pass_there, seen_rises, told_there}

-- a choice, as the table's exchange and as the pin core write it
pub either_is : (b : Bool) (x y : ℕ) → either b x y ≡ cond b x y
either_is true x y = refl
either_is false x y = refl

module _ {O E : Type 0} (applied : O → E → O) (lawful : O → O → Type 0) (permitted : E → Type 0) (stands : List CellAt → Option ℕ → O → Type 0) (size : TableSize) where
  abbrev Rule : State (Unit {0}) (View O E) → Type 0
  Rule = IsSoundTable applied lawful permitted stands size

  -- the facts once a pass has come so far, has seen so much, and has pinned these versions
  abbrev moved : Facts O E → ℕ → Stage → ℕ → List ℕ → Facts O E
  moved f p g n pinned = record f { stages = set f.stages p g; seen = set f.seen p n; pinned = put f.pinned p pinned }

  versions_on : (f : Facts O E) (p n : ℕ) (g : Stage) (pinned : List ℕ) (o : O) (now : Option O) → now ≡ Some o → VersionsFit applied lawful permitted stands size f now → VersionsFit applied lawful permitted stands size (moved f p g n pinned) now
  versions_on f p n g pinned o None is fits = absurd (cc)
  versions_on f p n g pinned o (Some o') is fits = fits

  module _ (s : State (Unit {0}) (View O E)) (r : Rule s) (id : ℕ) (v : View O E) (at : get_elem? s.views id ≡ some v) (own : PassView E) (is_pass : v.pass ≡ Some own) (off_turn : v.turn ≡ None) (o : O) (is_open : v.seen.opening ≡ Some o) where
    mine : OwnFits size r.facts id v.seen v.progress own
    mine = the_pass applied lawful permitted stands size s r id v own at is_pass

    within : own.number < size.passes
    within = let l = (the_pass applied lawful permitted stands size s r id v own at is_pass).made in let m = r.made in omega arith

    opened : r.facts.all.opening ≡ Some o
    opened = subst (λ (x : Option O). OpeningFits r.facts.all.opening x v.seen) is_open (r.seats id v at).seen.opening

    abbrev pin : ℕ
    pin = get_or s.words (pin_at own.number) 0

    -- the pin core's lists after the pass has moved
    abbrev core : List ℕ → Stage → List ℕ → Type 0
    core words g seen = Sound (core_size size) words (set r.facts.stages own.number g) seen (turn_of (length r.facts.all.history) r.facts.turn.kept r.facts.turn.marks)

    same_seen : set r.facts.seen own.number (length v.seen.history) ≡ r.facts.seen
    same_seen = ap (set r.facts.seen own.number) (sym mine.seen_length) ∙ set-get_or r.facts.seen own.number 0

    -- another pin stays, and this one's word is that of the place
    away : (x i : ℕ) → i ≢ pin_at own.number → get_or (set s.words (pin_at own.number) x) i 0 ≡ get_or s.words i 0
    away x i apart = get_or-set_other s.words (pin_at own.number) i x 0 apart

    here : (x : ℕ) → get_or (set s.words (pin_at own.number) x) (pin_at own.number) 0 ≡ x
    here x = get_or-set_same s.words (pin_at own.number) x 0 (let w = r.sound.wide in let m = r.sound.small in let l = within in omega arith)

    module _ (words : List ℕ) (d : Progress) (seen : Seen O E) (pinned : List ℕ) where
      abbrev now : Facts O E
      now = moved r.facts own.number (stage_of d) (length seen.history) pinned

      others_fit : (j : ℕ) → j ≢ id → (sn : Seen O E) (p : Progress) (other : PassView E) → OwnFits size r.facts j sn p other → OwnFits size now j sn p other
      others_fit j else sn p other fits = record {
        made = fits.made;
        at = fits.at;
        entries = fits.entries;
        pinned = fits.pinned ∙ sym (put_else r.facts.pinned own.number pinned other.number apart);
        seen_length = get_or-set_other r.facts.seen own.number other.number (length seen.history) 0 apart ∙ fits.seen_length;
        stage_is = get_or-set_other r.facts.stages own.number other.number (stage_of d) stage.Idle apart ∙ fits.stage_is;
        kept = fits.kept;
        told = fits.told;
        chunks = fits.chunks;
      }
        where
          apart : other.number ≢ own.number
          apart same = else (sym fits.at ∙ (ap r.facts.owner same ∙ mine.at))

      -- a naming of the pass itself
      own_naming : ((version : ℕ) → Contains own.pinned version → Contains pinned version) → ((version : ℕ) → PinNames s.words own.number version → Contains pinned version ⊎ PinNames words own.number version)
          → (version : ℕ) → NamingFits s.words r.facts.pinned (record { pass = own.number; version = version }) → NamingFits words now.pinned (record { pass = own.number; version = version })
      own_naming pinned_on named_on version fits = subst (λ (vs : List ℕ). Contains vs version ⊎ PinNames words own.number version) (sym (put_here r.facts.pinned own.number pinned))
          (⊎_elim (λ (c : Contains (r.facts.pinned own.number) version). inl (pinned_on version (subst (λ (vs : List ℕ). Contains vs version) (sym mine.pinned) c))) (named_on version) fits)

      -- a naming of another pass
      other_naming : ((i : ℕ) → i ≢ pin_at own.number → get_or words i 0 ≡ get_or s.words i 0) → (n : Naming) → n.pass ≢ own.number → NamingFits s.words r.facts.pinned n → NamingFits words now.pinned n
      other_naming far n apart fits = subst (λ (x : List ℕ × ℕ). Contains x.0 n.version ⊎ ((2 ≤ x.1) × (version_of x.1 ≡ n.version)))
          (λ i. (sym (put_else r.facts.pinned own.number pinned n.pass apart) i, sym (far (pin_at n.pass) (λ e. apart (omega arith))) i)) fits

      namings_on : ((i : ℕ) → i ≢ pin_at own.number → get_or words i 0 ≡ get_or s.words i 0)
          → ((version : ℕ) → Contains own.pinned version → Contains pinned version) → ((version : ℕ) → PinNames s.words own.number version → Contains pinned version ⊎ PinNames words own.number version)
          → (n : Naming) → NamingFits s.words r.facts.pinned n → NamingFits words now.pinned n
      namings_on far pinned_on named_on n fits = dite (ℕ_discrete n.pass own.number)
          (λ same. subst (λ (p : ℕ). NamingFits words now.pinned (record { pass = p; version = n.version })) (sym same)
          (own_naming pinned_on named_on n.version (subst (λ (p : ℕ). NamingFits s.words r.facts.pinned (record { pass = p; version = n.version })) same fits)))
          (λ apart. other_naming far n apart fits)

      -- the pass has come so far, has seen so much, and has pinned these versions
      moves : ((i : ℕ) → i ≢ pin_at own.number → get_or words i 0 ≡ get_or s.words i 0) → IsPartOf r.facts.all seen → seen.opening ≡ Some o → ProgressFits r.facts.turn.kept pinned d
          → ((version : ℕ) → Contains own.pinned version → Contains pinned version) → ((version : ℕ) → PinNames s.words own.number version → Contains pinned version ⊎ PinNames words own.number version)
          → core words (stage_of d) (set r.facts.seen own.number (length seen.history))
          → Rule record { words = words; homes = s.homes; views = set s.views id (record v { seen = seen; pass = Some (record own { pinned = pinned }); progress = d }) }
      moves far part still_open fits pinned_on named_on sound = record {
        facts = now;
        made = r.made;
        authors = r.authors;
        allowed = r.allowed;
        sound = sound;
        seats = seats_stay (Knows size now) s.views id (record v { seen = seen; pass = Some (record own { pinned = pinned }); progress = d })
            (record {
              seen = part;
              told = (r.seats id v at).told;
              pass = record {
                made = mine.made;
                at = mine.at;
                entries = mine.entries;
                pinned = sym (put_here r.facts.pinned own.number pinned);
                seen_length = get_or-set_same r.facts.seen own.number (length seen.history) 0 (let w = r.sound.watched in let l = within in omega arith);
                stage_is = get_or-set_same r.facts.stages own.number (stage_of d) stage.Idle (let w = r.sound.staged in let l = within in omega arith);
                kept = fits;
                told = subst (λ (x : Option O). IdleUnlessTold x d) (sym still_open) tt;
                chunks = mine.chunks;
              };
              turn = subst (TurnFits now id seen d) (sym off_turn) tt;
            })
            (λ j u other e. knows_still size r.facts now j u refl refl refl (others_fit j other u.seen u.progress) (r.seats j u e));
        held = held_set s.views r.facts.writer id v (record v { seen = seen; pass = Some (record own { pinned = pinned }); progress = d }) r.held at refl;
        versions = versions_on r.facts own.number (length seen.history) (stage_of d) pinned o r.facts.all.opening opened r.versions;
        namings = All-weaker (NamingFits s.words r.facts.pinned) (NamingFits words now.pinned) (namings_on far pinned_on named_on) r.facts.all.namings r.namings;
        namers = r.namers;
        copied = r.copied ∙ r.sound.wide ∙ sym sound.wide;
        mirror = λ i l. far i (λ e. let m = r.sound.small in let p = within in omega arith) ∙ r.mirror i l;
      }

    -- it has seen and pinned no more
    moves_on : (words : List ℕ) (d : Progress) → ((i : ℕ) → i ≢ pin_at own.number → get_or words i 0 ≡ get_or s.words i 0) → ProgressFits r.facts.turn.kept own.pinned d
        → ((version : ℕ) → PinNames s.words own.number version → Contains own.pinned version ⊎ PinNames words own.number version) → core words (stage_of d) r.facts.seen
        → Rule record { words = words; homes = s.homes; views = set s.views id (with_progress v d) }
    moves_on words d far fits named_on sound = subst (λ (x : Option (PassView E)). Rule record { words = words; homes = s.homes; views = set s.views id (record v { pass = x; progress = d }) }) (sym is_pass)
        (moves words d v.seen own.pinned far (r.seats id v at).seen is_open fits (λ version c. c) named_on (subst (core words (stage_of d)) (sym same_seen) sound))

    at_stage : (d : Progress) → v.progress ≡ d → stage_at r.facts.stages own.number ≡ stage_of d
    at_stage d is = mine.stage_is ∙ ap stage_of is

    pin_fits : (d : Progress) → v.progress ≡ d → PinFits r.facts.turn.kept (get_or r.facts.seen own.number 0) (get_or s.words (pin_at own.number) 0) (stage_of d)
    pin_fits d is = subst (PinFits r.facts.turn.kept (get_or r.facts.seen own.number 0) (get_or s.words (pin_at own.number) 0)) (at_stage d is) (r.sound.pins own.number within)

    progress_fits : (d : Progress) → v.progress ≡ d → ProgressFits r.facts.turn.kept own.pinned d
    progress_fits d is = subst (ProgressFits r.facts.turn.kept own.pinned) is mine.kept

    enter_keeps : v.progress ≡ progress.Idle → Rule record { words = set s.words (pin_at own.number) 1; homes = s.homes; views = set s.views id (with_progress v progress.Entered) }
    enter_keeps idle = moves_on (set s.words (pin_at own.number) 1) progress.Entered (away 1) tt
        (λ version named. absurd (let z : get_or s.words (pin_at own.number) 0 ≡ 0 = pin_fits progress.Idle idle in let l = named.0 in omega arith))
        (enters (core_size size) s.words r.facts.stages r.facts.seen (turn_of (length r.facts.all.history) r.facts.turn.kept r.facts.turn.marks) r.sound own.number within (at_stage progress.Idle idle))

    glance_keeps : v.progress ≡ progress.Entered → Rule record { words = s.words; homes = s.homes; views = set s.views id (with_progress v (progress.Looked (get_or s.words 0 0))) }
    glance_keeps is = moves_on s.words (progress.Looked (get_or s.words 0 0)) (λ i apart. refl) tt (λ version named. inr named)
        (looks (core_size size) s.words r.facts.stages r.facts.seen (turn_of (length r.facts.all.history) r.facts.turn.kept r.facts.turn.marks) r.sound own.number within (at_stage progress.Entered is))

    leave_keeps : (k : Kept) → v.progress ≡ progress.Pinned k → Rule record { words = set s.words (pin_at own.number) 0; homes = s.homes; views = set s.views id (with_progress v progress.Idle) }
    leave_keeps k is = moves_on (set s.words (pin_at own.number) 0) progress.Idle (away 0) tt was_pinned
        (leaves (core_size size) s.words r.facts.stages r.facts.seen (turn_of (length r.facts.all.history) r.facts.turn.kept r.facts.turn.marks) r.sound own.number k.version within (at_stage (progress.Pinned k) is))
      where
        -- the version that its pin named is the last that it has pinned
        was_pinned : (version : ℕ) → PinNames s.words own.number version → Contains own.pinned version ⊎ PinNames (set s.words (pin_at own.number) 0) own.number version
        was_pinned version named =
            let p = pin_fits (progress.Pinned k) is in
            let f = kept_root_fits (core_size size) s.words r.facts.stages r.facts.seen (turn_of (length r.facts.all.history) r.facts.turn.kept r.facts.turn.marks) r.sound p.0 p.1 in
            let last = (progress_fits (progress.Pinned k) is).1 in
            let same : k.version ≡ version = sym p.3 ∙ sym (version_of_pin p.0 pin (omega arith) p.2) ∙ named.1 in
            inl (subst (Contains own.pinned) same (subst (λ (vs : List ℕ). Contains vs k.version) (sym last.1) (Contains-push last.0 k.version)))

    versions_of : (o' : O) → v.seen.opening ≡ Some o' → VersionsFit applied lawful permitted stands size r.facts (Some o')
    versions_of o' e = subst (VersionsFit applied lawful permitted stands size r.facts) (subst (λ (y : Option O). OpeningFits r.facts.all.opening y v.seen) e (r.seats id v at).seen.opening) r.versions

    -- what it hasn't seen yet
    unseen : StartsWith r.facts.all.history v.seen.history
    unseen = (r.seats id v at).seen.history

    -- the opening and the namings stay, however much of the history it sees
    part_with : (more : List (Entry E)) → StartsWith r.facts.all.history (v.seen.history ++ more) → IsPartOf r.facts.all (with_more v.seen more)
    part_with more starts = record {
      opening = subst (λ (y : Option O). OpeningFits r.facts.all.opening y (with_more v.seen more)) (sym is_open) opened;
      history = starts;
      namings = (r.seats id v at).seen.namings;
    }

    -- an idle pass sees the whole history
    module _ (idle : v.progress ≡ progress.Idle) where
      all_of_it : length r.facts.all.history ≡ length (v.seen.history ++ unseen.0)
      all_of_it = ap length unseen.1

      same_stage : set r.facts.stages own.number stage.Idle ≡ r.facts.stages
      same_stage = ap (set r.facts.stages own.number) (sym (at_stage progress.Idle idle)) ∙ set-get_or r.facts.stages own.number stage.Idle

      rises : core s.words stage.Idle (set r.facts.seen own.number (length (v.seen.history ++ unseen.0)))
      rises = subst (λ (gs : List Stage). Sound (core_size size) s.words gs (set r.facts.seen own.number (length (v.seen.history ++ unseen.0))) (turn_of (length r.facts.all.history) r.facts.turn.kept r.facts.turn.marks)) (sym same_stage)
          (seen_rises applied lawful permitted stands size s r own.number (length (v.seen.history ++ unseen.0)) within (at_stage progress.Idle idle) (let a = all_of_it in omega arith)
          (let e = mine.seen_length in omega (arith, length-append v.seen.history unseen.0)))

      see_keeps : Rule record { words = s.words; homes = s.homes; views = set s.views id (record v { seen = with_more v.seen unseen.0 }) }
      see_keeps = subst (λ (x : Option (PassView E) × Progress). Rule record { words = s.words; homes = s.homes; views = set s.views id (record v { seen = with_more v.seen unseen.0; pass = x.0; progress = x.1 }) }) (λ i. (sym is_pass i, sym idle i))
          (moves s.words progress.Idle (with_more v.seen unseen.0) own.pinned (λ i apart. refl) (part_with unseen.0 ([], unseen.1 ∙ sym (append-nil (v.seen.history ++ unseen.0)))) is_open tt (λ version c. c) (λ version names. inr names) rises)

      told_current : version_of (get_or s.words 0 0 + 2) ≡ length (v.seen.history ++ unseen.0)
      told_current =
          let c = r.sound.current in
          let f = kept_root_fits (core_size size) s.words r.facts.stages r.facts.seen (turn_of (length r.facts.all.history) r.facts.turn.kept r.facts.turn.marks) r.sound c.0 c.1 in
          version_of_pin c.0 (get_or s.words 0 0 + 2) (omega arith) (ap (λ (n : ℕ). n + 2) c.3) ∙ c.2 ∙ all_of_it

      sights_so : Sights applied lawful permitted stands v (get_or s.words 0 0) (record v { seen = with_more v.seen unseen.0 })
      sights_so = record {
        sees = record {
          more = unseen.0;
          view = refl;
          allowed = subst (All (λ (e : Entry E). permitted e.change)) unseen.1 r.allowed;
          good = λ o' e. subst (λ (h : List (Entry E)). lawful o' (version_after applied o' h)) (take_all (length r.facts.all.history) r.facts.all.history (omega arith) ∙ unseen.1) ((versions_of o' e).0 (length r.facts.all.history) (omega arith));
        };
        fits = current_fits (core_size size) s.words r.facts.stages r.facts.seen (turn_of (length r.facts.all.history) r.facts.turn.kept r.facts.turn.marks) r.sound;
        version = told_current;
      }

    -- what a pass that has looked settles on, whatever the writer has done since
    module _ (w : ℕ) (is : v.progress ≡ progress.Looked w) where
      abbrev x : ℕ
      x = exchanged (get_or s.words (pin_at own.number) 0) w

      named : Names r.facts.turn.kept (get_or r.facts.seen own.number 0) (exchanged (get_or s.words (pin_at own.number) 0) w)
      named = settled_names (core_size size) s.words r.facts.stages r.facts.seen (turn_of (length r.facts.all.history) r.facts.turn.kept r.facts.turn.marks) r.sound own.number w within (at_stage (progress.Looked w) is)

      abbrev k : Kept
      k = named.0

      -- the cells of the kept version are in given chunks
      cells_given : All (IsGiven (core_size size) s.words) named.0.image
      cells_given = All-contains (λ k. All (IsGiven (core_size size) s.words) k.image) r.facts.turn.kept named.0 r.sound.given named.1

      told_version : version_of (exchanged (get_or s.words (pin_at own.number) 0) w) ≡ named.0.version
      told_version =
          let f = kept_root_fits (core_size size) s.words r.facts.stages r.facts.seen (turn_of (length r.facts.all.history) r.facts.turn.kept r.facts.turn.marks) r.sound named.0 named.1 in
          version_of_pin named.0 (exchanged (get_or s.words (pin_at own.number) 0) w) (omega arith) named.2

      told_root : root_of ((exchanged (get_or s.words (pin_at own.number) 0) w - 2) % 16777216) ≡ named.0.root
      told_root = root_of_kept (core_size size) s.words named.0 (let m = r.sound.small in m.1) (All-contains (λ k. HasRoot k.root k.image) r.facts.turn.kept named.0 r.sound.rooted named.1) cells_given (exchanged (get_or s.words (pin_at own.number) 0) w) named.2

      below : named.0.version ≤ length r.facts.all.history
      below = All-contains (λ k. k.version ≤ length r.facts.all.history) r.facts.turn.kept named.0 r.sound.newest named.1

      at_least : length v.seen.history ≤ named.0.version
      at_least = let e = mine.seen_length in let l = named.3 in omega arith

      -- what it hasn't seen yet, up to the version and from there on
      more : List (Entry E)
      more = take (named.0.version - length v.seen.history) unseen.0

      whole : r.facts.all.history ≡ (v.seen.history ++ more) ++ drop (named.0.version - length v.seen.history) unseen.0
      unfolding more
      whole = unseen.1 ∙ ap (λ (l : List (Entry E)). v.seen.history ++ l) (sym (take-append-drop (named.0.version - length v.seen.history) unseen.0))
          ∙ sym (append_assoc v.seen.history (take (named.0.version - length v.seen.history) unseen.0) (drop (named.0.version - length v.seen.history) unseen.0))

      long : length (v.seen.history ++ more) ≡ named.0.version
      unfolding more
      long =
          let e : length r.facts.all.history ≡ length (v.seen.history ++ unseen.0) = ap length unseen.1 in
          let b = below in
          let a = at_least in
          omega (arith, length-append v.seen.history unseen.0, length-append v.seen.history (take (named.0.version - length v.seen.history) unseen.0), length-take (named.0.version - length v.seen.history) unseen.0)

      begins : take named.0.version r.facts.all.history ≡ v.seen.history ++ more
      begins = ap (take named.0.version) whole ∙ take_at (v.seen.history ++ more) (drop (named.0.version - length v.seen.history) unseen.0) named.0.version long

      part : IsPartOf r.facts.all (with_more v.seen more)
      part = part_with more (drop (named.0.version - length v.seen.history) unseen.0, whole)

      -- a pin that named a version before stays
      still_named : (version : ℕ) → PinNames s.words own.number version → PinNames (set s.words (pin_at own.number) x) own.number version
      still_named version names = subst (λ (y : ℕ). (2 ≤ y) × (version_of y ≡ version))
          (sym (here x ∙ ap (λ (b : Bool). cond b (w + 2) pin) (ne_eqb pin 1 (λ e. let l = names.0 in omega arith)))) names

      settle_keeps : Rule record { words = set s.words (pin_at own.number) x; homes = s.homes; views = set s.views id (pinned_view v more named.0) }
      settle_keeps = subst (λ (y : Option (PassView E)). Rule record { words = set s.words (pin_at own.number) x; homes = s.homes; views = set s.views id (record v { seen = with_more v.seen more; pass = with_pinned y named.0.version; progress = progress.Pinned named.0 }) }) (sym is_pass)
          (moves (set s.words (pin_at own.number) x) (progress.Pinned named.0) (with_more v.seen more) (own.pinned ++ named.0.version ∷ []) (away x) part is_open (named.1, (own.pinned, refl))
          (λ version c. Contains-append_left own.pinned (named.0.version ∷ []) version c)
          (λ version names. inr (still_named version names))
          (subst (λ (a : ℕ × ℕ). core (set s.words (pin_at own.number) x) (stage.Pinned a.0) (set r.facts.seen own.number a.1)) (λ i. (told_version i, (told_version ∙ sym long) i))
          (settles (core_size size) s.words r.facts.stages r.facts.seen (turn_of (length r.facts.all.history) r.facts.turn.kept r.facts.turn.marks) r.sound own.number w within (at_stage (progress.Looked w) is))))

      pins : Pins applied lawful permitted stands v (pinned_view v more named.0)
      pins = record {
        kept = named.0;
        more = more;
        view = refl;
        version = sym long;
        allowed = subst (All (λ (e : Entry E). permitted e.change)) begins (All-take (λ (e : Entry E). permitted e.change) named.0.version r.facts.all.history r.allowed);
        good = λ o' e. subst (λ (h : List (Entry E)). lawful o' (version_after applied o' h)) begins ((versions_of o' e).0 named.0.version below);
        stood = λ o' e. subst (λ (h : List (Entry E)). stands named.0.image named.0.root (version_after applied o' h)) begins
            (All-contains (λ k. stands k.image k.root (version_after applied o' (take k.version r.facts.all.history))) r.facts.turn.kept named.0 (versions_of o' e).1 named.1);
      }

      settles_so : Settles applied lawful permitted stands v (exchanged (get_or s.words (pin_at own.number) 0) w) (pinned_view v more named.0)
      unfolding pins
      settles_so = record {
        pins = pins;
        low = (let e : x ≡ pin_of named.0 = named.2 in omega arith);
        version = told_version;
        root = told_root;
        inside = subst (λ (n : ℕ). All (λ (c : CellAt). c.at < 1024 * n) named.0.image) (sym (ap chunks_of is_pass ∙ mine.chunks)) (All-weaker (IsGiven (core_size size) s.words) (λ (c : CellAt). c.at < 1024 * size.chunks) (λ c g. g.0) named.0.image cells_given);
      }

  module _ (slots id : ℕ) (m : Me (Unit {0}) (View O E)) (number : ℕ) (is_pass : number_of m.0.pass ≡ number + 1) (off_turn : has_turn m.0.turn ≡ false) (is_open : is_told m.0.seen.opening ≡ true) where
    -- a step of the pass, at its pin
    at_pin : (P : ℕ → Type 0) → ((own : PassView E) → m.0.pass ≡ Some own → P (pin_at own.number)) → P (pin_at number)
    at_pin P f = let p = pass_there m.0.pass number is_pass in subst (λ (n : ℕ). P (pin_at n)) (let e : p.0.number + 1 ≡ number + 1 = sym (ap number_of p.1) ∙ is_pass in omega arith) (f p.0 p.1)

    pub may_enter : m.0.progress ≡ progress.Idle → Allows Rule slots id m (pin_at number) (λ _. 1) (λ _. entered (step slots (pin_at number) 1 0 none) m 1)
    may_enter idle = at_pin (λ i. Allows Rule slots id m i (λ _. 1) (λ _. entered (step slots i 1 0 none) m 1)) (λ own is s r deep at small. let o = told_there m.0.seen.opening is_open in (
      with_progress m.0 progress.Entered,
      keeps,
      tt,
      enter_keeps s r id m.0 at own is (no_turn m.0.turn off_turn) o.0 o.1 idle,
      refl,
    ))

    pub may_see : m.0.progress ≡ progress.Idle → Allows Rule slots id m 0 (λ n. n) (sighted applied lawful permitted stands (step slots 0 0 0 none) m)
    may_see idle s r deep at small =
        let p = pass_there m.0.pass number is_pass in
        let o = told_there m.0.seen.opening is_open in
        let off = no_turn m.0.turn off_turn in
        let new = record m.0 { seen = with_more m.0.seen (unseen s r id m.0 at p.0 p.1 off o.0 o.1).0 } in (
          new,
          keeps,
          tt,
          subst (λ (ws : List ℕ). Rule record { words = ws; homes = s.homes; views = set s.views id new }) (sym (set-get_or s.words 0 0)) (see_keeps s r id m.0 at p.0 p.1 off o.0 o.1 idle),
          (sights_so s r id m.0 at p.0 p.1 off o.0 o.1 idle, refl),
        )

    pub may_glance : m.0.progress ≡ progress.Entered → Allows Rule slots id m 0 (λ n. n) (glanced (step slots 0 0 0 none) m)
    may_glance is s r deep at small = let p = pass_there m.0.pass number is_pass in let o = told_there m.0.seen.opening is_open in (
      with_progress m.0 (progress.Looked (get_or s.words 0 0)),
      keeps,
      tt,
      subst (λ (ws : List ℕ). Rule record { words = ws; homes = s.homes; views = set s.views id (with_progress m.0 (progress.Looked (get_or s.words 0 0))) }) (sym (set-get_or s.words 0 0))
          (glance_keeps s r id m.0 at p.0 p.1 (no_turn m.0.turn off_turn) o.0 o.1 is),
      (refl, current_fits (core_size size) s.words r.facts.stages r.facts.seen (turn_of (length r.facts.all.history) r.facts.turn.kept r.facts.turn.marks) r.sound),
    )

    pub may_settle : (w : ℕ) → m.0.progress ≡ progress.Looked w → Allows Rule slots id m (pin_at number) (λ n. either (eqb n 1) (w + 2) n) (settled applied lawful permitted stands (step slots (pin_at number) 1 (w + 2) none) m)
    may_settle w is = at_pin (λ i. Allows Rule slots id m i (λ n. either (eqb n 1) (w + 2) n) (settled applied lawful permitted stands (step slots i 1 (w + 2) none) m)) (λ own is_own s r deep at small.
        let o = told_there m.0.seen.opening is_open in
        let off = no_turn m.0.turn off_turn in
        let new = pinned_view m.0 (more s r id m.0 at own is_own off o.0 o.1 w is) (named s r id m.0 at own is_own off o.0 o.1 w is).0 in (
          new,
          keeps,
          tt,
          subst (λ (x : ℕ). Rule record { words = set s.words (pin_at own.number) x; homes = s.homes; views = set s.views id new }) (sym (either_is (eqb (get_or s.words (pin_at own.number) 0) 1) (w + 2) (get_or s.words (pin_at own.number) 0)))
              (settle_keeps s r id m.0 at own is_own off o.0 o.1 w is),
          (settles_so s r id m.0 at own is_own off o.0 o.1 w is, refl),
        ))

    pub may_leave : (k : Kept) → m.0.progress ≡ progress.Pinned k → Allows Rule slots id m (pin_at number) (λ _. 0) (λ _. left (step slots (pin_at number) 0 0 none) m 0)
    may_leave k pinned = at_pin (λ i. Allows Rule slots id m i (λ _. 0) (λ _. left (step slots i 0 0 none) m 0)) (λ own is s r deep at small. let o = told_there m.0.seen.opening is_open in (
      with_progress m.0 progress.Idle,
      keeps,
      tt,
      leave_keeps s r id m.0 at own is (no_turn m.0.turn off_turn) o.0 o.1 k pinned,
      refl,
    ))

  -- what a load tells of the cells that are pinned
  says : (s : State (Unit {0}) (View O E)) (r : Rule s) (id : ℕ) (v : View O E) (i : ℕ) (d : Progress) (p : Option (PassView E)) → PassFits size r.facts id v.seen d p → All (IsWordOf i (get_or s.words i 0)) (pinned_image d)
  says s r id v i progress.Idle p fits = All-nil (IsWordOf i (get_or s.words i 0))
  says s r id v i progress.Entered p fits = All-nil (IsWordOf i (get_or s.words i 0))
  says s r id v i (progress.Looked w) p fits = All-nil (IsWordOf i (get_or s.words i 0))
  says s r id v i (progress.Pinned kept) None fits = absurd (cc)
  says s r id v i (progress.Pinned kept) (Some own) fits = All-weaker (AgreesWith s.words) (IsWordOf i (get_or s.words i 0)) (λ c a. ((λ e. ap (λ (j : ℕ). get_or s.words j 0) e ∙ a.0), (λ e. ap (λ (j : ℕ). get_or s.words j 0) e ∙ a.1))) kept.image
      (All-contains (λ k. All (AgreesWith s.words) k.image) r.facts.turn.kept kept r.sound.unchanged fits.kept.0)

  pub may_read : (slots id i : ℕ) (m : Me (Unit {0}) (View O E)) → Allows Rule slots id m i (λ n. n) (read (step slots i 0 0 none) m)
  may_read slots id i m s r deep at small = (
    m.0,
    keeps,
    tt,
    subst (λ (x : List ℕ × List (View O E)). Rule record { words = x.0; homes = s.homes; views = x.1 }) (λ k. (sym (set-get_or s.words i 0) k, sym (set_again s.views id m.0 at) k)) r,
    (refl, says s r id m.0 i m.0.progress m.0.pass (r.seats id m.0 at).pass),
  )

  -- the three steps of pinning, one after another

  pub glances_next : (slots id number : ℕ) (m m1 : Me (Unit {0}) (View O E)) → m1 ≡ (with_progress m.0 progress.Entered, m.1) → number_of m.0.pass ≡ number + 1 → has_turn m.0.turn ≡ false → is_told m.0.seen.opening ≡ true
      → Allows Rule slots id m1 0 (λ n. n) (glanced (step slots 0 0 0 none) m1)
  glances_next slots id number m m1 e is_pass off_turn is_open = subst (λ (x : Me (Unit {0}) (View O E)). Allows Rule slots id x 0 (λ n. n) (glanced (step slots 0 0 0 none) x)) (sym e)
      (may_glance slots id (with_progress m.0 progress.Entered, m.1) number is_pass off_turn is_open refl)

  looked_since : (m m1 m2 : Me (Unit {0}) (View O E)) (w : ℕ) → m1 ≡ (with_progress m.0 progress.Entered, m.1) → m2 ≡ (with_progress m1.0 (progress.Looked w), m1.1) → m2 ≡ (with_progress m.0 (progress.Looked w), m.1)
  looked_since m m1 m2 w e1 e2 = e2 ∙ ap (λ (x : Me (Unit {0}) (View O E)). let y : Me (Unit {0}) (View O E) = (with_progress x.0 (progress.Looked w), x.1) in y) e1

  pub settles_next : (slots id number w : ℕ) (m m1 m2 : Me (Unit {0}) (View O E)) → m1 ≡ (with_progress m.0 progress.Entered, m.1) → m2 ≡ (with_progress m1.0 (progress.Looked w), m1.1)
      → number_of m.0.pass ≡ number + 1 → has_turn m.0.turn ≡ false → is_told m.0.seen.opening ≡ true → Allows Rule slots id m2 (pin_at number) (λ n. either (eqb n 1) (w + 2) n) (settled applied lawful permitted stands (step slots (pin_at number) 1 (w + 2) none) m2)
  settles_next slots id number w m m1 m2 e1 e2 is_pass off_turn is_open =
      subst (λ (x : Me (Unit {0}) (View O E)). Allows Rule slots id x (pin_at number) (λ n. either (eqb n 1) (w + 2) n) (settled applied lawful permitted stands (step slots (pin_at number) 1 (w + 2) none) x)) (sym (looked_since m m1 m2 w e1 e2))
      (may_settle slots id (with_progress m.0 (progress.Looked w), m.1) number is_pass off_turn is_open w refl)

  -- what was pinned, told of the pass as it was before
  settled_since : (v : View O E) (d : Progress) (pin : ℕ) (w : View O E) → Settles applied lawful permitted stands (with_progress v d) pin w → Settles applied lawful permitted stands v pin w
  settled_since v d x w t = let p = t.pins in record {
    pins = record { kept = p.kept; more = p.more; view = p.view; version = p.version; allowed = p.allowed; good = p.good; stood = p.stood };
    low = t.low;
    version = t.version;
    root = t.root;
    inside = t.inside;
  }

  pub pins_so : (w found : ℕ) (st : Step (Unit {0})) (m m1 m2 m3 : Me (Unit {0}) (View O E)) → m1 ≡ (with_progress m.0 progress.Entered, m.1) → m2 ≡ (with_progress m1.0 (progress.Looked w), m1.1)
      → settled applied lawful permitted stands st m2 found m3 → Settles applied lawful permitted stands m.0 (exchanged_by st found) m3.0
  pins_so w found st m m1 m2 m3 e1 e2 t = settled_since m.0 (progress.Looked w) (exchanged_by st found) m3.0 (subst (λ (x : Me (Unit {0}) (View O E)). Settles applied lawful permitted stands x.0 (exchanged_by st found) m3.0) (looked_since m m1 m2 w e1 e2) t.0)

pub pinned_there : (p : Progress) → is_pinned p ≡ true → (k : Kept) × (p ≡ progress.Pinned k)
pinned_there progress.Idle e = absurd (true≢false (sym e))
pinned_there progress.Entered e = absurd (true≢false (sym e))
pinned_there (progress.Looked w) e = absurd (true≢false (sym e))
pinned_there (progress.Pinned k) e = (k, refl)
