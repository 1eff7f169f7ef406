-- Splitting and joining seats, and what a pass learns, keep the rule.
use Rattle.std.proofs.Common.{◌≡◌, ◌≢◌, ⊎_elim, ℕ, ◌+◌, ◌<◌, ◌≤◌, max, List, [], ◌∷◌, length, get_or, set, true, false, true≢false, refl, sym, ap, ◌∙◌, subst, arith, Option, Some, None, get_or-set_same, get_or-set_other}
use Rattle.std.proofs.lemmas.List.{set-get_or}
use mathlib.Core.Option.{some, none}
use lib.ListN.{get_elem?}
use Rattle.atomic_table.specs.Table.{State, Me, Splits, Joins, Allows, step, keeps}
use Rattle.atomic_table.proofs.Lists.{at_set}
use Rattle.pin_core.specs.declared.kept.CellAt.{CellAt}
use Rattle.pin_core.specs.declared.kept.Stage.TheVariants as stage
use Rattle.pin_core.specs.Sound.{Sound, turn_of, stage_at}
use Rattle.pin_core.proofs.Pins.{learns}
use Rattle.shared_cells.specs.declared.view.TableSize.{TableSize}
use Rattle.shared_cells.specs.declared.view.Seen.{Seen}
use Rattle.shared_cells.specs.declared.view.Progress.{Progress}
use Rattle.shared_cells.specs.declared.view.Progress.TheVariants as progress
use Rattle.shared_cells.specs.declared.view.PassView.{PassView}
use Rattle.shared_cells.specs.declared.view.TurnView.{TurnView}
use Rattle.shared_cells.specs.declared.view.View.{View}
use Rattle.shared_cells.specs.History.{nothing_seen, longer_seen}
use Rattle.shared_cells.specs.Views.{core_size, number_of, has_turn, is_told, is_idle, note_of, pass_of, without_pass, with_pass, with_note, spent_view, learnt_view}
use Rattle.shared_cells.specs.Rule.{Facts, stage_of, ProgressFits, IdleUnlessTold, OwnFits, PassFits, TurnFits, Knows, IsSoundTable}
use Rattle.shared_cells.specs.Steps.{learnt}
use Rattle.shared_cells.proofs.Lists.{nothing_begins, put, put_here, put_else, seats_stay, seats_grow, longer_part, begins_length}
use Rattle.shared_cells.proofs.Holding.{held_set, held_else, held_more}
use Rattle.shared_cells.proofs.Knowing.{knows_still, view_fits, the_turn, the_pass, versions_still}

pub idle_is : (p : Progress) → is_idle p ≡ true → p ≡ progress.Idle
idle_is progress.Idle e = refl
idle_is progress.Entered e = absurd (true≢false (sym e))
idle_is (progress.Looked word) e = absurd (true≢false (sym e))
idle_is (progress.Pinned k) e = absurd (true≢false (sym e))

pub turn_there : (t : Option TurnView) → has_turn t ≡ true → (turn : TurnView) × (t ≡ Some turn)
turn_there None e = absurd (true≢false (sym e))
turn_there (Some turn) e = (turn, refl)

pub no_turn : (t : Option TurnView) → has_turn t ≡ false → t ≡ None
no_turn None e = refl
no_turn (Some turn) e = absurd (true≢false e)

pub pass_there : {E : Type 0} (p : Option (PassView E)) (n : ℕ) → number_of p ≡ n + 1 → (own : PassView E) × (p ≡ Some own)
pass_there None n e = absurd (omega arith)
pass_there (Some own) n e = (own, refl)

pub no_pass : {E : Type 0} (p : Option (PassView E)) → number_of p ≡ 0 → p ≡ None
no_pass None e = refl
no_pass (Some own) e = absurd (omega arith)

-- an idle pass may know of the opening or not
pub idle_fits_told : {O : Type 0} (o : Option O) (p : Progress) → p ≡ progress.Idle → IdleUnlessTold o p
idle_fits_told None p idle = idle
idle_fits_told (Some opening) p idle = tt

pub told_there : {O : Type 0} (o : Option O) → is_told o ≡ true → (opening : O) × (o ≡ Some opening)
told_there None e = absurd (true≢false (sym e))
told_there (Some opening) e = (opening, refl)

module _ {O E : Type 0} (applied : O → E → O) (lawful : O → O → Type 0) (permitted : E → Type 0) (stands : List CellAt → Option ℕ → O → Type 0) (size : TableSize) where
  abbrev Rule : State (Unit {0}) (View O E) → Type 0
  Rule = IsSoundTable applied lawful permitted stands size

  pub splits_note : (id : ℕ) (v : View O E) → Splits Rule id v v (note_of v)
  splits_note id v s r at = let k = r.seats id v at in record {
    facts = r.facts;
    made = r.made;
    authors = r.authors;
    allowed = r.allowed;
    sound = r.sound;
    seats = seats_grow (Knows size r.facts) s.views id v (note_of v) k (view_fits size r.facts (length s.views) v.seen k.seen) (λ j u other e. r.seats j u e);
    held = held_more (set s.views id v) (note_of v ∷ []) r.facts.writer (held_set s.views r.facts.writer id v v r.held at refl);
    versions = r.versions;
    namings = r.namings;
    namers = r.namers;
    copied = r.copied;
    mirror = r.mirror;
  }

  -- the pass is at another seat, and has seen so much
  abbrev moved : Facts O E → ℕ → ℕ → ℕ → Facts O E
  moved f p seat n = record f { owner = put f.owner p seat; seen = set f.seen p n }

  moved_else : (f : Facts O E) (p seat n j : ℕ) (u : View O E) → f.owner p ≢ j → Knows size f j u → Knows size (moved f p seat n) j u
  moved_else f p seat n j u other k = knows_still size f (moved f p seat n) j u refl refl refl own_on k
    where
      own_on : (own : PassView E) → OwnFits size f j u.seen u.progress own → OwnFits size (moved f p seat n) j u.seen u.progress own
      own_on own fits = let apart : own.number ≢ p = (λ e. other (sym (ap f.owner e) ∙ fits.at)) in record {
        made = fits.made;
        at = put_else f.owner p seat own.number apart ∙ fits.at;
        entries = fits.entries;
        pinned = fits.pinned;
        seen_length = get_or-set_other f.seen p own.number n 0 apart ∙ fits.seen_length;
        stage_is = fits.stage_is;
        kept = fits.kept;
        told = fits.told;
        chunks = fits.chunks;
      }

  inside : (s : State (Unit {0}) (View O E)) (r : Rule s) (p : ℕ) → p < r.facts.turn.made → (p < size.passes) × (p < length r.facts.seen)
  inside s r p l = let m = r.made in let w = r.sound.watched in (omega arith, omega arith)

  -- what a pass has seen rises to this, which the history has
  pub seen_rises : (s : State (Unit {0}) (View O E)) (r : Rule s) (p n : ℕ) → p < size.passes → stage_at r.facts.stages p ≡ stage.Idle → n ≤ length r.facts.all.history → get_or r.facts.seen p 0 ≤ n
      → Sound (core_size size) s.words r.facts.stages (set r.facts.seen p n) (turn_of (length r.facts.all.history) r.facts.turn.kept r.facts.turn.marks)
  seen_rises s r p n small idle there more = subst (λ (m : ℕ). Sound (core_size size) s.words r.facts.stages (set r.facts.seen p m) (turn_of (length r.facts.all.history) r.facts.turn.kept r.facts.turn.marks))
      (let e : max (get_or r.facts.seen p 0) n ≡ n = omega arith in e)
      (learns (core_size size) s.words r.facts.stages r.facts.seen (turn_of (length r.facts.all.history) r.facts.turn.kept r.facts.turn.marks) r.sound p n small idle there)

  -- the joined pass is given back
  splits_own : (id : ℕ) (v : View O E) (own : PassView E) (turn : TurnView) → v.pass ≡ Some own → v.turn ≡ Some turn → Splits Rule id v (without_pass v) (pass_of v)
  splits_own id v own turn is_pass is_turn s r at =
      let k = r.seats id v at in
      let h = the_turn applied lawful permitted stands size s r id v turn at is_turn in
      let fits = the_pass applied lawful permitted stands size s r id v own at is_pass in
      let n = get_or r.facts.seen own.number 0 in
      let f = moved r.facts own.number (length s.views) (get_or r.facts.seen own.number 0) in
      let same : set r.facts.seen own.number (get_or r.facts.seen own.number 0) ≡ r.facts.seen = set-get_or r.facts.seen own.number 0 in record {
        facts = f;
        made = r.made;
        authors = r.authors;
        allowed = r.allowed;
        sound = subst (λ (ns : List ℕ). Sound (core_size size) s.words r.facts.stages ns (turn_of (length r.facts.all.history) r.facts.turn.kept r.facts.turn.marks)) (sym same) r.sound;
        seats = seats_grow (Knows size f) s.views id (without_pass v) (pass_of v)
            (record { seen = k.seen; told = k.told; pass = h.idle; turn = subst (TurnFits f id v.seen v.progress) (sym is_turn) (record { writer = h.writer; turn_is = h.turn_is; seen_is = h.seen_is; idle = h.idle }) })
            (record {
              seen = k.seen;
              told = nothing_begins r.facts.all;
              pass = subst (PassFits size f (length s.views) v.seen progress.Idle) (sym is_pass) (record {
                made = fits.made;
                at = put_here r.facts.owner own.number (length s.views);
                entries = fits.entries;
                pinned = fits.pinned;
                seen_length = ap (λ (ns : List ℕ). get_or ns own.number 0) same ∙ fits.seen_length;
                stage_is = fits.stage_is ∙ ap stage_of h.idle;
                kept = tt;
                told = idle_fits_told v.seen.opening progress.Idle refl;
                chunks = fits.chunks;
              });
              turn = tt;
            })
            (λ j u other e. moved_else r.facts own.number (length s.views) (get_or r.facts.seen own.number 0) j u (λ e'. other (sym e' ∙ fits.at)) (r.seats j u e));
        held = held_more (set s.views id (without_pass v)) (pass_of v ∷ []) r.facts.writer (held_set s.views r.facts.writer id v (without_pass v) r.held at refl);
        versions = versions_still applied lawful permitted stands size r.facts f refl refl refl r.facts.all.opening r.versions;
        namings = r.namings;
        namers = r.namers;
        copied = r.copied;
        mirror = r.mirror;
      }

  pub splits_pass : (id : ℕ) (v : View O E) (n : ℕ) → has_turn v.turn ≡ true → number_of v.pass ≡ n + 1 → Splits Rule id v (without_pass v) (pass_of v)
  splits_pass id v n has is = let t = turn_there v.turn has in let p = pass_there v.pass n is in splits_own id v p.0 t.0 p.1 t.1

  spent_fits : (f : Facts O E) (j : ℕ) → Knows size f j spent_view
  spent_fits f j = view_fits size f j nothing_seen (nothing_begins f.all)

  -- each seat after a join: this one knows more, the other nothing
  joined_seats : (f : Facts O E) (views : List (View O E)) (id other : ℕ) (both : View O E) → Knows size f id both → ((j : ℕ) (u : View O E) → j ≢ id → j ≢ other → get_elem? views j ≡ some u → Knows size f j u)
      → (j : ℕ) (u : View O E) → get_elem? (set (set views id both) other spent_view) j ≡ some u → Knows size f j u
  joined_seats f views id other both mine others = seats_stay (Knows size f) (set views id both) other spent_view (spent_fits f other)
      (λ j u not_other e. ⊎_elim (λ (t : (j ≡ id) × (both ≡ u)). subst (λ (x : ℕ × View O E). Knows size f x.0 x.1) (λ i. (sym t.0 i, t.1 i)) mine)
      (λ (t : (j ≢ id) × (get_elem? views j ≡ some u)). others j u t.0 not_other t.1) (at_set views id j both u e))

  was_there : (views : List (View O E)) (id other : ℕ) (both w : View O E) → (other ≡ id → ⊥) → get_elem? (set views id both) other ≡ some w → get_elem? views other ≡ some w
  was_there views id other both w apart there = ⊎_elim (λ (t : (other ≡ id) × (both ≡ w)). absurd (apart t.0)) (λ (t : (other ≢ id) × (get_elem? views other ≡ some w)). t.1) (at_set views id other both w there)

  -- an idle pass is joined to the turn
  joins_own : (id other : ℕ) (v w : View O E) (turn : TurnView) (own : PassView E) → v.turn ≡ Some turn → w.pass ≡ Some own → w.progress ≡ progress.Idle → Joins Rule id v other w (with_pass v w) spent_view
  joins_own id other v w turn own is_turn is_pass idle s r at apart there =
      let was = was_there s.views id other (with_pass v w) w apart there in
      let k = r.seats id v at in
      let h = the_turn applied lawful permitted stands size s r id v turn at is_turn in
      let fits = the_pass applied lawful permitted stands size s r other w own was is_pass in
      let n = length v.seen.history in
      let f = moved r.facts own.number id (length v.seen.history) in
      let l = inside s r own.number fits.made in
      let stage_idle : stage_at r.facts.stages own.number ≡ stage.Idle = fits.stage_is ∙ ap stage_of idle in
      let whole : length v.seen.history ≡ length r.facts.all.history = ap (λ (x : Seen O E). length x.history) h.seen_is in
      let old : get_or r.facts.seen own.number 0 ≤ length r.facts.all.history = r.sound.not_ahead own.number l.0 in record {
        facts = f;
        made = r.made;
        authors = r.authors;
        allowed = r.allowed;
        sound = seen_rises s r own.number n l.0 stage_idle (omega arith) (omega arith);
        seats = joined_seats f s.views id other (with_pass v w)
            (record {
              seen = k.seen;
              told = (r.seats other w was).seen;
              pass = subst (PassFits size f id v.seen v.progress) (sym is_pass) (record {
                made = fits.made;
                at = put_here r.facts.owner own.number id;
                entries = fits.entries;
                pinned = fits.pinned;
                seen_length = get_or-set_same r.facts.seen own.number (length v.seen.history) 0 l.1;
                stage_is = stage_idle ∙ ap stage_of (sym h.idle);
                kept = subst (ProgressFits r.facts.turn.kept own.pinned) (sym h.idle) tt;
                told = idle_fits_told v.seen.opening v.progress h.idle;
                chunks = fits.chunks;
              });
              turn = subst (TurnFits f id v.seen v.progress) (sym is_turn) (record { writer = h.writer; turn_is = h.turn_is; seen_is = h.seen_is; idle = h.idle });
            })
            (λ j u not_id not_other e. moved_else r.facts own.number id (length v.seen.history) j u (λ e'. not_other (sym e' ∙ fits.at)) (r.seats j u e));
        held = held_else (set s.views id (with_pass v w)) r.facts.writer other spent_view (held_set s.views r.facts.writer id v (with_pass v w) r.held at refl) (λ same. apart (sym (h.writer ∙ same)));
        versions = versions_still applied lawful permitted stands size r.facts f refl refl refl r.facts.all.opening r.versions;
        namings = r.namings;
        namers = r.namers;
        copied = r.copied;
        mirror = r.mirror;
      }

  pub joins_pass : (id other : ℕ) (v w : View O E) (n : ℕ) → has_turn v.turn ≡ true → number_of w.pass ≡ n + 1 → is_idle w.progress ≡ true → Joins Rule id v other w (with_pass v w) spent_view
  joins_pass id other v w n has is idle = let t = turn_there v.turn has in let p = pass_there w.pass n is in joins_own id other v w t.0 p.0 t.1 p.1 (idle_is w.progress idle)

  -- a note is joined to a seat
  pub joins_note : (id other : ℕ) (v w : View O E) → has_turn w.turn ≡ false → Joins Rule id v other w (with_note v w) spent_view
  joins_note id other v w no_turn s r at apart there =
      let was = was_there s.views id other (with_note v w) w apart there in
      let k = r.seats id v at in
      let note = r.seats other w was in record {
        facts = r.facts;
        made = r.made;
        authors = r.authors;
        allowed = r.allowed;
        sound = r.sound;
        seats = joined_seats r.facts s.views id other (with_note v w)
            (record { seen = k.seen; told = note.seen; pass = k.pass; turn = k.turn })
            (λ j u not_id not_other e. r.seats j u e);
        held = held_set (set s.views id (with_note v w)) r.facts.writer other w spent_view (held_set s.views r.facts.writer id v (with_note v w) r.held at refl) there (sym no_turn);
        versions = r.versions;
        namings = r.namings;
        namers = r.namers;
        copied = r.copied;
        mirror = r.mirror;
      }

  -- a pass looks, after a note was joined to it
  learns_more : (slots id : ℕ) (m : Me (Unit {0}) (View O E)) (own : PassView E) → m.0.pass ≡ Some own → m.0.turn ≡ None → m.0.progress ≡ progress.Idle
      → Allows Rule slots id m 0 (λ n. n) (learnt (step slots 0 0 0 none) m)
  learns_more slots id m own is_pass no_turn idle s r deep at small =
      let v = m.0 in
      let k = r.seats id v at in
      let fits = the_pass applied lawful permitted stands size s r id v own at is_pass in
      let longer = longer_part r.facts.all v.seen v.told k.seen k.told in
      let n = length (longer_seen v.seen v.told).history in
      let f = record r.facts { seen = set r.facts.seen own.number (length (longer_seen m.0.seen m.0.told).history) } in
      let l = inside s r own.number fits.made in
      let stage_idle : stage_at r.facts.stages own.number ≡ stage.Idle = fits.stage_is ∙ ap stage_of idle in
      let now : length (longer_seen v.seen v.told).history ≤ length r.facts.all.history = begins_length r.facts.all.history (longer_seen v.seen v.told).history longer.0.history in
      let old : length v.seen.history ≤ length (longer_seen v.seen v.told).history = begins_length (longer_seen v.seen v.told).history v.seen.history longer.1.history in
      let had = fits.seen_length in (
        learnt_view v,
        keeps,
        tt,
        subst (λ (ws : List ℕ). Rule record { words = ws; homes = s.homes; views = set s.views id (learnt_view v) }) (sym (set-get_or s.words 0 0)) (record {
          facts = f;
          made = r.made;
          authors = r.authors;
          allowed = r.allowed;
          sound = seen_rises s r own.number n l.0 stage_idle now (omega arith);
          seats = seats_stay (Knows size f) s.views id (learnt_view v)
              (record {
                seen = longer.0;
                told = k.told;
                pass = subst (PassFits size f id (longer_seen v.seen v.told) v.progress) (sym is_pass) (record {
                  made = fits.made;
                  at = fits.at;
                  entries = fits.entries;
                  pinned = fits.pinned;
                  seen_length = get_or-set_same r.facts.seen own.number n 0 l.1;
                  stage_is = fits.stage_is;
                  kept = fits.kept;
                  told = idle_fits_told (longer_seen v.seen v.told).opening v.progress idle;
                  chunks = fits.chunks;
                });
                turn = subst (TurnFits f id (longer_seen v.seen v.told) v.progress) (sym no_turn) tt;
              })
              (λ j u other e. knows_still size r.facts f j u refl refl refl (λ own' fits'. let apart : own'.number ≢ own.number = (λ e'. other (sym fits'.at ∙ ap r.facts.owner e' ∙ fits.at)) in record {
                made = fits'.made;
                at = fits'.at;
                entries = fits'.entries;
                pinned = fits'.pinned;
                seen_length = get_or-set_other r.facts.seen own.number own'.number n 0 apart ∙ fits'.seen_length;
                stage_is = fits'.stage_is;
                kept = fits'.kept;
                told = fits'.told;
                chunks = fits'.chunks;
              }) (r.seats j u e));
          held = held_set s.views r.facts.writer id m.0 (learnt_view m.0) r.held at refl;
          versions = versions_still applied lawful permitted stands size r.facts f refl refl refl r.facts.all.opening r.versions;
          namings = r.namings;
          namers = r.namers;
          copied = r.copied;
          mirror = r.mirror;
        }),
        ((refl, longer.1, longer.2), refl),
      )

  may_learn : (slots id : ℕ) (m : Me (Unit {0}) (View O E)) (n : ℕ) → number_of m.0.pass ≡ n + 1 → has_turn m.0.turn ≡ false → is_idle m.0.progress ≡ true → Allows Rule slots id m 0 (λ n. n) (learnt (step slots 0 0 0 none) m)
  may_learn slots id m n is free idle = let p = pass_there m.0.pass n is in learns_more slots id m p.0 p.1 (no_turn m.0.turn free) (idle_is m.0.progress idle)

  -- and so at a seat that a note was joined to
  pub may_learn_note : (slots id : ℕ) (v w : View O E) (m was : Me (Unit {0}) (View O E)) (n : ℕ) → m ≡ (with_note v w, was.1) → number_of v.pass ≡ n + 1 → has_turn v.turn ≡ false → is_idle v.progress ≡ true → Allows Rule slots id m 0 (λ n. n) (learnt (step slots 0 0 0 none) m)
  may_learn_note slots id v w m was n is of_pass free idle = subst (λ (x : Me (Unit {0}) (View O E)). Allows Rule slots id x 0 (λ n. n) (learnt (step slots 0 0 0 none) x)) (sym is) (may_learn slots id (with_note v w, was.1) n of_pass free idle)
