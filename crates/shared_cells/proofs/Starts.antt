-- The rule holds when the table is made, and while its passes are made.
use Rattle.std.proofs.Common.{◌≡◌, ◌≢◌, ℕ, zero, suc, ◌+◌, ◌<◌, ◌≤◌, List, [], ◌∷◌, ◌++◌, length, get_or, set, refl, sym, ap, ◌∙◌, subst, arith, Option, Some, None}
use Rattle.std.specs.List.{All}
use Rattle.std.proofs.lemmas.List.{get_or-replicate}
use Rattle.std.proofs.lemmas.List.Elements.{All-nil, All-weaker}
use mathlib.Core.Option.{some, some-injective, some-ne-none}
use lib.ListN.{get_elem?}
use Rattle.atomic_table.specs.Table.{State, Splits, opening}
use Rattle.pin_core.specs.declared.kept.CellAt.{CellAt}
use Rattle.pin_core.specs.declared.kept.Stage.TheVariants as stage
use Rattle.pin_core.specs.Machine.{started}
use Rattle.pin_core.proofs.Openings.{opening_sound}
use Rattle.shared_cells.specs.declared.view.TableSize.{TableSize}
use Rattle.shared_cells.specs.declared.view.Entry.{Entry}
use Rattle.shared_cells.specs.declared.view.Naming.{Naming}
use Rattle.shared_cells.specs.declared.view.Seen.{Seen}
use Rattle.shared_cells.specs.declared.view.Progress.{Progress}
use Rattle.shared_cells.specs.declared.view.Progress.TheVariants as progress
use Rattle.shared_cells.specs.declared.view.PassView.{PassView}
use Rattle.shared_cells.specs.declared.view.TurnView.{TurnView}
use Rattle.shared_cells.specs.declared.view.View.{View}
use Rattle.shared_cells.specs.History.{nothing_seen, entries_by}
use Rattle.shared_cells.specs.Views.{core_size, first_turn, first_view, unopened_view, pass_view}
use Rattle.shared_cells.specs.Rule.{Facts, OwnFits, HasAll, Knows, NamingFits, VersionsFit, IsSoundTable}
use Rattle.shared_cells.proofs.Lists.{put, put_here, put_else, seats_grow, nothing_begins}
use Rattle.shared_cells.proofs.Holding.{held_set, held_more}
use Rattle.shared_cells.proofs.Knowing.{knows_else, the_turn}

module _ {O E : Type 0} (applied : O → E → O) (lawful : O → O → Type 0) (permitted : E → Type 0) (stands : List CellAt → Option ℕ → O → Type 0) (size : TableSize) where
  abbrev Rule : State (Unit {0}) (View O E) → Type 0
  Rule = IsSoundTable applied lawful permitted stands size

  abbrev first_facts : Facts O E
  first_facts = record { turn = first_turn size; all = nothing_seen; writer = 0; stages = (started (core_size size)).stages; seen = (started (core_size size)).seen; owner = λ _. 0; pinned = λ _. [] }

  pub starts : (words : List ℕ) → words ≡ (started (core_size size)).words → size.passes ≤ 64 → size.chunks ≤ 4096 → Rule (opening words [] (first_view size))
  starts words is few_passes few_chunks = subst (λ (ws : List ℕ). Rule (opening ws [] (first_view size))) (sym is) (record {
    facts = first_facts;
    made = omega arith;
    authors = All-nil (λ (e : Entry E). e.author < 0);
    allowed = All-nil (λ (e : Entry E). permitted e.change);
    sound = opening_sound (core_size size) None [] few_passes few_chunks refl;
    seats = first;
    held = record { view = first_view size; at = refl; turn = refl };
    versions = (refl, λ p l. get_or-replicate size.passes p stage.Idle stage.Idle l);
    namings = All-nil (NamingFits (started (core_size size)).words first_facts.pinned);
    namers = All-nil (λ (n : Naming). n.pass < size.passes);
    copied = refl;
    mirror = λ i l. refl;
  })
    where
      first : (j : ℕ) (v : View O E) → get_elem? (first_view size ∷ []) j ≡ some v → Knows size first_facts j v
      first zero v e = subst (Knows size first_facts 0) (some-injective (first_view size) v e)
          (record { seen = nothing_begins nothing_seen; told = nothing_begins nothing_seen; pass = refl; turn = record { writer = refl; turn_is = refl; seen_is = refl; idle = refl } })
      first (suc j) v e = absurd (some-ne-none v (sym e))

  module _ (s : State (Unit {0}) (View O E)) (r : Rule s) (id made : ℕ) (h : HasAll r.facts id nothing_seen progress.Idle (record (first_turn size) { made = made })) (room : made < size.passes) where
    same_made : made ≡ r.facts.turn.made
    same_made = ap (λ (t : TurnView). t.made) h.turn_is

    unopened : VersionsFit applied lawful permitted stands size r.facts None
    unopened = subst (VersionsFit applied lawful permitted stands size r.facts) (sym (ap (λ (all : Seen O E). all.opening) h.seen_is)) r.versions

    no_history : r.facts.all.history ≡ []
    no_history = ap (λ (all : Seen O E). all.history) unopened.0

    -- the facts once the pass of the next number is made
    abbrev with_pass_made : Facts O E
    with_pass_made = record r.facts { turn = record r.facts.turn { made = r.facts.turn.made + 1 }; owner = put r.facts.owner made (length s.views); pinned = put r.facts.pinned made [] }

    others_fit : (j : ℕ) (seen : Seen O E) (p : Progress) (own : PassView E) → OwnFits size r.facts j seen p own → OwnFits size with_pass_made j seen p own
    others_fit j seen p own fits = record {
      made = (let l = fits.made in omega arith);
      at = put_else r.facts.owner made (length s.views) own.number apart ∙ fits.at;
      entries = fits.entries;
      pinned = fits.pinned ∙ sym (put_else r.facts.pinned made [] own.number apart);
      seen_length = fits.seen_length;
      stage_is = fits.stage_is;
      kept = fits.kept;
      told = fits.told;
      chunks = fits.chunks;
    }
      where
        apart : own.number ≢ made
        apart e = let m = same_made in let l = fits.made in omega arith

    new_fits : OwnFits size with_pass_made (length s.views) nothing_seen progress.Idle (record { number = made; chunks = size.chunks; entries = []; pinned = [] })
    new_fits = record {
      made = (let m = same_made in omega arith);
      at = put_here r.facts.owner made (length s.views);
      entries = sym (ap (entries_by made) no_history);
      pinned = sym (put_here r.facts.pinned made []);
      seen_length = (let l : get_or r.facts.seen made 0 ≤ length r.facts.all.history = r.sound.not_ahead made room in let n : length r.facts.all.history ≡ 0 = ap length no_history in omega arith);
      stage_is = unopened.1 made room;
      kept = tt;
      told = refl;
      chunks = refl;
    }

    versions_on : (o : Option O) → VersionsFit applied lawful permitted stands size r.facts o → VersionsFit applied lawful permitted stands size with_pass_made o
    versions_on None fits = fits
    versions_on (Some o) fits = fits

    pass_made : get_elem? s.views id ≡ some (unopened_view size made) → Rule record { words = s.words; homes = s.homes; views = set s.views id (unopened_view size (made + 1)) ++ pass_view made size.chunks ∷ [] }
    pass_made at = record {
      facts = with_pass_made;
      made = (let m = same_made in omega arith);
      authors = All-weaker (λ (e : Entry E). e.author < r.facts.turn.made) (λ (e : Entry E). e.author < r.facts.turn.made + 1) (λ e l. omega arith) r.facts.all.history r.authors;
      allowed = r.allowed;
      sound = r.sound;
      seats = seats_grow (Knows size with_pass_made) s.views id (unopened_view size (made + 1)) (pass_view made size.chunks)
          (let k = r.seats id (unopened_view size made) at in record { seen = k.seen; told = k.told; pass = refl; turn = record { writer = h.writer; turn_is = ap (λ (t : TurnView). record t { made = t.made + 1 }) h.turn_is; seen_is = h.seen_is; idle = refl } })
          (record { seen = nothing_begins r.facts.all; told = nothing_begins r.facts.all; pass = new_fits; turn = tt })
          (λ j u other e. knows_else size r.facts with_pass_made j u (λ same. other (same ∙ sym h.writer)) (λ part p. p) (others_fit j u.seen u.progress) (r.seats j u e));
      held = held_more (set s.views id (unopened_view size (made + 1))) (pass_view made size.chunks ∷ []) r.facts.writer (held_set s.views r.facts.writer id (unopened_view size made) (unopened_view size (made + 1)) r.held at refl);
      versions = versions_on r.facts.all.opening r.versions;
      namings = subst (λ (all : Seen O E). All (NamingFits s.words with_pass_made.pinned) all.namings) (sym unopened.0) (All-nil (NamingFits s.words with_pass_made.pinned));
      namers = r.namers;
      copied = r.copied;
      mirror = r.mirror;
    }

  -- the pass of the next number is made
  pub splits_new : (id made : ℕ) → made < size.passes → Splits Rule id (unopened_view size made) (unopened_view size (made + 1)) (pass_view made size.chunks)
  splits_new id made room s r at = pass_made s r id made (the_turn applied lawful permitted stands size s r id (unopened_view size made) (record (first_turn size) { made = made }) at refl) room at
