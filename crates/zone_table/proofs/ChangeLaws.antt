-- What becomes of a change of the table, by what its transaction tells.
use Rattle.std.proofs.Common.{◌≡◌, ◌⊎◌, ◌∙◌, inl, inr, ⊎_elim, ℕ, ◌+◌, ◌≤◌, Bool, true, false, cond, List, [], ◌∷◌, ◌++◌, length, Option, Some, None, Result, Ok, Err, arith, refl, sym, ap, subst, length-append, append-nil}
use Rattle.std.specs.Prelude.{◌≢◌, ◌↔◌, IsSome, IsSomeAnd, IfSome, IfOk, IfErr, IsOk, IsErr, MatchResult, unwrap_or}
use Rattle.std.specs.List.{AllByRecursion, filter}
use Rattle.std.proofs.lemmas.List.Elements.{All-contains}
use Rattle.std.proofs.lemmas.List.Sums.{fold-append}
use Rattle.zone_model.specs.Names.{Name, IsName}
use Rattle.trie_model.specs.Keys.{Entry, InList, Rises}
use Rattle.trie_model.proofs.KeyLaws.{in_both}
use Rattle.trie_model.proofs.OrderLaws.{rises_tree}
use Rattle.trie_space.specs.Standing.{Standing}
use Rattle.packed_node.specs.declared.Cell.{Cell}
use Rattle.trie_model.specs.Capacity.{is_roomy}
use Rattle.pin_core.specs.declared.version.Spent.{Spent as NoNumber}
use Rattle.shared_cells.specs.declared.view.Entry.{Entry as Commit}
use Rattle.shared_cells.specs.History.{IsPartOf, entries_by, entry_of, version_after}
use Rattle.shared_cells.specs.Views.{is_told}
use Rattle.qp_multi.specs.declared.commit.Receipt.{Receipt}
use Rattle.qp_multi.specs.declared.meaning.Named.{Ghosts}
use Rattle.qp_multi.specs.declared.pass.Pass.{Pass}
use Rattle.qp_multi.specs.declared.writer.WorkingVersion.{WorkingVersion}
use Rattle.qp_multi.specs.declared.meaning.Operation.{Operation}
use Rattle.qp_multi.specs.declared.meaning.Operation.TheVariants.{Insert, Delete}
use Rattle.qp_multi.specs.Bases.{CommitsAreWithin}
use Rattle.qp_multi.specs.Bounds.{BoundsWorking, IsCramped}
use Rattle.qp_multi.specs.declared.refusal.OutOfSpace.{OutOfSpace}
use Rattle.qp_multi.specs.Attempts.{Does}
use Rattle.qp_multi.specs.Calls.{IsOutOfRoom}
use Rattle.qp_multi.specs.WorkingVersions.{Begins, Commits, IsBack, Between, base_of, working_set}
use Rattle.qp_multi.specs.Keepings.{GoesOn}
use Rattle.qp_multi.specs.Operations.{operated, applied, below, above, AreWithin}
use Rattle.qp_multi.specs.Passes.{Known, known_at, first_version, version_seen}
use Rattle.qp_multi.specs.Receipts.{Recycles}
use Rattle.qp_multi.proofs.GoesLaws.{base_goes_on, first_goes_on}
use Rattle.qp_multi.proofs.WorkLaws.{Both, both}
use Rattle.zone_table.specs.Changes.{IsChanged, IsReceipt, IsUnchanged, last_number}
use Rattle.zone_table.specs.declared.change.TableRefusal.{TableRefusal}
use Rattle.zone_table.specs.declared.change.TableRefusal.TheVariants.{Spent}
use Rattle.zone_table.specs.Passes.{IsPassOf, table_known}
use Rattle.zone_table.specs.Tables.{IsTable, IsAmong}
use Rattle.zone_table.specs.declared.pass.ZonesPass.{ZonesPass}
use Rattle.zone_table.proofs.AttachLaws.{Ends, ends_grow, opening_after, opening_unchanged}
use Rattle.zone_table.proofs.CapacityLaws.{few_cells}
use Rattle.zone_table.proofs.KnownLaws.{Seat, opened_same, opening_fits, part_more, part_of, seat_told}
use Rattle.zone_table.proofs.RememberLaws.{remembers_later}

-- ---- working versions that are there

pub there_is : (P : WorkingVersion → Type 0) (o : Option WorkingVersion) (d : WorkingVersion) → o ≡ Some d → IfSome o P → P d
there_is P o d is h = subst (λ (x : Option WorkingVersion). IfSome x P) is h

pub there_and : (P : WorkingVersion → Type 0) (o : Option WorkingVersion) (d : WorkingVersion) → o ≡ Some d → IsSomeAnd o P → P d
there_and P o d is h = subst (λ (x : Option WorkingVersion). IsSomeAnd x P) is h

pub some_and : (P : WorkingVersion → Type 0) (o : Option WorkingVersion) (d : WorkingVersion) → o ≡ Some d → P d → IsSomeAnd o P
some_and P o d is p = subst (λ (x : Option WorkingVersion). IsSomeAnd x P) (sym is) p

-- ---- what is in a version

kept_one : (b : Bool) (y x : Entry) (rest all : List Entry) → (InList x rest → InList x all) → InList x (cond b (y ∷ rest) rest) → InList x (y ∷ all)
kept_one true y x rest all more i = elim i [ inl e ↦ inl e | inr r ↦ inr (more r) ]
kept_one false y x rest all more i = inr (more i)

in_filter : (f : Entry → Bool) (xs : List Entry) (x : Entry) → InList x (filter f xs) → InList x xs
in_filter f [] x i = i
in_filter f (y ∷ ys) x i = kept_one (f y) y x (filter f ys) ys (in_filter f ys x) i

-- what an operation puts in
abbrev pub Puts : List Entry → Operation → Type 0
Puts first o = (es : List Entry) (x : Entry) → InList x (operated es o) → InList x es ⊎ InList x first

pub insert_puts : (first : List Entry) (e : Entry) → InList e first → Puts first (Insert e)
insert_puts first e there es x i = ⊎_elim
    (λ (l : InList x (below e.key es)). inl (in_filter _ es x l))
    (λ (r : InList x (e ∷ above e.key es)). ⊎_elim (λ (s : x ≡ e). inr (subst (λ (y : Entry). InList y first) (sym s) there)) (λ (m : InList x (above e.key es)). inl (in_filter _ es x m)) r)
    (in_both x (below e.key es) (e ∷ above e.key es) i)

pub delete_puts : (first : List Entry) (key : List ℕ) → Puts first (Delete key)
delete_puts first key es x i = ⊎_elim (λ (l : InList x (below key es)). inl (in_filter _ es x l)) (λ (r : InList x (above key es)). inl (in_filter _ es x r)) (in_both x (below key es) (above key es) i)

standing_rises : (has : ℕ → Cell → Type 0) (used : ℕ → Bool) (live : ℕ → ℕ) (root : Option ℕ) (es : List Entry) → Standing has used live root es → Rises es
standing_rises has used live None es s = subst Rises (sym s.0) tt
standing_rises has used live (Some r) es s = subst Rises s.1.trie.holds (rises_tree 0 s.0 s.1.trie.shape)

-- ---- a transaction that has begun

module _ (origins : List Name) (old : Known) (d : WorkingVersion) (told : is_told old.seen.opening ≡ true) (table : IsTable origins (first_version old.seen)) (b : Begins IsAmong old d) where
  pub base_first : first_version d.seat.place.me.0.seen ≡ first_version old.seen
  base_first = opened_same d.seat.place.me.0.seen old.seen told b.joined.grows

  base_table : IsTable origins (first_version d.seat.place.me.0.seen)
  base_table = subst (IsTable origins) (sym base_first) table

  set_begun : working_set d ≡ version_seen d.seat.place.me.0.seen
  set_begun = ap (applied (base_of d)) b.none_done

  -- its index has room
  pub never_cramped : AllByRecursion IsName origins → length origins ≤ 16 → CommitsAreWithin (Some 1) d.seat.place.me.0 → d.seat.passes ≤ 17 → length d.usage.given ≡ 512 → IsCramped d → ⊥
  never_cramped names few within passes chunks cramped = cramped 287 1 bounds roomy
    where
      bounds : BoundsWorking 287 1 d
      bounds = record {
        some = omega arith;
        history = record {
          versions = λ part s.
              few_cells origins (version_after applied (first_version d.seat.place.me.0.seen) part) names few (part_of origins (first_version d.seat.place.me.0.seen) (version_after applied (first_version d.seat.place.me.0.seen) part) base_table (b.joined.versions part s));
          commits = λ c i. All-contains (λ (x : Commit (List Operation)). AreWithin (Some 1) x.change) d.seat.place.me.0.seen.history c within i;
        };
        operations = (let n = ap (λ (l : List Operation). length l) b.none_done in omega arith);
      }

      roomy : is_roomy d.seat.passes 287 1 (length d.usage.given)
      roomy = omega arith

  module _ (e : WorkingVersion) (known : GoesOn d.seat.place.me.0 e.seat.place.me.0) where
    later_base : version_seen e.seat.place.me.0.seen ≡ version_seen d.seat.place.me.0.seen
    later_base = base_goes_on known

    goes_part : IsPartOf e.seat.place.me.0.seen d.seat.place.me.0.seen
    goes_part = record {
      opening = opening_fits e.seat.place.me.0.seen d.seat.place.me.0.seen d.seat.told known.opening;
      history = ([], known.history ∙ sym (append-nil d.seat.place.me.0.seen.history));
      namings = known.namings;
    }

    pub grown : IsPartOf e.seat.place.me.0.seen old.seen
    grown = part_more e.seat.place.me.0.seen d.seat.place.me.0.seen old.seen told goes_part b.joined.grows

    -- what is known of the base holds at the end
    pub met_later : (meets : List Entry → Type 0) → meets (working_set d) → meets (version_seen e.seat.place.me.0.seen)
    met_later meets m = subst meets (sym later_base) (subst meets set_begun m)

    -- the pass is back, and nothing was published
    pub unchanged : (meets : List Entry → Type 0) (seat : Option Seat) (number : ℕ) → meets (working_set d) → IsBack e.seat.place.me.0 seat → number ≡ length d.seat.place.me.0.seen.history → IsUnchanged meets old (known_at seat) number
    unchanged meets seat number m back is = record {
      grows = subst (λ (v : Known). IsPartOf v.seen old.seen) (sym back.1) grown;
      pass = ap (λ (v : Known). v.pass) back.1 ∙ known.pass ∙ b.joined.pass;
      number_is = is ∙ sym (ap (λ (h : List (Commit (List Operation))). length h) known.history) ∙ sym (ap (λ (v : Known). length v.seen.history) back.1);
      met = subst (λ (v : Known). meets (version_seen v.seen)) (sym back.1) (met_later meets m);
    }

    module _ (o : Operation) (log : e.log.operations ≡ d.log.operations ++ o ∷ []) where
      one_done : e.log.operations ≡ o ∷ []
      one_done = log ∙ ap (λ (l : List Operation). l ++ o ∷ []) b.none_done

      set_done : working_set e ≡ operated (version_seen e.seat.place.me.0.seen) o
      set_done = ap (applied (base_of e)) one_done

      -- it may be committed
      pub lawful_after : Puts (first_version old.seen) o → Rises (working_set e) → IsAmong (first_version e.seat.place.me.0.seen) (working_set e)
      lawful_after puts rises = record {
        rising = rises;
        each = λ x i. subst (InList x) (sym (first_goes_on known ∙ base_first)) (at x (puts (version_seen e.seat.place.me.0.seen) x (subst (InList x) set_done i)));
      }
        where
          at : (x : Entry) → InList x (version_seen e.seat.place.me.0.seen) ⊎ InList x (first_version old.seen) → InList x (first_version old.seen)
          at x (inl l) = subst (InList x) base_first (b.joined.good.each x (subst (InList x) later_base l))
          at x (inr r) = r

      -- it was committed
      pub changed : (meets : List Entry → Type 0) (new : Known) (number : ℕ) → meets (working_set d) → e.seat.version ≢ last_number → Commits e.seat.place.me.0 e.log.operations new → number ≡ e.seat.version + 1 → IsChanged meets old new o number
      changed meets new number m room c is = record {
        base = e.seat.place.me.0.seen;
        grows = grown;
        met = met_later meets m;
        next = λ h. room (e.seat.version_is ∙ h);
        own = c.own;
        by = sym (known.pass ∙ b.joined.pass) ∙ c.joined;
        mine = b.joined.commits c.own (sym known.pass ∙ c.joined) ∙ ap (entries_by c.own.number) (sym known.history);
        opening = c.opening;
        history = history;
        namings = c.namings;
        pass = c.pass ∙ ap (λ (l : List Operation). Some (record c.own { entries = c.own.entries ++ entry_of c.own.number l ∷ [] })) one_done;
        number_is = (let n = ap (λ (h : List (Commit (List Operation))). length h) history ∙ length-append e.seat.place.me.0.seen.history (entry_of c.own.number (o ∷ []) ∷ []) in let v = e.seat.version_is in omega arith);
        version_is =
            ap (λ (x : Option (List Entry)). version_after applied (unwrap_or x []) new.seen.history) c.opening ∙ ap (version_after applied (first_version e.seat.place.me.0.seen)) history
            ∙ fold-append (λ (es : List Entry) (x : Commit (List Operation)). applied es x.change) (first_version e.seat.place.me.0.seen) e.seat.place.me.0.seen.history (entry_of c.own.number (o ∷ []) ∷ []);
      }
        where
          history : new.seen.history ≡ e.seat.place.me.0.seen.history ++ entry_of c.own.number (o ∷ []) ∷ []
          history = c.history ∙ ap (λ (l : List Operation). e.seat.place.me.0.seen.history ++ entry_of c.own.number l ∷ []) one_done

-- ---- by what its call and its end tell

module _ {E X : Type 0} {N : Ghosts X} (refusal : E) (o : Operation) (denied : List Entry → Type 0) (origins : List Name) (p : ZonesPass X N) (is : IsPassOf origins p) (first second : Option WorkingVersion)
    (begins : IsSomeAnd first (Begins IsAmong (table_known p))) where
  abbrev old : Known
  old = table_known p

  told : is_told (table_known p).seen.opening ≡ true
  told = seat_told p.table.seat is.table_here

  table : IsTable origins (first_version (table_known p).seen)
  table = is.opening

  -- the call did the operation or not
  abbrev pub Calls : Result (Unit {0}) E → Type 0
  Calls r = Between (λ d e. Does o denied d e (IsOk r) (r ≡ Err refusal)) first second

  abbrev Two : Result (Unit {0}) E → Type 0
  Two r = Both (Begins IsAmong old) (λ d e. Does o denied d e (IsOk r) (r ≡ Err refusal)) first second

  two : (r : Result (Unit {0}) E) → Calls r → Two r
  two r calls = both (Begins IsAmong old) (λ d e. Does o denied d e (IsOk r) (r ≡ Err refusal)) first second begins calls

  pub may_commit : Calls (Ok tt) → Puts (first_version old.seen) o → IsSomeAnd second (λ d. IsAmong (first_version d.seat.place.me.0.seen) (working_set d))
  may_commit calls puts =
      let x = two (Ok tt) calls in
      some_and (λ d. IsAmong (first_version d.seat.place.me.0.seen) (working_set d)) second x.after x.new_is
      (lawful_after origins old x.before told table x.met x.after x.related.operates.known o (x.related.operates.done refl) puts (standing_rises _ _ _ x.after.root (working_set x.after) x.related.operates.works.stands))

  is_refused : (seat : Option Seat) (number : ℕ) → Calls (Err refusal) → IfSome second (λ d. IsBack d.seat.place.me.0 seat) → IfSome first (λ d. number ≡ length d.seat.place.me.0.seen.history) → IsUnchanged denied old (known_at seat) number
  is_refused seat number calls back here =
      let x = two (Err refusal) calls in
      unchanged origins old x.before told table x.met x.after x.related.operates.known denied seat number (x.related.operates.refused.0 refl)
      (there_is (λ d. IsBack d.seat.place.me.0 seat) second x.after x.new_is back) (there_is (λ d. number ≡ length d.seat.place.me.0.seen.history) first x.before x.old_is here)

  accepted : (x : Two (Ok tt)) → denied (working_set x.before) → ⊥
  accepted x h = let bad : ◌≡◌ {A = Result (Unit {0}) E} (Ok tt) (Err refusal) = x.related.operates.refused.1 h in absurd cc

  -- its commit made a version, or there was no number for one
  is_ended : (seat : Option Seat) (r : Result Receipt NoNumber) → Calls (Ok tt)
      → IfOk r (λ _. IfSome second (λ d. Commits d.seat.place.me.0 d.log.operations (known_at seat))) → IfOk r (λ t. IfSome second (λ d. t.version ≡ d.seat.version + 1))
      → IfErr r (λ _. IfSome second (λ d. IsBack d.seat.place.me.0 seat)) → IfSome second (λ d. IsErr r ↔ (d.seat.version ≡ last_number)) → IfErr r (λ s. IfSome second (λ d. s.version ≡ d.seat.version)) → Ends (λ es. denied es → ⊥) old (known_at seat) o r
  is_ended seat (Ok t) calls commits next back spent last =
      let x = two (Ok tt) calls in
      let exact = there_is (λ d. IsErr {T = Receipt} {E = NoNumber} (Ok t) ↔ (d.seat.version ≡ last_number)) second x.after x.new_is spent in
      changed origins old x.before told table x.met x.after x.related.operates.known o (x.related.operates.done refl) (λ es. denied es → ⊥) (known_at seat) t.version (accepted x)
      (λ h. let bad = exact.1 h in absurd cc)
      (there_is (λ d. Commits d.seat.place.me.0 d.log.operations (known_at seat)) second x.after x.new_is commits) (there_is (λ d. t.version ≡ d.seat.version + 1) second x.after x.new_is next)
  is_ended seat (Err s) calls commits next back spent last =
      let x = two (Ok tt) calls in
      let exact = there_is (λ d. IsErr {T = Receipt} {E = NoNumber} (Err s) ↔ (d.seat.version ≡ last_number)) second x.after x.new_is spent in
      let number : s.version ≡ x.after.seat.version = there_is (λ d. s.version ≡ d.seat.version) second x.after x.new_is last in
      let base : s.version ≡ length x.before.seat.place.me.0.seen.history = number ∙ x.after.seat.version_is ∙ ap (λ (h : List (Commit (List Operation))). length h) x.related.operates.known.history in (
        unchanged origins old x.before told table x.met x.after x.related.operates.known (λ es. denied es → ⊥) seat s.version (accepted x) (there_is (λ d. IsBack d.seat.place.me.0 seat) second x.after x.new_is back) base,
        number ∙ exact.0 refl,
      )

  -- what the index tells of its commit
  pub receipt_told : (new : Known) (r : Result Receipt NoNumber) (q : Result Receipt TableRefusal) → Calls (Ok tt) → IfOk r (λ t. IfSome second (λ d. Recycles 8 d new t)) → MatchResult r (λ t. q ≡ Ok t) (λ s. q ≡ Err (Spent s.version)) → IfOk q (IsReceipt old new)
  receipt_told new (Ok t) q calls recycles is =
      let x = two (Ok tt) calls in
      subst (λ (z : Result Receipt TableRefusal). IfOk z (IsReceipt old new)) (sym is)
      (record { first = x.before; begins = x.met; last = x.after; goes_on = x.related.operates.known; recycles = there_is (λ d. Recycles 8 d new t) second x.after x.new_is recycles })
  receipt_told new (Err s) q calls recycles is = subst (λ (z : Result Receipt TableRefusal). IfOk z (IsReceipt old new)) (sym is) tt

  -- the pass of the table is in its place again
  with_table : (t : Pass X N) → IsSome t.seat → t.place ≡ 0 → IsTable origins (first_version (known_at t.seat).seen) → IsPartOf (known_at t.seat).seen old.seen → IsPassOf origins (record p { table = t })
  with_table t here place opening grows = record {
    table_here = here;
    table_place = place;
    opening = opening;
    zones_here = is.zones_here;
    zone_places = is.zone_places;
    remembers = remembers_later origins (known_at t.seat).seen old.seen p.remembered.version p.remembered.attached grows is.remembers;
  }

  -- behind a commit
  pub record Committed (t : Pass X N) (r : Result Receipt NoNumber) : Type 0 where
    pub pass : IsPassOf origins (record p { table = t })
    pub ends : Ends (λ es. denied es → ⊥) old (known_at t.seat) o r

  pub committed : (t : Pass X N) (r : Result Receipt NoNumber) → Calls (Ok tt) → IsSome t.seat → t.place ≡ 0
      → IfOk r (λ _. IfSome second (λ d. Commits d.seat.place.me.0 d.log.operations (known_at t.seat))) → IfOk r (λ s. IfSome second (λ d. s.version ≡ d.seat.version + 1))
      → IfErr r (λ _. IfSome second (λ d. IsBack d.seat.place.me.0 t.seat)) → IfSome second (λ d. IsErr r ↔ (d.seat.version ≡ last_number)) → IfErr r (λ s. IfSome second (λ d. s.version ≡ d.seat.version)) → Committed t r
  committed t r calls here place commits next back spent last =
      let ends = is_ended t.seat r calls commits next back spent last in
      record { pass = with_table t here place (opening_after (λ es. denied es → ⊥) origins old (known_at t.seat) o r told table ends) (ends_grow (λ es. denied es → ⊥) old (known_at t.seat) o r told ends); ends = ends }

  -- where nothing was done
  pub record Refused (t : Pass X N) (number : ℕ) : Type 0 where
    pub pass : IsPassOf origins (record p { table = t })
    pub unchanged : IsUnchanged denied old (known_at t.seat) number

  pub refused : (t : Pass X N) (number place : ℕ) → Calls (Err refusal) → IfSome second (λ d. IsBack d.seat.place.me.0 t.seat) → IfSome second (λ _. t.place ≡ place) → place ≡ 0
      → IfSome first (λ d. number ≡ length d.seat.place.me.0.seen.history) → Refused t number
  refused t number place calls back at first_place here =
      let x = two (Err refusal) calls in
      let same = is_refused t.seat number calls back here in
      record {
        pass = with_table t (there_is (λ d. IsBack d.seat.place.me.0 t.seat) second x.after x.new_is back).0 (there_is (λ _. t.place ≡ place) second x.after x.new_is at ∙ first_place)
            (opening_unchanged denied origins old (known_at t.seat) number told table same) same.grows;
        unchanged = same;
      }

  pub has_room : AllByRecursion IsName origins → length origins ≤ 16 → IsSomeAnd first (λ d. CommitsAreWithin (Some 1) d.seat.place.me.0) → IsSomeAnd first (λ d. d.seat.passes ≤ 17) → IsSomeAnd first (λ d. length d.usage.given ≡ 512) → IsSomeAnd first IsCramped → ⊥
  has_room names few within passes chunks cramped = go first refl begins
    where
      go : (f : Option WorkingVersion) → first ≡ f → IsSomeAnd f (Begins IsAmong old) → ⊥
      go (Some d) is b =
          never_cramped origins old d told table b names few (there_and (λ x. CommitsAreWithin (Some 1) x.seat.place.me.0) first d is within) (there_and (λ x. x.seat.passes ≤ 17) first d is passes)
          (there_and (λ x. length x.usage.given ≡ 512) first d is chunks) (there_and IsCramped first d is cramped)
      go None is b = b

-- what a call that finds no room tells of the working version that it was given
pub out_of_room : (key : List ℕ) (written : ℕ) (asks : List ℕ → List ℕ) (f : OutOfSpace) (old new : Option WorkingVersion) → Between (IsOutOfRoom key written asks f) old new → IsSomeAnd old IsCramped
out_of_room key written asks f (Some d) (Some e) r = r.cramped
out_of_room key written asks f (Some d) None r = absurd r
out_of_room key written asks f None (Some e) r = absurd r
out_of_room key written asks f None None r = absurd r

pub one_and : (P Q : WorkingVersion → Type 0) (o : Option WorkingVersion) → ((d : WorkingVersion) → P d → Q d) → IsSomeAnd o P → IsSomeAnd o Q
one_and P Q (Some d) f p = f d p
one_and P Q None f p = p
