-- What a transaction's working set is after an operation, and after a round.
use Rattle.std.proofs.Common.{◌≡◌, ◌↔◌, ◌⊎◌, ◌∙◌, ⊎_elim, inl, inr, ℕ, List, [], ◌∷◌, ◌++◌, length, Option, Some, None, Result, Ok, Err, refl, sym, ap, subst, append_assoc}
use Rattle.std.specs.Prelude.{IsOk, IfSome, IsSomeAnd}
use Rattle.std.specs.List.{Contains}
use Rattle.std.proofs.lemmas.List.Elements.{Contains-append_left}
use Rattle.trie_model.specs.Keys.{Entry}
use Rattle.chunk_usage.specs.declared.space.Shortage.{Shortage}
use Rattle.chunk_usage.specs.Ledger.{Ledger}
use Rattle.chunk_usage.specs.Handing.{Lacks}
use Rattle.shared_cells.specs.declared.view.Entry.{Entry as Commit}
use Rattle.shared_cells.specs.declared.view.Naming.{Naming}
use Rattle.shared_cells.specs.History.{entry_of}
use Rattle.shared_cells.specs.Views.{words_of}
use Rattle.shared_cells.specs.Steps.{IsNamed}
use Rattle.qp_multi.specs.declared.change.TrieChange.{TrieChange}
use Rattle.trie_write.specs.declared.refusal.NotDone.{NotDone}
use Rattle.trie_write.specs.declared.refusal.NotDone.TheVariants as not_done
use Rattle.trie_write.specs.declared.refusal.NotDone.TheVariants.{Refused}
use Rattle.qp_multi.specs.declared.writer.WorkingVersion.{WorkingVersion}
use Rattle.chunk_usage.specs.Keeping.{freed, kept_versions, narrowed}
use Rattle.qp_multi.specs.declared.kept.Versions.{Versions}
use Rattle.qp_multi.specs.declared.refusal.OutOfSpace.{OutOfSpace}
use Rattle.qp_multi.specs.declared.meaning.Operation.{Operation}
use Rattle.qp_multi.specs.Operations.{operated, applied}
use Rattle.qp_multi.specs.Passes.{Known, version_seen}
use Rattle.qp_multi.specs.Turns.{cells_with}
use Rattle.qp_multi.specs.Bases.{StandsFor}
use Rattle.qp_multi.specs.Attempts.{AreKept, Does, FindsNoRoom}
use Rattle.qp_multi.specs.Bounds.{HasRoom}
use Rattle.qp_multi.specs.Calls.{IsOutOfRoom}
use Rattle.qp_multi.specs.Changes.{operation_of, key_of, written_by, asked_by, IsRefused}
use Rattle.qp_multi.specs.WorkingVersions.{Works, Operates, IsFull, Between, Commits, working_set}
use Rattle.qp_multi.specs.Fulls.{full_with}
use Rattle.qp_multi.specs.Tries.{Tried}
use Rattle.qp_multi.specs.Keepings.{GoesOn, KeptBy, Rounds, versions_in}
use Rattle.qp_multi.proofs.AttemptLaws.{rooted_there}
use Rattle.qp_multi.proofs.GoesLaws.{words_go_on, goes_further, base_goes_on, applied_more}

-- the operation was done
pub operates_done : (c : TrieChange) (old new : WorkingVersion) → Works old → Tried c old.root old.seat.place.me.0 old.usage new.seat.place.me.0 new.usage (Ok new.root) → new.log.operations ≡ old.log.operations ++ operation_of c ∷ [] → new.seat.passes ≡ old.seat.passes
    → Operates (operation_of c) (IsRefused c) old new (IsOk {T = Unit {0}} {E = NotDone} (Ok tt)) (◌≡◌ {A = Result (Unit {0}) NotDone} (Ok tt) (Err Refused))
operates_done c old new works t log passes =
    let v : Known = old.seat.place.me.0 in
    let w : Known = new.seat.place.me.0 in
    let known : GoesOn v w = words_go_on v w (words_of w.turn) t.same in
    let made : applied (version_seen w.seen) new.log.operations ≡ operated (working_set old) (operation_of c) =
    ap (applied (version_seen w.seen)) log
    ∙ ap (λ (es : List Entry). applied es (old.log.operations ++ operation_of c ∷ [])) (base_goes_on known)
    ∙ applied_more (version_seen v.seen) old.log.operations (operation_of c) in
    let told = t.refused (working_set old) works in
    record {
      known = known;
      works = subst (StandsFor w new.usage new.root) (sym made) (t.done (working_set old) works);
      done = λ d. log;
      stays = λ no. absurd (no refl);
      passes = passes;
      refused = (λ e. cc, λ denied. let e = told.1 denied in cc);
    }

-- the words are the same, and rows are dropped
pub stands_narrowed : (v w : Known) (u new : Ledger) (versions : List ℕ) (root : Option ℕ) (es : List Entry) → words_of w.turn ≡ words_of v.turn → new ≡ narrowed u versions → StandsFor v u root es → StandsFor w new root es
stands_narrowed v w u new versions root es words after s =
    let there = rooted_there (cells_with u v.turn) (cells_with u w.turn) refl words u root es s in
    subst (λ (l : Ledger). StandsFor w l root es) (sym after) (record { stands = there.stands; tells = there.tells })

-- a round, and the freeing behind it
pub rounds_of : {current passes : ℕ} {before namings after : List Naming} {u round n : Ledger} → KeptBy current passes before namings (kept_versions round) → round ≡ narrowed u (kept_versions round) → n ≡ freed round → after ≡ namings → Rounds current passes before after u n
rounds_of {current} {passes} {before} {namings} {after} {u} {round} {n} kept narrow free same =
    let stay : kept_versions n ≡ kept_versions round = ap kept_versions free in
    record {
      kept = subst (λ (ns : List Naming). KeptBy current passes before ns (kept_versions n)) (sym same) (subst (KeptBy current passes before namings) (sym stay) kept);
      frees = free ∙ ap freed (narrow ∙ ap (narrowed u) (sym stay));
    }

-- the same set, known by a view that goes on
pub stands_on : (v w : Known) (u : Ledger) (root : Option ℕ) (operations : List Operation) → GoesOn v w → StandsFor w u root (applied (version_seen v.seen) operations) → StandsFor w u root (applied (version_seen w.seen) operations)
stands_on v w u root operations g s = subst (λ (es : List Entry). StandsFor w u root (applied es operations)) (sym (base_goes_on g)) s

-- what was named is so later
pub named_on : {v w : Known} (n : ℕ) → GoesOn v w → IsNamed v n → IsNamed w n
named_on {v} {w} n g named = (named.0, subst (λ (ns : List Naming). Contains ns named.0) (sym g.namings.1) (Contains-append_left v.seen.namings g.namings.0 named.0 named.1), named.2)

pub version_on : {v w : Known} (a b : ℕ) → GoesOn v w → a ≡ length v.seen.history → b ≡ length w.seen.history → b ≡ a
version_on {v} {w} a b g old new = new ∙ ap length g.history ∙ sym old

-- why the call found no room
pub full_of : (room d : WorkingVersion) (full : Shortage) (f : OutOfSpace) → GoesOn room.seat.place.me.0 d.seat.place.me.0 → kept_versions d.usage ≡ kept_versions room.usage → ((n : ℕ) → Contains (kept_versions room.usage) n → (n ≡ room.seat.version) ⊎ IsNamed room.seat.place.me.0 n)
    → (older : List ℕ) × (kept_versions room.usage ≡ older ++ room.seat.version ∷ []) → Lacks d.usage full → f.shortage ≡ full → versions_in f.kept ≡ kept_versions d.usage → IsFull d f
full_of room d full f on same named ends lacks request kept =
    record {
      lacks = subst (Lacks d.usage) (sym request) lacks;
      kept = kept;
      named = λ n h. ⊎_elim
          (λ (e : n ≡ room.seat.version). inl (e ∙ sym (version_on room.seat.version d.seat.version on room.seat.version_is d.seat.version_is)))
          (λ (named_so : IsNamed room.seat.place.me.0 n). inr (named_on n on named_so))
          (named n (subst (λ (ns : List ℕ). Contains ns n) (kept ∙ same) h));
      ends = (ends.0, kept ∙ same ∙ ends.1 ∙ ap (λ (n : ℕ). ends.0 ++ n ∷ []) (sym (version_on room.seat.version d.seat.version on room.seat.version_is d.seat.version_is)));
    }

-- the working set stays where no operation was done
pub set_stays : (room d : WorkingVersion) → GoesOn room.seat.place.me.0 d.seat.place.me.0 → d.log.operations ≡ room.log.operations → working_set d ≡ working_set room
set_stays room d g log = ap (applied (version_seen d.seat.place.me.0.seen)) log ∙ ap (λ (es : List Entry). applied es room.log.operations) (base_goes_on g)

-- what a commit of it makes, after a view that goes on
pub commits_from : {v w : Known} (operations : List Operation) (x : Known) → GoesOn v w → Commits w operations x → Commits v operations x
commits_from {v} {w} operations x g c = record {
  own = c.own;
  joined = sym g.pass ∙ c.joined;
  opening = c.opening ∙ g.opening;
  history = c.history ∙ ap (λ (h : List (Commit (List Operation))). h ++ entry_of c.own.number operations ∷ []) g.history;
  namings = (g.namings.0 ++ c.namings.0, c.namings.1 ∙ ap (λ (ns : List Naming). ns ++ c.namings.0) g.namings.1 ∙ append_assoc v.seen.namings g.namings.0 c.namings.0);
  pass = c.pass;
}

-- an operation after a step that changed nothing of the working set
pub operates_after : (o : Operation) (denied : List Entry → Type 0) (first room d : WorkingVersion) (A B : Type 0) → GoesOn first.seat.place.me.0 room.seat.place.me.0 → room.log.operations ≡ first.log.operations → room.seat.passes ≡ first.seat.passes
    → Operates o denied room d A B → Operates o denied first d A B
operates_after o denied first room d A B on log passes h = record {
  known = goes_further on h.known;
  works = h.works;
  done = λ a. h.done a ∙ ap (λ (os : List Operation). os ++ o ∷ []) log;
  stays = λ no. h.stays no ∙ log;
  passes = h.passes ∙ passes;
  refused = subst (λ (es : List Entry). B ↔ denied es) (set_stays first room on log) h.refused;
}

-- ---- working versions that are there

pub record Both (P : WorkingVersion → Type 0) (R : WorkingVersion → WorkingVersion → Type 0) (old new : Option WorkingVersion) : Type 0 where
  pub before : WorkingVersion
  pub after : WorkingVersion
  pub old_is : old ≡ Some before
  pub new_is : new ≡ Some after
  pub met : P before
  pub related : R before after

pub both : (P : WorkingVersion → Type 0) (R : WorkingVersion → WorkingVersion → Type 0) (old new : Option WorkingVersion) → IsSomeAnd old P → Between R old new → Both P R old new
both P R (Some d) (Some e) p r = record { before = d; after = e; old_is = refl; new_is = refl; met = p; related = r }
both P R (Some d) None p r = absurd r
both P R None (Some e) p r = absurd r
both P R None None p r = absurd r

pub between_as : (R S : WorkingVersion → WorkingVersion → Type 0) (old new : Option WorkingVersion) → ((d e : WorkingVersion) → old ≡ Some d → new ≡ Some e → R d e → S d e) → Between R old new → Between S old new
between_as R S (Some d) (Some e) f r = f d e refl refl r
between_as R S (Some d) None f r = r
between_as R S None (Some e) f r = r
between_as R S None None f r = r

-- the same outcome under other names

operates_as : (o : Operation) (denied : List Entry → Type 0) (old new : WorkingVersion) (A B C D : Type 0) → (C → A) → (A → C) → (B → D) → (D → B) → Operates o denied old new A B → Operates o denied old new C D
operates_as o denied old new A B C D done still forth back h = record {
  known = h.known;
  works = h.works;
  done = λ c. h.done (done c);
  stays = λ no. h.stays (λ a. no (still a));
  passes = h.passes;
  refused = (λ d. h.refused.0 (back d), λ p. forth (h.refused.1 p));
}

-- a refusal, told by another enum
pub refusal_told : {E : Type 0} (o : Operation) (denied : List Entry → Type 0) (old new : Option WorkingVersion) (r : Result (Unit {0}) NotDone) (e : NotDone) (told : E) → r ≡ Err e → e ≡ Refused → Between (λ d f. Does o denied d f (IsOk r) (r ≡ Err Refused)) old new
    → Between (λ d f. Does o denied d f (IsOk {T = Unit {0}} {E = E} (Err told)) (◌≡◌ {A = Result (Unit {0}) E} (Err told) (Err told))) old new
refusal_told {E} o denied old new r e told is field =
    let here : r ≡ Err Refused = subst (λ (u : NotDone). r ≡ Err u) field is in
    between_as (λ d f. Does o denied d f (IsOk r) (r ≡ Err Refused)) (λ d f. Does o denied d f (IsOk {T = Unit {0}} {E = E} (Err told)) (◌≡◌ {A = Result (Unit {0}) E} (Err told) (Err told))) old new
    (λ d f _ _ h. record {
      operates = operates_as o denied d f (IsOk r) (r ≡ Err Refused) (IsOk {T = Unit {0}} {E = E} (Err told)) (◌≡◌ {A = Result (Unit {0}) E} (Err told) (Err told))
          (λ never. absurd cc) (λ done. subst (λ (x : Result (Unit {0}) NotDone). IsOk x) here done) (λ b. refl) (λ d. here) h.operates;
      spares = h.spares;
    })

-- where a change finds no room, what it tells holds with the list of kept versions that is told besides
pub room_told : (c : TrieChange) (old new : Option WorkingVersion) (r : Result (Unit {0}) NotDone) (e : NotDone) (full : Shortage) (told f : OutOfSpace) → r ≡ Err e → e ≡ not_done.Full full
    → (kept : Versions) × IfSome new (λ d. versions_in kept ≡ kept_versions d.usage) × (told ≡ full_with full kept) → told ≡ f
    → ((n : Shortage) → r ≡ Err (not_done.Full n) → Between (λ d e. HasRoom d × FindsNoRoom c d e n) old new)
    → Between (IsOutOfRoom (key_of c) (written_by c) (asked_by c) f) old new
room_told c old new r e full told f is field made same finds =
    between_as (λ d e. HasRoom d × FindsNoRoom c d e full) (IsOutOfRoom (key_of c) (written_by c) (asked_by c) f) old new
    (λ d e _ new_is p.
    let kept : AreKept e made.0 = subst (λ (o : Option WorkingVersion). IfSome o (λ d. versions_in made.0 ≡ kept_versions d.usage)) new_is made.1 in
    subst (λ (x : OutOfSpace). IsOutOfRoom (key_of c) (written_by c) (asked_by c) x d e) (sym made.2 ∙ same)
    (record { full = p.1.full made.0 kept; cause = p.1.cause made.0 kept; cramped = p.1.cramped p.0; crowded = p.1.crowded p.0 made.0 kept }))
    (finds full (subst (λ (u : NotDone). r ≡ Err u) field is))
