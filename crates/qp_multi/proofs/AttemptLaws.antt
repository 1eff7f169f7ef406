-- An operation on lent cells, as the seat that lent them knows it.
use Rattle.std.proofs.Common.{◌≡◌, ◌↔◌, ◌⊎◌, ◌∙◌, ℕ, ◌+◌, ◌*◌, ◌/◌, ◌<◌, ◌≤◌, ◌==◌, Bool, true, false, List, map, length, slice_index, Option, Some, None, Result, Ok, Err, inl, inr, refl, sym, ap, subst}
use Rattle.std.specs.Prelude.{IfOk, IfErr}
use Rattle.std.specs.List.{Contains, range_with_len}
use Rattle.std.proofs.lemmas.Bool.{cases_Bool}
use Rattle.std.proofs.lemmas.List.FromFn.{length-map-range_with_len}
use Rattle.std.proofs.lemmas.Option.{get_or_from_slice_get}
use Rattle.packed_node.specs.declared.Cell.{Cell}
use Rattle.atomic_table.specs.Seated.{TableId}
use Rattle.pin_core.specs.Words.{status_at, words_for}
use Rattle.pin_core.specs.declared.kept.Kept.{Kept}
use Rattle.chunk_cells.specs.Chunks.{IsGiven}
use Rattle.chunk_usage.specs.Ledger.{Ledger, Frozen, is_bump, is_used, is_mutable, is_given, frozen_part, reserved}
use Rattle.chunk_usage.specs.Handing.{Lacks, consumed}
use Rattle.chunk_usage.specs.Rooms.{Grows, OpensFree, account_of}
use Rattle.chunk_sets.proofs.FlagLemmas.{get_set}
use Rattle.trie_model.specs.Keys.{Entry}
use Rattle.trie_model.proofs.MoveLaws.{Keeps}
use Rattle.trie_write.specs.Roots.{OnPath, TwigsOnPath, OnBranches, BranchesOnPath}
use Rattle.trie_space.specs.Spaces.{Ready, Fenced}
use Rattle.trie_write.specs.Changes.{StaysAsItWas}
use Rattle.trie_write.proofs.RootLaws.{stands_later, standing_later}
use Rattle.shared_cells.specs.declared.turn.JoinedSeat.{JoinedSeat}
use Rattle.shared_cells.specs.Views.{words_of, kept_in}
use Rattle.shared_cells.specs.Cells.{Cells, cells_of, given_chunks, kept_references, HasCell, with_words}
use Rattle.qp_multi.specs.declared.change.TrieChange.{TrieChange}
use Rattle.qp_multi.specs.declared.meaning.Operation.{Operation}
use Rattle.trie_write.specs.declared.refusal.NotDone.{NotDone}
use Rattle.trie_write.specs.declared.refusal.NotDone.TheVariants.{Refused, Full}
use Rattle.qp_multi.specs.Operations.{operated}
use Rattle.qp_multi.specs.Passes.{Known}
use Rattle.qp_multi.specs.Turns.{Agrees, cells_with, row_for, cell_counts, current_image, current_root, is_immutable}
use Rattle.qp_multi.specs.Bases.{IsRooted, StandsFor}
use Rattle.qp_multi.specs.Changes.{operation_of, key_of, written_by, asked_by, IsRefused}
use Rattle.qp_multi.specs.Tries.{Grown, Tried, PathHas, PathHasEach}
use Rattle.qp_multi.proofs.Lists.{all_of, all_from}
use Rattle.qp_multi.proofs.KeepLaws.{immutable_used, immutable_old, immutable_of}
use Rattle.qp_multi.proofs.WordsLaws.{same_words, same_chunks, same_passes, lent_begins, lent_seat, lent_back, words_kept}

pub if_ok : {T E : Type 0} (P Q : T → Type 0) (r : Result T E) → ((x : T) → P x → Q x) → IfOk r P → IfOk r Q
if_ok P Q (Ok x) f h = f x h
if_ok P Q (Err e) f h = h

pub if_err : {T E : Type 0} (P Q : E → Type 0) (r : Result T E) → ((x : E) → P x → Q x) → IfErr r P → IfErr r Q
if_err P Q (Ok x) f h = h
if_err P Q (Err e) f h = f e h

pub of_err : {T E : Type 0} (P : E → Type 0) (r : Result T E) (e : E) → IfErr r P → r ≡ Err e → P e
of_err P (Ok x) e h is = absurd cc
of_err P (Err y) e h is = let same : y ≡ e = cc in subst P same h

-- chunks and words alone say what the cells are
has_there : (a b : Cells) → b.chunks ≡ a.chunks → b.words ≡ a.words → (q : ℕ) (c : Cell) → HasCell a q c → HasCell b q c
has_there a b chunks words q c h = record {
  given = subst (λ (n : ℕ). IsGiven (map (λ chunk. slice_index b.words (status_at chunk) == 1) (range_with_len 0 n)) (q / 1024)) (sym chunks)
      (subst (λ (ws : List ℕ). IsGiven (map (λ chunk. slice_index ws (status_at chunk) == 1) (range_with_len 0 a.chunks)) (q / 1024)) (sym words) h.given);
  big = ap (λ (ws : List ℕ). slice_index ws (4161 + 2 * q)) words ∙ h.big;
  small = ap (λ (ws : List ℕ). slice_index ws (4161 + 2 * q + 1)) words ∙ h.small;
}

pub rooted_there : (a b : Cells) → b.chunks ≡ a.chunks → b.words ≡ a.words → (u : Ledger) (root : Option ℕ) (es : List Entry) → IsRooted (HasCell a) u root es → IsRooted (HasCell b) u root es
rooted_there a b chunks words u root es s = record {
  stands = standing_later es root s.stands (λ q c used h. has_there a b chunks words q c h) (λ q used. used) (λ k. refl);
  tells = s.tells;
}

path_later : {has new : ℕ → Cell → Type 0} {used used_new : ℕ → Bool} {live live_new : ℕ → ℕ} (root : Option ℕ) (key : List ℕ) (n : ℕ) → Keeps used has new → ((q : ℕ) → used q ≡ true → used_new q ≡ true) → ((k : ℕ) → live_new k ≡ live k)
    → OnPath has used live root key n → OnPath new used_new live_new root key n
path_later None key n keep stays live p = p
path_later (Some r) key n keep stays live p = (p.0, p.1, stands_later p.2 keep stays live, p.3, p.4)

path_there : (a b : Cells) → b.chunks ≡ a.chunks → b.words ≡ a.words → (u : Ledger) (root : Option ℕ) (key : List ℕ) (n : ℕ) → TwigsOnPath HasCell account_of a u root key n → TwigsOnPath HasCell account_of b u root key n
path_there a b chunks words u root key n p = path_later root key n (λ q c used h. has_there a b chunks words q c h) (λ q used. used) (λ k. refl) p

branches_later : {has new : ℕ → Cell → Type 0} {used used_new : ℕ → Bool} {live live_new : ℕ → ℕ} (root : Option ℕ) (key branches : List ℕ) → Keeps used has new → ((q : ℕ) → used q ≡ true → used_new q ≡ true) → ((k : ℕ) → live_new k ≡ live k)
    → OnBranches has used live root key branches → OnBranches new used_new live_new root key branches
branches_later None key branches keep stays live p = p
branches_later (Some r) key branches keep stays live p = (p.0, p.1, stands_later p.2 keep stays live, p.3, p.4)

branches_there : (a b : Cells) → b.chunks ≡ a.chunks → b.words ≡ a.words → (u : Ledger) (root : Option ℕ) (key branches : List ℕ) → BranchesOnPath HasCell account_of a u root key branches → BranchesOnPath HasCell account_of b u root key branches
branches_there a b chunks words u root key branches p = branches_later root key branches (λ q c used h. has_there a b chunks words q c h) (λ q used. used) (λ k. refl) p

-- while cells are handed out what the usage agrees on stays
agrees_grown : (cells new : Cells) (u n : Ledger) (count : ℕ) → new.chunks ≡ cells.chunks → new.kept ≡ cells.kept → given_chunks new ≡ n.given → frozen_part n ≡ frozen_part u
    → Grows (is_used u) (is_used n) (is_mutable u) (is_mutable n) → Agrees cells u count → Agrees new n count
agrees_grown cells new u n count chunks kept given frozen grows a = record {
  given = given;
  rows = ap (λ (f : Frozen). f.rows) frozen ∙ a.rows ∙ ap (λ (k : ℕ). map (row_for k) cells.kept) (sym chunks) ∙ ap (map (row_for new.chunks)) (sym kept);
  few_rows = subst (λ (f : Frozen). length f.rows ≤ count + 1) (sym frozen) a.few_rows;
  last_live = ap (λ (f : Frozen). f.live) frozen ∙ a.last_live ∙ ap (λ (k : ℕ). cell_counts k (current_image cells.kept)) (sym chunks) ∙ ap (λ (ks : List Kept). cell_counts new.chunks (current_image ks)) (sym kept);
  immutable = all_from (is_immutable n) (kept_references new) (λ q c.
      let old = subst (λ (ks : List Kept). Contains (kept_references (record cells { kept = ks })) q) kept c in
      let h = all_of (is_immutable u) (kept_references cells) q a.immutable old in
      let used = immutable_used u q h in
      immutable_of n q (grows.stays q used) (grows.settled q used ∙ immutable_old u q h));
  passes = ap (λ (f : Frozen). f.passes) frozen ∙ a.passes;
}

-- cells that were lent so are ready
pub ready_of : {first cells : Cells} {u : Ledger} {count : ℕ} → first ≡ cells → Agrees cells u count → Ready kept_references given_chunks account_of first u
ready_of {first} {cells} {u} is a = subst (λ (k : Cells). Ready kept_references given_chunks account_of k u) (sym is) (record {
  same = a.given;
  in_use = λ q c. immutable_used u q (all_of (is_immutable u) (kept_references cells) q a.immutable c);
  settled = λ q c. immutable_old u q (all_of (is_immutable u) (kept_references cells) q a.immutable c);
})

-- What a change of lent cells leaves of the usage, whether or not it took chunks of the reserve.
pub record Leaves (first lent : Cells) (u n : Ledger) : Type 0 where
  pub given_stays : (k : ℕ) → IsGiven (given_chunks first) k → IsGiven (given_chunks lent) k
  pub opens : OpensFree (given_chunks first) (is_bump u.bump) (is_bump n.bump)
  pub grows : Grows (is_used u) (is_used n) (is_mutable u) (is_mutable n)
  pub last : frozen_part n ≡ frozen_part u
  pub meets : (k : ℕ) → 0 < slice_index n.live k → (0 < slice_index u.live k) ⊎ ((is_bump u.bump k ≡ true) ⊎ (IsGiven (given_chunks first) k → ⊥))
  pub same : given_chunks lent ≡ n.given

pub leaves_of : {first lent : Cells} {u n : Ledger} → Fenced HasCell kept_references given_chunks account_of first u lent n → Ready kept_references given_chunks account_of lent n → Leaves first lent u n
leaves_of frame ready = record { given_stays = frame.given_stays; opens = frame.opens; grows = frame.grows; last = frame.last; meets = frame.meets; same = ready.same }

-- The cells were lent by a seat that knew so much, and came back as they are now.
pub record Returned (first lent : Cells) (v w : Known) (u n : Ledger) (count : ℕ) : Type 0 where
  pub begun : first ≡ cells_with u v.turn
  pub back : cells_of lent.chunks w.turn ≡ record lent { kept = kept_in v.turn }
  pub seat : w ≡ with_words v lent.words
  pub leaves : Leaves first lent u n
  pub wide : lent.chunks ≡ length u.given
  pub agrees : Agrees (cells_with u v.turn) u count

pub returned_of : {first lent : Cells} {u n : Ledger} {lender : Known} {here lent_by : TableId} (chunks : ℕ) (old new : JoinedSeat (List Entry) (List Operation))
    → first ≡ cells_of chunks lender.turn → words_for chunks ≡ here.words → old.place.table_id ≡ here
    → cells_of lent.chunks new.place.me.0.turn ≡ record lent { kept = kept_in lender.turn } → new.place.me.0 ≡ with_words lender lent.words → words_for lent.chunks ≡ lent_by.words
    → (old.place.table_id ≡ lent_by) × (old.place.me.0 ≡ lender) → words_for (length u.given) ≡ old.place.table_id.words → Leaves first lent u n → Agrees (cells_with u old.place.me.0.turn) u old.passes
    → Returned first lent old.place.me.0 new.place.me.0 u n old.passes
returned_of {first} {lent} {u} {n} {lender} {here} {lent_by} chunks old new cells wide table back seat size by of_usage leaves agrees = record {
  begun = lent_begins first old.place.me.0 lender (length u.given) chunks old.place.table_id.words here.words cells by.1 of_usage wide (same_words old.place.table_id here table);
  back = lent_back (cells_of lent.chunks new.place.me.0.turn) lent old.place.me.0 lender back by.1;
  seat = lent_seat new.place.me.0 old.place.me.0 lender lent.words seat by.1;
  leaves = leaves;
  wide = same_chunks lent.chunks (length u.given) lent_by.words old.place.table_id.words size of_usage (same_words lent_by old.place.table_id (sym by.0));
  agrees = agrees;
}

module _ {first lent : Cells} {v w : Known} {u n : Ledger} {count : ℕ} (l : Returned first lent v w u n count) where
  pub chunks_now : length n.given ≡ lent.chunks
  chunks_now = ap (λ (bs : List Bool). length bs) (sym l.leaves.same) ∙ length-map-range_with_len (λ chunk. slice_index lent.words (status_at chunk) == 1) 0 lent.chunks

  words_now : words_of w.turn ≡ lent.words
  words_now = ap (λ (k : Cells). k.words) l.back

  pub entered : (root : Option ℕ) (es : List Entry) → StandsFor v u root es → IsRooted (HasCell first) u root es
  entered root es s = subst (λ (k : Cells). IsRooted (HasCell k) u root es) (sym l.begun) s

  pub left : (new : Option ℕ) (es : List Entry) → IsRooted (HasCell lent) n new es → StandsFor w n new es
  left new es s = rooted_there lent (cells_with n w.turn) chunks_now words_now n new es s

  pub words_seat : w ≡ with_words v (words_of w.turn)
  words_seat = l.seat ∙ ap (with_words v) (sym words_now)

  -- which of the usage's chunks the cells say are given
  given_first : (k : ℕ) → is_given u k ≡ true → IsGiven (given_chunks first) k
  given_first k h = subst (λ (bs : List Bool). IsGiven bs k) (sym (ap given_chunks l.begun ∙ l.agrees.given)) (get_set u.given k h)

  -- allocated chunks stay so, and a chunk that became the bump chunk was not
  pub grown_now : Grown u n
  grown_now = record {
    wide = chunks_now ∙ l.wide;
    frozen = l.leaves.last;
    given = λ k h. get_or_from_slice_get n.given k true false (subst (λ (bs : List Bool). IsGiven bs k) l.leaves.same (l.leaves.given_stays k (given_first k h)));
    opens = λ k o. elim (l.leaves.opens k o) [ inl h ↦ inl h | inr free ↦ inr (was_free k free) ];
    meets = λ k o. elim (l.leaves.meets k o) [ inl h ↦ inl h | inr (inl h) ↦ inr (inl h) | inr (inr free) ↦ inr (inr (was_free k free)) ];
  }
    where
      was_free : (k : ℕ) → (IsGiven (given_chunks first) k → ⊥) → is_given u k ≡ false
      was_free k free = elim (cases_Bool (is_given u k)) [
        | inl here ↦ absurd (free (given_first k here))
        | inr not_here ↦ not_here
      ]

  pub agrees_later : Agrees (cells_with n w.turn) n count
  agrees_later =
      let now : cells_with n w.turn ≡ record lent { kept = kept_in v.turn } = ap (λ (k : ℕ). cells_of k w.turn) chunks_now ∙ l.back in
      agrees_grown (cells_with u v.turn) (cells_with n w.turn) u n count (chunks_now ∙ l.wide) (ap (λ (k : Cells). k.kept) now) (ap given_chunks now ∙ l.leaves.same) l.leaves.last l.leaves.grows l.agrees

  -- an operation was tried on them
  module _ (root : Option ℕ) (c : TrieChange) (r : Result (Option ℕ) NotDone) where
    path_in : (twigs : ℕ) → PathHas v u root (key_of c) twigs → TwigsOnPath HasCell account_of first u root (key_of c) twigs
    path_in twigs p = subst (λ (k : Cells). TwigsOnPath HasCell account_of k u root (key_of c) twigs) (sym l.begun) p

    branches_in : (branches : List ℕ) → PathHasEach v u root (key_of c) branches → BranchesOnPath HasCell account_of first u root (key_of c) branches
    branches_in branches p = subst (λ (k : Cells). BranchesOnPath HasCell account_of k u root (key_of c) branches) (sym l.begun) p

    pub tried_of : reserved n ≡ reserved u → IfOk r (λ new. (es : List Entry) → IsRooted (HasCell first) u root es → IsRooted (HasCell lent) n new (operated es (operation_of c)))
        → ((es : List Entry) → IsRooted (HasCell first) u root es → (r ≡ Err Refused) ↔ IsRefused c es)
        → IfErr r (StaysAsItWas HasCell account_of Lacks first u lent n root (key_of c) (asked_by c))
        → ((twigs : ℕ) → TwigsOnPath HasCell account_of first u root (key_of c) twigs → consumed n ≤ consumed u + (written_by c + twigs))
        → Tried c root v u w n r
    tried_of reserve done refused stays consumes =
        let same = if_err _ _ r (λ e k. k.unchanged) stays in
        record {
          done = if_ok _ _ r (λ new h es s. left new (operated es (operation_of c)) (h es (entered root es s))) done;
          refused = λ es s. refused es (entered root es s);
          denied = λ e. (of_err _ r Refused stays e).denied refl;
          stays = if_err _ _ r (λ e k es s. let is = entered root es s in left root es (record { stands = k.stands es is.stands; tells = is.tells })) stays;
          full = λ f e. (of_err _ r (Full f) stays e).full f refl;
          asked = λ f e branches p. (of_err _ r (Full f) stays e).asked f refl branches (branches_in branches p);
          same = words_seat;
          spares = record { grown = grown_now; reserve = reserve };
          counts = if_err _ _ r (λ e s. s.counts) same;
          path = if_err _ _ r (λ e s twigs p. path_there lent (cells_with n w.turn) chunks_now words_now n root (key_of c) twigs (path_later root (key_of c) twigs s.untouched l.leaves.grows.stays s.counts (path_in twigs p))) same;
          branches = if_err _ _ r (λ e s branches p. branches_there lent (cells_with n w.turn) chunks_now words_now n root (key_of c) branches (branches_later root (key_of c) branches s.untouched l.leaves.grows.stays s.counts (branches_in branches p))) same;
          consumes = λ twigs p. consumes twigs (path_in twigs p);
        }

-- what the working version of the seat that lent them knows of them now

pub wide_back : {first lent : Cells} {u n : Ledger} {lent_by : TableId} (old new : JoinedSeat (List Entry) (List Operation)) → Returned first lent old.place.me.0 new.place.me.0 u n old.passes → words_for (length u.given) ≡ old.place.table_id.words
    → old.place.table_id ≡ lent_by → new.place.table_id ≡ lent_by → words_for (length n.given) ≡ new.place.table_id.words
wide_back old new l wide was is = ap words_for (grown_now l).wide ∙ wide ∙ sym (same_words new.place.table_id old.place.table_id (is ∙ sym was))

pub passes_back : {first lent : Cells} {u n : Ledger} (old new : JoinedSeat (List Entry) (List Operation)) → Returned first lent old.place.me.0 new.place.me.0 u n old.passes → new.passes ≡ old.passes
passes_back {lent = lent} old new l = same_passes old.place.me.0 new.place.me.0 lent.words old.passes new.passes l.seat old.blank new.blank

pub agrees_back : {first lent : Cells} {u n : Ledger} (old new : JoinedSeat (List Entry) (List Operation)) → Returned first lent old.place.me.0 new.place.me.0 u n old.passes → Agrees (cells_with n new.place.me.0.turn) n new.passes
agrees_back {n = n} old new l = subst (λ (count : ℕ). Agrees (cells_with n new.place.me.0.turn) n count) (sym (passes_back old new l)) (agrees_later l)

pub base_back : {first lent : Cells} {v w : Known} {u n : Ledger} {count : ℕ} → Returned first lent v w u n count → (base : Option ℕ) → base ≡ current_root (kept_in v.turn) → base ≡ current_root (kept_in w.turn)
base_back {v = v} {w} l base is = is ∙ sym (ap current_root (ap (λ (k : Known). kept_in k.turn) (words_seat l) ∙ words_kept v.turn (words_of w.turn)))
