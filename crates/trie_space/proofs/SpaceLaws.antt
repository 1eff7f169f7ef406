-- Calls one after the other, and cells that are handed out.
use Rattle.std.proofs.Common.{◌≡◌, ◌⊎◌, ℕ, zero, suc, ◌+◌, ◌/◌, ◌<◌, ◌≤◌, Bool, true, false, List, [], ◌∷◌, Contains, Option, Some, None, Result, Ok, Err, IfOk, IfErr, slice_get, slice_set, arith, refl, sym, ◌∙◌, ap, subst, inl, inr}
use Rattle.std.specs.Prelude.{IsErrAnd}
use Rattle.std.proofs.lemmas.Bool.{true≢false, cases_eq}
use Rattle.packed_node.specs.declared.Cell.{Cell}
use Rattle.trie_model.specs.Extents.{row}
use Rattle.trie_model.specs.Reach.{in_chunk}
use Rattle.chunk_cells.specs.Chunks.{IsGiven, IsFree}
use Rattle.chunk_usage.specs.declared.space.Shortage.{Shortage}
use Rattle.chunk_usage.specs.Rooms.{Account, Handed, GivesChunk, OpensFree, Grows}
use Rattle.trie_space.specs.Spaces.{Ready, Frame, Fenced, Refused, MayWrite, Wrote, IsWritable}

-- what isn't fresh later wasn't before
pub fresh_before : (b c : Bool) → (b ≡ true → c ≡ true) → c ≡ false → b ≡ false
fresh_before true c h e = absurd (true≢false (sym (h refl) ∙ e))
fresh_before false c h e = refl

pub grows_then : {u0 u1 u2 f0 f1 f2 : ℕ → Bool} → Grows u0 u1 f0 f1 → Grows u1 u2 f1 f2 → Grows u0 u2 f0 f2
grows_then a b = record { stays = λ q u. b.stays q (a.stays q u); settled = λ q u. b.settled q (a.stays q u) ∙ a.settled q u; fresher = λ q f. b.fresher q (a.fresher q f) }

pub grows_refl : (u f : ℕ → Bool) → Grows u u f f
grows_refl u f = record { stays = λ q h. h; settled = λ q h. refl; fresher = λ q h. h }

-- what becomes of a chunk's state
set_same : (given : List Bool) (k : ℕ) (b : Bool) → IsFree given k → slice_get (slice_set given k b) k ≡ Some b
set_same [] zero b h = cc
set_same [] (suc k) b h = cc
set_same (x ∷ xs) zero b h = refl
set_same (x ∷ xs) (suc k) b h = set_same xs k b h

set_other : (given : List Bool) (k j : ℕ) (b : Bool) → (j ≡ k → ⊥) → slice_get (slice_set given k b) j ≡ slice_get given j
set_other [] k j b ne = refl
set_other (x ∷ xs) zero zero b ne = absurd (ne refl)
set_other (x ∷ xs) zero (suc j) b ne = refl
set_other (x ∷ xs) (suc k) zero b ne = refl
set_other (x ∷ xs) (suc k) (suc j) b ne = set_other xs k j b (λ e. ne (ap suc e))

given_more : (given : List Bool) (k : ℕ) → IsFree given k → (j : ℕ) → IsGiven given j → IsGiven (slice_set given k true) j
given_more given k free j h = elim (cases_eq j k) [
  | inl e ↦ subst (IsGiven (slice_set given k true)) (sym e) (set_same given k true free)
  | inr ne ↦ set_other given k j true ne ∙ h
]

pub given_by : (given new : List Bool) (chunk : Option ℕ) → GivesChunk given new chunk → (j : ℕ) → IsGiven given j → IsGiven new j
given_by given new None gives j h = subst (λ (x : List Bool). IsGiven x j) (sym gives) h
given_by given new (Some chunk) gives j h = subst (λ (x : List Bool). IsGiven x j) (sym gives.1) (given_more given chunk gives.0 j h)

-- a cell in use is none of those handed out
pub apart_from : {old new : Account} {first n : ℕ} → Handed old new first n → (z : ℕ) → old.used z ≡ true → (i : ℕ) → i < n → z ≡ first + i → ⊥
apart_from {old} h z u i l e = true≢false (sym u ∙ ap old.used e ∙ h.unused i l)

module _ {S A : Type 0} {has : S → ℕ → Cell → Type 0} {kept : S → List ℕ} {given : S → List Bool} {account : A → Account} where
  pub frame_refl : (s : S) (a : A) → Frame has kept given account s a s a
  frame_refl s a = record { stays = λ q c m h. h; frozen = λ q c m h. h; keeps = refl; given_stays = λ k h. h; opens = λ k o. inl o; grows = grows_refl (account a).used (account a).mutable; spares = refl; last = refl; meets = λ k h. inl h }

  pub frame_then : {s s1 s2 : S} {a a1 a2 : A} → Frame has kept given account s a s1 a1 → Frame has kept given account s1 a1 s2 a2 → Frame has kept given account s a s2 a2
  frame_then {a1 = a1} {a2 = a2} f g = record {
    stays = λ q c u h. g.stays q c (f.grows.stays q u) (f.stays q c u h);
    frozen = λ q c m h. g.frozen q c m (f.frozen q c (fresh_before ((account a1).mutable q) ((account a2).mutable q) (g.grows.fresher q) m) h);
    keeps = g.keeps ∙ f.keeps;
    given_stays = λ k h. g.given_stays k (f.given_stays k h);
    opens = λ k o. elim (g.opens k o) [ inl m ↦ f.opens k m | inr free ↦ inr (λ h. free (f.given_stays k h)) ];
    grows = grows_then f.grows g.grows;
    spares = g.spares ∙ f.spares;
    last = g.last ∙ f.last;
    meets = λ k h. elim (g.meets k h) [ inl m ↦ f.meets k m | inr (inl o) ↦ elim (f.opens k o) [ inl m ↦ inr (inl m) | inr free ↦ inr (inr free) ] | inr (inr free) ↦ inr (inr (λ b. free (f.given_stays k b))) ];
  }

  -- counts change alone
  pub frame_counts : {s s1 : S} {a a1 a2 : A} → Frame has kept given account s a s1 a1 → account a2 ≡ record (account a1) { live = (account a2).live } → ((k : ℕ) → (account a2).live k ≤ (account a1).live k) → Frame has kept given account s a s1 a2
  frame_counts f rest fewer = record {
    stays = f.stays;
    frozen = λ q c m h. f.frozen q c (sym (ap (λ (z : Account). z.mutable q) rest) ∙ m) h;
    keeps = f.keeps;
    given_stays = f.given_stays;
    opens = λ k o. f.opens k (sym (ap (λ (z : Account). z.opened k) rest) ∙ o);
    grows = record { stays = λ q u. ap (λ (z : Account). z.used q) rest ∙ f.grows.stays q u; settled = λ q u. ap (λ (z : Account). z.mutable q) rest ∙ f.grows.settled q u; fresher = λ q m. ap (λ (z : Account). z.mutable q) rest ∙ f.grows.fresher q m };
    spares = ap (λ (z : Account). z.reserved) rest ∙ f.spares;
    last = ap (λ (z : Account). z.frozen) rest ∙ f.last;
    meets = λ k h. f.meets k (let e = fewer k in omega arith);
  }

  -- cells that were handed out are written
  pub frame_wrote : {s s1 s2 s3 : S} {a a1 a2 : A} {first n : ℕ} → Handed (account a) (account a1) first n → Frame has kept given account s a s1 a1 → Frame has kept given account s1 a1 s2 a2 → Wrote has kept given s2 s3 first n → Frame has kept given account s a s3 a2
  frame_wrote {a1 = a1} {a2 = a2} handed g h w = let f = frame_then g h in record {
    stays = λ q c u x. w.others q c (λ i l e. apart_from handed q u i l e) (f.stays q c u x);
    frozen = λ q c m x. w.others q c (λ i l e. true≢false (sym (h.grows.fresher q (ap (account a1).mutable e ∙ handed.writable i l)) ∙ m)) (f.frozen q c m x);
    keeps = w.same_kept ∙ f.keeps;
    given_stays = λ k h. subst (λ (x : List Bool). IsGiven x k) (sym w.same_given) (f.given_stays k h);
    opens = f.opens;
    grows = f.grows;
    spares = f.spares;
    last = f.last;
    meets = f.meets;
  }

  -- a chunk is given with the cells
  pub frame_given : {s s1 : S} {a a1 : A} (chunk : Option ℕ) → GivesChunk (given s) (given s1) chunk → ((q : ℕ) (c : Cell) → has s q c → has s1 q c) → kept s1 ≡ kept s →
      OpensFree (given s) (account a).opened (account a1).opened → Grows (account a).used (account a1).used (account a).mutable (account a1).mutable → (account a1).reserved ≡ (account a).reserved → (account a1).frozen ≡ (account a).frozen
      → ((k : ℕ) → 0 < (account a1).live k → (0 < (account a).live k) ⊎ (((account a).opened k ≡ true) ⊎ (IsGiven (given s) k → ⊥)))
      → Frame has kept given account s a s1 a1
  frame_given {s} {s1} chunk gives all keeps opens grows spares last meets = record {
    stays = λ q c u h. all q c h;
    frozen = λ q c m h. all q c h;
    keeps = keeps;
    given_stays = given_by (given s) (given s1) chunk gives;
    opens = opens;
    grows = grows;
    spares = spares;
    last = last;
    meets = meets;
  }

module _ {S A : Type 0} {kept : S → List ℕ} {given : S → List Bool} {account : A → Account} where
  pub ready_counts : {s : S} {a a1 : A} → account a1 ≡ record (account a) { live = (account a1).live } → Ready kept given account s a → Ready kept given account s a1
  ready_counts rest r = record {
    same = r.same ∙ sym (ap (λ (z : Account). z.given) rest);
    in_use = λ q h. ap (λ (z : Account). z.used q) rest ∙ r.in_use q h;
    settled = λ q h. ap (λ (z : Account). z.mutable q) rest ∙ r.settled q h;
  }

  pub ready_grows : {s s1 : S} {a a1 : A} → Ready kept given account s a → given s1 ≡ (account a1).given → kept s1 ≡ kept s → Grows (account a).used (account a1).used (account a).mutable (account a1).mutable → Ready kept given account s1 a1
  ready_grows r same keeps g = record {
    same = same;
    in_use = λ q h. g.stays q (r.in_use q (subst (λ (qs : List ℕ). Contains qs q) keeps h));
    settled = λ q h. let k = subst (λ (qs : List ℕ). Contains qs q) keeps h in g.settled q (r.in_use q k) ∙ r.settled q k;
  }

  -- cells handed out may be written: they lie in one given chunk, and none is kept
  pub handed_open : {s s1 : S} {a a1 : A} {first n : ℕ} → Handed (account a) (account a1) first n → Ready kept given account s a → Ready kept given account s1 a1 → kept s1 ≡ kept s → MayWrite kept given s1 first n
  handed_open {a1 = a1} {first = first} h r r1 keeps = record {
    in_given = λ i l. subst (λ (x : List Bool). IsGiven x ((first + i) / 1024)) (sym r1.same) (subst (IsGiven (account a1).given) (let t = h.twigs.together in omega arith) h.in_given);
    unkept = λ i l k. apart_from h (first + i) (r.in_use (first + i) (subst (λ (qs : List ℕ). Contains qs (first + i)) keeps k)) i l refl;
  }

  -- so may a cell in use that is mutable
  pub slot_open : {s : S} {a : A} {q : ℕ} → IsWritable given account s a q → Ready kept given account s a → Contains (kept s) q → ⊥
  slot_open {q = q} w r k = true≢false (sym w.mutable ∙ r.settled q k)

module _ {S : Type 0} {kept : S → List ℕ} {given : S → List Bool} where
  -- some of them
  pub blank_part : {s : S} {wide m : ℕ} (first n shift : ℕ) → MayWrite kept given s wide m → first ≡ wide + shift → shift + n ≤ m → MayWrite kept given s first n
  blank_part {s} {wide} first n shift b e l = record {
    in_given = λ i k. let p : wide + (shift + i) ≡ first + i = omega arith in subst (λ (q : ℕ). IsGiven (given s) (q / 1024)) p (b.in_given (shift + i) (omega arith));
    unkept = λ i k h. let p : first + i ≡ wide + (shift + i) = omega arith in b.unkept (shift + i) (omega arith) (subst (Contains (kept s)) p h);
  }

  pub open_later : {s s1 : S} {first n : ℕ} → MayWrite kept given s first n → given s1 ≡ given s → kept s1 ≡ kept s → MayWrite kept given s1 first n
  open_later {first = first} m same keeps = record {
    in_given = λ i l. subst (λ (x : List Bool). IsGiven x ((first + i) / 1024)) (sym same) (m.in_given i l);
    unkept = λ i l k. m.unkept i l (subst (λ (qs : List ℕ). Contains qs (first + i)) keeps k);
  }

module _ {S : Type 0} {has : S → ℕ → Cell → Type 0} {kept : S → List ℕ} {given : S → List Bool} where
  pub wrote_refl : (s : S) (first n : ℕ) → Wrote has kept given s s first n
  wrote_refl s first n = record { others = λ q c out h. h; same_given = refl; same_kept = refl }

  pub wrote_then : {s s1 s2 : S} {first n : ℕ} → Wrote has kept given s s1 first n → Wrote has kept given s1 s2 first n → Wrote has kept given s s2 first n
  wrote_then a b = record { others = λ q c out h. b.others q c out (a.others q c out h); same_given = b.same_given ∙ a.same_given; same_kept = b.same_kept ∙ a.same_kept }

  -- one cell of them, as `put` says it
  pub wrote_one : {s s1 : S} {first n : ℕ} (q : ℕ) (i : ℕ) → i < n → q ≡ first + i → ((p : ℕ) (c : Cell) → (p ≡ q → ⊥) → has s p c → has s1 p c) → given s1 ≡ given s → kept s1 ≡ kept s → Wrote has kept given s s1 first n
  wrote_one q i l e others same_given same_kept = record { others = λ p c out h. others p c (λ f. out i l (f ∙ e)) h; same_given = same_given; same_kept = same_kept }

  -- more cells may have been written
  pub wrote_more : {s s1 : S} {first n : ℕ} (wide m : ℕ) (shift : ℕ) → first ≡ wide + shift → shift + n ≤ m → Wrote has kept given s s1 first n → Wrote has kept given s s1 wide m
  wrote_more wide m shift e l w = record { others = λ q c out h. w.others q c (λ i k f. out (shift + i) (omega arith) (omega arith)) h; same_given = w.same_given; same_kept = w.same_kept }

module _ {S A : Type 0} {kept : S → List ℕ} {given : S → List Bool} {account : A → Account} where
  -- cells are written
  pub ready_put : {s s1 : S} {a : A} → Ready kept given account s a → given s1 ≡ given s → kept s1 ≡ kept s → Ready kept given account s1 a
  ready_put r same_given same_kept = record {
    same = same_given ∙ r.same;
    in_use = λ q h. r.in_use q (subst (λ (qs : List ℕ). Contains qs q) same_kept h);
    settled = λ q h. r.settled q (subst (λ (qs : List ℕ). Contains qs q) same_kept h);
  }

module _ {S A : Type 0} {given : S → List Bool} {account : A → Account} where
  -- a writable cell stays so
  pub writable_later : {s s1 : S} {a a1 : A} {q : ℕ} → IsWritable given account s a q → Grows (account a).used (account a1).used (account a).mutable (account a1).mutable → ((k : ℕ) → IsGiven (given s) k → IsGiven (given s1) k) → IsWritable given account s1 a1 q
  writable_later {q = q} w g stays = record { in_use = g.stays q w.in_use; mutable = g.fresher q w.mutable; in_given = stays (q / 1024) w.in_given }

module _ {S A : Type 0} {has : S → ℕ → Cell → Type 0} {kept : S → List ℕ} {given : S → List Bool} {account : A → Account} where
  pub ready_wrote : {s s1 : S} {a : A} {first n : ℕ} → Wrote has kept given s s1 first n → Ready kept given account s a → Ready kept given account s1 a
  ready_wrote w r = record {
    same = w.same_given ∙ r.same;
    in_use = λ q h. r.in_use q (subst (λ (qs : List ℕ). Contains qs q) w.same_kept h);
    settled = λ q h. r.settled q (subst (λ (qs : List ℕ). Contains qs q) w.same_kept h);
  }

  pub frame_same : {s s1 s2 : S} {a a2 : A} → s1 ≡ s → Frame has kept given account s1 a s2 a2 → Frame has kept given account s a s2 a2
  frame_same {s2 = s2} {a} {a2} same = subst (λ s. Frame has kept given account s a s2 a2) same

  -- cells were handed out, there was no room for more, and they count no more
  pub refused_room : {lacks : A → Shortage → Type 0} {s s1 s2 s3 : S} {a a2 a3 a4 : A} {first n : ℕ} {f : Shortage} → s1 ≡ s → Frame has kept given account s1 a s2 a2 → Handed (account a) (account a2) first n → Refused has account lacks s2 a2 s3 a3 f →
      ((k : ℕ) → (account a4).live k + row (in_chunk k) first n ≡ (account a3).live k) → ((f : Shortage) → lacks a3 f → lacks a4 f) → Refused has account lacks s a s3 a4 f
  refused_room {f = f} same frame handed r released lack = record {
    untouched = λ q c u h. r.untouched q c (frame.grows.stays q u) ((frame_same same frame).stays q c u h);
    counts = λ k. let x = handed.counts k in let y = r.counts k in let z = released k in omega arith;
    lack = lack f r.lack;
  }

  pub blank_later : {s s1 : S} {a a1 : A} {first n : ℕ} → MayWrite kept given s first n → Frame has kept given account s a s1 a1 → MayWrite kept given s1 first n
  blank_later {first = first} m f = record {
    in_given = λ i l. f.given_stays ((first + i) / 1024) (m.in_given i l);
    unkept = λ i l k. m.unkept i l (subst (λ (qs : List ℕ). Contains qs (first + i)) f.keeps k);
  }

  -- ---- calls that may write mutable cells

  pub fenced_of : {s s1 : S} {a a1 : A} → Frame has kept given account s a s1 a1 → Fenced has kept given account s a s1 a1
  fenced_of f = record { frozen = f.frozen; keeps = f.keeps; given_stays = f.given_stays; opens = f.opens; grows = f.grows; spares = f.spares; last = f.last; meets = f.meets }

  pub fenced_then : {s s1 s2 : S} {a a1 a2 : A} → Fenced has kept given account s a s1 a1 → Fenced has kept given account s1 a1 s2 a2 → Fenced has kept given account s a s2 a2
  fenced_then {a1 = a1} {a2 = a2} f g = record {
    frozen = λ q c m h. g.frozen q c m (f.frozen q c (fresh_before ((account a1).mutable q) ((account a2).mutable q) (g.grows.fresher q) m) h);
    keeps = g.keeps ∙ f.keeps;
    given_stays = λ k h. g.given_stays k (f.given_stays k h);
    opens = λ k o. elim (g.opens k o) [ inl m ↦ f.opens k m | inr free ↦ inr (λ h. free (f.given_stays k h)) ];
    grows = grows_then f.grows g.grows;
    spares = g.spares ∙ f.spares;
    last = g.last ∙ f.last;
    meets = λ k h. elim (g.meets k h) [ inl m ↦ f.meets k m | inr (inl o) ↦ elim (f.opens k o) [ inl m ↦ inr (inl m) | inr free ↦ inr (inr free) ] | inr (inr free) ↦ inr (inr (λ b. free (f.given_stays k b))) ];
  }

  -- a mutable cell is written
  pub fenced_put : {s s1 s2 : S} {a a1 : A} {slot : ℕ} → Fenced has kept given account s a s1 a1 → (account a1).mutable slot ≡ true → ((q : ℕ) (c : Cell) → (q ≡ slot → ⊥) → has s1 q c → has s2 q c) → given s2 ≡ given s1 → kept s2 ≡ kept s1 → Fenced has kept given account s a s2 a1
  fenced_put {a1 = a1} f mutable others same_given same_kept = record {
    frozen = λ q c m h. others q c (λ e. true≢false (sym (ap (account a1).mutable e ∙ mutable) ∙ m)) (f.frozen q c m h);
    keeps = same_kept ∙ f.keeps;
    given_stays = λ k h. subst (λ (x : List Bool). IsGiven x k) (sym same_given) (f.given_stays k h);
    opens = f.opens;
    grows = f.grows;
    spares = f.spares;
    last = f.last;
    meets = f.meets;
  }

  pub fenced_counts : {s s1 : S} {a a1 a2 : A} → Fenced has kept given account s a s1 a1 → account a2 ≡ record (account a1) { live = (account a2).live } → ((k : ℕ) → (account a2).live k ≤ (account a1).live k) → Fenced has kept given account s a s1 a2
  fenced_counts f rest fewer = record {
    frozen = λ q c m h. f.frozen q c (sym (ap (λ (z : Account). z.mutable q) rest) ∙ m) h;
    keeps = f.keeps;
    given_stays = f.given_stays;
    opens = λ k o. f.opens k (sym (ap (λ (z : Account). z.opened k) rest) ∙ o);
    grows = record { stays = λ q u. ap (λ (z : Account). z.used q) rest ∙ f.grows.stays q u; settled = λ q u. ap (λ (z : Account). z.mutable q) rest ∙ f.grows.settled q u; fresher = λ q m. ap (λ (z : Account). z.mutable q) rest ∙ f.grows.fresher q m };
    spares = ap (λ (z : Account). z.reserved) rest ∙ f.spares;
    last = ap (λ (z : Account). z.frozen) rest ∙ f.last;
    meets = λ k h. f.meets k (let e = fewer k in omega arith);
  }

  pub fenced_same : {s s1 s2 : S} {a a2 : A} → s1 ≡ s → Fenced has kept given account s1 a s2 a2 → Fenced has kept given account s a s2 a2
  fenced_same {s2 = s2} {a} {a2} same = subst (λ s. Fenced has kept given account s a s2 a2) same

module _ {S A : Type 0} {has : S → ℕ → Cell → Type 0} {account : A → Account} where
  pub refused_same : {lacks : A → Shortage → Type 0} {s s1 s2 : S} {a a2 : A} {f : Shortage} → s1 ≡ s → Refused has account lacks s1 a s2 a2 f → Refused has account lacks s a s2 a2 f
  refused_same {lacks} {s2 = s2} {a} {a2} {f} same = subst (λ s. Refused has account lacks s a s2 a2 f) same

-- what was handed out can be released
pub handed_counted : {a a2 : Account} {first n : ℕ} (a3 : Account) → Handed a a2 first n → ((k : ℕ) → a3.live k ≡ a2.live k) → (k : ℕ) → row (in_chunk k) first n ≤ a3.live k
handed_counted a3 h e k = let x = h.counts k in let y = e k in omega arith

pub ok_map : {A E : Type 0} (r : Result A E) {P Q : A → Type 0} → ((x : A) → P x → Q x) → IfOk r P → IfOk r Q
ok_map (Ok x) f h = f x h
ok_map (Err e) f h = tt

pub err_map : {A E : Type 0} (r : Result A E) {P Q : E → Type 0} → ((e : E) → P e → Q e) → IfErr r P → IfErr r Q
err_map (Ok x) f h = tt
err_map (Err e) f h = f e h

pub err_all : {A E : Type 0} (r : Result A E) {P : E → Type 0} → ((e : E) → P e) → IfErr r P
err_all (Ok x) h = tt
err_all (Err e) h = h e

-- the error that `?` hands on
pub err_on : {A E : Type 0} {e : E} (P : E → Type 0) (r : Result A E) → IsErrAnd r (λ y. y ≡ e) → P e → IfErr r P
err_on P (Ok x) is h = tt
err_on P (Err y) is h = subst P (sym is) h
