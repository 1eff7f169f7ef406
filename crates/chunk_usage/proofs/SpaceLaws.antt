-- What an allocation is to the crates that change a trie.
use Rattle.std.proofs.Common.{◌≡◌, ◌≢◌, ℕ, ◌+◌, ◌-◌, ◌*◌, ◌/◌, ◌%◌, ◌<◌, ◌≤◌, Bool, true, false, not, length, List, slice_index, slice_index_or, slice_set, refl, ◌∙◌, sym, subst, ap, inl, inr, arith}
use Rattle.std.specs.Prelude.{Option, None, Some, Result, Ok, Err, IfOk, IfErr, nat_lt, nat_le, ◌==◌, ◌||◌, ◌&&◌, if◌then◌else◌}
use Rattle.std.proofs.lemmas.Bool.{cases_eq, cases_Bool}
use Rattle.std.proofs.lemmas.Bool.Decides.{nat_tests}
use Rattle.std.proofs.lemmas.List.{length-set, get_or-set_other}
use Rattle.std.proofs.lemmas.Grind.{get_or-set_at}
use Rattle.std.proofs.lemmas.List.Sums.{count_by-le-length}
use Rattle.std.proofs.lemmas.Option.{get_or_from_slice_get}
use Rattle.trie_model.specs.Extents.{IsRow}
use Rattle.chunk_usage.specs.declared.bump.Bump.{Bump}
use Rattle.chunk_usage.specs.declared.space.Grant.{Grant}
use Rattle.chunk_usage.specs.declared.space.Shortage.{Shortage}
use Rattle.chunk_usage.specs.Rooms.{Handed, GivesChunk, OpensFree, Grows, Meets, account_of}
use Rattle.chunk_usage.specs.Ledger.{Ledger, IsLedger, IsBump, is_given, is_bump, is_used, is_mutable, filled, left, free_count, reserve_of, reserved, frozen_part}
use Rattle.chunk_usage.specs.Handing.{lowest_free, with_bump, taken, next_cell, roomy, new_grant, newly_taken, granted_from, allocated_from, grant_of, allocated, shortage, consumed, unconsumed}
use Rattle.chunk_sets.proofs.FlagLemmas.{set_stays, set_within, get_set, get_clear, one_fewer_clear, First, first_is}
use Rattle.chunk_usage.proofs.RowLemmas.{counts_more}
use Rattle.chunk_usage.proofs.HandingLaws.{opened_mutable}

-- where there is no room, so many cells were wanted
abbrev Wanted : ℕ → Result Grant Shortage → Type 0
Wanted n r = IfErr r (λ f. f.needed ≡ n)

-- What an allocation of n cells does, by what it answers.
pub record Hands (l new : Ledger) (n : ℕ) (r : Result Grant Shortage) : Type 0 where
  pub gives : IfOk r (λ g. GivesChunk l.given new.given g.given)
  pub grows : Grows (is_used l) (is_used new) (is_mutable l) (is_mutable new)
  pub consumes : consumed new ≤ consumed l + n
  pub handed : IfOk r (λ g. Handed (account_of l) (account_of new) g.at n)
  -- a chunk that becomes the bump chunk was free
  pub opens : OpensFree l.given (is_bump l.bump) (is_bump new.bump)
  -- a chunk that gets a cell that counts had one, was the bump chunk, or was free
  pub meets : Meets (account_of l) (account_of new)
  pub frozen : frozen_part new ≡ frozen_part l
  pub wanted : Wanted n r
  pub stays : IfErr r (λ _. new ≡ l)

differ : true ≡ false → ⊥
differ e = cc

-- a cell in use lies in a given chunk
pub used_given : (l : Ledger) → IsLedger l → (q : ℕ) → is_used l q ≡ true → is_given l (q / 1024) ≡ true
used_given l h q u = go l.bump h.opened u
  where
    go : (o : Option Bump) → IsBump l.given l.live o → (if is_bump o (q / 1024) then nat_lt (q % 1024) (filled o) else is_given l (q / 1024)) ≡ true → is_given l (q / 1024) ≡ true
    go None h u = u
    go (Some o) h u = elim (cases_eq o.chunk (q / 1024)) [
      | inl e ↦ subst (λ (k : ℕ). is_given l k ≡ true) e h.1
      | inr ne ↦ grind (arith, nat_tests)
    ]

set_other : (live : List ℕ) (c k x : ℕ) → (c ≡ k → ⊥) → slice_index (slice_set live c x) k ≡ slice_index live k
set_other live c k x apart = get_or-set_other live c k x 0 (λ e. apart (sym e))

taken_meets : (l : Ledger) (o : Bump) (n : ℕ) → l.bump ≡ Some o → Meets (account_of l) (account_of (taken l o n))
taken_meets l o n is k some = elim (cases_eq o.chunk k) [
  | inl e ↦ inr (inl (ap (λ (b : Option Bump). is_bump b k) is ∙ grind (arith, nat_tests)))
  | inr apart ↦ inl (let e = set_other l.live o.chunk k (slice_index l.live o.chunk + n) apart in omega arith)
]

-- from the open chunk
module _ (l : Ledger) (h : IsLedger l) (n : ℕ) (some : 0 < n) (o : Bump) (is : l.bump ≡ Some o) (enough : n ≤ 1024 - o.filled) where
  opened : IsBump l.given l.live (Some o)
  opened = subst (IsBump l.given l.live) is h.opened

  used_at : (q : ℕ) → is_used l q ≡ (if o.chunk == q / 1024 then nat_lt (q % 1024) o.filled else is_given l (q / 1024))
  used_at q = ap (λ (p : Option Bump). if is_bump p (q / 1024) then nat_lt (q % 1024) (filled p) else is_given l (q / 1024)) is

  inside : o.chunk < length l.given
  inside = set_within l.given o.chunk opened.1

  in_chunk_at : (i : ℕ) → i < n → (next_cell o + i) / 1024 ≡ o.chunk
  in_chunk_at i lt = omega arith

  place_at : (i : ℕ) → i < n → (next_cell o + i) % 1024 ≡ o.filled + i
  place_at i lt = omega arith

  left_mutable : (q : ℕ) → q / 1024 ≡ o.chunk → o.filled ≤ q % 1024 → is_mutable l q ≡ true
  left_mutable q c p = subst (λ (p : Option Bump). is_bump p (q / 1024) ≡ true → filled p ≤ q % 1024 → is_mutable l q ≡ true) is (h.left_mutable q) (grind (arith, nat_tests)) p

  stays : (q : ℕ) → is_used l q ≡ true → is_used (taken l o n) q ≡ true
  stays q u = let e = sym (used_at q) ∙ u in grind (arith, nat_tests, e)

  consumes : consumed (taken l o n) ≤ consumed l + n
  consumes = let u = ap unconsumed is in omega arith

  open_row : IsRow (next_cell o) n
  open_row = record { inside = let f = h.few in let i = inside in omega arith; together = let p = place_at 0 some in omega arith }

  open_handed : Handed (account_of l) (account_of (taken l o n)) (next_cell o) n
  open_handed = record {
    twigs = open_row;
    unused = λ i lt. let c = in_chunk_at i lt in let p = place_at i lt in used_at (next_cell o + i) ∙ grind (arith, nat_tests);
    taken = λ i lt. let c = in_chunk_at i lt in let p = place_at i lt in grind (arith, nat_tests);
    writable = λ i lt. left_mutable (next_cell o + i) (in_chunk_at i lt) (let p = place_at i lt in omega arith);
    in_given = get_set l.given (next_cell o / 1024) (subst (λ (k : ℕ). slice_index_or l.given k false ≡ true) (let c = in_chunk_at 0 some in omega arith) opened.1);
    counts = λ k. counts_more (next_cell o) n open_row.together l.live o.chunk k (let c = in_chunk_at 0 some in omega arith) (let e = h.counted in let i = inside in omega arith);
  }

  open_hands : Hands l (taken l o n) n (Ok (record { at = next_cell o; given = None }))
  open_hands = record {
    gives = refl;
    grows = record { stays = stays; settled = λ q u. refl; fresher = λ q f. f };
    consumes = consumes;
    handed = open_handed;
    opens = λ k e. inl (ap (λ (p : Option Bump). is_bump p k) is ∙ e);
    meets = taken_meets l o n is;
    frozen = refl;
    wanted = tt;
    stays = tt;
  }

-- from a free chunk
abbrev newly : Ledger → ℕ → ℕ → Ledger
newly l n c = taken (with_bump l c) (record { chunk = c; filled = 0 }) n

same_chunk : (c k : ℕ) → (c == k) ≡ true → k ≡ c
same_chunk c k e = grind (arith, nat_tests)

newly_opens : (l : Ledger) (n c : ℕ) → First c l.given → OpensFree l.given (is_bump l.bump) (is_bump (newly l n c).bump)
newly_opens l n c first = λ k o. inr (λ h. differ (sym (get_or_from_slice_get l.given k true false h) ∙ (ap (λ (j : ℕ). slice_index_or l.given j false) (same_chunk c k o) ∙ first.clear)))

newly_meets : (l : Ledger) (n c : ℕ) → First c l.given → Meets (account_of l) (account_of (newly l n c))
newly_meets l n c first k some = elim (cases_eq c k) [
  | inl e ↦ inr (inr (λ h. differ (sym (get_or_from_slice_get l.given k true false h) ∙ (ap (λ (j : ℕ). slice_index_or l.given j false) (sym e) ∙ first.clear))))
  | inr apart ↦ inl (let e = set_other l.live c k (slice_index l.live c + n) apart in omega arith)
]

module _ (l : Ledger) (h : IsLedger l) (n : ℕ) (some : 0 < n) (few : n ≤ 256) (short : left l.bump < n) (c : ℕ) (first : First c l.given) where
  -- what is in use lies in another chunk
  elsewhere : (q : ℕ) → is_used l q ≡ true → q / 1024 ≢ c
  elsewhere q u e = differ (sym (used_given l h q u) ∙ (ap (λ (k : ℕ). is_given l k) e ∙ first.clear))

  not_used : (q : ℕ) → q / 1024 ≡ c → is_used l q ≡ false
  not_used q e = elim (cases_Bool (is_used l q)) [ inl u ↦ absurd (elsewhere q u e) | inr u ↦ u ]

  new_chunk_at : (i : ℕ) → i < n → (c * 1024 + i) / 1024 ≡ c
  new_chunk_at i lt = omega arith

  new_place_at : (i : ℕ) → i < n → (c * 1024 + i) % 1024 ≡ i
  new_place_at i lt = omega arith

  new_taken : (i : ℕ) → i < n → is_used (newly l n c) (c * 1024 + i) ≡ true
  new_taken i lt = let e = new_chunk_at i lt in let p = new_place_at i lt in grind (arith, nat_tests)

  new_mutable : (q : ℕ) → q / 1024 ≡ c → is_mutable (newly l n c) q ≡ true
  new_mutable q e = opened_mutable l h c first.within first.clear q (grind (arith, nat_tests))

  new_handed : Handed (account_of l) (account_of (newly l n c)) (c * 1024) n
  new_handed = record {
    twigs = record { inside = let f = h.few in let w = first.within in omega arith; together = omega arith };
    unused = λ i lt. not_used (c * 1024 + i) (new_chunk_at i lt);
    taken = new_taken;
    writable = λ i lt. new_mutable (c * 1024 + i) (new_chunk_at i lt);
    in_given = get_set _ (c * 1024 / 1024) (get_or-set_at l.given c (c * 1024 / 1024) true false (omega arith) first.within);
    counts = λ k. counts_more (c * 1024) n (omega arith) l.live c k (omega arith) (let e = h.counted in let w = first.within in omega arith);
  }

  new_stays : (q : ℕ) → is_used l q ≡ true → is_used (newly l n c) q ≡ true
  new_stays q u =
      let other = elsewhere q u in
      let given = set_stays l.given c (q / 1024) (used_given l h q u) in
      grind (arith, nat_tests)

  new_settled : (q : ℕ) → is_used l q ≡ true → is_mutable (newly l n c) q ≡ is_mutable l q
  new_settled q u = ap (λ (b : Bool). b || (is_bump l.fender (q / 1024) && nat_le (filled l.fender) (q % 1024))) (get_or-set_other l.since c (q / 1024) true false (elsewhere q u))

  new_fresher : (q : ℕ) → is_mutable l q ≡ true → is_mutable (newly l n c) q ≡ true
  new_fresher q f = grown (slice_index_or l.since (q / 1024) false) _ _ f (set_stays l.since c (q / 1024))
    where
      grown : (a b rest : Bool) → (a || rest) ≡ true → (a ≡ true → b ≡ true) → (b || rest) ≡ true
      grown true b rest f g = ap (λ (x : Bool). x || rest) (g refl)
      grown false true rest f g = refl
      grown false false rest f g = f

  new_consumes : consumed (newly l n c) ≤ consumed l + n
  new_consumes =
      let fewer = one_fewer_clear l.given c first.within first.clear in
      let most = count_by-le-length not l.given in
      let e = length-set l.given c true in
      let z = all_consumed l.bump short in
      omega arith
    where
      all_consumed : (o : Option Bump) → left o < n → unconsumed o ≡ 0
      all_consumed None short = refl
      all_consumed (Some o) short = omega arith

  new_hands : Hands l (newly l n c) n (Ok (record { at = c * 1024; given = Some c }))
  new_hands = record {
    gives = (get_clear l.given c first.within first.clear, refl);
    grows = record { stays = new_stays; settled = new_settled; fresher = new_fresher };
    consumes = new_consumes;
    handed = new_handed;
    opens = newly_opens l n c first;
    meets = newly_meets l n c first;
    frozen = refl;
    wanted = tt;
    stays = tt;
  }

none_hands : (l : Ledger) (n : ℕ) → Hands l l n (Err (shortage l n))
none_hands l n = record {
  gives = tt;
  grows = record { stays = λ q u. u; settled = λ q u. refl; fresher = λ q t. t };
  consumes = omega arith;
  handed = tt;
  opens = λ k o. inl o;
  meets = λ k o. inl o;
  frozen = refl;
  wanted = refl;
  stays = refl;
}

-- What holds however an allocation goes: from the bump chunk, from the lowest free one, or not at all.
pub allocated_by : (P : Ledger → Result Grant Shortage → Type 0) (kept_free : ℕ) (l : Ledger) (n : ℕ) → 0 < n
    → ((o : Bump) → l.bump ≡ Some o → n ≤ 1024 - o.filled → P (taken l o n) (Ok (record { at = next_cell o; given = None })))
    → (left l.bump < n → kept_free < free_count l → First (lowest_free l) l.given → P (newly_taken l n) (Ok (new_grant l)))
    → P l (Err (shortage l n)) → (new : Ledger) (r : Result Grant Shortage) → new ≡ allocated kept_free l n → r ≡ grant_of kept_free l n → P new r
allocated_by P kept_free l n some from_bump from_free none new r after grant =
    subst (λ (m : Ledger). P m r) (sym after) (subst (P (allocated kept_free l n)) (sym grant) (by_bump l.bump refl))
  where
    by_free : (b : Bool) → nat_le (free_count l) kept_free ≡ b → left l.bump < n → P (if b then l else newly_taken l n) (if b then Err (shortage l n) else Ok (new_grant l))
    by_free true e short = none
    by_free false e short = from_free short (grind (arith, nat_tests, e)) (first_is l.given (lowest_free l) refl (grind (arith, nat_tests, e)))

    by_bump : (o : Option Bump) → l.bump ≡ o → P (allocated_from kept_free l n (roomy o n)) (granted_from kept_free l n (roomy o n))
    by_bump None is = by_free (nat_le (free_count l) kept_free) refl (let e = ap left is in omega arith)
    by_bump (Some o) is = by_left (nat_le n (1024 - o.filled)) refl
      where
        by_left : (b : Bool) → nat_le n (1024 - o.filled) ≡ b → P (allocated_from kept_free l n (if b then Some o else None)) (granted_from kept_free l n (if b then Some o else None))
        by_left true e = from_bump o is (grind (arith, nat_tests))
        by_left false e = by_free (nat_le (free_count l) kept_free) refl (let room = ap left is in grind (arith, nat_tests, e))

pub handed : (kept_free : ℕ) (l : Ledger) → IsLedger l → (n : ℕ) → 0 < n → n ≤ 256 → (new : Ledger) (r : Result Grant Shortage) → new ≡ allocated kept_free l n → r ≡ grant_of kept_free l n → Hands l new n r
handed kept_free l h n some few = allocated_by (λ new r. Hands l new n r) kept_free l n some (λ o is enough. open_hands l h n some o is enough) (λ short more first. new_hands l h n some few short (lowest_free l) first) (none_hands l n)

-- no chunk of the reserve is taken
pub spares : (l : Ledger) (n : ℕ) → 0 < n → (new : Ledger) (r : Result Grant Shortage) → new ≡ allocated (reserve_of l) l n → r ≡ grant_of (reserve_of l) l n → reserved new ≡ reserved l
spares l n some = allocated_by (λ new r. reserved new ≡ reserved l) (reserve_of l) l n some (λ o is enough. refl) (λ short more first. (
    let fewer = one_fewer_clear l.given (lowest_free l) first.within first.clear in
    let same = length-set l.given (lowest_free l) true in omega arith)) refl
