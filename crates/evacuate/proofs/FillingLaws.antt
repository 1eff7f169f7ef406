-- What becomes of old and new chunks as cells are handed out and released.
use Rattle.std.proofs.Common.{◌≡◌, ℕ, zero, suc, ◌+◌, ◌-◌, ◌*◌, ◌/◌, ◌<◌, ◌≤◌, Bool, true, false, not, List, [], ◌∷◌, length, slice_index, slice_index_or, slice_set, refl, ◌∙◌, sym, subst, ap, inl, inr, arith}
use Rattle.std.specs.Prelude.{Option, None, Some, Result, Ok, Err, IfOk, nat_le, ◌==◌, ◌&&◌, ◌||◌, if◌then◌else◌}
use Rattle.std.proofs.lemmas.Bool.{cases_Bool, cases_eq, true≢false, eqb-true}
use Rattle.std.proofs.lemmas.Bool.Decides.{nat_tests}
use Rattle.std.proofs.lemmas.List.{length-set, get_or-set_same, get_or-set_other}
use Rattle.chunk_usage.specs.declared.bump.Bump.{Bump}
use Rattle.chunk_usage.specs.declared.space.Grant.{Grant}
use Rattle.chunk_usage.specs.declared.space.Shortage.{Shortage}
use Rattle.chunk_usage.specs.Counting.{is_low, is_sparse}
use Rattle.chunk_usage.specs.Ledger.{Ledger, IsLedger, IsBump, is_given, is_bump, is_used, is_mutable, filled, left, free_count, frozen_part}
use Rattle.chunk_usage.specs.Handing.{lowest_free, newly_taken, new_grant, next_cell, taken, released, grant_of, allocated}
use Rattle.chunk_usage.specs.Keeping.{closed, full}
use Rattle.chunk_sets.proofs.FlagLemmas.{set_stays, set_within, First, first_is}
use Rattle.chunk_usage.proofs.SpaceLaws.{Hands, allocated_by, handed, used_given}
use Rattle.evacuate.specs.Evacuations.{FillsNew}
use Rattle.evacuate.specs.Fillings.{Fills, Moves, Paid, is_old, old_live}

-- ---- how many cells of the old chunks count

-- a new chunk doesn't matter
set_elsewhere : (given : List Bool) (live : List ℕ) (c n : ℕ) → slice_index_or given c false ≡ false → old_live given (slice_set live c n) ≡ old_live given live
set_elsewhere [] live c n h = refl
set_elsewhere (g ∷ given) [] c n h = refl
set_elsewhere (g ∷ given) (x ∷ live) zero n h = ap (λ (b : Bool). (if b then n else 0) + old_live given live) h ∙ sym (ap (λ (b : Bool). (if b then x else 0) + old_live given live) h)
set_elsewhere (g ∷ given) (x ∷ live) (suc c) n h = ap (λ (m : ℕ). (if g then x else 0) + m) (set_elsewhere given live c n h)

-- n cells of an old chunk count no more
set_fewer : (given : List Bool) (live : List ℕ) (c n : ℕ) → slice_index_or given c false ≡ true → n ≤ slice_index live c → old_live given (slice_set live c (slice_index live c - n)) + n ≡ old_live given live
set_fewer [] live c n h l = absurd (true≢false (sym h))
set_fewer (g ∷ given) [] c n h l = omega arith
set_fewer (g ∷ given) (x ∷ live) zero n h l =
    let a = ap (λ (b : Bool). (if b then x - n else 0) + old_live given live) h in
    let b = ap (λ (b : Bool). (if b then x else 0) + old_live given live) h in omega arith
set_fewer (g ∷ given) (x ∷ live) (suc c) n h l = let e = set_fewer given live c n h l in omega arith

-- ---- sparse chunks

pub record Sparse (l : Ledger) (k : ℕ) : Type 0 where
  pub is : is_given l k ≡ true
  pub few : is_low (slice_index l.live k) ≡ true
  pub shut : is_bump l.bump k ≡ false

pub sparse_parts : (l : Ledger) (k : ℕ) → is_sparse l k ≡ true → Sparse l k
sparse_parts l k s = parts (is_given l k) (is_low (slice_index l.live k)) (is_bump l.bump k) refl refl refl s
  where
    parts : (g w o : Bool) → is_given l k ≡ g → is_low (slice_index l.live k) ≡ w → is_bump l.bump k ≡ o → (g && (w && not o)) ≡ true → Sparse l k
    parts true true false p q r s = record { is = p; few = q; shut = r }
    parts true true true p q r s = absurd (true≢false (sym s))
    parts true false o p q r s = absurd (true≢false (sym s))
    parts false w o p q r s = absurd (true≢false (sym s))

pub all_parts : (g w o : Bool) → g ≡ true → w ≡ true → o ≡ false → (g && (w && not o)) ≡ true
all_parts true true false p q r = refl
all_parts true true true p q r = absurd (true≢false r)
all_parts true false o p q r = absurd (true≢false (sym q))
all_parts false w o p q r = absurd (true≢false (sym p))

low_less : (x y : ℕ) → y ≤ x → is_low x ≡ true → is_low y ≡ true
low_less x y l e = grind (arith, nat_tests, e)

set_at_most : (xs : List ℕ) (c k v : ℕ) → v ≤ slice_index xs c → slice_index (slice_set xs c v) k ≤ slice_index xs k
set_at_most [] c k v h = omega arith
set_at_most (x ∷ xs) zero zero v h = h
set_at_most (x ∷ xs) zero (suc k) v h = omega arith
set_at_most (x ∷ xs) (suc c) zero v h = omega arith
set_at_most (x ∷ xs) (suc c) (suc k) v h = set_at_most xs c k v h

-- where cells are released, and where the bump chunk is closed, a sparse chunk stays so
sparse_released : (l : Ledger) (at n k : ℕ) → is_sparse l k ≡ true → is_sparse (released l at n) k ≡ true
sparse_released l at n k s =
    let p = sparse_parts l k s in
    let less = set_at_most l.live (at / 1024) k (slice_index l.live (at / 1024) - n) (omega arith) in
    all_parts _ _ _ p.is (low_less (slice_index l.live k) _ less p.few) p.shut

pub sparse_closed : (l : Ledger) (k : ℕ) → is_sparse l k ≡ true → is_sparse (closed l) k ≡ true
sparse_closed l k s = let p = sparse_parts l k s in all_parts _ _ _ p.is p.few (same l.bump ∙ p.shut)
  where
    same : (o : Option Bump) → is_bump (full o) k ≡ is_bump o k
    same None = refl
    same (Some o) = refl

-- ---- cells are handed out

pub record FillsMore (given : List Bool) (l new : Ledger) (r : Result Grant Shortage) : Type 0 where
  pub fills : Fills given new
  pub sparse : (k : ℕ) → is_sparse l k ≡ true → is_sparse new k ≡ true
  pub same : old_live given new.live ≡ old_live given l.live
  pub elsewhere : IfOk r (λ g. is_old given g.at ≡ false)

pub open_same : (o : Bump) (k : ℕ) → is_bump (Some o) k ≡ true → k ≡ o.chunk
open_same o k e = sym (eqb-true o.chunk k e)

shut_other : (c k : ℕ) → (k ≡ c → ⊥) → (c == k) ≡ false
shut_other c k ne = elim (cases_Bool (c == k)) [ inl e ↦ absurd (ne (sym (eqb-true c k e))) | inr e ↦ e ]

open_other : (o : Bump) (k : ℕ) → is_bump (Some o) k ≡ false → k ≡ o.chunk → ⊥
open_other o k e same = true≢false (sym (ap (λ (j : ℕ). o.chunk == j) same ∙ itself o.chunk) ∙ e)
  where
    itself : (c : ℕ) → (c == c) ≡ true
    itself c = grind (arith, nat_tests)

module _ (given : List Bool) (l : Ledger) (h : IsLedger l) (f : Fills given l) where
  -- from the bump chunk
  module _ (n : ℕ) (some : 0 < n) (o : Bump) (is : l.bump ≡ Some o) (enough : n ≤ 1024 - o.filled) where
    is_new : slice_index_or given o.chunk false ≡ false
    is_new = elim (cases_Bool (slice_index_or given o.chunk false)) [
      | inl old ↦ absurd (let c = f.closed o.chunk (ap (λ (p : Option Bump). is_bump p o.chunk) is ∙ itself o.chunk) old in let e = ap filled is in omega arith)
      | inr new ↦ new
    ]
      where
        itself : (c : ℕ) → (c == c) ≡ true
        itself c = grind (arith, nat_tests)

    inside : o.chunk < length l.live
    inside = let i = set_within l.given o.chunk (subst (IsBump l.given l.live) is h.opened).1 in let e = h.counted in omega arith

    fills_taken : Fills given (taken l o n)
    fills_taken = record {
      count = f.count;
      stays = f.stays;
      recent = f.recent;
      left = λ k g new shut.
          let other = open_other (record { chunk = o.chunk; filled = o.filled + n }) k shut in
          let e = get_or-set_other l.live o.chunk k (slice_index l.live o.chunk + n) 0 other in
          let m = f.left k g new (ap (λ (p : Option Bump). is_bump p k) is ∙ shut) in omega arith;
      bump = λ k at new.
          let same = open_same (record { chunk = o.chunk; filled = o.filled + n }) k at in
          let e = ap (slice_index (slice_set l.live o.chunk (slice_index l.live o.chunk + n))) same ∙ get_or-set_same l.live o.chunk (slice_index l.live o.chunk + n) 0 inside in
          let m = f.bump o.chunk (ap (λ (p : Option Bump). is_bump p o.chunk) is ∙ ap (λ (j : ℕ). o.chunk == j) (sym same) ∙ at) is_new in
          let b = ap filled is in omega arith;
      closed = λ k at old. absurd (true≢false (sym old ∙ ap (λ (j : ℕ). slice_index_or given j false) (open_same (record { chunk = o.chunk; filled = o.filled + n }) k at) ∙ is_new));
    }

    sparse_taken : (k : ℕ) → is_sparse l k ≡ true → is_sparse (taken l o n) k ≡ true
    sparse_taken k s =
        let p = sparse_parts l k s in
        let shut : is_bump (Some o) k ≡ false = sym (ap (λ (q : Option Bump). is_bump q k) is) ∙ p.shut in
        let e = get_or-set_other l.live o.chunk k (slice_index l.live o.chunk + n) 0 (open_other o k shut) in
        all_parts _ _ _ p.is (ap is_low e ∙ p.few) shut

    open_fills : FillsMore given l (taken l o n) (Ok (record { at = next_cell o; given = None }))
    open_fills = record {
      fills = fills_taken;
      sparse = sparse_taken;
      same = set_elsewhere given l.live o.chunk (slice_index l.live o.chunk + n) is_new;
      elsewhere = ap (λ (k : ℕ). slice_index_or given k false) (let z : (o.chunk * 1024 + o.filled) / 1024 ≡ o.chunk = omega arith in z) ∙ is_new;
    }

  -- from the lowest free chunk
  module _ (n : ℕ) (few : n ≤ 256) (short : left l.bump < n) (first : First (lowest_free l) l.given) where
    abbrev c : ℕ
    c = lowest_free l

    c_new : slice_index_or given c false ≡ false
    c_new = elim (cases_Bool (slice_index_or given c false)) [ inl old ↦ absurd (true≢false (sym (f.stays c old) ∙ first.clear)) | inr new ↦ new ]

    within_live : c < length l.live
    within_live = let w = first.within in let e = h.counted in omega arith

    within_since : c < length l.since
    within_since = let w = first.within in let e = h.known_since in omega arith

    nearly_full : (o : Option Bump) (k : ℕ) → left o < n → is_bump o k ≡ true → 769 ≤ filled o
    nearly_full None k s e = absurd (true≢false (sym e))
    nearly_full (Some o) k s e = omega arith

    fills_newly : Fills given (newly_taken l n)
    fills_newly = record {
      count = length-set l.given c true ∙ f.count;
      stays = λ k old. set_stays l.given c k (f.stays k old);
      recent = λ k g new. elim (cases_eq k c) [
        | inl same ↦ ap (λ (j : ℕ). slice_index_or (slice_set l.since c true) j false) same ∙ get_or-set_same l.since c true false within_since
        | inr other ↦ set_stays l.since c k (f.recent k (sym (get_or-set_other l.given c k true false other) ∙ g) new)
      ];
      left = λ k g new shut.
          let other = open_other (record { chunk = c; filled = 0 + n }) k shut in
          let was = sym (get_or-set_other l.given c k true false other) ∙ g in
          let e = get_or-set_other l.live c k (slice_index l.live c + n) 0 other in
          elim (cases_Bool (is_bump l.bump k)) [
            | inl at ↦ (let m = f.bump k at new in let b = nearly_full l.bump k short at in omega arith)
            | inr no_longer ↦ (let m = f.left k was new no_longer in omega arith)
          ];
      bump = λ k at new.
          let same = open_same (record { chunk = c; filled = 0 + n }) k at in
          let e = ap (slice_index (slice_set l.live c (slice_index l.live c + n))) same ∙ get_or-set_same l.live c (slice_index l.live c + n) 0 within_live in omega arith;
      closed = λ k at old. absurd (true≢false (sym old ∙ ap (λ (j : ℕ). slice_index_or given j false) (open_same (record { chunk = c; filled = 0 + n }) k at) ∙ c_new));
    }

    sparse_newly : (k : ℕ) → is_sparse l k ≡ true → is_sparse (newly_taken l n) k ≡ true
    sparse_newly k s =
        let p = sparse_parts l k s in
        let other : (k ≡ c → ⊥) = λ e. true≢false (sym p.is ∙ ap (is_given l) e ∙ first.clear) in
        let e = get_or-set_other l.live c k (slice_index l.live c + n) 0 other in
        all_parts _ _ _ (get_or-set_other l.given c k true false other ∙ p.is) (ap is_low e ∙ p.few) (shut_other c k other)

    new_fills : FillsMore given l (newly_taken l n) (Ok (new_grant l))
    new_fills = record {
      fills = fills_newly;
      sparse = sparse_newly;
      same = set_elsewhere given l.live c (slice_index l.live c + n) c_new;
      elsewhere = ap (λ (k : ℕ). slice_index_or given k false) (let z : lowest_free l * 1024 / 1024 ≡ lowest_free l = omega arith in z) ∙ c_new;
    }

  module _ (n : ℕ) (some : 0 < n) (few : n ≤ 256) where
    pub fills_handed : (new : Ledger) (r : Result Grant Shortage) → new ≡ allocated 0 l n → r ≡ grant_of 0 l n → FillsMore given l new r
    fills_handed = allocated_by (FillsMore given l) 0 l n some (λ o is enough. open_fills n some o is enough) (λ short more first. new_fills n few short first) (record { fills = f; sparse = λ k s. s; same = refl; elsewhere = tt })

-- ---- n cells of an old chunk are released, and what lies in one

module _ (given : List Bool) (l : Ledger) (f : Fills given l) where
  module _ (at n : ℕ) (old : is_old given at ≡ true) where
    apart : (k : ℕ) → slice_index_or given k false ≡ false → k ≡ at / 1024 → ⊥
    apart k new same = true≢false (sym old ∙ ap (λ (j : ℕ). slice_index_or given j false) (sym same) ∙ new)

    pub fills_released : Fills given (released l at n)
    fills_released = record {
      count = f.count;
      stays = f.stays;
      recent = f.recent;
      left = λ k g new shut. let e = get_or-set_other l.live (at / 1024) k (slice_index l.live (at / 1024) - n) 0 (apart k new) in let m = f.left k g new shut in omega arith;
      bump = λ k at_open new. let e = get_or-set_other l.live (at / 1024) k (slice_index l.live (at / 1024) - n) 0 (apart k new) in let m = f.bump k at_open new in omega arith;
      closed = f.closed;
    }

  pub sparse_old : (k : ℕ) → is_sparse l k ≡ true → slice_index_or given k false ≡ true
  sparse_old k s = elim (cases_Bool (slice_index_or given k false)) [
    | inl old ↦ old
    | inr new ↦ absurd (let p = sparse_parts l k s in let m = f.left k p.is new p.shut in let few = p.few in grind (arith, nat_tests, few))
  ]

  pub settled_old : IsLedger l → (q : ℕ) → is_used l q ≡ true → is_mutable l q ≡ false → is_old given q ≡ true
  settled_old h q used settled = elim (cases_Bool (is_old given q)) [
    | inl old ↦ old
    | inr new ↦ absurd (fresh (slice_index_or l.since (q / 1024) false) _ (f.recent (q / 1024) (used_given l h q used) new) settled)
  ]
    where
      fresh : (a b : Bool) → a ≡ true → (a || b) ≡ false → ⊥
      fresh true b e s = true≢false s
      fresh false b e s = true≢false (sym e)

pub same_chunk_old : (given : List Bool) (q p : ℕ) → q / 1024 ≡ p / 1024 → is_old given p ≡ true → is_old given q ≡ true
same_chunk_old given q p e old = ap (λ (k : ℕ). slice_index_or given k false) e ∙ old

-- where nothing was moved no chunk was given
pub fills_nothing : (l : Ledger) → IsLedger l → FillsNew l l
fills_nothing l h = record {
  left = λ k g new shut. absurd (true≢false (sym g ∙ new));
  bump = λ k at new. absurd (true≢false (sym (given_open l.bump h.opened k at) ∙ new));
}
  where
    given_open : (o : Option Bump) → IsBump l.given l.live o → (k : ℕ) → is_bump o k ≡ true → slice_index_or l.given k false ≡ true
    given_open None i k e = absurd (true≢false (sym e))
    given_open (Some o) i k e = ap (λ (j : ℕ). slice_index_or l.given j false) (open_same o k e) ∙ i.1

-- ---- moves one after the other

pub moves_none : (given : List Bool) (l : Ledger) → Fills given l → Moves given 0 l l
moves_none given l f = record { fills = f; sparse = λ k s. s; fewer = omega arith; paid = omega arith }

pub moves_then : {given : List Bool} {n : ℕ} {l l1 l2 : Ledger} → Moves given 0 l l1 → Moves given n l1 l2 → Moves given n l l2
moves_then a b = record { fills = b.fills; sparse = λ k s. b.sparse k (a.sparse k s); fewer = (let x = a.fewer in let y = b.fewer in omega arith); paid = (let x = a.paid in let y = b.paid in omega arith) }

-- cells are handed out
pub moves_handed : {given : List Bool} {n : ℕ} {l new : Ledger} {r : Result Grant Shortage} → FillsMore given l new r → Hands l new n r → Moves given n l new
moves_handed f h = record { fills = f.fills; sparse = f.sparse; fewer = (let e = f.same in omega arith); paid = (let e = f.same in let s = h.consumes in omega arith) }

-- an allocation that was granted
pub record Granted (l new : Ledger) (n : ℕ) (g : Grant) : Type 0 where
  pub hands : Hands l new n (Ok g)
  pub fills : (given : List Bool) → Fills given l → FillsMore given l new (Ok g)

pub granted : {l new : Ledger} {n : ℕ} {g : Grant} → IsLedger l → 0 < n → n ≤ 256 → new ≡ allocated 0 l n → Ok g ≡ grant_of 0 l n → Granted l new n g
granted {l} {new} {n} {g} h some few e f = record {
  hands = handed 0 l h n some few new (Ok g) e f;
  fills = λ given fills. fills_handed given l h fills n some few new (Ok g) e f;
}

-- and those that they stand for are released
pub moves_paid : {given : List Bool} {n : ℕ} {l l1 l2 : Ledger} (at : ℕ) → Moves given n l l1 → is_old given at ≡ true → n ≤ slice_index l1.live (at / 1024) → l2 ≡ released l1 at n → Paid given n l l2
moves_paid {given} {n} {l} {l1} at m old enough e = subst (Paid given n l) (sym e) (
    let s = set_fewer given l1.live (at / 1024) n old enough in
    let fewer = m.fewer in let paid = m.paid in
    record { moves = record { fills = fills_released given l1 m.fills at n old; sparse = λ k h. sparse_released l1 at n k (m.sparse k h); fewer = omega arith; paid = omega arith }; less = omega arith }
    )
