-- How an evacuation begins.
use Rattle.std.proofs.Common.{◌≡◌, ℕ, zero, suc, ◌+◌, ◌*◌, ◌-◌, ◌/◌, ◌≤◌, Bool, true, false, List, [], ◌∷◌, length, slice_index, slice_index_or, slice_set, inl, inr, refl, sym, ◌∙◌, ap, subst, arith}
use Rattle.std.specs.Prelude.{Option, None, Some, IfSome, nat_le, ◌==◌, ◌&&◌, ◌||◌, if◌then◌else◌}
use Rattle.std.proofs.lemmas.Bool.{cases_Bool, cases_eq, true≢false, eq-eqb, eqb-true}
use Rattle.std.proofs.lemmas.Bool.Decides.{nat_tests}
use Rattle.std.proofs.lemmas.List.{length-set, get_or-set_other}
use Rattle.packed_node.specs.declared.Cell.{Cell}
use Rattle.trie_model.specs.Keys.{Entry}
use Rattle.trie_model.specs.Trees.{Tree}
use Rattle.chunk_usage.specs.declared.bump.Bump.{Bump}
use Rattle.chunk_usage.specs.Counting.{is_unmixed}
use Rattle.chunk_usage.specs.Handing.{consumed}
use Rattle.chunk_usage.specs.Keeping.{closed, full}
use Rattle.chunk_usage.specs.Ledger.{Ledger, IsLedger, IsBump, is_given, is_bump, is_used, is_mutable, filled, free_count, frozen_part}
use Rattle.chunk_usage.specs.Rooms.{Grows, reserve_account_of}
use Rattle.chunk_usage.proofs.SpaceLaws.{used_given}
use Rattle.trie_space.specs.Spaces.{Ready, Fenced, IsWritable}
use Rattle.trie_space.proofs.SpaceLaws.{ready_grows}
use Rattle.trie_space.proofs.WeightLaws.{mark_grows}
use Rattle.evacuate.specs.Evacuations.{FillsNew, HasSparse}
use Rattle.evacuate.specs.Fillings.{Fills, Moves, begun, filled_on, filled_on_of, is_filled_on, is_old, old_chunks, old_live}
use Rattle.evacuate.specs.Places.{Stood}
use Rattle.evacuate.proofs.FillingLaws.{moves_none, open_same, sparse_closed}
use Rattle.evacuate.proofs.TreeLaws.{root_used, used_writable}

-- ---- which chunks are old: those that were given, but the one that is filled on

cleared_at : (given : List Bool) (k : ℕ) → slice_index_or (slice_set given k false) k false ≡ false
cleared_at [] k = refl
cleared_at (g ∷ given) zero = refl
cleared_at (g ∷ given) (suc k) = cleared_at given k

is_that : (c k : ℕ) → (c == k) ≡ true → k ≡ c
is_that c k e = sym (eqb-true c k e)

pub old_one : (given : List Bool) (filled_on : Option ℕ) (k : ℕ) → slice_index_or given k false ≡ true → is_filled_on filled_on k ≡ false → slice_index_or (old_chunks given filled_on) k false ≡ true
old_one given None k g other = g
old_one given (Some c) k g other = get_or-set_other given c k false false (λ e. true≢false (sym (ap (λ (j : ℕ). c == j) e ∙ eq-eqb c c refl) ∙ other)) ∙ g

pub new_one : (given : List Bool) (filled_on : Option ℕ) (k : ℕ) → is_filled_on filled_on k ≡ true → slice_index_or (old_chunks given filled_on) k false ≡ false
new_one given None k e = absurd (true≢false (sym e))
new_one given (Some c) k e = ap (slice_index_or (slice_set given c false) k) refl ∙ subst (λ (j : ℕ). slice_index_or (slice_set given c false) j false ≡ false) (sym (is_that c k e)) (cleared_at given c)

pub old_given : (given : List Bool) (filled_on : Option ℕ) (k : ℕ) → slice_index_or (old_chunks given filled_on) k false ≡ true → slice_index_or given k false ≡ true
old_given given None k g = g
old_given given (Some c) k g = elim (cases_eq k c) [
  | inl same ↦ absurd (true≢false (sym g ∙ subst (λ (j : ℕ). slice_index_or (slice_set given c false) j false ≡ false) (sym same) (cleared_at given c)))
  | inr other ↦ sym (get_or-set_other given c k false false other) ∙ g
]

pub still_new : (given : List Bool) (filled_on : Option ℕ) (k : ℕ) → slice_index_or given k false ≡ false → slice_index_or (old_chunks given filled_on) k false ≡ false
still_new given filled_on k e = elim (cases_Bool (slice_index_or (old_chunks given filled_on) k false)) [
  | inl old ↦ absurd (true≢false (sym (old_given given filled_on k old) ∙ e))
  | inr new ↦ new
]

fewer_cleared : (given : List Bool) (live : List ℕ) (c : ℕ) → old_live (slice_set given c false) live ≤ old_live given live
fewer_cleared [] live c = omega arith
fewer_cleared (g ∷ given) [] zero = omega arith
fewer_cleared (g ∷ given) [] (suc c) = omega arith
fewer_cleared (g ∷ given) (x ∷ live) zero = omega arith
fewer_cleared (g ∷ given) (x ∷ live) (suc c) = let e = fewer_cleared given live c in omega arith

pub fewer_old : (given : List Bool) (live : List ℕ) (filled_on : Option ℕ) → old_live (old_chunks given filled_on) live ≤ old_live given live
fewer_old given live None = omega arith
fewer_old given live (Some c) = fewer_cleared given live c

-- the parts of what is known of a chunk that is filled on
record Unmixed (l : Ledger) (k : ℕ) : Type 0 where
  is : is_bump l.bump k ≡ true
  since : slice_index_or l.since k false ≡ true
  counts : filled l.bump ≤ slice_index l.live k

unmixed_parts : (l : Ledger) (k : ℕ) → is_unmixed l k ≡ true → Unmixed l k
unmixed_parts l k h = parts (is_bump l.bump k) (slice_index_or l.since k false) (nat_le (filled l.bump) (slice_index l.live k)) refl refl refl h
  where
    parts : (o r n : Bool) → is_bump l.bump k ≡ o → slice_index_or l.since k false ≡ r → nat_le (filled l.bump) (slice_index l.live k) ≡ n → (o && (r && n)) ≡ true → Unmixed l k
    parts true true true p q e s = record { is = p; since = q; counts = grind (arith, nat_tests, e) }
    parts true true false p q e s = absurd (true≢false (sym s))
    parts true false n p q e s = absurd (true≢false (sym s))
    parts false r n p q e s = absurd (true≢false (sym s))

pub filled_on_some : (l : Ledger) (c : ℕ) → is_unmixed l c ≡ true → Some c ≡ filled_on l
filled_on_some l c h = by_bump l.bump refl
  where
    by_bump : (o : Option Bump) → l.bump ≡ o → Some c ≡ filled_on_of l o
    by_bump None e = absurd (true≢false (sym (unmixed_parts l c h).is ∙ ap (λ (p : Option Bump). is_bump p c) e))
    by_bump (Some o) e =
        let same : c ≡ o.chunk = open_same o c (sym (ap (λ (p : Option Bump). is_bump p c) e) ∙ (unmixed_parts l c h).is) in
        ap (λ (k : ℕ). Some k) same ∙ sym (ap (λ (b : Bool). if b then Some o.chunk else None) (ap (is_unmixed l) (sym same) ∙ h))

pub filled_on_none : (l : Ledger) → ((k : ℕ) → is_unmixed l k ≡ false) → ◌≡◌ {A = Option ℕ} None (filled_on l)
filled_on_none l h = by_bump l.bump
  where
    by_bump : (o : Option Bump) → ◌≡◌ {A = Option ℕ} None (filled_on_of l o)
    by_bump None = refl
    by_bump (Some o) = sym (ap (λ (b : Bool). if b then Some o.chunk else None) (h o.chunk))

-- where no chunk is filled on the bump chunk is closed, and all given chunks are old
fills_closed : (l : Ledger) → IsLedger l → Fills l.given (closed l)
fills_closed l h = record {
  count = refl;
  stays = λ k old. old;
  recent = λ k g new. absurd (true≢false (sym g ∙ new));
  left = λ k g new shut. absurd (true≢false (sym g ∙ new));
  bump = λ k at new. absurd (true≢false (sym (given_open l.bump h.opened k at) ∙ new));
  closed = λ k at old. filled_full l.bump k at;
}
  where
    given_open : (o : Option Bump) → IsBump l.given l.live o → (k : ℕ) → is_bump (full o) k ≡ true → slice_index_or l.given k false ≡ true
    given_open None i k e = absurd (true≢false (sym e))
    given_open (Some o) i k e = ap (λ (j : ℕ). slice_index_or l.given j false) (open_same o k e) ∙ i.1

    filled_full : (o : Option Bump) (k : ℕ) → is_bump (full o) k ≡ true → filled (full o) ≡ 1024
    filled_full None k e = absurd (true≢false (sym e))
    filled_full (Some o) k e = refl

-- else the bump chunk is new
fills_on : (l : Ledger) (c : ℕ) → is_unmixed l c ≡ true → Fills (slice_set l.given c false) l
fills_on l c h = record {
  count = sym (length-set l.given c false);
  stays = λ k old. old_given l.given (Some c) k old;
  recent = λ k g new. ap (λ (j : ℕ). slice_index_or l.since j false) (only k g new) ∙ u.since;
  left = λ k g new shut. absurd (true≢false (sym u.is ∙ ap (is_bump l.bump) (sym (only k g new)) ∙ shut));
  bump = λ k at new. subst (λ (j : ℕ). filled l.bump ≤ slice_index l.live j) (sym (bump_only k at)) u.counts;
  closed = λ k at old. absurd (true≢false (sym old ∙ ap (λ (j : ℕ). slice_index_or (slice_set l.given c false) j false) (bump_only k at) ∙ cleared_at l.given c));
}
  where
    u : Unmixed l c
    u = unmixed_parts l c h

    only : (k : ℕ) → is_given l k ≡ true → slice_index_or (slice_set l.given c false) k false ≡ false → k ≡ c
    only k g new = elim (cases_eq k c) [
      | inl same ↦ same
      | inr other ↦ absurd (true≢false (sym (get_or-set_other l.given c k false false other ∙ g) ∙ new))
    ]

    one_bump : (o : Option Bump) (k : ℕ) → is_bump o k ≡ true → is_bump o c ≡ true → k ≡ c
    one_bump None k e f = absurd (true≢false (sym e))
    one_bump (Some o) k e f = open_same o k e ∙ sym (open_same o c f)

    bump_only : (k : ℕ) → is_bump l.bump k ≡ true → k ≡ c
    bump_only k at = one_bump l.bump k at u.is

fills_begun : (l : Ledger) → IsLedger l → (filled_on : Option ℕ) → IfSome filled_on (λ c. is_unmixed l c ≡ true) → Fills (old_chunks l.given filled_on) (begun l filled_on)
fills_begun l h None unmixed = fills_closed l h
fills_begun l h (Some c) unmixed = fills_on l c unmixed

-- what was given meanwhile is full of what was moved
pub fills_new : (l new : Ledger) (filled_on : Option ℕ) → Fills (old_chunks l.given filled_on) new → FillsNew l new
fills_new l new filled_on f = record { left = λ k g old. f.left k g (still_new l.given filled_on k old); bump = λ k at old. f.bump k at (still_new l.given filled_on k old) }

pub fills_count : (given : List Bool) (new : Ledger) (filled_on : Option ℕ) → Fills (old_chunks given filled_on) new → length new.given ≡ length given
fills_count given new None f = f.count
fills_count given new (Some c) f = f.count ∙ length-set given c false

-- ---- what it leaves as it is

begun_given : (l : Ledger) (filled_on : Option ℕ) → (begun l filled_on).given ≡ l.given
begun_given l None = refl
begun_given l (Some c) = refl

begun_live : (l : Ledger) (filled_on : Option ℕ) → (begun l filled_on).live ≡ l.live
begun_live l None = refl
begun_live l (Some c) = refl

begun_frozen : (l : Ledger) (filled_on : Option ℕ) → frozen_part (begun l filled_on) ≡ frozen_part l
begun_frozen l None = refl
begun_frozen l (Some c) = refl

begun_bump : (l : Ledger) (filled_on : Option ℕ) (k : ℕ) → is_bump (begun l filled_on).bump k ≡ is_bump l.bump k
begun_bump l (Some c) k = refl
begun_bump l None k = same l.bump
  where
    same : (o : Option Bump) → is_bump (full o) k ≡ is_bump o k
    same None = refl
    same (Some o) = refl

module _ {S : Type 0} {has : S → ℕ → Cell → Type 0} {s : S} {l l1 : Ledger} (filled_on : Option ℕ) (e : l1 ≡ begun l filled_on) (grows : Grows (is_used l) (is_used l1) (is_mutable l) (is_mutable l1)) where
  pub stood_begun : {r : ℕ} {es : List Entry} {t : Tree} → Stood has s l r es t → Stood has s l1 r es t
  stood_begun h = record {
    tree = h.tree;
    rooted = record {
      inside = h.rooted.inside;
      top = h.rooted.top;
      beneath = h.rooted.beneath;
      counted = λ k. ap (λ (m : Ledger). slice_index m.live k) e ∙ ap (λ (xs : List ℕ). slice_index xs k) (begun_live l filled_on) ∙ h.rooted.counted k;
      once = λ q. let o = h.rooted.once q in let m = mark_grows (is_used l) (is_used l1) q (grows.stays q) in omega arith;
    };
    holds = h.holds;
  }

module _ {S : Type 0} (has : S → ℕ → Cell → Type 0) (kept : S → List ℕ) (given : S → List Bool) {s : S} {l l1 : Ledger} (filled_on : Option ℕ) (e : l1 ≡ begun l filled_on) (grows : Grows (is_used l) (is_used l1) (is_mutable l) (is_mutable l1)) where
  pub fenced_begun : Fenced has kept given reserve_account_of s l s l1
  fenced_begun = record {
    frozen = λ q c m h. h;
    keeps = refl;
    given_stays = λ k h. h;
    opens = λ k o. inl (sym (ap (λ (m : Ledger). is_bump m.bump k) e ∙ begun_bump l filled_on k) ∙ o);
    grows = grows;
    spares = refl;
    last = ap frozen_part e ∙ begun_frozen l filled_on;
    meets = λ k h. inl (let a = ap (λ (m : Ledger). slice_index m.live k) e in let b = ap (λ (xs : List ℕ). slice_index xs k) (begun_live l filled_on) in omega arith);
  }

  pub ready_begun : Ready kept given reserve_account_of s l → Ready kept given reserve_account_of s l1
  ready_begun r = ready_grows r (r.same ∙ sym (ap (λ (m : Ledger). m.given) e ∙ begun_given l filled_on)) refl grows

-- what was consumed before, and what is to be moved at most
pub begun_consumed : (l : Ledger) (filled_on : Option ℕ) → consumed (begun l filled_on) + old_live (old_chunks l.given filled_on) (begun l filled_on).live ≤ 769 * (length l.given - free_count l) + old_live l.given l.live
begun_consumed l None = omega arith
begun_consumed l (Some c) = let f = fewer_old l.given l.live (Some c) in omega arith

fills_then : (l l1 : Ledger) (filled_on : Option ℕ) → IsLedger l → IfSome filled_on (λ c. is_unmixed l c ≡ true) → l1 ≡ begun l filled_on → Fills (old_chunks l.given filled_on) l1
fills_then l l1 filled_on h unmixed e = subst (Fills (old_chunks l.given filled_on)) (sym e) (fills_begun l h filled_on unmixed)

-- the root's cell lies in an old chunk, unless it lies in the one that is filled on
pub root_old : {S : Type 0} {has : S → ℕ → Cell → Type 0} {s : S} {l : Ledger} {r : ℕ} {es : List Entry} {t : Tree} (filled_on : Option ℕ) → IsLedger l → Stood has s l r es t → is_filled_on filled_on (r / 1024) ≡ false → is_old (old_chunks l.given filled_on) r ≡ true
root_old {l = l} {r} filled_on h stood other = old_one l.given filled_on (r / 1024) (used_given l h r (root_used stood)) other

-- there it may be written
pub root_writable : {S : Type 0} {has : S → ℕ → Cell → Type 0} {kept : S → List ℕ} {given : S → List Bool} {s : S} {l : Ledger} {r : ℕ} {es : List Entry} {t : Tree} (filled_on : Option ℕ) → IsLedger l → Fills (old_chunks l.given filled_on) l → Ready kept given reserve_account_of s l →
    Stood has s l r es t → is_filled_on filled_on (r / 1024) ≡ true → IsWritable given reserve_account_of s l r
root_writable {l = l} {r} filled_on h fills ready stood there =
    let used = root_used stood in
    used_writable h ready used (either (slice_index_or l.since (r / 1024) false) _ (fills.recent (r / 1024) (used_given l h r used) (new_one l.given filled_on (r / 1024) there)))
  where
    either : (a b : Bool) → a ≡ true → (a || b) ≡ true
    either true b e = refl
    either false b e = absurd (true≢false (sym e))

-- what was sparse before an evacuation began still is
pub left_begun : (l : Ledger) (filled_on : Option ℕ) → HasSparse l → HasSparse (begun l filled_on)
left_begun l None h = record { chunk = h.chunk; sparse = sparse_closed l h.chunk h.sparse; some = h.some }
left_begun l (Some c) h = h

pub fills_there : (l l1 : Ledger) (filled_on : Option ℕ) → IsLedger l → IfSome filled_on (λ c. is_unmixed l c ≡ true) → l1 ≡ begun l filled_on → Fills (old_chunks l1.given filled_on) l1
fills_there l l1 filled_on h unmixed e =
    subst (λ (flags : List Bool). Fills (old_chunks flags filled_on) l1) (sym (ap (λ (z : Ledger). z.given) e ∙ begun_given l filled_on)) (fills_then l l1 filled_on h unmixed e)

-- the root's cell was moved, or lay there
pub record RootKept (l new : Ledger) (filled_on : Option ℕ) (at : ℕ) : Type 0 where
  pub moves : Moves (old_chunks l.given filled_on) 0 (begun l filled_on) new
  pub elsewhere : is_old (old_chunks l.given filled_on) at ≡ false

pub root_copied : (l l1 new : Ledger) (filled_on : Option ℕ) (at : ℕ) → l1 ≡ begun l filled_on → Moves (old_chunks l1.given filled_on) 0 l1 new → is_old (old_chunks l1.given filled_on) at ≡ false → RootKept l new filled_on at
root_copied l l1 new filled_on at e m far = record {
  moves = subst (λ (flags : List Bool). Moves (old_chunks flags filled_on) 0 (begun l filled_on) new) (begun_given l filled_on) (subst (λ (z : Ledger). Moves (old_chunks z.given filled_on) 0 z new) e m);
  elsewhere = subst (λ (flags : List Bool). is_old (old_chunks flags filled_on) at ≡ false) (ap (λ (z : Ledger). z.given) e ∙ begun_given l filled_on) far;
}

-- there was no room for the root's cell
pub nothing_moved : (l l1 new : Ledger) (filled_on : Option ℕ) → IsLedger l → IfSome filled_on (λ c. is_unmixed l c ≡ true) → l1 ≡ begun l filled_on → new ≡ l1 → Moves (old_chunks l.given filled_on) 0 (begun l filled_on) new
nothing_moved l l1 new filled_on h unmixed e same =
    subst (Moves (old_chunks l.given filled_on) 0 (begun l filled_on)) (sym (same ∙ e)) (moves_none (old_chunks l.given filled_on) (begun l filled_on) (fills_begun l h filled_on unmixed))
