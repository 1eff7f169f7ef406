-- A commit, and version 0.
use Rattle.std.proofs.Common.{◌≡◌, ℕ, suc, ◌+◌, ◌/◌, ◌≤◌, nat_lt, Bool, true, false, not, cond, ◌||◌, if◌then◌else◌, List, [], ◌∷◌, ◌++◌, length, slice_index, slice_index_or, arith, refl, sym, ap, subst, inl, inr}
use Rattle.std.proofs.lemmas.Bool.{cases_lt, true≢false}
use Rattle.std.proofs.lemmas.Bool.Decides.{nat_tests}
use Rattle.std.proofs.lemmas.List.Elements.{All-nil, All-push}
use Rattle.trie_model.specs.Extents.{row}
use Rattle.trie_model.specs.Keys.{Entry}
use Rattle.trie_model.specs.Shape.{cells}
use Rattle.chunk_usage.specs.Ledger.{Ledger, Row, IsLedger, free_count, is_bump, is_given, is_used, row_of}
use Rattle.chunk_usage.specs.Counting.{sparse_count}
use Rattle.chunk_usage.specs.Handing.{consumed}
use Rattle.chunk_usage.specs.Keeping.{frozen}
use Rattle.shared_cells.specs.Cells.{HasCell}
use Rattle.qp_multi.specs.Capacity.{given_count}
use Rattle.qp_multi.specs.WorkingVersions.{working_set}
use Rattle.qp_multi.specs.Movings.{FewThin}
use Rattle.qp_multi.specs.Receipts.{Settles}
use Rattle.qp_multi.specs.Turns.{cells_with}
use Rattle.qp_multi.specs.declared.writer.WorkingVersion.{WorkingVersion}
use Rattle.qp_multi.proofs.GivenLaws.{given_consumed}
use Rattle.qp_multi.proofs.OpenLaws.{clear, clear_is}
use Rattle.qp_multi.proofs.ThinLaws.{live_few, set_size}
use Rattle.qp_multi.specs.Bounds.{IsSmall}
use Rattle.qp_multi.specs.Crowds.{RestsSmall, RowsAreFew, WorksSmall, is_met, met_count, most_met, row_size}
use Rattle.qp_multi.proofs.CrowdLaws.{bump_given, rows_same, size_met, spread_few, stopped_met, thin_small}

-- a working set made ready for a commit meets few chunks: where all was moved, or nothing was due, by its own cells; where no chunk was free, as before
pub ready_small : (c most : ℕ) (first d : WorkingVersion) (whole : Bool) → c ≤ 768 → 4 ≤ length first.usage.given → most ≤ 8 → IsLedger d.usage → cells (working_set d) ≤ c → Settles most first d whole → (whole ≡ true → FewThin most d.usage)
    → (whole ≡ false → (free_count d.usage ≡ 0) × (free_count first.usage + 1 ≤ free_count d.usage + (cells (working_set d) / 769 + 1)))
    → WorksSmall c first.usage → IsSmall d.usage c
ready_small c most first d true small chunks few is fits s thin stopped w = record {
  rows = elim (cases_lt most (sparse_count first.usage)) [
    | inl many ↦ rows_same c first.usage d.usage (s.many many).grown.frozen w.rests.rows
    | inr none ↦ subst (λ (l : Ledger). RowsAreFew c l.rows) (sym (s.few (omega arith)).0) w.rests.rows
  ];
  met = thin_small d.usage c is (let t = thin refl in omega arith) (let a = live_few (HasCell (cells_with d.usage d.seat.place.me.0.turn)) (is_used d.usage) d.usage d.root (working_set d) is s.works.stands in omega arith);
}
ready_small c most first d false small chunks few is fits s thin stopped w = elim (cases_lt most (sparse_count first.usage)) [
  | inl many ↦ (
      let e = s.many many in
      let t = stopped refl in
      record {
        rows = rows_same c first.usage d.usage e.grown.frozen w.rests.rows;
        met = stopped_met c (cells (working_set d)) first.usage d.usage (omega arith) fits small t.0 t.1 (spread_few first.usage d.usage e.ledger e.grown e.grown.meets) w;
      })
  | inr none ↦ absurd (true≢false (sym (s.few (omega arith)).1))
]

-- chunks that are met are given
row_given : (given : List Bool) (w : ℕ → ℕ) (r : ℕ) → ((k : ℕ) → w (r + k) ≤ cond {A = ℕ} (slice_index_or given k false) 1 0) → row w r (length given) + clear given ≤ length given
row_given [] w r h = omega arith
row_given (g ∷ given) w r h =
    let more = row_given given w (suc r) (λ k. let a = h (suc k) in let e : r + suc k ≡ suc r + k = omega arith in let f = ap w e in omega arith) in
    let a = h 0 in
    let e : r + 0 ≡ r = omega arith in
    let f = ap w e in go g (omega arith) more
  where
    go : (g : Bool) → w r ≤ cond {A = ℕ} g 1 0 → row w (suc r) (length given) + clear given ≤ length given → (w r + row w (suc r) (length given)) + cond (not g) (1 + clear given) (clear given) ≤ suc (length given)
    go true a more = omega arith
    go false a more = omega arith

pub met_given : (u : Ledger) → IsLedger u → met_count u ≤ given_count u
met_given u is =
    let a = row_given u.given (λ k. if is_met u.live u.bump k then 1 else 0) 0 (λ k. let e : 0 + k ≡ k = omega arith in let f = ap (λ (i : ℕ). cond {A = ℕ} (is_met u.live u.bump i) 1 0) e in let g = each k in omega arith) in
    let b = clear_is u.given in omega arith
  where
    set_counts : (b : Bool) → b ≡ true → ◌≡◌ {A = ℕ} (cond b 1 0) 1
    set_counts b h = ap (λ (x : Bool). cond {A = ℕ} x 1 0) h

    each : (k : ℕ) → cond {A = ℕ} (is_met u.live u.bump k) 1 0 ≤ cond {A = ℕ} (is_given u k) 1 0
    each k = go (is_bump u.bump k) (nat_lt 0 (slice_index u.live k)) refl refl
      where
        go : (a b : Bool) → is_bump u.bump k ≡ a → nat_lt 0 (slice_index u.live k) ≡ b → cond {A = ℕ} (a || b) 1 0 ≤ cond {A = ℕ} (is_given u k) 1 0
        go true b p q = let e = set_counts (is_given u k) (bump_given u.given u.live u.bump is.opened k p) in omega arith
        go false true p q = let e = set_counts (is_given u k) (is.counts.in_given k (grind (arith, nat_tests, q))) in omega arith
        go false false p q = omega arith

pub first_small : (c : ℕ) (u n : Ledger) (es : List Entry) → IsLedger u → u.rows ≡ [] → n ≡ frozen u 0 → consumed u ≤ cells es → cells es ≤ c → RestsSmall c n
first_small c u n es is none after consumes fits = subst (RestsSmall c) (sym after) (
    let a = given_consumed u in
    let b = met_given u is in
    let s = set_size u.live in
    let f = size_met u is in
    record {
      rows = subst (λ (rows : List Row). RowsAreFew c (rows ++ record { version = 0; chunks = row_of u.live } ∷ [])) (sym none)
          (All-push (λ (x : Row). row_size x ≤ most_met c) [] (record { version = 0; chunks = row_of u.live }) (All-nil (λ (x : Row). row_size x ≤ most_met c)) (omega arith));
      base = omega arith;
    })
