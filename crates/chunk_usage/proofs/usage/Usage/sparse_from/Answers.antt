use Rattle.std.proofs.Common.{◌≡◌, ℕ, ◌+◌, ◌≤◌, Bool, true, false, not, List, slice_index, slice_index_or, inl, inr, refl, sym, ap, subst, ◌∙◌, arith}
use Rattle.std.specs.Prelude.{◌&&◌, Option, IfNone}
use Rattle.std.proofs.lemmas.Bool.{cases_lt, cases_eq, true≢false}
use Rattle.chunk_usage.specs.Ledger.{Ledger, is_given, is_bump}
use Rattle.chunk_usage.specs.Counting.{is_low, is_sparse, thin_row}
use Rattle.chunk_usage.proofs.CountLemmas.{not_thin}
use Rattle.chunk_usage.proofs.InsideLemmas.{known}
use Rattle.chunk_usage.proofs.usage.Usage.sparse_from.Goals as goal

few : (g w o : Bool) → (g && (w && not o)) ≡ true → w ≡ true
few true true o h = refl
few true false o h = h
few false w o h = absurd (true≢false (sym h))

shut : (g w o : Bool) → (g && (w && not o)) ≡ true → o ≡ false
shut true true true h = sym h
shut true true false h = refl
shut true false o h = absurd (true≢false (sym h))
shut false w o h = absurd (true≢false (sym h))

-- of a sparse chunk that isn't in the set of the thin ones no cell counts
clear : (l : Ledger) (thin : List Bool) → thin ≡ thin_row l.live → (k : ℕ) → slice_index_or thin k false ≡ false → is_sparse l k ≡ true → slice_index l.live k ≡ 0
clear l thin is k h sparse = not_thin l.live k (ap (λ (row : List Bool). slice_index_or row k false) (sym is) ∙ h) (few (is_given l k) (is_low (slice_index l.live k)) (is_bump l.bump k) sparse)

pub returns-in_err-first-clause-none : goal.returns-in_err-first-clause-none
returns-in_err-first-clause-none c e k le sparse =
    let state = known c.deref.result.now c.self.inside.state.value c.args.self.now c.deref.ensures c.self.invariant c.self.view_is in
    let thin = c.thin-thin.ensures ∙ ap (λ (l : Ledger). thin_row l.live) state.view_is in
    clear c.args.self.now c.thin-thin.result.now thin k (c.in_err-first.ensures.none k le) sparse

pub returns-clause-none : goal.returns-clause-none
returns-clause-none c e k le sparse =
    let state = known c.deref.result.now c.self.inside.state.value c.args.self.now c.deref.ensures c.self.invariant c.self.view_is in
    let thin = c.thin-thin.ensures ∙ ap (λ (l : Ledger). thin_row l.live) state.view_is in
    let again = known c.deref-2.result.now c.self.inside.state.value c.args.self.now c.deref-2.ensures c.self.invariant c.self.view_is in
    let first = c.in_ok-first.ensures.found in
    let further = subst (λ (r : Option ℕ). IfNone r ((j : ℕ) → c.in_ok-first.first + 1 ≤ j → slice_index_or c.thin-thin.result.now j false ≡ false)) e c.first_from-2.ensures.none in
    let is_it : c.is_chunk_of.result ≡ true = c.if-not-is_chunk_of.false in
    elim (cases_lt k c.in_ok-first.first) [
      | inl before ↦ clear c.args.self.now c.thin-thin.result.now thin k (first.none_between k le before) sparse
      | inr from ↦ (elim (cases_eq k c.in_ok-first.first) [
        | inl here ↦ (let open_here : true ≡ is_bump c.args.self.now.bump k = sym (ap (is_bump c.args.self.now.bump) here ∙ ap (λ (l : Ledger). is_bump l.bump c.in_ok-first.first) (sym again.view_is) ∙ sym c.is_chunk_of.ensures ∙ is_it) in absurd (true≢false (open_here ∙ shut (is_given c.args.self.now k) (is_low (slice_index c.args.self.now.live k)) (is_bump c.args.self.now.bump k) sparse)))
        | inr other ↦ clear c.args.self.now c.thin-thin.result.now thin k (further k (omega arith)) sparse
      ])
    ]
