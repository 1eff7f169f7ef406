use Rattle.std.proofs.Common.{◌≡◌, ◌<◌, ◌≤◌, ◌∙◌, ℕ, List, [], ◌∷◌, length, map, take, sym, ap, subst, arith}
use Rattle.std.specs.List.{All, AllByRecursion, AllPairs}
use Rattle.std.proofs.lemmas.List.{take_all}
use Rattle.std.proofs.lemmas.List.Elements.{All-nil, All-cons}
use Rattle.std.proofs.lemmas.List.Kept.{AllPairs-cons}
use Rattle.chunk_usage.specs.Ledger.{Row, Rising}
use Rattle.qp_multi.proofs.kept.Versions.of.Goals as goal

all_above : (v : ℕ) (rows : List Row) → AllByRecursion (λ (r : Row). v < r.version) rows → All (λ w. v < w) (map (λ (r : Row). r.version) rows)
all_above v [] h = All-nil (λ w. v < w)
all_above v (r ∷ rows) h = All-cons (λ w. v < w) r.version (map (λ (s : Row). s.version) rows) h.0 (all_above v rows h.1)

numbers_rise : (rows : List Row) → Rising rows → AllPairs (λ v w. v < w) (map (λ (r : Row). r.version) rows)
numbers_rise [] h = λ i j d l m. absurd (omega arith)
numbers_rise (r ∷ rows) h = AllPairs-cons (λ v w. v < w) r.version (map (λ (s : Row). s.version) rows) (all_above r.version rows h.0) (numbers_rise rows h.1)

-- all were written
all_written : (kept rows : List Row) (numbers : List ℕ) (i : ℕ) → length kept ≤ i → i ≤ length kept → take i numbers ≡ map (λ (r : Row). r.version) (take i kept) → kept ≡ rows → take (length kept) numbers ≡ map (λ (r : Row). r.version) rows
all_written kept rows numbers i most least front is =
    ap (λ (n : ℕ). take n numbers) (let n : length kept ≡ i = omega arith in n) ∙ front ∙ ap (map (λ (r : Row). r.version)) (take_all i kept most ∙ is)

pub invariant_of-result-clause-rising : goal.invariant_of-result-clause-rising
invariant_of-result-clause-rising c =
    subst (AllPairs (λ v w. v < w))
    (sym (all_written c.kept-kept.result.now c.args.usage.now.rows c.loop-i.numbers c.loop-i.i c.loop-i-test.false c.loop-i.auto.i-end c.loop-i.invariant.front c.kept-kept.ensures))
    (numbers_rise c.args.usage.now.rows c.known.ensures.rising)

pub returns : goal.returns
returns c = all_written c.kept-kept.result.now c.args.usage.now.rows c.loop-i.numbers c.loop-i.i c.loop-i-test.false c.loop-i.auto.i-end c.loop-i.invariant.front c.kept-kept.ensures
