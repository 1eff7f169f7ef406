-- Zones that are counted one after another.
use Rattle.std.proofs.Common.{◌≡◌, ◌≢◌, ◌∙◌, ◌⊎◌, ⊎_elim, ℕ, ◌<◌, List, [], ◌∷◌, ◌++◌, length, Some, sym, subst, arith}
use Rattle.std.specs.List.{slice_get}
use Rattle.qp_multi.specs.Passes.{Known}
use Rattle.zone_table.proofs.Lists.{last_or_before}
use Rattle.zones_threads.specs.Visits.{Counted}

-- one zone more is counted
pub counted_more : (first now next : ℕ → Known) (names more : List ℕ) (place count : ℕ) → length names ≡ place → more ≡ names ++ count ∷ [] → ((zone n : ℕ) → slice_get names zone ≡ Some n → Counted (first zone) (now zone) n) → now place ≡ first place → Counted (now place) (next place) count
    → ((zone : ℕ) → zone ≢ place → next zone ≡ now zone) → (zone n : ℕ) → slice_get more zone ≡ Some n → Counted (first zone) (next zone) n
counted_more first now next names more place count many is counted same here others zone n there = ⊎_elim
    (λ (l : (zone < length names) × (slice_get names zone ≡ Some n)).
    let lt = l.0 in subst (λ (v : Known). Counted (first zone) v n) (sym (others zone (λ e. absurd (omega (arith, e, lt, many))))) (counted zone n l.1))
    (λ (r : (zone ≡ length names) × (count ≡ n)).
    let at : place ≡ zone = sym many ∙ sym r.0 in
    subst (λ (z : ℕ). Counted (first z) (next z) n) at (subst (λ (m : ℕ). Counted (first place) (next place) m) r.1 (subst (λ (v : Known). Counted v (next place) count) same here)))
    (last_or_before names count n zone (subst (λ (l : List ℕ). slice_get l zone ≡ Some n) is there))
