-- What a gate is told of a worker's commands.
use Rattle.std.proofs.Common.{◌≡◌, ⊎_elim, ℕ, ◌+◌, ◌<◌, ◌≤◌, Result, Ok, Err, IfOk, subst, sym, arith}
use Rattle.std.proofs.Math.Nat.{eq-or-lt_of_le}

-- one place more
pub one_more : (P : ℕ → Type 0) (n m : ℕ) → m ≡ n + 1 → ((k : ℕ) → k < n → P k) → P n → (k : ℕ) → k < m → P k
one_more P n m is all here k lt =
    let le : k ≤ n = omega arith in
    ⊎_elim (λ (same : k ≡ n). subst P (sym same) here) (λ (less : k < n). all k less) (eq-or-lt_of_le le)

pub any_ok : {A E P : Type 0} (r : Result A E) → P → IfOk r (λ _. P)
any_ok (Ok x) p = p
any_ok (Err e) p = tt
