-- What a gate is told through a turnstile.
use Rattle.std.proofs.Common.{◌≡◌, ℕ, subst}
use Rattle.job_commands.specs.Calls.{Call}

-- a gate that is the same was told the same, of a worker that has the same number
pub same_told : {X : Type 0} (hears : X → Call → Type 0) (call : ℕ → Call) (x y : X) (v w : ℕ) → x ≡ y → v ≡ w → hears x (call v) → hears y (call w)
same_told hears call x y v w same number told = subst (λ g. hears g (call w)) same (subst (λ n. hears x (call n)) number told)
