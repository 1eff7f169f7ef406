-- Errors that are passed on.
use Rattle.std.proofs.Common.{◌≡◌, ◌∙◌, List, [], ◌∷◌, length, Result, Ok, Err, refl, sym, ap, subst}
use Rattle.std.specs.Result.{IsErrAnd, IsErrOf}

-- the error that is passed on
pub same_error : {A E : Type 0} (r : Result A E) (e x : E) → IsErrAnd r (λ y. y ≡ e) → r ≡ Err x → x ≡ e
same_error (Ok a) e x f is = cc
same_error (Err y) e x f is = let s : y ≡ x = cc in sym s ∙ f

-- what is so of it
pub passed : {A E : Type 0} (P : Result A E → Type 0) (r : Result A E) (e : E) → IsErrAnd r (λ x. x ≡ e) → P (Err e) → P r
passed P (Ok a) e is p = absurd is
passed P (Err x) e is p = subst (λ y. P (Err y)) (sym is) p
