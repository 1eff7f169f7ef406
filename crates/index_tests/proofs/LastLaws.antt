-- What is left of a list of which each element has a property, when the last is taken off
use Rattle.std.proofs.Common.{◌≡◌, ℕ, List, take, sym, subst}
use Rattle.std.specs.List.{All}
use Rattle.std.proofs.lemmas.List.Elements.{All-take}

pub but_last : {X : Type 0} (P : X → Type 0) (xs ys : List X) (k : ℕ) → All P xs → ys ≡ take k xs → All P ys
but_last P xs ys k all rest = subst (All P) (sym rest) (All-take P k xs all)
