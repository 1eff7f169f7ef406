-- Whether something changed.
use Rattle.std.specs.Prelude.{◌≡◌, Bool, true, false}

-- true exactly where it became another
abbrev pub TellsChange : {A : Type 0} → Bool → A → A → Type 0
TellsChange true old new = new ≡ old → ⊥
TellsChange false old new = new ≡ old
