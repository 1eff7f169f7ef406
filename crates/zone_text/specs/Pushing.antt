-- What the readers of words push.
use Rattle.std.specs.Prelude.{◌≡◌, Bool, true, false, ℕ, List, ◌++◌, Option, Some, None}
use Rattle.std.specs.Option.{option_map}

-- all octets were pushed, or there are none
abbrev pub PushesAll : Bool → List ℕ → List ℕ → Option (List ℕ) → Type 0
PushesAll true old new wanted = option_map (λ cs. old ++ cs) wanted ≡ Some new
PushesAll false old new wanted = wanted ≡ None
