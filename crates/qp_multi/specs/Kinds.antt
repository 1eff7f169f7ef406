-- How a transaction begins, by its kind.
use Rattle.std.specs.Prelude.{◌≡◌, Bool, true, false}
use Rattle.chunk_usage.specs.Ledger.{Ledger}
use Rattle.chunk_usage.specs.Keeping.{closed, full}

-- what is written begins a chunk of its own, or goes on in the bump chunk
abbrev pub StartsAs : Bool → Ledger → Type 0
StartsAs true u = u.bump ≡ full u.fender
StartsAs false u = u.bump ≡ u.fender

-- so the bump chunk counts as filled, or doesn't
abbrev pub started : Bool → Ledger → Ledger
started true u = closed u
started false u = u
