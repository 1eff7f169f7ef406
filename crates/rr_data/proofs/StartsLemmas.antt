-- Texts that begin with another.
use Rattle.std.proofs.Common.{◌≡◌, ◌∙◌, ℕ, List, ◌++◌, length, take, ap, refl}
use Rattle.std.proofs.lemmas.List.{take_at}
use Rattle.std.specs.Io.{StartsWith}
use Rattle.dns_name.proofs.PrintLemmas as printing

-- what begins with something longer begins with its front
pub starts_front : (xs ys zs : List ℕ) → StartsWith xs (ys ++ zs) → StartsWith xs ys
starts_front = printing.starts_front

-- to begin with something is transitive
pub starts_chain : (xs ys zs : List ℕ) → StartsWith xs ys → StartsWith ys zs → StartsWith xs zs
starts_chain = printing.starts_chain

-- what was pushed leaves the front
pub starts_pushed : (xs ys pushed zs : List ℕ) → xs ≡ ys ++ pushed → StartsWith ys zs → StartsWith xs zs
starts_pushed xs ys pushed zs e h = starts_chain xs ys zs (ap (take (length ys)) e ∙ take_at ys pushed (length ys) refl) h
