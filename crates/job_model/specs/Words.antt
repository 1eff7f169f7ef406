-- The words of a script's line.
use Rattle.std.specs.Prelude.{ℕ, Bool, false, List, [], ◌∷◌, ◌==◌, if◌then◌else◌, Option, Some, None, option_and_then}
use Rattle.std.specs.Str.{bytes_eq}
use Rattle.zone_model.specs.Tokens.{Token}
use Rattle.zone_model.specs.Data.{word_number}

-- the token is a command word, which stands in lower case and without quotes
abbrev pub says : Token → List ℕ → Bool
says t word = if t.quoted then false else bytes_eq t.text word

-- the token that stands alone
abbrev pub lone : List Token → Option Token
lone [] = None
lone (t ∷ []) = Some t
lone (t ∷ other ∷ rest) = None

-- the two tokens that stand alone
abbrev pub pair : List Token → Option (Token × Token)
pair [] = None
pair (t ∷ []) = None
pair (t ∷ u ∷ []) = Some (t, u)
pair (t ∷ u ∷ other ∷ rest) = None

-- the most names that are wanted at once
abbrev pub name_limit : ℕ
name_limit = 1000

-- how many names a word wants: an unquoted decimal number from 1 up to the limit
abbrev pub names_word : Token → Option ℕ
names_word t = option_and_then (λ n. if n == 0 then None else Some n) (word_number name_limit t)
