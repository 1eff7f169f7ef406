-- A scan of a master file's lines. It says the same as the grammar beside it, by one step a byte.
use Rattle.std.specs.Prelude.{ℕ, ◌+◌, ◌-◌, Bool, true, false, List, [], ◌∷◌, ◌++◌, ◌==◌, if◌then◌else◌, Result, Ok, Err}
use Rattle.zone_model.specs.Refusals.{Refused, ◌>>=◌}
pub use Rattle.zone_model.specs.Grammar.{Token, LineTokens, EntryTokens, is_blank, begins_blank, parts_words}
use Rattle.zone_model.specs.declared.ZoneKind.{ZoneKind}
use Rattle.zone_model.specs.declared.ZoneKind.TheVariants.{BadToken, OpenQuote, OpenParen}

-- what the byte before belongs to: nothing, a comment, a word, a quoted token, or a backslash in one of these
pub data Begun : Type 0 where
  Apart : Begun
  Comment : Begun
  Word : (text : List ℕ) → Begun
  Quote : (text : List ℕ) → Begun
  Escape : (quoted : Bool) (text : List ℕ) → Begun

-- The tokens so far, what has begun, the depth of parentheses, the line of the outermost one that is open, and whether
-- there was one.
pub record Scan : Type 0 where
  pub tokens : List Token
  pub begun : Begun
  pub depth : ℕ
  pub outer : ℕ
  pub parens : Bool

abbrev pub fresh : Scan
fresh = record { tokens = []; begun = Apart; depth = 0; outer = 0; parens = false }

abbrev pub refused : {A : Type 0} → ℕ → ZoneKind → Result A (Refused ZoneKind)
refused n kind = Err (record { line = n; kind = kind })

-- a token that ends here
abbrev pub with_token : List ℕ → Bool → ℕ → Scan → Scan
with_token text quoted n s = record s { tokens = s.tokens ++ (record { text = text; quoted = quoted; line = n }) ∷ []; begun = Apart }

abbrev pub opened : ℕ → Scan → Scan
opened n s = record s { depth = s.depth + 1; outer = (if s.depth == 0 then n else s.outer); parens = true; begun = Apart }

abbrev pub closed : ℕ → Scan → Result Scan (Refused ZoneKind)
closed n s = if s.depth == 0 then refused n BadToken else Ok (record s { depth = s.depth - 1; begun = Apart })

-- a byte that isn't in a token, a comment or behind a backslash
abbrev pub apart : ℕ → ℕ → Scan → Result Scan (Refused ZoneKind)
apart n c s =
    if c == 32 then Ok (record s { begun = Apart })
    else if c == 9 then Ok (record s { begun = Apart })
    else if c == 59 then Ok (record s { begun = Comment })
    else if c == 34 then Ok (record s { begun = Quote [] })
    else if c == 40 then Ok (opened n s)
    else if c == 41 then closed n s
    else if c == 92 then Ok (record s { begun = Escape false (92 ∷ []) })
    else Ok (record s { begun = Word (c ∷ []) })

abbrev pub in_word : ℕ → ℕ → List ℕ → Scan → Result Scan (Refused ZoneKind)
in_word n c text s =
    if parts_words c then apart n c (with_token text false n s)
    else if c == 92 then Ok (record s { begun = Escape false (text ++ c ∷ []) })
    else Ok (record s { begun = Word (text ++ c ∷ []) })

abbrev pub in_quote : ℕ → ℕ → List ℕ → Scan → Result Scan (Refused ZoneKind)
in_quote n c text s =
    if c == 34 then Ok (with_token text true n s)
    else if c == 92 then Ok (record s { begun = Escape true (text ++ c ∷ []) })
    else Ok (record s { begun = Quote (text ++ c ∷ []) })

-- the next byte of line n
unfoldable pub step : ℕ → ℕ → Scan → Result Scan (Refused ZoneKind)
step n c s = by_begun s.begun
  where
    by_begun : Begun → Result Scan (Refused ZoneKind)
    by_begun Apart = apart n c s
    by_begun Comment = Ok s
    by_begun (Word text) = in_word n c text s
    by_begun (Quote text) = in_quote n c text s
    by_begun (Escape quoted text) = Ok (record s { begun = (if quoted then Quote (text ++ c ∷ []) else Word (text ++ c ∷ [])) })

unfoldable pub steps : ℕ → List ℕ → Scan → Result Scan (Refused ZoneKind)
steps n [] s = Ok s
steps n (c ∷ text) s = step n c s >>= steps n text

-- the end of line n
unfoldable pub line_end : ℕ → Scan → Result Scan (Refused ZoneKind)
line_end n s = by_begun s.begun
  where
    by_begun : Begun → Result Scan (Refused ZoneKind)
    by_begun Apart = Ok s
    by_begun Comment = Ok (record s { begun = Apart })
    by_begun (Word text) = Ok (with_token text false n s)
    by_begun (Quote text) = refused n OpenQuote
    by_begun (Escape quoted text) = refused n BadToken

-- the tokens of line n behind those that came before
unfoldable pub line_tokens : ℕ → List ℕ → Scan → Result Scan (Refused ZoneKind)
line_tokens n line s = steps n line s >>= line_end n

abbrev pub single_line : ℕ → List ℕ → Result LineTokens (Refused ZoneKind)
single_line n line = line_tokens n line fresh >>= (λ s. Ok (record { tokens = s.tokens; parens = s.parens }))

abbrev pub entry_of : Scan → ℕ → List (List ℕ) → EntryTokens
entry_of s next rest = record { tokens = s.tokens; parens = s.parens; next = next; rest = rest }

-- The entry that goes on at line n: it ends at the first line end that no parenthesis is open at.
unfoldable pub entry_from : ℕ → List (List ℕ) → Scan → Result EntryTokens (Refused ZoneKind)
entry_from n [] s = if s.depth == 0 then Ok (entry_of s n []) else refused s.outer OpenParen
entry_from n (line ∷ lines) s = line_tokens n line s >>= (λ t. if t.depth == 0 then Ok (entry_of t (n + 1) lines) else entry_from (n + 1) lines t)

-- what an entry comes to, where line n gave these tokens
abbrev pub after_line : ℕ → List (List ℕ) → Scan → Result EntryTokens (Refused ZoneKind)
after_line n rest s = if s.depth == 0 then Ok (entry_of s (n + 1) rest) else entry_from (n + 1) rest s
