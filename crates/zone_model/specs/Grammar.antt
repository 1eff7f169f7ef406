-- The grammar of a master file's lines (RFC 1035, section 5.1): how a text is spelled by its tokens, and where the
-- spelling breaks. Of the bytes, 34 is a quote, 40 and 41 are parentheses, 59 is a semicolon and 92 a backslash.
use Rattle.std.specs.Prelude.{◌≡◌, ℕ, ◌+◌, ◌<◌, Bool, true, false, ◌||◌, List, [], ◌∷◌, ◌++◌, length, ◌==◌, Result, Ok, Err}
use Rattle.zone_model.specs.Refusals.{Refused}
use Rattle.zone_model.specs.declared.ZoneKind.{ZoneKind}
use Rattle.zone_model.specs.declared.ZoneKind.TheVariants.{BadToken, OpenQuote, OpenParen}

-- a token's bytes, without the quotes around them and with the escapes in them, and the line that it stands on
pub record Token : Type 0 where
  pub text : List ℕ
  pub quoted : Bool
  pub line : ℕ

-- a space or tab
abbrev pub is_blank : ℕ → Bool
is_blank c = (c == 32) || (c == 9)

-- a text begins with a space or tab
abbrev pub begins_blank : List ℕ → Bool
begins_blank [] = false
begins_blank (c ∷ text) = is_blank c

-- the bytes that end a word, and stand in it only behind a backslash: space, tab, semicolon, quote, parentheses
abbrev pub parts_words : ℕ → Bool
parts_words c = (c == 32) || (c == 9) || (c == 59) || (c == 34) || (c == 40) || (c == 41)

-- ---- words and quoted tokens

-- Bytes that stop a run stand in it only behind a backslash, which takes any byte.
pub data Run (stops : ℕ → Bool) : List ℕ → Type 0 where
  Empty : Run stops []
  Plain : (c : ℕ) (text : List ℕ) → stops c ≡ false → Run stops text → Run stops (c ∷ text)
  Escaped : (c : ℕ) (text : List ℕ) → Run stops text → Run stops (92 ∷ c ∷ text)

-- a word has no space, tab, semicolon, quote or parenthesis
abbrev pub stops_word : ℕ → Bool
stops_word c = parts_words c || (c == 92)

-- a quoted token has no quote
abbrev pub stops_quote : ℕ → Bool
stops_quote c = (c == 34) || (c == 92)

-- a word is as long as it can be: behind it the line ends, or one of the bytes stands that no word has
abbrev pub EndsWord : List ℕ → Type 0
EndsWord [] = Unit {0}
EndsWord (c ∷ text) = parts_words c ≡ true

-- ---- lines

-- What a line says from a place on: its tokens, whether a parenthesis opens, and the lines of the parentheses that are open
-- at its end, the innermost first.
pub record Spelled : Type 0 where
  pub tokens : List Token
  pub parens : Bool
  pub opens : List ℕ

abbrev pub with_first : Token → Result Spelled ZoneKind → Result Spelled ZoneKind
with_first t (Ok s) = Ok (record s { tokens = t ∷ s.tokens })
with_first t (Err kind) = Err kind

abbrev pub with_paren : Result Spelled ZoneKind → Result Spelled ZoneKind
with_paren (Ok s) = Ok (record s { parens = true })
with_paren (Err kind) = Err kind

-- From a place of line n on, with these parentheses open, the text is spelled so: `Ok` what it says, or `Err` why the
-- spelling breaks at the first place behind which nothing can go on.
pub data Spells (n : ℕ) : List ℕ → List ℕ → Result Spelled ZoneKind → Type 0 where
  End : (opens : List ℕ) → Spells n opens [] (Ok (record { tokens = []; parens = false; opens = opens }))
  -- a comment reaches to the end of the line
  Comment : (opens text : List ℕ) → Spells n opens (59 ∷ text) (Ok (record { tokens = []; parens = false; opens = opens }))
  Blank : (opens : List ℕ) (c : ℕ) (text : List ℕ) (out : Result Spelled ZoneKind) → is_blank c ≡ true → Spells n opens text out → Spells n opens (c ∷ text) out
  Open : (opens text : List ℕ) (out : Result Spelled ZoneKind) → Spells n (n ∷ opens) text out → Spells n opens (40 ∷ text) (with_paren out)
  Close : (opened : ℕ) (opens text : List ℕ) (out : Result Spelled ZoneKind) → Spells n opens text out → Spells n (opened ∷ opens) (41 ∷ text) out
  Word : (opens word text : List ℕ) (out : Result Spelled ZoneKind) → 0 < length word → Run stops_word word → EndsWord text → Spells n opens text out
      → Spells n opens (word ++ text) (with_first (record { text = word; quoted = false; line = n }) out)
  Quoted : (opens inner text : List ℕ) (out : Result Spelled ZoneKind) → Run stops_quote inner → Spells n opens text out
      → Spells n opens (34 ∷ inner ++ 34 ∷ text) (with_first (record { text = inner; quoted = true; line = n }) out)
  -- a parenthesis closes that none opened
  StrayClose : (text : List ℕ) → Spells n [] (41 ∷ text) (Err BadToken)
  -- a backslash stands at the end of the line
  WordCut : (opens word : List ℕ) → Run stops_word word → Spells n opens (word ++ 92 ∷ []) (Err BadToken)
  QuoteCut : (opens inner : List ℕ) → Run stops_quote inner → Spells n opens (34 ∷ inner ++ 92 ∷ []) (Err BadToken)
  -- a quote is open at the end of the line
  QuoteOpen : (opens inner : List ℕ) → Run stops_quote inner → Spells n opens (34 ∷ inner) (Err OpenQuote)

-- a line by itself: its tokens, and whether it has a parenthesis
pub record LineTokens : Type 0 where
  pub tokens : List Token
  pub parens : Bool

-- what a line by itself comes to
abbrev pub line_says : ℕ → Result Spelled ZoneKind → Result LineTokens (Refused ZoneKind)
line_says n (Ok s) = Ok (record { tokens = s.tokens; parens = s.parens })
line_says n (Err kind) = Err (record { line = n; kind = kind })

-- ---- entries

-- the line of the outermost open parenthesis
abbrev pub outermost : List ℕ → ℕ
outermost [] = 0
outermost (n ∷ []) = n
outermost (n ∷ m ∷ opens) = outermost (m ∷ opens)

-- An entry: its tokens, whether there was a parenthesis, the number of the line behind it, and the lines from there on.
pub record EntryTokens : Type 0 where
  pub tokens : List Token
  pub parens : Bool
  pub next : ℕ
  pub rest : List (List ℕ)

-- the entry with the tokens of an earlier line in front
abbrev pub behind : Spelled → Result EntryTokens (Refused ZoneKind) → Result EntryTokens (Refused ZoneKind)
behind s (Ok e) = Ok (record e { tokens = s.tokens ++ e.tokens; parens = s.parens || e.parens })
behind s (Err refusal) = Err refusal

-- The entry that goes on at line n, with these parentheses open, is spelled so. It ends at the first line end that no
-- parenthesis is open at, or at the end of the text.
pub data SpellsEntry : ℕ → List ℕ → List (List ℕ) → Result EntryTokens (Refused ZoneKind) → Type 0 where
  NoLine : (n : ℕ) → SpellsEntry n [] [] (Ok (record { tokens = []; parens = false; next = n; rest = [] }))
  ParenOpen : (n m : ℕ) (opens : List ℕ) → SpellsEntry n (m ∷ opens) [] (Err (record { line = outermost (m ∷ opens); kind = OpenParen }))
  Broken : (n : ℕ) (opens line : List ℕ) (lines : List (List ℕ)) (kind : ZoneKind) → Spells n opens line (Err kind)
      → SpellsEntry n opens (line ∷ lines) (Err (record { line = n; kind = kind }))
  Last : (n : ℕ) (opens line : List ℕ) (lines : List (List ℕ)) (s : Spelled) → Spells n opens line (Ok s) → s.opens ≡ []
      → SpellsEntry n opens (line ∷ lines) (Ok (record { tokens = s.tokens; parens = s.parens; next = n + 1; rest = lines }))
  GoesOn : (n : ℕ) (opens line : List ℕ) (lines : List (List ℕ)) (s : Spelled) (out : Result EntryTokens (Refused ZoneKind)) → Spells n opens line (Ok s)
      → 0 < length s.opens → SpellsEntry (n + 1) s.opens lines out → SpellsEntry n opens (line ∷ lines) (behind s out)
