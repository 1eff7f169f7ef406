-- What the reader's types say in the words of the definitions.
use Rattle.std.specs.Prelude.{◌≡◌, ◌≢◌, Bool, true, ℕ, ◌≤◌, ◌<◌, ◌^◌, List, length, map, drop, slice_index, Result, Ok, Err}
use Rattle.std.specs.List.{slice_range, All}
use Rattle.zone_model.specs.Refusals.{Refused}
use Rattle.zone_model.specs.Grammar.{stops_word}
use Rattle.zone_model.specs.Lines.{lines_of}
use Rattle.zone_model.specs.declared.ZoneKind.{ZoneKind}
use Rattle.zone_model.specs.declared.ZoneKind.TheVariants.{Memory}
use Rattle.zone_model.specs.Tokens as says
use Rattle.zone_text.specs.Tokens.{token_view, IsPlaced}
use Rattle.zone_text.specs.declared.entry_tokens.Lexed.{Lexed}
use Rattle.zone_text.specs.declared.single_lines.LexedLine.{LexedLine}
use Rattle.zone_text.specs.declared.refusal.ZoneRefusal.{ZoneRefusal}
use Rattle.zone_text.specs.declared.lexer.Begun.{Begun}
use Rattle.zone_text.specs.declared.lexer.Begun.TheVariants as begun
use Rattle.zone_text.specs.declared.lexer.Scan.{Scan}

-- what has begun, as seen before the byte at a place
abbrev pub begun_view : List ℕ → ℕ → Begun → says.Begun
begun_view bytes at begun.Apart = says.Apart
begun_view bytes at begun.Comment = says.Comment
begun_view bytes at (begun.Word from) = says.Word (slice_range bytes from at)
begun_view bytes at (begun.Quote from) = says.Quote (slice_range bytes from at)
begun_view bytes at (begun.Escape quoted from) = says.Escape quoted (slice_range bytes from at)

abbrev pub scan_view : List ℕ → ℕ → Scan → says.Scan
scan_view bytes at s = record { tokens = map (token_view bytes) s.tokens.items; begun = begun_view bytes at s.begun; depth = s.depth; outer = s.outer; parens = s.parens }

abbrev pub BegunBy : ℕ → Begun → Type 0
BegunBy at begun.Apart = Unit {0}
BegunBy at begun.Comment = Unit {0}
BegunBy at (begun.Word from) = from ≤ at
BegunBy at (begun.Quote from) = from ≤ at
BegunBy at (begun.Escape quoted from) = from ≤ at

pub record HasScanned (bytes : List ℕ) (at : ℕ) (s : Scan) : Type 0 where
  pub began : BegunBy at s.begun
  pub shallow : s.depth ≤ at
  pub placed : All (IsPlaced bytes) s.tokens.items

-- The byte at an index comes behind what began at another one and lies in a token, or behind a backslash in one.
pub record IsInside (bytes : List ℕ) (from at : ℕ) (s : Scan) : Type 0 where
  pub began : from ≤ at
  pub inside : at < length bytes
  pub short : length bytes ≤ 2 ^ 24
  pub shallow : s.depth ≤ at
  pub placed : All (IsPlaced bytes) s.tokens.items

-- A token that began at a place may end before another one.
pub record MayEnd (bytes : List ℕ) (from at : ℕ) (s : Scan) : Type 0 where
  -- It does not end before it began.
  pub began : from ≤ at
  -- It ends in the text.
  pub inside : at ≤ length bytes
  -- The text is no longer than a file may be.
  pub short : length bytes ≤ 2 ^ 24
  -- No more parentheses are open than bytes were met.
  pub shallow : s.depth ≤ at
  -- The tokens before it lie in the text.
  pub placed : All (IsPlaced bytes) s.tokens.items

-- what the end of a token, which began at a place, before another one is to make of a scan
abbrev pub ended : List ℕ → ℕ → ℕ → Bool → ℕ → Scan → Result says.Scan (Refused ZoneKind)
ended bytes from at quoted n s = Ok (says.with_token (slice_range bytes from at) quoted n (scan_view bytes at s))

-- The byte that a scan has to take next, of a stretch of the text; before it, there is at most what just joins a word.
pub record IsNextStep (bytes : List ℕ) (at upto : ℕ) (s : Scan) (to : ℕ) : Type 0 where
  -- It does not lie before the stretch.
  pub order : at ≤ to
  -- It does not lie behind it.
  pub inside : to ≤ upto
  -- The steps from there on, with the scan as it is seen there, give what those of the whole stretch do.
  pub same : (line : ℕ) → says.steps line (slice_range bytes at upto) (scan_view bytes at s) ≡ says.steps line (slice_range bytes to upto) (scan_view bytes to s)
  -- The scan has come so far.
  pub scanned : HasScanned bytes to s
  -- In a word, it is a byte that stops words, unless the stretch ends there.
  pub stops : (from : ℕ) → s.begun ≡ begun.Word from → to < upto → stops_word (slice_index bytes to) ≡ true

-- What is wanted is refused as this call was. Want of memory says nothing.
abbrev pub IsRefused : {A : Type 0} → ZoneRefusal → Result A (Refused ZoneKind) → Type 0
IsRefused e wanted = e.kind ≢ Memory → wanted ≡ Err (record { line = e.line; kind = e.kind })

-- A call changed a scan to what the definition wants, or stopped with the definition's refusal, or had no memory.
abbrev pub Gives : {A : Type 0} → Result (Unit {0}) ZoneRefusal → A → Result A (Refused ZoneKind) → Type 0
Gives (Ok u) new wanted = wanted ≡ Ok new
Gives (Err e) new wanted = IsRefused e wanted

-- the same for a result
abbrev pub Reads : {R A : Type 0} → Result R ZoneRefusal → (R → A) → Result A (Refused ZoneKind) → Type 0
Reads (Ok r) view wanted = wanted ≡ Ok (view r)
Reads (Err e) view wanted = IsRefused e wanted

-- a line of an entry was read, and the next one begins at the place that the call gave
abbrev pub ReadsLine : List ℕ → ℕ → ℕ → Scan → Scan → Result ℕ ZoneRefusal → Type 0
ReadsLine bytes at n old new (Ok next) = says.entry_from n (lines_of (drop at bytes)) (scan_view bytes at old) ≡ says.after_line n (lines_of (drop next bytes)) (scan_view bytes next new)
ReadsLine bytes at n old new (Err e) = IsRefused e (says.entry_from n (lines_of (drop at bytes)) (scan_view bytes at old))

abbrev pub lexed_view : List ℕ → Lexed → says.EntryTokens
lexed_view bytes l = record { tokens = map (token_view bytes) l.tokens.items; parens = l.parens; next = l.next_line; rest = lines_of (drop l.next bytes) }

abbrev pub line_view : List ℕ → LexedLine → says.LineTokens
line_view bytes l = record { tokens = map (token_view bytes) l.tokens.items; parens = l.parens }
