-- What the readers of tokens give, in the words of the grammar.
use Rattle.std.specs.Prelude.{◌≡◌, ◌≢◌, ℕ, ◌+◌, ◌<◌, ◌≤◌, List, ◌∷◌, [], length, drop, Result, Ok, Err}
use Rattle.std.specs.List.{All}
use Rattle.zone_model.specs.Grammar.{Spelled, Spells, SpellsEntry, line_says}
use Rattle.zone_model.specs.Lines.{lines_of}
use Rattle.zone_model.specs.Refusals.{Refused}
use Rattle.zone_model.specs.Tokens.{EntryTokens, begins_blank, entry_from, fresh, single_line}
use Rattle.zone_model.specs.declared.ZoneKind.{ZoneKind}
use Rattle.zone_model.specs.declared.ZoneKind.TheVariants.{Memory}
use Rattle.zone_text.specs.Places.{first_line}
use Rattle.zone_text.specs.Tokens.{IsPlaced}
use Rattle.zone_text.specs.Views.{Reads, lexed_view, line_view}
use Rattle.zone_text.specs.declared.entry_tokens.Lexed.{Lexed}
use Rattle.zone_text.specs.declared.single_lines.LexedLine.{LexedLine}
use Rattle.zone_text.specs.declared.refusal.ZoneRefusal.{ZoneRefusal}

-- the lines from line n on are spelled by these tokens, or the spelling breaks where the refusal says
abbrev pub EntrySpelled : List ℕ → ℕ → List (List ℕ) → Result Lexed ZoneRefusal → Type 0
EntrySpelled bytes n lines (Ok l) = SpellsEntry n [] lines (Ok (lexed_view bytes l))
EntrySpelled bytes n lines (Err e) = e.kind ≢ Memory → SpellsEntry n [] lines (Err (record { line = e.line; kind = e.kind }))

-- the same for a line by itself
abbrev pub LineSpelled : List ℕ → ℕ → List ℕ → Result LexedLine ZoneRefusal → Type 0
LineSpelled bytes n text result = (out : Result Spelled ZoneKind) × Spells n [] text out × Reads result (line_view bytes) (line_says n out)

-- What the tokens of the entry on the lines from line n on are.
pub record EntrySays (bytes : List ℕ) (n : ℕ) (lines : List (List ℕ)) (result : Result Lexed ZoneRefusal) : Type 0 where
  -- The lines are spelled by them, or the spelling breaks where the refusal says.
  pub spelled : EntrySpelled bytes n lines result
  -- Whatever the lines are spelled by is this.
  pub only : (out : Result EntryTokens (Refused ZoneKind)) → SpellsEntry n [] lines out → Reads result (lexed_view bytes) out
  -- They are those that the scan of the lines, byte by byte, gives.
  pub reads : Reads result (lexed_view bytes) (entry_from n lines fresh)

-- What is so of the tokens of the entry that begins at a place, on line n.
pub record IsEntry (bytes : List ℕ) (from n : ℕ) (l : Lexed) : Type 0 where
  -- It is told whether the entry begins with a space or tab.
  pub blank : l.blank ≡ begins_blank (drop from bytes)
  -- The tokens lie in the text.
  pub placed : All (IsPlaced bytes) l.tokens.items
  -- The next entry begins in the text, or at its end.
  pub inside : l.next ≤ length bytes
  -- No more lines were passed than bytes.
  pub counted : l.next_line + from ≤ n + l.next
  -- The next entry lies behind this one, but where nothing was left.
  pub on : from < length bytes → from < l.next

-- What the tokens of line n by itself are.
pub record LineSays (bytes : List ℕ) (n : ℕ) (text : List ℕ) (result : Result LexedLine ZoneRefusal) : Type 0 where
  -- The line is spelled by them, or the spelling breaks where the refusal says.
  pub spelled : LineSpelled bytes n text result
  -- Whatever the line is spelled by is this.
  pub only : (out : Result Spelled ZoneKind) → Spells n [] text out → Reads result (line_view bytes) (line_says n out)
  -- They are those that the scan of the line, byte by byte, gives.
  pub reads : Reads result (line_view bytes) (single_line n text)

-- What is so of the tokens of the line that begins at a place.
pub record IsLine (bytes : List ℕ) (from : ℕ) (l : LexedLine) : Type 0 where
  -- The tokens lie in the text.
  pub placed : All (IsPlaced bytes) l.tokens.items
  -- The next line begins behind where this one does.
  pub on : from < l.next
  -- It begins in the text, or at its end.
  pub inside : l.next ≤ length bytes
  -- Its lines are those behind the first one.
  pub rest : lines_of (drop from bytes) ≡ first_line (drop from bytes) ∷ lines_of (drop l.next bytes)
