-- What the scan gives is what the grammar says.
use Rattle.std.proofs.Common.{ℕ, List, [], Result, Ok, Err, subst}
use Rattle.zone_model.specs.Refusals.{Refused}
use Rattle.zone_model.specs.Tokens.{EntryTokens, LineTokens, fresh, entry_from, single_line}
use Rattle.zone_model.specs.Grammar.{Spelled, Spells, SpellsEntry, line_says}
use Rattle.zone_model.specs.declared.ZoneKind.{ZoneKind}
use Rattle.zone_model.proofs.GrammarLemmas.{entry_is, entry_spelled, line_is, line_spelled}
use Rattle.zone_text.specs.Spelling.{EntrySpelled, LineSays, LineSpelled}
use Rattle.zone_text.specs.Views.{Reads, lexed_view, line_view}
use Rattle.zone_text.specs.declared.entry_tokens.Lexed.{Lexed}
use Rattle.zone_text.specs.declared.single_lines.LexedLine.{LexedLine}
use Rattle.zone_text.specs.declared.refusal.ZoneRefusal.{ZoneRefusal}

pub spelled_so : (bytes : List ℕ) (n : ℕ) (lines : List (List ℕ)) (r : Result Lexed ZoneRefusal) → Reads r (lexed_view bytes) (entry_from n lines fresh) → EntrySpelled bytes n lines r
spelled_so bytes n lines (Ok l) g = subst (SpellsEntry n [] lines) g (entry_spelled n lines)
spelled_so bytes n lines (Err e) g = λ told. subst (SpellsEntry n [] lines) (g told) (entry_spelled n lines)

pub spelled_only : (bytes : List ℕ) (n : ℕ) (lines : List (List ℕ)) (r : Result Lexed ZoneRefusal) (out : Result EntryTokens (Refused ZoneKind)) → Reads r (lexed_view bytes) (entry_from n lines fresh) → SpellsEntry n [] lines out → Reads r (lexed_view bytes) out
spelled_only bytes n lines r out g h = subst (λ (o : Result EntryTokens (Refused ZoneKind)). Reads r (lexed_view bytes) o) (entry_is n lines out h) g

line_only : (bytes : List ℕ) (n : ℕ) (text : List ℕ) (r : Result LexedLine ZoneRefusal) (out : Result Spelled ZoneKind) → Reads r (line_view bytes) (single_line n text) → Spells n [] text out → Reads r (line_view bytes) (line_says n out)
line_only bytes n text r out g h = subst (λ (o : Result LineTokens (Refused ZoneKind)). Reads r (line_view bytes) o) (line_is n text out h) g

line_so : (bytes : List ℕ) (n : ℕ) (text : List ℕ) (r : Result LexedLine ZoneRefusal) → Reads r (line_view bytes) (single_line n text) → LineSpelled bytes n text r
line_so bytes n text r g = let x = line_spelled n text in (x.0, x.1, line_only bytes n text r x.0 g x.1)

pub line_says_so : (bytes : List ℕ) (n : ℕ) (text : List ℕ) (r : Result LexedLine ZoneRefusal) → Reads r (line_view bytes) (single_line n text) → LineSays bytes n text r
line_says_so bytes n text r g = record { spelled = line_so bytes n text r g; only = λ out h. line_only bytes n text r out g h; reads = g }
