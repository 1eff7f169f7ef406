-- Jobs in the words of the grammar of lines: a zone's entries and a script's lines, one after another, each spelled by its tokens.
use Rattle.std.specs.Prelude.{◌≡◌, ℕ, ◌+◌, true, false, List, [], ◌∷◌, length, Some, Result, Ok, Err}
use Rattle.zone_model.specs.Names.{Name}
use Rattle.zone_model.specs.Versions.{Version}
use Rattle.zone_model.specs.Refusals.{Refused, ◌>>=◌}
use Rattle.zone_model.specs.Grammar.{Spelled, Spells, EntryTokens, SpellsEntry, begins_blank}
use Rattle.zone_model.specs.MasterFile.{Reader, entry_says, at_first, with_soa}
use Rattle.zone_model.specs.declared.ZoneKind.{ZoneKind}
use Rattle.job_model.specs.declared.ScriptKind.{ScriptKind}
use Rattle.job_model.specs.declared.ScriptKind.TheVariants.{BadCommand}
use Rattle.job_model.specs.Commands.{Command, Job}
use Rattle.job_model.specs.Arguments.{refuse}
use Rattle.job_model.specs.Jobs.{JobRefusal, ZoneRefused, ScriptRefused, Script, tokens_say, no_lines, finished, zone_lines, script_lines, script_start}

-- ---- zones

-- What the lines from line n on make of what was read before: each entry is spelled by its tokens, and says something of its own.
pub data ReadsZone (top : Name) : ℕ → List (List ℕ) → Reader → Result Reader (Refused ZoneKind) → Type 0 where
  NoEntry : (n : ℕ) (r : Reader) → ReadsZone top n [] r (Ok r)
  -- the spelling of an entry breaks
  EntryBroken : (n : ℕ) (line : List ℕ) (lines : List (List ℕ)) (r : Reader) (e : Refused ZoneKind) → SpellsEntry n [] (line ∷ lines) (Err e) → ReadsZone top n (line ∷ lines) r (Err e)
  -- what an entry says is refused
  EntryRefused : (n : ℕ) (line : List ℕ) (lines : List (List ℕ)) (r : Reader) (entry : EntryTokens) (e : Refused ZoneKind) → SpellsEntry n [] (line ∷ lines) (Ok entry)
      → entry_says top n (begins_blank line) entry.tokens r ≡ Err e → ReadsZone top n (line ∷ lines) r (Err e)
  EntryRead : (n : ℕ) (line : List ℕ) (lines : List (List ℕ)) (r : Reader) (entry : EntryTokens) (next : Reader) (out : Result Reader (Refused ZoneKind)) → SpellsEntry n [] (line ∷ lines) (Ok entry)
      → entry_says top n (begins_blank line) entry.tokens r ≡ Ok next → ReadsZone top entry.next entry.rest next out → ReadsZone top n (line ∷ lines) r out

-- the zone of an origin that lines say, or why they say none
pub record SaysZone (top : Name) (lines : List (List ℕ)) (out : Result Version (Refused ZoneKind)) : Type 0 where
  pub read : Result Reader (Refused ZoneKind)
  pub reads : ReadsZone top 1 lines (at_first top) read
  pub is : out ≡ read >>= with_soa top (length lines + 1)

-- ---- scripts

-- What the lines of a script from line n on make of what was read before. A line has no parenthesis, and stands by itself.
pub data ReadsScript (origin : Name) : ℕ → List (List ℕ) → Script → Result Script (Refused ScriptKind) → Type 0 where
  NoLine : (n : ℕ) (s : Script) → ReadsScript origin n [] s (Ok s)
  LineBroken : (n : ℕ) (line : List ℕ) (lines : List (List ℕ)) (s : Script) (kind : ZoneKind) → Spells n [] line (Err kind) → ReadsScript origin n (line ∷ lines) s (refuse n BadCommand)
  LineOpen : (n : ℕ) (line : List ℕ) (lines : List (List ℕ)) (s : Script) (l : Spelled) → Spells n [] line (Ok l) → l.parens ≡ true → ReadsScript origin n (line ∷ lines) s (refuse n BadCommand)
  LineRefused : (n : ℕ) (line : List ℕ) (lines : List (List ℕ)) (s : Script) (l : Spelled) (e : Refused ScriptKind) → Spells n [] line (Ok l) → l.parens ≡ false → tokens_say origin n s (Some l.tokens) ≡ Err e
      → ReadsScript origin n (line ∷ lines) s (Err e)
  LineRead : (n : ℕ) (line : List ℕ) (lines : List (List ℕ)) (s : Script) (l : Spelled) (next : Script) (out : Result Script (Refused ScriptKind)) → Spells n [] line (Ok l) → l.parens ≡ false
      → tokens_say origin n s (Some l.tokens) ≡ Ok next → ReadsScript origin (n + 1) lines next out → ReadsScript origin n (line ∷ lines) s out

-- the workers' commands that lines say, the first of which has a number, or why they say none
pub record SaysScript (origin : Name) (n : ℕ) (lines : List (List ℕ)) (out : Result (List (List Command)) (Refused ScriptKind)) : Type 0 where
  pub read : Result Script (Refused ScriptKind)
  pub reads : ReadsScript origin n lines no_lines read
  pub is : out ≡ read >>= finished (n + length lines)

-- ---- jobs

-- the job that bytes say, or why they say none: the zone's refusal comes first
pub data SaysJob (origin : Name) (bytes : List ℕ) : Result Job JobRefusal → Type 0 where
  NoZone : (e : Refused ZoneKind) → SaysZone origin (zone_lines bytes) (Err e) → SaysJob origin bytes (Err (ZoneRefused e))
  NoScript : (zone : Version) (e : Refused ScriptKind) → SaysZone origin (zone_lines bytes) (Ok zone) → SaysScript origin (script_start bytes) (script_lines bytes) (Err e) → SaysJob origin bytes (Err (ScriptRefused e))
  IsJob : (zone : Version) (workers : List (List Command)) → SaysZone origin (zone_lines bytes) (Ok zone) → SaysScript origin (script_start bytes) (script_lines bytes) (Ok workers)
      → SaysJob origin bytes (Ok (record { origin = origin; zone = zone; workers = workers }))
