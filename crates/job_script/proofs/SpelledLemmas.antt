-- The job that bytes say is the one that the grammar spells.
use Rattle.std.proofs.Common.{◌≡◌, ◌∙◌, ℕ, zero, suc, ◌+◌, ◌-◌, ◌≤◌, Bool, true, false, cond, List, [], ◌∷◌, length, Some, None, Result, Ok, Err, refl, sym, ap, subst, arith}
use Rattle.zone_model.specs.Names.{Name}
use Rattle.zone_model.specs.Versions.{Version}
use Rattle.zone_model.specs.Refusals.{Refused, ◌>>=◌}
use Rattle.zone_model.specs.Grammar.{Spelled, Spells, EntryTokens, SpellsEntry, NoLine as NoEntryLine, ParenOpen, Broken, Last, GoesOn, begins_blank, behind, line_says}
use Rattle.zone_model.specs.Tokens.{fresh, entry_from}
use Rattle.zone_model.specs.MasterFile.{Reader, zone_from, zone_of, entry_says, at_first, with_soa}
use Rattle.zone_model.specs.declared.ZoneKind.{ZoneKind}
use Rattle.zone_model.proofs.GrammarLemmas.{line_is, line_spelled, entry_is, entry_spelled}
use Rattle.master_file.proofs.ZoneLemmas.{after_entry, zone_begins}
use Rattle.job_model.specs.declared.ScriptKind.{ScriptKind}
use Rattle.job_model.specs.Commands.{Command, Job}
use Rattle.job_model.specs.Phrases.{without_parens, script_tokens}
use Rattle.job_model.specs.Jobs.{JobRefusal, Script, tokens_say, script_line, script_from, script_of, no_lines, finished, zone_lines, script_lines, script_start, zone_refused, script_refused, job_of_lines, job_of}
use Rattle.job_script.specs.Spelled.{ReadsZone, NoEntry, EntryBroken, EntryRefused, EntryRead, SaysZone, ReadsScript, NoLine, LineBroken, LineOpen, LineRefused, LineRead, SaysScript, SaysJob, NoZone, NoScript, IsJob}

-- ---- zones

zone_is : (top : Name) {n : ℕ} {lines : List (List ℕ)} {r : Reader} {out : Result Reader (Refused ZoneKind)} → ReadsZone top n lines r out → zone_from top n lines None r ≡ out
unfolding zone_from
zone_is top (NoEntry n r) = refl
zone_is top (EntryBroken n line lines r e spelled) = zone_begins top n line lines r ∙ ap (λ x. x >>= after_entry top n (begins_blank line) r) (entry_is n (line ∷ lines) (Err e) spelled)
zone_is top (EntryRefused n line lines r entry e spelled says) =
    zone_begins top n line lines r ∙ ap (λ x. x >>= after_entry top n (begins_blank line) r) (entry_is n (line ∷ lines) (Ok entry) spelled)
    ∙ ap (λ x. x >>= zone_from top entry.next entry.rest None) says
zone_is top (EntryRead n line lines r entry next out spelled says rest) =
    zone_begins top n line lines r ∙ ap (λ x. x >>= after_entry top n (begins_blank line) r) (entry_is n (line ∷ lines) (Ok entry) spelled)
    ∙ ap (λ x. x >>= zone_from top entry.next entry.rest None) says ∙ zone_is top rest

-- an entry takes a line, if there is one
abbrev Shorter : ℕ → Result EntryTokens (Refused ZoneKind) → Type 0
Shorter size (Ok e) = length e.rest ≤ size - 1
Shorter size (Err e) = Unit {0}

shorter_behind : (size : ℕ) (s : Spelled) (out : Result EntryTokens (Refused ZoneKind)) → Shorter size out → Shorter (suc size) (behind s out)
shorter_behind size s (Ok e) h = omega arith
shorter_behind size s (Err e) h = tt

entry_shorter : {n : ℕ} {opens : List ℕ} {lines : List (List ℕ)} {out : Result EntryTokens (Refused ZoneKind)} → SpellsEntry n opens lines out → Shorter (length lines) out
entry_shorter (NoEntryLine n) = omega arith
entry_shorter (ParenOpen n m opens) = tt
entry_shorter (Broken n opens line lines kind spelled) = tt
entry_shorter (Last n opens line lines s spelled closed) = omega arith
entry_shorter (GoesOn n opens line lines s out spelled open_there rest) = shorter_behind (length lines) s out (entry_shorter rest)

-- shorter lists of lines are read
abbrev ZoneRest : Name → ℕ → Type 0
ZoneRest top most = (m : ℕ) (ls : List (List ℕ)) (s : Reader) → length ls ≤ most → ReadsZone top m ls s (zone_from top m ls None s)

zone_reads : (top : Name) (most n : ℕ) (lines : List (List ℕ)) (r : Reader) → length lines ≤ most → ReadsZone top n lines r (zone_from top n lines None r)
unfolding zone_from
zone_reads top most n [] r h = NoEntry n r
zone_reads top zero n (line ∷ lines) r h = absurd (omega arith)
zone_reads top (suc most) n (line ∷ lines) r h =
    subst (ReadsZone top n (line ∷ lines) r) (sym (zone_begins top n line lines r)) (by_entry (λ m ls s le. zone_reads top most m ls s le) (entry_from n (line ∷ lines) fresh) (entry_spelled n (line ∷ lines)))
  where
    by_said : ZoneRest top most → (entry : EntryTokens) (said : Result Reader (Refused ZoneKind)) → SpellsEntry n [] (line ∷ lines) (Ok entry) → entry_says top n (begins_blank line) entry.tokens r ≡ said
        → ReadsZone top n (line ∷ lines) r (said >>= zone_from top entry.next entry.rest None)
    by_said rest entry (Ok next) spelled says =
        let shorter : length entry.rest ≤ suc (length lines) - 1 = entry_shorter spelled in
        let few : length entry.rest ≤ most = omega arith in
        EntryRead n line lines r entry next (zone_from top entry.next entry.rest None next) spelled says (rest entry.next entry.rest next few)
    by_said rest entry (Err e) spelled says = EntryRefused n line lines r entry e spelled says

    by_entry : ZoneRest top most → (out : Result EntryTokens (Refused ZoneKind)) → SpellsEntry n [] (line ∷ lines) out → ReadsZone top n (line ∷ lines) r (out >>= after_entry top n (begins_blank line) r)
    by_entry rest (Ok entry) spelled = by_said rest entry (entry_says top n (begins_blank line) entry.tokens r) spelled refl
    by_entry rest (Err e) spelled = EntryBroken n line lines r e spelled

zone_said : (top : Name) (lines : List (List ℕ)) (out : Result Version (Refused ZoneKind)) → SaysZone top lines out → zone_of top lines ≡ out
unfolding zone_of
zone_said top lines out s = ap (λ x. x >>= with_soa top (length lines + 1)) (zone_is top s.reads) ∙ sym s.is

zone_says : (top : Name) (lines : List (List ℕ)) → SaysZone top lines (zone_of top lines)
unfolding zone_of
zone_says top lines = let le : length lines ≤ length lines = omega arith in record { read = zone_from top 1 lines None (at_first top); reads = zone_reads top (length lines) 1 lines (at_first top) le; is = refl }

-- ---- scripts

-- the tokens of a line
tokens_are : (n : ℕ) (line : List ℕ) (out : Result Spelled ZoneKind) → Spells n [] line out → script_tokens n line ≡ without_parens (line_says n out)
tokens_are n line out spelled = ap without_parens (line_is n line out spelled)

closed_tokens : (n : ℕ) (line : List ℕ) (l : Spelled) → Spells n [] line (Ok l) → l.parens ≡ false → script_tokens n line ≡ Some l.tokens
closed_tokens n line l spelled closed = tokens_are n line (Ok l) spelled ∙ ap (λ (b : Bool). cond b None (Some l.tokens)) closed

open_tokens : (n : ℕ) (line : List ℕ) (l : Spelled) → Spells n [] line (Ok l) → l.parens ≡ true → script_tokens n line ≡ None
open_tokens n line l spelled opened = tokens_are n line (Ok l) spelled ∙ ap (λ (b : Bool). cond b None (Some l.tokens)) opened

script_is : (origin : Name) {n : ℕ} {lines : List (List ℕ)} {s : Script} {out : Result Script (Refused ScriptKind)} → ReadsScript origin n lines s out → script_from origin n lines s ≡ out
unfolding script_from script_line
script_is origin (NoLine n s) = refl
script_is origin (LineBroken n line lines s kind spelled) = ap (λ t. tokens_say origin n s t >>= script_from origin (n + 1) lines) (tokens_are n line (Err kind) spelled)
script_is origin (LineOpen n line lines s l spelled opened) = ap (λ t. tokens_say origin n s t >>= script_from origin (n + 1) lines) (open_tokens n line l spelled opened)
script_is origin (LineRefused n line lines s l e spelled closed says) =
    ap (λ t. tokens_say origin n s t >>= script_from origin (n + 1) lines) (closed_tokens n line l spelled closed) ∙ ap (λ x. x >>= script_from origin (n + 1) lines) says
script_is origin (LineRead n line lines s l next out spelled closed says rest) =
    ap (λ t. tokens_say origin n s t >>= script_from origin (n + 1) lines) (closed_tokens n line l spelled closed) ∙ ap (λ x. x >>= script_from origin (n + 1) lines) says ∙ script_is origin rest

-- the lines behind are read
abbrev ScriptRest : Name → ℕ → List (List ℕ) → Type 0
ScriptRest origin n lines = (next : Script) → ReadsScript origin (n + 1) lines next (script_from origin (n + 1) lines next)

script_reads : (origin : Name) (n : ℕ) (lines : List (List ℕ)) (s : Script) → ReadsScript origin n lines s (script_from origin n lines s)
unfolding script_from script_line
script_reads origin n [] s = NoLine n s
script_reads origin n (line ∷ lines) s = by_spelling (script_reads origin (n + 1) lines) (line_spelled n line).0 (line_spelled n line).1
  where
    by_said : ScriptRest origin n lines → (l : Spelled) (said : Result Script (Refused ScriptKind)) → Spells n [] line (Ok l) → l.parens ≡ false → tokens_say origin n s (Some l.tokens) ≡ said → ReadsScript origin n (line ∷ lines) s (said >>= script_from origin (n + 1) lines)
    by_said rest l (Ok next) spelled closed says = LineRead n line lines s l next (script_from origin (n + 1) lines next) spelled closed says (rest next)
    by_said rest l (Err e) spelled closed says = LineRefused n line lines s l e spelled closed says

    by_parens : ScriptRest origin n lines → (l : Spelled) (b : Bool) → Spells n [] line (Ok l) → l.parens ≡ b → ReadsScript origin n (line ∷ lines) s (script_from origin n (line ∷ lines) s)
    by_parens rest l true spelled opened =
        subst (ReadsScript origin n (line ∷ lines) s) (sym (ap (λ t. tokens_say origin n s t >>= script_from origin (n + 1) lines) (open_tokens n line l spelled opened))) (LineOpen n line lines s l spelled opened)
    by_parens rest l false spelled closed =
        subst (ReadsScript origin n (line ∷ lines) s) (sym (ap (λ t. tokens_say origin n s t >>= script_from origin (n + 1) lines) (closed_tokens n line l spelled closed)))
        (by_said rest l (tokens_say origin n s (Some l.tokens)) spelled closed refl)

    by_spelling : ScriptRest origin n lines → (out : Result Spelled ZoneKind) → Spells n [] line out → ReadsScript origin n (line ∷ lines) s (script_from origin n (line ∷ lines) s)
    by_spelling rest (Ok l) spelled = by_parens rest l l.parens spelled refl
    by_spelling rest (Err kind) spelled =
        subst (ReadsScript origin n (line ∷ lines) s) (sym (ap (λ t. tokens_say origin n s t >>= script_from origin (n + 1) lines) (tokens_are n line (Err kind) spelled))) (LineBroken n line lines s kind spelled)

script_said : (origin : Name) (n : ℕ) (lines : List (List ℕ)) (out : Result (List (List Command)) (Refused ScriptKind)) → SaysScript origin n lines out → script_of origin n lines ≡ out
unfolding script_of
script_said origin n lines out s = ap (λ x. x >>= finished (n + length lines)) (script_is origin s.reads) ∙ sym s.is

script_says : (origin : Name) (n : ℕ) (lines : List (List ℕ)) → SaysScript origin n lines (script_of origin n lines)
unfolding script_of
script_says origin n lines = record { read = script_from origin n lines no_lines; reads = script_reads origin n lines no_lines; is = refl }

-- ---- jobs

abbrev job_from : Name → Result Version (Refused ZoneKind) → Result (List (List Command)) (Refused ScriptKind) → Result Job JobRefusal
job_from origin zone script = zone_refused zone >>= (λ version. script_refused script >>= (λ ws. Ok (record { origin = origin; zone = version; workers = ws })))

job_parts : (origin : Name) (bytes : List ℕ) → job_of origin bytes ≡ job_from origin (zone_of origin (zone_lines bytes)) (script_of origin (script_start bytes) (script_lines bytes))
unfolding job_of_lines
job_parts origin bytes = refl

pub job_said : (origin : Name) (bytes : List ℕ) (out : Result Job JobRefusal) → SaysJob origin bytes out → job_of origin bytes ≡ out
job_said origin bytes out (NoZone e z) = job_parts origin bytes ∙ ap (λ x. job_from origin x (script_of origin (script_start bytes) (script_lines bytes))) (zone_said origin (zone_lines bytes) (Err e) z)
job_said origin bytes out (NoScript zone e z s) =
    job_parts origin bytes ∙ ap (λ x. job_from origin x (script_of origin (script_start bytes) (script_lines bytes))) (zone_said origin (zone_lines bytes) (Ok zone) z)
    ∙ ap (job_from origin (Ok zone)) (script_said origin (script_start bytes) (script_lines bytes) (Err e) s)
job_said origin bytes out (IsJob zone workers z s) =
    job_parts origin bytes ∙ ap (λ x. job_from origin x (script_of origin (script_start bytes) (script_lines bytes))) (zone_said origin (zone_lines bytes) (Ok zone) z)
    ∙ ap (job_from origin (Ok zone)) (script_said origin (script_start bytes) (script_lines bytes) (Ok workers) s)

says_job : (origin : Name) (bytes : List ℕ) (zone : Result Version (Refused ZoneKind)) (script : Result (List (List Command)) (Refused ScriptKind)) → SaysZone origin (zone_lines bytes) zone → SaysScript origin (script_start bytes) (script_lines bytes) script
    → SaysJob origin bytes (job_from origin zone script)
says_job origin bytes (Ok zone) (Ok workers) z s = IsJob zone workers z s
says_job origin bytes (Ok zone) (Err e) z s = NoScript zone e z s
says_job origin bytes (Err e) script z s = NoZone e z

pub job_says : (origin : Name) (bytes : List ℕ) → SaysJob origin bytes (job_of origin bytes)
job_says origin bytes =
    subst (SaysJob origin bytes) (sym (job_parts origin bytes))
    (says_job origin bytes (zone_of origin (zone_lines bytes)) (script_of origin (script_start bytes) (script_lines bytes)) (zone_says origin (zone_lines bytes)) (script_says origin (script_start bytes) (script_lines bytes)))
