-- Tokens that lie inside the bytes, taken from the front of a list; the line that a script's refusal is of; a word alone.
use Rattle.std.proofs.Common.{◌≡◌, ◌∙◌, ℕ, suc, ◌+◌, ◌<◌, ◌≤◌, List, [], ◌∷◌, length, drop, slice_index_or, sym, ap, subst, arith, Option, None, Result, Err, length-drop}
use Rattle.std.specs.List.{All}
use Rattle.std.specs.Option.{option_map, option_or}
use Rattle.zone_model.specs.Names.{Name}
use Rattle.zone_model.specs.Tokens.{Token as Word, single_line}
use Rattle.job_model.specs.declared.Question.{Question}
use Rattle.job_model.specs.declared.ScriptKind.{ScriptKind}
use Rattle.job_model.specs.Phrases.{Phrase, Asks, lone_word, phrase_of, without_parens}
use Rattle.job_model.specs.Questions.{asked_of}
use Rattle.zone_model.specs.Lines.{lines_of}
use Rattle.zone_text.specs.Tokens.{IsPlaced}
use Rattle.zone_text.specs.declared.token.Token.{Token}
use Rattle.zone_text.specs.Places.{first_line}
use Rattle.zone_text.specs.Views.{Reads, line_view}
use Rattle.zone_text.specs.declared.refusal.ZoneRefusal.{ZoneRefusal}
use Rattle.job_script.specs.Scripts.{IsNoCommand, LineReads}
use Rattle.job_script.specs.declared.refusal.JobRefusal.{JobRefusal}
use Rattle.job_script.specs.declared.refusal.JobRefusal.TheVariants as stops
use Rattle.zone_text.proofs.LineLemmas.{first_blank}

pub first_placed : (bytes : List ℕ) (tokens : List Token) (t : Token) (rest : List Token) → tokens ≡ t ∷ rest → All (IsPlaced bytes) tokens → IsPlaced bytes t
first_placed bytes tokens t rest e a =
    let b : All (IsPlaced bytes) (t ∷ rest) = subst (All (IsPlaced bytes)) e a in
    b 0 t (omega arith)

pub rest_placed : (bytes : List ℕ) (tokens : List Token) (t : Token) (rest : List Token) → tokens ≡ t ∷ rest → All (IsPlaced bytes) tokens → All (IsPlaced bytes) rest
rest_placed bytes tokens t rest e a =
    let b : All (IsPlaced bytes) (t ∷ rest) = subst (All (IsPlaced bytes)) e a in
    λ k d lt. b (suc k) d (omega arith)

-- a text that isn't empty has a first line
pub record HasFirst (text : List ℕ) : Type 0 where
  pub rest : List (List ℕ)
  pub lines : lines_of text ≡ first_line text ∷ rest

pub has_first : (text : List ℕ) → 0 < length text → HasFirst text
has_first text some =
    let f = first_blank text some in
    let head : first_line text ≡ f.line = ap (λ (l : List (List ℕ)). slice_index_or l 0 []) f.lines in
    record { rest = f.rest; lines = f.lines ∙ ap (λ (l : List ℕ). l ∷ f.rest) (sym head) }

-- a line whose tokens were refused
pub line_refused : (bytes : List ℕ) (at line : ℕ) (e : ZoneRefusal) (r : JobRefusal) → at < length bytes → Reads (Err e) (line_view bytes) (single_line line (first_line (drop at bytes))) → IsNoCommand e line r → LineReads (Err r) bytes at line
line_refused bytes at line e stops.Memory h g n = tt
line_refused bytes at line e (stops.Refused k kind) h g n =
    let first = has_first (drop at bytes) (omega (arith, length-drop at bytes)) in
    (first.rest, first.lines, ap (λ t. without_parens t) (g n.0), n.1, n.2)

-- the line that begins at a place has this number, where the first one has another
abbrev pub IsNumbered : List ℕ → ℕ → ℕ → ℕ → Type 0
IsNumbered bytes first at line = (line + length (lines_of (drop at bytes)) ≡ first + length (lines_of bytes)) × (at ≤ length bytes) × (line ≤ first + at)

-- a word that stands alone and asks no question
pub lone_says : (origin : Name) (words : List Word) (w : Word) (behind : List Word) (said : Option Phrase) → words ≡ w ∷ behind → behind ≡ [] → None ≡ asked_of origin w behind → said ≡ lone_word w
    → said ≡ phrase_of origin words
unfolding phrase_of
lone_says origin words w behind said are alone none is =
    let asked : None ≡ asked_of origin w [] = none ∙ ap (asked_of origin w) alone in
    let here : said ≡ phrase_of origin (w ∷ []) = is ∙ ap (λ (o : Option (Result Question ScriptKind)). option_or (option_map Asks o) (lone_word w)) asked in
    subst (λ (l : List Word). said ≡ phrase_of origin l) (sym (are ∙ ap (λ (l : List Word). w ∷ l) alone)) here
