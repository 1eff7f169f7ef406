-- A line by itself.
use Rattle.std.proofs.Common.{◌≡◌, ℕ, ◌∷◌, [], List, drop, get_or, map, ap, ◌∙◌, sym, Result, Ok, Err, Bool}
use Rattle.std.specs.List.{slice_range}
use Rattle.zone_model.specs.Refusals.{Refused, ◌>>=◌}
use Rattle.zone_model.specs.Lines.{lines_of}
use Rattle.zone_model.specs.Tokens as says
use Rattle.zone_model.specs.declared.ZoneKind.{ZoneKind}
use Rattle.zone_text.specs.Tokens.{token_view}
use Rattle.zone_text.specs.declared.token.Token.{Token}
use Rattle.zone_text.specs.Places.{FirstLine, first_line}
use Rattle.zone_text.specs.Views.{scan_view, line_view, Gives, Reads}
use Rattle.zone_text.specs.declared.refusal.ZoneRefusal.{ZoneRefusal}
use Rattle.zone_text.specs.declared.lexer.Scan.{Scan}
use Rattle.zone_text.specs.declared.single_lines.LexedLine.{LexedLine}

first_is : (bytes : List ℕ) (at upto next : ℕ) → FirstLine bytes at upto next → first_line (drop at bytes) ≡ slice_range bytes at upto
first_is bytes at upto next f = ap (λ (l : List (List ℕ)). get_or l 0 []) f.lines

abbrev kept : says.Scan → Result says.LineTokens (Refused ZoneKind)
kept s = Ok (record { tokens = s.tokens; parens = s.parens })

single_is : (bytes : List ℕ) (at upto next n : ℕ) (old : Scan) → FirstLine bytes at upto next → scan_view bytes at old ≡ says.fresh → says.single_line n (first_line (drop at bytes)) ≡ says.line_tokens n (slice_range bytes at upto) (scan_view bytes at old) >>= kept
single_is bytes at upto next n old f e =
    ap (λ (l : List ℕ). says.line_tokens n l says.fresh >>= kept) (first_is bytes at upto next f)
    ∙ ap (λ (s : says.Scan). says.line_tokens n (slice_range bytes at upto) s >>= kept) (sym e)

pub single_read : (bytes : List ℕ) (at upto next n : ℕ) (old new : Scan) (l : LexedLine) → FirstLine bytes at upto next → scan_view bytes at old ≡ says.fresh → says.line_tokens n (slice_range bytes at upto) (scan_view bytes at old) ≡ Ok (scan_view bytes upto new) → l.tokens.items ≡ new.tokens.items → l.parens ≡ new.parens
    → says.single_line n (first_line (drop at bytes)) ≡ Ok (line_view bytes l)
single_read bytes at upto next n old new l f e g t p =
    single_is bytes at upto next n old f e ∙ ap (λ (r : Result says.Scan (Refused ZoneKind)). r >>= kept) g
    ∙ ap (λ (ts : List Token). Ok (record { tokens = map (token_view bytes) ts; parens = new.parens })) (sym t)
    ∙ ap (λ (b : Bool). Ok (record { tokens = map (token_view bytes) l.tokens.items; parens = b })) (sym p)

pub single_refused : (bytes : List ℕ) (at upto next n : ℕ) (old new : Scan) (e : ZoneRefusal) → FirstLine bytes at upto next → scan_view bytes at old ≡ says.fresh → Gives (Err e) (scan_view bytes upto new) (says.line_tokens n (slice_range bytes at upto) (scan_view bytes at old))
    → Reads (Err e) (line_view bytes) (says.single_line n (first_line (drop at bytes)))
single_refused bytes at upto next n old new r f e g = λ told.
    single_is bytes at upto next n old f e ∙ ap (λ (x : Result says.Scan (Refused ZoneKind)). x >>= kept) (g told)

pub single_rest : (bytes : List ℕ) (at upto next to : ℕ) → FirstLine bytes at upto next → to ≡ next → lines_of (drop at bytes) ≡ first_line (drop at bytes) ∷ lines_of (drop to bytes)
single_rest bytes at upto next to f e =
    f.lines ∙ ap (λ (l : List ℕ). l ∷ lines_of (drop next bytes)) (sym (first_is bytes at upto next f))
    ∙ ap (λ (k : ℕ). first_line (drop at bytes) ∷ lines_of (drop k bytes)) (sym e)
