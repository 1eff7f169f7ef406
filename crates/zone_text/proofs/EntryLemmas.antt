-- An entry, line by line.
use Rattle.std.proofs.Common.{◌≡◌, ℕ, ◌<◌, ◌≤◌, [], List, length, drop, ap, ◌∙◌, refl, sym, arith, Result, Ok, Err, Bool, false, cond, eqb}
use Rattle.std.proofs.lemmas.List.{drop_all}
use Rattle.std.proofs.lemmas.Bool.Decides.{nat_tests}
use Rattle.zone_model.specs.declared.ZoneKind.TheVariants.{OpenParen}
use Rattle.std.specs.List.{slice_range}
use Rattle.zone_model.specs.Refusals.{Refused, ◌>>=◌}
use Rattle.zone_model.specs.Lines.{lines_of}
use Rattle.zone_model.specs.declared.ZoneKind.{ZoneKind}
use Rattle.zone_model.specs.Tokens as says
use Rattle.zone_model.specs.Tokens.{entry_from, line_tokens, after_line}
use Rattle.zone_text.specs.Places.{FirstLine}
use Rattle.zone_text.specs.Views.{scan_view, HasScanned, ReadsLine, Gives}
use Rattle.zone_text.specs.declared.refusal.ZoneRefusal.{ZoneRefusal}
use Rattle.zone_text.specs.declared.lexer.Begun.TheVariants.{Apart}
use Rattle.zone_text.specs.declared.lexer.Scan.{Scan}

pub entry_more : (bytes : List ℕ) (at upto next n : ℕ) (s : says.Scan) → FirstLine bytes at upto next → entry_from n (lines_of (drop at bytes)) s ≡ line_tokens n (slice_range bytes at upto) s >>= after_line n (lines_of (drop next bytes))
unfolding entry_from
entry_more bytes at upto next n s f = ap (λ (l : List (List ℕ)). entry_from n l s) f.lines

-- where nothing has begun, a scan is seen alike at each place
pub scan_later : (bytes : List ℕ) (at later : ℕ) (s : Scan) → s.begun ≡ Apart → scan_view bytes later s ≡ scan_view bytes at s
scan_later bytes at later s e = rw e refl

pub HasScanned-later : (bytes : List ℕ) (at later : ℕ) (s : Scan) → s.begun ≡ Apart → HasScanned bytes at s → at ≤ later → HasScanned bytes later s
HasScanned-later bytes at later s e h le = record { began = rw e tt; shallow = omega (arith, h.shallow); placed = h.placed }

pub ruleset entry_rules = (entry_more, scan_later, HasScanned-later)

pub line_read : (bytes : List ℕ) (at upto next n : ℕ) (old new : Scan) → FirstLine bytes at upto next → new.begun ≡ Apart → line_tokens n (slice_range bytes at upto) (scan_view bytes at old) ≡ Ok (scan_view bytes upto new) → ReadsLine bytes at n old new (Ok next)
line_read bytes at upto next n old new f a g =
    entry_more bytes at upto next n (scan_view bytes at old) f
    ∙ ap (λ (r : Result says.Scan (Refused ZoneKind)). r >>= after_line n (lines_of (drop next bytes))) g
    ∙ ap (λ (s : says.Scan). after_line n (lines_of (drop next bytes)) s) (sym (scan_later bytes upto next new a))

pub line_refused : (bytes : List ℕ) (at upto next n : ℕ) (old new : Scan) (e : ZoneRefusal) → FirstLine bytes at upto next → Gives (Err e) (scan_view bytes upto new) (line_tokens n (slice_range bytes at upto) (scan_view bytes at old)) → ReadsLine bytes at n old new (Err e)
line_refused bytes at upto next n old new e f g = λ told.
    entry_more bytes at upto next n (scan_view bytes at old) f
    ∙ ap (λ (r : Result says.Scan (Refused ZoneKind)). r >>= after_line n (lines_of (drop next bytes))) (g told)

no_lines : (bytes : List ℕ) (at : ℕ) → length bytes ≤ at → lines_of (drop at bytes) ≡ []
no_lines bytes at h = ap lines_of (drop_all at bytes h)

-- nothing is left
pub entry_end : (bytes : List ℕ) (at n : ℕ) (s : says.Scan) → length bytes ≤ at → s.depth ≡ 0 → entry_from n (lines_of (drop at bytes)) s ≡ Ok (says.entry_of s n [])
unfolding entry_from
entry_end bytes at n s h e = ap (λ (l : List (List ℕ)). entry_from n l s) (no_lines bytes at h) ∙ ap (λ (d : ℕ). cond (eqb d 0) (Ok (says.entry_of s n [])) (says.refused s.outer OpenParen)) e

pub entry_open : (bytes : List ℕ) (at n : ℕ) (s : says.Scan) → length bytes ≤ at → 0 < s.depth → entry_from n (lines_of (drop at bytes)) s ≡ says.refused s.outer OpenParen
unfolding entry_from
entry_open bytes at n s h e =
    let t : eqb s.depth 0 ≡ false = grind (arith, nat_tests) in
    ap (λ (l : List (List ℕ)). entry_from n l s) (no_lines bytes at h) ∙ ap (λ (b : Bool). cond b (Ok (says.entry_of s n [])) (says.refused s.outer OpenParen)) t

pub ruleset end_rules = (entry_end, entry_open)
