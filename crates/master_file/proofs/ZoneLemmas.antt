-- The zone, entry by entry.
use Rattle.std.proofs.Common.{◌≡◌, ◌∙◌, ℕ, ◌+◌, ◌<◌, ◌≤◌, List, [], ◌∷◌, length, drop, map, refl, sym, ap, arith, Bool, true, false, cond, eqb, Some, None, Result, Ok, Err}
use Rattle.std.proofs.lemmas.Bool.Decides.{nat_tests}
use Rattle.zone_model.specs.Refusals.{Refused, ◌>>=◌}
use Rattle.zone_model.specs.Lines.{lines_of}
use Rattle.std.proofs.lemmas.List.{drop_all, length-drop}
use Rattle.zone_text.proofs.LineLemmas.{first_blank}
use Rattle.zone_text.specs.Tokens.{token_view}
use Rattle.zone_text.specs.Views.{lexed_view, Reads, Gives}
use Rattle.master_file.specs.Zones.{ReadsNext}
use Rattle.zone_text.specs.declared.entry_tokens.Lexed.{Lexed}
use Rattle.zone_text.specs.declared.refusal.ZoneRefusal.{ZoneRefusal}
use Rattle.zone_model.specs.declared.ZoneKind.{ZoneKind}
use Rattle.zone_model.specs.declared.ZoneKind.TheVariants.{OpenParen}
use Rattle.zone_model.specs.Tokens.{Scan, EntryTokens, fresh, entry_from, entry_of, refused, line_tokens, begins_blank}
use Rattle.zone_model.specs.MasterFile.{Reader, Pending, zone_from, entry_says}

-- what an entry and then the lines behind it say
abbrev pub after_entry : List (List ℕ) → ℕ → Bool → Reader → EntryTokens → Result Reader (Refused ZoneKind)
after_entry apex first blank r e = entry_says apex first blank e.tokens r >>= zone_from apex e.next e.rest None

bind_same : {A B C : Type 0} (res : Result A (Refused ZoneKind)) (a : A → Result C (Refused ZoneKind)) (b : A → Result B (Refused ZoneKind)) (k : B → Result C (Refused ZoneKind)) → ((s : A) → a s ≡ b s >>= k) → res >>= a ≡ (res >>= b) >>= k
bind_same (Ok s) a b k h = h s
bind_same (Err e) a b k h = refl

depth_case : {B C : Type 0} (t : Bool) (x y : Result C (Refused ZoneKind)) (e f : Result B (Refused ZoneKind)) (k : B → Result C (Refused ZoneKind)) → x ≡ e >>= k → (t ≡ false → y ≡ f >>= k) → cond t x y ≡ cond t e f >>= k
depth_case true x y e f k g h = g
depth_case false x y e f k g h = h refl

pub zone_pending : (apex : List (List ℕ)) (n : ℕ) (lines : List (List ℕ)) (p : Pending) (r : Reader) → 0 < p.scan.depth → zone_from apex n lines (Some p) r ≡ entry_from n lines p.scan >>= after_entry apex p.first p.blank r
unfolding zone_from entry_from
zone_pending apex n [] p r h =
    let t : eqb p.scan.depth 0 ≡ false = grind (arith, nat_tests) in
    sym (ap (λ b. cond b (Ok (entry_of p.scan n [])) (refused p.scan.outer OpenParen) >>= after_entry apex p.first p.blank r) t)
zone_pending apex n (line ∷ lines) p r h =
    bind_same (line_tokens n line p.scan) _ _ (after_entry apex p.first p.blank r) (λ s.
    depth_case (eqb s.depth 0) _ _ (Ok (entry_of s (n + 1) lines)) (entry_from (n + 1) lines s) (after_entry apex p.first p.blank r) refl
    (λ t. zone_pending apex (n + 1) lines (record p { scan = s }) r (grind (arith, nat_tests))))

-- an entry begins at a line
pub zone_begins : (apex : List (List ℕ)) (n : ℕ) (line : List ℕ) (lines : List (List ℕ)) (r : Reader) → zone_from apex n (line ∷ lines) None r ≡ entry_from n (line ∷ lines) fresh >>= after_entry apex n (begins_blank line) r
unfolding zone_from entry_from
zone_begins apex n line lines r =
    bind_same (line_tokens n line fresh) _ _ (after_entry apex n (begins_blank line) r) (λ s.
    depth_case (eqb s.depth 0) _ _ (Ok (entry_of s (n + 1) lines)) (entry_from (n + 1) lines s) (after_entry apex n (begins_blank line) r) refl
    (λ t. zone_pending apex (n + 1) lines (record { first = n; blank = begins_blank line; scan = s }) r (grind (arith, nat_tests))))

-- an entry takes lines from those that are there
on_depth : (n : ℕ) (lines : List (List ℕ)) (s : Scan) (b : Bool) (e : EntryTokens) → ((e : EntryTokens) → entry_from (n + 1) lines s ≡ Ok e → e.next + length e.rest ≡ n + 1 + length lines) → cond b (Ok (entry_of s (n + 1) lines)) (entry_from (n + 1) lines s) ≡ Ok e → e.next + length e.rest ≡ n + 1 + length lines
on_depth n lines s true e f h = let g : entry_of s (n + 1) lines ≡ e = cc in ap (λ (x : EntryTokens). x.next + length x.rest) (sym g)
on_depth n lines s false e f h = f e h

counts_on : (res : Result Scan (Refused ZoneKind)) (f : Scan → Result EntryTokens (Refused ZoneKind)) (m : ℕ) (e : EntryTokens) → ((s : Scan) → f s ≡ Ok e → e.next + length e.rest ≡ m) → (res >>= f) ≡ Ok e → e.next + length e.rest ≡ m
counts_on (Ok s) f m e g h = g s h
counts_on (Err x) f m e g h = absurd cc

ends_here : (n : ℕ) (s : Scan) (b : Bool) (e : EntryTokens) → cond b (Ok (entry_of s n [])) (refused s.outer OpenParen) ≡ Ok e → e.next + length e.rest ≡ n + 0
ends_here n s true e h = let g : entry_of s n [] ≡ e = cc in ap (λ (x : EntryTokens). x.next + length x.rest) (sym g)
ends_here n s false e h = absurd cc

pub entry_counts : (n : ℕ) (lines : List (List ℕ)) (s : Scan) (e : EntryTokens) → entry_from n lines s ≡ Ok e → e.next + length e.rest ≡ n + length lines
unfolding entry_from
entry_counts n [] s e h = ends_here n s (eqb s.depth 0) e h
entry_counts n (line ∷ lines) s e h =
    let m : e.next + length e.rest ≡ n + 1 + length lines = counts_on (line_tokens n line s) _ (n + 1 + length lines) e (λ t g. on_depth n lines t (eqb t.depth 0) e (λ f k. entry_counts (n + 1) lines t f k) g) h in
    omega arith

-- ---- as the reader has it

pub zone_lexed : (bytes : List ℕ) (apex : List (List ℕ)) (at n : ℕ) (r : Reader) → at < length bytes → zone_from apex n (lines_of (drop at bytes)) None r ≡ entry_from n (lines_of (drop at bytes)) fresh >>= after_entry apex n (begins_blank (drop at bytes)) r
zone_lexed bytes apex at n r h =
    let f = first_blank (drop at bytes) (omega (arith, length-drop at bytes)) in
    ap (λ (l : List (List ℕ)). zone_from apex n l None r) f.lines ∙ zone_begins apex n f.line f.rest r
    ∙ ap (λ (b : Bool). entry_from n (f.line ∷ f.rest) fresh >>= after_entry apex n b r) f.blank
    ∙ ap (λ (l : List (List ℕ)). entry_from n l fresh >>= after_entry apex n (begins_blank (drop at bytes)) r) (sym f.lines)

pub lex_refused : (bytes : List ℕ) (apex : List (List ℕ)) (at n line : ℕ) (kind : ZoneKind) (old : Reader) → at < length bytes → entry_from n (lines_of (drop at bytes)) fresh ≡ Err (record { line = line; kind = kind })
    → zone_from apex n (lines_of (drop at bytes)) None old ≡ Err (record { line = line; kind = kind })
lex_refused bytes apex at n line kind old h g = zone_lexed bytes apex at n old h ∙ ap (λ (x : Result EntryTokens (Refused ZoneKind)). x >>= after_entry apex n (begins_blank (drop at bytes)) old) g

pub entry_refused : (bytes : List ℕ) (apex : List (List ℕ)) (at n line : ℕ) (kind : ZoneKind) (old : Reader) (l : Lexed) → at < length bytes → entry_from n (lines_of (drop at bytes)) fresh ≡ Ok (lexed_view bytes l) → l.blank ≡ begins_blank (drop at bytes)
    → entry_says apex n l.blank (map (token_view bytes) l.tokens.items) old ≡ Err (record { line = line; kind = kind }) → zone_from apex n (lines_of (drop at bytes)) None old ≡ Err (record { line = line; kind = kind })
entry_refused bytes apex at n line kind old l h g b k =
    zone_lexed bytes apex at n old h ∙ ap (λ (x : Result EntryTokens (Refused ZoneKind)). x >>= after_entry apex n (begins_blank (drop at bytes)) old) g
    ∙ ap (λ (x : Bool). after_entry apex n x old (lexed_view bytes l)) (sym b) ∙ ap (λ x. x >>= zone_from apex l.next_line (lines_of (drop l.next bytes)) None) k

pub entry_read : (bytes : List ℕ) (apex : List (List ℕ)) (at n : ℕ) (old new : Reader) (l : Lexed) → at < length bytes → entry_from n (lines_of (drop at bytes)) fresh ≡ Ok (lexed_view bytes l) → l.blank ≡ begins_blank (drop at bytes)
    → entry_says apex n l.blank (map (token_view bytes) l.tokens.items) old ≡ Ok new → ReadsNext bytes apex at n old new (Ok (l.next, l.next_line))
entry_read bytes apex at n old new l h g b k =
    zone_lexed bytes apex at n old h ∙ ap (λ (x : Result EntryTokens (Refused ZoneKind)). x >>= after_entry apex n (begins_blank (drop at bytes)) old) g
    ∙ ap (λ (x : Bool). after_entry apex n x old (lexed_view bytes l)) (sym b) ∙ ap (λ x. x >>= zone_from apex l.next_line (lines_of (drop l.next bytes)) None) k

pub entry_counted : (bytes : List ℕ) (at n : ℕ) (l : Lexed) → entry_from n (lines_of (drop at bytes)) fresh ≡ Ok (lexed_view bytes l) → l.next_line + length (lines_of (drop l.next bytes)) ≡ n + length (lines_of (drop at bytes))
entry_counted bytes at n l g = entry_counts n (lines_of (drop at bytes)) fresh (lexed_view bytes l) g

pub zone_end : (bytes : List ℕ) (apex : List (List ℕ)) (at n : ℕ) (r : Reader) → length bytes ≤ at → zone_from apex n (lines_of (drop at bytes)) None r ≡ Ok r
unfolding zone_from
zone_end bytes apex at n r h = ap (λ (l : List ℕ). zone_from apex n (lines_of l) None r) (drop_all at bytes h)

pub no_lines_left : (bytes : List ℕ) (at : ℕ) → length bytes ≤ at → length (lines_of (drop at bytes)) ≡ 0
no_lines_left bytes at h = ap (λ (l : List ℕ). length (lines_of l)) (drop_all at bytes h)

pub ruleset zone_rules = (entry_read, entry_counted)

pub ruleset end_rules = (zone_end, no_lines_left)
