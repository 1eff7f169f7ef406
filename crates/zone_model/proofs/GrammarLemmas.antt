-- The grammar of lines and the scan of them say the same.
use Rattle.std.proofs.Common.{◌≡◌, ◌∙◌, ℕ, ◌+◌, ◌-◌, ◌<◌, Bool, true, false, eqb, ◌==◌, if◌then◌else◌, ◌||◌, List, [], ◌∷◌, ◌++◌, length, refl, sym, ap, subst, arith, ◌⊎◌, inl, inr, append_assoc, length-append, Result, Ok, Err}
use Rattle.std.proofs.lemmas.List.{append-nil}
use Rattle.std.proofs.lemmas.Bool.{or_parts, or_cases, or_from, eqb-true}
use Rattle.std.proofs.lemmas.Bool.Decides.{nat_tests}
use Rattle.zone_model.specs.Refusals.{Refused, ◌>>=◌}
use Rattle.zone_model.specs.Tokens.{Token, Begun, Apart, Comment, Word, Quote, Scan, EntryTokens, fresh, refused, with_token, opened, apart, step, steps, line_end, line_tokens, entry_from, entry_of, single_line, is_blank, parts_words}
use Rattle.zone_model.specs.Grammar as says
use Rattle.zone_model.specs.Grammar.{Run, stops_word, stops_quote, EndsWord, Spelled, with_first, with_paren, Spells, outermost, behind, SpellsEntry, line_says}
use Rattle.zone_model.specs.declared.ZoneKind.{ZoneKind}
use Rattle.zone_model.specs.declared.ZoneKind.TheVariants.{BadToken, OpenQuote, OpenParen}

abbrev state : Begun → Scan → Scan
state b s = record s { begun = b }

-- ---- runs

run_append : {stops : ℕ → Bool} {a : List ℕ} → Run stops a → (b : List ℕ) → Run stops b → Run stops (a ++ b)
run_append says.Empty b r = r
run_append (says.Plain c text e h) b r = says.Plain c (text ++ b) e (run_append h b r)
run_append (says.Escaped c text h) b r = says.Escaped c (text ++ b) (run_append h b r)

word_plain : (n c : ℕ) (t : List ℕ) (s : Scan) → stops_word c ≡ false → step n c (state (Word t) s) ≡ Ok (state (Word (t ++ c ∷ [])) s)
unfolding step
word_plain n c t s h = let p = or_parts (parts_words c) (eqb c 92) h in rw (p.0, p.1) refl

quote_plain : (n c : ℕ) (t : List ℕ) (s : Scan) → stops_quote c ≡ false → step n c (state (Quote t) s) ≡ Ok (state (Quote (t ++ c ∷ [])) s)
unfolding step
quote_plain n c t s h = let p = or_parts (eqb c 34) (eqb c 92) h in rw (p.0, p.1) refl

run_word : (n : ℕ) (s : Scan) (rest : List ℕ) {w : List ℕ} → Run stops_word w → (t : List ℕ) → steps n (w ++ rest) (state (Word t) s) ≡ steps n rest (state (Word (t ++ w)) s)
unfolding steps step
run_word n s rest says.Empty t = ap (λ (l : List ℕ). steps n rest (state (Word l) s)) (sym (append-nil t))
run_word n s rest (says.Plain c text e h) t =
    ap (λ (r : Result Scan (Refused ZoneKind)). r >>= steps n (text ++ rest)) (word_plain n c t s e)
    ∙ run_word n s rest h (t ++ c ∷ [])
    ∙ ap (λ (l : List ℕ). steps n rest (state (Word l) s)) (append_assoc t (c ∷ []) text)
run_word n s rest (says.Escaped c text h) t =
    run_word n s rest h (t ++ 92 ∷ [] ++ c ∷ [])
    ∙ ap (λ (l : List ℕ). steps n rest (state (Word l) s)) (append_assoc (t ++ 92 ∷ []) (c ∷ []) text ∙ append_assoc t (92 ∷ []) (c ∷ text))

run_quote : (n : ℕ) (s : Scan) (rest : List ℕ) {w : List ℕ} → Run stops_quote w → (t : List ℕ) → steps n (w ++ rest) (state (Quote t) s) ≡ steps n rest (state (Quote (t ++ w)) s)
unfolding steps step
run_quote n s rest says.Empty t = ap (λ (l : List ℕ). steps n rest (state (Quote l) s)) (sym (append-nil t))
run_quote n s rest (says.Plain c text e h) t =
    ap (λ (r : Result Scan (Refused ZoneKind)). r >>= steps n (text ++ rest)) (quote_plain n c t s e)
    ∙ run_quote n s rest h (t ++ c ∷ [])
    ∙ ap (λ (l : List ℕ). steps n rest (state (Quote l) s)) (append_assoc t (c ∷ []) text)
run_quote n s rest (says.Escaped c text h) t =
    run_quote n s rest h (t ++ 92 ∷ [] ++ c ∷ [])
    ∙ ap (λ (l : List ℕ). steps n rest (state (Quote l) s)) (append_assoc (t ++ 92 ∷ []) (c ∷ []) text ∙ append_assoc t (92 ∷ []) (c ∷ text))

-- ---- the first byte of something

plain_apart : (n c : ℕ) (s : Scan) → stops_word c ≡ false → apart n c s ≡ Ok (state (Word (c ∷ [])) s)
plain_apart n c s h =
    let p = or_parts (parts_words c) (eqb c 92) h in
    let q1 = or_parts (eqb c 32 || eqb c 9 || eqb c 59 || eqb c 34 || eqb c 40) (eqb c 41) p.0 in
    let q2 = or_parts (eqb c 32 || eqb c 9 || eqb c 59 || eqb c 34) (eqb c 40) q1.0 in
    let q3 = or_parts (eqb c 32 || eqb c 9 || eqb c 59) (eqb c 34) q2.0 in
    let q4 = or_parts (eqb c 32 || eqb c 9) (eqb c 59) q3.0 in
    let q5 = or_parts (eqb c 32) (eqb c 9) q4.0 in
    rw (q5.0, q5.1, q4.1, q3.1, q2.1, q1.1, p.1) refl

blank_apart : (n c : ℕ) (s : Scan) → is_blank c ≡ true → apart n c s ≡ Ok (state Apart s)
blank_apart n c s h = by_case (or_cases (eqb c 32) (eqb c 9) h)
  where
    by_test : (b : Bool) → eqb c 9 ≡ true → eqb c 32 ≡ b → apart n c s ≡ Ok (state Apart s)
    by_test true e f = rw f refl
    by_test false e f = rw (f, e) refl

    by_case : (eqb c 32 ≡ true) ⊎ (eqb c 9 ≡ true) → apart n c s ≡ Ok (state Apart s)
    by_case (inl e) = rw e refl
    by_case (inr e) = by_test (eqb c 32) e refl

-- a word that begins here goes on as one that has begun
word_begins : (n : ℕ) (s : Scan) (rest : List ℕ) {w : List ℕ} → Run stops_word w → 0 < length w → steps n (w ++ rest) (state Apart s) ≡ steps n rest (state (Word w) s)
unfolding steps step
word_begins n s rest says.Empty p = absurd (omega arith)
word_begins n s rest (says.Plain c text e h) p =
    ap (λ (r : Result Scan (Refused ZoneKind)). r >>= steps n (text ++ rest)) (plain_apart n c (state Apart s) e) ∙ run_word n s rest h (c ∷ [])
word_begins n s rest (says.Escaped c text h) p = run_word n s rest h (92 ∷ c ∷ [])

word_ends : (n : ℕ) (s : Scan) (w rest : List ℕ) → EndsWord rest → line_tokens n rest (state (Word w) s) ≡ line_tokens n rest (with_token w false n s)
unfolding line_tokens line_end steps step
word_ends n s w [] e = refl
word_ends n s w (c ∷ rest) e = rw e refl

word_read : (n : ℕ) (s : Scan) (rest w : List ℕ) → Run stops_word w → 0 < length w → EndsWord rest → line_tokens n (w ++ rest) (state Apart s) ≡ line_tokens n rest (with_token w false n s)
unfolding line_tokens
word_read n s rest w h p e = ap (λ (r : Result Scan (Refused ZoneKind)). r >>= line_end n) (word_begins n s rest h p) ∙ word_ends n s w rest e

quote_read : (n : ℕ) (s : Scan) (rest w : List ℕ) → Run stops_quote w → line_tokens n (34 ∷ w ++ 34 ∷ rest) (state Apart s) ≡ line_tokens n rest (with_token w true n s)
unfolding line_tokens steps step
quote_read n s rest w h = ap (λ (r : Result Scan (Refused ZoneKind)). r >>= line_end n) (run_quote n s (34 ∷ rest) h [])

comment_read : (n : ℕ) (s : Scan) (text : List ℕ) → line_tokens n text (state Comment s) ≡ Ok (state Apart s)
unfolding line_tokens line_end steps step
comment_read n s [] = refl
comment_read n s (c ∷ text) = comment_read n s text

word_cut : (n : ℕ) (s : Scan) {w : List ℕ} → Run stops_word w → line_tokens n (w ++ 92 ∷ []) (state Apart s) ≡ refused n BadToken
unfolding line_tokens line_end steps step
word_cut n s says.Empty = refl
word_cut n s (says.Plain c text e h) = ap (λ (r : Result Scan (Refused ZoneKind)). r >>= line_end n) (word_begins n s (92 ∷ []) (says.Plain c text e h) (omega arith))
word_cut n s (says.Escaped c text h) = ap (λ (r : Result Scan (Refused ZoneKind)). r >>= line_end n) (word_begins n s (92 ∷ []) (says.Escaped c text h) (omega arith))

quote_cut : (n : ℕ) (s : Scan) {w : List ℕ} → Run stops_quote w → line_tokens n (34 ∷ w ++ 92 ∷ []) (state Apart s) ≡ refused n BadToken
unfolding line_tokens line_end steps step
quote_cut n s h = ap (λ (r : Result Scan (Refused ZoneKind)). r >>= line_end n) (run_quote n s (92 ∷ []) h [])

quote_open : (n : ℕ) (s : Scan) (w : List ℕ) → Run stops_quote w → line_tokens n (34 ∷ w) (state Apart s) ≡ refused n OpenQuote
unfolding line_tokens line_end steps step
quote_open n s w h =
    ap (λ (l : List ℕ). steps n l (state (Quote []) s) >>= line_end n) (sym (append-nil w))
    ∙ ap (λ (r : Result Scan (Refused ZoneKind)). r >>= line_end n) (run_quote n s [] h [])

-- ---- what is spelled is read

-- the parentheses that a scan has open
pub record OpensAre (s : Scan) (opens : List ℕ) : Type 0 where
  pub depth : s.depth ≡ length opens
  pub outer : 0 < length opens → s.outer ≡ outermost opens

-- A scan that had come to `s` goes on to what a text spells, or is refused as the spelling breaks.
pub record Follows (n : ℕ) (s : Scan) (l : Spelled) (t : Scan) : Type 0 where
  pub tokens : t.tokens ≡ s.tokens ++ l.tokens
  pub parens : t.parens ≡ (s.parens || l.parens)
  pub begun : t.begun ≡ Apart
  pub opens : OpensAre t l.opens

abbrev pub Agrees : ℕ → Scan → Result Spelled ZoneKind → Result Scan (Refused ZoneKind) → Type 0
Agrees n s (Ok l) (Ok t) = Follows n s l t
Agrees n s (Ok l) (Err e) = ⊥
Agrees n s (Err kind) r = r ≡ refused n kind

agrees_token : (n : ℕ) (s : Scan) (t : Token) (out : Result Spelled ZoneKind) (r : Result Scan (Refused ZoneKind)) → Agrees n (record s { tokens = s.tokens ++ t ∷ []; begun = Apart }) out r → Agrees n s (with_first t out) r
agrees_token n s t (Ok l) (Ok u) a = record { tokens = a.tokens ∙ append_assoc s.tokens (t ∷ []) l.tokens; parens = a.parens; begun = a.begun; opens = a.opens }
agrees_token n s t (Ok l) (Err e) a = a
agrees_token n s t (Err kind) r a = a

or_open : (a : Bool) → true ≡ (a || true)
or_open true = refl
or_open false = refl

or_none : (a : Bool) → a ≡ (a || false)
or_none true = refl
or_none false = refl

agrees_paren : (n : ℕ) (s : Scan) (out : Result Spelled ZoneKind) (r : Result Scan (Refused ZoneKind)) → Agrees n (opened n s) out r → Agrees n s (with_paren out) r
agrees_paren n s (Ok l) (Ok u) a = record { tokens = a.tokens; parens = a.parens ∙ or_open s.parens; begun = a.begun; opens = a.opens }
agrees_paren n s (Ok l) (Err e) a = a
agrees_paren n s (Err kind) r a = a

agrees_apart : (n : ℕ) (s : Scan) (out : Result Spelled ZoneKind) (r : Result Scan (Refused ZoneKind)) → Agrees n (state Apart s) out r → Agrees n s out r
agrees_apart n s (Ok l) (Ok u) a = record { tokens = a.tokens; parens = a.parens; begun = a.begun; opens = a.opens }
agrees_apart n s (Ok l) (Err e) a = a
agrees_apart n s (Err kind) r a = a

opens_apart : (b : Begun) (s : Scan) (opens : List ℕ) → OpensAre s opens → OpensAre (state b s) opens
opens_apart b s opens o = record { depth = o.depth; outer = o.outer }

opens_token : (s : Scan) (tokens : List Token) (opens : List ℕ) → OpensAre s opens → OpensAre (record s { tokens = tokens; begun = Apart }) opens
opens_token s tokens opens o = record { depth = o.depth; outer = o.outer }

opens_more : (n : ℕ) (s : Scan) (opens : List ℕ) → OpensAre s opens → OpensAre (opened n s) (n ∷ opens)
opens_more n s [] o = record { depth = omega (arith, o.depth); outer = λ h. rw o.depth refl }
opens_more n s (m ∷ opens) o =
    let e : eqb s.depth 0 ≡ false = grind (arith, nat_tests, o.depth) in
    record { depth = omega (arith, o.depth); outer = λ h. rw e (o.outer (omega arith)) }

opens_less : (s : Scan) (m : ℕ) (opens : List ℕ) → OpensAre s (m ∷ opens) → OpensAre (record s { depth = s.depth - 1; begun = Apart }) opens
opens_less s m [] o = record { depth = omega (arith, o.depth); outer = λ h. absurd (omega arith) }
opens_less s m (k ∷ opens) o = record { depth = omega (arith, o.depth); outer = λ h. o.outer (omega arith) }

nothing_left : (n : ℕ) (s : Scan) (opens : List ℕ) → OpensAre s opens → Agrees n s (Ok (record { tokens = []; parens = false; opens = opens })) (Ok (state Apart s))
nothing_left n s opens o = record { tokens = sym (append-nil s.tokens); parens = or_none s.parens; begun = refl; opens = opens_apart Apart s opens o }

end_read : (n : ℕ) (s : Scan) → line_tokens n [] (state Apart s) ≡ Ok (state Apart s)
unfolding line_tokens line_end steps
end_read n s = refl

comment_begins : (n : ℕ) (s : Scan) (text : List ℕ) → line_tokens n (59 ∷ text) (state Apart s) ≡ Ok (state Apart s)
unfolding line_tokens steps step
comment_begins n s text = comment_read n s text

blank_read : (n : ℕ) (s : Scan) (c : ℕ) (text : List ℕ) → is_blank c ≡ true → line_tokens n (c ∷ text) (state Apart s) ≡ line_tokens n text (state Apart s)
unfolding line_tokens steps step
blank_read n s c text h = ap (λ (r : Result Scan (Refused ZoneKind)). r >>= steps n text >>= line_end n) (blank_apart n c (state Apart s) h)

open_read : (n : ℕ) (s : Scan) (text : List ℕ) → line_tokens n (40 ∷ text) (state Apart s) ≡ line_tokens n text (opened n s)
unfolding line_tokens steps step
open_read n s text = refl

close_read : (n : ℕ) (s : Scan) (text : List ℕ) → 0 < s.depth → line_tokens n (41 ∷ text) (state Apart s) ≡ line_tokens n text (record s { depth = s.depth - 1; begun = Apart })
unfolding line_tokens steps step
close_read n s text h = let e : eqb s.depth 0 ≡ false = grind (arith, nat_tests) in rw e refl

stray_read : (n : ℕ) (s : Scan) (text : List ℕ) → s.depth ≡ 0 → line_tokens n (41 ∷ text) (state Apart s) ≡ refused n BadToken
unfolding line_tokens steps step
stray_read n s text h = rw h refl

pub line_read : (n : ℕ) {opens text : List ℕ} {out : Result Spelled ZoneKind} → Spells n opens text out → (s : Scan) → OpensAre s opens → Agrees n s out (line_tokens n text (state Apart s))
line_read n (says.End opens) s o = subst (Agrees n s (Ok (record { tokens = []; parens = false; opens = opens }))) (sym (end_read n s)) (nothing_left n s opens o)
line_read n (says.Comment opens text) s o = subst (Agrees n s (Ok (record { tokens = []; parens = false; opens = opens }))) (sym (comment_begins n s text)) (nothing_left n s opens o)
line_read n (says.Blank opens c text out b h) s o = subst (Agrees n s out) (sym (blank_read n s c text b)) (line_read n h s o)
line_read n (says.Open opens text out h) s o =
    subst (Agrees n s (with_paren out)) (sym (open_read n s text)) (agrees_paren n s out _ (line_read n h (opened n s) (opens_more n s opens o)))
line_read n (says.Close m opens text out h) s o =
    subst (Agrees n s out) (sym (close_read n s text (omega (arith, o.depth))))
    (agrees_closed n s out _ (line_read n h (record s { depth = s.depth - 1; begun = Apart }) (opens_less s m opens o)))
  where
    agrees_closed : (n : ℕ) (s : Scan) (out : Result Spelled ZoneKind) (r : Result Scan (Refused ZoneKind)) → Agrees n (record s { depth = s.depth - 1; begun = Apart }) out r → Agrees n s out r
    agrees_closed n s (Ok l) (Ok u) a = record { tokens = a.tokens; parens = a.parens; begun = a.begun; opens = a.opens }
    agrees_closed n s (Ok l) (Err e) a = a
    agrees_closed n s (Err kind) r a = a
line_read n (says.Word opens w text out p r e h) s o =
    subst (Agrees n s (with_first (record { text = w; quoted = false; line = n }) out)) (sym (word_read n s text w r p e))
    (agrees_token n s _ out _ (line_read n h (with_token w false n s) (opens_token s _ opens o)))
line_read n (says.Quoted opens w text out r h) s o =
    subst (Agrees n s (with_first (record { text = w; quoted = true; line = n }) out)) (sym (quote_read n s text w r))
    (agrees_token n s _ out _ (line_read n h (with_token w true n s) (opens_token s _ opens o)))
line_read n (says.StrayClose text) s o = stray_read n s text o.depth
line_read n (says.WordCut opens w r) s o = word_cut n s r
line_read n (says.QuoteCut opens w r) s o = quote_cut n s r
line_read n (says.QuoteOpen opens w r) s o = quote_open n s w r

-- ---- each text is spelled, or its spelling breaks

record Found (n : ℕ) (opens text : List ℕ) : Type 0 where
  out : Result Spelled ZoneKind
  spelled : Spells n opens text out

data InWord (n : ℕ) (opens text : List ℕ) : Type 0 where
  Ends : (w rest : List ℕ) → text ≡ w ++ rest → Run stops_word w → EndsWord rest → Found n opens rest → InWord n opens text
  Cut : (w : List ℕ) → text ≡ w ++ 92 ∷ [] → Run stops_word w → InWord n opens text

data InQuote (n : ℕ) (opens text : List ℕ) : Type 0 where
  Closes : (w rest : List ℕ) → text ≡ w ++ 34 ∷ rest → Run stops_quote w → Found n opens rest → InQuote n opens text
  CutQuote : (w : List ℕ) → text ≡ w ++ 92 ∷ [] → Run stops_quote w → InQuote n opens text
  StaysOpen : Run stops_quote text → InQuote n opens text

word_found : (n : ℕ) (opens p more : List ℕ) → Run stops_word p → 0 < length p → InWord n opens more → Found n opens (p ++ more)
word_found n opens p more h l (Ends w rest e r x f) =
    let long : 0 < length (p ++ w) = omega (arith, length-append p w) in
    let whole : p ++ more ≡ p ++ w ++ rest = ap (λ (t : List ℕ). p ++ t) e ∙ sym (append_assoc p w rest) in
    record {
      out = with_first (record { text = p ++ w; quoted = false; line = n }) f.out;
      spelled = subst (λ (t : List ℕ). Spells n opens t (with_first (record { text = p ++ w; quoted = false; line = n }) f.out)) (sym whole)
          (says.Word opens (p ++ w) rest f.out long (run_append h w r) x f.spelled);
    }
word_found n opens p more h l (Cut w e r) =
    let whole : p ++ more ≡ p ++ w ++ 92 ∷ [] = ap (λ (t : List ℕ). p ++ t) e ∙ sym (append_assoc p w (92 ∷ [])) in
    record { out = Err BadToken; spelled = subst (λ (t : List ℕ). Spells n opens t (Err BadToken)) (sym whole) (says.WordCut opens (p ++ w) (run_append h w r)) }

word_longer : (n : ℕ) (opens p more : List ℕ) → Run stops_word p → InWord n opens more → InWord n opens (p ++ more)
word_longer n opens p more h (Ends w rest e r x f) = Ends (p ++ w) rest (ap (λ (t : List ℕ). p ++ t) e ∙ sym (append_assoc p w rest)) (run_append h w r) x f
word_longer n opens p more h (Cut w e r) = Cut (p ++ w) (ap (λ (t : List ℕ). p ++ t) e ∙ sym (append_assoc p w (92 ∷ []))) (run_append h w r)

quote_found : (n : ℕ) (opens more : List ℕ) → InQuote n opens more → Found n opens (34 ∷ more)
quote_found n opens more (Closes w rest e r f) =
    record {
      out = with_first (record { text = w; quoted = true; line = n }) f.out;
      spelled = subst (λ (t : List ℕ). Spells n opens (34 ∷ t) (with_first (record { text = w; quoted = true; line = n }) f.out)) (sym e) (says.Quoted opens w rest f.out r f.spelled);
    }
quote_found n opens more (CutQuote w e r) =
    record { out = Err BadToken; spelled = subst (λ (t : List ℕ). Spells n opens (34 ∷ t) (Err BadToken)) (sym e) (says.QuoteCut opens w r) }
quote_found n opens more (StaysOpen r) = record { out = Err OpenQuote; spelled = says.QuoteOpen opens more r }

quote_longer : (n : ℕ) (opens p more : List ℕ) → Run stops_quote p → InQuote n opens more → InQuote n opens (p ++ more)
quote_longer n opens p more h (Closes w rest e r f) = Closes (p ++ w) rest (ap (λ (t : List ℕ). p ++ t) e ∙ sym (append_assoc p w (34 ∷ rest))) (run_append h w r) f
quote_longer n opens p more h (CutQuote w e r) = CutQuote (p ++ w) (ap (λ (t : List ℕ). p ++ t) e ∙ sym (append_assoc p w (92 ∷ []))) (run_append h w r)
quote_longer n opens p more h (StaysOpen r) = StaysOpen (run_append h more r)

-- what stands behind a byte that a backslash takes
abbrev Behind : (List ℕ → Type 0) → List ℕ → Type 0
Behind P [] = Unit {0}
Behind P (c ∷ text) = P text

-- what is known of a text, however it is reached
record Known (n : ℕ) (text : List ℕ) : Type 0 where
  at_rest : (opens : List ℕ) → Found n opens text
  word : (opens : List ℕ) → InWord n opens text
  quote : (opens : List ℕ) → InQuote n opens text
  after_word : Behind (λ t. (opens : List ℕ) → InWord n opens t) text
  after_quote : Behind (λ t. (opens : List ℕ) → InQuote n opens t) text

slash_found : (n : ℕ) (opens more : List ℕ) → Behind (λ t. (opens : List ℕ) → InWord n opens t) more → Found n opens (92 ∷ more)
slash_found n opens [] k = record { out = Err BadToken; spelled = says.WordCut opens [] says.Empty }
slash_found n opens (c ∷ more) k = word_found n opens (92 ∷ c ∷ []) more (says.Escaped c [] says.Empty) (omega arith) (k opens)

slash_word : (n : ℕ) (opens more : List ℕ) → Behind (λ t. (opens : List ℕ) → InWord n opens t) more → InWord n opens (92 ∷ more)
slash_word n opens [] k = Cut [] refl says.Empty
slash_word n opens (c ∷ more) k = word_longer n opens (92 ∷ c ∷ []) more (says.Escaped c [] says.Empty) (k opens)

slash_quote : (n : ℕ) (opens more : List ℕ) → Behind (λ t. (opens : List ℕ) → InQuote n opens t) more → InQuote n opens (92 ∷ more)
slash_quote n opens [] k = CutQuote [] refl says.Empty
slash_quote n opens (c ∷ more) k = quote_longer n opens (92 ∷ c ∷ []) more (says.Escaped c [] says.Empty) (k opens)

close_found : (n : ℕ) (opens more : List ℕ) → Known n more → Found n opens (41 ∷ more)
close_found n [] more k = record { out = Err BadToken; spelled = says.StrayClose more }
close_found n (m ∷ opens) more k = let f = k.at_rest opens in record { out = f.out; spelled = says.Close m opens more f.out f.spelled }

found_as : (n : ℕ) (opens more : List ℕ) (c d : ℕ) → eqb c d ≡ true → Found n opens (d ∷ more) → Found n opens (c ∷ more)
found_as n opens more c d e f = subst (λ (x : ℕ). Found n opens (x ∷ more)) (sym (eqb-true c d e)) f

first_found : (n : ℕ) (opens more : List ℕ) (c : ℕ) → Known n more → Found n opens (c ∷ more)
first_found n opens more c k = by_blank (is_blank c) refl
  where
    by_slash : (b : Bool) → eqb c 92 ≡ b → parts_words c ≡ false → Found n opens (c ∷ more)
    by_slash true e p = found_as n opens more c 92 e (slash_found n opens more k.after_word)
    by_slash false e p = word_found n opens (c ∷ []) more (says.Plain c [] (or_from (parts_words c) (eqb c 92) p e) says.Empty) (omega arith) (k.word opens)

    by_close : (b : Bool) → eqb c 41 ≡ b → is_blank c ≡ false → eqb c 59 ≡ false → eqb c 34 ≡ false → eqb c 40 ≡ false → Found n opens (c ∷ more)
    by_close true e b s q o = found_as n opens more c 41 e (close_found n opens more k)
    by_close false e b s q o = by_slash (eqb c 92) refl (rw (b, s, q, o, e) refl)

    by_open : (b : Bool) → eqb c 40 ≡ b → is_blank c ≡ false → eqb c 59 ≡ false → eqb c 34 ≡ false → Found n opens (c ∷ more)
    by_open true e b s q = let f = k.at_rest (n ∷ opens) in found_as n opens more c 40 e (record { out = with_paren f.out; spelled = says.Open opens more f.out f.spelled })
    by_open false e b s q = by_close (eqb c 41) refl b s q e

    by_quote : (b : Bool) → eqb c 34 ≡ b → is_blank c ≡ false → eqb c 59 ≡ false → Found n opens (c ∷ more)
    by_quote true e b s = found_as n opens more c 34 e (quote_found n opens more (k.quote opens))
    by_quote false e b s = by_open (eqb c 40) refl b s e

    by_comment : (b : Bool) → eqb c 59 ≡ b → is_blank c ≡ false → Found n opens (c ∷ more)
    by_comment true e b = found_as n opens more c 59 e (record { out = Ok (record { tokens = []; parens = false; opens = opens }); spelled = says.Comment opens more })
    by_comment false e b = by_quote (eqb c 34) refl b e

    by_blank : (b : Bool) → is_blank c ≡ b → Found n opens (c ∷ more)
    by_blank true e = let f = k.at_rest opens in record { out = f.out; spelled = says.Blank opens c more f.out e f.spelled }
    by_blank false e = by_comment (eqb c 59) refl e

word_goes : (n : ℕ) (opens more : List ℕ) (c : ℕ) → Known n more → InWord n opens (c ∷ more)
word_goes n opens more c k = by_end (parts_words c) refl
  where
    by_slash : (b : Bool) → eqb c 92 ≡ b → parts_words c ≡ false → InWord n opens (c ∷ more)
    by_slash true e p = subst (λ (x : ℕ). InWord n opens (x ∷ more)) (sym (eqb-true c 92 e)) (slash_word n opens more k.after_word)
    by_slash false e p = word_longer n opens (c ∷ []) more (says.Plain c [] (or_from (parts_words c) (eqb c 92) p e) says.Empty) (k.word opens)

    by_end : (b : Bool) → parts_words c ≡ b → InWord n opens (c ∷ more)
    by_end true e = Ends [] (c ∷ more) refl says.Empty e (first_found n opens more c k)
    by_end false e = by_slash (eqb c 92) refl e

quote_goes : (n : ℕ) (opens more : List ℕ) (c : ℕ) → Known n more → InQuote n opens (c ∷ more)
quote_goes n opens more c k = by_end (eqb c 34) refl
  where
    by_slash : (b : Bool) → eqb c 92 ≡ b → eqb c 34 ≡ false → InQuote n opens (c ∷ more)
    by_slash true e p = subst (λ (x : ℕ). InQuote n opens (x ∷ more)) (sym (eqb-true c 92 e)) (slash_quote n opens more k.after_quote)
    by_slash false e p = quote_longer n opens (c ∷ []) more (says.Plain c [] (or_from (eqb c 34) (eqb c 92) p e) says.Empty) (k.quote opens)

    by_end : (b : Bool) → eqb c 34 ≡ b → InQuote n opens (c ∷ more)
    by_end true e = subst (λ (x : ℕ). InQuote n opens (x ∷ more)) (sym (eqb-true c 34 e)) (Closes [] more refl says.Empty (k.at_rest opens))
    by_end false e = by_slash (eqb c 92) refl e

end_found : (n : ℕ) (opens : List ℕ) → Found n opens []
end_found n opens = record { out = Ok (record { tokens = []; parens = false; opens = opens }); spelled = says.End opens }

known : (n : ℕ) (text : List ℕ) → Known n text
known n [] = record {
  at_rest = end_found n;
  word = λ opens. Ends [] [] refl says.Empty tt (end_found n opens);
  quote = λ opens. StaysOpen says.Empty;
  after_word = tt;
  after_quote = tt;
}
known n (c ∷ more) =
    let k = known n more in
    record {
      at_rest = λ opens. first_found n opens more c k;
      word = λ opens. word_goes n opens more c k;
      quote = λ opens. quote_goes n opens more c k;
      after_word = k.word;
      after_quote = k.quote;
    }

-- ---- a line by itself

scanned : (n : ℕ) (s : Scan) (l : Spelled) (r : Result Scan (Refused ZoneKind)) → Agrees n s (Ok l) r → (t : Scan) × (r ≡ Ok t) × Follows n s l t
scanned n s l (Ok t) a = (t, refl, a)
scanned n s l (Err e) a = absurd a

none_open : OpensAre fresh []
none_open = record { depth = refl; outer = λ h. absurd (omega arith) }

pub line_is : (n : ℕ) (text : List ℕ) (out : Result Spelled ZoneKind) → Spells n [] text out → single_line n text ≡ line_says n out
line_is n text (Ok l) h =
    let x = scanned n fresh l (line_tokens n text fresh) (line_read n h fresh none_open) in
    ap (λ (r : Result Scan (Refused ZoneKind)). r >>= (λ s. Ok (record { tokens = s.tokens; parens = s.parens }))) x.1
    ∙ ap (λ (ts : List Token). Ok (record { tokens = ts; parens = x.0.parens })) x.2.tokens
    ∙ ap (λ (b : Bool). Ok (record { tokens = l.tokens; parens = b })) x.2.parens
line_is n text (Err kind) h = ap (λ (r : Result Scan (Refused ZoneKind)). r >>= (λ s. Ok (record { tokens = s.tokens; parens = s.parens }))) (line_read n h fresh none_open)

pub line_spelled : (n : ℕ) (text : List ℕ) → (out : Result Spelled ZoneKind) × Spells n [] text out
line_spelled n text = let f = (known n text).at_rest [] in (f.out, f.spelled)

-- ---- entries

-- what a scan has come to stands in front of what is left of the entry
abbrev from_scan : Scan → Result EntryTokens (Refused ZoneKind) → Result EntryTokens (Refused ZoneKind)
from_scan s (Ok e) = Ok (record e { tokens = s.tokens ++ e.tokens; parens = s.parens || e.parens })
from_scan s (Err refusal) = Err refusal

or_assoc : (a b c : Bool) → ((a || b) || c) ≡ (a || (b || c))
or_assoc true b c = refl
or_assoc false b c = refl

from_both : (n : ℕ) (s : Scan) (l : Spelled) (t : Scan) (out : Result EntryTokens (Refused ZoneKind)) → Follows n s l t → from_scan t out ≡ from_scan s (behind l out)
from_both n s l t (Ok e) f =
    ap (λ (ts : List Token). Ok (record e { tokens = ts; parens = t.parens || e.parens })) (ap (λ (ts : List Token). ts ++ e.tokens) f.tokens ∙ append_assoc s.tokens l.tokens e.tokens)
    ∙ ap (λ (b : Bool). Ok (record e { tokens = s.tokens ++ (l.tokens ++ e.tokens); parens = b })) (ap (λ (b : Bool). b || e.parens) f.parens ∙ or_assoc s.parens l.parens e.parens)
from_both n s l t (Err refusal) f = refl

none_left : (n : ℕ) (lines : List (List ℕ)) (s : Scan) (l : Spelled) (t : Scan) → Follows n s l t → Ok (entry_of t (n + 1) lines) ≡ from_scan s (Ok (record { tokens = l.tokens; parens = l.parens; next = n + 1; rest = lines }))
none_left n lines s l t f =
    ap (λ (ts : List Token). Ok (record { tokens = ts; parens = t.parens; next = n + 1; rest = lines })) f.tokens
    ∙ ap (λ (b : Bool). Ok (record { tokens = s.tokens ++ l.tokens; parens = b; next = n + 1; rest = lines })) f.parens

abbrev goes_on : ℕ → List (List ℕ) → Scan → Result EntryTokens (Refused ZoneKind)
goes_on n lines t = if t.depth == 0 then Ok (entry_of t (n + 1) lines) else entry_from (n + 1) lines t

shut : (n : ℕ) (lines : List (List ℕ)) (t : Scan) → t.depth ≡ 0 → goes_on n lines t ≡ Ok (entry_of t (n + 1) lines)
shut n lines t e = rw e refl

open_still : (n : ℕ) (lines : List (List ℕ)) (t : Scan) → 0 < t.depth → goes_on n lines t ≡ entry_from (n + 1) lines t
open_still n lines t h = let e : eqb t.depth 0 ≡ false = grind (arith, nat_tests) in rw e refl

entry_end : (n : ℕ) (s : Scan) → s.depth ≡ 0 → entry_from n [] s ≡ Ok (entry_of s n [])
unfolding entry_from
entry_end n s e = rw e refl

entry_unclosed : (n : ℕ) (s : Scan) → 0 < s.depth → entry_from n [] s ≡ refused s.outer OpenParen
unfolding entry_from
entry_unclosed n s h = let e : eqb s.depth 0 ≡ false = grind (arith, nat_tests) in rw e refl

entry_line : (n : ℕ) (line : List ℕ) (lines : List (List ℕ)) (s : Scan) (r : Result Scan (Refused ZoneKind)) → line_tokens n line s ≡ r → entry_from n (line ∷ lines) s ≡ r >>= goes_on n lines
unfolding entry_from
entry_line n line lines s r e = ap (λ (x : Result Scan (Refused ZoneKind)). x >>= goes_on n lines) e

pub entry_read : {n : ℕ} {opens : List ℕ} {lines : List (List ℕ)} {out : Result EntryTokens (Refused ZoneKind)} → SpellsEntry n opens lines out → (s : Scan) → OpensAre s opens → entry_from n lines (state Apart s) ≡ from_scan s out
entry_read (says.NoLine n) s o =
    entry_end n (state Apart s) o.depth
    ∙ ap (λ (ts : List Token). Ok (record { tokens = ts; parens = s.parens; next = n; rest = [] })) (sym (append-nil s.tokens))
    ∙ ap (λ (b : Bool). Ok (record { tokens = s.tokens ++ []; parens = b; next = n; rest = [] })) (or_none s.parens)
entry_read (says.ParenOpen n m opens) s o =
    entry_unclosed n (state Apart s) (omega (arith, o.depth)) ∙ ap (λ (k : ℕ). Err (record { line = k; kind = OpenParen })) (o.outer (omega arith))
entry_read (says.Broken n opens line lines kind h) s o = entry_line n line lines (state Apart s) (refused n kind) (line_read n h s o)
entry_read (says.Last n opens line lines l h e) s o =
    let x = scanned n s l (line_tokens n line (state Apart s)) (line_read n h s o) in
    entry_line n line lines (state Apart s) (Ok x.0) x.1
    ∙ shut n lines x.0 (x.2.opens.depth ∙ ap length e) ∙ none_left n lines s l x.0 x.2
entry_read (says.GoesOn n opens line lines l out h p more) s o =
    let x = scanned n s l (line_tokens n line (state Apart s)) (line_read n h s o) in
    entry_line n line lines (state Apart s) (Ok x.0) x.1
    ∙ open_still n lines x.0 (omega (arith, x.2.opens.depth))
    ∙ ap (λ (b : Begun). entry_from (n + 1) lines (state b x.0)) x.2.begun
    ∙ entry_read more x.0 x.2.opens ∙ from_both n s l x.0 out x.2

fresh_only : (out : Result EntryTokens (Refused ZoneKind)) → from_scan fresh out ≡ out
fresh_only (Ok e) = refl
fresh_only (Err refusal) = refl

-- what is spelled so is what the scan gives
pub entry_is : (n : ℕ) (lines : List (List ℕ)) (out : Result EntryTokens (Refused ZoneKind)) → SpellsEntry n [] lines out → entry_from n lines fresh ≡ out
entry_is n lines out h = entry_read h fresh none_open ∙ fresh_only out

record FoundEntry (n : ℕ) (opens : List ℕ) (lines : List (List ℕ)) : Type 0 where
  out : Result EntryTokens (Refused ZoneKind)
  spelled : SpellsEntry n opens lines out

line_then : (n : ℕ) (opens line : List ℕ) (lines : List (List ℕ)) → ((opens : List ℕ) → FoundEntry (n + 1) opens lines) → (out : Result Spelled ZoneKind) → Spells n opens line out → FoundEntry n opens (line ∷ lines)
line_then n opens line lines f (Err kind) h = record { out = Err (record { line = n; kind = kind }); spelled = says.Broken n opens line lines kind h }
line_then n opens line lines f (Ok l) h = by_opens l.opens refl
  where
    by_opens : (o : List ℕ) → l.opens ≡ o → FoundEntry n opens (line ∷ lines)
    by_opens [] e = record { out = Ok (record { tokens = l.tokens; parens = l.parens; next = n + 1; rest = lines }); spelled = says.Last n opens line lines l h e }
    by_opens (m ∷ o) e =
        let g = f l.opens in
        record { out = behind l g.out; spelled = says.GoesOn n opens line lines l g.out h (omega (arith, ap length e)) g.spelled }

entry_found : (n : ℕ) (opens : List ℕ) (lines : List (List ℕ)) → FoundEntry n opens lines
entry_found n [] [] = record { out = Ok (record { tokens = []; parens = false; next = n; rest = [] }); spelled = says.NoLine n }
entry_found n (m ∷ opens) [] = record { out = Err (record { line = outermost (m ∷ opens); kind = OpenParen }); spelled = says.ParenOpen n m opens }
entry_found n opens (line ∷ lines) =
    let f = (known n line).at_rest opens in line_then n opens line lines (λ o. entry_found (n + 1) o lines) f.out f.spelled

-- what the scan gives is spelled so
pub entry_spelled : (n : ℕ) (lines : List (List ℕ)) → SpellsEntry n [] lines (entry_from n lines fresh)
entry_spelled n lines =
    let f = entry_found n [] lines in subst (SpellsEntry n [] lines) (sym (entry_is n lines f.out f.spelled)) f.spelled
