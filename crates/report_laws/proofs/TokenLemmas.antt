-- Tokens of lines of octets are of octets.
use Rattle.std.proofs.Common.{◌≡◌, ℕ, ◌-◌, ◌<◌, Bool, true, false, cond, eqb, List, [], ◌∷◌, ◌++◌, Result, Ok, subst, arith}
use Rattle.zone_model.specs.Refusals.{Refused}
use Rattle.zone_model.specs.declared.ZoneKind.{ZoneKind}
use Rattle.zone_model.specs.declared.ZoneKind.TheVariants.{BadToken, OpenQuote}
use Rattle.zone_model.specs.Tokens.{Token, parts_words, Begun, Apart, Comment, Word, Quote, Escape, Scan, fresh, refused, with_token, opened, apart, in_word, in_quote, step, steps, line_end, line_tokens}
use Rattle.dns_name.proofs.BodyLemmas.{all_push}
use Rattle.report_laws.specs.Octets.{IsOctet, AllOctets}
use Rattle.report_laws.proofs.DataLemmas.{IsTokenText, AllTexts, bound}

-- a choice is one of two
pub either : {A P : Type 0} (b : Bool) (x y r : A) → (x ≡ r → P) → (y ≡ r → P) → cond b x y ≡ r → P
either true x y r f g h = f h
either false x y r f g h = g h

abbrev IsBegun : Begun → Type 0
IsBegun Apart = Unit {0}
IsBegun Comment = Unit {0}
IsBegun (Word text) = AllOctets text
IsBegun (Quote text) = AllOctets text
IsBegun (Escape quoted text) = AllOctets text

-- what a scan has come to is of octets
pub record IsScan (s : Scan) : Type 0 where
  pub tokens : AllTexts s.tokens
  pub begun : IsBegun s.begun

abbrev Scanned : Type 0
Scanned = Result Scan (Refused ZoneKind)

so_is : (x new : Scan) → IsScan x → ◌≡◌ {A = Scanned} (Ok x) (Ok new) → IsScan new
so_is x new s h = let is : x ≡ new = cc in subst IsScan is s

never : (n : ℕ) (kind : ZoneKind) (new : Scan) → ◌≡◌ {A = Scanned} (refused n kind) (Ok new) → IsScan new
never n kind new h = absurd cc

pushed : (text : List ℕ) (c : ℕ) → AllOctets text → c < 256 → AllOctets (text ++ c ∷ [])
pushed text c t small = all_push IsOctet text c t small

token_more : (text : List ℕ) (quoted : Bool) (n : ℕ) (s : Scan) → AllOctets text → AllTexts s.tokens → AllTexts (with_token text quoted n s).tokens
token_more text quoted n s t h = all_push IsTokenText s.tokens (record { text = text; quoted = quoted; line = n }) h t

-- ---- a byte

apart_is : (n c : ℕ) (s new : Scan) → c < 256 → AllTexts s.tokens → apart n c s ≡ Ok new → IsScan new
apart_is n c s new small h =
    either (eqb c 32) _ _ (Ok new) (so_is (record s { begun = Apart }) new (record { tokens = h; begun = tt }))
    (either (eqb c 9) _ _ (Ok new) (so_is (record s { begun = Apart }) new (record { tokens = h; begun = tt }))
    (either (eqb c 59) _ _ (Ok new) (so_is (record s { begun = Comment }) new (record { tokens = h; begun = tt }))
    (either (eqb c 34) _ _ (Ok new) (so_is (record s { begun = Quote [] }) new (record { tokens = h; begun = tt }))
    (either (eqb c 40) _ _ (Ok new) (so_is (opened n s) new (record { tokens = h; begun = tt }))
    (either (eqb c 41) _ _ (Ok new)
    (either (eqb s.depth 0) _ _ (Ok new) (never n BadToken new) (so_is (record s { depth = s.depth - 1; begun = Apart }) new (record { tokens = h; begun = tt })))
    (either (eqb c 92) _ _ (Ok new) (so_is (record s { begun = Escape false (92 ∷ []) }) new (record { tokens = h; begun = (omega arith, tt) }))
    (so_is (record s { begun = Word (c ∷ []) }) new (record { tokens = h; begun = (small, tt) }))))))))

word_is : (n c : ℕ) (text : List ℕ) (s new : Scan) → c < 256 → AllOctets text → AllTexts s.tokens → in_word n c text s ≡ Ok new → IsScan new
word_is n c text s new small t h =
    either (parts_words c) _ _ (Ok new) (apart_is n c (with_token text false n s) new small (token_more text false n s t h))
    (either (eqb c 92) _ _ (Ok new) (so_is (record s { begun = Escape false (text ++ c ∷ []) }) new (record { tokens = h; begun = pushed text c t small }))
    (so_is (record s { begun = Word (text ++ c ∷ []) }) new (record { tokens = h; begun = pushed text c t small })))

quote_is : (n c : ℕ) (text : List ℕ) (s new : Scan) → c < 256 → AllOctets text → AllTexts s.tokens → in_quote n c text s ≡ Ok new → IsScan new
quote_is n c text s new small t h =
    either (eqb c 34) _ _ (Ok new) (so_is (with_token text true n s) new (record { tokens = token_more text true n s t h; begun = tt }))
    (either (eqb c 92) _ _ (Ok new) (so_is (record s { begun = Escape true (text ++ c ∷ []) }) new (record { tokens = h; begun = pushed text c t small }))
    (so_is (record s { begun = Quote (text ++ c ∷ []) }) new (record { tokens = h; begun = pushed text c t small })))

-- a scan of these parts
abbrev scan : List Token → Begun → ℕ → ℕ → Bool → Scan
scan tokens begun depth outer parens = record { tokens = tokens; begun = begun; depth = depth; outer = outer; parens = parens }

step_by : (n c : ℕ) (tokens : List Token) (begun : Begun) (depth outer : ℕ) (parens : Bool) (new : Scan) → c < 256 → AllTexts tokens → IsBegun begun → step n c (scan tokens begun depth outer parens) ≡ Ok new → IsScan new
unfolding step
step_by n c tokens Apart depth outer parens new small h b e = apart_is n c (scan tokens Apart depth outer parens) new small h e
step_by n c tokens Comment depth outer parens new small h b e = so_is (scan tokens Comment depth outer parens) new (record { tokens = h; begun = tt }) e
step_by n c tokens (Word text) depth outer parens new small h b e = word_is n c text (scan tokens (Word text) depth outer parens) new small b h e
step_by n c tokens (Quote text) depth outer parens new small h b e = quote_is n c text (scan tokens (Quote text) depth outer parens) new small b h e
step_by n c tokens (Escape true text) depth outer parens new small h b e = so_is (scan tokens (Quote (text ++ c ∷ [])) depth outer parens) new (record { tokens = h; begun = pushed text c b small }) e
step_by n c tokens (Escape false text) depth outer parens new small h b e = so_is (scan tokens (Word (text ++ c ∷ [])) depth outer parens) new (record { tokens = h; begun = pushed text c b small }) e

steps_are : (n : ℕ) (line : List ℕ) (s new : Scan) → AllOctets line → IsScan s → steps n line s ≡ Ok new → IsScan new
unfolding steps
steps_are n [] s new l h e = so_is s new h e
steps_are n (c ∷ line) s new l h e =
    let b = bound (step n c s) (steps n line) new e in
    steps_are n line b.0 new l.1 (step_by n c s.tokens s.begun s.depth s.outer s.parens b.0 l.0 h.tokens h.begun b.1) b.2

-- ---- the end of a line

end_by : (n : ℕ) (tokens : List Token) (begun : Begun) (depth outer : ℕ) (parens : Bool) (new : Scan) → AllTexts tokens → IsBegun begun → line_end n (scan tokens begun depth outer parens) ≡ Ok new → IsScan new
unfolding line_end
end_by n tokens Apart depth outer parens new h b e = so_is (scan tokens Apart depth outer parens) new (record { tokens = h; begun = tt }) e
end_by n tokens Comment depth outer parens new h b e = so_is (scan tokens Apart depth outer parens) new (record { tokens = h; begun = tt }) e
end_by n tokens (Word text) depth outer parens new h b e =
    so_is (with_token text false n (scan tokens (Word text) depth outer parens)) new (record { tokens = token_more text false n (scan tokens (Word text) depth outer parens) b h; begun = tt }) e
end_by n tokens (Quote text) depth outer parens new h b e = never n OpenQuote new e
end_by n tokens (Escape quoted text) depth outer parens new h b e = never n BadToken new e

pub line_is : (n : ℕ) (line : List ℕ) (s new : Scan) → AllOctets line → IsScan s → line_tokens n line s ≡ Ok new → IsScan new
unfolding line_tokens
line_is n line s new l h e =
    let b = bound (steps n line s) (line_end n) new e in
    let x = steps_are n line s b.0 l h b.1 in
    end_by n b.0.tokens b.0.begun b.0.depth b.0.outer b.0.parens new x.tokens x.begun b.2

pub fresh_is : IsScan fresh
fresh_is = record { tokens = tt; begun = tt }
