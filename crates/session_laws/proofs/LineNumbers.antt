-- The tokens of a line are the same under any number, but for the number that they keep for refusals.
use Rattle.std.proofs.Common.{◌≡◌, ◌∙◌, ℕ, Bool, true, false, cond, ◌==◌, List, [], ◌∷◌, map, Some, None, Result, Ok, Err, refl, sym, ap, subst, option_map}
use Rattle.std.proofs.lemmas.List.{map-append}
use Rattle.zone_model.specs.Refusals.{Refused, ◌>>=◌}
use Rattle.zone_model.specs.declared.ZoneKind.{ZoneKind}
use Rattle.zone_model.specs.Tokens.{Token, LineTokens, Begun, Apart, Comment, Word, Quote, Escape, Scan, apart, fresh, in_quote, in_word, line_end, line_tokens, parts_words, step, steps, with_token}
use Rattle.job_model.specs.Phrases.{script_tokens, without_parens}

-- a token of a line that has another number
abbrev pub put : ℕ → Token → Token
put n t = record t { line = n }

-- so it is of a scan, where the outermost parenthesis stands on any line
abbrev renumbered : ℕ → Scan → ℕ → Scan
renumbered n s outer = record { tokens = map (put n) s.tokens; begun = s.begun; depth = s.depth; outer = outer; parens = s.parens }

abbrev Read : Type 0
Read = Result Scan (Refused ZoneKind)

-- the second is the first under number n
abbrev Alike : ℕ → Read → Read → Type 0
Alike n (Ok s) r = (outer : ℕ) × (r ≡ Ok (renumbered n s outer))
Alike n (Err e) (Ok t) = ⊥
Alike n (Err e) (Err f) = Unit {0}

either : (n : ℕ) (b : Bool) (x y u v : Read) → Alike n x u → Alike n y v → Alike n (cond b x y) (cond b u v)
either n true x y u v h k = h
either n false x y u v h k = k

then_alike : (n : ℕ) (r u : Read) (f g : Scan → Read) → Alike n r u → ((s : Scan) (outer : ℕ) → Alike n (f s) (g (renumbered n s outer))) → Alike n (r >>= f) (u >>= g)
then_alike n (Ok s) u f g h k = subst (λ (x : Read). Alike n (f s) (x >>= g)) (sym h.1) (k s h.0)
then_alike n (Err e) (Ok t) f g h k = absurd h
then_alike n (Err e) (Err e') f g h k = tt

module _ (m n : ℕ) where
  -- a byte of a line that has number m, or n
  apart_alike : (c outer : ℕ) (s : Scan) → Alike n (apart m c s) (apart n c (renumbered n s outer))
  apart_alike c outer s =
      either n (c == 32) _ _ _ _ (outer, refl)
      (either n (c == 9) _ _ _ _ (outer, refl)
      (either n (c == 59) _ _ _ _ (outer, refl)
      (either n (c == 34) _ _ _ _ (outer, refl)
      (either n (c == 40) _ _ _ _ (cond (s.depth == 0) n outer, refl)
      (either n (c == 41) _ _ _ _ (either n (s.depth == 0) _ _ _ _ tt (outer, refl))
      (either n (c == 92) _ _ _ _ (outer, refl) (outer, refl)))))))

  -- a token that ends
  token_same : (text : List ℕ) (quoted : Bool) (outer : ℕ) (s : Scan) → with_token text quoted n (renumbered n s outer) ≡ renumbered n (with_token text quoted m s) outer
  token_same text quoted outer s =
      ap (λ (l : List Token). record { tokens = l; begun = Apart; depth = s.depth; outer = outer; parens = s.parens })
      (sym (map-append (put n) s.tokens ((record { text = text; quoted = quoted; line = m }) ∷ [])))

  word_alike : (c outer : ℕ) (text : List ℕ) (s : Scan) → Alike n (in_word m c text s) (in_word n c text (renumbered n s outer))
  word_alike c outer text s =
      either n (parts_words c) _ _ _ _
      (subst (λ (t : Scan). Alike n (apart m c (with_token text false m s)) (apart n c t)) (sym (token_same text false outer s)) (apart_alike c outer (with_token text false m s)))
      (either n (c == 92) _ _ _ _ (outer, refl) (outer, refl))

  quote_alike : (c outer : ℕ) (text : List ℕ) (s : Scan) → Alike n (in_quote m c text s) (in_quote n c text (renumbered n s outer))
  quote_alike c outer text s =
      either n (c == 34) _ _ _ _ (outer, ap (λ (t : Scan). Ok t) (token_same text true outer s)) (either n (c == 92) _ _ _ _ (outer, refl) (outer, refl))

  step_alike : (c outer : ℕ) (s : Scan) (b : Begun) → Alike n (step m c (record s { begun = b })) (step n c (renumbered n (record s { begun = b }) outer))
  unfolding step
  step_alike c outer s Apart = apart_alike c outer (record s { begun = Apart })
  step_alike c outer s Comment = (outer, refl)
  step_alike c outer s (Word text) = word_alike c outer text (record s { begun = Word text })
  step_alike c outer s (Quote text) = quote_alike c outer text (record s { begun = Quote text })
  step_alike c outer s (Escape quoted text) = (outer, refl)

  steps_alike : (line : List ℕ) (outer : ℕ) (s : Scan) → Alike n (steps m line s) (steps n line (renumbered n s outer))
  unfolding steps
  steps_alike [] outer s = (outer, refl)
  steps_alike (c ∷ line) outer s =
      then_alike n (step m c s) (step n c (renumbered n s outer)) (steps m line) (steps n line) (step_alike c outer s s.begun) (λ (t : Scan) (o : ℕ). steps_alike line o t)

  end_alike : (outer : ℕ) (s : Scan) (b : Begun) → Alike n (line_end m (record s { begun = b })) (line_end n (renumbered n (record s { begun = b }) outer))
  unfolding line_end
  end_alike outer s Apart = (outer, refl)
  end_alike outer s Comment = (outer, refl)
  end_alike outer s (Word text) = (outer, ap (λ (t : Scan). Ok t) (token_same text false outer s))
  end_alike outer s (Quote text) = tt
  end_alike outer s (Escape quoted text) = tt

  line_alike : (line : List ℕ) → Alike n (line_tokens m line fresh) (line_tokens n line fresh)
  unfolding line_tokens
  line_alike line = then_alike n (steps m line fresh) (steps n line fresh) (line_end m) (line_end n) (steps_alike line 0 fresh) (λ (t : Scan) (o : ℕ). end_alike o t t.begun)

abbrev kept : Scan → Result LineTokens (Refused ZoneKind)
kept s = Ok (record { tokens = s.tokens; parens = s.parens })

closed_same : (n : ℕ) (parens : Bool) (tokens : List Token) → cond parens None (Some (map (put n) tokens)) ≡ option_map (map (put n)) (cond parens None (Some tokens))
closed_same n true tokens = refl
closed_same n false tokens = refl

scan_same : (n : ℕ) (r u : Read) → Alike n r u → without_parens (u >>= kept) ≡ option_map (map (put n)) (without_parens (r >>= kept))
scan_same n (Ok s) u h = ap (λ (x : Read). without_parens (x >>= kept)) h.1 ∙ closed_same n s.parens s.tokens
scan_same n (Err e) (Ok t) h = absurd h
scan_same n (Err e) (Err e') h = refl

-- the tokens of a line under number n, by those under number m
pub tokens_same : (m n : ℕ) (line : List ℕ) → script_tokens n line ≡ option_map (map (put n)) (script_tokens m line)
tokens_same m n line = scan_same n (line_tokens m line fresh) (line_tokens n line fresh) (line_alike m n line)
