-- The lines of tokens.
use Rattle.std.proofs.Common.{◌≡◌, ℕ, zero, suc, ◌<◌, ◌≤◌, List, [], ◌∷◌, length, get_or, map, refl, arith, ap, ◌∙◌, ◌-◌}
use Rattle.zone_model.specs.MasterFile.{line_of, last_line}
use Rattle.zone_text.specs.Tokens.{token_view}
use Rattle.zone_text.specs.declared.token.Token.{Token}

pub line_here : (bytes : List ℕ) (last at : ℕ) (tokens : List Token) (d : Token) → at < length tokens → (get_or tokens at d).line ≡ line_of last at (map (token_view bytes) tokens)
line_here bytes last at [] d h = absurd (omega arith)
line_here bytes last zero (t ∷ tokens) d h = refl
line_here bytes last (suc at) (t ∷ tokens) d h = line_here bytes last at tokens d (omega arith)

pub line_past : (bytes : List ℕ) (last at : ℕ) (tokens : List Token) → length tokens ≤ at → last ≡ line_of last at (map (token_view bytes) tokens)
line_past bytes last at [] h = refl
line_past bytes last zero (t ∷ tokens) h = absurd (omega arith)
line_past bytes last (suc at) (t ∷ tokens) h = line_past bytes last at tokens (omega arith)

pub ruleset line_rules = (line_here, line_past)

pub line_last : (bytes : List ℕ) (first : ℕ) (tokens : List Token) (d : Token) → (length tokens ≡ 0 → ⊥) → (get_or tokens (length tokens - 1) d).line ≡ last_line first (map (token_view bytes) tokens)
line_last bytes first [] d n = absurd (n refl)
line_last bytes first (t ∷ []) d n = refl
line_last bytes first (t ∷ u ∷ tokens) d n = (let e : length (t ∷ u ∷ tokens) - 1 ≡ suc (length (u ∷ tokens) - 1) = omega arith in ap (λ (k : ℕ). (get_or (t ∷ u ∷ tokens) k d).line) e) ∙ line_last bytes t.line (u ∷ tokens) d (λ e. omega arith)
