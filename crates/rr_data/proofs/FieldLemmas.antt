-- A row of words.
use Rattle.std.proofs.Common.{◌≡◌, ◌∙◌, ℕ, ◌+◌, ◌<◌, ◌≤◌, suc, length, get_or, drop, List, ◌++◌, ◌∷◌, [], Option, Some, None, Result, Ok, Err, ap, sym, refl, arith, map, append_assoc}
use Rattle.std.specs.Option.{option_map}
use Rattle.std.specs.List.{All}
use Rattle.zone_model.specs.declared.DataRefusal.{DataRefusal}
use Rattle.zone_model.specs.declared.DataRefusal.TheVariants.{BadRdata}
use Rattle.std.proofs.lemmas.List.{drop_more, drop_all}
use Rattle.zone_model.specs.Data.{ahead, taken, read_fields, word_octets}
use Rattle.zone_text.specs.Tokens.{IsPlaced, token_view}
use Rattle.rr_data.specs.Fields.{field_view}
use Rattle.zone_text.specs.declared.token.Token.{Token}
use Rattle.rr_data.specs.declared.types.Field.{Field}
use Rattle.rr_data.specs.declared.types.Field.TheVariants.{Name}

-- what is ahead of a refusal is refused alike
pub ahead_refused : (first : List ℕ) (wanted : Result (List ℕ) DataRefusal) (e : DataRefusal) → ahead first wanted ≡ Err e → wanted ≡ Err e
ahead_refused first (Ok x) e h = absurd cc
ahead_refused first (Err f) e h = h

pub taken_all : (out new : List ℕ) (at : ℕ) (o : Option (List ℕ)) (rest : Result (List ℕ) DataRefusal) → option_map (λ cs. out ++ cs) o ≡ Some new → ahead out (taken at o rest) ≡ ahead new rest
taken_all out new at None rest h = absurd cc
taken_all out new at (Some x) (Err e) h = refl
taken_all out new at (Some x) (Ok y) h = let e : out ++ x ≡ new = cc in ap Ok (sym (append_assoc out x y) ∙ ap (λ (l : List ℕ). l ++ y) e)

pub taken_none : (out : List ℕ) (at : ℕ) (o : Option (List ℕ)) (rest : Result (List ℕ) DataRefusal) → o ≡ None → ahead out (taken at o rest) ≡ Err (BadRdata at)
taken_none out at None rest h = refl
taken_none out at (Some x) rest h = absurd cc

pub All-first : (bytes : List ℕ) (xs rest : List Token) (x : Token) → xs ≡ x ∷ rest → All (IsPlaced bytes) xs → IsPlaced bytes x
All-first bytes xs rest x e a = (rw e at a) 0 x (omega arith)

pub All-rest : (bytes : List ℕ) (xs rest : List Token) (x : Token) → xs ≡ x ∷ rest → All (IsPlaced bytes) xs → All (IsPlaced bytes) rest
All-rest bytes xs rest x e a = λ k d lt. (rw e at a) (suc k) d (omega arith)

pub field_missing : (bytes first out : List ℕ) (origin : List (List ℕ)) (at : ℕ) (fields : List Field) (rest : List Token) (wanted : Result (List ℕ) DataRefusal) → at < length fields → length rest ≡ 0
    → ahead first wanted ≡ ahead out (read_fields origin at (map field_view (drop at fields)) (map (token_view bytes) rest)) → wanted ≡ Err (BadRdata at)
unfolding read_fields
field_missing bytes first out origin at fields [] wanted lt e h =
    ahead_refused first wanted (BadRdata at) (h ∙ ap (λ (l : List Field). ahead out (read_fields origin at (map field_view l) [])) (drop_more fields at Name lt))
field_missing bytes first out origin at fields (x ∷ rest) wanted lt e h = absurd (omega arith)

pub field_surplus : (bytes first out : List ℕ) (origin : List (List ℕ)) (at : ℕ) (fields : List Field) (rest : List Token) (wanted : Result (List ℕ) DataRefusal) → length fields ≤ at → 0 < length rest
    → ahead first wanted ≡ ahead out (read_fields origin at (map field_view (drop at fields)) (map (token_view bytes) rest)) → wanted ≡ Err (BadRdata at)
unfolding read_fields
field_surplus bytes first out origin at fields [] wanted lt e h = absurd (omega arith)
field_surplus bytes first out origin at fields (x ∷ rest) wanted lt e h =
    ahead_refused first wanted (BadRdata at) (h ∙ ap (λ (l : List Field). ahead out (read_fields origin at (map field_view l) (map (token_view bytes) (x ∷ rest)))) (drop_all at fields lt))

pub field_next : (bytes out : List ℕ) (origin : List (List ℕ)) (at : ℕ) (fields : List Field) (rest others : List Token) (token : Token) (d : Field) → at < length fields → rest ≡ token ∷ others
    → ahead out (read_fields origin at (map field_view (drop at fields)) (map (token_view bytes) rest)) ≡ ahead out (taken at (word_octets origin (field_view (get_or fields at d)) (token_view bytes token)) (read_fields origin (at + 1) (map field_view (drop (at + 1) fields)) (map (token_view bytes) others)))
unfolding read_fields
field_next bytes out origin at fields rest others token d lt e =
    ap (λ (l : List Token). ahead out (read_fields origin at (map field_view (drop at fields)) (map (token_view bytes) l))) e
    ∙ ap (λ (l : List Field). ahead out (read_fields origin at (map field_view l) (map (token_view bytes) (token ∷ others)))) (drop_more fields at d lt)

pub ruleset field_rules = (All-first, All-rest, field_missing, field_surplus)
