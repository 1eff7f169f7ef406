-- The pieces of a text, one after another.
use Rattle.std.proofs.Common.{◌≡◌, ℕ, zero, suc, ◌+◌, ◌-◌, ◌<◌, ◌≤◌, false, List, [], ◌∷◌, length, drop, get_or, sym, ap, ◌∙◌, refl, arith, length-drop, take, add-zero, Option, Some, None, eqb}
use Rattle.std.proofs.lemmas.List.{drop_more, drop-drop, drop_all}
use Rattle.std.proofs.lemmas.Bool.Decides.{nat_tests}
use Rattle.std.proofs.lemmas.Grind.{common_steps}
use Rattle.std.specs.Char.{to_ascii_lowercase}
use Rattle.zone_model.specs.Escapes.{escaped_octet, escape_len}
use Rattle.zone_model.specs.NameText.{Piece, Dot, Octet, Bad, piece_of, escape_piece, taken, pieces_from}
use Rattle.dns_name.specs.Pieces.{pieces_at, IsOctetAt}

pub fold_again : (c : ℕ) → to_ascii_lowercase (to_ascii_lowercase c) ≡ to_ascii_lowercase c
fold_again c = grind (arith, nat_tests)

-- bytes of the piece before are passed over
pub pieces-skip : (n at : ℕ) (text : List ℕ) → n ≤ length text → pieces_from n at text ≡ pieces_from 0 (at + n) (drop n text)
unfolding pieces_from
pieces-skip zero at text h = ap (λ (k : ℕ). pieces_from 0 k text) (sym (add-zero at))
pieces-skip (suc n) at [] h = absurd (omega arith)
pieces-skip (suc n) at (c ∷ text) h =
    let le : n ≤ length text = omega arith in
    let same : at + 1 + n ≡ at + suc n = omega arith in
    pieces-skip n (at + 1) text le ∙ ap (λ (k : ℕ). pieces_from 0 k (drop n text)) same

pub pieces-cons : (at c : ℕ) (text : List ℕ) → pieces_from 0 at (c ∷ text) ≡ piece_of at c text ∷ pieces_from (taken c text) (at + 1) text
unfolding pieces_from
pieces-cons at c text = refl

-- the piece at a place of a text
pieces_here : (bytes : List ℕ) (at : ℕ) → at < length bytes
    → pieces_at bytes at ≡ piece_of at (get_or bytes at 0) (drop (at + 1) bytes) ∷ pieces_from (taken (get_or bytes at 0) (drop (at + 1) bytes)) (at + 1) (drop (at + 1) bytes)
pieces_here bytes at h = ap (pieces_from 0 at) (drop_more bytes at 0 h) ∙ pieces-cons at (get_or bytes at 0) (drop (at + 1) bytes)

pub piece_dot : (bytes : List ℕ) (at : ℕ) → at < length bytes → get_or bytes at 0 ≡ 46 → pieces_at bytes at ≡ Dot at ∷ pieces_at bytes (at + 1)
piece_dot bytes at h e = pieces_here bytes at h ∙ ap (λ (c : ℕ). piece_of at c (drop (at + 1) bytes) ∷ pieces_from (taken c (drop (at + 1) bytes)) (at + 1) (drop (at + 1) bytes)) e

pub piece_of-plain : (at c : ℕ) (text : List ℕ) → (c ≡ 46 → ⊥) → (c ≡ 92 → ⊥) → piece_of at c text ≡ Octet at (to_ascii_lowercase c)
piece_of-plain at c text h k =
    let p : eqb c 46 ≡ false = grind arith in
    let q : eqb c 92 ≡ false = grind arith in
    rw (p, q) refl

pub taken-plain : (c : ℕ) (text : List ℕ) → (c ≡ 92 → ⊥) → taken c text ≡ 0
taken-plain c text k = let q : eqb c 92 ≡ false = grind arith in rw q refl

pub piece_plain : (bytes : List ℕ) (at octet : ℕ) → at < length bytes → (get_or bytes at 0 ≡ 46 → ⊥) → (get_or bytes at 0 ≡ 92 → ⊥) → octet < 256
    → octet ≡ to_ascii_lowercase (get_or bytes at 0) → IsOctetAt bytes at octet (at + 1)
piece_plain bytes at octet h k m small e =
    let c = get_or bytes at 0 in
    let rest = drop (at + 1) bytes in
    record {
      is = pieces_here bytes at h ∙ ap (λ (p : Piece). p ∷ pieces_from (taken (get_or bytes at 0) (drop (at + 1) bytes)) (at + 1) (drop (at + 1) bytes)) (piece_of-plain at (get_or bytes at 0) (drop (at + 1) bytes) k m)
          ∙ ap (λ (n : ℕ). Octet at (to_ascii_lowercase (get_or bytes at 0)) ∷ pieces_from n (at + 1) (drop (at + 1) bytes)) (taken-plain (get_or bytes at 0) (drop (at + 1) bytes) m)
          ∙ ap (λ (o : ℕ). Octet at o ∷ pieces_from 0 (at + 1) (drop (at + 1) bytes)) (sym e);
      later = omega arith;
      within = omega arith;
      small = small;
      folded = rw e (fold_again (get_or bytes at 0));
    }

pub piece_escape : (bytes : List ℕ) (at octet len lower : ℕ) → at < length bytes → get_or bytes at 0 ≡ 92 → escaped_octet (drop (at + 1) bytes) ≡ Some octet
    → len ≡ escape_len (drop (at + 1) bytes) → len ≤ length (drop (at + 1) bytes) → lower < 256 → lower ≡ to_ascii_lowercase octet → IsOctetAt bytes at lower (at + 1 + len)
piece_escape bytes at octet len lower h e known is_len fits small low =
    let rest = drop (at + 1) bytes in
    let begins : pieces_at bytes at ≡ escape_piece at (escaped_octet (drop (at + 1) bytes)) ∷ pieces_from (escape_len (drop (at + 1) bytes)) (at + 1) (drop (at + 1) bytes)
    = pieces_here bytes at h ∙ ap (λ (c : ℕ). piece_of at c (drop (at + 1) bytes) ∷ pieces_from (taken c (drop (at + 1) bytes)) (at + 1) (drop (at + 1) bytes)) e in
    let skipped : pieces_from len (at + 1) (drop (at + 1) bytes) ≡ pieces_at bytes (at + 1 + len) = pieces-skip len (at + 1) (drop (at + 1) bytes) fits ∙ ap (pieces_from 0 (at + 1 + len)) (drop-drop len (at + 1) bytes) in
    record {
      is = begins ∙ ap (λ (o : Option ℕ). escape_piece at o ∷ pieces_from (escape_len (drop (at + 1) bytes)) (at + 1) (drop (at + 1) bytes)) known
          ∙ ap (λ (n : ℕ). Octet at (to_ascii_lowercase octet) ∷ pieces_from n (at + 1) (drop (at + 1) bytes)) (sym is_len)
          ∙ ap (λ (ps : List Piece). Octet at (to_ascii_lowercase octet) ∷ ps) skipped
          ∙ ap (λ (o : ℕ). Octet at o ∷ pieces_at bytes (at + 1 + len)) (sym low);
      later = omega arith;
      within = omega (arith, length-drop (at + 1) bytes);
      small = small;
      folded = rw low (fold_again octet);
    }

pub piece_bad : (bytes : List ℕ) (at : ℕ) → at < length bytes → get_or bytes at 0 ≡ 92 → escaped_octet (drop (at + 1) bytes) ≡ None
    → (rest : List Piece) × (pieces_at bytes at ≡ Bad at ∷ rest)
piece_bad bytes at h e none = (
  pieces_from (escape_len (drop (at + 1) bytes)) (at + 1) (drop (at + 1) bytes),
  pieces_here bytes at h ∙ ap (λ (c : ℕ). piece_of at c (drop (at + 1) bytes) ∷ pieces_from (taken c (drop (at + 1) bytes)) (at + 1) (drop (at + 1) bytes)) e
      ∙ ap (λ (o : Option ℕ). escape_piece at o ∷ pieces_from (escape_len (drop (at + 1) bytes)) (at + 1) (drop (at + 1) bytes)) none,
)

pub pieces_end : (bytes : List ℕ) (at : ℕ) → length bytes ≤ at → pieces_at bytes at ≡ []
unfolding pieces_from
pieces_end bytes at h = ap (pieces_from 0 at) (drop_all at bytes h)

-- the rest of a slice
pub rest_is : (bytes : List ℕ) (at : ℕ) → take (length bytes - at) (drop at bytes) ≡ drop at bytes
rest_is bytes at = grind (arith, common_steps)
