-- Names that texts of octets say.
use Rattle.std.proofs.Common.{◌≡◌, ℕ, zero, suc, ◌+◌, ◌<◌, Bool, true, false, cond, ◌&&◌, eqb, ltb, List, [], ◌∷◌, ◌++◌, length, get_or, Option, Some, None, Result, Ok, Err, refl, sym, subst, arith}
use Rattle.std.proofs.lemmas.Bool.Decides.{nat_tests}
use borrow.Author.Tests.{ltb-true, ltb-false}
use Rattle.std.specs.List.{AllByRecursion}
use Rattle.std.specs.Char.{to_ascii_lowercase, is_ascii_digit}
use Rattle.zone_model.specs.declared.NameRefusal.{NameRefusal}
use Rattle.zone_model.specs.declared.NameRefusal.TheVariants.{EmptyLabel, LongLabel, LongName}
use Rattle.zone_model.specs.Names.{Label, Name, IsName, IsLabel, IsFolded, wire}
use Rattle.zone_model.specs.NameText.{Piece, Dot, Octet, Bad, escape_piece, piece_of, taken, pieces_from, onto, labels_from, labels_of, fitting, completed, name_of}
use Rattle.zone_model.specs.Escapes.{escaped_octet, number_of_three}
use Rattle.dns_name.proofs.BodyLemmas.{all_append}
use Rattle.dns_name.proofs.PieceLemmas.{fold_again}
use Rattle.dns_name.proofs.FillLemmas.{onto-ok}
use Rattle.dns_name.proofs.TextLemmas.{IsPart, as_label, part_more}
use Rattle.report_laws.specs.Octets.{AllOctets}

-- ---- pieces

pub index_small : (text : List ℕ) (i : ℕ) → AllOctets text → get_or text i 0 < 256
index_small [] i h = omega arith
index_small (c ∷ text) zero h = h.0
index_small (c ∷ text) (suc i) h = index_small text i h.1

pub lower_small : (c : ℕ) → c < 256 → to_ascii_lowercase c < 256
lower_small c h = by_tests (ltb c 65) (ltb c 91) refl
  where
    by_tests : (a b : Bool) → ltb c 91 ≡ b → cond a c (cond b (c + 32) c) < 256
    by_tests true b e = h
    by_tests false true e = let lt : c < 91 = ltb-true c 91 e in omega arith
    by_tests false false e = h

escape_small : (text : List ℕ) (octet : ℕ) → AllOctets text → escaped_octet text ≡ Some octet → octet < 256
unfolding escaped_octet
escape_small text octet h e = by_tests (eqb (length text) 0) (is_ascii_digit (get_or text 0 0)) (is_ascii_digit (get_or text 1 0) && is_ascii_digit (get_or text 2 0)) (ltb (number_of_three text) 256) refl e
  where
    by_tests : (a b c d : Bool) → ltb (number_of_three text) 256 ≡ d → cond a None (cond b (cond (c && d) (Some (number_of_three text)) None) (Some (get_or text 0 0))) ≡ Some octet → octet < 256
    by_tests true b c d t k = absurd cc
    by_tests false true true true t k = let is : number_of_three text ≡ octet = cc in subst (λ (n : ℕ). n < 256) is (ltb-true (number_of_three text) 256 t)
    by_tests false true true false t k = absurd cc
    by_tests false true false d t k = absurd cc
    by_tests false false c d t k = let is : get_or text 0 0 ≡ octet = cc in subst (λ (n : ℕ). n < 256) is (index_small text 0 h)

abbrev IsPiece : Piece → Type 0
IsPiece (Dot at) = Unit {0}
IsPiece (Octet at octet) = (octet < 256) × IsFolded octet
IsPiece (Bad at) = Unit {0}

escape_is : (at : ℕ) (o : Option ℕ) → ((octet : ℕ) → o ≡ Some octet → octet < 256) → IsPiece (escape_piece at o)
escape_is at None h = tt
escape_is at (Some octet) h = (lower_small octet (h octet refl), fold_again octet)

piece_is : (at c : ℕ) (text : List ℕ) → c < 256 → AllOctets text → IsPiece (piece_of at c text)
piece_is at c text small h = by_tests (eqb c 46) (eqb c 92)
  where
    by_tests : (a b : Bool) → IsPiece (cond a (Dot at) (cond b (escape_piece at (escaped_octet text)) (Octet at (to_ascii_lowercase c))))
    by_tests true b = tt
    by_tests false true = escape_is at (escaped_octet text) (λ octet e. escape_small text octet h e)
    by_tests false false = (lower_small c small, fold_again c)

all_pieces : (skip at : ℕ) (text : List ℕ) → AllOctets text → AllByRecursion IsPiece (pieces_from skip at text)
unfolding pieces_from
all_pieces zero at [] h = tt
all_pieces (suc skip) at [] h = tt
all_pieces (suc skip) at (c ∷ text) h = all_pieces skip (at + 1) text h.1
all_pieces zero at (c ∷ text) h = (piece_is at c text h.0 h.1, all_pieces (taken c text) (at + 1) text h.1)

-- ---- labels

abbrev Labels : Type 0
Labels = Result (Name × Bool) NameRefusal

no_octet : IsPart []
no_octet = record { short = omega arith; octets = tt; folded = tt }

labels_are : (label : Label) (pieces : List Piece) (x : Name × Bool) → IsPart label → AllByRecursion IsPiece pieces → labels_from label pieces ≡ Ok x → AllByRecursion IsLabel x.0
unfolding labels_from
labels_are label [] x p h e = by_test (eqb (length label) 0) refl e
  where
    by_test : (b : Bool) → eqb (length label) 0 ≡ b → ◌≡◌ {A = Labels} (cond b (Ok ([], true)) (Ok (label ∷ [], false))) (Ok x) → AllByRecursion IsLabel x.0
    by_test true t k = let is : ([], true) ≡ x = cc in subst (λ (y : Name × Bool). AllByRecursion IsLabel y.0) is tt
    by_test false t k = let is : (label ∷ [], false) ≡ x = cc in subst (λ (y : Name × Bool). AllByRecursion IsLabel y.0) is (as_label label p (grind (arith, nat_tests)), tt)
labels_are label (Dot at ∷ pieces) x p h e = by_test (λ y. labels_are [] pieces y no_octet h.1) (eqb (length label) 0) refl e
  where
    by_test : ((y : Name × Bool) → labels_from [] pieces ≡ Ok y → AllByRecursion IsLabel y.0) → (b : Bool) → eqb (length label) 0 ≡ b
        → cond b (Err (EmptyLabel at)) (onto (label ∷ []) (labels_from [] pieces)) ≡ Ok x → AllByRecursion IsLabel x.0
    by_test others true t k = absurd cc
    by_test others false t k =
        let o = onto-ok (label ∷ []) (labels_from [] pieces) x k in
        subst (λ (n : Name). AllByRecursion IsLabel n) (sym o.2) (as_label label p (grind (arith, nat_tests)), others o.0 o.1)
labels_are label (Bad at ∷ pieces) x p h e = absurd cc
labels_are label (Octet at octet ∷ pieces) x p h e = by_test (λ q. labels_are (label ++ octet ∷ []) pieces x q h.1) (eqb (length label) 63) refl e
  where
    by_test : (IsPart (label ++ octet ∷ []) → labels_from (label ++ octet ∷ []) pieces ≡ Ok x → AllByRecursion IsLabel x.0) → (b : Bool) → eqb (length label) 63 ≡ b
        → cond b (Err (LongLabel at)) (labels_from (label ++ octet ∷ []) pieces) ≡ Ok x → AllByRecursion IsLabel x.0
    by_test others true t k = absurd cc
    by_test others false t k = others (part_more label octet p (λ same. grind (arith, nat_tests)) h.0.0 h.0.1) k

-- ---- names

fits : (labels name : Name) → AllByRecursion IsLabel labels → fitting labels ≡ Ok name → IsName name
unfolding fitting
fits labels name each e = by_test (ltb 255 (length (wire labels))) refl e
  where
    by_test : (b : Bool) → ltb 255 (length (wire labels)) ≡ b → cond b (Err (LongName (length (wire labels)))) (Ok labels) ≡ Ok name → IsName name
    by_test true t k = absurd cc
    by_test false t k = let is : labels ≡ name = cc in subst IsName is (record { each = each; short = ltb-false 255 (length (wire labels)) t })

completed_is : (origin : Name) (r : Labels) (name : Name) → IsName origin → ((x : Name × Bool) → r ≡ Ok x → AllByRecursion IsLabel x.0) → completed origin r ≡ Ok name → IsName name
unfolding completed
completed_is origin (Err refusal) name o h e = absurd cc
completed_is origin (Ok x) name o h e = by_end x.1 e
  where
    by_end : (b : Bool) → fitting (cond b x.0 (x.0 ++ origin)) ≡ Ok name → IsName name
    by_end true k = fits x.0 name (h x refl) k
    by_end false k = fits (x.0 ++ origin) name (all_append IsLabel x.0 origin (h x refl) o.each) k

text_labels : (text : List ℕ) (x : Name × Bool) → AllOctets text → labels_of text ≡ Ok x → AllByRecursion IsLabel x.0
text_labels text x h e = labels_are [] (pieces_from 0 0 text) x no_octet (all_pieces 0 0 text h) e

pub root_is : IsName []
root_is = record { each = tt; short = omega arith }

pub name_is : (text : List ℕ) (origin name : Name) → AllOctets text → IsName origin → name_of text origin ≡ Ok name → IsName name
unfolding name_of
name_is [] origin name h o e = absurd cc
name_is (c ∷ []) origin name h o e = by_tests (eqb c 64) (eqb c 46) e
  where
    by_tests : (a b : Bool) → cond a (Ok origin) (cond b (Ok []) (completed origin (labels_of (c ∷ [])))) ≡ Ok name → IsName name
    by_tests true b k = let is : origin ≡ name = cc in subst IsName is o
    by_tests false true k = let is : [] ≡ name = cc in subst IsName is root_is
    by_tests false false k = completed_is origin (labels_of (c ∷ [])) name o (λ x. text_labels (c ∷ []) x h) k
name_is (c ∷ d ∷ text) origin name h o e = completed_is origin (labels_of (c ∷ d ∷ text)) name o (λ x. text_labels (c ∷ d ∷ text) x h) e
