-- Lines, and how many octets they have.
use Rattle.std.proofs.Common.{◌≡◌, ◌∙◌, ℕ, ◌<◌, ◌≤◌, ◌^◌, Bool, true, false, cond, eqb, List, [], ◌∷◌, ◌++◌, length, drop, refl, sym, ap, subst, arith, append_assoc, length-append, codes, eqb-true}
use Rattle.std.proofs.lemmas.Fmt.{decimal_injective}
use Rattle.std.specs.List.{flat_map}
use Rattle.std.specs.Fmt.{decimal}
use Rattle.job_model.specs.Replies.{count_text}
use Rattle.report_laws.proofs.CutLemmas.{Free, free_append, stands, cut}
use Rattle.report_laws.proofs.TextLemmas.{decimal_free}

-- a text whose last octet is a line feed, and no other one
pub record IsLine (text : List ℕ) : Type 0 where
  pub front : List ℕ
  pub free : Free 10 front
  pub is : text ≡ front ++ 10 ∷ []

pub line : (front : List ℕ) → Free 10 front → IsLine (front ++ 10 ∷ [])
line front f = record { front = front; free = f; is = refl }

-- a line, and what is behind it, is told
pub line_cut : (a b x y : List ℕ) → IsLine a → IsLine b → a ++ x ≡ b ++ y → (a ≡ b) × (x ≡ y)
line_cut a b x y l m e =
    let parts = cut 10 l.front m.front (10 ∷ x) (10 ∷ y) l.free m.free refl refl
    (sym (append_assoc l.front (10 ∷ []) x) ∙ ap (λ (z : List ℕ). z ++ x) (sym l.is) ∙ e ∙ ap (λ (z : List ℕ). z ++ y) m.is ∙ append_assoc m.front (10 ∷ []) y) in
    (l.is ∙ ap (λ (z : List ℕ). z ++ 10 ∷ []) parts.0 ∙ sym m.is, ap (drop 1) parts.1)

-- what is behind as many lines is told
pub lines_cut : {A : Type 0} (f : A → List ℕ) → ((a : A) → IsLine (f a)) → (xs ys : List A) (s t : List ℕ) → length xs ≡ length ys → flat_map f xs ++ s ≡ flat_map f ys ++ t → s ≡ t
lines_cut f each [] [] s t n e = e
lines_cut f each [] (y ∷ ys) s t n e = absurd (omega arith)
lines_cut f each (x ∷ xs) [] s t n e = absurd (omega arith)
lines_cut f each (x ∷ xs) (y ∷ ys) s t n e =
    lines_cut f each xs ys s t (omega arith)
    (line_cut (f x) (f y) (flat_map f xs ++ s) (flat_map f ys ++ t) (each x) (each y) (sym (append_assoc (f x) (flat_map f xs) s) ∙ e ∙ append_assoc (f y) (flat_map f ys) t)).1

line_some : (text : List ℕ) → IsLine text → 0 < length text
line_some text l = subst (λ (t : List ℕ). 0 < length t) (sym l.is) (omega (arith, length-append l.front (10 ∷ [])))

pub lines_some : {A : Type 0} (f : A → List ℕ) → ((a : A) → IsLine (f a)) → (xs : List A) → length xs ≤ length (flat_map f xs)
lines_some f each [] = omega arith
lines_some f each (x ∷ xs) =
    let some = line_some (f x) (each x) in
    let more = lines_some f each xs in
    omega (arith, some, more, length-append (f x) (flat_map f xs))

-- ---- counts

count_stands : (n : ℕ) → stands 32 (count_text n) ≡ true
count_stands n = by_test (eqb n 0)
  where
    by_test : (b : Bool) → stands 32 (cond b [] (codes " " ++ decimal n)) ≡ true
    by_test true = refl
    by_test false = refl

count_free : (n : ℕ) → Free 10 (count_text n)
count_free n = by_test (eqb n 0)
  where
    by_test : (b : Bool) → Free 10 (cond b [] (codes " " ++ decimal n))
    by_test true = refl
    by_test false = free_append 10 (codes " ") (decimal n) refl (decimal_free 10 n (omega arith))

-- a count of 64 bits is told by its text
count_same : (m n : ℕ) → m < 2 ^ 64 → n < 2 ^ 64 → count_text m ≡ count_text n → m ≡ n
count_same m n h k e = by_tests (eqb m 0) (eqb n 0) refl refl e
  where
    by_tests : (a b : Bool) → eqb m 0 ≡ a → eqb n 0 ≡ b → cond a [] (codes " " ++ decimal m) ≡ cond b [] (codes " " ++ decimal n) → m ≡ n
    by_tests true true p q e = eqb-true m 0 p ∙ sym (eqb-true n 0 q)
    by_tests true false p q e = absurd cc
    by_tests false true p q e = absurd cc
    by_tests false false p q e = decimal_injective m n h k (ap (drop 1) e)

-- ---- a word, a count, and as many lines

-- a text in one line without a space
pub record IsWord (text : List ℕ) : Type 0 where
  pub in_line : Free 10 text
  pub in_one : Free 32 text

spread : (first lines rest : List ℕ) → (first ++ 10 ∷ [] ++ lines) ++ rest ≡ first ++ 10 ∷ (lines ++ rest)
spread first lines rest = append_assoc (first ++ 10 ∷ []) lines rest ∙ append_assoc first (10 ∷ []) (lines ++ rest)

shorter : (first lines rest : List ℕ) → length lines ≤ length ((first ++ 10 ∷ [] ++ lines) ++ rest)
shorter first lines rest = omega (arith, length-append (first ++ 10 ∷ [] ++ lines) rest, length-append (first ++ 10 ∷ []) lines)

-- What is behind is told, as long as all has fewer octets than 64 bits count.
pub counted_cut : {A : Type 0} (f : A → List ℕ) → ((a : A) → IsLine (f a)) → (v w : List ℕ) → IsWord v → IsWord w → (xs ys : List A) (s t : List ℕ)
    → length ((v ++ count_text (length xs) ++ codes "\n" ++ flat_map f xs) ++ s) < 2 ^ 64
    → (v ++ count_text (length xs) ++ codes "\n" ++ flat_map f xs) ++ s ≡ (w ++ count_text (length ys) ++ codes "\n" ++ flat_map f ys) ++ t → s ≡ t
counted_cut f each v w is_v is_w xs ys s t small e =
    let few : length xs < 2 ^ 64 = omega (arith, small, shorter (v ++ count_text (length xs)) (flat_map f xs) s, lines_some f each xs) in
    let alike = ap (λ (l : List ℕ). length l) e in
    let few_too : length ys < 2 ^ 64 = omega (arith, small, alike, shorter (w ++ count_text (length ys)) (flat_map f ys) t, lines_some f each ys) in
    let first = cut 10 (v ++ count_text (length xs)) (w ++ count_text (length ys)) (10 ∷ (flat_map f xs ++ s)) (10 ∷ (flat_map f ys ++ t))
    (free_append 10 v (count_text (length xs)) is_v.in_line (count_free (length xs))) (free_append 10 w (count_text (length ys)) is_w.in_line (count_free (length ys))) refl refl
    (sym (spread (v ++ count_text (length xs)) (flat_map f xs) s) ∙ e ∙ spread (w ++ count_text (length ys)) (flat_map f ys) t) in
    let word = cut 32 v w (count_text (length xs)) (count_text (length ys)) is_v.in_one is_w.in_one (count_stands (length xs)) (count_stands (length ys)) first.0 in
    lines_cut f each xs ys s t (count_same (length xs) (length ys) few few_too word.1) (ap (drop 1) first.1)
