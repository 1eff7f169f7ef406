-- Texts are cut where an octet first stands.
use Rattle.std.proofs.Common.{◌≡◌, ◌∙◌, ℕ, ◌<◌, Bool, true, false, not, eqb, List, [], ◌∷◌, ◌++◌, get_or, drop, refl, sym, ap, ap₂, arith}
use Rattle.std.proofs.lemmas.Bool.Decides.{nat_tests}
use Rattle.std.proofs.lemmas.Bool.{and_from, and_parts}
use Rattle.std.specs.List.{list_all, flat_map}

-- ---- texts without an octet

abbrev pub other_than : ℕ → ℕ → Bool
other_than stop c = not (eqb c stop)

abbrev pub Free : ℕ → List ℕ → Type 0
Free stop text = list_all (other_than stop) text ≡ true

first_free : (stop c : ℕ) (text : List ℕ) → Free stop (c ∷ text) → other_than stop c ≡ true
first_free stop c text f = (and_parts (other_than stop c) (list_all (other_than stop) text) f).0

rest_free : (stop c : ℕ) (text : List ℕ) → Free stop (c ∷ text) → Free stop text
rest_free stop c text f = (and_parts (other_than stop c) (list_all (other_than stop) text) f).1

pub free_append : (stop : ℕ) (a b : List ℕ) → Free stop a → Free stop b → Free stop (a ++ b)
free_append stop [] b f g = g
free_append stop (c ∷ a) b f g = and_from (other_than stop c) (list_all (other_than stop) (a ++ b)) (first_free stop c a f) (free_append stop a b (rest_free stop c a f) g)

above : (stop c : ℕ) → stop < c → other_than stop c ≡ true
above stop c h = grind (arith, nat_tests)

-- in front stands an octet that is greater
pub free_above : (stop c : ℕ) (text : List ℕ) → stop < c → Free stop text → Free stop (c ∷ text)
free_above stop c text h f = and_from (other_than stop c) (list_all (other_than stop) text) (above stop c h) f

pub free_map : {A : Type 0} (stop : ℕ) (f : A → List ℕ) → ((a : A) → Free stop (f a)) → (xs : List A) → Free stop (flat_map f xs)
free_map stop f each [] = refl
free_map stop f each (x ∷ xs) = free_append stop (f x) (flat_map f xs) (each x) (free_map stop f each xs)

-- ---- the first place of an octet

-- the text is over, or begins with the octet
abbrev pub stands : ℕ → List ℕ → Bool
stands stop [] = true
stands stop (c ∷ text) = eqb c stop

not_both : (b : Bool) → not b ≡ true → b ≡ true → ⊥
not_both true n e = absurd cc
not_both false n e = absurd cc

goes_on : (stop : ℕ) (text : List ℕ) (c : ℕ) (b y : List ℕ) → stands stop text ≡ true → Free stop (c ∷ b) → text ≡ c ∷ y → ⊥
goes_on stop [] c b y s f e = absurd cc
goes_on stop (d ∷ text) c b y s f e =
    let same : d ≡ c = ap (λ (l : List ℕ). get_or l 0 0) e in
    not_both (eqb c stop) (first_free stop c b f) (ap (λ (x : ℕ). eqb x stop) (sym same) ∙ s)

-- what stands before the first place of an octet, and what from there on, is told
pub cut : (stop : ℕ) (a b x y : List ℕ) → Free stop a → Free stop b → stands stop x ≡ true → stands stop y ≡ true → a ++ x ≡ b ++ y → (a ≡ b) × (x ≡ y)
cut stop [] [] x y f g s t e = (refl, e)
cut stop [] (c ∷ b) x y f g s t e = absurd (goes_on stop x c b (b ++ y) s g e)
cut stop (c ∷ a) [] x y f g s t e = absurd (goes_on stop y c a (a ++ x) t f (sym e))
cut stop (c ∷ a) (d ∷ b) x y f g s t e =
    let heads : c ≡ d = ap (λ (l : List ℕ). get_or l 0 0) e in
    let more = cut stop a b x y (rest_free stop c a f) (rest_free stop d b g) s t (ap (drop 1) e) in
    (ap₂ (λ (h : ℕ) (l : List ℕ). h ∷ l) heads more.0, more.1)
