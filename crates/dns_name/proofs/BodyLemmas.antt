-- The octets of labels.
use Rattle.std.proofs.Common.{◌≡◌, ℕ, ◌+◌, ◌<◌, List, [], ◌∷◌, ◌++◌, length, sym, ap, ◌∙◌, refl, arith, append_assoc, append-nil, length-append}
use Rattle.std.specs.List.{AllByRecursion}
use Rattle.zone_model.specs.Names.{wire}
pub use Rattle.dns_name.specs.Spelling.{body}

pub wire-append : (a b : List (List ℕ)) → wire (a ++ b) ≡ body a ++ wire b
wire-append [] b = refl
wire-append (l ∷ ls) b = ap (λ (t : List ℕ). length l ∷ (l ++ t)) (wire-append ls b) ∙ ap (λ (t : List ℕ). length l ∷ t) (sym (append_assoc l (body ls) (wire b)))

pub wire-body : (a : List (List ℕ)) → wire a ≡ body a ++ 0 ∷ []
wire-body a = ap wire (sym (append-nil a)) ∙ wire-append a []

pub wire_positive : (name : List (List ℕ)) → 0 < length (wire name)
wire_positive [] = omega arith
wire_positive (l ∷ ls) = omega arith

pub length-wire : (a : List (List ℕ)) → length (wire a) ≡ length (body a) + 1
length-wire a = omega (arith, ap length (wire-body a), length-append (body a) (0 ∷ []))

pub body-push : (a : List (List ℕ)) (label : List ℕ) → body (a ++ label ∷ []) ≡ body a ++ (length label ∷ label)
body-push [] label = ap (λ (t : List ℕ). length label ∷ t) (append-nil label)
body-push (l ∷ ls) label = ap (λ (t : List ℕ). length l ∷ (l ++ t)) (body-push ls label) ∙ ap (λ (t : List ℕ). length l ∷ t) (sym (append_assoc l (body ls) (length label ∷ label)))

pub length-body-push : (a : List (List ℕ)) (label : List ℕ) → length (body (a ++ label ∷ [])) ≡ length (body a) + (length label + 1)
length-body-push a label = omega (arith, ap length (body-push a label), length-append (body a) (length label ∷ label))

pub body-append : (a b : List (List ℕ)) → body (a ++ b) ≡ body a ++ body b
body-append [] b = refl
body-append (l ∷ ls) b = ap (λ (t : List ℕ). length l ∷ (l ++ t)) (body-append ls b) ∙ ap (λ (t : List ℕ). length l ∷ t) (sym (append_assoc l (body ls) (body b)))

pub all_push : {X : Type 0} (P : X → Type 0) (xs : List X) (x : X) → AllByRecursion P xs → P x → AllByRecursion P (xs ++ x ∷ [])
all_push P [] x h p = (p, tt)
all_push P (y ∷ ys) x h p = (h.0, all_push P ys x h.1 p)

pub all_append : {X : Type 0} (P : X → Type 0) (xs ys : List X) → AllByRecursion P xs → AllByRecursion P ys → AllByRecursion P (xs ++ ys)
all_append P [] ys h k = k
all_append P (x ∷ xs) ys h k = (h.0, all_append P xs ys h.1 k)
