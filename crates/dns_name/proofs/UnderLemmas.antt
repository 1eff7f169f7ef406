-- A name is under another where it goes on with the same bytes as that from some label on.
use Rattle.std.proofs.Common.{◌≡◌, ℕ, ◌<◌, ◌≤◌, Bool, true, false, ◌||◌, List, [], ◌∷◌, ◌++◌, length, sym, ap, ◌∙◌, subst, refl, arith, length-append, Some, None, Bor}
use Rattle.std.proofs.lemmas.Slice.Eq.{bytes_eq-Decides}
use Rattle.std.specs.Str.{bytes_eq}
use Rattle.zone_model.specs.Names.{wire, same_name, is_under}
use Rattle.zone_model.proofs.NameLemmas.{same_name-true}
use Rattle.zone_model.proofs.OrderLemmas.{ends_under, under_ends}
use Rattle.dns_name.specs.Spelling.{Spells, IsFirst}
use Rattle.dns_name.proofs.BodyLemmas.{body, wire-append}
use Rattle.dns_name.proofs.WireLemmas.{spelled_once, stepped, ended}

-- names of other lengths are others
unlike : (x y : List (List ℕ)) → (length (wire x) ≡ length (wire y) → ⊥) → same_name x y ≡ false
unlike x y n = by_test (same_name x y) refl
  where
    by_test : (b : Bool) → same_name x y ≡ b → b ≡ false
    by_test true e = absurd (n (ap (λ (z : List (List ℕ)). length (wire z)) (same_name-true x y e)))
    by_test false e = refl

not_under : (x y : List (List ℕ)) → length (wire x) < length (wire y) → is_under x y ≡ false
not_under [] y h = unlike [] y (λ e. omega arith)
not_under (l ∷ ls) y h =
    let lt : length (wire ls) < length (wire y) = omega (arith, length-append l (wire ls)) in
    rw (unlike (l ∷ ls) y (λ e. omega arith)) (not_under ls y lt)

-- what is known where some labels were passed
pub record Passed (a : List ℕ) (rest : List ℕ) (b : List ℕ) : Type 0 where
  pub all : List (List ℕ)
  pub left : List (List ℕ)
  pub is_all : Spells a all
  pub is_left : Spells rest left
  pub same : (y : List (List ℕ)) → Spells b y → is_under all y ≡ is_under left y

pub passed_more : (a rest b : List ℕ) (x : Bor (List ℕ) × Bor (List ℕ)) (p : Passed a rest b) → length b < length rest → IsFirst p.left (Some x) → Passed a x.1.now b
passed_more a rest b x p lt f =
    let s = stepped rest p.left x p.is_left f in
    record {
      all = p.all;
      left = s.labels;
      is_all = p.is_all;
      is_left = s.spells;
      same = λ y k.
          let longer : length (wire p.left) ≡ length (wire y) → ⊥ = λ e. omega (arith, ap length p.is_left.same, ap length k.same) in
          let other : same_name (x.0.now ∷ s.labels) y ≡ false = subst (λ (z : List (List ℕ)). same_name z y ≡ false) s.is (unlike p.left y longer) in
          p.same y k ∙ ap (λ (z : List (List ℕ)). is_under z y) s.is ∙ ap (λ (t : Bool). t || is_under s.labels y) other;
    }

-- the root is no longer than any name
pub passed_none : {X : Type 0} (a rest b : List ℕ) (p : Passed a rest b) → (y : List (List ℕ)) → Spells b y → length b < length rest → IsFirst p.left None → X
passed_none a rest b p [] k lt f =
    let none = ap (λ (z : List (List ℕ)). length (wire z)) (ended rest p.left p.is_left f) in
    absurd (omega (arith, ap length p.is_left.same, ap length k.same))
passed_none a rest b p (l ∷ ls) k lt f =
    let none = ap (λ (z : List (List ℕ)). length (wire z)) (ended rest p.left p.is_left f) in
    absurd (omega (arith, ap length p.is_left.same, ap length k.same))

-- at the end the bytes decide
pub passed_end : (a rest b : List ℕ) (p : Passed a rest b) → length rest ≤ length b → (x y : List (List ℕ)) → Spells a x → Spells b y → bytes_eq rest b ≡ is_under x y
passed_end a rest b p le x y hx hy =
    by_test (bytes_eq rest b) refl ∙ sym (p.same y hy) ∙ ap (λ (z : List (List ℕ)). is_under z y) (spelled_once a p.all x p.is_all hx)
  where
    by_test : (t : Bool) → bytes_eq rest b ≡ t → t ≡ is_under p.left y
    by_test true e =
        let same : rest ≡ b = (bytes_eq-Decides rest b).0 e in
        let one : p.left ≡ y = spelled_once rest p.left y p.is_left (subst (λ (z : List ℕ). Spells z y) (sym same) hy) in
        sym (ap (λ (z : List (List ℕ)). is_under z y) one ∙ ends_under [] y)
    by_test false e = sym (by_under (is_under p.left y) refl)
      where
        alone : (front : List (List ℕ)) → p.left ≡ front ++ y → rest ≡ b
        alone [] k = p.is_left.same ∙ ap wire k ∙ sym hy.same
        alone (l ∷ ls) k =
            let long = ap (λ (z : List (List ℕ)). length (wire z)) k in
            absurd (omega (arith, long, ap length (wire-append (l ∷ ls) y), length-append (body (l ∷ ls)) (wire y), ap length p.is_left.same, ap length hy.same))

        by_under : (u : Bool) → is_under p.left y ≡ u → u ≡ false
        by_under true h =
            let f = under_ends p.left y h in
            let k : bytes_eq rest b ≡ true = (bytes_eq-Decides rest b).1 (alone f.0 f.1) in
            absurd cc
        by_under false h = refl
