-- Laws of keys and of lists of entries.
use Rattle.std.proofs.Common.{◌≡◌, ℕ, zero, suc, ◌-◌, ◌<◌, ◌≤◌, ◌⊎◌, List, [], ◌∷◌, ◌++◌, length, arith, inl, inr, refl, sym, subst, ◌∙◌, ext_get_or}
use Rattle.std.proofs.lemmas.Bool.{cases_lt}
use Rattle.std.proofs.lemmas.List.{get_or_past}
use Rattle.trie_model.specs.Keys.{at, Same, IsKey, Entry, InList}

pub in_left : (e : Entry) (xs ys : List Entry) → InList e xs → InList e (xs ++ ys)
in_left e [] ys h = absurd h
in_left e (x ∷ xs) ys (inl h) = inl h
in_left e (x ∷ xs) ys (inr h) = inr (in_left e xs ys h)

pub in_right : (e : Entry) (xs ys : List Entry) → InList e ys → InList e (xs ++ ys)
in_right e [] ys h = h
in_right e (x ∷ xs) ys h = inr (in_right e xs ys h)

pub in_both : (e : Entry) (xs ys : List Entry) → InList e (xs ++ ys) → InList e xs ⊎ InList e ys
in_both e [] ys h = inr h
in_both e (x ∷ xs) ys (inl h) = inl (inl h)
in_both e (x ∷ xs) ys (inr h) = elim (in_both e xs ys h) [ inl a ↦ inl (inr a) | inr b ↦ inr b ]

-- a key that is longer than another has a position there that the other lacks
longer : (a b : List ℕ) → IsKey a → IsKey b → ((i : ℕ) → at a i ≡ at b i) → length a < length b → ⊥
longer a b ka kb same l =
    let n : suc (length b - 1) ≡ length b = omega arith in
    let f = kb.full (length b - 1) (omega arith) (kb.ended (length b - 1) n) in
    let read = same f.0 in
    let there = f.2 in
    let place = f.1 in
    elim (cases_lt f.0 (length a)) [
      | inl m ↦ (let whole : suc f.0 ≡ length a = omega arith in let end = ka.ended f.0 whole in omega arith)
      | inr m ↦ (let past = get_or_past a f.0 0 m in omega arith)
    ]

-- keys that read alike are alike
pub same_key : (a b : List ℕ) → IsKey a → IsKey b → ((i : ℕ) → at a i ≡ at b i) → a ≡ b
same_key a b ka kb same = elim (cases_lt (length a) (length b)) [
  | inl l ↦ absurd (longer a b ka kb same l)
  | inr g ↦ elim (cases_lt (length b) (length a)) [ inl l ↦ absurd (longer b a kb ka (λ i. sym (same i)) l) | inr k ↦ ext_get_or 0 a b (omega arith) (λ i l. same i) ]
]

-- a key that ends before a branch's offset is not below it: each key there would end with it, and two differ
shorter : (o : ℕ) (k y : List ℕ) → IsKey k → IsKey y → Same o y k → length k < o → (n : ℕ) → length k ≡ n → length y ≤ length k
shorter o k y kk ky same l zero e = elim (cases_lt (length k) (length y)) [
  | inl m ↦ (let first = ky.full 0 (omega arith) (same 0 (omega arith) ∙ get_or_past k 0 0 (omega arith)) in let f = first.1 in absurd (omega arith))
  | inr g ↦ g
]
shorter o k y kk ky same l (suc n) e = elim (cases_lt (length k) (length y)) [
  | inl m ↦ (
      let past = same (length k) l ∙ get_or_past k (length k) 0 (omega arith) in
      let label = ky.full (length k) m past in
      let place : label.0 ≡ n = let f = label.1 in omega arith in
      let end = same n (omega arith) ∙ kk.ended n (sym e) in
      let more = subst (λ (i : ℕ). 0 < at y i) place label.2 in absurd (omega arith)
      )
  | inr g ↦ g
]

pub past_end : (o : ℕ) (k y : List ℕ) → IsKey k → IsKey y → Same o y k → length k < o → at y o ≡ at k o
past_end o k y kk ky same l =
    let s = shorter o k y kk ky same l (length k) refl in
    get_or_past y o 0 (omega arith) ∙ sym (get_or_past k o 0 (omega arith))
