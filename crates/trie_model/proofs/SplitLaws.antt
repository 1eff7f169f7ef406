-- Twigs cut at a position: what each side is, holds and where it lies.
use Rattle.std.proofs.Common.{◌≡◌, ℕ, suc, ◌+◌, ◌/◌, ◌%◌, ◌^◌, ◌<◌, ◌≤◌, ◌⊎◌, Bool, List, ◌++◌, append_assoc, count_ones, arith, inl, inr, refl, sym, ◌∙◌, ap, subst}
use Rattle.std.proofs.lemmas.Bool.{cases_lt}
use Rattle.packed_node.specs.declared.Cell.{Cell}
use Rattle.trie_model.proofs.BitmapLaws.{Rising, Cut, cut_at, index_of, set_bit, clear_bit}
use Rattle.trie_model.proofs.KeyLaws.{in_both}
use Rattle.trie_model.specs.Keys.{at, Entry, InList}
use Rattle.trie_model.specs.Memory.{Lie}
use Rattle.trie_model.specs.Reach.{Within}
use Rattle.trie_model.specs.Trees.{Tree, Twigs, entries_of, entries, count, bitmap_of, AreTwigs, beside}
use Rattle.trie_model.specs.Trees.Twigs.{none, twig}

-- the position has a twig
pub record Found (lo hi p : ℕ) (ts : Twigs) : Type 0 where
  pub left : Twigs
  pub here : Tree
  pub rest : Twigs
  pub is : ts ≡ beside left (twig p here rest)
  pub inside : p < hi
  pub lower : Rising lo p left
  pub upper : Rising (suc p) hi rest
  pub index : count_ones (bitmap_of ts % 2 ^ p) ≡ count left
  pub bit : (bitmap_of ts / 2 ^ p) % 2 ≡ 1

-- it has none
pub record Missing (lo hi p : ℕ) (ts : Twigs) : Type 0 where
  pub left : Twigs
  pub right : Twigs
  pub is : ts ≡ beside left right
  pub inside : p < hi
  pub lower : Rising lo p left
  pub upper : Rising (suc p) hi right
  pub index : count_ones (bitmap_of ts % 2 ^ p) ≡ count left
  pub bit : (bitmap_of ts / 2 ^ p) % 2 ≡ 0

pub look : (lo hi p : ℕ) (ts : Twigs) → lo ≤ p → p < hi → Rising lo hi ts → Found lo hi p ts ⊎ Missing lo hi p ts
look lo hi p ts a b r = go (cut_at lo hi p ts a (omega arith) r) (cut_at lo hi p ts a (omega arith) r).right refl
  where
    absent : (c : Cut lo hi p ts) → Rising (suc p) hi c.right → Missing lo hi p ts
    absent c up = record { left = c.left; right = c.right; is = c.is; inside = b; lower = c.lower; upper = up; index = index_of lo hi p ts c; bit = clear_bit lo hi p ts c up }

    higher : (c : Cut lo hi p ts) (q : ℕ) (t : Tree) (rest : Twigs) → c.right ≡ twig q t rest → p < q → Missing lo hi p ts
    higher c q t rest e l = absent c (subst (Rising (suc p) hi) (sym e) (let up : Rising p hi (twig q t rest) = subst (Rising p hi) e c.upper in (l, up.1, up.2)))

    same : (c : Cut lo hi p ts) (q : ℕ) (t : Tree) (rest : Twigs) → c.right ≡ twig q t rest → q ≡ p → Found lo hi p ts
    same c q t rest e f =
        let g : c.right ≡ twig p t rest = e ∙ ap (λ (n : ℕ). twig n t rest) f in
        let up : Rising p hi (twig p t rest) = subst (Rising p hi) g c.upper in
        record { left = c.left; here = t; rest = rest; is = c.is ∙ ap (beside c.left) g; inside = b; lower = c.lower; upper = up.2; index = index_of lo hi p ts c; bit = set_bit lo hi p ts c t rest g }

    place : (c : Cut lo hi p ts) (q : ℕ) (t : Tree) (rest : Twigs) → c.right ≡ twig q t rest → (p < q) ⊎ (q ≤ p) → Found lo hi p ts ⊎ Missing lo hi p ts
    place c q t rest e (inl l) = inr (higher c q t rest e l)
    place c q t rest e (inr l) = inl (same c q t rest e (let up : Rising p hi (twig q t rest) = subst (Rising p hi) e c.upper in let up0 = up.0 in omega arith))

    go : (c : Cut lo hi p ts) (s : Twigs) → c.right ≡ s → Found lo hi p ts ⊎ Missing lo hi p ts
    go c none e = inr (absent c (subst (Rising (suc p) hi) (sym e) (let l : suc p ≤ hi = omega arith in l)))
    go c (twig q t rest) e = place c q t rest e (cases_lt p q)

pub found_of : (lo hi p : ℕ) (ts : Twigs) → lo ≤ p → p < hi → Rising lo hi ts → (bitmap_of ts / 2 ^ p) % 2 ≡ 1 → Found lo hi p ts
found_of lo hi p ts a b r bit = elim (look lo hi p ts a b r) [ inl f ↦ f | inr m ↦ let k = m.bit in absurd (omega arith) ]

pub missing_of : (lo hi p : ℕ) (ts : Twigs) → lo ≤ p → p < hi → Rising lo hi ts → ((bitmap_of ts / 2 ^ p) % 2 ≡ 1 → ⊥) → Missing lo hi p ts
missing_of lo hi p ts a b r bit = elim (look lo hi p ts a b r) [ inl f ↦ absurd (bit f.bit) | inr m ↦ m ]

pub rising_of : (o lo : ℕ) (ts : Twigs) → lo ≤ 47 → AreTwigs o lo ts → Rising lo 47 ts
rising_of o lo none l a = l
rising_of o lo (twig p t rest) l a = (a.0, a.1, rising_of o (suc p) rest (let b = a.1 in omega arith) a.4)

pub entries-beside : (l s : Twigs) → entries (beside l s) ≡ entries l ++ entries s
entries-beside none s = refl
entries-beside (twig p t rest) s = ap (λ (es : List Entry). entries_of t ++ es) (entries-beside rest s) ∙ sym (append_assoc (entries_of t) (entries rest) (entries s))

pub lie_left : (has : ℕ → Cell → Type 0) (r : ℕ) (l s : Twigs) → Lie has r (beside l s) → Lie has r l
lie_left has r none s h = tt
lie_left has r (twig p t rest) s h = (h.0, h.1, lie_left has (suc r) rest s h.2)

pub lie_right : (has : ℕ → Cell → Type 0) (r : ℕ) (l s : Twigs) → Lie has r (beside l s) → Lie has (r + count l) s
lie_right has r none s h = let e : r ≡ r + 0 = omega arith in subst (λ (n : ℕ). Lie has n s) e h
lie_right has r (twig p t rest) s h = let e : suc r + count rest ≡ r + suc (count rest) = omega arith in subst (λ (n : ℕ). Lie has n s) e (lie_right has (suc r) rest s h.2)

pub lie_join : (has : ℕ → Cell → Type 0) (r : ℕ) (l s : Twigs) → Lie has r l → Lie has (r + count l) s → Lie has r (beside l s)
lie_join has r none s a b = let e : r + 0 ≡ r = omega arith in subst (λ (n : ℕ). Lie has n s) e b
lie_join has r (twig p t rest) s a b = (a.0, a.1, lie_join has (suc r) rest s a.2 (let e : r + suc (count rest) ≡ suc r + count rest = omega arith in subst (λ (n : ℕ). Lie has n s) e b))

pub within_left : (P : ℕ → Bool) (r : ℕ) (l s : Twigs) → Within P r (beside l s) → Within P r l
within_left P r none s h = tt
within_left P r (twig p t rest) s h = (h.0, h.1, within_left P (suc r) rest s h.2)

pub within_right : (P : ℕ → Bool) (r : ℕ) (l s : Twigs) → Within P r (beside l s) → Within P (r + count l) s
within_right P r none s h = let e : r ≡ r + 0 = omega arith in subst (λ (n : ℕ). Within P n s) e h
within_right P r (twig p t rest) s h = let e : suc r + count rest ≡ r + suc (count rest) = omega arith in subst (λ (n : ℕ). Within P n s) e (within_right P (suc r) rest s h.2)

pub within_join : (P : ℕ → Bool) (r : ℕ) (l s : Twigs) → Within P r l → Within P (r + count l) s → Within P r (beside l s)
within_join P r none s a b = let e : r + 0 ≡ r = omega arith in subst (λ (n : ℕ). Within P n s) e b
within_join P r (twig p t rest) s a b = (a.0, a.1, within_join P (suc r) rest s a.2 (let e : r + suc (count rest) ≡ suc r + count rest = omega arith in subst (λ (n : ℕ). Within P n s) e b))

pub twigs_left : (o lo : ℕ) (l s : Twigs) → AreTwigs o lo (beside l s) → AreTwigs o lo l
twigs_left o lo none s a = tt
twigs_left o lo (twig p t rest) s a = (a.0, a.1, a.2, a.3, twigs_left o (suc p) rest s a.4)

raised : (o lo p hi : ℕ) (s : Twigs) → AreTwigs o lo s → Rising p hi s → AreTwigs o p s
raised o lo p hi none a r = tt
raised o lo p hi (twig q t rest) a r = (r.0, a.1, a.2, a.3, a.4)

pub twigs_right : (o lo p hi : ℕ) (l s : Twigs) → AreTwigs o lo (beside l s) → Rising p hi s → AreTwigs o p s
twigs_right o lo p hi none s a r = raised o lo p hi s a r
twigs_right o lo p hi (twig q t rest) s a r = twigs_right o (suc q) p hi rest s a.4 r

lowered : (o lo p : ℕ) (s : Twigs) → AreTwigs o p s → lo ≤ p → AreTwigs o lo s
lowered o lo p none a l = tt
lowered o lo p (twig q t rest) a l = (let b = a.0 in omega arith, a.1, a.2, a.3, a.4)

pub twigs_join : (o lo p : ℕ) (l s : Twigs) → AreTwigs o lo l → Rising lo p l → AreTwigs o p s → AreTwigs o lo (beside l s)
twigs_join o lo p none s a r b = lowered o lo p s b r
twigs_join o lo p (twig q t rest) s a r b = (a.0, a.1, a.2, a.3, twigs_join o (suc q) p rest s a.4 r.2 b)

-- the keys on each side of a position
pub keys_lower : (o lo p : ℕ) (l : Twigs) → AreTwigs o lo l → Rising lo p l → (e : Entry) → InList e (entries l) → at e.key o < p
keys_lower o lo p none a r e h = absurd h
keys_lower o lo p (twig q t rest) a r e h =
    elim (in_both e (entries_of t) (entries rest) h) [ inl x ↦ (let k = a.2 e x in let m = r.1 in omega arith) | inr y ↦ keys_lower o (suc q) p rest a.4 r.2 e y ]

pub keys_upper : (o lo p hi : ℕ) (s : Twigs) → AreTwigs o lo s → Rising p hi s → (e : Entry) → InList e (entries s) → p ≤ at e.key o
keys_upper o lo p hi none a r e h = absurd h
keys_upper o lo p hi (twig q t rest) a r e h =
    elim (in_both e (entries_of t) (entries rest) h) [ inl x ↦ (let k = a.2 e x in let m = r.0 in omega arith) | inr y ↦ (let k = keys_upper o (suc q) (suc q) hi rest a.4 r.2 e y in let m = r.0 in omega arith) ]

-- an entry whose key has the position is in its twig
pub in_found : (o p : ℕ) (ts : Twigs) → AreTwigs o 0 ts → (f : Found 0 47 p ts) (e : Entry) → InList e (entries ts) → at e.key o ≡ p → InList e (entries_of f.here)
in_found o p ts a f e h k = first (in_both e (entries f.left) (entries (twig p f.here f.rest)) (subst (InList e) (ap entries f.is ∙ entries-beside f.left (twig p f.here f.rest)) h))
  where
    whole : AreTwigs o 0 (beside f.left (twig p f.here f.rest))
    whole = subst (AreTwigs o 0) f.is a

    right : AreTwigs o (suc p) f.rest
    right = (twigs_right o 0 0 47 f.left (twig p f.here f.rest) whole (let z : 0 ≤ p = omega arith in let t = f.inside in (z, t, f.upper))).4

    second : InList e (entries_of f.here) ⊎ InList e (entries f.rest) → InList e (entries_of f.here)
    second (inl x) = x
    second (inr x) = let u : suc p ≤ at e.key o = keys_upper o (suc p) (suc p) 47 f.rest right f.upper e x in absurd (omega arith)

    first : InList e (entries f.left) ⊎ InList e (entries (twig p f.here f.rest)) → InList e (entries_of f.here)
    first (inl x) = let l = keys_lower o 0 p f.left (twigs_left o 0 f.left (twig p f.here f.rest) whole) f.lower e x in absurd (omega arith)
    first (inr x) = second (in_both e (entries_of f.here) (entries f.rest) x)

-- no entry has a missing position
pub not_missing : (o p : ℕ) (ts : Twigs) → AreTwigs o 0 ts → (m : Missing 0 47 p ts) (e : Entry) → InList e (entries ts) → at e.key o ≡ p → ⊥
not_missing o p ts a m e h k = go (in_both e (entries m.left) (entries m.right) (subst (InList e) (ap entries m.is ∙ entries-beside m.left m.right) h))
  where
    whole : AreTwigs o 0 (beside m.left m.right)
    whole = subst (AreTwigs o 0) m.is a

    go : InList e (entries m.left) ⊎ InList e (entries m.right) → ⊥
    go (inl x) = let l = keys_lower o 0 p m.left (twigs_left o 0 m.left m.right whole) m.lower e x in omega arith
    go (inr x) = let u : suc p ≤ at e.key o = keys_upper o (suc p) (suc p) 47 m.right (twigs_right o 0 (suc p) 47 m.left m.right whole m.upper) m.upper e x in omega arith
