-- The first label of a wire form.
use Rattle.std.proofs.Common.{◌≡◌, ℕ, ◌+◌, ◌-◌, ◌<◌, ◌≤◌, List, [], ◌∷◌, ◌++◌, length, take, drop, get_or, sym, ap, ◌∙◌, subst, refl, arith, length-append, length-take, length-drop, Some, None, Bor, append-nil, reverse, zero, suc, take-append-drop, min, inl, inr, lit<}
use Rattle.std.proofs.lemmas.Bool.{cases_lt}
use Rattle.std.proofs.lemmas.List.{nil_from_length, length-reverse, reverse-append, drop-drop}
use Rattle.std.proofs.lemmas.Bool.Decides.{nat_tests}
use Rattle.std.specs.declared.cmp.Ordering.{Ordering}
use Rattle.std.specs.declared.cmp.Ordering.TheVariants.{Less, Equal, Greater}
use Rattle.std.specs.Ordering.{ordering_then, nat_cmp}
use Rattle.std.specs.Cmp.Lexicographic.{slice_cmp}
use Rattle.zone_model.specs.Names.{wire, IsName, labels_in, name_cmp, star_under}
use Rattle.dns_name.specs.Inside.{labels_in-wire, length_le-wire}
use Rattle.dns_name.specs.Spelling.{Spells, IsFirst}

pub wire_some : (bytes : List ℕ) (labels : List (List ℕ)) → Spells bytes labels → 0 < length bytes
wire_some bytes [] h = omega (arith, ap length h.same)
wire_some bytes (l ∷ ls) h = omega (arith, ap length h.same)

pub first_fits : (bytes : List ℕ) (labels : List (List ℕ)) → Spells bytes labels → get_or bytes 0 0 ≤ length (take (length bytes - 1) (drop 1 bytes))
first_fits bytes [] h = let e : get_or bytes 0 0 ≡ 0 = ap (λ (b : List ℕ). get_or b 0 0) h.same in omega arith
first_fits bytes (l ∷ ls) h =
    let e : get_or bytes 0 0 ≡ length l = ap (λ (b : List ℕ). get_or b 0 0) h.same in
    let n : length bytes ≡ length (length l ∷ (l ++ wire ls)) = ap length h.same in
    omega (arith, length-take {A = ℕ}, length-drop {A = ℕ}, length-append l (wire ls))

-- no bytes spell two lists of labels
pub spelled_once : (bytes : List ℕ) (x y : List (List ℕ)) → Spells bytes x → Spells bytes y → x ≡ y
spelled_once bytes x y h k =
    let n = length x + length y in
    let lx : length x ≤ n = omega arith in
    let ly : length y ≤ n = omega arith in
    let ex : labels_in n (wire x) ≡ x = ap (labels_in n) (sym (append-nil (wire x))) ∙ labels_in-wire n x [] lx h.each in
    let ey : labels_in n (wire y) ≡ y = ap (labels_in n) (sym (append-nil (wire y))) ∙ labels_in-wire n y [] ly k.each in
    sym ex ∙ ap (labels_in n) (sym h.same ∙ k.same) ∙ ey

-- what the walk knows behind a label
pub record Stepped (left : List (List ℕ)) (label rest : List ℕ) : Type 0 where
  pub labels : List (List ℕ)
  pub is : left ≡ label ∷ labels
  pub spells : Spells rest labels

pub stepped : (bytes : List ℕ) (left : List (List ℕ)) (x : Bor (List ℕ) × Bor (List ℕ)) → Spells bytes left → IsFirst left (Some x) → Stepped left x.0.now x.1.now
stepped bytes [] x h f = absurd f
stepped bytes (l ∷ ls) x h f = record { labels = ls; is = ap (λ (m : List ℕ). m ∷ ls) (sym f.0); spells = record { each = h.each.1; same = f.1 } }

pub ended : (bytes : List ℕ) (left : List (List ℕ)) → Spells bytes left → IsFirst left None → left ≡ []
ended bytes [] h f = refl
ended bytes (l ∷ ls) h f = absurd f

-- ---- the comparison of two names, label by label

pub record Compared (bytes_a bytes_b : List ℕ) (tie : Ordering) (left right : List ℕ) (order : Ordering) : Type 0 where
  pub a : List (List ℕ)
  pub b : List (List ℕ)
  pub p : List (List ℕ)
  pub q : List (List ℕ)
  pub is_a : Spells bytes_a a
  pub is_b : Spells bytes_b b
  pub is_p : Spells left p
  pub is_q : Spells right q
  pub alike : length a ≡ length b → (length p ≡ length q) × (ordering_then (name_cmp p q) order ≡ ordering_then (name_cmp a b) tie)

then_assoc : (o p q : Ordering) → ordering_then (ordering_then o p) q ≡ ordering_then o (ordering_then p q)
then_assoc Less p q = refl
then_assoc Equal p q = refl
then_assoc Greater p q = refl

then_equal : (o : Ordering) → ordering_then o Equal ≡ o
then_equal Less = refl
then_equal Equal = refl
then_equal Greater = refl

-- lists that begin with parts of one length are compared by these parts first
pub slice_cmp-append : {X : Type 0} (R : X → X → Ordering) (xs ys us vs : List X) → length xs ≡ length ys → slice_cmp R (xs ++ us) (ys ++ vs) ≡ ordering_then (slice_cmp R xs ys) (slice_cmp R us vs)
slice_cmp-append R [] [] us vs e = refl
slice_cmp-append R [] (y ∷ ys) us vs e = absurd (omega arith)
slice_cmp-append R (x ∷ xs) [] us vs e = absurd (omega arith)
slice_cmp-append R (x ∷ xs) (y ∷ ys) us vs e =
    let n : length xs ≡ length ys = omega arith in
    ap (ordering_then (R x y)) (slice_cmp-append R xs ys us vs n) ∙ sym (then_assoc (R x y) (slice_cmp R xs ys) (slice_cmp R us vs))

pub name_cmp-cons : (x y : List ℕ) (p q : List (List ℕ)) → length p ≡ length q → name_cmp (x ∷ p) (y ∷ q) ≡ ordering_then (name_cmp p q) (slice_cmp nat_cmp x y)
name_cmp-cons x y p q e =
    let n : length (reverse p) ≡ length (reverse q) = length-reverse p ∙ e ∙ sym (length-reverse q) in
    let both : slice_cmp (slice_cmp nat_cmp) (reverse p ++ x ∷ []) (reverse q ++ y ∷ []) ≡ ordering_then (name_cmp p q) (slice_cmp (slice_cmp nat_cmp) (x ∷ []) (y ∷ [])) = slice_cmp-append (slice_cmp nat_cmp) (reverse p) (reverse q) (x ∷ []) (y ∷ []) n in
    let turn_p : reverse (x ∷ p) ≡ reverse p ++ x ∷ [] = reverse-append (x ∷ []) p in
    let turn_q : reverse (y ∷ q) ≡ reverse q ++ y ∷ [] = reverse-append (y ∷ []) q in
    ap (λ (l : List (List ℕ)). slice_cmp (slice_cmp nat_cmp) l (reverse (y ∷ q))) turn_p
    ∙ ap (λ (l : List (List ℕ)). slice_cmp (slice_cmp nat_cmp) (reverse p ++ x ∷ []) l) turn_q
    ∙ both ∙ ap (ordering_then (name_cmp p q)) (then_equal (slice_cmp nat_cmp x y))

pub shorter : (bytes : List ℕ) (left : List (List ℕ)) (x : Bor (List ℕ) × Bor (List ℕ)) → Spells bytes left → IsFirst left (Some x) → length x.1.now < length bytes
shorter bytes [] x h f = absurd f
shorter bytes (l ∷ ls) x h f = omega (arith, ap length h.same, ap length f.1, length-append l (wire ls))

pub compared_more : (a b : List ℕ) (tie : Ordering) (left right : List ℕ) (order new : Ordering) (x y : Bor (List ℕ) × Bor (List ℕ)) (c : Compared a b tie left right order)
    → IsFirst c.p (Some x) → IsFirst c.q (Some y) → new ≡ ordering_then (slice_cmp nat_cmp x.0.now y.0.now) order → Compared a b tie x.1.now y.1.now new
compared_more a b tie left right order new x y c f g e =
    let s = stepped left c.p x c.is_p f in
    let t = stepped right c.q y c.is_q g in
    record {
      a = c.a;
      b = c.b;
      p = s.labels;
      q = t.labels;
      is_a = c.is_a;
      is_b = c.is_b;
      is_p = s.spells;
      is_q = t.spells;
      alike = λ n.
          let before = c.alike n in
          let one : suc (length s.labels) ≡ suc (length t.labels) = ap length (sym s.is) ∙ before.0 ∙ ap length t.is in
          let len : length s.labels ≡ length t.labels = omega arith in
          let here : name_cmp c.p c.q ≡ ordering_then (name_cmp s.labels t.labels) (slice_cmp nat_cmp x.0.now y.0.now) = ap (λ (l : List (List ℕ)). name_cmp l c.q) s.is ∙ ap (λ (l : List (List ℕ)). name_cmp (x.0.now ∷ s.labels) l) t.is ∙ name_cmp-cons x.0.now y.0.now s.labels t.labels len in
          (len, ap (ordering_then (name_cmp s.labels t.labels)) e ∙ sym (then_assoc (name_cmp s.labels t.labels) (slice_cmp nat_cmp x.0.now y.0.now) order) ∙ ap (λ (o : Ordering). ordering_then o order) (sym here) ∙ before.1);
    }

pub compared_end : (a b : List ℕ) (tie : Ordering) (left right : List ℕ) (order : Ordering) (c : Compared a b tie left right order) → IsFirst c.p None
    → (x y : List (List ℕ)) → Spells a x → Spells b y → length x ≡ length y → order ≡ ordering_then (name_cmp x y) tie
compared_end a b tie left right order c f x y hx hy n =
    let ex = spelled_once a c.a x c.is_a hx in
    let ey = spelled_once b c.b y c.is_b hy in
    let m : length c.a ≡ length c.b = ap length ex ∙ n ∙ ap length (sym ey) in
    let known = c.alike m in
    let none_p = ended left c.p c.is_p f in
    let none_q : c.q ≡ [] = nil_from_length c.q (sym known.0 ∙ ap length none_p) in
    let done : ordering_then (name_cmp c.p c.q) order ≡ order = ap (λ (l : List (List ℕ)). ordering_then (name_cmp l c.q) order) none_p ∙ ap (λ (l : List (List ℕ)). ordering_then (name_cmp [] l) order) none_q in
    sym done ∙ known.1 ∙ ap (λ (l : List (List ℕ)). ordering_then (name_cmp l c.b) tie) ex ∙ ap (λ (l : List (List ℕ)). ordering_then (name_cmp x l) tie) ey

-- ---- walks

pub record Counted (bytes rest : List ℕ) (count : ℕ) : Type 0 where
  pub all : List (List ℕ)
  pub left : List (List ℕ)
  pub is_all : Spells bytes all
  pub is_left : Spells rest left
  pub sum : count + length left ≡ length all

pub counted_start : (bytes : List ℕ) (all : List (List ℕ)) → Spells bytes all → Counted bytes bytes 0
counted_start bytes all h = record { all = all; left = all; is_all = h; is_left = h; sum = omega arith }

pub counted_small : (bytes rest : List ℕ) (count : ℕ) → Counted bytes rest count → count < length bytes
counted_small bytes rest count h = omega (arith, h.sum, length_le-wire h.all, ap length h.is_all.same)

pub counted_more : (bytes rest : List ℕ) (count : ℕ) (x : Bor (List ℕ) × Bor (List ℕ)) (c : Counted bytes rest count) → IsFirst c.left (Some x) → Counted bytes x.1.now (count + 1)
counted_more bytes rest count x c f =
    let s = stepped rest c.left x c.is_left f in
    record { all = c.all; left = s.labels; is_all = c.is_all; is_left = s.spells; sum = omega (arith, c.sum, ap length s.is) }

pub counted_end : (bytes rest : List ℕ) (count : ℕ) (c : Counted bytes rest count) → IsFirst c.left None → (labels : List (List ℕ)) → Spells bytes labels → count ≡ length labels
counted_end bytes rest count c f labels h =
    let none : length c.left ≡ 0 = ap length (ended rest c.left c.is_left f) in
    let e : length c.all ≡ length labels = ap length (spelled_once bytes c.all labels c.is_all h) in
    omega (arith, c.sum)

pub record Skipped (bytes rest : List ℕ) (labels count : ℕ) : Type 0 where
  pub all : List (List ℕ)
  pub is_all : Spells bytes all
  pub is_left : Spells rest (drop count all)
  pub enough : labels ≤ length all

pub skipped_more : (bytes rest : List ℕ) (labels count : ℕ) (x : Bor (List ℕ) × Bor (List ℕ)) (c : Skipped bytes rest labels count) → IsFirst (drop count c.all) (Some x) → Skipped bytes x.1.now labels (count + 1)
skipped_more bytes rest labels count x c f =
    let s = stepped rest (drop count c.all) x c.is_left f in
    let next : drop (count + 1) c.all ≡ s.labels = sym (drop-drop 1 count c.all) ∙ ap (drop 1) s.is in
    record { all = c.all; is_all = c.is_all; is_left = subst (Spells x.1.now) (sym next) s.spells; enough = c.enough }

pub skipped_none : {X : Type 0} (bytes rest : List ℕ) (labels count : ℕ) (c : Skipped bytes rest labels count) → IsFirst (drop count c.all) None → count < labels → X
skipped_none bytes rest labels count c f h =
    let none : length (drop count c.all) ≡ 0 = ap length (ended rest (drop count c.all) c.is_left f) in
    absurd (omega (arith, length-drop count c.all, c.enough))

pub skipped_end : (bytes rest : List ℕ) (labels : ℕ) (c : Skipped bytes rest labels labels) → (all : List (List ℕ)) → Spells bytes all → Spells rest (drop labels all)
skipped_end bytes rest labels c all h = subst (λ (l : List (List ℕ)). Spells rest (drop labels l)) (spelled_once bytes c.all all c.is_all h) c.is_left

-- ---- two names of any depth

cmp_longer : (x y : List (List ℕ)) (n : ℕ) → length x ≡ n + length y → ordering_then (name_cmp (drop n x) y) (nat_cmp (length x) (length y)) ≡ name_cmp x y
cmp_longer x y zero e =
    let same : nat_cmp (length x) (length y) ≡ Equal = grind (arith, nat_tests) in
    ap (ordering_then (name_cmp x y)) same ∙ then_equal (name_cmp x y)
cmp_longer x y (suc n) e =
    let cut : take (suc n) x ++ drop (suc n) x ≡ x = take-append-drop (suc n) x in
    let more : nat_cmp (length x) (length y) ≡ Greater = grind (arith, nat_tests) in
    let back : reverse x ≡ reverse (drop (suc n) x) ++ reverse (take (suc n) x) = ap reverse (sym cut) ∙ reverse-append (take (suc n) x) (drop (suc n) x) in
    let le : suc n ≤ length x = omega arith in
    let len : length (reverse (drop (suc n) x)) ≡ length (reverse y) = length-reverse (drop (suc n) x) ∙ length-drop (suc n) x ∙ (let k : length x - suc n ≡ length y = omega arith in k) ∙ sym (length-reverse y) in
    let front : slice_cmp (slice_cmp nat_cmp) (reverse (drop (suc n) x) ++ reverse (take (suc n) x)) (reverse y ++ []) ≡ ordering_then (name_cmp (drop (suc n) x) y) (slice_cmp (slice_cmp nat_cmp) (reverse (take (suc n) x)) []) = slice_cmp-append (slice_cmp nat_cmp) (reverse (drop (suc n) x)) (reverse y) (reverse (take (suc n) x)) [] len in
    let some : 0 < length (reverse (take (suc n) x)) = omega (arith, length-reverse (take (suc n) x), length-take (suc n) x) in
    ap (ordering_then (name_cmp (drop (suc n) x) y)) (more ∙ sym (greater (reverse (take (suc n) x)) some)) ∙ sym front
    ∙ ap (λ (l : List (List ℕ)). slice_cmp (slice_cmp nat_cmp) l (reverse y ++ [])) (sym back) ∙ ap (slice_cmp (slice_cmp nat_cmp) (reverse x)) (append-nil (reverse y))
  where
    greater : (l : List (List ℕ)) → 0 < length l → slice_cmp (slice_cmp nat_cmp) l [] ≡ Greater
    greater [] h = absurd (omega arith)
    greater (z ∷ zs) h = refl

cmp_shorter : (x y : List (List ℕ)) (n : ℕ) → length y ≡ suc n + length x → ordering_then (name_cmp x (drop (suc n) y)) (nat_cmp (length x) (length y)) ≡ name_cmp x y
cmp_shorter x y n e =
    let cut : take (suc n) y ++ drop (suc n) y ≡ y = take-append-drop (suc n) y in
    let less : nat_cmp (length x) (length y) ≡ Less = grind (arith, nat_tests) in
    let back : reverse y ≡ reverse (drop (suc n) y) ++ reverse (take (suc n) y) = ap reverse (sym cut) ∙ reverse-append (take (suc n) y) (drop (suc n) y) in
    let len : length (reverse x) ≡ length (reverse (drop (suc n) y)) = length-reverse x ∙ (let k : length x ≡ length y - suc n = omega arith in k) ∙ sym (length-drop (suc n) y) ∙ sym (length-reverse (drop (suc n) y)) in
    let front : slice_cmp (slice_cmp nat_cmp) (reverse x ++ []) (reverse (drop (suc n) y) ++ reverse (take (suc n) y)) ≡ ordering_then (name_cmp x (drop (suc n) y)) (slice_cmp (slice_cmp nat_cmp) [] (reverse (take (suc n) y))) = slice_cmp-append (slice_cmp nat_cmp) (reverse x) (reverse (drop (suc n) y)) [] (reverse (take (suc n) y)) len in
    let some : 0 < length (reverse (take (suc n) y)) = omega (arith, length-reverse (take (suc n) y), length-take (suc n) y) in
    ap (ordering_then (name_cmp x (drop (suc n) y))) (less ∙ sym (smaller (reverse (take (suc n) y)) some)) ∙ sym front
    ∙ ap (slice_cmp (slice_cmp nat_cmp) (reverse x ++ [])) (sym back) ∙ ap (λ (l : List (List ℕ)). slice_cmp (slice_cmp nat_cmp) l (reverse y)) (append-nil (reverse x))
  where
    smaller : (l : List (List ℕ)) → 0 < length l → slice_cmp (slice_cmp nat_cmp) [] l ≡ Less
    smaller [] h = absurd (omega arith)
    smaller (z ∷ zs) h = refl

-- what a comparison of the parts of one depth, with the depths as the tie, says of the whole
pub cmp_any : (x y : List (List ℕ)) → length (drop (length x - min (length x) (length y)) x) ≡ length (drop (length y - min (length x) (length y)) y)
    × (ordering_then (name_cmp (drop (length x - min (length x) (length y)) x) (drop (length y - min (length x) (length y)) y)) (nat_cmp (length x) (length y)) ≡ name_cmp x y)
cmp_any x y =
    elim (cases_lt (length x) (length y)) [
      | inl h ↦
          let zero_x : length x - min (length x) (length y) ≡ 0 = omega arith in
          let some_y : length y - min (length x) (length y) ≡ suc (length y - length x - 1) = omega arith in
          let sum : length y ≡ suc (length y - length x - 1) + length x = omega arith in (
            omega (arith, length-drop (length x - min (length x) (length y)) x, length-drop (length y - min (length x) (length y)) y),
            ap (λ (k : ℕ). ordering_then (name_cmp (drop k x) (drop (length y - min (length x) (length y)) y)) (nat_cmp (length x) (length y))) zero_x
                ∙ ap (λ (k : ℕ). ordering_then (name_cmp x (drop k y)) (nat_cmp (length x) (length y))) some_y
                ∙ cmp_shorter x y (length y - length x - 1) sum,
          )
      | inr h ↦
          let m : min (length x) (length y) ≡ length y = omega arith in
          let zero_y : length y - min (length x) (length y) ≡ 0 = omega arith in
          let some_x : length x - min (length x) (length y) ≡ length x - length y = omega arith in
          let sum : length x ≡ (length x - length y) + length y = omega arith in (
            omega (arith, length-drop (length x - min (length x) (length y)) x, length-drop (length y - min (length x) (length y)) y),
            ap (λ (k : ℕ). ordering_then (name_cmp (drop (length x - min (length x) (length y)) x) (drop k y)) (nat_cmp (length x) (length y))) zero_y
                ∙ ap (λ (k : ℕ). ordering_then (name_cmp (drop k x) y) (nat_cmp (length x) (length y))) some_x
                ∙ cmp_longer x y (length x - length y) sum,
          )
    ]

pub compare_joined : (da db m : ℕ) (tie r : Ordering) (x y : List (List ℕ)) → da ≡ length x → db ≡ length y → m ≡ min da db → tie ≡ nat_cmp da db
    → (length (drop (da - m) x) ≡ length (drop (db - m) y) → r ≡ ordering_then (name_cmp (drop (da - m) x) (drop (db - m) y)) tie) → r ≡ name_cmp x y
compare_joined da db m tie r x y ea eb em et f =
    let ka : da - m ≡ length x - min (length x) (length y) = omega arith in
    let kb : db - m ≡ length y - min (length x) (length y) = omega arith in
    let any = cmp_any x y in
    let len : length (drop (da - m) x) ≡ length (drop (db - m) y) = ap (λ (k : ℕ). length (drop k x)) ka ∙ any.0 ∙ sym (ap (λ (k : ℕ). length (drop k y)) kb) in
    let same : tie ≡ nat_cmp (length x) (length y) = et ∙ ap (λ (k : ℕ). nat_cmp k db) ea ∙ ap (nat_cmp (length x)) eb in
    f len ∙ ap (λ (k : ℕ). ordering_then (name_cmp (drop k x) (drop (db - m) y)) tie) ka
    ∙ ap (λ (k : ℕ). ordering_then (name_cmp (drop (length x - min (length x) (length y)) x) (drop k y)) tie) kb
    ∙ ap (ordering_then (name_cmp (drop (length x - min (length x) (length y)) x) (drop (length y - min (length x) (length y)) y))) same ∙ any.1

-- ---- what is left of a name is one

pub name_rest : (name : List (List ℕ)) (label : List ℕ) (rest : List (List ℕ)) → IsName name → name ≡ label ∷ rest → IsName rest
name_rest [] label rest h e = cc
name_rest (l ∷ ls) label rest h e =
    let same : ls ≡ rest = cc in
    let short : length (wire ls) ≤ 255 = omega (arith, h.short, length-append l (wire ls)) in
    subst IsName same (record { each = h.each.1; short = short })

pub name_drop : (n : ℕ) (name : List (List ℕ)) → IsName name → IsName (drop n name)
name_drop zero name h = h
name_drop (suc n) [] h = h
name_drop (suc n) (l ∷ ls) h = name_drop n ls (name_rest (l ∷ ls) l ls h refl)

pub name_star : (name : List (List ℕ)) → IsName name → length (wire name) ≤ 253 → IsName (star_under name)
name_star name h short = record { each = (record { some = omega arith; short = omega arith; octets = (lit< tt, tt); folded = (refl, tt) }, h.each); short = omega arith }
