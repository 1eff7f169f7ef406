-- Labels are laid down one after another.
use Rattle.std.proofs.Common.{◌≡◌, ℕ, ◌+◌, ◌<◌, Bool, List, [], ◌∷◌, ◌++◌, length, take, drop, set, replicate, sym, ap, ◌∙◌, refl, arith, append_assoc, length-append, Result, Ok, Err}
use Rattle.std.proofs.lemmas.List.{set_at, drop_more, drop-drop, drop_at, take_at, get_or-replicate, length-replicate, length_push}
use borrow.Rule.Slice.PartMut.{put_mid}
use Rattle.zone_model.specs.Names.{wire}
use Rattle.zone_model.specs.NameText.{onto}
use Rattle.zone_model.specs.declared.NameRefusal.{NameRefusal}
use Rattle.dns_name.specs.Blank.{no_octets, over_zeros}
use Rattle.dns_name.specs.Inside.{padded}
use Rattle.dns_name.proofs.BodyLemmas.{body, body-push, wire-append}

pub onto-ok : (front : List (List ℕ)) (r : Result (List (List ℕ) × Bool) NameRefusal) (y : List (List ℕ) × Bool) → onto front r ≡ Ok y → (x : List (List ℕ) × Bool) × (r ≡ Ok x) × (y.0 ≡ front ++ x.0)
unfolding onto
onto-ok front (Ok x) y h = let e : (front ++ x.0, x.1) ≡ y = cc in (x, refl, ap (λ (z : List (List ℕ) × Bool). z.0) (sym e))
onto-ok front (Err e) y h = cc

-- ---- octets over zeros

zero_at : (n : ℕ) → n < 255 → drop n no_octets ≡ 0 ∷ drop (n + 1) no_octets
unfolding no_octets
zero_at n h =
    let zeros : List ℕ = replicate 255 0 in
    let lt : n < length zeros = omega (arith, length-replicate {A = ℕ} 255 0) in
    drop_more (replicate 255 0) n 0 lt ∙ ap (λ (c : ℕ). c ∷ drop (n + 1) (replicate 255 0)) (get_or-replicate 255 n 0 0 h)

one_more : (octets : List ℕ) (c : ℕ) → octets ++ c ∷ drop (length octets + 1) no_octets ≡ over_zeros (octets ++ c ∷ [])
one_more octets c =
    sym (append_assoc octets (c ∷ []) (drop (length octets + 1) no_octets)) ∙ ap (λ (n : ℕ). (octets ++ c ∷ []) ++ drop n no_octets) (sym (length_push octets c))

pub zero_more : (octets : List ℕ) → length octets < 255 → over_zeros octets ≡ over_zeros (octets ++ 0 ∷ [])
zero_more octets h = ap (λ (l : List ℕ). octets ++ l) (zero_at (length octets) h) ∙ one_more octets 0

pub put_more : (octets : List ℕ) (c : ℕ) → length octets < 255 → set (over_zeros octets) (length octets) c ≡ over_zeros (octets ++ c ∷ [])
put_more octets c h =
    ap (λ (l : List ℕ). set (octets ++ l) (length octets) c) (zero_at (length octets) h) ∙ set_at octets 0 (drop (length octets + 1) no_octets) c (length octets) refl ∙ one_more octets c

put_there : (a b : List ℕ) (x y n : ℕ) → length a ≡ n → set (over_zeros (a ++ x ∷ b)) n y ≡ over_zeros (a ++ y ∷ b)
put_there a b x y n e =
    let rest = drop (length (a ++ x ∷ b)) no_octets in
    let len : length (a ++ x ∷ b) ≡ length (a ++ y ∷ b) = omega (arith, length-append a (x ∷ b), length-append a (y ∷ b)) in
    ap (λ (l : List ℕ). set l n y) (append_assoc a (x ∷ b) rest) ∙ set_at a x (b ++ rest) y n e ∙ sym (append_assoc a (y ∷ b) rest)
    ∙ ap (λ (k : ℕ). (a ++ y ∷ b) ++ drop k no_octets) len

-- an open label gets its length
pub label_ends : (done : List (List ℕ)) (label laid : List ℕ) (start n : ℕ) → laid ≡ over_zeros (body done ++ 0 ∷ label) → start ≡ length (body done) → n ≡ length label
    → set laid start n ≡ over_zeros (body (done ++ label ∷ []))
label_ends done label laid start n is at e =
    ap (λ (l : List ℕ). set l start n) is ∙ put_there (body done) label 0 n start (sym at) ∙ ap (λ (k : ℕ). over_zeros (body done ++ k ∷ label)) e
    ∙ ap (λ (l : List ℕ). over_zeros l) (sym (body-push done label))

-- the wire form of other labels stands behind
pub joined_laid : (labels back : List (List ℕ)) (octets : List ℕ) (front k : ℕ) → octets ≡ over_zeros (body labels) → length (body labels) ≡ front → length (wire back) ≡ k
    → put_mid front k octets (wire back) ≡ padded (labels ++ back)
joined_laid labels back octets front k is n e =
    let whole = drop (length (wire (labels ++ back))) no_octets in
    let len : front + k ≡ length (wire (labels ++ back)) = omega (arith, n, e, ap (λ (l : List ℕ). length l) (wire-append labels back), length-append (body labels) (wire back)) in
    let before : take front octets ≡ body labels = ap (λ (l : List ℕ). take front l) is ∙ take_at (body labels) (drop (length (body labels)) no_octets) front n in
    let past : drop front octets ≡ drop front no_octets
    = ap (λ (l : List ℕ). drop front l) is ∙ drop_at (body labels) (drop (length (body labels)) no_octets) front n ∙ ap (λ (i : ℕ). drop i no_octets) n in
    let rest : drop k (drop front octets) ≡ whole = ap (λ (l : List ℕ). drop k l) past ∙ drop-drop k front no_octets ∙ ap (λ (i : ℕ). drop i no_octets) len in
    ap (λ (l : List ℕ). l ++ (wire back ++ drop k (drop front octets))) before ∙ ap (λ (l : List ℕ). body labels ++ (wire back ++ l)) rest
    ∙ sym (append_assoc (body labels) (wire back) whole) ∙ ap (λ (l : List ℕ). l ++ whole) (sym (wire-append labels back))
