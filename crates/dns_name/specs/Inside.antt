-- How a name lies in its array: its wire form, and zeros behind it.
use Rattle.std.specs.Prelude.{◌≡◌, ℕ, zero, suc, ◌<◌, ◌≤◌, List, [], ◌∷◌, ◌++◌, length, take, drop, refl, eqb, false}
use Rattle.std.specs.List.{AllByRecursion}
use Rattle.std.proofs.Common.{sym, ap, ◌∙◌, arith, append_assoc, length-append, append-nil}
use Rattle.std.proofs.lemmas.List.{take_at, drop_at}
use Rattle.zone_model.specs.Names.{wire, labels_in, IsName, IsLabel}
use Rattle.dns_name.specs.Blank.{over_zeros}
use Rattle.dns_name.specs.declared.Name.TheInside.{Inside}

abbrev pub padded : List (List ℕ) → List ℕ
padded labels = over_zeros (wire labels)

abbrev pub labels_of : Inside → List (List ℕ)
labels_of n = labels_in n.len (take n.len n.octets)

-- the array has the wire form of these labels
pub record HasName (octets : List ℕ) (len : ℕ) (labels : List (List ℕ)) : Type 0 where
  pub laid : octets ≡ padded labels
  pub counted : len ≡ length (wire labels)
  pub name : IsName labels

abbrev pub IsStored : Inside → Type 0
IsStored n = (labels : List (List ℕ)) × HasName n.octets n.len labels

abbrev pub stored : List (List ℕ) → Inside
stored labels = record { octets = padded labels; len = length (wire labels) }

-- ---- what is laid down is read again

pub length_le-wire : (labels : List (List ℕ)) → length labels < length (wire labels)
length_le-wire [] = omega arith
length_le-wire (l ∷ ls) = omega (arith, length_le-wire ls, length-append l (wire ls))

not_zero : (b : ℕ) → 0 < b → eqb b 0 ≡ false
not_zero b h = grind arith

pub labels_in-wire : (n : ℕ) (labels : List (List ℕ)) (rest : List ℕ) → length labels ≤ n → AllByRecursion IsLabel labels → labels_in n (wire labels ++ rest) ≡ labels
unfolding labels_in
labels_in-wire zero [] rest h each = refl
labels_in-wire (suc n) [] rest h each = refl
labels_in-wire zero (l ∷ ls) rest h each = absurd (omega arith)
labels_in-wire (suc n) (l ∷ ls) rest h each =
    let joined : (l ++ wire ls) ++ rest ≡ l ++ (wire ls ++ rest) = append_assoc l (wire ls) rest in
    let front : take (length l) ((l ++ wire ls) ++ rest) ≡ l = ap (take (length l)) joined ∙ take_at l (wire ls ++ rest) (length l) refl in
    let back : drop (length l) ((l ++ wire ls) ++ rest) ≡ wire ls ++ rest = ap (drop (length l)) joined ∙ drop_at l (wire ls ++ rest) (length l) refl in
    let le : length ls ≤ n = omega arith in
    let deeper : labels_in n (drop (length l) ((l ++ wire ls) ++ rest)) ≡ ls = ap (labels_in n) back ∙ labels_in-wire n ls rest le each.1 in
    rw (not_zero (length l) each.0.some) (cc (front, deeper))

pub view-stored : (n : Inside) (labels : List (List ℕ)) → HasName n.octets n.len labels → labels_of n ≡ labels
view-stored n labels h =
    let front : take n.len n.octets ≡ wire labels = ap (take n.len) h.laid ∙ take_at (wire labels) _ n.len (sym h.counted) in
    let le : length labels ≤ n.len = omega (arith, length_le-wire labels, h.counted) in
    ap (labels_in n.len) (front ∙ sym (append-nil (wire labels))) ∙ labels_in-wire n.len labels [] le h.name.each

pub take-stored : (n : Inside) (labels : List (List ℕ)) → HasName n.octets n.len labels → take n.len n.octets ≡ wire labels
take-stored n labels h = ap (take n.len) h.laid ∙ take_at (wire labels) _ n.len (sym h.counted)

pub same_inside : (a b : Inside) → a.octets ≡ b.octets → a.len ≡ b.len → a ≡ b
same_inside a b e f =
    let mk : List ℕ → ℕ → Inside = λ o l. record { octets = o; len = l } in
    ap (λ (o : List ℕ). mk o a.len) e ∙ ap (λ (l : ℕ). mk b.octets l) f

pub stored-back : (n : Inside) → IsStored n → stored (labels_of n) ≡ n
stored-back n h =
    ap stored (view-stored n h.0 h.1) ∙ same_inside (stored h.0) n (sym h.1.laid) (sym h.1.counted)
