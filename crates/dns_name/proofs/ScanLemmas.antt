-- Names in front of bytes of any kind.
use Rattle.std.proofs.Common.{◌≡◌, ℕ, zero, suc, ◌+◌, ◌<◌, ◌≤◌, List, [], ◌∷◌, ◌++◌, length, take, drop, get_or, sym, ap, ◌∙◌, refl, arith, length-append, length-take, append_assoc, length-drop, Some, take-append-drop}
use Rattle.std.specs.List.{AllByRecursion, slice_get}
use Rattle.std.proofs.lemmas.List.{take_at, drop_at, drop-drop, drop_more}
use Rattle.zone_model.specs.Names.{wire, IsName, IsLabel, IsFolded, BeginsWith}
use Rattle.dns_name.specs.Spelling.{IsNameSpelled, BeginsWithLabel, HasLabelOf}
use Rattle.dns_name.proofs.BodyLemmas.{body, wire-append, wire-body, body-push, wire_positive, all_append}

-- bytes that are each below 256, by their places
pub all_small : (n : ℕ) (xs : List ℕ) → ((i : ℕ) → get_or xs i 0 < 256) → AllByRecursion (λ c. c < 256) (take n xs)
all_small zero xs h = tt
all_small (suc n) [] h = tt
all_small (suc n) (x ∷ xs) h = (h 0, all_small n xs (λ i. h (suc i)))

pub found_label : (bytes : List ℕ) (len : ℕ) → Some len ≡ slice_get bytes 0 → (len ≡ 0 → ⊥) → len ≤ 63 → len < length bytes
    → ((i : ℕ) → get_or bytes i 0 < 256) → AllByRecursion IsFolded (take len (drop 1 bytes)) → HasLabelOf bytes (len + 1)
found_label [] len is some short fits small folded = cc
found_label (b ∷ rest) len is some short fits small folded =
    let first : len ≡ b = cc in
    let long : length (take len rest) ≡ len = omega (arith, length-take len rest) in (
      take len rest,
      record { some = omega arith; short = omega arith; octets = all_small len rest (λ i. small (suc i)); folded = folded },
      (drop len rest, ap (λ (n : ℕ). n ∷ rest) (sym first ∙ sym long) ∙ ap (λ (l : List ℕ). length (take len rest) ∷ l) (sym (take-append-drop len rest))),
      omega arith,
    )

-- the octet at a place is the first one from there on
get_or_first : (at : ℕ) (bytes : List ℕ) → get_or (drop at bytes) 0 0 ≡ 0 → get_or bytes at 0 ≡ 0
get_or_first zero bytes h = h
get_or_first (suc at) [] h = refl
get_or_first (suc at) (b ∷ bytes) h = get_or_first at bytes h

-- what is known after the labels `done`, whose octets come before the place `at`
pub record Scanned (bytes : List ℕ) (at : ℕ) : Type 0 where
  pub done : List (List ℕ)
  pub each : AllByRecursion IsLabel done
  pub laid : bytes ≡ body done ++ drop at bytes
  pub at_is : at ≡ length (body done)
  pub within : at ≤ length bytes
  pub only : (name : List (List ℕ)) → BeginsWith bytes name → AllByRecursion IsLabel name → (rest : List (List ℕ)) × (name ≡ done ++ rest) × AllByRecursion IsLabel rest × BeginsWith (drop at bytes) rest

pub scanned_start : (bytes : List ℕ) → Scanned bytes 0
scanned_start bytes = record { done = []; each = tt; laid = refl; at_is = refl; within = omega arith; only = λ name h e. (name, refl, e, h) }

-- labels that two walks over the same bytes find in front are the same
same_label : (bytes : List ℕ) (a b : List ℕ) → BeginsWithLabel bytes a → BeginsWithLabel bytes b → a ≡ b
same_label bytes a b h k =
    let whole : length a ∷ (a ++ h.0) ≡ length b ∷ (b ++ k.0) = sym h.1 ∙ k.1 in
    let long : length a ≡ length b = cc in
    let tails : a ++ h.0 ≡ b ++ k.0 = cc in
    sym (take_at a h.0 (length a) refl) ∙ ap (take (length a)) tails ∙ take_at b k.0 (length a) (sym long)

-- a name in front of bytes that are not at a zero octet has a first label there
pub front_label : (bytes : List ℕ) (name : List (List ℕ)) → (get_or bytes 0 0 ≡ 0 → ⊥) → BeginsWith bytes name → AllByRecursion IsLabel name
    → (label : List ℕ) × (rest : List (List ℕ)) × (name ≡ label ∷ rest) × IsLabel label × AllByRecursion IsLabel rest × (behind : List ℕ) × (bytes ≡ length label ∷ (label ++ (wire rest ++ behind)))
front_label bytes [] n h each = absurd (n (ap (λ (b : List ℕ). get_or b 0 0) h.1))
front_label bytes (l ∷ ls) n h each = (l, ls, refl, each.0, each.1, h.0, h.1 ∙ ap (λ (t : List ℕ). length l ∷ t) (append_assoc l (wire ls) h.0))

behind_label : (bytes label tail : List ℕ) → bytes ≡ length label ∷ (label ++ tail) → drop (length label + 1) bytes ≡ tail
behind_label bytes label tail e =
    let n : length (length label ∷ label) ≡ length label + 1 = omega arith in
    ap (drop (length label + 1)) e ∙ drop_at (length label ∷ label) tail (length label + 1) n

pub scanned_more : (bytes : List ℕ) (at n : ℕ) (s : Scanned bytes at) → at < length bytes → (get_or bytes at 0 ≡ 0 → ⊥) → HasLabelOf (drop at bytes) n → Scanned bytes (at + n)
scanned_more bytes at n s lt some h =
    let label = h.0 in
    let long : n ≡ length label + 1 = h.3 in
    let tail : drop n (drop at bytes) ≡ h.2.0 = ap (λ (k : ℕ). drop k (drop at bytes)) long ∙ behind_label (drop at bytes) label h.2.0 h.2.1 in
    let next : drop (at + n) bytes ≡ h.2.0 = sym (drop-drop n at bytes) ∙ tail in
    let nonzero : get_or (drop at bytes) 0 0 ≡ 0 → ⊥ = λ e. some (get_or_first at bytes e) in
    let fits : length (drop at bytes) ≡ 1 + (length label + length h.2.0) = ap length h.2.1 ∙ (let k : length (length label ∷ (label ++ h.2.0)) ≡ 1 + (length label + length h.2.0) = omega (arith, length-append label h.2.0) in k) in
    record {
      done = s.done ++ label ∷ [];
      each = all_append IsLabel s.done (label ∷ []) s.each (h.1, tt);
      laid = s.laid ∙ ap (λ (t : List ℕ). body s.done ++ t) (h.2.1 ∙ ap (λ (t : List ℕ). length label ∷ (label ++ t)) (sym next)) ∙ sym (append_assoc (body s.done) (length label ∷ label) (drop (at + n) bytes)) ∙ ap (λ (t : List ℕ). t ++ drop (at + n) bytes) (sym (body-push s.done label));
      at_is = omega (arith, s.at_is, ap length (body-push s.done label), length-append (body s.done) (length label ∷ label), long);
      within = omega (arith, fits, length-drop at bytes, long);
      only = λ name b each.
          let o = s.only name b each in
          let f = front_label (drop at bytes) o.0 nonzero o.3 o.2 in
          let same : label ≡ f.0 = same_label (drop at bytes) label f.0 h.2 (wire f.1 ++ f.5, f.6) in
          let split : name ≡ (s.done ++ label ∷ []) ++ f.1 = o.1 ∙ ap (λ (t : List (List ℕ)). s.done ++ t) (f.2 ∙ ap (λ (l : List ℕ). l ∷ f.1) (sym same)) ∙ sym (append_assoc s.done (label ∷ []) f.1) in
          let behind : drop (at + n) bytes ≡ wire f.1 ++ f.5 = next ∙ sym (behind_label (drop at bytes) label h.2.0 h.2.1) ∙ ap (λ (l : List ℕ). drop (length l + 1) (drop at bytes)) same ∙ behind_label (drop at bytes) f.0 (wire f.1 ++ f.5) f.6 in
          (f.1, split, f.4, (f.5, behind));
    }

-- at a zero octet the labels are those of a name
pub scanned_found : (bytes : List ℕ) (at : ℕ) (s : Scanned bytes at) → at < length bytes → at < 255 → get_or bytes at 0 ≡ 0 → IsNameSpelled (take (at + 1) bytes)
scanned_found bytes at s lt small ends =
    let rest : drop at bytes ≡ 0 ∷ drop (at + 1) bytes = drop_more bytes at 0 lt ∙ ap (λ (b : ℕ). b ∷ drop (at + 1) bytes) ends in
    let whole : bytes ≡ wire s.done ++ drop (at + 1) bytes = s.laid ∙ ap (λ (t : List ℕ). body s.done ++ t) rest ∙ sym (append_assoc (body s.done) (0 ∷ []) (drop (at + 1) bytes)) ∙ ap (λ (t : List ℕ). t ++ drop (at + 1) bytes) (sym (wire-body s.done)) in
    let long : at + 1 ≡ length (wire s.done) = omega (arith, s.at_is, ap length (wire-body s.done), length-append (body s.done) (0 ∷ [])) in
    (s.done, record { each = s.each; short = omega arith }, ap (take (at + 1)) whole ∙ take_at (wire s.done) (drop (at + 1) bytes) (at + 1) (sym long))

-- where no label is in front, no name is
pub scanned_stuck : (bytes : List ℕ) (at : ℕ) (s : Scanned bytes at) → (get_or bytes at 0 ≡ 0 → ⊥) → ((label : List ℕ) → IsLabel label → BeginsWithLabel (drop at bytes) label → ⊥)
    → (name : List (List ℕ)) → IsName name → BeginsWith bytes name → ⊥
scanned_stuck bytes at s some none name is b =
    let o = s.only name b is.each in
    let nonzero : get_or (drop at bytes) 0 0 ≡ 0 → ⊥ = λ e. some (get_or_first at bytes e) in
    let f = front_label (drop at bytes) o.0 nonzero o.3 o.2 in
    none f.0 f.3 (wire f.1 ++ f.5, f.6)

-- where the bytes end, or a name's room does, no name is in front
pub scanned_end : (bytes : List ℕ) (at : ℕ) (s : Scanned bytes at) → (at < length bytes → 255 ≤ at) → (name : List (List ℕ)) → IsName name → BeginsWith bytes name → ⊥
scanned_end bytes at s over name is b =
    let o = s.only name b is.each in
    let long : length (wire name) ≡ at + length (wire o.0) = omega (arith, s.at_is, ap (λ (n : List (List ℕ)). length (wire n)) o.1, ap length (wire-append s.done o.0), length-append (body s.done) (wire o.0)) in
    let some : 0 < length (wire o.0) = wire_positive o.0 in
    let left : length (drop at bytes) ≡ length (wire o.0) + length o.3.0 = omega (arith, ap length o.3.1, length-append (wire o.0) o.3.0) in
    let more : at < length bytes = omega (arith, length-drop at bytes) in
    let full = over more in
    absurd (omega (arith, is.short))

-- bytes begin with one name at most
pub begins_once : (bytes : List ℕ) (a b : List (List ℕ)) → AllByRecursion IsLabel a → AllByRecursion IsLabel b → BeginsWith bytes a → BeginsWith bytes b → a ≡ b
begins_once bytes [] [] h k x y = refl
begins_once bytes [] (l ∷ ls) h k x y = let e : 0 ∷ x.0 ≡ length l ∷ ((l ++ wire ls) ++ y.0) = sym x.1 ∙ y.1 in let z : 0 ≡ length l = cc in absurd (omega (arith, k.0.some))
begins_once bytes (l ∷ ls) [] h k x y = let e : length l ∷ ((l ++ wire ls) ++ x.0) ≡ 0 ∷ y.0 = sym x.1 ∙ y.1 in let z : length l ≡ 0 = cc in absurd (omega (arith, h.0.some))
begins_once bytes (l ∷ ls) (m ∷ ms) h k x y =
    let a : bytes ≡ length l ∷ (l ++ (wire ls ++ x.0)) = x.1 ∙ ap (λ (t : List ℕ). length l ∷ t) (append_assoc l (wire ls) x.0) in
    let b : bytes ≡ length m ∷ (m ++ (wire ms ++ y.0)) = y.1 ∙ ap (λ (t : List ℕ). length m ∷ t) (append_assoc m (wire ms) y.0) in
    let first : l ≡ m = same_label bytes l m (wire ls ++ x.0, a) (wire ms ++ y.0, b) in
    let rest : wire ls ++ x.0 ≡ wire ms ++ y.0 = sym (behind_label bytes l (wire ls ++ x.0) a) ∙ ap (λ (t : List ℕ). drop (length t + 1) bytes) first ∙ behind_label bytes m (wire ms ++ y.0) b in
    let others : ls ≡ ms = begins_once (wire ls ++ x.0) ls ms h.1 k.1 (x.0, refl) (y.0, rest) in
    ap (λ (t : List ℕ). t ∷ ls) first ∙ ap (λ (t : List (List ℕ)). m ∷ t) others
