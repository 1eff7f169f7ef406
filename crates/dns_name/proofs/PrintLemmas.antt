-- Text that grows.
use Rattle.std.proofs.Common.{◌≡◌, ℕ, ◌-◌, ◌≤◌, ◌<◌, Bool, true, false, not, ◌&&◌, nat_lt, if◌then◌else◌, List, [], ◌∷◌, ◌++◌, length, take, sym, ap, subst, ◌∙◌, refl, arith, append_assoc, append-nil, length-append}
use Rattle.std.proofs.lemmas.Bool.{true≢false}
use Rattle.std.specs.List.{flat_map, list_all}
use Rattle.std.specs.Io.{StartsWith}
use Rattle.std.proofs.lemmas.List.{take-take, take_at, length-take}
use Rattle.zone_model.specs.Names.{IsName, wire, is_under}
use Rattle.zone_model.specs.NameText.{is_special, label_text, octet_text, three_digits, text_of, labels_text, front_text, name_text}
use Rattle.zone_model.proofs.OrderLemmas.{under_ends}
use Rattle.std.specs.Borrow.{Bor}
use Rattle.std.specs.Prelude.{Option, Some, None}
use Rattle.std.specs.Option.{option_copied}
use Rattle.dns_name.specs.Plain.{is_plain}
use Rattle.dns_name.specs.Spelling.{Spells, IsSpelled, IsFirst, SpellsInFront}
use Rattle.dns_name.proofs.BodyLemmas.{body, wire-append, wire_positive}

pub starts_front : (xs ys zs : List ℕ) → StartsWith xs (ys ++ zs) → StartsWith xs ys
starts_front xs ys zs h =
    let n : length ys ≤ length (ys ++ zs) = omega (arith, length-append ys zs) in
    sym (take-take (length ys) (length (ys ++ zs)) xs n) ∙ ap (take (length ys)) h ∙ take_at ys zs (length ys) refl

-- to begin with something is transitive
pub starts_chain : (xs ys zs : List ℕ) → StartsWith xs ys → StartsWith ys zs → StartsWith xs zs
starts_chain xs ys zs h k =
    let n : length zs ≤ length ys = omega (arith, length-take (length zs) ys, ap (λ (l : List ℕ). length l) k) in
    sym (take-take (length zs) (length ys) xs n) ∙ ap (take (length zs)) h ∙ k

-- what was pushed behind a text leaves it in front
pub starts_pushed : (xs ys pushed : List ℕ) → xs ≡ ys ++ pushed → StartsWith xs ys
starts_pushed xs ys pushed e = ap (take (length ys)) e ∙ take_at ys pushed (length ys) refl

-- ---- labels one by one

-- of labels in front, some were printed, and these are left
pub record Printed (rest : List ℕ) (last : ℕ) (front : List (List ℕ)) (before now : List ℕ) : Type 0 where
  pub left : List (List ℕ)
  pub is_left : SpellsInFront rest last left
  pub text : now ++ flat_map label_text left ≡ before ++ flat_map label_text front

pub printed_start : (bytes : List ℕ) (last : ℕ) (front : List (List ℕ)) (out : List ℕ) → SpellsInFront bytes last front → Printed bytes last front out out
printed_start bytes last front out h = record { left = front; is_left = h; text = refl }

pub left_spelled : (bytes : List ℕ) (last : ℕ) (front : List (List ℕ)) → SpellsInFront bytes last front → IsSpelled bytes
left_spelled bytes last front h = (front ++ h.back, h.spells)

-- with more octets than the last ones, a label is left
first_left : {X : Type 0} (rest : List ℕ) (last : ℕ) (left : List (List ℕ)) → SpellsInFront rest last left → last < length rest → ((label : List ℕ) (labels : List (List ℕ)) → left ≡ label ∷ labels → X) → X
first_left rest last [] h lt f = absurd (omega (arith, ap length h.spells.same, h.counted))
first_left rest last (label ∷ labels) h lt f = f label labels refl

pub printed_more : (rest : List ℕ) (last : ℕ) (front : List (List ℕ)) (before now next : List ℕ) (x : Bor (List ℕ) × Bor (List ℕ)) (p : Printed rest last front before now) → last < length rest
    → ((labels : List (List ℕ)) → Spells rest labels → IsFirst labels (Some x)) → next ≡ now ++ label_text x.0.now → Printed x.1.now last front before next
printed_more rest last front before now next x p lt f e = first_left rest last p.left p.is_left lt (λ label labels is.
    let s : Spells rest ((label ∷ labels) ++ p.is_left.back) = subst (λ (l : List (List ℕ)). Spells rest (l ++ p.is_left.back)) is p.is_left.spells in
    let g = f (label ∷ (labels ++ p.is_left.back)) s in
    record {
      left = labels;
      is_left = record { back = p.is_left.back; spells = record { each = s.each.1; same = g.1 }; counted = p.is_left.counted };
      text =
          ap (λ (t : List ℕ). t ++ flat_map label_text labels) (e ∙ ap (λ (l : List ℕ). now ++ label_text l) g.0) ∙ append_assoc now (label_text label) (flat_map label_text labels)
          ∙ ap (λ (l : List (List ℕ)). now ++ flat_map label_text l) (sym is) ∙ p.text;
    })

pub printed_never : {X : Type 0} (rest : List ℕ) (last : ℕ) (front : List (List ℕ)) (before now : List ℕ) (p : Printed rest last front before now) → last < length rest
    → ((labels : List (List ℕ)) → Spells rest labels → IsFirst labels None) → X
printed_never rest last front before now p lt f = first_left rest last p.left p.is_left lt (λ label labels is.
    absurd (f (label ∷ (labels ++ p.is_left.back)) (subst (λ (l : List (List ℕ)). Spells rest (l ++ p.is_left.back)) is p.is_left.spells)))

-- with no more octets than the last ones, no label is left
none_left : (rest : List ℕ) (last : ℕ) (left : List (List ℕ)) → SpellsInFront rest last left → length rest ≤ last → left ≡ []
none_left rest last [] h le = refl
none_left rest last (label ∷ labels) h le =
    absurd (omega (arith, ap length h.spells.same, h.counted, length-append label (wire (labels ++ h.back)), ap length (wire-append labels h.back), length-append (body labels) (wire h.back)))

pub printed_end : (rest : List ℕ) (last : ℕ) (front : List (List ℕ)) (before now : List ℕ) (p : Printed rest last front before now) → length rest ≤ last → now ≡ before ++ flat_map label_text front
printed_end rest last front before now p le =
    sym (append-nil now) ∙ ap (λ (l : List (List ℕ)). now ++ flat_map label_text l) (sym (none_left rest last p.left p.is_left le)) ∙ p.text

-- ---- absolute names

pub in_front_of_root : (bytes : List ℕ) (labels : List (List ℕ)) → Spells bytes labels → SpellsInFront bytes 1 labels
in_front_of_root bytes labels h = record { back = []; spells = subst (Spells bytes) (sym (append-nil labels)) h; counted = refl }

pub absolute_text : (bytes before now : List ℕ) (labels : List (List ℕ)) → Spells bytes labels → (length bytes ≡ 1 → ⊥) → now ≡ before ++ flat_map label_text labels → now ≡ before ++ text_of labels
absolute_text bytes before now [] h n e = absurd (n (ap length h.same))
absolute_text bytes before now (label ∷ labels) h n e = e

pub root_text : (bytes before now : List ℕ) (labels : List (List ℕ)) → Spells bytes labels → length bytes ≡ 1 → now ≡ before ++ 46 ∷ [] → now ≡ before ++ text_of labels
root_text bytes before now [] h n e = e
root_text bytes before now (label ∷ labels) h n e = absurd (omega (arith, ap length h.same, length-append label (wire labels), wire_positive labels))

-- ---- relative names

-- the dot behind the last label
pub last_dot : (label : List ℕ) (labels : List (List ℕ)) → flat_map label_text (label ∷ labels) ≡ labels_text (label ∷ labels) ++ 46 ∷ []
last_dot label [] = append-nil (label_text label)
last_dot label (next ∷ labels) =
    ap (λ (l : List ℕ). label_text label ++ l) (last_dot next labels) ∙ sym (append_assoc (label_text label) (labels_text (next ∷ labels)) (46 ∷ []))
    ∙ ap (λ (l : List ℕ). l ++ 46 ∷ []) (append_assoc (flat_map octet_text label) (46 ∷ []) (labels_text (next ∷ labels)))

pub origin_text : (bytes : List ℕ) (last : ℕ) (before now : List ℕ) (front : List (List ℕ)) → SpellsInFront bytes last front → length bytes ≡ last → now ≡ before ++ 64 ∷ [] → now ≡ before ++ front_text front
origin_text bytes last before now front h n e = e ∙ ap (λ (l : List (List ℕ)). before ++ front_text l) (sym (none_left bytes last front h (omega arith)))

pub relative_front : (bytes : List ℕ) (last len : ℕ) (before printed now : List ℕ) (front : List (List ℕ)) → SpellsInFront bytes last front → (length bytes ≡ last → ⊥) → printed ≡ before ++ flat_map label_text front
    → len ≡ length printed → now ≡ take (len - 1) printed → now ≡ before ++ front_text front
relative_front bytes last len before printed now [] h n e k f = absurd (n (ap length h.spells.same ∙ sym h.counted))
relative_front bytes last len before printed now (label ∷ labels) h n e k f =
    let text = labels_text (label ∷ labels) in
    let whole : printed ≡ (before ++ text) ++ 46 ∷ [] = e ∙ ap (λ (l : List ℕ). before ++ l) (last_dot label labels) ∙ sym (append_assoc before text (46 ∷ [])) in
    let all : len - 1 ≡ length (before ++ text) = omega (arith, ap length whole, length-append (before ++ text) (46 ∷ [])) in
    f ∙ ap (λ (l : List ℕ). take (len - 1) l) whole ∙ ap (λ (n : ℕ). take n ((before ++ text) ++ 46 ∷ [])) all ∙ take_at (before ++ text) (46 ∷ []) (length (before ++ text)) refl

-- a name under an origin has labels in front of it
pub in_front : (name origin : List (List ℕ)) (bytes : List ℕ) (last : ℕ) → IsName name → bytes ≡ wire name → last ≡ length (wire origin) → is_under name origin ≡ true → SpellsInFront bytes last (take (length name - length origin) name)
in_front name origin bytes last is same counted u =
    let f = under_ends name origin u in
    let len : length name - length origin ≡ length f.0 = omega (arith, ap length f.1, length-append f.0 origin) in
    let front : take (length name - length origin) name ≡ f.0 = ap (λ (k : ℕ). take k name) len ∙ ap (λ (l : List (List ℕ)). take (length f.0) l) f.1 ∙ take_at f.0 origin (length f.0) refl in
    let whole : take (length name - length origin) name ++ origin ≡ name = ap (λ (l : List (List ℕ)). l ++ origin) front ∙ sym f.1 in
    record {
      back = origin;
      spells = subst (Spells bytes) (sym whole) (record { each = is.each; same = same });
      counted = counted;
    }

pub named_text : (o : Option (Bor (List (List ℕ)))) (origin : Bor (List (List ℕ))) (name : List (List ℕ)) → o ≡ Some origin → is_under name origin.now ≡ true
    → name_text (option_copied o) name ≡ front_text (take (length name - length origin.now) name)
named_text o origin name e u =
    ap (λ (x : Option (Bor (List (List ℕ)))). name_text (option_copied x) name) e
    ∙ ap (λ (b : Bool). if b then front_text (take (length name - length origin.now) name) else text_of name) u

-- octets that stand for themselves are printed as they are
plain_octet : (c : ℕ) → is_plain c ≡ true → octet_text c ≡ c ∷ []
plain_octet c h = by (is_special c) (nat_lt 32 c && nat_lt c 127) h
  where
    by : (special between : Bool) → (not special && between) ≡ true → (if special then 92 ∷ c ∷ [] else if between then c ∷ [] else 92 ∷ three_digits c) ≡ c ∷ []
    by false true h = refl
    by false false h = absurd (true≢false (sym h))
    by true between h = absurd (true≢false (sym h))

plain_more : (c : ℕ) (text : List ℕ) (b : Bool) → is_plain c ≡ b → (list_all is_plain text ≡ true → flat_map octet_text text ≡ text) → (b && list_all is_plain text) ≡ true → octet_text c ++ flat_map octet_text text ≡ c ∷ text
plain_more c text true is others rest = ap (λ (l : List ℕ). l ++ flat_map octet_text text) (plain_octet c is) ∙ ap (λ (l : List ℕ). c ∷ l) (others rest)
plain_more c text false is others rest = absurd (true≢false (sym rest))

pub plain_text : (text : List ℕ) → list_all is_plain text ≡ true → flat_map octet_text text ≡ text
plain_text [] h = refl
plain_text (c ∷ text) h = plain_more c text (is_plain c) refl (plain_text text) h
