-- A key compared with another's positions as they come.
use Rattle.std.proofs.Common.{◌≡◌, ℕ, zero, suc, ◌+◌, ◌<◌, ◌≤◌, List, [], ◌∷◌, ◌++◌, length, take, drop, get_or, sym, ap, ◌∙◌, refl, subst, arith, append_assoc, length-append, inl, inr, Result}
use Rattle.std.proofs.lemmas.Bool.{cases_lt}
use Rattle.std.proofs.lemmas.List.{take_at, drop_at, take_more, take_all, get_or_append_left, get_or_past}
use Rattle.std.proofs.Math.Seq.{get_or-append_seam}
use Rattle.std.specs.List.{AllByRecursion, flat_map}
use Rattle.zone_model.specs.Names.{Label, Name, wire, IsName, IsLabel, BeginsWith}
use Rattle.zone_model.specs.Keys.{octet_positions, label_positions, key_of, IsFirstDifference}
use Rattle.zone_model.proofs.KeyLaws.{key_of-cons, length-key_of}
use Rattle.dns_name.proofs.BodyLemmas.{wire_positive}
use Rattle.dns_name.proofs.ScanLemmas.{front_label}
use Rattle.dns_name.proofs.WireLemmas.{name_rest}
use Rattle.shift_key.specs.declared.difference.Difference.{Difference}
use Rattle.shift_key.specs.Differences.{Agrees, DiffersAt, Compares}
use Rattle.shift_key.specs.Shape.{KeyShape}
use Rattle.shift_key.proofs.PositionLemmas.{octets-push}
use Rattle.shift_key.proofs.PlaceLemmas.{same_keys, all_places}
use Rattle.shift_key.proofs.ShapeLemmas.{key_shape}

pub never_empty : (bytes : List ℕ) (name : Name) → length bytes ≡ 0 → BeginsWith bytes name → ⊥
never_empty bytes name e b = absurd (omega (arith, wire_positive name, ap length b.1, length-append (wire name) b.0))

-- the first label of a name in front of bytes, by its length octet
pub record Apart (bytes : List ℕ) (name : Name) : Type 0 where
  pub label : Label
  pub rest : Name
  pub is : name ≡ label ∷ rest
  pub is_label : IsLabel label
  pub each : AllByRecursion IsLabel rest
  pub long : get_or bytes 0 0 ≡ length label
  pub fits : length label < length bytes
  pub label_is : take (get_or bytes 0 0) (drop 1 bytes) ≡ label
  pub begins : BeginsWith (drop (get_or bytes 0 0 + 1) bytes) rest

pub apart : (bytes : List ℕ) (name : Name) → (get_or bytes 0 0 ≡ 0 → ⊥) → AllByRecursion IsLabel name → BeginsWith bytes name → Apart bytes name
apart bytes name some each b =
    let f = front_label bytes name some b each in
    let label = f.0 in
    let tail : List ℕ = wire f.1 ++ f.5 in
    let long : get_or bytes 0 0 ≡ length f.0 = ap (λ (l : List ℕ). get_or l 0 0) f.6 in
    let behind : drop 1 bytes ≡ f.0 ++ (wire f.1 ++ f.5) = ap (drop 1) f.6 in
    let front_len : length (length f.0 ∷ f.0) ≡ get_or bytes 0 0 + 1 = omega arith in
    record {
      label = f.0;
      rest = f.1;
      is = f.2;
      is_label = f.3;
      each = f.4;
      long = long;
      fits = omega (arith, ap length f.6, length-append f.0 (wire f.1 ++ f.5));
      label_is = ap (take (get_or bytes 0 0)) behind ∙ take_at f.0 (wire f.1 ++ f.5) (get_or bytes 0 0) (sym long);
      begins = (f.5, ap (drop (get_or bytes 0 0 + 1)) f.6 ∙ drop_at (length f.0 ∷ f.0) (wire f.1 ++ f.5) (get_or bytes 0 0 + 1) front_len);
    }

-- ---- positions that come

pub differs_more : (key front more : List ℕ) (d : Difference) → DiffersAt key front d → DiffersAt key (front ++ more) d
differs_more key front more d h =
    let left : (k : ℕ) → k < length front → get_or (front ++ more) k 0 ≡ get_or front k 0 = λ k lt. get_or_append_left front more 0 k lt in
    record {
      inside = omega (arith, length-append front more, h.inside);
      first = record {
        differ = λ e. h.first.differ (e ∙ left d.place h.inside);
        before = λ k lt. h.first.before k lt ∙ sym (left k (let i = h.inside in omega arith));
      };
      position = h.position ∙ sym (left d.place h.inside);
    }

pub agree_one : (key front : List ℕ) (at p : ℕ) → Agrees key front at → get_or key at 0 ≡ p → Agrees key (front ++ p ∷ []) (at + 1)
agree_one key front at p a e = record {
  end_is = omega (arith, length-append front (p ∷ []), a.end_is);
  same = λ k lt. elim (cases_lt k at) [
    | inl low ↦ a.same k low ∙ sym (get_or_append_left front (p ∷ []) 0 k (omega (arith, a.end_is)))
    | inr high ↦
        let here : k ≡ length front = omega (arith, a.end_is) in
        let there : k ≡ at = omega arith in
        ap (λ (j : ℕ). get_or key j 0) there ∙ e ∙ sym (ap (λ (j : ℕ). get_or (front ++ p ∷ []) j 0) here ∙ get_or-append_seam front p [] 0)
  ];
}

pub differ_one : (key front : List ℕ) (at p : ℕ) → Agrees key front at → (get_or key at 0 ≡ p → ⊥) → DiffersAt key (front ++ p ∷ []) (record { place = at; position = p })
differ_one key front at p a n =
    let there : get_or (front ++ p ∷ []) at 0 ≡ p = ap (λ (j : ℕ). get_or (front ++ p ∷ []) j 0) a.end_is ∙ get_or-append_seam front p [] 0 in
    record {
      inside = omega (arith, length-append front (p ∷ []), a.end_is);
      first = record {
        differ = λ e. n (e ∙ there);
        before = λ k lt. a.same k lt ∙ sym (get_or_append_left front (p ∷ []) 0 k (omega (arith, a.end_is)));
      };
      position = sym there;
    }

pub compares_as : (key a b : List ℕ) (r : Result ℕ Difference) → a ≡ b → Compares key a r → Compares key b r
compares_as key a b r e = subst (λ (l : List ℕ). Compares key l r) e

-- ---- a label's octets

pub octet_step : (key front label : List ℕ) (start at i next : ℕ) → i < length label → Agrees key (front ++ flat_map octet_positions (take i label)) at
    → ((f : List ℕ) → Agrees key f at → Agrees key (f ++ octet_positions (get_or label i 0)) next) → Agrees key (front ++ flat_map octet_positions (take (i + 1) label)) next
octet_step key front label start at i next lt a more =
    let flat : flat_map octet_positions (take i label) ++ octet_positions (get_or label i 0) ≡ flat_map octet_positions (take (i + 1) label) = sym (octets-push (take i label) (get_or label i 0)) ∙ ap (flat_map octet_positions) (sym (take_more label i 0 lt)) in
    subst (λ (l : List ℕ). Agrees key l next) (append_assoc front (flat_map octet_positions (take i label)) (octet_positions (get_or label i 0)) ∙ ap (λ (l : List ℕ). front ++ l) flat) (more (front ++ flat_map octet_positions (take i label)) a)

pub octets-split : (label : List ℕ) (i : ℕ) → i < length label → (more : List ℕ) × (label_positions label ≡ flat_map octet_positions (take i label) ++ (octet_positions (get_or label i 0) ++ more))
octets-split [] i lt = absurd (omega arith)
octets-split (c ∷ cs) zero lt = (label_positions cs, append_assoc (octet_positions c) (flat_map octet_positions cs) (0 ∷ []))
octets-split (c ∷ cs) (suc i) lt =
    let more = octets-split cs i (omega arith) in
    (more.0, append_assoc (octet_positions c) (flat_map octet_positions cs) (0 ∷ []) ∙ ap (λ (l : List ℕ). octet_positions c ++ l) more.1 ∙ sym (append_assoc (octet_positions c) (flat_map octet_positions (take i cs)) (octet_positions (get_or cs i 0) ++ more.0)))

pub octet_differs : (key front label : List ℕ) (at i : ℕ) (d : Difference) → i < length label → Agrees key (front ++ flat_map octet_positions (take i label)) at
    → ((f : List ℕ) → Agrees key f at → DiffersAt key (f ++ octet_positions (get_or label i 0)) d) → DiffersAt key (front ++ label_positions label) d
octet_differs key front label at i d lt a more =
    let rest = octets-split label i lt in
    let done = flat_map octet_positions (take i label) in
    let whole : (front ++ flat_map octet_positions (take i label)) ++ octet_positions (get_or label i 0) ++ rest.0 ≡ front ++ label_positions label =
    append_assoc (front ++ flat_map octet_positions (take i label)) (octet_positions (get_or label i 0)) rest.0 ∙ append_assoc front (flat_map octet_positions (take i label)) (octet_positions (get_or label i 0) ++ rest.0) ∙ ap (λ (l : List ℕ). front ++ l) (sym rest.1) in
    subst (λ (l : List ℕ). DiffersAt key l d) whole (differs_more key ((front ++ flat_map octet_positions (take i label)) ++ octet_positions (get_or label i 0)) rest.0 d (more (front ++ flat_map octet_positions (take i label)) a))

pub label_ends : (key front label : List ℕ) (at i : ℕ) (r : Result ℕ Difference) → length label ≤ i → Agrees key (front ++ flat_map octet_positions (take i label)) at
    → ((f : List ℕ) → Agrees key f at → Compares key (f ++ 0 ∷ []) r) → Compares key (front ++ label_positions label) r
label_ends key front label at i r past a more =
    let all : take i label ≡ label = take_all i label past in
    compares_as key ((front ++ flat_map octet_positions (take i label)) ++ 0 ∷ []) (front ++ label_positions label) r
    (append_assoc front (flat_map octet_positions (take i label)) (0 ∷ []) ∙ ap (λ (l : List ℕ). front ++ (flat_map octet_positions l ++ 0 ∷ [])) all)
    (more (front ++ flat_map octet_positions (take i label)) a)

-- ---- a name's labels

pub root_agrees : (key bytes : List ℕ) (name : Name) → IsName name → BeginsWith bytes name → get_or bytes 0 0 ≡ 0 → Agrees key (key_of name) 0
root_agrees key bytes [] is b z = record { end_is = refl; same = λ k lt. absurd (omega arith) }
root_agrees key bytes (label ∷ labels) is b z = absurd (let e = ap (λ (l : List ℕ). get_or l 0 0) b.1 in let some = is.each.0.some in omega arith)

-- the labels behind the first, and the first one
pub record Behind (bytes : List ℕ) (name : Name) : Type 0 where
  pub a : Apart bytes name
  pub is : IsName a.rest
  pub key : key_of name ≡ key_of a.rest ++ label_positions a.label
  pub room : length (key_of a.rest) + length (label_positions a.label) ≤ 504

pub behind : (bytes : List ℕ) (name : Name) → (get_or bytes 0 0 ≡ 0 → ⊥) → IsName name → BeginsWith bytes name → Behind bytes name
behind bytes name some is b =
    let a = apart bytes name some is.each b in
    let key : key_of name ≡ key_of a.rest ++ label_positions a.label = ap key_of a.is ∙ key_of-cons a.label a.rest in
    record { a = a; is = name_rest name a.label a.rest is a.is; key = key; room = omega (arith, ap length key, length-append (key_of a.rest) (label_positions a.label), length-key_of name is) }

-- ---- the whole key

pub equal_at_end : (name other : Name) (key : List ℕ) (len end : ℕ) → IsName name → IsName other → key_of name ≡ key → len ≡ length (key_of name) → len ≤ end → Agrees key (key_of other) end → key ≡ key_of other
equal_at_end name other key len end is io e el past a =
    same_keys key (key_of other) (name, is, sym e) (other, io, refl) (all_places key (key_of other) end (omega (arith, ap length e)) (omega (arith, a.end_is)) a.same)

-- where the other key ends first, a label begins
pub longer_at_end : (name other : Name) (key : List ℕ) (len end : ℕ) → IsName name → IsName other → key_of name ≡ key → len ≡ length (key_of name) → end < len → Agrees key (key_of other) end
    → IsFirstDifference key (key_of other) end × (0 ≡ get_or (key_of other) end 0)
longer_at_end name other key len end is io e el lt a =
    let past : get_or (key_of other) end 0 ≡ 0 = get_or_past (key_of other) end 0 (omega (arith, a.end_is)) in
    let own : KeyShape key = key_shape key (name, is, sym e) in
    let others : KeyShape (key_of other) = key_shape (key_of other) (other, io, refl) in
    let starts : get_or key end 0 ≡ 0 → ⊥ = λ z.
    let f = own.full end (omega (arith, ap length e)) z in
    let last : get_or (key_of other) f.0 0 ≡ 0 = others.ended f.0 (sym f.1 ∙ a.end_is) in
    let there : get_or key f.0 0 ≡ get_or (key_of other) f.0 0 = a.same f.0 (omega (arith, f.1)) in
    let some = f.2 in omega arith in (
      record { differ = λ z. starts (z ∙ past); before = a.same },
      sym past,
    )
