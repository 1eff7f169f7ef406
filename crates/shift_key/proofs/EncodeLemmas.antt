-- Positions that are written one after another, and room for them.
use Rattle.std.proofs.Common.{◌≡◌, ℕ, zero, suc, ◌+◌, ◌<◌, ◌≤◌, List, [], ◌∷◌, ◌++◌, length, take, set, get_or, ap, sym, inl, inr, ◌∙◌, subst, arith, append_assoc, length-append, length-take, Some, Bor}
use Rattle.std.proofs.lemmas.Bool.{cases_eq}
use Rattle.std.proofs.lemmas.List.{take_more, take_more_set, take-set, take_all}
use Rattle.std.proofs.Math.ListN.{length-set}
use Rattle.std.specs.List.{flat_map}
use Rattle.zone_model.specs.Names.{Name}
use Rattle.zone_model.specs.Keys.{first_position, second_position, octet_positions, label_positions, key_of}
use Rattle.zone_model.proofs.KeyLaws.{key_of-cons}
use Rattle.dns_name.specs.Spelling.{Spells, IsSpelled, IsFirst}
use Rattle.dns_name.proofs.WireLemmas.{stepped, spelled_once}
use Rattle.shift_key.specs.Laid.{IsFront, HasRoom}
use Rattle.shift_key.proofs.PositionLemmas.{octets-push, one_position, two_positions, some_positions}

-- the octets in front of one, and that one, have no more positions than all
pub part_fits : (label : List ℕ) (i : ℕ) → i < length label
    → length (flat_map octet_positions (take i label)) + length (octet_positions (get_or label i 0)) ≤ length (flat_map octet_positions label)
part_fits [] i h = absurd (omega arith)
part_fits (c ∷ cs) zero h = omega (arith, length-append (octet_positions c) (flat_map octet_positions cs))
part_fits (c ∷ cs) (suc i) h =
    omega (arith, part_fits cs i (omega arith), length-append (octet_positions c) (flat_map octet_positions cs), length-append (octet_positions c) (flat_map octet_positions (take i cs)))

-- what the labels of some bytes need
pub record Needs (bytes : List ℕ) (x : Bor (List ℕ) × Bor (List ℕ)) : Type 0 where
  pub rest : HasRoom x.1.now
  pub long : (labels : Name) → Spells x.1.now labels → length (key_of labels) + length (label_positions x.0.now) ≤ 512
  pub is : (all labels : Name) → Spells bytes all → Spells x.1.now labels → key_of all ≡ key_of labels ++ label_positions x.0.now

pub needs : (bytes : List ℕ) (spelled : IsSpelled bytes) (x : Bor (List ℕ) × Bor (List ℕ)) → HasRoom bytes → IsFirst spelled.0 (Some x) → Needs bytes x
needs bytes spelled x room f =
    let s = stepped bytes spelled.0 x spelled.1 f in
    let whole : length (key_of spelled.0) ≤ 512 = room spelled.0 spelled.1 in
    let is : (labels : Name) → Spells x.1.now labels → key_of spelled.0 ≡ key_of labels ++ label_positions x.0.now = λ labels h.
    ap key_of (s.is ∙ ap (λ (n : Name). x.0.now ∷ n) (spelled_once x.1.now s.labels labels s.spells h)) ∙ key_of-cons x.0.now labels in
    record {
      rest = λ labels h. omega (arith, ap length (is labels h), length-append (key_of labels) (label_positions x.0.now));
      long = λ labels h. omega (arith, ap length (is labels h), length-append (key_of labels) (label_positions x.0.now));
      is = λ all labels a h. ap key_of (spelled_once bytes all spelled.0 a spelled.1) ∙ is labels h;
    }

-- one position, or two, behind what is there
pub put_one : (old : List ℕ) (at p : ℕ) → at < length old → IsFront (take at old ++ p ∷ []) (at + 1) (set old at p)
put_one old at p lt = record { len_is = omega (arith, length-append (take at old) (p ∷ []), length-take at old); front = take_more_set old at p lt }

pub put_two : (old : List ℕ) (at p q : ℕ) → at + 1 < length old → IsFront (take at old ++ p ∷ q ∷ []) (at + 2) (set (set old at p) (at + 1) q)
put_two old at p q lt =
    let a = put_one old at p (omega arith) in
    let n : length (set old at p) ≡ length old = length-set old at p in
    let b = put_one (set old at p) (at + 1) q (omega arith) in
    let two : at + 2 ≡ at + 1 + 1 = omega arith in
    record {
      len_is = omega (arith, length-append (take at old) (p ∷ q ∷ []), length-take at old);
      front = ap (λ (k : ℕ). take k (set (set old at p) (at + 1) q)) two ∙ b.front ∙ ap (λ (l : List ℕ). l ++ q ∷ []) a.front ∙ append_assoc (take at old) (p ∷ []) (q ∷ []);
    }

-- the positions of an octet, of which the second may be none and is written all the same
pub put_octet : (old : List ℕ) (at c end : ℕ) → at + 1 < length old → end ≡ at + length (octet_positions c)
    → IsFront (take at old ++ octet_positions c) end (set (set old at (first_position c)) (at + 1) (second_position c))
put_octet old at c end lt e =
    let p = first_position c in
    let q = second_position c in
    elim (cases_eq q 0) [
      | inl z ↦
          let one : end ≡ at + 1 = omega (arith, e, ap (λ (l : List ℕ). length l) (one_position c z)) in
          let a = put_one old at p (omega arith) in
          let kept = take-set (set old at p) (at + 1) q in
          subst (λ (l : List ℕ). IsFront (take at old ++ l) end (set (set old at p) (at + 1) q)) (sym (one_position c z))
          (record { len_is = one ∙ a.len_is; front = ap (λ (n : ℕ). take n (set (set old at p) (at + 1) q)) one ∙ kept ∙ a.front })
      | inr n ↦
          let two : end ≡ at + 2 = omega (arith, e, ap (λ (l : List ℕ). length l) (two_positions c n)) in
          let b = put_two old at p q lt in
          subst (λ (l : List ℕ). IsFront (take at old ++ l) end (set (set old at p) (at + 1) q)) (sym (two_positions c n))
          (record { len_is = two ∙ b.len_is; front = ap (λ (k : ℕ). take k (set (set old at p) (at + 1) q)) two ∙ b.front })
    ]

-- more behind a front
pub longer : (front more old new : List ℕ) (at end : ℕ) → IsFront front at old → IsFront (take at old ++ more) end new → IsFront (front ++ more) end new
longer front more old new at end f m = subst (λ (l : List ℕ). IsFront (l ++ more) end new) f.front m

pub octet_more : (start places label : List ℕ) (at i end : ℕ) (new : List ℕ) → IsFront (start ++ flat_map octet_positions (take i label)) at places → i < length label
    → IsFront (take at places ++ octet_positions (get_or label i 0)) end new → IsFront (start ++ flat_map octet_positions (take (i + 1) label)) end new
octet_more start places label at i end new f lt m =
    let more : flat_map octet_positions (take i label) ++ octet_positions (get_or label i 0) ≡ flat_map octet_positions (take (i + 1) label) = sym (octets-push (take i label) (get_or label i 0)) ∙ ap (flat_map octet_positions) (sym (take_more label i 0 lt)) in
    subst (λ (l : List ℕ). IsFront l end new) (append_assoc start (flat_map octet_positions (take i label)) (octet_positions (get_or label i 0)) ∙ ap (λ (l : List ℕ). start ++ l) more) (longer (start ++ flat_map octet_positions (take i label)) (octet_positions (get_or label i 0)) places new at end f m)

pub octet_fits : (old places label : List ℕ) (start at i : ℕ) → start + length (label_positions label) ≤ 512 → IsFront (take start old ++ flat_map octet_positions (take i label)) at places → i < length label
    → at + 1 < 512
octet_fits old places label start at i room f lt =
    omega (arith, some_positions (get_or label i 0), part_fits label i lt, f.len_is, length-append (take start old) (flat_map octet_positions (take i label)), length-take start old, length-append (flat_map octet_positions label) (0 ∷ []))

-- a name without labels takes no position
pub none_put : (bytes places : List ℕ) (labels : Name) (at : ℕ) → Spells bytes labels → get_or bytes 0 0 ≡ 0 → at ≡ 0 → IsFront (key_of labels) at places
none_put bytes places [] at h root z = record { len_is = z; front = ap (λ (n : ℕ). take n places) z }
none_put bytes places (l ∷ ls) at h root z = let first : get_or bytes 0 0 ≡ length l = ap (λ (b : List ℕ). get_or b 0 0) h.same in let some = h.each.0.some in absurd (omega arith)

-- the label's end
pub label_end : (start places label : List ℕ) (at i : ℕ) → IsFront (start ++ flat_map octet_positions (take i label)) at places → length label ≤ i → at < length places → IsFront (start ++ label_positions label) (at + 1) (set places at 0)
label_end start places label at i f past lt =
    let all : take i label ≡ label = take_all i label past in
    subst (λ (l : List ℕ). IsFront l (at + 1) (set places at 0))
    (append_assoc start (flat_map octet_positions (take i label)) (0 ∷ []) ∙ ap (λ (l : List ℕ). start ++ (flat_map octet_positions l ++ 0 ∷ [])) all)
    (longer (start ++ flat_map octet_positions (take i label)) (0 ∷ []) places (set places at 0) at (at + 1) f (put_one places at 0 lt))

pub end_fits : (old places label : List ℕ) (start at i : ℕ) → start + length (label_positions label) ≤ 512 → IsFront (take start old ++ flat_map octet_positions (take i label)) at places → length label ≤ i → at < 512
end_fits old places label start at i room f past =
    let all : take i label ≡ label = take_all i label past in
    omega (arith, f.len_is, length-append (take start old) (flat_map octet_positions (take i label)), length-take start old, ap (λ (l : List ℕ). length (flat_map octet_positions l)) all, length-append (flat_map octet_positions label) (0 ∷ []))
