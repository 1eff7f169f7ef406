-- A version is split where its trie's entries are.
use Rattle.std.proofs.Common.{◌≡◌, ◌∙◌, List, [], ◌∷◌, ◌++◌, ◌⊎◌, inl, inr, map, refl, sym, ap}
use Rattle.std.specs.List.{AllByRecursion}
use Rattle.zone_model.specs.Names.{Name}
use Rattle.zone_model.specs.Records.{Entry}
use Rattle.zone_model.specs.Versions.{Version}
use Rattle.trie_model.specs.Keys as trie
use Rattle.zone_answer.specs.Standing.{IsStorable, trie_entry}

pub record Parted (version : Version) (before after : List trie.Entry) : Type 0 where
  pub front : Version
  pub back : Version
  pub whole : version ≡ front ++ back
  pub front_is : before ≡ map trie_entry front
  pub back_is : after ≡ map trie_entry back

pub parted : (version : Version) (before after : List trie.Entry) → map trie_entry version ≡ before ++ after → Parted version before after
parted version [] after e = record { front = []; back = version; whole = refl; front_is = refl; back_is = sym e }
parted [] (x ∷ before) after e = absurd cc
parted (pair ∷ version) (x ∷ before) after e =
    let h : trie_entry pair ≡ x = cc in
    let t : map trie_entry version ≡ before ++ after = cc in
    let i = parted version before after t in
    record {
      front = pair ∷ i.front;
      back = i.back;
      whole = ap (λ (v : Version). pair ∷ v) i.whole;
      front_is = ap (λ (y : trie.Entry). y ∷ before) (sym h) ∙ ap (λ (ys : List trie.Entry). trie_entry pair ∷ ys) i.front_is;
      back_is = i.back_is;
    }

pub all_front : (x y : Version) → AllByRecursion IsStorable (x ++ y) → AllByRecursion IsStorable x
all_front [] y h = tt
all_front (pair ∷ x) y h = (h.0, all_front x y h.1)

pub all_back : (x y : Version) → AllByRecursion IsStorable (x ++ y) → AllByRecursion IsStorable y
all_back [] y h = h
all_back (pair ∷ x) y h = all_back x y h.1

pub record EndsAt (front : Version) : Type 0 where
  pub rest : Version
  pub pair : Name × Entry
  pub is : front ≡ rest ++ pair ∷ []

pub last_or_none : (front : Version) → (front ≡ []) ⊎ EndsAt front
last_or_none [] = inl refl
last_or_none (pair ∷ front) = elim (last_or_none front) [
  | inl e ↦ inr (record { rest = []; pair = pair; is = ap (λ (v : Version). pair ∷ v) e })
  | inr h ↦ inr (record { rest = pair ∷ h.rest; pair = h.pair; is = ap (λ (v : Version). pair ∷ v) h.is })
]
