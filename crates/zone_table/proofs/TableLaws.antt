-- The entries of origins in canonical order.
use Rattle.std.proofs.Common.{◌≡◌, ◌∙◌, inl, inr, ℕ, suc, ◌<◌, false, List, [], ◌∷◌, length, map, get_or, arith, refl, sym, ap, subst}
use Rattle.std.specs.Prelude.{IsPermutation, IsSorted}
use Rattle.std.specs.List.{AllByRecursion, Contains, IsDistinct}
use Rattle.std.specs.declared.cmp.Ordering.{Ordering}
use Rattle.std.specs.declared.cmp.Ordering.TheVariants.{Less, Equal, Greater}
use Rattle.std.specs.Ordering.{is_lt, is_eq, ordering_reverse}
use Rattle.std.proofs.lemmas.List.Elements.{All-from_recursion, recursion_from_All}
use Rattle.std.proofs.lemmas.List.Sorted.{ranks_by, sorted_far, IsPermutation-sym, Contains-permutation, All-permutation}
use Rattle.std.proofs.lemmas.Map.Keys.{apart_from_distinct, IsDistinct-IsPermutation}
use Rattle.pin_core.proofs.Lists.{contains_cases, contains_later}
use Rattle.zone_model.specs.Names.{Name, IsName, name_cmp, same_name}
use Rattle.zone_model.specs.NameOrder.{name_cmp_total, same_name_equiv}
use Rattle.zone_model.specs.Keys.{key_of}
use Rattle.zone_model.proofs.KeyLaws.{key_cmp-key_of}
use Rattle.trie_model.specs.Keys.{Entry, InList, Rises}
use Rattle.trie_model.specs.Keys as trie
use Rattle.trie_model.proofs.AboveLaws.{cmp_before}
use Rattle.zone_table.specs.Tables.{IsTable, entry_for}

-- ---- which entries there are

entry_of_listed : (origins : List Name) (origin : Name) → Contains origins origin → InList (entry_for origin) (map entry_for origins)
entry_of_listed [] origin c = absurd (let l = c.1 in omega arith)
entry_of_listed (o ∷ os) origin c = elim (contains_cases o origin os c) [ inl e ↦ inl (ap entry_for (sym e)) | inr d ↦ inr (entry_of_listed os origin d) ]

listed_of_entry : (origins : List Name) (e : Entry) → InList e (map entry_for origins) → (origin : Name) × Contains origins origin × (e ≡ entry_for origin)
listed_of_entry [] e i = absurd i
listed_of_entry (o ∷ os) e i = elim i [ inl s ↦ (o, (0, omega arith, refl), s) | inr r ↦ (let l = listed_of_entry os e r in (l.0, contains_later o l.0 os l.1, l.2)) ]

pub table_of : (origins sorted : List Name) → IsPermutation origins sorted → IsTable origins (map entry_for sorted)
table_of origins sorted p = record {
  all = λ origin c. entry_of_listed sorted origin (Contains-permutation origins sorted origin p c);
  only = λ e i. let l = listed_of_entry sorted e i in (l.0, Contains-permutation sorted origins l.0 (IsPermutation-sym origins sorted p) l.1, l.2);
}

-- ---- their order

before_by : (o : Ordering) → is_lt (ordering_reverse o) ≡ false → is_eq o ≡ false → o ≡ Less
before_by Less g e = refl
before_by Equal g e = absurd cc
before_by Greater g e = absurd cc

is_before : (a b : Name) → is_lt (name_cmp b a) ≡ false → same_name a b ≡ false → name_cmp a b ≡ Less
is_before a b g e = before_by (name_cmp a b) (ap is_lt (sym (name_cmp_total.antisymm b a)) ∙ g) e

rises_by : (origins : List Name) → AllByRecursion IsName origins → ((i j : ℕ) (d : Name) → i < j → j < length origins → name_cmp (get_or origins i d) (get_or origins j d) ≡ Less) → Rises (map entry_for origins)
rises_by [] names before = tt
rises_by (o ∷ os) names before = (
  λ y i. (
      let l = listed_of_entry os y i in
      let less : name_cmp o l.0 ≡ Less = subst (λ (n : Name). name_cmp o n ≡ Less) l.1.2 (before 0 (suc l.1.0) l.0 (omega arith) (let b = l.1.1 in omega arith)) in
      let named : IsName l.0 = subst IsName l.1.2 (All-from_recursion IsName os names.1 l.1.0 l.0 l.1.1) in
      let keys = cmp_before (key_of o) (key_of l.0) (key_cmp-key_of o l.0 names.0.each named.each ∙ less) in
      subst (λ (e : Entry). trie.Less (key_of o) e.key) (sym l.2) keys
      ),
  rises_by os names.1 (λ i j d l m. before (suc i) (suc j) d (omega arith) (omega arith)),
)

pub table_rises : (origins sorted : List Name) → AllByRecursion IsName origins → IsDistinct same_name origins → IsPermutation origins sorted → IsSorted name_cmp sorted → Rises (map entry_for sorted)
table_rises origins sorted names different p up =
    let named : AllByRecursion IsName sorted = recursion_from_All IsName sorted (All-permutation IsName origins sorted p (All-from_recursion IsName origins names)) in
    let apart = IsDistinct-IsPermutation same_name same_name_equiv.symm origins sorted p different in
    rises_by sorted named (λ i j d l m.
    is_before (get_or sorted i d) (get_or sorted j d)
    (sorted_far (λ x y. is_lt (name_cmp x y)) (ranks_by name_cmp_total (λ (n : Name). n)) sorted up i j d (omega arith) m)
    (apart_from_distinct same_name sorted i j d apart l m))
