-- A version of the table has few cells, so that its index has room for it.
use Rattle.std.proofs.Common.{◌≡◌, ◌∙◌, inl, inr, ℕ, zero, suc, ◌+◌, ◌*◌, ◌<◌, ◌≤◌, List, [], ◌∷◌, ◌++◌, length, arith, refl, sym, ap, subst, length-append}
use Rattle.std.specs.List.{AllByRecursion, Contains}
use Rattle.std.proofs.lemmas.List.Elements.{Contains-append_left, Contains-append_right, Contains-append_cases}
use Rattle.pin_core.proofs.Lists.{contains_cases}
use Rattle.zone_model.specs.Names.{Name, IsName, IsLabel, wire}
use Rattle.zone_model.specs.Keys.{key_of}
use Rattle.trie_model.specs.Extents.{content_cells, links}
use Rattle.trie_model.specs.Keys.{Entry, IsEntry, AreOctets, InList, Less, Rises}
use Rattle.trie_model.specs.Shape.{cells}
use Rattle.trie_model.specs.Trees.{Tree, Twigs, IsTree, AreTwigs, entries_of, entries, count}
use Rattle.trie_model.specs.Trees.Tree.{leaf, branch}
use Rattle.trie_model.specs.Trees.Twigs.{none, twig}
use Rattle.trie_model.proofs.ExtentLaws.{weigh_ones}
use Rattle.trie_model.proofs.KeyLaws.{in_left, in_right}
use Rattle.trie_model.proofs.NameLaws.{name_key}
use Rattle.trie_model.proofs.OutlineLaws.{EachIsEntry, outline_of}
use Rattle.trie_model.proofs.SizeLaws.{one, size, twig_sizes, size_is, size_branch, row_ones, no_cells}
use Rattle.zone_table.specs.Tables.{AreOf, IsPart, entry_for}
use Rattle.zone_table.proofs.Lists.{each_in}
use Rattle.dns_name.proofs.BodyLemmas.{all_append, wire_positive}

-- ---- no more entries than origins

not_itself : (k : List ℕ) → Less k k → ⊥
not_itself k l = let less = l.lower in absurd (omega arith)

-- an element, and the list without it
parted : (xs : List Name) (x : Name) → Contains xs x → (a : List Name) × ((b : List Name) × (xs ≡ a ++ (x ∷ b)))
parted [] x c = absurd (let l = c.1 in omega arith)
parted (y ∷ ys) x c = elim (contains_cases y x ys c) [ inl e ↦ ([], (ys, ap (λ (z : Name). z ∷ ys) e)) | inr d ↦ (let p = parted ys x d in (y ∷ p.0, (p.1.0, ap (λ (l : List Name). y ∷ l) p.1.1))) ]

still_there : (a b : List Name) (x y : Name) → Contains (a ++ (x ∷ b)) y → (x ≡ y → ⊥) → Contains (a ++ b) y
still_there a b x y c other = elim (Contains-append_cases a (x ∷ b) y c) [
  | inl l ↦ Contains-append_left a b y l
  | inr r ↦ elim (contains_cases x y b r) [ inl e ↦ absurd (other e) | inr d ↦ Contains-append_right a b y d ]
]

few_entries : (es : List Entry) (origins : List Name) → Rises es → AreOf origins es → length es ≤ length origins
few_entries [] origins rises of = omega arith
few_entries (e ∷ es) origins rises of =
    let o = of e (inl refl) in
    let p = parted origins o.0 o.1 in
    let rest : AreOf (p.0 ++ p.1.0) es = λ x i. (
    let q = of x (inr i) in
    let apart : o.0 ≡ q.0 → ⊥ = λ same. not_itself e.key (subst (λ (k : List ℕ). Less e.key k) (ap (λ (z : Entry). z.key) q.2 ∙ ap key_of (sym same) ∙ sym (ap (λ (z : Entry). z.key) o.2)) (rises.0 x i)) in
    (q.0, still_there p.0 p.1.0 o.0 q.0 (subst (λ (l : List Name). Contains l q.0) p.1.1 q.1) apart, q.2)
    ) in
    let fewer = few_entries es (p.0 ++ p.1.0) rises.1 rest in
    let a = length-append p.0 p.1.0 in
    let b = ap (λ (l : List Name). length l) p.1.1 ∙ length-append p.0 (o.0 ∷ p.1.0) in omega arith

-- ---- they are entries of a trie

wire_octets : (name : Name) → AllByRecursion IsLabel name → AllByRecursion (λ c. c < 256) (wire name)
wire_octets [] h = (omega arith, tt)
wire_octets (label ∷ labels) h = (let s = h.0.short in omega arith, all_append (λ c. c < 256) label (wire labels) h.0.octets (wire_octets labels h.1))

are_octets : (xs : List ℕ) → AllByRecursion (λ c. c < 256) xs → AreOctets xs
are_octets [] h i = omega arith
are_octets (x ∷ xs) h zero = h.0
are_octets (x ∷ xs) h (suc i) = are_octets xs h.1 i

is_entry : (origin : Name) → IsName origin → IsEntry (entry_for origin)
is_entry origin is = record {
  key = name_key (key_of origin) (origin, is, refl);
  item = record { some = wire_positive origin; short = (let s = is.short in omega arith); octets = are_octets (wire origin) (wire_octets origin is.each) };
}

each_entry : (origins : List Name) → AllByRecursion IsName origins → (es : List Entry) → AreOf origins es → EachIsEntry es
each_entry origins names [] of = tt
each_entry origins names (e ∷ es) of =
    let o = of e (inl refl) in
    (subst IsEntry (sym o.2) (is_entry o.0 (each_in IsName origins names o.0 o.1)), each_entry origins names es (λ x i. of x (inr i)))

short_items : (origins : List Name) → AllByRecursion IsName origins → (es : List Entry) → AreOf origins es → (e : Entry) → InList e es → length e.item ≤ 255
short_items origins names es of e i =
    let o = of e i in
    let s = (each_in IsName origins names o.0 o.1).short in
    subst (λ (x : Entry). length x.item ≤ 255) (sym o.2) s

-- ---- how many cells they take

mutual
  size_most : (low : ℕ) (t : Tree) → IsTree low t → ((e : Entry) → InList e (entries_of t) → length e.item ≤ 255) → size t + 1 ≤ 18 * length (entries_of t)
  size_most low (leaf e x) is short =
      let item = short e (inl refl) in
      let all = weigh_ones one row_ones (length e.item) x is.1 in
      let few : content_cells (length e.item) + links (length e.item) ≤ 16 = omega arith in omega arith
  size_most low (branch o w below) is short =
      let sum = size_branch o w below in
      let two = is.3 in
      let parts = sizes_most o 0 below is.5 short in omega arith

  sizes_most : (o low : ℕ) (ts : Twigs) → AreTwigs o low ts → ((e : Entry) → InList e (entries ts) → length e.item ≤ 255) → twig_sizes ts + count ts ≤ 18 * length (entries ts)
  sizes_most o low none is short = omega arith
  sizes_most o low (twig p t rest) is short =
      let here = size_most (suc o) t is.3 (λ e i. short e (in_left e (entries_of t) (entries rest) i)) in
      let more = sizes_most o (suc p) rest is.4 (λ e i. short e (in_right e (entries_of t) (entries rest) i)) in
      let both = length-append (entries_of t) (entries rest) in omega arith

pub few_cells : (origins : List Name) (es : List Entry) → AllByRecursion IsName origins → length origins ≤ 16 → IsPart origins es → cells es ≤ 287
few_cells origins [] names few part = let n = no_cells in omega arith
few_cells origins (e ∷ es) names few part =
    let fewer = few_entries (e ∷ es) origins part.rising part.only in
    let o = outline_of e es (each_entry origins names (e ∷ es) part.only) part.rising in
    let n = ap (λ (l : List Entry). length l) o.holds in
    let c = ap cells (sym o.holds) ∙ size_is 0 o.tree o.is_tree in
    let most = size_most 0 o.tree o.is_tree (λ x i. short_items origins names (e ∷ es) part.only x (subst (InList x) o.holds i)) in omega arith
