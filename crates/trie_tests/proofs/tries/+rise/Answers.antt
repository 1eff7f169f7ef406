use Rattle.std.proofs.Common.{◌≡◌, ℕ, ◌-◌, ◌<◌, ◌≤◌, inl, inr, List, [], ◌∷◌, length, drop, length-drop, get_or, arith, refl, sym, ◌∙◌, subst}
use Rattle.std.proofs.lemmas.Bool.{cases_lt}
use Rattle.std.proofs.lemmas.List.{take_all}
use Rattle.trie_model.specs.Keys.{at, Entry, Less, Rises}
use Rattle.trie_write.specs.declared.item.Item.{Item}
use Rattle.trie_write.specs.Entries.{entry_of, entries_of_items}
use Rattle.trie_tests.proofs.tries.+rise.Goals as goal

less_then : (a b c : List ℕ) → Less a b → Less b c → Less a c
less_then a b c l m = elim (cases_lt l.place m.place) [
  | inl x ↦ record { place = l.place; same = λ i k. l.same i k ∙ m.same i (omega arith); lower = (let e = m.same l.place x in let f = l.lower in omega arith) }
  | inr y ↦ elim (cases_lt m.place l.place) [
    | inl x ↦ record { place = m.place; same = λ i k. l.same i (omega arith) ∙ m.same i k; lower = (let e = l.same m.place x in let f = m.lower in omega arith) }
    | inr z ↦ (
        let e : l.place ≡ m.place = omega arith in
        let f = subst (λ (i : ℕ). at b i < at c i) (sym e) m.lower in
        record { place = l.place; same = λ i k. l.same i k ∙ m.same i (omega arith); lower = (let g = l.lower in omega arith) }
        )
  ]
]

rises_on : (items : List Item) (x y : Item) → 2 ≤ length items → x ≡ get_or items 0 x → y ≡ get_or items 1 y → Less (entry_of x).key (entry_of y).key → Rises (entries_of_items (drop 1 items)) → Rises (entries_of_items items)
rises_on [] x y n ex ey l r = tt
rises_on (a ∷ []) x y n ex ey l r = absurd (omega arith)
rises_on (a ∷ b ∷ more) x y n ex ey l r =
    let here : Less (entry_of a).key (entry_of b).key = subst (λ (u : Item). Less (entry_of u).key (entry_of b).key) ex (subst (λ (v : Item). Less (entry_of x).key (entry_of v).key) ey l) in
    (λ z i. elim i [ inl e ↦ subst (λ (w : Entry). Less (entry_of a).key w.key) (sym e) here | inr j ↦ less_then (entry_of a).key (entry_of b).key z.key here (r.0 z j) ], r)

few_rise : (items : List Item) → length items < 2 → Rises (entries_of_items items)
few_rise [] l = tt
few_rise (a ∷ []) l = (λ z i. absurd i, tt)
few_rise (a ∷ b ∷ more) l = absurd (omega arith)

pub returns-then-items-lt2 : goal.returns-then-items-lt2
returns-then-items-lt2 t c all = few_rise c.args.items.now c.if-items-lt2.true

pub returns-then-comes_before : goal.returns-then-comes_before
returns-then-comes_before t c all =
    let before = subst (λ (k : List ℕ). Less k c.key-2.result) c.key.ensures (c.if-comes_before.ensures refl) in
    rises_on c.args.items.now c.index-items-0.result c.index-items-1.result c.if-items-lt2.false c.index-items-0.is c.index-items-1.is (subst (Less (entry_of c.index-items-0.result).key) c.key-2.ensures before)
    (subst (λ (xs : List Item). Rises (entries_of_items xs)) (take_all (length c.args.items.now - 1) (drop 1 c.args.items.now) (let n = length-drop 1 c.args.items.now in omega arith)) (c.rise.ensures all))
