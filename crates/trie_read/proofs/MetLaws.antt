-- The names at or above a key's, by the leaf that its way met.
use Rattle.std.proofs.Common.{◌≡◌, ℕ, suc, ◌-◌, ◌<◌, ◌≤◌, ◌⊎◌, true, false, List, [], ◌∷◌, ◌++◌, length, take, Option, Some, None, slice_get, append-nil, append_assoc, arith, inl, inr, refl, sym, ◌∙◌, ap, subst}
use Rattle.std.proofs.lemmas.Bool.{cases_lt}
use Rattle.packed_node.specs.declared.Cell.{Cell}
use Rattle.packed_node.specs.declared.Leaf.{Leaf}
use Rattle.zone_model.specs.Keys.{Leads}
use Rattle.shift_key.specs.declared.difference.Difference.{Difference}
use Rattle.shift_key.specs.Differences.{IsDifference}
use Rattle.trie_model.specs.Keys.{at, Same, IsKey, Entry, InList, Less, Rises}
use Rattle.trie_model.specs.Order.{EndsAt, begins, chain, labels_in}
use Rattle.trie_model.specs.Trees.{Tree, entries_of, IsTree}
use Rattle.trie_model.specs.Trees.Tree.{leaf}
use Rattle.trie_model.proofs.KeyLaws.{in_both}
use Rattle.trie_model.proofs.GrowthLaws.{each_entry}
use Rattle.trie_model.proofs.OrderLaws.{rises_tree}
use Rattle.trie_model.proofs.ChainLaws.{not_so, begins_same, begins_reads, not_begins, read_inside, ends_nowhere, above_of, chain-append, chain_with, chain_none}
use Rattle.trie_model.proofs.NameLaws.{name_key}
use Rattle.trie_read.specs.declared.path.Step.{Step}
use Rattle.trie_read.specs.declared.path.Path.{Path}
use Rattle.trie_read.specs.declared.iter.Met.{Met}
use Rattle.trie_read.specs.declared.ancestors.Ancestor.{Ancestor}
use Rattle.trie_read.specs.Reads.{IsNamed, FindsLeaf, EachTells}
use Rattle.trie_read.specs.Above.{AreAncestors, Passes, IsAtOrAbove, labels_of_met}
use Rattle.trie_read.specs.Readings.{IsNearest}
use Rattle.trie_read.specs.Walks.{Guided, HangsBy, LeadsToMet, Meets}
use Rattle.trie_read.proofs.PathLaws.{hangs_between, shape_at, shape_above, at_depth}
use Rattle.trie_read.proofs.TurnLaws.{some_same}
use Rattle.trie_read.proofs.GuideLaws.{guided_apart, rises_parts}
use Rattle.trie_read.proofs.AboveLaws.{ancestors_many, chain_room, passed_none, passed_one}
use Rattle.trie_read.proofs.SeekLaws.{met_cut, met_differs, sides_of, parts_of}

-- the version in three parts: what is before the path's end, what is below the node that it leads to, and what is after that; and which of them are names at or above the key's
pub record Parts (has : ℕ → Cell → Type 0) (k : List ℕ) (r : ℕ) (path : Path) (e : Entry) (version : List Entry) (d : Option Difference) : Type 0 where
  pub before : List Entry
  pub passes : Passes has k path r before
  pub part : List Entry
  pub after : List Entry
  pub is : version ≡ before ++ (part ++ after)
  pub beyond : (x : Entry) → InList x after → Less k x.key
  pub above : IsAtOrAbove k d → (chain k part ≡ e ∷ []) × (labels_of_met k d ≡ labels_in e.key)
  pub apart : (IsAtOrAbove k d → ⊥) → chain k part ≡ []

early_step : (k : List ℕ) (path : Path) (whole t : Tree) (before after : List Entry) → IsTree 0 whole → HangsBy (Guided k) path.steps whole path.depth t before after → (n : ℕ) (step : Step) → suc n ≡ path.depth → slice_get path.steps n ≡ Some step → step.offset ≤ 504
early_step k path whole t before after shape hangs n step e there =
    let h = at_depth (Guided k) path.steps whole path.depth (suc n) t before after (sym e) hangs in
    let s = ap (λ (x : Step). x.offset) (some_same h.step step (slice_get path.steps n) h.there there) in
    let up = shape_above (Guided k) path.steps whole shape n t before after h in
    let o = up.1 in omega arith

begins_itself : (key other : List ℕ) → other ≡ key → begins other key ≡ true
begins_itself key other e = begins_same other key (let n : length other ≡ length key = subst (λ (k : List ℕ). length other ≡ length k) e refl in omega arith) (λ i l. subst (λ (k : List ℕ). at other i ≡ at k i) e refl)

after_begins_not : (key other : List ℕ) → Less key other → begins other key ≡ false
after_begins_not key other less = not_so (begins other key) (λ b. let some = less.lower in let l = read_inside other less.place (omega arith) in let e = begins_reads other key b less.place l in omega arith)

-- below a node past the key's first difference: all read there as the leaf that was met
below_above : (low place : ℕ) (k : List ℕ) (t : Tree) (e : Entry) → IsKey k → IsTree low t → InList e (entries_of t) → Same place k e.key → (at k place ≡ at e.key place → ⊥) → ((x : Entry) → InList x (entries_of t) → Same (suc place) x.key e.key) → at e.key place ≡ 0 → EndsAt place k → (chain k (entries_of t) ≡ e ∷ []) × (labels_in (take place k) ≡ labels_in e.key)
below_above low place k t e kk tree there same apart alike ended ends =
    let h = above_of low place k t kk (elim (cases_lt 0 (at k place)) [ inl l ↦ l | inr g ↦ absurd (apart (omega arith)) ]) ends tree (λ x i. (each_entry low t tree x i).key)
    (λ x i j l. same j l ∙ sym (alike x i j (omega arith))) (λ x i. alike x i place (omega arith) ∙ ended) in
    let one : e ≡ h.entry = elim (subst (λ (u : Tree). InList e (entries_of u)) h.is there) [ inl y ↦ y | inr z ↦ absurd z ] in (
      ap (λ (u : Tree). chain k (entries_of u)) h.is ∙ chain_with k h.entry [] h.begins ∙ ap (λ (x : Entry). x ∷ []) (sym one),
      ap labels_in (sym h.key) ∙ ap (λ (x : Entry). labels_in x.key) (sym one),
    )

below_apart : (low place : ℕ) (k : List ℕ) (t : Tree) (e : Entry) → IsKey k → IsTree low t → Same place k e.key → (at k place ≡ at e.key place → ⊥) → ((x : Entry) → InList x (entries_of t) → Same (suc place) x.key e.key) → (at e.key place ≡ 0 → EndsAt place k → ⊥) → chain k (entries_of t) ≡ []
below_apart low place k t e kk tree same apart alike never = chain_none k (entries_of t) (λ x i. elim (cases_lt 0 (at x.key place)) [
  | inl l ↦ not_begins x.key k place l (λ y. apart (sym y ∙ alike x i place (omega arith)))
  | inr g ↦ (
      let zero : at x.key place ≡ 0 = omega arith in
      let read = alike x i place (omega arith) in
      ends_nowhere place k x.key kk (each_entry low t tree x i).key (λ j l. same j l ∙ sym (alike x i j (omega arith)))
      (elim (cases_lt 0 (at k place)) [ inl l ↦ l | inr h ↦ absurd (apart (omega arith)) ]) zero (never (omega arith))
      )
])

pub parts : (has : ℕ → Cell → Type 0) (k : List ℕ) (r : ℕ) (path : Path) (met : Met) (version : List Entry) (m : Meets has k r path met version) → Parts has k r path m.entry version met.difference
parts has k r path met version m = go met.difference refl
  where
    told : EachTells Leads (entries_of m.whole)
    told = subst (EachTells Leads) (sym m.trie.holds) m.told

    go : (d : Option Difference) → met.difference ≡ d → Parts has k r path m.entry version d
    go None e =
        let x = subst (LeadsToMet has k path m.whole m.entry met.leaf) e m.leads in
        let same = subst (IsDifference k m.entry.key) e m.differs in
        let before = x.1.0 in let after = x.1.1.0 in
        let whole : version ≡ before ++ (m.entry ∷ after) = sym (hangs_between (Guided k) path.steps m.whole path.depth (leaf m.entry x.0) before after x.1.1.1 ∙ m.trie.holds) in
        let rises : Rises version = subst Rises m.trie.holds (rises_tree 0 m.whole m.trie.shape) in
        let p = rises_parts before (m.entry ∷ after) (subst Rises whole rises) in
        record {
          before = before;
          passes = record {
            whole = m.whole;
            tree = leaf m.entry x.0;
            after = after;
            top = m.trie.top;
            leads = record { shape = m.trie.shape; beneath = m.trie.beneath; hangs = x.1.1.1 };
            told = told;
            met = m.entry;
            there = inl refl;
            place = 504;
            same = λ i l. ap (λ (z : List ℕ). at z i) same;
            early = early_step k path m.whole (leaf m.entry x.0) before after m.trie.shape x.1.1.1;
          };
          part = m.entry ∷ [];
          after = after;
          is = whole;
          beyond = λ y i. subst (λ (z : List ℕ). Less z y.key) (sym same) (p.1.0 y i);
          above = λ u. (chain_with k m.entry [] (begins_itself k m.entry.key (sym same)), ap labels_in same);
          apart = λ never. absurd (never tt);
        }
    go (Some d) e =
        let c = met_cut has k r path met version d m e in
        let differs = met_differs has k r path met version d m e in
        let shape = shape_at (Guided k) path.steps m.whole m.trie.shape path.depth c.tree c.before c.after c.hangs in
        record {
          before = c.before;
          passes = record {
            whole = m.whole;
            tree = c.tree;
            after = c.after;
            top = m.trie.top;
            leads = record { shape = m.trie.shape; beneath = m.trie.beneath; hangs = c.hangs };
            told = told;
            met = m.entry;
            there = c.there;
            place = d.place;
            same = differs.0.before;
            early = c.early;
          };
          part = entries_of c.tree;
          after = c.after;
          is = parts_of has k r path met version d.place m c;
          beyond = (sides_of has k r path met version d m e c).1;
          above = λ u. below_above path.depth d.place k c.tree m.entry (name_key k m.is_key) shape c.there differs.0.before differs.0.differ c.alike (sym differs.1 ∙ u.0) u.1;
          apart = λ never. below_apart path.depth d.place k c.tree m.entry (name_key k m.is_key) shape differs.0.before differs.0.differ c.alike (λ z ends. never (differs.1 ∙ z, ends));
        }

-- ---- the names at or above the key's
decide_above : (k : List ℕ) (d : Option Difference) → IsAtOrAbove k d ⊎ (IsAtOrAbove k d → ⊥)
decide_above k None = inl tt
decide_above k (Some d) = elim (cases_lt 0 d.position) [
  | inl l ↦ inr (λ u. let e = u.0 in omega arith)
  | inr g ↦ elim (cases_lt 0 d.place) [
    | inl l ↦ elim (cases_lt 0 (at k (d.place - 1))) [
      | inl m ↦ inr (λ u. elim u.1 [ inl z ↦ omega arith | inr z ↦ omega arith ])
      | inr h ↦ inl (let z : d.position ≡ 0 = omega arith in z, inr (omega arith))
    ]
    | inr h ↦ inl (let z : d.position ≡ 0 = omega arith in z, inl (omega arith))
  ]
]

chain_whole : (k : List ℕ) (version front part after : List Entry) → version ≡ front ++ (part ++ after) → ((x : Entry) → InList x after → Less k x.key) → chain k version ≡ chain k (front ++ part)
chain_whole k version front part after is beyond =
    ap (chain k) (is ∙ sym (append_assoc front part after)) ∙ chain-append k (front ++ part) after
    ∙ ap (λ (es : List Entry). chain k (front ++ part) ++ es) (chain_none k after (λ x i. after_begins_not k x.key (beyond x i))) ∙ append-nil (chain k (front ++ part))

pub met_room : (has : ℕ → Cell → Type 0) (k : List ℕ) (r : ℕ) (path : Path) (met : Met) (version : List Entry) (m : Meets has k r path met version) (p : Parts has k r path m.entry version met.difference) (names : List Ancestor) →
    AreAncestors (IsNamed has) (chain k p.before) names → IsAtOrAbove k met.difference → length names < 128
met_room has k r path met version m p names h u =
    let room = chain_room k p.before p.part p.after m.whole m.entry m.is_key m.trie.shape (sym (m.trie.holds ∙ p.is)) (p.above u).0 in
    let many = ancestors_many (IsNamed has) (chain k p.before) names h in omega arith

pub met_added : (has : ℕ → Cell → Type 0) (k : List ℕ) (r : ℕ) (path : Path) (met : Met) (version : List Entry) (m : Meets has k r path met version) (p : Parts has k r path m.entry version met.difference) (names new : List Ancestor) →
    AreAncestors (IsNamed has) (chain k p.before) names → (IsAtOrAbove k met.difference → (a : Ancestor) × (a.leaf ≡ met.leaf) × (a.labels ≡ labels_of_met k met.difference) × (new ≡ names ++ (a ∷ []))) → ((IsAtOrAbove k met.difference → ⊥) → new ≡ names) →
    AreAncestors (IsNamed has) (chain k version) new
met_added has k r path met version m p names new h added not_added =
    subst (λ (es : List Entry). AreAncestors (IsNamed has) es new) (sym (chain_whole k version p.before p.part p.after p.is p.beyond)) (elim (decide_above k met.difference) [
      | inl u ↦ (
          let a = added u in let x = p.above u in
          let named : IsNamed has a.0.leaf m.entry = subst (λ (l : Leaf). IsNamed has l m.entry) (sym a.1) (m.leaf_of, m.told m.entry m.there) in
          subst (AreAncestors (IsNamed has) (chain k (p.before ++ p.part))) (sym a.3) (passed_one (IsNamed has) k p.before p.part (p.before ++ p.part) names m.entry a.0 refl x.0 named (a.2 ∙ x.1) h)
          )
      | inr never ↦ subst (AreAncestors (IsNamed has) (chain k (p.before ++ p.part))) (sym (not_added never)) (passed_none (IsNamed has) k p.before p.part (p.before ++ p.part) names refl (p.apart never) h)
    ])

-- ---- the leaf of the key
pub met_is : (has : ℕ → Cell → Type 0) (k : List ℕ) (r : ℕ) (path : Path) (met : Met) (version : List Entry) → Meets has k r path met version → met.difference ≡ None → FindsLeaf (IsNamed has) k version (Some met.leaf)
met_is has k r path met version m e = (m.entry, m.there, sym (subst (IsDifference k m.entry.key) e m.differs), (m.leaf_of, m.told m.entry m.there))

less_apart : (a b : List ℕ) → Less a b → a ≡ b → ⊥
less_apart a b less e = let l = less.lower in let s = ap (λ (z : List ℕ). at z less.place) e in omega arith

pub met_other : (has : ℕ → Cell → Type 0) (k : List ℕ) (r : ℕ) (path : Path) (met : Met) (version : List Entry) (d : Difference) → Meets has k r path met version → met.difference ≡ Some d → FindsLeaf (IsNamed has) k version None
met_other has k r path met version d m e x i same =
    let c = met_cut has k r path met version d m e in
    let differs = met_differs has k r path met version d m e in
    let sides = sides_of has k r path met version d m e c in
    elim (in_both x c.before (entries_of c.tree ++ c.after) (subst (InList x) (parts_of has k r path met version d.place m c) i)) [
      | inl a ↦ less_apart x.key k (sides.0 x a) same
      | inr b ↦ elim (in_both x (entries_of c.tree) c.after b) [
        | inl y ↦ differs.0.differ (ap (λ (z : List ℕ). at z d.place) (sym same) ∙ c.alike x y d.place (omega arith))
        | inr z ↦ less_apart k x.key (sides.1 x z) (sym same)
      ]
    ]

-- ---- the leaf that the key is nearest to
pub met_nearest : (has : ℕ → Cell → Type 0) (k : List ℕ) (r : ℕ) (path : Path) (met : Met) (version : List Entry) → Meets has k r path met version → IsNearest (IsNamed has) k version met
met_nearest has k r path met version m = record {
  entry = m.entry;
  there = m.there;
  leaf = (m.leaf_of, m.told m.entry m.there);
  differs = m.differs;
  most = λ d e x i same.
      let c = met_cut has k r path met version d m e in
      let differs = met_differs has k r path met version d m e in
      let apart = guided_apart k path.steps m.whole m.trie.shape path.depth c.tree c.before c.after c.hangs d.place c.early x in
      elim (in_both x c.before (entries_of c.tree ++ c.after) (subst (InList x) (parts_of has k r path met version d.place m c) i)) [
        | inl a ↦ apart (inl a) same
        | inr b ↦ elim (in_both x (entries_of c.tree) c.after b) [
          | inl y ↦ differs.0.differ (same d.place (omega arith) ∙ c.alike x y d.place (omega arith))
          | inr z ↦ apart (inr z) same
        ]
      ];
}
