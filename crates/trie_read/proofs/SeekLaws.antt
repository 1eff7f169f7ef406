-- Where an iterator stands after it sought a key.
use Rattle.std.proofs.Common.{◌≡◌, ℕ, ◌<◌, List, ◌∷◌, ◌++◌, Option, Some, None, arith, inl, inr, refl, sym, ◌∙◌, subst}
use Rattle.std.proofs.lemmas.Bool.{cases_lt}
use Rattle.packed_node.specs.declared.Cell.{Cell}
use Rattle.packed_node.specs.declared.Leaf.{Leaf}
use Rattle.zone_model.specs.Keys.{Leads, IsKey as IsNameKey}
use Rattle.shift_key.specs.declared.difference.Difference.{Difference}
use Rattle.shift_key.specs.Differences.{IsDifference}
use Rattle.trie_model.specs.Keys.{at, Entry, InList, Less, Rises}
use Rattle.trie_model.specs.Trees.{Tree, entries_of}
use Rattle.trie_model.specs.Trees.Tree.{leaf}
use Rattle.trie_model.specs.Memory.{IsTrieAt, Stands}
use Rattle.trie_model.proofs.KeyLaws.{in_right}
use Rattle.trie_model.proofs.OrderLaws.{rises_tree}
use Rattle.trie_read.specs.declared.path.Step.{Step}
use Rattle.trie_read.specs.declared.path.Path.{Path}
use Rattle.trie_read.specs.declared.iter.Cursor.{Cursor}
use Rattle.trie_read.specs.declared.iter.Cursor.TheVariants.{Facing, Past}
use Rattle.trie_read.specs.declared.iter.Iter.{Iter}
use Rattle.trie_read.specs.declared.iter.Met.{Met}
use Rattle.trie_read.specs.Reads.{EachTells}
use Rattle.trie_read.specs.Readings.{AtSplit}
use Rattle.trie_read.specs.Walks.{HangsBy, AnyStep, Guided, IsPath, LeadsTo, HasNode, Approached, CutAt, LeadsToMet, Meets, OnLeaf, Faces, HasPassed, IsAt, StandsBetween}
use Rattle.trie_read.proofs.PathLaws.{hangs_kept, hangs_between}
use Rattle.trie_read.proofs.GuideLaws.{guided_sides, split_here, split_after, split_before, all_before, all_after}
use Rattle.trie_read.proofs.IterLaws.{trie_as}

pub unguided : (k : List ℕ) (steps : List Step) (whole : Tree) (n : ℕ) (t : Tree) (before after : List Entry) → HangsBy (Guided k) steps whole n t before after → HangsBy AnyStep steps whole n t before after
unguided k steps whole n t before after h = hangs_kept (Guided k) AnyStep (λ s l t r g. tt) steps steps whole n (λ i l. refl) t before after h

pub unguided_leads : (k : List ℕ) (has : ℕ → Cell → Type 0) (path : Path) (whole t : Tree) (before after : List Entry) → LeadsTo (Guided k) has path whole t before after → LeadsTo AnyStep has path whole t before after
unguided_leads k has path whole t before after l = record { shape = l.shape; beneath = l.beneath; hangs = unguided k path.steps whole path.depth t before after l.hangs }

-- what a search for the key found, in the trie of this version
pub record Sought (has : ℕ → Cell → Type 0) (k : List ℕ) (r : ℕ) (root : Option ℕ) (version : List Entry) (path : Path) (l : Leaf) : Type 0 where
  pub is : root ≡ Some r
  pub whole : Tree
  pub trie : IsTrieAt has r whole version
  pub at : Approached k has path whole l

pub sought_of : (has : ℕ → Cell → Type 0) (k : List ℕ) (r : ℕ) (root : Option ℕ) (iter : Iter) (path : Path) (l : Leaf) (before after : List Entry) → StandsBetween has root iter before after → iter.root ≡ Some r →
    ((whole : Tree) (version : List Entry) → IsTrieAt has r whole version → Approached k has path whole l) → Sought has k r root (before ++ after) path l
sought_of has k r root iter path l before after s e go =
    let is : root ≡ Some r = sym s.root_is ∙ e in
    let h = subst (λ (o : Option ℕ). Stands has o (before ++ after)) is s.stands in
    record { is = is; whole = h.0; trie = h.1; at = go h.0 (before ++ after) h.1 }

pub sought_in : (has : ℕ → Cell → Type 0) (k : List ℕ) (r : ℕ) (root : Option ℕ) (version : List Entry) (path : Path) (l : Leaf) (s : Sought has k r root version path l) → s.at.before ++ (s.at.entry ∷ s.at.after) ≡ version
sought_in has k r root version path l s = hangs_between (Guided k) path.steps s.whole path.depth (leaf s.at.entry s.at.leaf.extents) s.at.before s.at.after s.at.leaf.leads.hangs ∙ s.trie.holds

pub sought_told : (has : ℕ → Cell → Type 0) (k : List ℕ) (r : ℕ) (root : Option ℕ) (version : List Entry) (path : Path) (l : Leaf) (s : Sought has k r root version path l) → EachTells Leads version → Leads s.at.entry.key s.at.entry.item
sought_told has k r root version path l s told = told s.at.entry (subst (InList s.at.entry) (sought_in has k r root version path l s) (in_right s.at.entry s.at.before (s.at.entry ∷ s.at.after) (inl refl)))

pub sought_path : (has : ℕ → Cell → Type 0) (k : List ℕ) (r : ℕ) (root : Option ℕ) (version : List Entry) (path : Path) (l : Leaf) → Sought has k r root version path l → IsPath path
sought_path has k r root version path l s = record { whole = s.whole; tree = leaf s.at.entry s.at.leaf.extents; before = s.at.before; after = s.at.after; shape = s.trie.shape; hangs = unguided k path.steps s.whole path.depth (leaf s.at.entry s.at.leaf.extents) s.at.before s.at.after s.at.leaf.leads.hangs }

-- ---- what was met
pub meets_of : (has : ℕ → Cell → Type 0) (k : List ℕ) (r : ℕ) (root : Option ℕ) (version : List Entry) (path new : Path) (l : Leaf) (d : Option Difference) (s : Sought has k r root version path l) → IsNameKey k → EachTells Leads version → IsDifference k s.at.entry.key d → LeadsToMet has k new s.whole s.at.entry l d → Meets has k r new (record { leaf = l; difference = d }) version
meets_of has k r root version path new l d s kk told differs leads = record {
  whole = s.whole;
  trie = s.trie;
  told = told;
  is_key = kk;
  entry = s.at.entry;
  there = subst (InList s.at.entry) (sought_in has k r root version path l s) (in_right s.at.entry s.at.before (s.at.entry ∷ s.at.after) (inl refl));
  leaf_of = s.at.leaf.leaf_of;
  differs = differs;
  leads = leads;
}

pub met_cut : (has : ℕ → Cell → Type 0) (k : List ℕ) (r : ℕ) (path : Path) (met : Met) (version : List Entry) (d : Difference) (m : Meets has k r path met version) → met.difference ≡ Some d → CutAt k path m.whole m.entry d.place
met_cut has k r path met version d m e = subst (LeadsToMet has k path m.whole m.entry met.leaf) e m.leads

pub met_differs : (has : ℕ → Cell → Type 0) (k : List ℕ) (r : ℕ) (path : Path) (met : Met) (version : List Entry) (d : Difference) (m : Meets has k r path met version) → met.difference ≡ Some d → IsDifference k m.entry.key (Some d)
met_differs has k r path met version d m e = subst (IsDifference k m.entry.key) e m.differs

pub cut_leads : (has : ℕ → Cell → Type 0) (k : List ℕ) (r : ℕ) (path : Path) (met : Met) (version : List Entry) (place : ℕ) (m : Meets has k r path met version) (c : CutAt k path m.whole m.entry place) → LeadsTo AnyStep has path m.whole c.tree c.before c.after
cut_leads has k r path met version place m c = record { shape = m.trie.shape; beneath = m.trie.beneath; hangs = unguided k path.steps m.whole path.depth c.tree c.before c.after c.hangs }

pub cut_node : (has : ℕ → Cell → Type 0) (k : List ℕ) (r : ℕ) (path : Path) (met : Met) (version : List Entry) (place : ℕ) (m : Meets has k r path met version) → CutAt k path m.whole m.entry place → HasNode has path r path.depth
cut_node has k r path met version place m c = record {
  whole = m.whole;
  tree = c.tree;
  before = c.before;
  after = c.after;
  at = record { top = m.trie.top; shape = m.trie.shape; beneath = m.trie.beneath; hangs = unguided k path.steps m.whole path.depth c.tree c.before c.after c.hangs };
}

met_stands : (has : ℕ → Cell → Type 0) (k : List ℕ) (r : ℕ) (path : Path) (met : Met) (version before after : List Entry) → Meets has k r path met version → version ≡ before ++ after → Stands has (Some r) (before ++ after) × EachTells Leads (before ++ after)
met_stands has k r path met version before after m e = (subst (Stands has (Some r)) e (m.whole, m.trie), subst (EachTells Leads) e m.told)

-- ---- where it stands then
pub stands_here : (has : ℕ → Cell → Type 0) (k : List ℕ) (r : ℕ) (met : Met) (version : List Entry) (new : Iter) (m : Meets has k r new.path met version) → met.difference ≡ None → new.root ≡ Some r → new.place ≡ Facing met.leaf → AtSplit (StandsBetween has (Some r) new) k version
stands_here has k r met version new m e root place =
    let x = subst (LeadsToMet has k new.path m.whole m.entry met.leaf) e m.leads in
    let same = subst (IsDifference k m.entry.key) e m.differs in
    let before = x.1.0 in let after = x.1.1.0 in
    let whole : version ≡ before ++ (m.entry ∷ after) = sym (hangs_between (Guided k) new.path.steps m.whole new.path.depth (leaf m.entry x.0) before after x.1.1.1 ∙ m.trie.holds) in
    let rises : Rises version = subst Rises m.trie.holds (rises_tree 0 m.whole m.trie.shape) in
    let s = met_stands has k r new.path met version before (m.entry ∷ after) m whole in
    let leads : LeadsTo AnyStep has new.path m.whole (leaf m.entry x.0) before after = record { shape = m.trie.shape; beneath = m.trie.beneath; hangs = unguided k new.path.steps m.whole new.path.depth (leaf m.entry x.0) before after x.1.1.1 } in
    let on : OnLeaf has (Some r) new.path met.leaf before m.entry after = record { at = r; root_is = refl; whole = m.whole; trie = trie_as has r m.whole version (before ++ (m.entry ∷ after)) m.trie (m.trie.holds ∙ whole); leaf = record { extents = x.0; leads = leads; leaf_of = m.leaf_of } } in
    record {
      before = before;
      after = m.entry ∷ after;
      split = split_here k version before after m.entry rises whole (sym same);
      standing = record {
        root_is = root;
        stands = s.0;
        told = s.1;
        place = subst (λ (p : Cursor). IsAt has (Some r) new.path p before (m.entry ∷ after)) (sym place) (record { entry = m.entry; rest = after; is = refl; on = on });
      };
    }

-- what the key's first difference from the leaf that was met tells of all the version
pub sides_of : (has : ℕ → Cell → Type 0) (k : List ℕ) (r : ℕ) (path : Path) (met : Met) (version : List Entry) (d : Difference) (m : Meets has k r path met version) (e : met.difference ≡ Some d) (c : CutAt k path m.whole m.entry d.place) → ((x : Entry) → InList x c.before → Less x.key k) × ((x : Entry) → InList x c.after → Less k x.key)
sides_of has k r path met version d m e c =
    let differs = met_differs has k r path met version d m e in
    guided_sides k path.steps m.whole m.trie.shape path.depth c.tree c.before c.after c.hangs m.entry c.there d.place differs.0.before (λ n step f there. c.early n step f there)

pub parts_of : (has : ℕ → Cell → Type 0) (k : List ℕ) (r : ℕ) (path : Path) (met : Met) (version : List Entry) (place : ℕ) (m : Meets has k r path met version) (c : CutAt k path m.whole m.entry place) → version ≡ c.before ++ (entries_of c.tree ++ c.after)
parts_of has k r path met version place m c = sym (hangs_between (Guided k) path.steps m.whole path.depth c.tree c.before c.after c.hangs ∙ m.trie.holds)

pub stands_past : (has : ℕ → Cell → Type 0) (k : List ℕ) (r : ℕ) (path : Path) (met : Met) (version : List Entry) (d : Difference) (m : Meets has k r path met version) (e : met.difference ≡ Some d) (new : Iter) (l : Leaf) → d.position < at k d.place → new.root ≡ Some r → new.place ≡ Past l →
    ((c : CutAt k path m.whole m.entry d.place) → HasPassed has (Some r) new.path l (c.before ++ entries_of c.tree) c.after) → AtSplit (StandsBetween has (Some r) new) k version
stands_past has k r path met version d m e new l less root placed passed =
    let c = met_cut has k r path met version d m e in
    let differs = met_differs has k r path met version d m e in
    let sides = sides_of has k r path met version d m e c in
    let split = split_after k version c.before (entries_of c.tree) c.after (parts_of has k r path met version d.place m c) sides.0 (all_before k m.entry (entries_of c.tree) d.place differs.0.before (let p = differs.1 in omega arith) c.alike) sides.1 in
    let s = met_stands has k r path met version (c.before ++ entries_of c.tree) c.after m split.whole in
    record {
      before = c.before ++ entries_of c.tree;
      after = c.after;
      split = split;
      standing = record { root_is = root; stands = s.0; told = s.1; place = subst (λ (p : Cursor). IsAt has (Some r) new.path p (c.before ++ entries_of c.tree) c.after) (sym placed) (passed c) };
    }

pub stands_facing : (has : ℕ → Cell → Type 0) (k : List ℕ) (r : ℕ) (path : Path) (met : Met) (version : List Entry) (d : Difference) (m : Meets has k r path met version) (e : met.difference ≡ Some d) (new : Iter) (l : Leaf) → (d.position < at k d.place → ⊥) → new.root ≡ Some r → new.place ≡ Facing l →
    ((c : CutAt k path m.whole m.entry d.place) → Faces has (Some r) new.path l c.before (entries_of c.tree ++ c.after)) → AtSplit (StandsBetween has (Some r) new) k version
stands_facing has k r path met version d m e new l never root placed faces =
    let c = met_cut has k r path met version d m e in
    let differs = met_differs has k r path met version d m e in
    let sides = sides_of has k r path met version d m e c in
    let more : at k d.place < at m.entry.key d.place = elim (cases_lt (at k d.place) (at m.entry.key d.place)) [
      | inl l ↦ l
      | inr g ↦ absurd (elim (cases_lt (at m.entry.key d.place) (at k d.place)) [ inl u ↦ never (let p = differs.1 in omega arith) | inr v ↦ differs.0.differ (omega arith) ])
    ] in
    let split = split_before k version c.before (entries_of c.tree) c.after (parts_of has k r path met version d.place m c) sides.0 (all_after k m.entry (entries_of c.tree) d.place differs.0.before more c.alike) sides.1 in
    let s = met_stands has k r path met version c.before (entries_of c.tree ++ c.after) m split.whole in
    record {
      before = c.before;
      after = entries_of c.tree ++ c.after;
      split = split;
      standing = record { root_is = root; stands = s.0; told = s.1; place = subst (λ (p : Cursor). IsAt has (Some r) new.path p c.before (entries_of c.tree ++ c.after)) (sym placed) (faces c) };
    }
