-- The way to a key's leaf, and the leaf exchanged.
use Rattle.std.proofs.Common.{◌≡◌, ℕ, ◌+◌, ◌%◌, ◌<◌, ◌≤◌, ◌++◌, Bool, true, List, map, Option, Some, length, arith, inl, inr, refl, sym, ◌∙◌, ap, subst}
use Rattle.packed_node.specs.declared.Cell.{Cell}
use Rattle.packed_node.specs.declared.Leaf.{Leaf}
use Rattle.packed_node.specs.Nodes.{leaf_cell}
use Rattle.trie_model.specs.Extents.{Extents, first_of as place_of, AreExtents, ItemLies}
use Rattle.chunk_cells.specs.Laying.{extents_in}
use Rattle.trie_write.specs.Laid.{HandedItem, IsItemAt}
use Rattle.trie_write.proofs.LaidLaws.{item_span_is, item_are, laid_top, item_fresh}
use Rattle.trie_model.specs.Keys.{at, Entry, IsEntry, InList}
use Rattle.trie_model.specs.Memory.{top_cell, Stands}
use Rattle.trie_model.specs.Reach.{in_chunk}
use Rattle.trie_model.specs.Trees.{Tree, entries_of, IsTree}
use Rattle.trie_model.specs.Trees.Tree.{leaf, branch}
use Rattle.trie_model.proofs.DropLaws.{higher}
use Rattle.chunk_usage.specs.Rooms.{Account}
use Rattle.trie_write.specs.Asks.{HasKey}
use Rattle.trie_write.specs.Exchanges.{Exchanged}
use Rattle.trie_write.specs.declared.change.CellChange.{CellChange}
use Rattle.trie_write.specs.declared.change.Span.{Span}
use Rattle.trie_write.specs.Puts.{span, Makes, IsTaken, IsPut}
use Rattle.chunk_usage.specs.declared.space.Shortage.{Shortage}
use Rattle.trie_space.specs.Spaces.{Fenced, Refused}
use Rattle.zone_model.specs.Keys.{Leads}
use Rattle.trie_read.specs.Reads.{IsTop, EachTells}
use Rattle.trie_write.specs.Paths.{twigs_on_path, branches_on_path, to_copy}
use Rattle.trie_write.specs.Roots.{TwigsOnPath, BranchesOnPath, ToCopy, IsOutside, Unreached, Beyond}
use Rattle.trie_write.proofs.RootLaws.{standing_later}
use Rattle.trie_space.specs.Standing.{StandsIn, HasTrie}
use Rattle.trie_model.specs.Order.{IsThere}
use Rattle.trie_space.specs.Ways.{Fork, plug, IsWay, twigs_of}
use Rattle.trie_space.specs.Weights.{at_place}
use Rattle.trie_write.proofs.AskLaws.{on_way}
use Rattle.trie_space.specs.Rooted.{Rooted, no_spare}
use Rattle.trie_space.proofs.RootedLaws.{stands_rooted, end_hangs}
use Rattle.trie_write.proofs.ChangeLaws.{entries_before, put_stands}
use Rattle.trie_space.proofs.WayLaws.{low_at, end_tree, before, after, entries_plug}
use Rattle.trie_write.proofs.KeyLaws.{way_to}

-- ---- the way to a key's leaf

pub record LeafWay (place : ℕ) (key : List ℕ) (t : Tree) : Type 0 where
  pub way : List Fork
  pub entry : Entry
  pub first : Extents
  pub is : t ≡ plug way (leaf entry first)
  pub is_way : IsWay place key way (leaf entry first)
  pub same_key : entry.key ≡ key

leaf_end : (place low : ℕ) (key : List ℕ) (t : Tree) (gone : Entry) → IsTree low t → 503 < place → gone.key ≡ key → (way : List Fork) (end : Tree) → t ≡ plug way end → IsWay place key way end → InList gone (entries_of end) → LeafWay place key t
leaf_end place low key t gone h far same way (leaf e w) is is_way there = record { way = way; entry = e; first = w; is = is; is_way = is_way; same_key = elim there [ inl x ↦ ap (λ (y : Entry). y.key) (sym x) ∙ same | inr x ↦ absurd x ] }
leaf_end place low key t gone h far same way (branch o w below) is is_way there = absurd (let e = end_tree low way (branch o w below) (subst (IsTree low) is h) in let early = e.1 in let late = is_way.ends in omega arith)

pub leaf_way : (place low : ℕ) (key : List ℕ) (t : Tree) (gone : Entry) → IsTree low t → InList gone (entries_of t) → gone.key ≡ key → 503 < place → LeafWay place key t
leaf_way place low key t gone h there same far = let w = way_to place low key t h gone there (λ i l. ap (λ (k : List ℕ). at k i) (sym same)) in leaf_end place low key t gone h far same w.way w.end w.is w.is_way w.there

-- ---- another leaf for it

pub taken_item : {old new : Account} {c : CellChange} {n : ℕ} {x : Extents} → HandedItem old new n x → ((q : ℕ) → old.used q ≡ true → new.used q ≡ true) → c.new_twigs ≡ record { at = 0; n = 0 } → IsItemAt c.new_item n x → IsTaken old new c
taken_item {old} {new} {c} {n} {x} h stays no_twigs new_item =
    let w = λ (w : ℕ → ℕ). ap (λ x. span x w) no_twigs in let v = λ (w : ℕ → ℕ). item_span_is new_item w in
    record { counts = λ k. let x = h.counts k in let y = w (in_chunk k) in let z = v (in_chunk k) in omega arith; fresh = λ q. let x = item_fresh h stays q in let y = w (at_place q) in let z = v (at_place q) in omega arith }

module _ {S A : Type 0} {has : S → ℕ → Cell → Type 0} {account : A → Account} {s : S} {a : A} {r : ℕ} {key : List ℕ} {t : Tree} {version : List Entry} (h : HasKey has account s a r key t version) where
  -- the root's cell, which was read
  pub root_top : {node : Cell} → ((c : Cell) → has s r c → node ≡ c) → IsTop (has s) 0 node (plug h.way (leaf h.entry h.first))
  root_top {node} read = subst (IsTop (has s) 0 node) h.is (record { tree = h.stands.trie.shape; is = read (top_cell t) h.stands.trie.top; beneath = h.stands.trie.beneath })

  pub leaf_tree : IsTree 0 (leaf h.entry h.first)
  leaf_tree = higher (low_at 0 h.way) 0 (leaf h.entry h.first) (end_tree 0 h.way (leaf h.entry h.first) (subst (IsTree 0) h.is h.stands.trie.shape)) (omega arith)

  -- its cell, which was read
  pub leaf_top : {node : Cell} → node ≡ top_cell (leaf h.entry h.first) → IsTop (has s) 0 node (leaf h.entry h.first)
  leaf_top is = record { tree = leaf_tree; is = is; beneath = (end_hangs h.way (leaf h.entry h.first) (subst (Rooted has account s a no_spare r) h.is (stands_rooted has account s a h.stands)) leaf_tree).top.beneath }

  pub key_branches : branches_on_path key t ≡ map twigs_of h.way ++ branches_on_path key (leaf h.entry h.first)
  key_branches = on_way 65535 key t h.way (leaf h.entry h.first) h.stands.trie.shape h.is h.is_way.along

  pub other_makes : {s1 : S} {l : Leaf} {c : CellChange} (item : List ℕ) → l.len ≡ length item → l.at ≡ place_of (extents_in c.new_item) → AreExtents (length item) (extents_in c.new_item) → ItemLies (has s1) (extents_in c.new_item) item → c.cell ≡ leaf_cell l →
      c.new_twigs ≡ record { at = 0; n = 0 } → c.new_item.len ≡ length item → c.old_twigs ≡ record { at = 0; n = 0 } → IsItemAt c.old_item (length h.entry.item) h.first → Makes has s1 c (leaf h.entry h.first) (leaf (record { key = key; item = item }) (extents_in c.new_item))
  other_makes {s1} {l} {c} item n at_first are lies cell new_twigs new_item old_twigs old_item = record {
    is = cell ∙ laid_top (extents_in c.new_item) key item n at_first;
    beneath = lies;
    weigh = λ w. let x = ap (λ x. span x w) new_twigs in let laid : IsItemAt c.new_item (length item) (extents_in c.new_item) = record { len = new_item; there = refl } in let y = item_span_is laid w in let z = ap (λ x. span x w) old_twigs in let v = item_span_is old_item w in omega arith;
    spans = record {
      new_twigs = subst (λ (x : Span). x.at % 1024 + x.n ≤ 1024) (sym new_twigs) (omega arith);
      new_item = item_are (record { len = new_item; there = refl }) are;
      old_twigs = subst (λ (x : Span). x.at % 1024 + x.n ≤ 1024) (sym old_twigs) (omega arith);
      old_item = item_are old_item leaf_tree.1;
    };
  }

  pub replaced : {s2 : S} {a2 : A} {item : List ℕ} {first : Extents} {root : ℕ} → IsEntry (record { key = key; item = item }) → AreExtents (length item) first → IsPut has account s2 a2 65535 key h.way (leaf h.entry h.first) (leaf (record { key = key; item = item }) first) root →
      (next : List Entry) × Exchanged (record { key = key; item = item }) version next × ((u : Tree) × StandsIn (has s2) (account a2).used (account a2).live root u next)
  replaced {item = item} {first} entry lies p = (
    entries_of (plug p.copy (leaf (record { key = key; item = item }) first)),
    record {
      before = before p.copy;
      gone = h.entry;
      after = after p.copy;
      old_is = sym h.stands.trie.holds ∙ ap entries_of h.is ∙ entries_before p;
      new_is = entries_plug p.copy (leaf (record { key = key; item = item }) first);
      same_key = h.same_key;
    },
    (plug p.copy (leaf (record { key = key; item = item }) first), put_stands p (entry, lies) (λ x i. elim i [ inl y ↦ (h.entry, inl refl, λ j m. ap (λ (z : Entry). at z.key j) y ∙ ap (λ (k : List ℕ). at k j) (sym h.same_key)) | inr y ↦ absurd y ])),
  )

-- ---- what the root tells

key_of_entry : {S A : Type 0} {has : S → ℕ → Cell → Type 0} {account : A → Account} {s : S} {a : A} {r : ℕ} {key : List ℕ} {t : Tree} {version : List Entry} → StandsIn (has s) (account a).used (account a).live r t version → IsThere key version → HasKey has account s a r key t version
key_of_entry {key = key} {t} st there = let w = leaf_way 65535 0 key t there.0 st.trie.shape (subst (InList there.0) (sym st.trie.holds) there.1) there.2 (omega arith) in
    record { stands = st; way = w.way; entry = w.entry; first = w.first; is = w.is; is_way = w.is_way; same_key = w.same_key }

-- the root in hand stands, and the key is below it
module _ {S A : Type 0} {has : S → ℕ → Cell → Type 0} {account : A → Account} {s s1 : S} {a : A} {root : Option ℕ} {r : ℕ} {key : List ℕ} (same : s1 ≡ s) (e : root ≡ Some r) where
  pub has_key : (version : List Entry) → HasTrie has account s a root version → IsThere key version → (t : Tree) × HasKey has account s1 a r key t version
  has_key version h there = let x = subst (λ (o : Option ℕ). HasTrie has account s a o version) e h in
      (x.0, subst (λ s. HasKey has account s a r key x.0 version) (sym same) (key_of_entry x.1 there))

  pub on_path : (n : ℕ) → TwigsOnPath has account s a root key n → ((version : List Entry) → Stands (has s) root version → EachTells Leads version → IsThere key version) → (t : Tree) × (version : List Entry) × HasKey has account s1 a r key t version × (n ≡ twigs_on_path key t)
  on_path n on there = let o = subst (λ (o : Option ℕ). TwigsOnPath has account s a o key n) e on in
      let k = there o.1 (subst (λ (x : Option ℕ). Stands (has s) x o.1) (sym e) (o.0, o.2.trie)) o.3 in
      (o.0, o.1, subst (λ s. HasKey has account s a r key o.0 o.1) (sym same) (key_of_entry o.2 k), o.4)

  pub on_branches : (branches : List ℕ) → BranchesOnPath has account s a root key branches → ((version : List Entry) → Stands (has s) root version → EachTells Leads version → IsThere key version) → (t : Tree) × (version : List Entry) × HasKey has account s1 a r key t version × (branches ≡ branches_on_path key t)
  on_branches branches on there = let o = subst (λ (o : Option ℕ). BranchesOnPath has account s a o key branches) e on in
      let k = there o.1 (subst (λ (x : Option ℕ). Stands (has s) x o.1) (sym e) (o.0, o.2.trie)) o.3 in
      (o.0, o.1, subst (λ s. HasKey has account s a r key o.0 o.1) (sym same) (key_of_entry o.2 k), o.4)

  pub copied_path : (n : ℕ) → ToCopy has account s a root key n → ((version : List Entry) → Stands (has s) root version → EachTells Leads version → IsThere key version) → (t : Tree) × (version : List Entry) × HasKey has account s1 a r key t version × (n ≡ to_copy (account a).mutable key r t)
  copied_path n on there = let o = subst (λ (o : Option ℕ). ToCopy has account s a o key n) e on in
      let k = there o.1 (subst (λ (x : Option ℕ). Stands (has s) x o.1) (sym e) (o.0, o.2.trie)) o.3 in
      (o.0, o.1, subst (λ s. HasKey has account s a r key o.0 o.1) (sym same) (key_of_entry o.2 k), o.4)

  pub beyond_key : (q : ℕ) → Beyond has account s a root q → ((version : List Entry) → Stands (has s) root version → EachTells Leads version → IsThere key version) → (t : Tree) × (version : List Entry) × HasKey has account s1 a r key t version × IsOutside r t q
  beyond_key q b there = let o = subst (λ (o : Option ℕ). Unreached (has s) (account a).used (account a).live o q) e b.1 in
      let k = there o.1 (subst (λ (x : Option ℕ). Stands (has s) x o.1) (sym e) (o.0, o.2.trie)) o.3 in
      (o.0, o.1, subst (λ s. HasKey has account s a r key o.0 o.1) (sym same) (key_of_entry o.2 k), o.4)

-- what is in use stays, and so does what stands
pub trie_later : {S A : Type 0} {has : S → ℕ → Cell → Type 0} {kept : S → List ℕ} {given : S → List Bool} {account : A → Account} {lacks : A → Shortage → Type 0} {s s1 s2 : S} {a a2 : A} {f : Shortage} (version : List Entry) (root : Option ℕ) → s1 ≡ s → Refused has account lacks s1 a s2 a2 f → Fenced has kept given account s1 a s2 a2 →
    HasTrie has account s a root version → HasTrie has account s2 a2 root version
trie_later {has = has} version root same r frame h = standing_later version root h (λ q c u x. r.untouched q c u (subst (λ s. has s q c) (sym same) x)) frame.grows.stays r.counts
