-- A name put in below a root that stands, and the first name.
use Rattle.std.proofs.Common.{◌≡◌, ℕ, suc, ◌+◌, ◌≤◌, ◌++◌, Bool, true, List, [], ◌∷◌, map, append_assoc, Option, Some, length, arith, inl, inr, refl, sym, ◌∙◌, ap, subst}
use Rattle.packed_node.specs.declared.Cell.{Cell}
use Rattle.packed_node.specs.declared.Leaf.{Leaf}
use Rattle.packed_node.specs.Nodes.{leaf_cell}
use Rattle.zone_model.specs.Keys.{Leads}
use Rattle.trie_model.specs.Extents.{first_of as place_of, AreExtents, ItemLies, weigh_extents}
use Rattle.trie_model.proofs.ExtentLaws.{item_kept}
use Rattle.chunk_cells.specs.Laying.{extents_in}
use Rattle.chunk_cells.specs.declared.extents.Extents.{Extents as Laid}
use Rattle.trie_write.specs.Laid.{HandedItem, IsLaid}
use Rattle.trie_write.proofs.LaidLaws.{item_span_is, laid_top, item_fresh}
use Rattle.trie_model.specs.Changes.{Inserted}
use Rattle.trie_model.specs.Keys.{at, Same, Entry, IsEntry, InList}
use Rattle.trie_model.specs.Memory.{top_cell}
use Rattle.trie_model.specs.Reach.{in_chunk}
use Rattle.trie_model.specs.Trees.{Tree, entries_of, IsTree}
use Rattle.trie_model.specs.Trees.Tree.{leaf}
use Rattle.trie_model.proofs.AddLaws.{in_put}
use Rattle.trie_model.proofs.DropLaws.{higher}
use Rattle.trie_model.proofs.KeyLaws.{in_left, in_right, in_both}
use Rattle.trie_model.proofs.MoveLaws.{beneath_kept, tree_weaker}
use Rattle.chunk_usage.specs.Rooms.{Account, Handed}
use Rattle.trie_read.specs.Reads.{IsTop, EachTells}
use Rattle.trie_write.specs.declared.change.CellChange.{CellChange}
use Rattle.shift_key.specs.declared.difference.Difference.{Difference}
use Rattle.trie_space.specs.Rooted.{Rooted, no_spare}
use Rattle.trie_write.specs.Inserts.{WithAsks, IsWith, LacksKey}
use Rattle.trie_write.specs.Nearness.{FirstDiffers, Differs}
use Rattle.trie_write.specs.Paths.{twigs_on_path, branches_on_path, to_copy}
use Rattle.trie_write.specs.Puts.{item_span, IsTaken, IsPut}
use Rattle.trie_write.specs.Roots.{TwigsOnPath, BranchesOnPath, ToCopy, IsOutside, Unreached, Beyond}
use Rattle.trie_space.specs.Spaces.{Frame}
use Rattle.trie_space.specs.Standing.{StandsIn, HasTrie}
use Rattle.trie_space.specs.Ways.{Fork, plug, Along, twigs_of, twigs_along}
use Rattle.trie_space.specs.Weights.{at_place}
use Rattle.trie_write.proofs.AskLaws.{on_way}
use Rattle.trie_space.proofs.RootedLaws.{stands_rooted, rooted_stands, end_hangs}
use Rattle.trie_write.proofs.ChangeLaws.{entries_before, put_stands}
use Rattle.trie_write.proofs.PathLaws.{path_plug}
use Rattle.trie_space.proofs.SpaceLaws.{apart_from}
use Rattle.trie_space.proofs.WayLaws.{low_at, end_tree, before, after, entries_plug}
use Rattle.trie_write.proofs.KeyLaws.{key_between, way_to}
use Rattle.trie_space.proofs.WeightLaws.{handed_fresh, mark_le}

pub laid_is : {S A : Type 0} {has : S → ℕ → Cell → Type 0} {account : A → Account} {s1 : S} {old : Account} (a1 : A) {l : Laid} {item : List ℕ} → l.len ≡ length item → HandedItem old (account a1) (length item) (extents_in l) → ItemLies (has s1) (extents_in l) item → IsLaid has account s1 a1 l item
laid_is a1 len h lies = record { len = len; are = h.are; lies = lies; in_use = h.taken }

-- ---- the first name

pub first_stands : {S A : Type 0} {has : S → ℕ → Cell → Type 0} {kept : S → List ℕ} {given : S → List Bool} {account : A → Account} {s s1 s2 s3 : S} {a a1 a2 : A} {y : Leaf} (l : Laid) {item : List ℕ} {r : ℕ} {cell : Cell} (e : Entry) → IsEntry e → e.item ≡ item → ((k : ℕ) → (account a).live k ≡ 0) →
    l.len ≡ length item → y.len ≡ l.len → y.at ≡ place_of (extents_in l) → HandedItem (account a) (account a1) (length item) (extents_in l) → ItemLies (has s1) (extents_in l) item → Frame has kept given account s a s1 a1 → Handed (account a1) (account a2) r 1 → Frame has kept given account s1 a1 s2 a2 →
    cell ≡ leaf_cell y → has s3 r cell → ((q : ℕ) (c : Cell) → (q ≡ r → ⊥) → has s2 q c → has s3 q c) → HasTrie has account s3 a2 (Some r) (e ∷ [])
first_stands {has = has} {account = account} {s1 = s1} {s2} {s3} {a = a} {a1} {a2} {y} l {item} {r} {cell} e is same none len y_len y_at h lies f rooted g cell_is put others = (
  leaf e (extents_in l),
  rooted_stands {has = has} {account = account} {s = s3} {a = a2} {r = r} {t = leaf e (extents_in l)} (record {
    inside = (let i = rooted.twigs.inside in omega arith);
    top = subst (has s3 r) (cell_is ∙ laid_top (extents_in l) e.key e.item (y_len ∙ len ∙ ap length (sym same)) y_at) put;
    beneath = subst (ItemLies (has s3) (extents_in l)) (sym same) there;
    counted = λ k. let x = none k in let y = h.counts k in let z = rooted.counts k in let i = ap (λ (xs : List ℕ). weigh_extents (in_chunk k) (length xs) (extents_in l)) same in omega arith;
    once = λ q. let x = item_fresh h f.grows.stays q in let y = handed_fresh rooted g.grows.stays q in let z = mark_le (account a2).used q in let i = ap (λ (xs : List ℕ). weigh_extents (at_place q) (length xs) (extents_in l)) same in omega arith;
  }) (is, subst (λ (xs : List ℕ). AreExtents (length xs) (extents_in l)) (sym same) h.are),
)
  where
    there : ItemLies (has s3) (extents_in l) item
    there = item_kept (λ q. (account a1).used q ≡ true) (has s1) (has s3) (λ q c u x. others q c (λ z. apart_from rooted q u 0 (omega arith) (z ∙ omega arith)) (g.stays q c u x)) (extents_in l) item h.taken lies

-- ---- a further one

-- an offset may come next that isn't before the place
low_early : (place low : ℕ) (key : List ℕ) (way : List Fork) → low ≤ place → Along place key way → low_at low way ≤ place
low_early place low key [] l a = l
low_early place low key (f ∷ way) l a = low_early place (suc f.offset) key way (let b = a.0 in omega arith) a.2

module _ {S A : Type 0} {has : S → ℕ → Cell → Type 0} {account : A → Account} {s : S} {a : A} {r : ℕ} {key : List ℕ} {first : Difference} {t : Tree} {version : List Entry} (h : LacksKey has account s a r key first t version) where
  end_alone : IsTree 0 h.end
  end_alone = higher (low_at 0 h.way) 0 h.end (end_tree 0 h.way h.end (subst (IsTree 0) h.is h.stands.trie.shape)) (omega arith)

  pub lacks_top : {node : Cell} → ((c : Cell) → has s r c → node ≡ c) → IsTop (has s) 0 node (plug h.way h.end)
  lacks_top {node} read = subst (IsTop (has s) 0 node) h.is (record { tree = h.stands.trie.shape; is = read (top_cell t) h.stands.trie.top; beneath = h.stands.trie.beneath })

  -- the item is laid meanwhile
  pub with_asks : {kept : S → List ℕ} {given : S → List Bool} {s1 : S} {a1 : A} {item : List ℕ} {node : Cell} {l : Laid} → IsEntry (record { key = key; item = item }) → IsLaid has account s1 a1 l item → Frame has kept given account s a s1 a1 → node ≡ top_cell h.end → WithAsks has account s1 a1 key item first node l h.end
  with_asks {s1 = s1} {a1} entry laid f is =
      let e = end_hangs h.way h.end (subst (λ z. Rooted has account s a no_spare r z) h.is (stands_rooted has account s a h.stands)) end_alone in
      record {
        entry = entry;
        laid = laid;
        top = record { tree = end_alone; is = is; beneath = beneath_kept (account a).used (has s) (has s1) f.stays h.end e.within e.top.beneath };
        within = tree_weaker (account a).used (account a1).used f.grows.stays h.end e.within;
        ends = h.is_way.ends;
        differs = h.differs;
      }

  pub lacks_path : twigs_on_path key t ≡ twigs_along h.way + twigs_on_path key h.end
  lacks_path = let p = path_plug first.place 0 key h.way h.end (subst (IsTree 0) h.is h.stands.trie.shape) h.is_way.along in let q = ap (twigs_on_path key) h.is in omega arith

  pub lacks_branches : branches_on_path key t ≡ map twigs_of h.way ++ branches_on_path key h.end
  lacks_branches = on_way first.place key t h.way h.end h.stands.trie.shape h.is h.is_way.along

  pub inserted : {s1 s2 : S} {a2 : A} {c : CellChange} {item : List ℕ} {root : ℕ} (w : IsWith has s1 c first.place (record { key = key; item = item }) h.end) → IsPut has account s2 a2 first.place key h.way h.end w.new root →
      (next : List Entry) × Inserted (record { key = key; item = item }) version next × ((u : Tree) × StandsIn (has s2) (account a2).used (account a2).live root u next)
  inserted {item = item} w p =
      let early = low_early first.place 0 key p.copy (omega arith) p.along in
      let x = w.grown (low_at 0 p.copy) early (end_tree 0 p.copy h.end p.tree) in
      let near = h.differs.nearest in
      let same : Same (low_at 0 p.copy) key near.near.key = λ j l. near.same j (omega arith) in (
        entries_of (plug p.copy w.new),
        record {
          before = before p.copy ++ x.put.before;
          after = x.put.after ++ after p.copy;
          old_is = sym h.stands.trie.holds ∙ ap entries_of h.is ∙ entries_before p ∙ joined (entries_of h.end) x.put.before x.put.after x.put.old_is;
          new_is = entries_plug p.copy w.new ∙ joined (entries_of w.new) x.put.before (record { key = key; item = item } ∷ x.put.after) x.put.new_is;
          lower = λ y i. elim (in_both y (before p.copy) x.put.before i) [ inl u ↦ (key_between 0 p.copy h.end p.tree near.near near.there key same y).0 u | inr u ↦ x.put.lower y u ];
          upper = λ y i. elim (in_both y x.put.after (after p.copy) i) [ inl u ↦ x.put.upper y u | inr u ↦ (key_between 0 p.copy h.end p.tree near.near near.there key same y).1 u ];
        },
        (plug p.copy w.new, put_stands p x.tree (λ y i. elim (in_put (record { key = key; item = item }) y (entries_of h.end) (entries_of w.new) x.put i) [ inl u ↦ (near.near, near.there, λ j l. ap (λ (z : Entry). at z.key j) u ∙ same j l) | inr u ↦ (y, u, λ j l. refl) ])),
      )
    where
      joined : (es ys zs : List Entry) → es ≡ ys ++ zs → before p.copy ++ (es ++ after p.copy) ≡ (before p.copy ++ ys) ++ (zs ++ after p.copy)
      joined es ys zs e = ap (λ (x : List Entry). before p.copy ++ (x ++ after p.copy)) e ∙ ap (λ (x : List Entry). before p.copy ++ x) (append_assoc ys zs (after p.copy)) ∙ sym (append_assoc (before p.copy) ys (zs ++ after p.copy))

-- ---- where the key first differs

-- the way there
lacks_key : {S A : Type 0} {has : S → ℕ → Cell → Type 0} {account : A → Account} {s : S} {a : A} {r : ℕ} {key : List ℕ} {first : Difference} {t : Tree} {version : List Entry} → StandsIn (has s) (account a).used (account a).live r t version → FirstDiffers key (entries_of t) first → LacksKey has account s a r key first t version
lacks_key {key = key} {first} {t} st d =
    let w = way_to first.place 0 key t st.trie.shape d.nearest.near d.nearest.there d.nearest.same in
    record {
      stands = st;
      way = w.way;
      end = w.end;
      is = w.is;
      is_way = w.is_way;
      differs = record {
        nearest = record {
          near = d.nearest.near;
          there = w.there;
          same = d.nearest.same;
          position = d.nearest.position;
          other = d.nearest.other;
          apart = λ x i. d.nearest.apart x (subst (InList x) (sym (ap entries_of w.is ∙ entries_plug w.way w.end)) (in_right x (before w.way) (entries_of w.end ++ after w.way) (in_left x (entries_of w.end) (after w.way) i)));
        };
        short = d.short;
        inside = d.inside;
      };
    }

-- the root in hand stands, its cell was read and its keys compared with the key
module _ {S A : Type 0} (has : S → ℕ → Cell → Type 0) (account : A → Account) {s s1 s2 : S} (a : A) {root : Option ℕ} {r : ℕ} {key : List ℕ} {node : Cell} {d : Option Difference} {first : Difference} (e : root ≡ Some r) (read : (c : Cell) → has s r c → node ≡ c) (same : s1 ≡ s) (later : s2 ≡ s1)
    (differs : (t : Tree) → IsTop (has s1) 0 node t → EachTells Leads (entries_of t) → Differs key (entries_of t) d) (found : d ≡ Some first) where
  found_here : (t : Tree) (version : List Entry) → StandsIn (has s) (account a).used (account a).live r t version → EachTells Leads version → FirstDiffers key (entries_of t) first
  found_here t version st tells = subst (Differs key (entries_of t)) found (differs t (subst (λ s. IsTop (has s) 0 node t) (sym same) (record { tree = st.trie.shape; is = read (top_cell t) st.trie.top; beneath = st.trie.beneath })) (subst (EachTells Leads) (sym st.trie.holds) tells))

  here_lacks : (t : Tree) (version : List Entry) → StandsIn (has s) (account a).used (account a).live r t version → EachTells Leads version → LacksKey has account s2 a r key first t version
  here_lacks t version st tells = subst (λ s. LacksKey has account s a r key first t version) (sym (later ∙ same)) (lacks_key st (found_here t version st tells))

  pub missing_key : (version : List Entry) → HasTrie has account s a root version → EachTells Leads version → (t : Tree) × LacksKey has account s2 a r key first t version
  missing_key version h tells = let x = subst (λ (o : Option ℕ). HasTrie has account s a o version) e h in (x.0, here_lacks x.0 version x.1 tells)

  pub missing_path : (n : ℕ) → TwigsOnPath has account s a root key n → (t : Tree) × (version : List Entry) × LacksKey has account s2 a r key first t version × (n ≡ twigs_on_path key t)
  missing_path n on = let o = subst (λ (o : Option ℕ). TwigsOnPath has account s a o key n) e on in (o.0, o.1, here_lacks o.0 o.1 o.2 o.3, o.4)

  pub missing_branches : (branches : List ℕ) → BranchesOnPath has account s a root key branches → (t : Tree) × (version : List Entry) × LacksKey has account s2 a r key first t version × (branches ≡ branches_on_path key t)
  missing_branches branches on = let o = subst (λ (o : Option ℕ). BranchesOnPath has account s a o key branches) e on in (o.0, o.1, here_lacks o.0 o.1 o.2 o.3, o.4)

  pub missing_copied : (n : ℕ) → ToCopy has account s a root key n → (t : Tree) × (version : List Entry) × LacksKey has account s2 a r key first t version × (n ≡ to_copy (account a).mutable key r t)
  missing_copied n on = let o = subst (λ (o : Option ℕ). ToCopy has account s a o key n) e on in (o.0, o.1, here_lacks o.0 o.1 o.2 o.3, o.4)

  pub missing_beyond : (q : ℕ) → Beyond has account s a root q → (t : Tree) × (version : List Entry) × LacksKey has account s2 a r key first t version × IsOutside r t q
  missing_beyond q b = let o = subst (λ (o : Option ℕ). Unreached (has s) (account a).used (account a).live o q) e b.1 in (o.0, o.1, here_lacks o.0 o.1 o.2 o.3, o.4)

  -- and isn't there
  pub never_there : (version : List Entry) → HasTrie has account s a root version → EachTells Leads version → (x : Entry) → InList x version → x.key ≡ key → ⊥
  never_there version h tells x i k =
      let z = subst (λ (o : Option ℕ). HasTrie has account s a o version) e h in
      let f = found_here z.0 version z.1 tells in
      let p = f.nearest.apart x (subst (InList x) (sym z.1.trie.holds) i) in p.2 (ap (λ (y : List ℕ). at y p.0) (sym k))

-- the cells of the item and of the twigs are taken
pub taken_both : {old mid new : Account} {c : CellChange} (l : Laid) (item : List ℕ) → l.len ≡ length item → HandedItem old mid (length item) (extents_in l) → ((q : ℕ) → old.used q ≡ true → mid.used q ≡ true) → Handed mid new c.new_twigs.at c.new_twigs.n → ((q : ℕ) → mid.used q ≡ true → new.used q ≡ true) → c.new_item ≡ l → IsTaken old new c
taken_both {old} {mid} {new} {c} l item len h stays g later new_item =
    let v = λ (w : ℕ → ℕ). ap (λ x. item_span x w) new_item ∙ item_span_is (record { len = len; there = refl }) w in
    record { counts = λ k. let x = h.counts k in let y = g.counts k in let z = v (in_chunk k) in omega arith; fresh = λ q. let x = item_fresh h stays q in let y = handed_fresh g later q in let z = v (at_place q) in omega arith }
