-- A leaf taken out below a root that stands.
use Rattle.std.proofs.Common.{◌≡◌, ℕ, suc, ◌+◌, ◌++◌, List, [], ◌∷◌, length, map, Contains, append_assoc, count_ones, arith, inl, inr, refl, sym, ◌∙◌, ap, subst}
use Rattle.std.proofs.lemmas.List.Elements.{Contains-append_left}
use Rattle.packed_node.specs.declared.Cell.{Cell}
use Rattle.trie_model.specs.Extents.{Extents, AreExtents, row}
use Rattle.chunk_cells.specs.Laying.{extents_in}
use Rattle.chunk_cells.specs.declared.extents.Extents.{Extents as Laid}
use Rattle.trie_write.specs.Laid.{IsItemAt}
use Rattle.trie_write.proofs.LaidLaws.{item_span_is, item_are}
use Rattle.trie_model.specs.Changes.{Removed}
use Rattle.trie_model.specs.Keys.{Entry, InList}
use Rattle.trie_model.specs.Memory.{top_cell, Beneath}
use Rattle.trie_read.specs.Reads.{IsTop}
use Rattle.trie_model.specs.Reach.{in_chunk, weigh_tree}
use Rattle.trie_model.specs.Trees.{Tree, entries_of, IsTree}
use Rattle.trie_model.specs.Trees.Tree.{leaf}
use Rattle.trie_model.proofs.DropLaws.{higher}
use Rattle.trie_model.proofs.KeyLaws.{in_left, in_right, in_both}
use Rattle.trie_model.proofs.ReachLaws.{live_is}
use Rattle.chunk_usage.specs.Rooms.{Account}
use Rattle.trie_write.specs.declared.change.CellChange.{CellChange}
use Rattle.trie_write.specs.declared.descend.Descent.{Descent}
use Rattle.trie_write.specs.Asks.{HasKey}
use Rattle.trie_write.specs.Deletions.{Deleted, LeafDescent, IsWithout, DropAsks}
use Rattle.trie_space.specs.Rooted.{Rooted, no_spare}
use Rattle.trie_write.specs.Paths.{twigs_on_path, branches_on_path}
use Rattle.trie_write.specs.Puts.{item_span, IsPut}
use Rattle.trie_space.specs.Standing.{StandsIn}
use Rattle.trie_write.specs.Descents.{IsLastDescent}
use Rattle.trie_space.specs.Ways.{NotBefore, Fork, fork, plug, Along, IsWay, twigs_of, twigs_along}
use Rattle.trie_space.proofs.RootedLaws.{stands_rooted, end_hangs}
use Rattle.trie_write.proofs.ChangeLaws.{entries_before, put_stands}
use Rattle.trie_write.proofs.AskLaws.{on_way}
use Rattle.trie_write.proofs.CopyLaws.{here_asked}
use Rattle.trie_write.proofs.PathLaws.{path_plug, branches_plug}
use Rattle.trie_space.proofs.WayLaws.{plug-append, Follows, low_at, is_fork, end_tree, low_rises, before, after, entries_plug}
use Rattle.trie_write.proofs.SlotLaws.{along_parts}
use Rattle.trie_write.proofs.WithoutLaws.{last_is, last_along}

-- offsets rise, so those of a way are before that of the branch at its end
along_before : (place low : ℕ) (key : List ℕ) (way : List Fork) (f : Fork) (x : Tree) → IsTree low (plug way (fork f x)) → Along place key way → Along f.offset key way
along_before place low key [] f x h a = tt
along_before place low key (g ∷ way) f x h a =
    let k = is_fork low g (plug way (fork f x)) h in
    let late = low_rises (suc g.offset) way (fork f x) k.tree in
    let deep = (is_fork (low_at (suc g.offset) way) f x (end_tree (suc g.offset) way (fork f x) k.tree)).late in
    (omega arith, a.1, along_before place (suc g.offset) key way f x k.tree a.2)

module _ {S A : Type 0} {has : S → ℕ → Cell → Type 0} {account : A → Account} {s : S} {a : A} {r : ℕ} {key : List ℕ} {descent : Descent} {t : Tree} {version : List Entry} (d : DropAsks has account s a r key descent t version) where
  abbrev pub key_leaf : Tree
  key_leaf = leaf d.there.entry d.there.first

  pub parts_is : t ≡ plug d.last.upper (plug d.last.lower key_leaf)
  parts_is = d.there.is ∙ ap (λ w. plug w key_leaf) d.last.whole ∙ plug-append d.last.upper d.last.lower key_leaf

  parts_tree : IsTree 0 (plug d.last.upper (plug d.last.lower key_leaf))
  parts_tree = subst (IsTree 0) parts_is d.there.stands.trie.shape

  parts_along : Along 65535 key d.last.upper × Along 65535 key d.last.lower
  parts_along = along_parts 65535 key d.last.upper d.last.lower (subst (Along 65535 key) d.last.whole d.there.is_way.along)

  lower_tree : IsTree 0 (plug d.last.lower key_leaf)
  lower_tree = higher (low_at 0 d.last.upper) 0 (plug d.last.lower key_leaf) (end_tree 0 d.last.upper (plug d.last.lower key_leaf) parts_tree) (omega arith)

  -- its branch hangs there
  pub leaf_descent : LeafDescent has account s a key descent d.last.lower d.there.entry d.there.first
  leaf_descent = record {
    asks = record {
      hangs = end_hangs d.last.upper (plug d.last.lower key_leaf) (subst (Rooted has account s a no_spare r) parts_is (stands_rooted has account s a d.there.stands)) lower_tree;
      is_way = record { along = parts_along.1; ends = d.there.is_way.ends };
    };
    descent = d.last.descent;
    alone = d.last.alone;
  }

  pub upper_way : IsWay descent.branch.offset key d.last.upper (plug d.last.lower key_leaf)
  upper_way = record {
    along = along_before 65535 0 key d.last.upper _ key_leaf (subst (λ z. IsTree 0 (plug d.last.upper z)) (last_is leaf_descent) parts_tree) parts_along.0;
    ends = subst (NotBefore descent.branch.offset) (sym (last_is leaf_descent)) (omega arith);
  }

  -- the path has the twigs of both parts
  pub path_parts : twigs_on_path key t ≡ twigs_along d.last.upper + count_ones descent.branch.bitmap
  path_parts =
      let u = path_plug 65535 0 key d.last.upper (plug d.last.lower key_leaf) parts_tree parts_along.0 in
      let l = path_plug 65535 0 key d.last.lower key_leaf lower_tree parts_along.1 in
      let n = last_along leaf_descent in
      let p = ap (twigs_on_path key) parts_is in omega arith

  pub parts_branches : branches_on_path key t ≡ map twigs_of d.last.upper ++ branches_on_path key (plug d.last.lower key_leaf)
  parts_branches = on_way 65535 key t d.last.upper (plug d.last.lower key_leaf) d.there.stands.trie.shape parts_is parts_along.0

  -- the leaf's branch is among the lower ones
  pub last_branch : Contains (branches_on_path key (plug d.last.lower key_leaf)) (count_ones descent.branch.bitmap)
  last_branch =
      subst (λ (ns : List ℕ). Contains ns (count_ones descent.branch.bitmap)) (sym (branches_plug 65535 0 key d.last.lower key_leaf lower_tree parts_along.1))
      (Contains-append_left (map twigs_of d.last.lower) (branches_on_path key key_leaf) (count_ones descent.branch.bitmap) (here_asked leaf_descent.asks leaf_descent.descent.through (count_ones descent.branch.bitmap) refl))

  pub removed : {s1 s2 : S} {a2 : A} {c : CellChange} {root : ℕ} (w : IsWithout has s1 c d.there.entry (plug d.last.lower key_leaf)) → IsPut has account s2 a2 descent.branch.offset key d.last.upper (plug d.last.lower key_leaf) w.new root →
      (next : List Entry) × Deleted key version next × ((u : Tree) × StandsIn (has s2) (account a2).used (account a2).live root u next)
  removed w p =
      let x = w.shrunk (low_at 0 p.copy) (end_tree 0 p.copy (plug d.last.lower key_leaf) p.tree) in (
        entries_of (plug p.copy w.new),
        record {
          gone = d.there.entry;
          removed = record {
            before = before p.copy ++ x.removed.before;
            after = x.removed.after ++ after p.copy;
            old_is = sym d.there.stands.trie.holds ∙ ap entries_of parts_is ∙ entries_before p ∙ joined (entries_of (plug d.last.lower key_leaf)) x.removed.before (d.there.entry ∷ x.removed.after) x.removed.old_is;
            new_is = entries_plug p.copy w.new ∙ joined (entries_of w.new) x.removed.before x.removed.after x.removed.new_is;
          };
          same_key = d.there.same_key;
        },
        (plug p.copy w.new, put_stands p x.tree (follows x.removed)),
      )
    where
      joined : (es ys zs : List Entry) → es ≡ ys ++ zs → before p.copy ++ (es ++ after p.copy) ≡ (before p.copy ++ ys) ++ (zs ++ after p.copy)
      joined es ys zs e = ap (λ (x : List Entry). before p.copy ++ (x ++ after p.copy)) e ∙ ap (λ (x : List Entry). before p.copy ++ x) (append_assoc ys zs (after p.copy)) ∙ sym (append_assoc (before p.copy) ys (zs ++ after p.copy))

      follows : {n : ℕ} {es fs : List Entry} → Removed d.there.entry es fs → Follows n es fs
      follows {n} {es} {fs} q x i = (x, subst (InList x) (sym q.old_is) (elim (in_both x q.before q.after (subst (InList x) q.new_is i)) [ inl l ↦ in_left x q.before (d.there.entry ∷ q.after) l | inr r ↦ in_right x q.before (d.there.entry ∷ q.after) (inr r) ]), λ j k. refl)

-- the descent that was found
pub drop_asks : {S A : Type 0} {has : S → ℕ → Cell → Type 0} {account : A → Account} {s s1 : S} {a : A} {r : ℕ} {key : List ℕ} {descent : Descent} {t : Tree} {version : List Entry} → s1 ≡ s → (h : HasKey has account s a r key t version) → IsLastDescent descent h.way (leaf h.entry h.first) → DropAsks has account s1 a r key descent t version
drop_asks {has = has} {account} {a = a} {r} {key} {descent} {t} {version} same h last = subst (λ s. DropAsks has account s a r key descent t version) (sym same) (record { there = h; last = last })

-- ---- the only name

module _ {S A : Type 0} {has : S → ℕ → Cell → Type 0} {account : A → Account} {s : S} {a : A} {r : ℕ} {key : List ℕ} {t : Tree} {version : List Entry} (h : HasKey has account s a r key t version) (alone : h.way ≡ []) where
  only_is : t ≡ leaf h.entry h.first
  only_is = h.is ∙ ap (λ w. plug w (leaf h.entry h.first)) alone

  pub only_tree : IsTree 0 (leaf h.entry h.first)
  only_tree = subst (IsTree 0) only_is h.stands.trie.shape

  pub only_top : has s r (top_cell (leaf h.entry h.first))
  only_top = subst (λ z. has s r (top_cell z)) only_is h.stands.trie.top

  -- its cell, which was read
  only_read : {node : Cell} → ((c : Cell) → has s r c → node ≡ c) → IsTop (has s) 0 node (leaf h.entry h.first)
  only_read read = record { tree = only_tree; is = read (top_cell (leaf h.entry h.first)) only_top; beneath = subst (Beneath (has s)) only_is h.stands.trie.beneath }

  pub only_at : {s1 : S} {node : Cell} → s1 ≡ s → ((c : Cell) → has s r c → node ≡ c) → IsTop (has s1) 0 node (leaf h.entry h.first)
  only_at {node = node} same read = subst (λ s. IsTop (has s) 0 node (leaf h.entry h.first)) (sym same) (only_read read)

  pub only_item : {s1 : S} {node : Cell} {item : Laid} → s1 ≡ s → ((c : Cell) → has s r c → node ≡ c) → ((e : Entry) (x : Extents) → IsTop (has s1) 0 node (leaf e x) → item.len ≡ length e.item) → ((e : Entry) (x : Extents) → IsTop (has s1) 0 node (leaf e x) → extents_in item ≡ x) →
      IsItemAt item (length h.entry.item) h.first
  only_item same read len there = record { len = len h.entry h.first (only_at same read); there = there h.entry h.first (only_at same read) }

  pub only_are : {item : Laid} → IsItemAt item (length h.entry.item) h.first → AreExtents item.len (extents_in item)
  only_are e = item_are e only_tree.1

  pub only_live : {item : Laid} → IsItemAt item (length h.entry.item) h.first → (k : ℕ) → (account a).live k ≡ row (in_chunk k) r 1 + item_span item (in_chunk k)
  only_live {item} e k = let c = h.stands.counted k in let l = live_is k r t in let w = ap (weigh_tree (in_chunk k)) only_is in let i = item_span_is e (in_chunk k) in omega arith

  pub only_gone : {a2 : A} {item : Laid} → IsItemAt item (length h.entry.item) h.first → ((k : ℕ) → (account a2).live k + (row (in_chunk k) r 1 + item_span item (in_chunk k)) ≡ (account a).live k) → (next : List Entry) × Deleted key version next × ((next ≡ []) × ((k : ℕ) → (account a2).live k ≡ 0))
  only_gone e released = (
    [],
    record { gone = h.entry; removed = record { before = []; after = []; old_is = sym h.stands.trie.holds ∙ ap entries_of only_is; new_is = refl }; same_key = h.same_key },
    (refl, λ k. let l = only_live e k in let x = released k in omega arith),
  )
