-- The way to a place is opened: from its last mutable cell on, or all of it.
use Rattle.std.proofs.Common.{◌≡◌, ℕ, ◌+◌, ◌/◌, ◌≤◌, ◌++◌, Bool, true, false, cond, List, [], ◌∷◌, arith, refl, sym, ◌∙◌, ap, subst}
use Rattle.packed_node.specs.declared.Cell.{Cell}
use Rattle.trie_model.specs.Extents.{row}
use Rattle.trie_model.specs.Memory.{top_cell}
use Rattle.trie_model.specs.Reach.{in_chunk, weigh_tree}
use Rattle.trie_model.specs.Keys.{InList}
use Rattle.trie_model.specs.Trees.{Tree, entries_of, IsTree}
use Rattle.trie_model.proofs.DropLaws.{higher}
use Rattle.trie_model.proofs.MoveLaws.{beneath_kept, tree_weaker}
use Rattle.chunk_cells.specs.Chunks.{IsGiven}
use Rattle.chunk_usage.specs.Rooms.{Account, Handed}
use Rattle.trie_space.specs.Rooted.{Rooted}
use Rattle.trie_write.specs.Mutable.{WayAsks, IsCopied, IsParted, SlotAsks, IsSlot}
use Rattle.trie_space.specs.Spaces.{Frame, MayWrite, IsWritable}
use Rattle.trie_space.specs.Ways.{Fork, plug, twig_at, end_at, Along, twigs_of, twigs_along, copied_along}
use Rattle.trie_space.specs.Weights.{at_place}
use Rattle.trie_space.proofs.RootedLaws.{met_used, end_hangs, put_rooted}
use Rattle.trie_space.proofs.SpaceLaws.{apart_from}
use Rattle.trie_space.proofs.WayLaws.{plug-append, end_at-append, beneath_met, around, weigh_fork, weigh_plug, low_at, end_tree, plug_tree, follows_same, before, after, entries_plug}
use Rattle.trie_write.proofs.TwigLaws.{agree_tree, deepen}
use Rattle.trie_space.proofs.WeightLaws.{at_itself, at_another, mark_le, mark_grows, marked, unmarked, handed_fresh}

pub along_parts : (place : ℕ) (key : List ℕ) (a b : List Fork) → Along place key (a ++ b) → Along place key a × Along place key b
along_parts place key [] b h = (tt, h)
along_parts place key (f ∷ a) b h = let n = along_parts place key a b h.2 in ((h.0, h.1, n.0), n.1)

pub along_join : (place : ℕ) (key : List ℕ) (a b : List Fork) → Along place key a → Along place key b → Along place key (a ++ b)
along_join place key [] b h k = k
along_join place key (f ∷ a) b h k = (h.0, h.1, along_join place key a b h.2 k)

-- a tree whose keys are those of a deeper one lies as deep
lifted : (low : ℕ) (t u : Tree) → IsTree low t → IsTree 0 u → entries_of u ≡ entries_of t → IsTree low u
lifted low t u h k e = deepen low u k (λ x y i j. agree_tree low t h x y (subst (InList x) e i) (subst (InList y) e j))

-- a tree weighs no more than one in which it hangs
pub end_less : (w : ℕ → ℕ) (way : List Fork) (t : Tree) → weigh_tree w t ≤ weigh_tree w (plug way t)
end_less w [] t = omega arith
end_less w (f ∷ way) t = let e = weigh_fork w f (plug way t) in let h = end_less w way t in omega arith

-- ---- to the last mutable cell of a way

pub copied_immutable : (mutable : ℕ → Bool) (n r : ℕ) (way : List Fork) → mutable r ≡ false → copied_along mutable n r way ≡ n + twigs_along way
copied_immutable mutable n r [] e = ap (λ b. cond b 0 n) e ∙ omega arith
copied_immutable mutable n r (f ∷ way) e = ap (λ b. cond b (copied_along mutable (twigs_of f) (twig_at f) way) (n + twigs_along (f ∷ way))) e

pub copied_mutable : (mutable : ℕ → Bool) (n r : ℕ) (f : Fork) (way : List Fork) → mutable r ≡ true → copied_along mutable n r (f ∷ way) ≡ copied_along mutable (twigs_of f) (twig_at f) way
copied_mutable mutable n r f way e = ap (λ b. cond b (copied_along mutable (twigs_of f) (twig_at f) way) (n + twigs_along (f ∷ way))) e

pub parted_end : {mutable : ℕ → Bool} {at : ℕ} {way : List Fork} {end : Tree} {cell : Cell} → way ≡ [] → mutable at ≡ true → cell ≡ top_cell (plug way end) → IsParted mutable at way end at cell
parted_end {mutable} {at} {end = end} {cell} e m is = subst (λ w. IsParted mutable at w end at cell) (sym e) (record { upper = []; lower = []; whole = refl; last_is = refl; is = is ∙ ap (λ w. top_cell (plug w end)) e; copied = λ n. ap (λ b. cond b 0 n) m })

pub parted_here : {mutable : ℕ → Bool} {at : ℕ} {way rest : List Fork} {end : Tree} {cell : Cell} (f : Fork) → way ≡ f ∷ rest → mutable at ≡ true → mutable (twig_at f) ≡ false → cell ≡ top_cell (plug way end) → IsParted mutable at way end at cell
parted_here {mutable} {at} {way} {rest} {end = end} f e m not_next is = record {
  upper = [];
  lower = way;
  whole = refl;
  last_is = refl;
  is = is;
  copied = λ n. ap (copied_along mutable n at) e ∙ copied_mutable mutable n at f rest m ∙ copied_immutable mutable (twigs_of f) (twig_at f) rest not_next ∙ sym (ap twigs_along e);
}

pub parted_on : {mutable : ℕ → Bool} {at last : ℕ} {way rest : List Fork} {end : Tree} {cell : Cell} (f : Fork) → way ≡ f ∷ rest → mutable at ≡ true → IsParted mutable (twig_at f) rest end last cell → IsParted mutable at way end last cell
parted_on {mutable} {at} {rest = rest} f e m p = record {
  upper = f ∷ p.upper;
  lower = p.lower;
  whole = e ∙ ap (λ w. f ∷ w) p.whole;
  last_is = p.last_is;
  is = p.is;
  copied = λ n. ap (copied_along mutable n at) e ∙ copied_mutable mutable n at f rest m ∙ p.copied (twigs_of f);
}

-- ---- the way is opened

module _ {S A : Type 0} {has : S → ℕ → Cell → Type 0} {account : A → Account} {s : S} {a : A} {place r : ℕ} {key : List ℕ} {spare : (ℕ → ℕ) → ℕ} {way : List Fork} {end : Tree} (asks : SlotAsks has account s a place key spare r way end) where
  -- the whole way, from the root's cell
  pub root_asks : {node : Cell} → ((c : Cell) → has s r c → node ≡ c) → WayAsks has account s a place 0 key node way end
  root_asks {node} read =
      let h = end_hangs [] (plug way end) asks.rooted asks.tree in
      let is = read (top_cell (plug way end)) asks.rooted.top in
      record { hangs = record { top = record { tree = asks.tree; is = is; beneath = asks.rooted.beneath }; within = h.within; counted = h.counted }; is_way = asks.is_way }

  -- once there is room for another root
  pub root_asks_later : {kept : S → List ℕ} {given : S → List Bool} {s1 : S} {a1 : A} {node : Cell} {first n : ℕ} → ((c : Cell) → has s r c → node ≡ c) → Handed (account a) (account a1) first n → Frame has kept given account s a s1 a1 → WayAsks has account s1 a1 place 0 key node way end
  root_asks_later {s1 = s1} {a1} read handed f = let x = root_asks read in record {
    hangs = record {
      top = record { tree = x.hangs.top.tree; is = x.hangs.top.is; beneath = beneath_kept (account a).used (has s) (has s1) f.stays (plug way end) x.hangs.within x.hangs.top.beneath };
      within = tree_weaker (account a).used (account a1).used f.grows.stays (plug way end) x.hangs.within;
      counted = λ k. let y = x.hangs.counted k in let z = handed.counts k in omega arith;
    };
    is_way = x.is_way;
  }

  module _ {last : ℕ} {node : Cell} (p : IsParted (account a).mutable r way end last node) where
    whole_is : plug way end ≡ plug p.upper (plug p.lower end)
    whole_is = ap (λ w. plug w end) p.whole ∙ plug-append p.upper p.lower end

    rooted_parts : Rooted has account s a spare r (plug p.upper (plug p.lower end))
    rooted_parts = subst (Rooted has account s a spare r) whole_is asks.rooted

    lower_tree : IsTree 0 (plug p.lower end)
    lower_tree = higher (low_at 0 p.upper) 0 (plug p.lower end) (end_tree 0 p.upper (plug p.lower end) (subst (IsTree 0) whole_is asks.tree)) (omega arith)

    -- its lower part, from the last mutable cell
    pub lower_asks : WayAsks has account s a place 0 key node p.lower end
    lower_asks =
        let h = end_hangs p.upper (plug p.lower end) rooted_parts lower_tree in
        record {
          hangs = record { top = record { tree = lower_tree; is = p.is; beneath = h.top.beneath }; within = h.within; counted = h.counted };
          is_way = record { along = (along_parts place key p.upper p.lower (subst (Along place key) p.whole asks.is_way.along)).1; ends = asks.is_way.ends };
        }

    pub opened_below : {given : S → List Bool} {s1 s2 : S} {a1 : A} {cell : Cell} {slot : ℕ} → (copied : IsCopied has given account a s1 a1 place 0 key last p.lower end cell slot) → ((q : ℕ) (c : Cell) → (account a).used q ≡ true → has s q c → has s1 q c) → ((q : ℕ) → (account a).used q ≡ true → (account a1).used q ≡ true) →
        given s2 ≡ given s1 → IsWritable given account s1 a1 last → has s2 last cell → ((q : ℕ) (c : Cell) → (q ≡ last → ⊥) → has s1 q c → has s2 q c) → IsSlot has given account s a s2 a1 place key spare r way end r slot
    opened_below {given} {s1} {s2} {a1} {cell} {slot} copied keep stays same_given writable put others = record {
      copy = p.upper ++ copied.copy;
      tree = subst (IsTree 0) (sym (plug-append p.upper copied.copy end)) (plug_tree 0 p.upper (plug p.lower end) (plug copied.copy end) (subst (IsTree 0) whole_is asks.tree) new_tree
          (follows_same (low_at 0 p.upper) (entries_of (plug p.lower end)) (entries_of (plug copied.copy end)) copied.entries));
      rooted = subst (Rooted has account s2 a1 spare r) (sym (plug-append p.upper copied.copy end)) placed;
      entries = ap entries_of (plug-append p.upper copied.copy end) ∙ entries_plug p.upper (plug copied.copy end) ∙ ap (λ es. before p.upper ++ (es ++ after p.upper)) copied.entries ∙ sym (ap entries_of whole_is ∙ entries_plug p.upper (plug p.lower end));
      along = along_join place key p.upper copied.copy (along_parts place key p.upper p.lower (subst (Along place key) p.whole asks.is_way.along)).0 copied.along;
      slot_is = copied.slot_is ∙ ap (λ q. end_at q copied.copy) p.last_is ∙ sym (end_at-append r p.upper copied.copy);
      writable = (let w = copied.writable writable in record { in_use = w.in_use; mutable = w.mutable; in_given = subst (λ (x : List Bool). IsGiven x (slot / 1024)) (sym same_given) w.in_given });
      outside = λ q c u out h. others q c (λ e. outside_last q u out e) (keep q c u h);
      apart = λ q u out e. outside_slot q u out e;
      below = λ q c m h. others q c (λ e. end_apart q m e) (keep q c (met_used rooted_parts q (let w = weigh_plug (at_place q) r p.upper (plug p.lower end) in let v = weigh_end q in omega arith)) h);
    }
      where
        last_at : last ≡ end_at r p.upper
        last_at = p.last_is

        new_tree : IsTree (low_at 0 p.upper) (plug copied.copy end)
        new_tree = lifted (low_at 0 p.upper) (plug p.lower end) (plug copied.copy end) (end_tree 0 p.upper (plug p.lower end) (subst (IsTree 0) whole_is asks.tree)) copied.shape copied.entries

        placed : Rooted has account s2 a1 spare r (plug p.upper (plug copied.copy end))
        placed = put_rooted p.upper (plug p.lower end) (plug copied.copy end) rooted_parts keep copied.beneath
            (λ k. let x = copied.counts k in omega arith) (λ q. let x = copied.met q in omega arith) copied.is (subst (λ q. has s2 q cell) last_at put) (λ q c ne. others q c (λ e. ne (e ∙ last_at)))

        weighs : (w : ℕ → ℕ) → w r + weigh_tree w (plug way end) ≡ around w r p.upper + (w (end_at r p.upper) + weigh_tree w (plug p.lower end))
        weighs w = ap (λ t. w r + weigh_tree w t) whole_is ∙ weigh_plug w r p.upper (plug p.lower end)

        weigh_end : (q : ℕ) → weigh_tree (at_place q) end ≤ weigh_tree (at_place q) (plug p.lower end)
        weigh_end q = end_less (at_place q) p.lower end

        end_apart : (q : ℕ) → 1 ≤ weigh_tree (at_place q) end → q ≡ last → ⊥
        end_apart q m e =
            let o = rooted_parts.once q in let w = weigh_plug (at_place q) r p.upper (plug p.lower end) in let v = weigh_end q in let l = mark_le (account a).used q in
            let i : ◌≡◌ {A = ℕ} (at_place q (end_at r p.upper)) 1 = ap (at_place q) (sym (e ∙ last_at)) ∙ at_itself q in omega arith

        outside_last : (q : ℕ) → (account a).used q ≡ true → at_place q r + weigh_tree (at_place q) (plug way end) ≡ 0 → q ≡ last → ⊥
        outside_last q u out e =
            let w = weighs (at_place q) in
            let i : ◌≡◌ {A = ℕ} (at_place q (end_at r p.upper)) 1 = ap (at_place q) (sym (e ∙ last_at)) ∙ at_itself q in omega arith

        outside_slot : (q : ℕ) → (account a).used q ≡ true → at_place q r + weigh_tree (at_place q) (plug way end) ≡ 0 → q ≡ slot → ⊥
        outside_slot q u out e =
            let w = weighs (at_place q) in
            let v = weigh_plug (at_place q) (end_at r p.upper) copied.copy end in
            let x = copied.met q in let m = marked (account a).used q u in let l = mark_le (account a1).used q in
            let y = ap (λ z. at_place q (end_at z copied.copy)) last_at in
            let i : ◌≡◌ {A = ℕ} (at_place q (end_at last copied.copy)) 1 = ap (at_place q) (sym (e ∙ copied.slot_is)) ∙ at_itself q in omega arith

  -- all of it is copied, to another root
  pub opened_anew : {kept : S → List ℕ} {given : S → List Bool} {s1 s2 s3 : S} {a1 a2 a3 : A} {root slot : ℕ} {cell : Cell} → Handed (account a) (account a1) root 1 → MayWrite kept given s1 root 1 → Frame has kept given account s a s1 a1 → Frame has kept given account s1 a1 s2 a2 →
      (copied : IsCopied has given account a1 s2 a2 place 0 key root way end cell slot) → has s3 root cell → ((q : ℕ) (c : Cell) → (q ≡ root → ⊥) → has s2 q c → has s3 q c) → given s3 ≡ given s2 →
      ((k : ℕ) → (account a3).live k + row (in_chunk k) r 1 ≡ (account a2).live k) → account a3 ≡ record (account a2) { live = (account a3).live } → IsSlot has given account s a s3 a3 place key spare r way end root slot
  opened_anew {given = given} {s1} {s2} {s3} {a1} {a2} {a3} {root} {slot} {cell} handed blank f g copied put others same_given released rest = record {
    copy = copied.copy;
    tree = copied.shape;
    rooted = record {
      inside = (let i = handed.twigs.inside in omega arith);
      top = subst (has s3 root) copied.is put;
      beneath = beneath_met (has s2) (has s3) (plug copied.copy end) (λ q c m h. others q c (tree_apart q m) h) copied.beneath;
      counted = λ k. let x = asks.rooted.counted k in let y = handed.counts k in let z = copied.counts k in let w = released k in omega arith;
      once = λ q. let x = asks.rooted.once q in let y = handed_fresh handed f.grows.stays q in let z = copied.met q in let w = mark_grows (account a2).used (account a3).used q (λ u. ap (λ (v : Account). v.used q) rest ∙ u) in omega arith;
    };
    entries = copied.entries;
    along = copied.along;
    slot_is = copied.slot_is;
    writable = (
        let w = copied.writable (record { in_use = g.grows.stays root root_used; mutable = g.grows.fresher root root_mutable; in_given = g.given_stays (root / 1024) root_given }) in
        record { in_use = ap (λ (v : Account). v.used slot) rest ∙ w.in_use; mutable = ap (λ (v : Account). v.mutable slot) rest ∙ w.mutable; in_given = subst (λ (x : List Bool). IsGiven x (slot / 1024)) (sym same_given) w.in_given }
        );
    outside = λ q c u out h. others q c (λ e. apart_root q u e) (g.stays q c (f.grows.stays q u) (f.stays q c u h));
    apart = outside_slot;
    below = λ q c m h. let u = met_used asks.rooted q (let w = end_less (at_place q) way end in omega arith) in others q c (λ e. apart_root q u e) (g.stays q c (f.grows.stays q u) (f.stays q c u h));
  }
    where
      zeroth : root + 0 ≡ root
      zeroth = omega arith

      root_used : (account a1).used root ≡ true
      root_used = subst (λ q. (account a1).used q ≡ true) zeroth (handed.taken 0 (omega arith))

      root_mutable : (account a1).mutable root ≡ true
      root_mutable = subst (λ q. (account a1).mutable q ≡ true) zeroth (handed.writable 0 (omega arith))

      root_given : IsGiven (given s1) (root / 1024)
      root_given = subst (λ q. IsGiven (given s1) (q / 1024)) zeroth (blank.in_given 0 (omega arith))

      apart_root : (q : ℕ) → (account a).used q ≡ true → q ≡ root → ⊥
      apart_root q u e = apart_from handed q u 0 (omega arith) (e ∙ sym zeroth)

      tree_apart : (q : ℕ) → 1 ≤ weigh_tree (at_place q) (plug copied.copy end) → q ≡ root → ⊥
      tree_apart q m e =
          let unused : (account a).used q ≡ false = ap (account a).used (e ∙ sym zeroth) ∙ handed.unused 0 (omega arith) in
          let x = asks.rooted.once q in let y = unmarked (account a).used q unused in let z = copied.met q in
          let w = marked (account a1).used q (ap (account a1).used e ∙ root_used) in let l = mark_le (account a2).used q in omega arith

      outside_slot : (q : ℕ) → (account a).used q ≡ true → at_place q r + weigh_tree (at_place q) (plug way end) ≡ 0 → q ≡ slot → ⊥
      outside_slot q u out e =
          let v = weigh_plug (at_place q) root copied.copy end in
          let n = at_another q root (λ x. apart_root q u (sym x)) in
          let z = copied.met q in let w = marked (account a1).used q (f.grows.stays q u) in let l = mark_le (account a2).used q in
          let i : ◌≡◌ {A = ℕ} (at_place q (end_at root copied.copy)) 1 = ap (at_place q) (sym (e ∙ copied.slot_is)) ∙ at_itself q in omega arith

-- where nothing has changed
module _ {S A : Type 0} {has : S → ℕ → Cell → Type 0} {account : A → Account} {s s1 : S} {a : A} {place r : ℕ} {key : List ℕ} {spare : (ℕ → ℕ) → ℕ} {way : List Fork} {end : Tree} (same : s1 ≡ s) where
  pub same_slot_asks : SlotAsks has account s a place key spare r way end → SlotAsks has account s1 a place key spare r way end
  same_slot_asks = subst (λ s. SlotAsks has account s a place key spare r way end) (sym same)

  pub same_slot : {given : S → List Bool} {s2 : S} {a2 : A} {root slot : ℕ} → IsSlot has given account s1 a s2 a2 place key spare r way end root slot → IsSlot has given account s a s2 a2 place key spare r way end root slot
  same_slot {given} {s2} {a2} {root} {slot} = subst (λ s. IsSlot has given account s a s2 a2 place key spare r way end root slot) same
