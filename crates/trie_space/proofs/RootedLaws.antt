-- What stands at a root: what it meets is in use, and another tree can be put into a cell below it.
use Rattle.std.proofs.Common.{◌≡◌, ℕ, ◌+◌, ◌≤◌, true, false, List, arith, inl, inr, refl, sym, ◌∙◌, ap, subst}
use Rattle.std.proofs.lemmas.Bool.{cases_Bool}
use Rattle.packed_node.specs.declared.Cell.{Cell}
use Rattle.trie_model.specs.Keys.{Entry}
use Rattle.trie_model.specs.Memory.{top_cell, Beneath}
use Rattle.trie_model.specs.Reach.{in_chunk, weigh_tree, WithinTree}
use Rattle.trie_model.specs.Trees.{Tree, entries_of, IsTree}
use Rattle.trie_model.proofs.ReachLaws.{met, live_is}
use Rattle.chunk_usage.specs.Rooms.{Account}
use Rattle.trie_space.specs.Rooted.{Hangs, Rooted, no_spare}
use Rattle.trie_space.specs.Standing.{StandsIn}
use Rattle.trie_space.specs.Ways.{Fork, plug, end_at}
use Rattle.trie_space.specs.Weights.{at_place, mark}
use Rattle.trie_space.proofs.WayLaws.{around, weigh_plug, plug_lies, end_lies, beneath_met}
use Rattle.trie_space.proofs.WeightLaws.{at_itself, at_another, marked, mark_le, mark_tells, within_met, met_within}

module _ {S A : Type 0} {has : S → ℕ → Cell → Type 0} {account : A → Account} where
  -- what it meets is in use
  pub met_used : {s : S} {a : A} {spare : (ℕ → ℕ) → ℕ} {r : ℕ} {t : Tree} → Rooted has account s a spare r t → (q : ℕ) → 1 ≤ at_place q r + weigh_tree (at_place q) t → (account a).used q ≡ true
  met_used {a = a} h q m = mark_tells (account a).used q (let o = h.once q in omega arith)

  pub rooted_within : {s : S} {a : A} {spare : (ℕ → ℕ) → ℕ} {r : ℕ} {t : Tree} → Rooted has account s a spare r t → WithinTree (account a).used t
  rooted_within {a = a} {t = t} h = within_met (account a).used t (λ q m. met_used h q (omega arith))

  -- what hangs at the end of a way
  pub end_hangs : {s : S} {a : A} {spare : (ℕ → ℕ) → ℕ} {r : ℕ} (way : List Fork) (t : Tree) → Rooted has account s a spare r (plug way t) → IsTree 0 t → Hangs has account s a 0 (top_cell t) t
  end_hangs {s} {a} {r = r} way t h tree = record {
    top = record { tree = tree; is = refl; beneath = (end_lies (has s) r way t h.top h.beneath).1 };
    within = within_met (account a).used t (λ q m. met_used h q (let p = weigh_plug (at_place q) r way t in omega arith));
    counted = λ k. let c = h.counted k in let p = weigh_plug (in_chunk k) r way t in omega arith;
  }

  pub end_used : {s : S} {a : A} {spare : (ℕ → ℕ) → ℕ} {r : ℕ} (way : List Fork) (t : Tree) → Rooted has account s a spare r (plug way t) → (account a).used (end_at r way) ≡ true
  end_used {r = r} way t h = met_used h (end_at r way) (let p = weigh_plug (at_place (end_at r way)) r way t in let i = at_itself (end_at r way) in omega arith)

  -- another tree is put at the end of a way
  pub put_rooted : {s s1 s2 : S} {a a2 : A} {spare spare2 : (ℕ → ℕ) → ℕ} {r : ℕ} {cell : Cell} (way : List Fork) (t u : Tree) → Rooted has account s a spare r (plug way t) → ((q : ℕ) (c : Cell) → (account a).used q ≡ true → has s q c → has s1 q c) →
      Beneath (has s1) u → ((k : ℕ) → (account a2).live k + weigh_tree (in_chunk k) t + spare (in_chunk k) ≡ (account a).live k + weigh_tree (in_chunk k) u + spare2 (in_chunk k)) →
      ((q : ℕ) → weigh_tree (at_place q) u + spare2 (at_place q) + mark (account a).used q ≤ weigh_tree (at_place q) t + spare (at_place q) + mark (account a2).used q) →
      cell ≡ top_cell u → has s2 (end_at r way) cell → ((q : ℕ) (c : Cell) → (q ≡ end_at r way → ⊥) → has s1 q c → has s2 q c) → Rooted has account s2 a2 spare2 r (plug way u)
  put_rooted {s} {s1} {s2} {a} {a2} {r = r} way t u h keep beneath counts met is put others = record {
    inside = h.inside;
    top = lies.0;
    beneath = lies.1;
    counted = λ k. let c = h.counted k in let m = counts k in let p = weigh_plug (in_chunk k) r way t in let q = weigh_plug (in_chunk k) r way u in omega arith;
    once = λ q. let o = h.once q in let m = met q in let p = weigh_plug (at_place q) r way t in let v = weigh_plug (at_place q) r way u in omega arith;
  }
    where
      around_apart : (q : ℕ) → 1 ≤ around (at_place q) r way → q ≡ end_at r way → ⊥
      around_apart q m e =
          let o = h.once q in let p = weigh_plug (at_place q) r way t in let b = mark_le (account a).used q in
          let i : ◌≡◌ {A = ℕ} (at_place q (end_at r way)) 1 = ap (at_place q) (sym e) ∙ at_itself q in omega arith

      tree_apart : (q : ℕ) → 1 ≤ weigh_tree (at_place q) u → q ≡ end_at r way → ⊥
      tree_apart q m e =
          let o = h.once q in let p = weigh_plug (at_place q) r way t in let w = met q in let b = mark_le (account a2).used q in let l = mark_le (account a).used q in
          let i : ◌≡◌ {A = ℕ} (at_place q (end_at r way)) 1 = ap (at_place q) (sym e) ∙ at_itself q in omega arith

      around_used : (q : ℕ) → 1 ≤ around (at_place q) r way → (account a).used q ≡ true
      around_used q m = met_used h q (let p = weigh_plug (at_place q) r way t in omega arith)

      lies : has s2 r (top_cell (plug way u)) × Beneath (has s2) (plug way u)
      lies = plug_lies (has s) (has s2) r way t u h.top h.beneath (λ q c m x. others q c (around_apart q m) (keep q c (around_used q m) x)) (subst (has s2 (end_at r way)) is put)
          (beneath_met (has s1) (has s2) u (λ q c m x. others q c (tree_apart q m) x) beneath)

-- ---- a trie that stands, where nothing is spare

module _ {S A : Type 0} (has : S → ℕ → Cell → Type 0) (account : A → Account) where
  pub stands_rooted : (s : S) (a : A) {r : ℕ} {t : Tree} {version : List Entry} → StandsIn (has s) (account a).used (account a).live r t version → Rooted has account s a no_spare r t
  stands_rooted s a {r} {t} h = record {
    inside = h.trie.inside;
    top = h.trie.top;
    beneath = h.trie.beneath;
    counted = λ k. h.counted k ∙ live_is k r t ∙ omega arith;
    once = λ q. elim (cases_Bool ((account a).used q)) [
      | inl u ↦ (let m = marked (account a).used q u in let e = met q r t in let o = h.trie.once q in omega arith)
      | inr u ↦ (
          let o = at_another q r (λ same. absurd (let x : true ≡ false = sym h.top_in_use ∙ ap (account a).used same ∙ u in cc)) in
          let w = met_within (account a).used t h.in_use q u in omega arith
          )
    ];
  }

module _ {S A : Type 0} {has : S → ℕ → Cell → Type 0} {account : A → Account} where
  pub rooted_stands : {s : S} {a : A} {r : ℕ} {t : Tree} → Rooted has account s a no_spare r t → IsTree 0 t → StandsIn (has s) (account a).used (account a).live r t (entries_of t)
  rooted_stands {s} {a} {r} {t} h tree = record {
    trie = record { shape = tree; inside = h.inside; top = h.top; beneath = h.beneath; once = λ q. let e = met q r t in let o = h.once q in let m = mark_le (account a).used q in omega arith; holds = refl };
    top_in_use = met_used h r (let i = at_itself r in omega arith);
    in_use = rooted_within h;
    counted = λ k. let c = h.counted k in let e = live_is k r t in omega arith;
  }
