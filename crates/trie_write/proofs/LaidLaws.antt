-- The cells of an item that is put in.
use Rattle.std.proofs.Common.{◌≡◌, ◌≢◌, ℕ, suc, ◌+◌, ◌-◌, ◌*◌, ◌/◌, ◌<◌, ◌≤◌, Bool, true, false, List, ◌∷◌, length, replicate, Contains, arith, inl, inr, sym, ◌∙◌, ap, subst}
use Rattle.std.proofs.lemmas.Bool.{true≢false, cases_lt}
use Rattle.packed_node.specs.declared.Cell.{Cell}
use Rattle.packed_node.specs.Nodes.{IsLeaf, leaf_cell}
use Rattle.packed_node.specs.declared.Leaf.{Leaf}
use Rattle.trie_model.specs.Extents.{Extents, first_of, linked_cells, content_cells, links, AreExtents, AreApart, EachCell, IsBeside, ItemLies, weigh_extents}
use Rattle.trie_model.specs.Extents.Extents.{last, linked}
use Rattle.zone_model.specs.Keys.{most_item_octets}
use Rattle.trie_model.specs.Memory.{top_cell}
use Rattle.trie_model.specs.Reach.{in_chunk}
use Rattle.trie_model.specs.Trees.Tree.{leaf}
use Rattle.trie_model.proofs.ExtentLaws.{linked_is, first_inside, item_kept, each_weaker}
use Rattle.chunk_cells.specs.Chunks.{IsGiven}
use Rattle.chunk_cells.specs.Laying.{AreBlank, extents_in}
use Rattle.chunk_cells.specs.declared.extents.Extents.{Extents as Laid}
use Rattle.chunk_usage.specs.Rooms.{Account, Handed}
use Rattle.trie_write.specs.Laid.{HandedItem, IsItemAt, IsLaid, extent_sizes}
use Rattle.trie_write.specs.Puts.{item_span}
use Rattle.trie_write.specs.Steps.{Releases}
use Rattle.chunk_usage.specs.declared.space.Shortage.{Shortage}
use Rattle.trie_space.specs.Spaces.{Ready, Frame, Refused}
use Rattle.trie_write.proofs.AskLaws.{first_of as first_of_list, later_of, either_of}
use Rattle.trie_space.specs.Weights.{at_place, mark}
use Rattle.trie_space.proofs.SpaceLaws.{fresh_before}
use Rattle.trie_space.proofs.WeightLaws.{marked, unmarked, mark_grows, row_misses, row_meets, in_row, met_each}

-- what an item weighs, and its extents
pub item_span_is : {l : Laid} {n : ℕ} {x : Extents} → IsItemAt l n x → (w : ℕ → ℕ) → item_span l w ≡ weigh_extents w n x
item_span_is {l} {n} {x} is w = ap (λ (m : ℕ). weigh_extents w m (extents_in l)) is.len ∙ ap (weigh_extents w n) is.there

pub item_are : {l : Laid} {n : ℕ} {x : Extents} → IsItemAt l n x → AreExtents n x → AreExtents l.len (extents_in l)
item_are {l} {n} {x} is are = subst (λ (m : ℕ). AreExtents m (extents_in l)) (sym is.len) (subst (AreExtents n) (sym is.there) are)

pub none_are : AreExtents 0 (last 0)
none_are = (omega arith, record { inside = omega arith; together = omega arith })

-- the leaf of an item
pub laid_leaf : {l : Leaf} (x : Extents) (item : List ℕ) → l.len ≡ length item → l.at ≡ first_of x → 0 < length item → length item ≤ most_item_octets → AreExtents (length item) x → IsLeaf l
laid_leaf x item n at some short are = let i = first_inside (length item) x some are in record { some = omega arith; short = omega arith; inside = omega arith }

pub laid_top : {l : Leaf} (x : Extents) (key item : List ℕ) → l.len ≡ length item → l.at ≡ first_of x → leaf_cell l ≡ top_cell (leaf (record { key = key; item = item }) x)
laid_top {l} x key item n at = ap (λ (n : ℕ). leaf_cell (record { len = n; at = l.at })) n ∙ ap (λ (p : ℕ). leaf_cell (record { len = length item; at = p })) at

-- it stays where it lies while others are put in
module _ {S A : Type 0} {has : S → ℕ → Cell → Type 0} {kept : S → List ℕ} {given : S → List Bool} {account : A → Account} {s s1 : S} {a a1 : A} where
  pub item_stays : {l : Laid} {item : List ℕ} → IsLaid has account s a l item → Frame has kept given account s a s1 a1 → ItemLies (has s1) (extents_in l) item
  item_stays {l} {item} laid f = item_kept (λ q. (account a).used q ≡ true) (has s) (has s1) f.stays (extents_in l) item laid.in_use laid.lies

-- ---- cells that are handed out for an item

-- those of the last extent
pub handed_last : {old new : Account} {r : ℕ} (n : ℕ) → n ≤ 4096 → Handed old new r (content_cells n) → HandedItem old new n (last r)
handed_last {new = new} {r} n short h = record {
  are = (short, h.twigs);
  apart = tt;
  unused = h.unused;
  taken = h.taken;
  writable = h.writable;
  in_given = λ k l. subst (IsGiven new.given) (let t = h.twigs.together in omega arith) h.in_given;
  counts = h.counts;
}

-- and those of one before others
pub handed_linked : {old mid new : Account} {r n : ℕ} {x : Extents} → 4096 < n → HandedItem old mid (n - 4080) x → ((q : ℕ) → old.used q ≡ true → mid.used q ≡ true) → ((q : ℕ) → mid.used q ≡ true → new.used q ≡ true) → ((q : ℕ) → mid.mutable q ≡ true → new.mutable q ≡ true) → ((k : ℕ) → IsGiven mid.given k → IsGiven new.given k) →
    Handed mid new r linked_cells → HandedItem old new n (linked r x)
handed_linked {old} {mid} {new} {r} {n} {x} long behind first later opens given h = record {
  are = (long, h.twigs, behind.are);
  apart = ((λ k l. each_weaker (λ p. mid.used p ≡ true) (λ p. r + k ≢ p) (λ p u e. true≢false (sym u ∙ ap mid.used (sym e) ∙ h.unused k l)) (n - 4080) x behind.taken), behind.apart);
  unused = ((λ k l. fresh_before (old.used (r + k)) (mid.used (r + k)) (first (r + k)) (h.unused k l)), behind.unused);
  taken = (h.taken, each_weaker (λ p. mid.used p ≡ true) (λ p. new.used p ≡ true) later (n - 4080) x behind.taken);
  writable = (h.writable, each_weaker (λ p. mid.mutable p ≡ true) (λ p. new.mutable p ≡ true) opens (n - 4080) x behind.writable);
  in_given = ((λ k l. subst (IsGiven new.given) (let t = h.twigs.together in let e = linked_is in omega arith) h.in_given), each_weaker (λ p. IsGiven mid.given (p / 1024)) (λ p. IsGiven new.given (p / 1024)) (λ p. given (p / 1024)) (n - 4080) x behind.in_given);
  counts = λ k. let a = behind.counts k in let b = h.counts k in omega arith;
}

-- what an extent may be asked for
pub last_asked : (n m : ℕ) → n ≤ 4096 → m ≡ content_cells n → Contains (extent_sizes n) m
last_asked n m short e = let none : n - 4080 * links n ≡ n = omega arith in first_of_list (content_cells (n - 4080 * links n)) m (replicate (links n) linked_cells) (ap content_cells none ∙ sym e)

pub linked_asked : (n m : ℕ) → 4096 < n → m ≡ linked_cells → Contains (extent_sizes n) m
linked_asked n m long e =
    let more : suc (links (n - 4080)) ≡ links n = omega arith in
    subst (λ (k : ℕ). Contains (content_cells (n - 4080 * links n) ∷ replicate k linked_cells) m) more
    (later_of (content_cells (n - 4080 * links n)) m (linked_cells ∷ replicate (links (n - 4080)) linked_cells) (first_of_list linked_cells m (replicate (links (n - 4080)) linked_cells) (sym e)))

pub behind_asked : (n m : ℕ) → 4096 < n → Contains (extent_sizes (n - 4080)) m → Contains (extent_sizes n) m
behind_asked n m long h =
    let more : suc (links (n - 4080)) ≡ links n = omega arith in
    let end : n - 4080 - 4080 * links (n - 4080) ≡ n - 4080 * links n = omega arith in
    subst (λ (k : ℕ). Contains (content_cells (n - 4080 * links n) ∷ replicate k linked_cells) m) more (elim (either_of (content_cells (n - 4080 - 4080 * links (n - 4080))) m (replicate (links (n - 4080)) linked_cells) h) [
      | inl e ↦ first_of_list (content_cells (n - 4080 * links n)) m (linked_cells ∷ replicate (links (n - 4080)) linked_cells) (ap content_cells (sym end) ∙ e)
      | inr r ↦ later_of (content_cells (n - 4080 * links n)) m (linked_cells ∷ replicate (links (n - 4080)) linked_cells) (later_of linked_cells m (replicate (links (n - 4080)) linked_cells) r)
    ])

module _ {S A : Type 0} {kept : S → List ℕ} {given : S → List Bool} {account : A → Account} where
  -- they may be written
  pub item_open : {s s1 : S} {a a1 : A} {n : ℕ} {x : Extents} → HandedItem (account a) (account a1) n x → Ready kept given account s a → Ready kept given account s1 a1 → kept s1 ≡ kept s → AreBlank (kept s1) (given s1) n x
  item_open {s = s} {s1} {a} {a1} {n} {x} h r r1 keeps = record {
    are = h.are;
    apart = h.apart;
    in_given = subst (λ (gs : List Bool). EachCell (λ q. IsGiven gs (q / 1024)) n x) (sym r1.same) h.in_given;
    unkept = each_weaker (λ q. (account a).used q ≡ false) (λ q. Contains (kept s1) q → ⊥) (λ q u k. true≢false (sym (r.in_use q (subst (λ (qs : List ℕ). Contains qs q) keeps k)) ∙ u)) n x h.unused;
  }

-- what an item weighs that is given back
pub released_item : {A : Type 0} {account : A → Account} {lacks : A → Shortage → Type 0} {a a1 : A} {n : ℕ} (l : Laid) → Releases account lacks (λ w. weigh_extents w l.len (extents_in l)) a a1 → l.len ≡ n → (k : ℕ) → (account a1).live k + weigh_extents (in_chunk k) n (extents_in l) ≡ (account a).live k
released_item {account = account} {a = a} {a1} l r is k = subst (λ (m : ℕ). (account a1).live k + weigh_extents (in_chunk k) m (extents_in l) ≡ (account a).live k) is (r.counts k)

module _ {S A : Type 0} {has : S → ℕ → Cell → Type 0} {kept : S → List ℕ} {given : S → List Bool} {account : A → Account} where
  -- and once they are, what was there is as it was
  pub frame_item : {s s1 s2 : S} {a a1 : A} {n : ℕ} {x : Extents} → HandedItem (account a) (account a1) n x → Frame has kept given account s a s1 a1 → ((q : ℕ) (c : Cell) → IsBeside q n x → has s1 q c → has s2 q c) → given s2 ≡ given s1 → kept s2 ≡ kept s1 → Frame has kept given account s a s2 a1
  frame_item {s = s} {s1} {s2} {a} {a1} {n} {x} h f others same_given same_kept = record {
    stays = λ q c u there. others q c (each_weaker (λ p. (account a).used p ≡ false) (λ p. q ≢ p) (λ p v e. true≢false (sym u ∙ ap (account a).used e ∙ v)) n x h.unused) (f.stays q c u there);
    frozen = λ q c m there. others q c (each_weaker (λ p. (account a1).mutable p ≡ true) (λ p. q ≢ p) (λ p v e. true≢false (sym v ∙ ap (account a1).mutable (sym e) ∙ m)) n x h.writable) (f.frozen q c m there);
    keeps = same_kept ∙ f.keeps;
    given_stays = λ k g. subst (λ (gs : List Bool). IsGiven gs k) (sym same_given) (f.given_stays k g);
    opens = f.opens;
    grows = f.grows;
    spares = f.spares;
    last = f.last;
    meets = f.meets;
  }

  -- there was no room for more, and they count no more
  pub refused_item : {lacks : A → Shortage → Type 0} {s s1 s2 : S} {a a1 a2 a3 : A} {n : ℕ} {x : Extents} {f : Shortage} → Frame has kept given account s a s1 a1 → HandedItem (account a) (account a1) n x → Refused has account lacks s1 a1 s2 a2 f →
      ((k : ℕ) → (account a3).live k + weigh_extents (in_chunk k) n x ≡ (account a2).live k) → ((f : Shortage) → lacks a2 f → lacks a3 f) → Refused has account lacks s a s2 a3 f
  refused_item {f = f} frame h r released lack = record {
    untouched = λ q c u there. r.untouched q c (frame.grows.stays q u) (frame.stays q c u there);
    counts = λ k. let x = h.counts k in let y = r.counts k in let z = released k in omega arith;
    lack = lack f r.lack;
  }

-- ---- no cell of an item is met twice

-- a cell that isn't one of theirs isn't met
pub beside_misses : (q n : ℕ) (x : Extents) → IsBeside q n x → weigh_extents (at_place q) n x ≡ 0
beside_misses q n (last r) h = row_misses q r (content_cells n) h
beside_misses q n (linked r x) h = let a = row_misses q r linked_cells h.0 in let b = beside_misses q (n - 4080) x h.1 in omega arith

-- extents apart meet each cell once
pub apart_once : (q n : ℕ) (x : Extents) → AreApart n x → weigh_extents (at_place q) n x ≤ 1
apart_once q n (last r) h = elim (in_row q r (content_cells n)) [
  | inl i ↦ (let z = row_meets q r (content_cells n) i.0 i.1 i.2 in omega arith)
  | inr out ↦ (let z = row_misses q r (content_cells n) out in omega arith)
]
apart_once q n (linked r x) h = elim (in_row q r linked_cells) [
  | inl i ↦ (let z = row_meets q r linked_cells i.0 i.1 i.2 in let b = beside_misses q (n - 4080) x (subst (λ (p : ℕ). IsBeside p (n - 4080) x) (sym i.2) (h.0 i.0 i.1)) in omega arith)
  | inr out ↦ (let z = row_misses q r linked_cells out in let b = apart_once q (n - 4080) x h.1 in omega arith)
]

-- those handed out weren't in use before
pub item_fresh : {old new : Account} {n : ℕ} {x : Extents} → HandedItem old new n x → ((q : ℕ) → old.used q ≡ true → new.used q ≡ true) → (q : ℕ) → weigh_extents (at_place q) n x + mark old.used q ≤ mark new.used q
item_fresh {old} {new} {n} {x} h stays q = elim (cases_lt 0 (weigh_extents (at_place q) n x)) [
  | inl met ↦ (
      let a = apart_once q n x h.apart in
      let b = unmarked old.used q (met_each (λ p. old.used p ≡ false) n x h.unused q met) in
      let c = marked new.used q (met_each (λ p. new.used p ≡ true) n x h.taken q met) in omega arith
      )
  | inr few ↦ (let b = mark_grows old.used new.used q (stays q) in omega arith)
]
