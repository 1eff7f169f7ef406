-- What a call answers that changes no trie.
use Rattle.std.proofs.Common.{◌≡◌, ℕ, Bool, List, Option, Contains, Result, Ok, Err, arith, refl, sym, ap, subst}
use Rattle.std.specs.Prelude.{IsErrAnd}
use Rattle.packed_node.specs.declared.Cell.{Cell}
use Rattle.trie_model.specs.Keys.{Entry}
use Rattle.chunk_usage.specs.declared.space.Shortage.{Shortage}
use Rattle.chunk_usage.specs.Rooms.{Account}
use Rattle.trie_space.specs.Spaces.{Ready, Refused}
use Rattle.trie_space.specs.Standing.{HasTrie}
use Rattle.trie_space.proofs.SpaceLaws.{fenced_of, frame_refl, frame_same, ready_put}
use Rattle.trie_write.specs.declared.refusal.NotDone.{NotDone}
use Rattle.trie_write.specs.declared.refusal.NotDone.TheVariants as not_done
use Rattle.trie_write.specs.Changes.{ChangesTrie, StaysAsItWas}
use Rattle.trie_write.specs.Roots.{BranchesOnPath}

pub not_refused : {T : Type 0} (full : Shortage) (r : Result T NotDone) → IsErrAnd r (λ y. y ≡ not_done.Full full) → r ≡ Err not_done.Refused → ⊥
not_refused full (Ok x) is e = is
not_refused full (Err y) is e = absurd cc

module _ {S A : Type 0} {has : S → ℕ → Cell → Type 0} {account : A → Account} {lacks : A → Shortage → Type 0} {s s1 : S} {a : A} {root : Option ℕ} {key : List ℕ} {asks : List ℕ → List ℕ} where
  -- there is no room
  pub stays_full : {a1 : A} {full : Shortage} → ((version : List Entry) → HasTrie has account s a root version → HasTrie has account s1 a1 root version) → Refused has account lacks s a s1 a1 full →
      ((branches : List ℕ) → BranchesOnPath has account s a root key branches → Contains (asks branches) full.needed) → StaysAsItWas has account lacks s a s1 a1 root key asks (not_done.Full full)
  stays_full {a1} {full} stands refused asked = record {
    stands = stands;
    unchanged = record { untouched = refused.untouched; counts = refused.counts };
    denied = λ e. absurd cc;
    full = λ f e. let same : full ≡ f = cc in subst (lacks a1) same refused.lack;
    asked = λ f e branches on. let same : full ≡ f = cc in subst (λ (x : Shortage). Contains (asks branches) x.needed) same (asked branches on);
  }

  -- the name is there, or isn't
  pub stays_refused : s1 ≡ s → StaysAsItWas has account lacks s a s1 a root key asks not_done.Refused
  stays_refused same = record {
    stands = λ version standing. subst (λ z. HasTrie has account z a root version) (sym same) standing;
    unchanged = record { untouched = λ q x used there. subst (λ z. has z q x) (sym same) there; counts = λ k. refl };
    denied = λ e. refl;
    full = λ f e. absurd cc;
    asked = λ f e. absurd cc;
  }

-- cells were read, and no more
pub changes_none : {S A : Type 0} {has : S → ℕ → Cell → Type 0} {kept : S → List ℕ} {given : S → List Bool} {account : A → Account} {s s1 : S} {a : A} {root : Option ℕ} {key : List ℕ} {n m : ℕ} → s1 ≡ s → Ready kept given account s a → ChangesTrie has kept given account s a s1 a root key n m
changes_none {has = has} {kept} {given} same ready = record {
  outside = λ q x beyond there. subst (λ z. has z q x) (sym same) there;
  consumes = λ k on. omega arith;
  copies = λ k on. omega arith;
  frame = fenced_of (frame_same same (frame_refl _ _));
  ready = ready_put ready (ap given same) (ap kept same);
}
