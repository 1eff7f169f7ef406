-- A changed root stands for what the operation makes of the version.
use Rattle.std.proofs.Common.{◌⊎◌, ℕ, Bool, List, ◌∷◌, ◌++◌, Option, Some, None, inl, inr, sym, subst, slice_index}
use Rattle.packed_node.specs.declared.Cell.{Cell}
use Rattle.zone_model.specs.Keys.{Leads}
use Rattle.trie_model.specs.Keys.{Entry, InList, Rises}
use Rattle.trie_model.specs.Changes.{Inserted}
use Rattle.trie_model.proofs.KeyLaws.{in_left, in_right, in_both}
use Rattle.trie_model.proofs.OrderLaws.{rises_tree}
use Rattle.trie_read.specs.Reads.{EachTells}
use Rattle.trie_write.specs.Deletions.{Deleted}
use Rattle.trie_write.specs.Exchanges.{Exchanged}
use Rattle.trie_space.specs.Standing.{Standing}
use Rattle.trie_write.proofs.RootLaws.{tells_more}
use Rattle.chunk_usage.specs.Ledger.{Ledger, is_used}
use Rattle.qp_multi.specs.Operations.{with_entry, without}
use Rattle.qp_multi.specs.Bases.{IsRooted}
use Rattle.qp_multi.proofs.OperationLaws.{inserted_is, exchanged_is, deleted_is}

-- what a root stands for rises
standing_rises : (has : ℕ → Cell → Type 0) (used : ℕ → Bool) (live : ℕ → ℕ) (root : Option ℕ) (es : List Entry) → Standing has used live root es → Rises es
standing_rises has used live None es s = subst Rises (sym s.0) tt
standing_rises has used live (Some r) es s = subst Rises s.1.trie.holds (rises_tree 0 s.0 s.1.trie.shape)

tells_exchanged : (e : Entry) (old new : List Entry) → EachTells Leads old → Leads e.key e.item → Exchanged e old new → EachTells Leads new
tells_exchanged e old new each here x y i = go (in_both y x.before (e ∷ x.after) (subst (InList y) x.new_is i))
  where
    was : InList y (x.before ++ (x.gone ∷ x.after)) → Leads y.key y.item
    was j = each y (subst (InList y) (sym x.old_is) j)

    go : InList y x.before ⊎ InList y (e ∷ x.after) → Leads y.key y.item
    go (inl a) = was (in_left y x.before (x.gone ∷ x.after) a)
    go (inr (inl same)) = subst (λ (z : Entry). Leads z.key z.item) (sym same) here
    go (inr (inr b)) = was (in_right y x.before (x.gone ∷ x.after) (inr b))

tells_fewer : (key : List ℕ) (old new : List Entry) → EachTells Leads old → Deleted key old new → EachTells Leads new
tells_fewer key old new each d x i = each x (subst (InList x) (sym d.removed.old_is) (go (in_both x d.removed.before d.removed.after (subst (InList x) d.removed.new_is i))))
  where
    go : InList x d.removed.before ⊎ InList x d.removed.after → InList x (d.removed.before ++ (d.gone ∷ d.removed.after))
    go (inl a) = in_left x d.removed.before (d.gone ∷ d.removed.after) a
    go (inr b) = in_right x d.removed.before (d.gone ∷ d.removed.after) (inr b)

module _ (has new : ℕ → Cell → Type 0) (u v : Ledger) (root next : Option ℕ) (es : List Entry) (is : IsRooted has u root es) where
  abbrev NowStands : List Entry → Type 0
  NowStands made = Standing new (is_used v) (λ k. slice_index v.live k) next made

  pub rooted_inserted : (e : Entry) → Leads e.key e.item → (made : List Entry) × Inserted e es made × NowStands made → IsRooted new v next (with_entry es e)
  rooted_inserted e leads made = subst (IsRooted new v next) (inserted_is e es made.0 made.1) (record { stands = made.2; tells = tells_more Leads e es made.0 is.tells leads made.1 })

  pub rooted_exchanged : (e : Entry) → Leads e.key e.item → (made : List Entry) × Exchanged e es made × NowStands made → IsRooted new v next (with_entry es e)
  rooted_exchanged e leads made = subst (IsRooted new v next) (exchanged_is e es made.0 (standing_rises has (is_used u) (λ k. slice_index u.live k) root es is.stands) made.1)
      (record { stands = made.2; tells = tells_exchanged e es made.0 is.tells leads made.1 })

  pub rooted_deleted : (key : List ℕ) → (made : List Entry) × Deleted key es made × NowStands made → IsRooted new v next (without es key)
  rooted_deleted key made = subst (IsRooted new v next) (deleted_is key es made.0 (standing_rises has (is_used u) (λ k. slice_index u.live k) root es is.stands) made.1)
      (record { stands = made.2; tells = tells_fewer key es made.0 is.tells made.1 })
