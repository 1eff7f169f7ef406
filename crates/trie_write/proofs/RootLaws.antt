-- What stands at a root, and what its entries tell.
use Rattle.std.proofs.Common.{◌≡◌, ℕ, ◌<◌, inl, inr, Bool, true, List, [], ◌∷◌, length, Option, Some, None, length-append, arith, refl, sym, ◌∙◌, ap, subst}
use Rattle.packed_node.specs.declared.Cell.{Cell}
use Rattle.zone_model.specs.Names.{wire}
use Rattle.zone_model.specs.Keys.{Leads}
use Rattle.trie_model.specs.Changes.{Inserted}
use Rattle.trie_model.specs.Keys.{IsKey, Entry, IsEntry, InList}
use Rattle.trie_model.specs.Memory.{top_cell, Stands}
use Rattle.trie_model.specs.Trees.{Tree}
use Rattle.trie_model.proofs.AddLaws.{in_put}
use Rattle.trie_model.proofs.KeyLaws.{in_left, in_right, in_both}
use Rattle.trie_model.proofs.MoveLaws.{Keeps, beneath_kept, tree_weaker}
use Rattle.trie_model.proofs.NameLaws.{name_key}
use Rattle.trie_read.specs.Reads.{EachTells}
use Rattle.trie_write.specs.Deletions.{Deleted}
use Rattle.trie_write.specs.Exchanges.{Exchanged}
use Rattle.trie_space.specs.Standing.{StandsIn, Standing}
use Rattle.trie_write.proofs.ItemLaws.{wire_some, AreSmall}

-- ---- the entry of a key and an item

pub leads_key : {key item : List ℕ} → Leads key item → IsKey key
leads_key {key} leads = name_key key (leads.name, leads.is_name, leads.key)

pub leads_some : {key item : List ℕ} → Leads key item → 0 < length item
leads_some leads = let a = wire_some leads.name in let b = ap (λ (xs : List ℕ). length xs) leads.front.1 in let c = length-append (wire leads.name) leads.front.0 in omega arith

abbrev pub entry_with : List ℕ → List ℕ → Entry
entry_with key item = record { key = key; item = item }

pub leads_entry : {key item : List ℕ} → Leads key item → AreSmall item → IsEntry (record { key = key; item = item })
leads_entry leads small = record { key = leads_key leads; item = record { some = leads_some leads; short = leads.short; octets = small } }

-- ---- what was there stays

pub stands_later : {has new : ℕ → Cell → Type 0} {used used_new : ℕ → Bool} {live live_new : ℕ → ℕ} {r : ℕ} {t : Tree} {version : List Entry} → StandsIn has used live r t version → Keeps used has new → ((q : ℕ) → used q ≡ true → used_new q ≡ true) → ((k : ℕ) → live_new k ≡ live k) → StandsIn new used_new live_new r t version
stands_later {has} {new} {used} {used_new} {r = r} {t = t} s keep stays live = record {
  trie = record { shape = s.trie.shape; inside = s.trie.inside; top = keep r (top_cell t) s.top_in_use s.trie.top; beneath = beneath_kept used has new keep t s.in_use s.trie.beneath; once = s.trie.once; holds = s.trie.holds };
  top_in_use = stays r s.top_in_use;
  in_use = tree_weaker used used_new stays t s.in_use;
  counted = λ k. live k ∙ s.counted k;
}

pub standing_later : {has new : ℕ → Cell → Type 0} {used used_new : ℕ → Bool} {live live_new : ℕ → ℕ} (version : List Entry) (root : Option ℕ) → Standing has used live root version → Keeps used has new → ((q : ℕ) → used q ≡ true → used_new q ≡ true) → ((k : ℕ) → live_new k ≡ live k) → Standing new used_new live_new root version
standing_later version None s keep stays live = (s.0, λ k. live k ∙ s.1 k)
standing_later version (Some r) s keep stays live = (s.0, stands_later s.1 keep stays live)

pub inserted_first : (e : Entry) (version : List Entry) → version ≡ [] → Inserted e version (e ∷ [])
inserted_first e version none = record { before = []; after = []; old_is = none; new_is = refl; lower = λ x i. absurd i; upper = λ x i. absurd i }

-- each item still tells its key
pub tells_more : (tells : List ℕ → List ℕ → Type 0) (e : Entry) (old new : List Entry) → EachTells tells old → tells e.key e.item → Inserted e old new → EachTells tells new
tells_more tells e old new each here put x i = elim (in_put e x old new put i) [ inl same ↦ subst (λ (z : Entry). tells z.key z.item) (sym same) here | inr there ↦ each x there ]

pub tells_exchanged : (tells : List ℕ → List ℕ → Type 0) (e : Entry) (old new : List Entry) → EachTells tells old → tells e.key e.item → Exchanged e old new → EachTells tells new
tells_exchanged tells e old new each here c x i = elim (in_both x c.before (e ∷ c.after) (subst (InList x) c.new_is i)) [
  | inl a ↦ each x (subst (InList x) (sym c.old_is) (in_left x c.before (c.gone ∷ c.after) a))
  | inr b ↦ elim b [ inl same ↦ subst (λ (z : Entry). tells z.key z.item) (sym same) here | inr z ↦ each x (subst (InList x) (sym c.old_is) (in_right x c.before (c.gone ∷ c.after) (inr z))) ]
]

pub tells_fewer : (tells : List ℕ → List ℕ → Type 0) (key : List ℕ) (old new : List Entry) → EachTells tells old → Deleted key old new → EachTells tells new
tells_fewer tells key old new each d x i = each x (subst (InList x) (sym d.removed.old_is) (elim (in_both x d.removed.before d.removed.after (subst (InList x) d.removed.new_is i)) [
  | inl a ↦ in_left x d.removed.before (d.gone ∷ d.removed.after) a
  | inr b ↦ in_right x d.removed.before (d.gone ∷ d.removed.after) (inr b)
]))

pub stands_of : (has : ℕ → Cell → Type 0) (used : ℕ → Bool) (live : ℕ → ℕ) (version : List Entry) (root : Option ℕ) → Standing has used live root version → Stands has root version
stands_of has used live version None s = s.0
stands_of has used live version (Some r) s = (s.0, s.1.trie)
