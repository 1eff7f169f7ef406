-- A root that stands for a version, after its node was read.
use Rattle.std.proofs.Common.{◌≡◌, ℕ, List, sym, subst}
use Rattle.packed_node.specs.declared.Cell.{Cell}
use Rattle.zone_model.specs.Keys.{Leads}
use Rattle.trie_model.specs.Keys.{Entry, InList}
use Rattle.trie_model.specs.Trees.{Tree, entries_of}
use Rattle.trie_model.specs.Memory.{IsTrieAt, Beneath, top_cell}
use Rattle.trie_read.specs.Reads.{IsTop, EachTells}

pub root_top : {S : Type 0} (H : S → ℕ → Cell → Type 0) (s0 s1 : S) (r : ℕ) (t : Tree) (version : List Entry) (cell : Cell) → IsTrieAt (H s0) r t version → s1 ≡ s0 → ((d : Cell) → H s0 r d → cell ≡ d) → IsTop (H s1) 0 cell t
root_top H s0 s1 r t version cell h e read = record { tree = h.shape; is = read (top_cell t) h.top; beneath = subst (λ s. Beneath (H s) t) (sym e) h.beneath }

pub version_tells : (version : List Entry) (t : Tree) → entries_of t ≡ version → EachTells Leads version → EachTells Leads (entries_of t)
version_tells version t e tells x i = tells x (subst (InList x) e i)
