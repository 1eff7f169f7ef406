-- How much a call of a transaction consumes at most: a key's path has few branches, since their offsets rise, and each has at most 47 twigs.
use Rattle.std.proofs.Common.{ℕ, ◌+◌, ◌-◌, ◌*◌, ◌≤◌, ◌==◌, Bool, true, false, if◌then◌else◌, List, Option, Some, None, suc, slice_index, arith, refl}
use Rattle.packed_node.specs.declared.Cell.{Cell}
use Rattle.trie_model.specs.Keys.{Entry, at}
use Rattle.trie_model.specs.Trees.{Tree, Twigs, IsTree, AreTwigs}
use Rattle.trie_model.specs.Trees.Tree.{leaf, branch}
use Rattle.trie_model.specs.Trees.Twigs.{none, twig}
use Rattle.trie_model.proofs.BitmapLaws.{few}
use Rattle.trie_model.proofs.SplitLaws.{rising_of}
use Rattle.zone_model.specs.Keys.{Leads}
use Rattle.trie_read.specs.Reads.{EachTells}
use Rattle.chunk_usage.specs.Handing.{consumed}
use Rattle.chunk_usage.specs.Ledger.{Ledger, is_used}
use Rattle.trie_write.specs.Paths.{twigs_on_path, twigs_past}
use Rattle.trie_write.specs.Roots.{OnPath}
use Rattle.trie_space.specs.Standing.{Standing}
use Rattle.shared_cells.specs.Cells.{HasCell}
use Rattle.qp_multi.specs.declared.change.TrieChange.{TrieChange}
use Rattle.qp_multi.specs.declared.writer.WorkingVersion.{WorkingVersion}
use Rattle.qp_multi.specs.Changes.{LeadsItem, key_of, written_by}
use Rattle.qp_multi.specs.WorkingVersions.{Works, working_set}
use Rattle.qp_multi.specs.Tries.{PathHas}
use Rattle.qp_multi.specs.Turns.{cells_with}
use Rattle.qp_multi.proofs.FullLaws.{few_written}

either_short : (b : Bool) (m n most : ℕ) → m ≤ most → n ≤ most → (if b then m else n) ≤ most
either_short true m n most h g = h
either_short false m n most h g = g

mutual
  path_short : (key : List ℕ) (low : ℕ) (t : Tree) → IsTree low t → twigs_on_path key t ≤ 47 * (504 - low)
  path_short key low (leaf e x) is = omega arith
  path_short key low (branch o r below) is =
      let early = is.0 in
      let late = is.1 in
      let a = few 0 47 below (rising_of o 0 below (omega arith) is.5) in
      let b = past_short key (at key o) o 0 below is.5 in omega arith

  past_short : (key : List ℕ) (position o low : ℕ) (ts : Twigs) → AreTwigs o low ts → twigs_past key position ts ≤ 47 * (504 - suc o)
  past_short key position o low none is = omega arith
  past_short key position o low (twig p t rest) is =
      either_short (p == position) (twigs_on_path key t) (twigs_past key position rest) (47 * (504 - suc o)) (path_short key (suc o) t is.3) (past_short key position o (suc p) rest is.4)

short_path : (has : ℕ → Cell → Type 0) (used : ℕ → Bool) (live : ℕ → ℕ) (root : Option ℕ) (key : List ℕ) (es : List Entry) → Standing has used live root es → EachTells Leads es → (n : ℕ) × OnPath has used live root key n × (n ≤ 23688)
short_path has used live None key es s tells = (0, refl, omega arith)
short_path has used live (Some r) key es s tells = (twigs_on_path key s.0, (s.0, es, s.1, tells, refl), (let a = path_short key 0 s.0 s.1.trie.shape in omega arith))

-- no more than 40 chunks hold: 27,803 cells, of which 30,760 could be
pub few_consumed : (d : WorkingVersion) (c : TrieChange) (new : Ledger) → Works d → LeadsItem c → ((twigs : ℕ) → PathHas d.seat.place.me.0 d.usage d.root (key_of c) twigs → consumed new ≤ consumed d.usage + (written_by c + twigs)) → consumed new ≤ consumed d.usage + 30760
few_consumed d c new works leads consumes =
    let p = short_path (HasCell (cells_with d.usage d.seat.place.me.0.turn)) (is_used d.usage) (λ k. slice_index d.usage.live k) d.root (key_of c) (working_set d) works.stands works.tells in
    let a = consumes p.0 p.1 in
    let b = few_written c leads in
    let e = p.2 in omega arith
