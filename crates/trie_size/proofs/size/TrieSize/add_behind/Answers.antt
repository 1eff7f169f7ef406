use Rattle.std.proofs.Common.{◌≡◌, ◌+◌, [], ◌∷◌, Bool, cond, List, ℕ, length, length-append, take, arith, inr, ◌∙◌, ap}
use Rattle.trie_model.specs.Extents.{content_cells, links}
use Rattle.trie_size.proofs.SizeLaws.{behind, before_short, offsets_after}
use Rattle.trie_size.proofs.TreeLaws.{more_nodes}
use Rattle.trie_size.proofs.size.TrieSize.add_behind.Goals as goal

pub bounds-self-above : goal.bounds-self-above
bounds-self-above c =
    let (es, e, follows, parts) = c.requires.comes in
    let b = behind c.args.offset follows (λ i. omega (arith, c.type_inv.item i)) c.requires.some parts in
    before_short c.split_at_offset-above.result.0 b c.split_at_offset-above.ensures.before c.split_at_offset-above.ensures.inside

pub invariant_of-self : goal.invariant_of-self
invariant_of-self c =
    let (es, e, follows, parts) = c.requires.comes in
    let b = behind c.args.offset follows (λ i. omega (arith, c.type_inv.item i)) c.requires.some parts in
    let i = before_short c.split_at_offset-above.result.0 b c.split_at_offset-above.ensures.before c.split_at_offset-above.ensures.inside in
    let few = c.new_nodes-nodes.ensures.few in
    let short = follows.leads.short in
    record { last_inside = c.keep_front-self.ensures.inside; inside = omega arith; few_nodes = omega arith; few_cells = omega arith }

pub returns : goal.returns
returns c = λ es e follows parts.
    let s = c.args.self.now in
    let d = c.args.offset in
    let split = c.split_at_offset-above in
    let b = behind d follows (λ i. omega (arith, c.type_inv.item i)) c.requires.some parts in
    let more : c.new_nodes-nodes.result ≡ more_nodes d (take s.depth s.offsets) = c.new_nodes-nodes.ensures.nodes ∙ ap (λ (x : Bool). cond x 1 2) split.ensures.meets in
    record {
      names = (let n = follows.counted.names in let l = length-append es (e ∷ []) in omega arith);
      nodes = (let n = follows.counted.nodes in let m = b.nodes_more in omega arith);
      cells = (let n = follows.counted.cells in let m = b.cells_more in let l = ap (λ (xs : List ℕ). content_cells (length xs) + links (length xs)) follows.item in omega arith);
      ends = inr (b.ends _ _ c.keep_front-self.ensures.front (offsets_after s.offsets s.depth split.result.0 d split.ensures.inside (let i = before_short split.result.0 b split.ensures.before split.ensures.inside in omega arith) split.ensures.before));
    }
