use Rattle.std.proofs.Common.{◌≡◌, ◌∙◌, ℕ, ◌≤◌, List, length, map, take, sym, ap, subst}
use Rattle.std.specs.List.{All}
use Rattle.zone_model.specs.Names.{ancestor}
use Rattle.zone_model.specs.Keys.{key_of}
use Rattle.trie_model.specs.Keys as trie
use Rattle.trie_model.specs.Order.{chain_labels, IsPredecessor}
use Rattle.trie_read.specs.Finds.{IsKind}
use Rattle.zone_answer.specs.Standing.{trie_entry}
use Rattle.zone_answer.proofs.FindLaws.{labels_fit, chain_is, kind_is, predecessor_is, found_is}
use Rattle.zone_answer.proofs.found.find.Goals as goal

pub names_of-requires : goal.names_of-requires
names_of-requires g c =
    let zone = c.requires.0 in
    let shown = c.requires.1 in
    let entries : List trie.Entry = map trie_entry zone in
    let labels : take c.find-found.result.chain.len c.find-found.result.chain.labels ≡ chain_labels (key_of c.args.name.now) entries = c.find-found.ensures.chain entries shown.held ∙ ap (λ (k : List ℕ). chain_labels k entries) c.of.ensures in
    subst (All (λ k. k ≤ length c.args.name.now)) (sym labels) (labels_fit c.args.name.now zone c.wire-wire.ensures.name shown.version_is.items)

pub returns-clause-found : goal.returns-clause-found
returns-clause-found g c zone shown =
    let entries : List trie.Entry = map trie_entry zone in
    let is = c.wire-wire.ensures.name in
    let items = shown.version_is.items in
    let labels : take c.find-found.result.chain.len c.find-found.result.chain.labels ≡ chain_labels (key_of c.args.name.now) entries = c.find-found.ensures.chain entries shown.held ∙ ap (λ (k : List ℕ). chain_labels k entries) c.of.ensures in
    found_is c.args.name.now zone c.find-found.result.kind c.in_ok-chain.chain.items c.name_of-predecessor.result
    (kind_is c.args.name.now zone c.find-found.result.kind is items (subst (λ (k : List ℕ). IsKind k entries c.find-found.result.kind) c.of.ensures (c.find-found.ensures.kind entries shown.held)))
    (c.in_ok-chain.ensures ∙ ap (λ (l : List ℕ). map (λ k. ancestor k c.args.name.now) l) labels ∙ chain_is c.args.name.now zone is items)
    (predecessor_is c.args.name.now zone c.find-found.result.pred c.name_of-predecessor.result is items (subst (λ (k : List ℕ). IsPredecessor k entries c.find-found.result.pred) c.of.ensures (c.find-found.ensures.pred entries shown.held)) c.name_of-predecessor.ensures)
