use Rattle.std.proofs.Common.{ℕ, List, length, arith, sym, ◌∙◌, ap, subst}
use Rattle.trie_model.specs.Extents.{ItemLies, cells_in}
use Rattle.trie_model.specs.Keys.{Entry, IsEntry}
use Rattle.trie_model.proofs.SizeLaws.{entry_cells}
use Rattle.chunk_cells.specs.Laying.{extents_in}
use Rattle.trie_write.specs.Laid.{HandedItem}
use Rattle.trie_write.specs.Entries.{entry_of}
use Rattle.trie_write.proofs.ItemLaws.{item_entry}
use Rattle.trie_write.proofs.BuildLaws.{leaf_built, leaf_node}
use Rattle.trie_write.proofs.bulk.build_leaf.Goals as goal

pub returns-in_err-there-clause-consumes : goal.returns-in_err-there-clause-consumes
returns-in_err-there-clause-consumes g c =
    let n = entry_cells (entry_of c.args.item.now) (item_entry c.args.item.now) in
    let e = ap (λ (xs : List ℕ). length xs) c.octets.ensures.octets in
    let s = c.lay_item.ensures.takes.consumes in omega arith

pub returns-clause-consumes : goal.returns-clause-consumes
returns-clause-consumes g c =
    let n = entry_cells (entry_of c.args.item.now) (item_entry c.args.item.now) in
    let e = ap (λ (xs : List ℕ). length xs) c.octets.ensures.octets in
    let s = c.lay_item.ensures.takes.consumes in omega arith

pub pack-requires : goal.pack-requires
pack-requires g c = leaf_node _ (with_item c.octets.result.now) (subst (λ (item : List ℕ). IsEntry (with_item item)) (sym c.octets.ensures.octets) c.octets.ensures.entry) (c.leaf.ensures.len ∙ c.in_ok-there.ensures.laid.len) c.leaf.ensures.at c.in_ok-there.ensures.laid.handed.are
  where
    with_item : List ℕ → Entry
    with_item item = record { key = (entry_of c.args.item.now).key; item = item }

pub returns-clause-built : goal.returns-clause-built
returns-clause-built g c =
    let is = item_entry c.args.item.now in
    let same = c.octets.ensures.octets in
    let handed = subst (λ (xs : List ℕ). HandedItem (g.U.Space.account c.args.usage.now) (g.U.Space.account c.lay_item.new.usage) (length xs) (extents_in c.in_ok-there.there)) same c.in_ok-there.ensures.laid.handed in
    let consumes = c.in_ok-there.ensures.takes.consumes in
    let cells = ap (λ (xs : List ℕ). cells_in xs) same in (
      extents_in c.in_ok-there.there,
      (is, handed.are),
      leaf_built (entry_of c.args.item.now) is (c.leaf.ensures.len ∙ c.in_ok-there.ensures.laid.len ∙ ap (λ (xs : List ℕ). length xs) same) c.leaf.ensures.at handed c.in_ok-there.ensures.takes.frame.grows.stays (omega arith)
          (subst (ItemLies (g.C.CellRead.has c.lay_item.new.cells) (extents_in c.in_ok-there.there)) same c.in_ok-there.ensures.laid.lies) c.pack.ensures,
    )

pub returns-clause-adds : goal.returns-clause-adds
returns-clause-adds g c = record { frame = c.lay_item.ensures.takes.frame; ready = c.lay_item.ensures.takes.ready }

pub returns-in_err-there-clause-adds : goal.returns-in_err-there-clause-adds
returns-in_err-there-clause-adds g c = record { frame = c.lay_item.ensures.takes.frame; ready = c.lay_item.ensures.takes.ready }
