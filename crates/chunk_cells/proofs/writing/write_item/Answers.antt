use Rattle.std.proofs.Common.{ℕ, ◌<◌, length, arith, subst, rules}
use Rattle.trie_model.specs.Extents.{links}
use Rattle.chunk_cells.specs.Laying.{AreBlank, extents_at}
use Rattle.chunk_cells.proofs.writing.write_item.Goals as goal

pub write_extents-requires : goal.write_extents-requires
write_extents-requires g c = record {
  enough = let b = c.requires.short in let few : links (length c.args.item.now) < 17 = omega arith in search (rules, few);
  blank = subst (λ (n : ℕ). AreBlank (g.C.CellWrite.kept c.args.cells.now) (g.C.CellWrite.given c.args.cells.now) (length c.args.item.now) (extents_at (links n) c.args.extents.now.at)) c.requires.size c.requires.blank;
}
