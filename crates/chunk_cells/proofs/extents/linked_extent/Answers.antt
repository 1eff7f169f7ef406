use Rattle.std.proofs.Common.{sym}
use Rattle.trie_model.proofs.ExtentLaws.{linked_is}
use Rattle.chunk_cells.proofs.extents.linked_extent.Goals as goal

pub returns : goal.returns
returns c = sym linked_is
