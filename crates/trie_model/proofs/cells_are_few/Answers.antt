use Rattle.std.proofs.Common.{◌^◌, arith}
use Rattle.trie_model.specs.Memory.{listed}
use Rattle.trie_model.proofs.FewLaws.{few_cells}
use Rattle.trie_model.proofs.cells_are_few.Goals as goal

pub returns : goal.returns
returns c memory r t version h = few_cells (2 ^ 22) (listed memory) r t version (omega arith) h
