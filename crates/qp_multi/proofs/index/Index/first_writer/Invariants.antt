use Rattle.std.proofs.Common.{Some}
use Rattle.trie_write.specs.Entries.{entries_of_items}
use Rattle.shared_cells.specs.Views.{words_of}
use Rattle.qp_multi.specs.Images.{image_at}
use Rattle.qp_multi.proofs.index.Index.first_writer.Given as goal

abbrev pub ghosts-fill : goal.ghosts-fill
ghosts-fill g a = record { table = a.turn.place.table_id; view = a.turn.place.me.0 }

abbrev pub ghosts-open_turn : goal.ghosts-open_turn
ghosts-open_turn g a = record { version = Some (entries_of_items a._items.now); image = image_at (words_of a.turn.place.me.0.turn) a.root }
