use Rattle.std.proofs.Common.{Some}
use Rattle.shared_cells.specs.Views.{words_of}
use Rattle.qp_multi.specs.Images.{image_at}
use Rattle.qp_multi.proofs.writer.WorkingVersion.publish.Given as goal

abbrev pub ghosts-publish : goal.ghosts-publish
ghosts-publish g a = record { change = Some a._log.now.operations; image = image_at (words_of a.seat.now.place.me.0.turn) a.root }

abbrev pub ghosts-free_unreached : goal.ghosts-free_unreached
ghosts-free_unreached g a = record { table = a.seat.place.table_id; view = a.seat.place.me.0 }
