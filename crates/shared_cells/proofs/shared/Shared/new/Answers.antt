use Rattle.std.proofs.Common.{◌∙◌}
use Rattle.shared_cells.proofs.Starts.{starts}
use Rattle.shared_cells.proofs.shared.Shared.new.Goals as goal

pub of_words-requires : goal.of_words-requires
of_words-requires g c = starts g.L.HistoryLaw.applied g.L.HistoryLaw.lawful g.L.HistoryLaw.permitted g.L.HistoryLaw.stands _ _ (c.as_slice.ensures.value ∙ c.in_ok-words.ensures) c.requires.passes.1 c.requires.chunks.1
