use Rattle.std.proofs.Common.{◌+◌, ℕ, ap, ◌∙◌}
use Rattle.pin_core.specs.Words.{current_word}
use Rattle.shared_cells.proofs.Images.{some_word}
use Rattle.shared_cells.proofs.Publishing.{may_publish}
use Rattle.shared_cells.proofs.turn.JoinedSeat.publish.Goals as goal

pub store-requires : goal.store-requires
store-requires g c = (
  c.requires.table,
  some_word _ _ c.args.shared.now.wide,
  may_publish g.L.HistoryLaw.applied g.L.HistoryLaw.lawful g.L.HistoryLaw.permitted g.L.HistoryLaw.stands _ _ _ _ _ c.args.root _ _ c.requires.can (c.word_of_version-word.ensures ∙ ap (λ (n : ℕ). current_word (n + 1) c.args.root) c.args.self.now.version_is),
)
