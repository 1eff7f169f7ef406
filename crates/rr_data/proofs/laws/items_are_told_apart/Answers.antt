use Rattle.rr_data.proofs.EntryChanges.{item_once}
use Rattle.rr_data.proofs.laws.items_are_told_apart.Goals as goal

pub returns : goal.returns
returns c = λ bytes a b e f h k. item_once bytes a b e f h k
