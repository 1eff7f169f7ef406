use Rattle.std.proofs.Common.{◌≡◌, ◌∙◌, List, ℕ, length, ap}
use Rattle.std.proofs.lemmas.List.{take_at}
use Rattle.dns_name.proofs.OwnedLemmas.{labels_said}
use Rattle.shift_key.proofs.spelled.SpelledName.set.Goals as goal

pub returns : goal.returns
returns c =
    let octets = c.wire-wire.result.now in
    let copied : c.copy_from_slice.new.self ≡ c.wire-wire.result.now = c.copy_from_slice.ensures.after in
    labels_said _ c.args.name.now c.wire-wire.ensures.name (take_at c.copy_from_slice.new.self _ (length octets) (ap (λ (l : List ℕ). length l) copied) ∙ copied ∙ c.wire-wire.ensures.wire)
