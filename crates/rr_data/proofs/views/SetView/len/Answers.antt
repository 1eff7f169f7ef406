use Rattle.std.proofs.Common.{◌∙◌, ℕ, List, length, ap, sym}
use Rattle.zone_model.specs.Records.{Rrset}
use Rattle.rr_data.proofs.ItemViewLemmas.{records_view}
use Rattle.rr_data.proofs.views.SetView.len.Goals as goal

pub returns : goal.returns
returns c =
    c.self.invariant.1.counted ∙ ap (λ (l : List (List ℕ)). length l) (sym (records_view c.self.inside.count c.self.inside.octets.now c.self.invariant.0 c.self.invariant.1))
    ∙ ap (λ (s : Rrset). length s.records) c.self.view_is
