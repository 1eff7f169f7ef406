use Rattle.zone_model.proofs.DataLaws.{data_short}
use Rattle.rr_data.proofs.EntryChanges.{nothing_ahead}
use Rattle.rr_data.proofs.rdata.Rdata.read_again.Goals as goal

pub invariant_of-self-2 : goal.invariant_of-self-2
invariant_of-self-2 c = data_short c.args.origin.now c.args.rtype _ _ c.wire-wire.ensures.name.short (nothing_ahead _ _ c.in_ok-push_data.ensures)
