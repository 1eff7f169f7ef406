use Rattle.std.proofs.Common.{length}
use Rattle.rr_data.proofs.data_text.+push_fields.Given as goal

abbrev pub decreases-push_fields : goal.decreases-push_fields
decreases-push_fields l = length l.fields.now
