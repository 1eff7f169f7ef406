use Rattle.std.proofs.Common.{◌≡◌, ◌≤◌, ◌+◌, drop, None, unwrap_or}
use Rattle.zone_model.specs.DataWords as says
use Rattle.zone_model.specs.DataWords.{most_time}
use Rattle.zone_text.proofs.words.groups.Given as goal

abbrev pub invariant-loop-octet : goal.invariant-loop-octet
invariant-loop-octet l = record {
  small : l.sum + unwrap_or l.pending 0 ≤ most_time;
  goes_on : says.groups 0 None l.text ≡ says.groups l.sum l.pending (drop l.octet-index l.text);
}
