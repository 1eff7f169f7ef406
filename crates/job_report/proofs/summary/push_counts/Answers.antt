use Rattle.std.proofs.Common.{◌≡◌, ◌++◌, ℕ, List, Result, Ok, Err, OnOk, codes, decimal}
use Rattle.std.specs.Bool.{if◌then◌else◌}
use Rattle.std.specs.Result.{is_ok}
use Rattle.job_report.proofs.SummaryLemmas.{counts_pieces}
use Rattle.job_report.proofs.summary.push_counts.Goals as goal

-- a push that may fail, as the last one
last_push : {A E : Type 0} (r : Result A E) (now whole part : List ℕ) {Q : Type 0} → now ≡ (if is_ok r then whole else part) → (now ≡ whole → Q) → OnOk r Q
last_push (Ok x) now whole part e f = f e
last_push (Err k) now whole part e f = tt

pub returns : goal.returns
returns c =
    last_push c.extend_from_slice-4.result c.extend_from_slice-4.new.self.items (c.push_decimal-3.new.out.items ++ codes "\n") c.push_decimal-3.new.out.items c.extend_from_slice-4.ensures.items
    (counts_pieces c.args.out.now.items c.extend_from_slice.new.self.items c.push_decimal.new.out.items c.extend_from_slice-2.new.self.items c.push_decimal-2.new.out.items c.extend_from_slice-3.new.self.items c.push_decimal-3.new.out.items c.extend_from_slice-4.new.self.items
    (codes "make commands ") (decimal c.args.tally.commands) (codes " committed ") (decimal c.args.tally.committed) (codes " refused ") (decimal c.args.tally.refused) (codes "\n")
    c.in_ok-extend_from_slice.ensures.items c.in_ok-push_decimal.ensures.ok c.in_ok-extend_from_slice-2.ensures.items c.in_ok-push_decimal-2.ensures.ok c.in_ok-extend_from_slice-3.ensures.items c.in_ok-push_decimal-3.ensures.ok)
