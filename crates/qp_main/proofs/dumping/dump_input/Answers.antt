use Rattle.std.proofs.Common.{rules, true, subst}
use Rattle.zone_model.specs.MasterFile.{zone_of}
use Rattle.job_model.specs.Jobs.{zone_lines}
use Rattle.qp_main.specs.Due.{Dumps}
use Rattle.qp_main.specs.Stops.{IsStop}
use Rattle.qp_main.proofs.DueLemmas.{none_dumped, short_is}
use Rattle.qp_main.proofs.StopLemmas.{dump_stops}
use Rattle.qp_main.proofs.dumping.dump_input.Goals as goal

pub returns-in-Err-Refused-clause-due : goal.returns-in-Err-Refused-clause-due
returns-in-Err-Refused-clause-due g c =
    record {
      written = search rules;
      cut_short = λ short.
          let i = c.args.invocation.now in
          let zone = zone_of i.origin (zone_lines c.args.input) in
          record {
            status = c.in-Err-Refused.status;
            text = c.in-Err-Refused.line;
            is_due = subst (IsStop (Dumps i.chunks c.args.style i.origin zone)) c.in-Err-Refused.field-0-is (dump_stops i.chunks c.args.style i.origin zone c.in-Err-Refused.field-0 c.in-Err-Refused.ensures.stops);
            grew = search (rules, c.as_slice.ensures, c.write_due.ensures.front (short_is true c.write_due.result short c.write_due.ensures.only.1));
          };
      others = search rules;
    }

pub returns-in-Err-Memory-clause-due : goal.returns-in-Err-Memory-clause-due
returns-in-Err-Memory-clause-due g c =
    record {
      written = search rules;
      cut_short = λ short. none_dumped c.args.invocation.now.chunks c.args.style c.args.invocation.now.origin (zone_of c.args.invocation.now.origin (zone_lines c.args.input)) _;
      others = search rules;
    }
