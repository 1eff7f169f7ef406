use Rattle.std.proofs.Common.{◌∙◌, ◌++◌, refl, sym, subst, append-nil}
use Rattle.zone_answer.specs.Responses.{negative_soa}
use Rattle.zone_answer.proofs.HeaderLaws.{more_by}
use Rattle.zone_answer.proofs.responses.denied.Goals as goal

pub returns-clause-response : goal.returns-clause-response
returns-clause-response g c zone given shows counted =
    let new = negative_soa c.args.origin.now zone in
    let after = c.in_ok-push_soa.ensures.adds zone shows given counted in
    record {
      code_is = refl;
      authoritative_is = refl;
      answer_counted = counted.counted;
      authority_counted = c.saturating_sub.ensures ∙ more_by (g.S.RowSink.has c.args.rows.now.rows) (g.S.RowSink.has c.push_soa.new.rows.rows) c.args.rows.now.count c.args.rows.now.aliases c.push_soa.new.rows.count c.push_soa.new.rows.aliases c.args.rows.now.last c.push_soa.new.rows.last given new counted after;
      additional_counted = refl;
      rows = subst (g.S.RowSink.has c.push_soa.new.rows.rows) (sym (append-nil (given ++ new))) after.handed_on;
    }
