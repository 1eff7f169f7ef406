use Rattle.std.proofs.Common.{◌∙◌, List, ◌++◌, refl, sym, ap, subst, append-nil}
use Rattle.zone_model.specs.Rows.{Row}
use Rattle.zone_answer.specs.Responses.{addresses_for, owned_rows}
use Rattle.zone_answer.proofs.HeaderLaws.{more_by}
use Rattle.zone_answer.proofs.responses.answered.Goals as goal

pub returns-clause-response : goal.returns-clause-response
returns-clause-response g c zone given shows ends counted =
    let new = owned_rows (addresses_for c.args.origin.now zone given) in
    let after = c.in_ok-push_additional.ensures.adds zone given shows ends counted in
    record {
      code_is = refl;
      authoritative_is = refl;
      answer_counted = counted.counted;
      authority_counted = refl;
      additional_counted = c.saturating_sub.ensures ∙ more_by (g.S.RowSink.has c.args.rows.now.rows) (g.S.RowSink.has c.push_additional.new.rows.rows) c.args.rows.now.count c.args.rows.now.aliases c.push_additional.new.rows.count c.push_additional.new.rows.aliases c.args.rows.now.last c.push_additional.new.rows.last given new counted after;
      rows = subst (g.S.RowSink.has c.push_additional.new.rows.rows) (ap (λ (l : List Row). l ++ new) (sym (append-nil given))) after.handed_on;
    }
