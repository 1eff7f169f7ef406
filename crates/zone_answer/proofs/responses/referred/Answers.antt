use Rattle.std.proofs.Common.{◌≡◌, ◌∙◌, List, ◌++◌, length, refl, rules, sym, ap, subst, flat_map}
use Rattle.zone_model.specs.Names.{Name}
use Rattle.zone_model.specs.Rows.{Row}
use Rattle.zone_answer.specs.Responses.{addresses, addresses_for, of_type, once, owned_rows}
use Rattle.zone_answer.proofs.HeaderLaws.{more_by, servers_counted, servers_names}
use Rattle.zone_answer.proofs.ResponseLaws.{servers_whole}
use Rattle.zone_answer.proofs.responses.referred.Goals as goal

pub returns-clause-response : goal.returns-clause-response
returns-clause-response g c zone given shows ends counted =
    let new = owned_rows (addresses_for c.args.origin.now zone given) in
    let after = c.in_ok-push_additional.ensures.adds zone given shows ends counted in
    let same : new ≡ owned_rows (addresses_for c.args.origin.now zone (of_type 2 given)) = ap (λ (l : List Name). owned_rows (flat_map (addresses c.args.origin.now zone) (once l))) (servers_names zone given ends) in
    record {
      code_is = refl;
      authoritative_is = search (rules, counted.aliases_counted);
      answer_counted = counted.aliases_counted;
      authority_counted = c.saturating_sub.ensures ∙ servers_counted (g.S.RowSink.has c.args.rows.now.rows) c.args.rows.now.count c.args.rows.now.aliases c.args.rows.now.last zone given counted ends;
      additional_counted = c.saturating_sub-2.ensures ∙ more_by (g.S.RowSink.has c.args.rows.now.rows) (g.S.RowSink.has c.push_additional.new.rows.rows) c.args.rows.now.count c.args.rows.now.aliases c.push_additional.new.rows.count c.push_additional.new.rows.aliases c.args.rows.now.last c.push_additional.new.rows.last given new counted after
          ∙ ap (λ (l : List Row). length l) same;
      rows = subst (λ (l : List Row). g.S.RowSink.has c.push_additional.new.rows.rows ((of_type 5 given ++ of_type 2 given) ++ l)) same (subst (λ (l : List Row). g.S.RowSink.has c.push_additional.new.rows.rows (l ++ new)) (sym (servers_whole zone given ends)) after.handed_on);
    }
