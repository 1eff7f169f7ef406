use Rattle.std.proofs.Common.{◌∙◌, List, ap, map}
use Rattle.zone_diff.specs.Differences.{record_change}
use Rattle.zone_diff.specs.Merges.{lacking_beside}
use Rattle.zone_diff.proofs.MergeLemmas.{adds_alike, whole_comes}
use Rattle.zone_diff.proofs.sets.push_whole.Goals as goal

pub returns-in-After : goal.returns-in-After
returns-in-After g c =
    let set = c.args.set.now in
    let change = record_change c.args.side c.args.owner.now set in
    adds_alike c.push_lacking.result (g.K.OperationSink.has c.args.sink.now) (g.K.OperationSink.has c.push_lacking.new.sink) _ _
    (ap (λ (o : List _). map change (lacking_beside o set.records)) c.none.ensures ∙ whole_comes c.args.side c.args.owner.now set c.in-After.is) c.push_lacking.ensures
