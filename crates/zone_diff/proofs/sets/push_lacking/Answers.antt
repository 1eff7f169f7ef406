use Rattle.std.proofs.Common.{List, map, sym, subst}
use Rattle.zone_diff.specs.Differences.{record_change}
use Rattle.zone_diff.specs.Merges.{records_ahead, lacking_beside}
use Rattle.zone_diff.specs.Sinks.{AddsFront}
use Rattle.zone_diff.proofs.MergeLemmas.{front_unless}
use Rattle.zone_diff.proofs.sets.push_lacking.Goals as goal

pub loop-octets-preserved : goal.loop-octets-preserved
loop-octets-preserved g c =
    let has = g.K.OperationSink.has in
    let l = c.loop-octets in
    let change = record_change c.args.side c.args.owner.now c.args.set.now in
    let all = map change (lacking_beside (records_ahead c.args.others.ahead c.args.others.behind) c.args.set.now.records) in
    let others = records_ahead l.others.ahead l.others.behind in
    let front = subst (λ (r : List _). AddsFront (has c.args.sink.now) (has l.sink) all (map change (lacking_beside others r))) c.in-Some.ensures.next l.invariant in
    subst (λ (o : List _). AddsFront (has c.args.sink.now) (has c.push_unless.new.sink) all (map change (lacking_beside o c.next.new.self))) (sym c.reach-there.ensures.left)
    (front_unless (has c.args.sink.now) (has l.sink) (has c.push_unless.new.sink) all change c.in-Some.octets.now others c.next.new.self c.reach-there.result c.reach-there.ensures.there front c.in_ok-push_unless.ensures)
