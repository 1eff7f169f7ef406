use Rattle.std.proofs.Common.{ℕ, List, Some, subst}
use Rattle.std.specs.List.{flat_map}
use Rattle.zone_model.specs.Versions.{Operation}
use Rattle.zone_diff.specs.Differences.{soa_additions, soa_exchange}
use Rattle.zone_diff.specs.Sinks.{Adds, AddsFront}
use Rattle.zone_diff.proofs.MergeLemmas.{front_joins}
use Rattle.zone_diff.proofs.soa.push_exchanges.Goals as goal

pub loop-octets-preserved : goal.loop-octets-preserved
loop-octets-preserved g c =
    let has = g.K.OperationSink.has in
    let l = c.loop-octets in
    let due : ℕ → List ℕ → List Operation = soa_exchange c.args.serial c.args.owner.now c.args.before.now in
    let ttl = c.args.after.now.ttl in
    let octets = c.in-Some.octets.now in
    let all : List Operation = soa_additions c.args.serial c.args.owner.now c.args.before.now (Some c.args.after.now) in
    let front = subst (λ (r : List (List ℕ)). AddsFront (has c.args.sink.now) (has l.sink) all (flat_map (due ttl) r)) c.in-Some.ensures.next l.invariant in
    front_joins (has c.args.sink.now) (has l.sink) (has c.push_exchange.new.sink) all (flat_map (due ttl) c.next.new.self) (due ttl octets) front
    (subst (λ (n : ℕ). Adds (has l.sink) (has c.push_exchange.new.sink) (due n octets)) c.ttl-ttl.ensures c.in_ok-push_exchange.ensures)
