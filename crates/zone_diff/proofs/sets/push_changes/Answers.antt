use Rattle.std.proofs.Common.{◌≡◌, ◌∙◌, List, Option, ap, arith, map, subst, sym}
use Rattle.zone_model.specs.Records.{Rrset}
use Rattle.zone_diff.specs.Differences.{record_change, set_changes}
use Rattle.zone_diff.specs.Merges.{Rises, lacking_beside}
use Rattle.zone_diff.proofs.MergeLemmas.{adds_alike, changes_alike}
use Rattle.zone_diff.proofs.sets.push_changes.Goals as goal

pub returns-in-Some : goal.returns-in-Some
returns-in-Some g c =
    let side = c.args.side in
    let owner = c.args.owner.now in
    let set = c.args.set.now in
    let other = c.in-Some.other in
    let same : set.ttl ≡ other.ttl = omega arith in
    adds_alike c.push_lacking.result (g.K.OperationSink.has c.args.sink.now) (g.K.OperationSink.has c.push_lacking.new.sink) _ _
    (ap (λ (o : List _). map (record_change side owner set) (lacking_beside o set.records)) c.new.ensures
    ∙ changes_alike side owner set other same c.requires.rises (subst Rises c.in-Some.is c.requires.other_rises)
    ∙ ap (λ (o : Option Rrset). set_changes side owner o set) (sym c.in-Some.is))
    c.push_lacking.ensures
