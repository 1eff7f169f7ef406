use Rattle.std.proofs.Common.{◌≡◌, [], sym, ap, subst, List, Option, None}
use Rattle.zone_model.specs.Records.{Rrset, Entry}
use Rattle.zone_model.specs.Versions.{Operation}
use Rattle.zone_diff.specs.Differences.{set_changes, unless_soa}
use Rattle.zone_diff.specs.Merges.{Rises}
use Rattle.zone_diff.specs.Walks.{changes_walked, each_beside, sets_ahead, sets_reached}
use Rattle.zone_diff.specs.Sinks.{Adds, AddsFront}
use Rattle.zone_diff.proofs.MergeLemmas.{front_ends, front_starts}
use Rattle.zone_diff.proofs.WalkLemmas.{AllRise, ahead_rises, all_rise, changes_are_walked, reached_rise, walk_goes_on}
use Rattle.zone_diff.proofs.entries.push_side.Goals as goal

pub loop-set-init : goal.loop-set-init
loop-set-init g c =
    let had = g.K.OperationSink.has c.args.sink.now in
    let due : Option Rrset → Rrset → List Operation = λ other s. unless_soa s (set_changes c.args.side c.args.owner.now other s) in
    let all : List Operation = changes_walked c.args.side c.args.owner.now c.args.others c.args.sets in
    let same : sets_ahead c.new-others.result.ahead c.new-others.result.behind ≡ c.args.others = c.new-others.ensures in record {
      front = subst (λ (x : Entry). AddsFront had had all (each_beside due x c.args.sets)) (sym same) (front_starts had all);
      others_rise = subst AllRise (sym same) (all_rise None c.args.others c.requires.others);
      sets_rise = all_rise None c.args.sets c.requires.sets;
    }

pub push_unless_soa-requires-clause-other_rises : goal.push_unless_soa-requires-clause-other_rises
push_unless_soa-requires-clause-other_rises g c =
    let others : Entry = sets_ahead c.loop-set.others.ahead c.loop-set.others.behind in
    let n = c.rtype.result in
    subst Rises (sym c.reach-other.ensures.there) (ahead_rises n (sets_reached n others) (reached_rise n others c.loop-set.invariant.others_rise))

pub loop-set-preserved : goal.loop-set-preserved
loop-set-preserved g c =
    let has = g.K.OperationSink.has in
    let due : Option Rrset → Rrset → List Operation = λ other s. unless_soa s (set_changes c.args.side c.args.owner.now other s) in
    walk_goes_on (has c.args.sink.now) (has c.loop-set.sink) (has c.push_unless_soa.new.sink) (changes_walked c.args.side c.args.owner.now c.args.others c.args.sets) due (sets_ahead c.loop-set.others.ahead c.loop-set.others.behind) c.loop-set.sets c.next.new.self
    (sets_ahead c.reach-other.new.self.ahead c.reach-other.new.self.behind) c.in-Some.set c.reach-other.result c.rtype.result c.in-Some.ensures c.rtype.ensures c.reach-other.ensures.left c.reach-other.ensures.there c.loop-set.invariant c.in_ok-push_unless_soa.ensures

pub returns : goal.returns
returns g c =
    let has = g.K.OperationSink.has in
    let due : Option Rrset → Rrset → List Operation = λ other s. unless_soa s (set_changes c.args.side c.args.owner.now other s) in
    let others : Entry = sets_ahead c.loop-set.others.ahead c.loop-set.others.behind in
    let none : each_beside due others c.loop-set.sets ≡ [] = ap (each_beside due others) c.in_default.ensures in
    subst (Adds (has c.args.sink.now) (has c.loop-set.sink)) (changes_are_walked c.args.side c.args.owner.now c.args.others c.args.sets c.requires.others c.requires.sets)
    (front_ends (has c.args.sink.now) (has c.loop-set.sink) (changes_walked c.args.side c.args.owner.now c.args.others c.args.sets) (each_beside due others c.loop-set.sets) none c.loop-set.invariant.front)
