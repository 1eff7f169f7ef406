use Rattle.std.proofs.Common.{◌∙◌, [], map, sym, subst}
use Rattle.zone_model.specs.Versions.{owned}
use Rattle.zone_answer.specs.Answers.{node}
use Rattle.zone_answer.specs.Parts.{IsNodeOf}
use Rattle.zone_answer.specs.Standing.{Shows, trie_entry}
use Rattle.zone_answer.proofs.ChainLaws.{there_exists}
use Rattle.zone_answer.proofs.HeldLaws.{read_of}
use Rattle.zone_answer.proofs.NodeLaws.{there_node}
use Rattle.zone_answer.proofs.ReachLaws.{apart_at, found_at, no_node}
use Rattle.zone_answer.proofs.node.node.Goals as goal

pub returns-in_err-met-clause-node : goal.returns-in_err-met-clause-node
returns-in_err-met-clause-node g c zone shows =
    let all = map trie_entry zone in
    let start = subst (λ s. g.V.Reading.stands s c.restart.new.iter [] all) (sym c.restart.ensures.same) (c.restart.ensures.start all shows.held) in
    let empty = c.in_err-met.ensures.nearest [] all start in
    subst (IsNodeOf c.args.item.now (node zone c.args.owner.now)) (sym c.from_residual.ensures) (sym (no_node c.args.owner.now zone empty))

pub returns-in-Some-clause-node : goal.returns-in-Some-clause-node
returns-in-Some-clause-node g c zone shows =
    let all = map trie_entry zone in
    let start = subst (λ s. g.V.Reading.stands s c.restart.new.iter [] all) (sym c.restart.ensures.same) (c.restart.ensures.start all shows.held) in
    let near = c.in_ok-met.ensures.nearest [] all start in
    let now = subst (λ s. Shows (g.V.Reading.holds s) zone) (sym (c.reach.ensures.same ∙ c.restart.ensures.same)) shows in
    let stands = subst (λ s. g.V.Reading.stands s c.reach.new.iter [] all) (sym c.reach.ensures.same) (c.in_ok-met.ensures.start [] all start) in
    c.absent_node.ensures.node zone (apart_at (g.V.Reading.stands c.reach.new.self c.reach.new.iter) (g.V.Reading.lies c.restart.new.self) c.set.new.self c.args.owner.now zone c.in_ok-met.met c.in-Some.first c.set.ensures c.in-Some.is near now stands)

pub returns-in-None-clause-node : goal.returns-in-None-clause-node
returns-in-None-clause-node g c zone shows =
    let all = map trie_entry zone in
    let start = subst (λ s. g.V.Reading.stands s c.restart.new.iter [] all) (sym c.restart.ensures.same) (c.restart.ensures.start all shows.held) in
    let near = c.in_ok-met.ensures.nearest [] all start in
    let lies = subst (λ s. g.V.Reading.lies s c.in_ok-met.met.leaf near.entry) (sym c.reach.ensures.same) near.leaf in
    let key = found_at (g.V.Reading.lies c.restart.new.self) c.set.new.self all c.in_ok-met.met c.in-None.is near ∙ c.set.ensures in
    let read = c.read-len.ensures.item near.entry lies in
    let is = read_of c.args.owner.now zone near.entry c.read-len.new.out c.read-len.result c.wire-wire.ensures.name shows.version_is near.there key read.0 read.1 in
    (owned c.args.owner.now zone, sym (there_node zone c.args.owner.now (there_exists c.args.owner.now zone c.wire-wire.ensures.name shows.version_is.items (near.entry, near.there, key))), record { within = is.within; says = is.says })
