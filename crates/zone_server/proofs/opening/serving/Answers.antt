use Rattle.std.proofs.Common.{Some, arith}
use Rattle.std.proofs.lemmas.List.Elements.{All-pop}
use Rattle.zone_server.specs.Servings.{IsServing, known_of}
use Rattle.zone_server.proofs.OpeningLaws.{one_longer}
use Rattle.zone_server.proofs.opening.serving.Goals as goal

pub invariant_of-push : goal.invariant_of-push
invariant_of-push g c = (All-pop (IsServing g.H.Home.zones) c.loop-pass.passes.items c.pop.new.self.items (Some c.in-Some.pass) c.in-Some.ensures.items c.loop-pass.invariant.0).1

pub loop-pass-preserved : goal.loop-pass-preserved
loop-pass-preserved g c =
    let popped = All-pop (IsServing g.H.Home.zones) c.loop-pass.passes.items c.pop.new.self.items (Some c.in-Some.pass) c.in-Some.ensures.items c.loop-pass.invariant.0 in
    let many = c.loop-pass.invariant.1 in
    let more = one_longer c.push.new.self.items c.loop-pass.all.items (known_of c.in-Some.pass) c.in_ok-push.ensures.items in
    let fewer = one_longer c.loop-pass.passes.items c.pop.new.self.items c.in-Some.pass c.in-Some.ensures.items in
    (popped.0, omega (arith, many, more, fewer))
