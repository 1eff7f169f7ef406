use Rattle.std.proofs.Common.{◌∙◌, ◌+◌, ℕ, [], ◌∷◌, length, length-append, arith, ap}
use Rattle.zone_table.specs.Passes.{zone_known}
use Rattle.zones_threads.proofs.VisitLaws.{counted_more}
use Rattle.zones_threads.proofs.closing.all_names.Goals as goal

pub loop-zone-preserved : goal.loop-zone-preserved
loop-zone-preserved g c =
    let i = c.loop-zone.invariant in
    let zone = c.loop-zone.zone in
    let now = c.loop-zone.pass in
    let next = c.names_in.new.pass in
    let count = c.names_in.result in
    let names = c.loop-zone.names.items in
    let pushed = c.in_ok-push.ensures.items in
    record {
      pass = c.names_in.ensures.pass;
      table = c.names_in.ensures.others.0 ∙ i.table;
      many = ap length pushed ∙ length-append names (count ∷ []) ∙ ap (λ (n : ℕ). n + 1) i.many;
      counted = counted_more (λ z. zone_known c.args.pass.now z) (λ z. zone_known now z) (λ z. zone_known next z) names c.push.new.self.items zone count i.many pushed i.counted (i.ahead zone (omega arith)) c.names_in.ensures.counted c.names_in.ensures.others.1;
      ahead = λ z le. c.names_in.ensures.others.1 z (λ e. absurd (omega (arith, e, le))) ∙ i.ahead z (omega (arith, le));
    }
