use Rattle.std.proofs.Common.{◌≡◌, ◌∙◌, ◌<◌, length, arith, refl, sym, subst, length-set}
use Rattle.zone_table.proofs.Lists.{read_at}
use Rattle.zone_table.proofs.RememberLaws.{AreMarked, marked_more, all_marked}
use Rattle.zone_table.proofs.remembered.attached_in.Goals as goal

pub loop-zone-init : goal.loop-zone-init
loop-zone-init g c = record { same = refl; wide = refl; marked = λ es held k origin l. absurd (omega arith) }

pub loop-zone-preserved : goal.loop-zone-preserved
loop-zone-preserved g c =
    let i = c.loop-zone.invariant in
    let origins = c.args.origins.now in
    let zone = c.loop-zone.zone in
    let origin = c.index-origins-zone.result in
    let wide = i.wide in
    let few = c.requires.few in
    let within = c.loop-zone-test.true in
    let inside : zone < length c.loop-zone.attached = omega arith in
    record {
      same = c.has.ensures.same ∙ i.same;
      wide = length-set c.loop-zone.attached zone c.has.result ∙ i.wide;
      marked = λ es held. marked_more origins es zone c.loop-zone.attached c.has.result origin inside (read_at origins zone origin within c.index-origins-zone.is)
          (c.has.ensures.has es (subst (λ v. g.V.Reading.holds v es) (sym i.same) held)) (i.marked es held);
    }

pub returns-clause-attached : goal.returns-clause-attached
returns-clause-attached g c = λ es held.
    let l = c.loop-zone-test.false in
    let m = c.loop-zone.auto.zone-end in
    let all : c.loop-zone.zone ≡ length c.args.origins.now = omega arith in
    all_marked c.args.origins.now es c.loop-zone.attached (subst (λ n. AreMarked c.args.origins.now es n c.loop-zone.attached) all (c.loop-zone.invariant.marked es held))
