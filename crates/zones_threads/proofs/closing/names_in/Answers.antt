use Rattle.std.proofs.Common.{refl}
use Rattle.zone_table.specs.Passes.{table_known}
use Rattle.zone_table.proofs.PassLaws.{went, went_as}
use Rattle.zones_threads.specs.Visits.{Counted}
use Rattle.zones_threads.proofs.closing.names_in.Goals as goal

pub returns : goal.returns
returns g c =
    let origins = c.args.zones.now.origins.items in
    let seat = c.zone-place.result.now in
    let next = c.measure.new.pass in
    let w = went origins c.args.pass.now c.args.zone seat next c.requires.pass c.zone-place.ensures.value c.measure.ensures.here c.measure.ensures.place in
    record {
      pass = w.pass;
      others = (refl {a = table_known c.args.pass.now}, w.others);
      counted = went_as (λ v x. Counted v x c.measure.result.names) origins c.args.pass.now c.args.zone seat next w c.zone-place.ensures.known (c.measure.result, c.measure.ensures.measured, refl);
    }
