use Rattle.std.proofs.Common.{true, refl}
use Rattle.zone_table.proofs.KnownLaws.{seat_told}
use Rattle.zone_table.specs.Changes.{Attaches}
use Rattle.zone_table.specs.Passes.{table_known}
use Rattle.zones_model.specs.Commands.{Attach}
use Rattle.zones_report.specs.declared.outcomes.CommandEnd.TheVariants.{Attached}
use Rattle.zones_threads.proofs.AttachLaws.{change_told, attach_ran}
use Rattle.zones_threads.proofs.StepLaws.{no_steps}
use Rattle.zones_threads.proofs.changing.attach.Goals as goal

pub returns : goal.returns
returns g c =
    let origins = c.args.zones.now.origins.items in
    let old = table_known c.args.pass.now in
    let new = table_known c.attach-ended.new.pass in
    let r = c.attach-ended.result in
    record {
      pass = c.attach-ended.ensures.pass;
      kind = tt;
      table = change_told true origins c.args.zone old new r c.version_of.result c.cause_of.result (λ origin. Attaches origin old new r)
          (λ origin there told. attach_ran origins c.args.zone origin old new r there (seat_told c.args.pass.now.table.seat c.requires.pass.table_here) told)
          c.requires.zone c.version_of.ensures c.cause_of.ensures c.attach-ended.ensures.attaches;
      zones_go = no_steps c.args.zones.now (Attach c.args.zone) (Attached c.version_of.result c.cause_of.result) c.args.pass.now c.attach-ended.new.pass (λ n. refl) c.attach-ended.ensures.others;
    }
