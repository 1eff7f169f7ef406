use Rattle.std.proofs.Common.{false, refl}
use Rattle.zone_table.proofs.KnownLaws.{seat_told}
use Rattle.zone_table.specs.Changes.{Detaches}
use Rattle.zone_table.specs.Passes.{table_known}
use Rattle.zones_model.specs.Commands.{Detach}
use Rattle.zones_report.specs.declared.outcomes.CommandEnd.TheVariants.{Detached}
use Rattle.zones_threads.proofs.AttachLaws.{change_told, detach_ran}
use Rattle.zones_threads.proofs.StepLaws.{no_steps}
use Rattle.zones_threads.proofs.changing.detach.Goals as goal

pub returns : goal.returns
returns g c =
    let origins = c.args.zones.now.origins.items in
    let old = table_known c.args.pass.now in
    let new = table_known c.detach-ended.new.pass in
    let r = c.detach-ended.result in
    record {
      pass = c.detach-ended.ensures.pass;
      kind = tt;
      table = change_told false origins c.args.zone old new r c.version_of.result c.cause_of.result (λ origin. Detaches origin old new r)
          (λ origin there told. detach_ran origins c.args.zone origin old new r there (seat_told c.args.pass.now.table.seat c.requires.pass.table_here) told)
          c.requires.zone c.version_of.ensures c.cause_of.ensures c.detach-ended.ensures.detaches;
      zones_go = no_steps c.args.zones.now (Detach c.args.zone) (Detached c.version_of.result c.cause_of.result) c.args.pass.now c.detach-ended.new.pass (λ n. refl) c.detach-ended.ensures.others;
    }
