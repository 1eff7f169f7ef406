use Rattle.std.proofs.Common.{◌∙◌, sym, subst}
use Rattle.qp_multi.specs.Passes.{known_at}
use Rattle.zone_table.specs.Passes.{table_known}
use Rattle.zone_table.specs.Tables.{IsTable}
use Rattle.zone_table.proofs.KnownLaws.{opened_same, seat_told}
use Rattle.zone_table.proofs.RememberLaws.{remembers_later}
use Rattle.zone_table.proofs.pass.ZonesPass.learn.Goals as goal

pub returns-clause-pass : goal.returns-clause-pass
returns-clause-pass g c =
    let p = c.args.self.now in
    let is = c.requires.pass in
    let origins = c.args.zones.now.origins.items in
    let new = (known_at c.learn.new.self.seat).seen in
    let grows = c.learn.ensures.learnt.grows in
    record {
      table_here = c.learn.ensures.back.here;
      table_place = c.learn.ensures.back.place ∙ is.table_place;
      opening = subst (IsTable origins) (sym (opened_same new (table_known p).seen (seat_told p.table.seat is.table_here) grows)) is.opening;
      zones_here = c.learn_each.ensures.stand.here;
      zone_places = c.learn_each.ensures.stand.there ∙ is.zone_places;
      remembers = remembers_later origins new (table_known p).seen p.remembered.version p.remembered.attached grows is.remembers;
    }
