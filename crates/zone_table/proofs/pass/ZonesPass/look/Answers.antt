use Rattle.std.proofs.Common.{rules, ◌∙◌}
use Rattle.qp_multi.specs.Passes.{known_at}
use Rattle.zone_table.proofs.LookLaws.{asked}
use Rattle.zone_table.proofs.RememberLaws.{still_attached}
use Rattle.zone_table.proofs.pass.ZonesPass.look.Goals as goal

pub returns-then-eq-clause-pass : goal.returns-then-eq-clause-pass
returns-then-eq-clause-pass g c =
    let see = c.see-version.ensures in
    asked c.args.zones.now.origins.items c.args.self.now c.requires.pass c.see-version.new.self see.back.here (see.back.place ∙ c.requires.pass.table_place) see.sees.grows

pub returns-then-eq-clause-attached : goal.returns-then-eq-clause-attached
returns-then-eq-clause-attached g c =
    let sees = c.see-version.ensures.sees in
    let p = c.args.self.now in
    still_attached c.args.zones.now.origins.items (known_at c.see-version.new.self.seat).seen (known_at p.table.seat).seen p.remembered.version c.see-version.result p.remembered.attached c.requires.pass.remembers sees.grows sees.version
    (search rules)
