use Rattle.std.proofs.Common.{◌≡◌, ◌∙◌, sym, Ok, rules}
use Rattle.zone_model.specs.Lines.{lines_of}
use Rattle.zone_list.specs.Lists.{zones_of}
use Rattle.zone_list.proofs.CutLemmas.{zones_end, zones_begin}
use Rattle.zone_list.proofs.ListLemmas.{listed}
use Rattle.zone_list.proofs.lists.read_zones.Goals as goal

pub returns : goal.returns
returns c =
    let bytes = c.args.bytes.now in
    let zones = c.loop-at.zones.items in
    let said : zones_of (lines_of bytes) ≡ Ok zones =
    zones_begin bytes (sym c.begins_part.ensures ∙ search rules) ∙ c.loop-at.invariant.goes_on ∙ zones_end bytes c.loop-at.at c.loop-at.number zones c.loop-at-test.false in
    record { zones = said; listed = listed (lines_of bytes) zones said }
