use Rattle.std.proofs.Common.{◌∙◌, map, ap}
use Rattle.std.proofs.lemmas.List.{length-map}
use Rattle.zone_table.specs.Openings.{places_of, sizes_of}
use Rattle.zone_table.proofs.HandingLaws.{same_sizes}
use Rattle.zone_table.proofs.OpeningLaws.{begun_within, begun_fit}
use Rattle.zone_table.proofs.zones.Zones.open.Goals as goal

pub build-requires-clause-opened : goal.build-requires-clause-opened
build-requires-clause-opened g c = (
  sizes_of c.args.blanks.items,
  length-map c.args.blanks.items (λ b. b.shared.table.shared.key) ∙ c.requires.blanks.each,
  c.requires.blanks.alike,
  c.in-Ok.ensures,
)

pub returns-in-Ok-build-clause-opened : goal.returns-in-Ok-build-clause-opened
returns-in-Ok-build-clause-opened g c =
    let made = c.in-Ok-build.ensures.made in
    record {
      origins = made.origins;
      sizes = ap (map (λ z. z.shared.table.shared.key)) c.in-Ok-build.ensures.indexes
          ∙ same_sizes c.args.zones.now (sizes_of c.args.blanks.items) c.args.table.shared.table.shared.key.passes c.in-Ok.opened.items
          (length-map c.args.blanks.items (λ b. b.shared.table.shared.key) ∙ c.requires.blanks.each) c.requires.blanks.alike c.in-Ok.ensures;
      table = made.table;
      passes = made.passes;
      fits = begun_within (places_of c.args.zones.now (sizes_of c.args.blanks.items)) c.in-Ok.opened.items c.in-Ok.ensures;
    }

pub returns-in-Err-build-clause-refused : goal.returns-in-Err-build-clause-refused
returns-in-Err-build-clause-refused g c = begun_fit (places_of c.args.zones.now (sizes_of c.args.blanks.items)) c.in-Ok.opened.items c.in-Ok.ensures
