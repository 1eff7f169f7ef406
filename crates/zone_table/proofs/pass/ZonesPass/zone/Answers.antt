use Rattle.std.proofs.Common.{◌≡◌, ◌∙◌, length, Some, Option, arith, refl, sym, ap}
use Rattle.std.proofs.lemmas.List.{length-map}
use Rattle.std.specs.Prelude.{IsSome, None, unwrap_or}
use Rattle.std.specs.List.{slice_get}
use Rattle.std.proofs.lemmas.List.FromFn.{length-range_with_len}
use Rattle.qp_multi.specs.Passes.{Known, known_at}
use Rattle.zone_table.proofs.Lists.{read_at, all_at, mapped_at, numbered_at}
use Rattle.zone_table.proofs.pass.ZonesPass.zone.Goals as goal

pub returns : goal.returns
returns g c =
    let zones = c.args.self.now.zones.items in
    let count : length zones ≡ length c.args.zones.now.origins.items = sym (length-map zones (λ z. z.place)) ∙ ap length c.requires.pass.zone_places ∙ length-range_with_len 1 (length c.args.zones.now.origins.items) in
    let read : slice_get zones c.args.zone ≡ Some c.index_mut.result.now = read_at zones c.args.zone c.index_mut.result.now (let l = c.requires.within in omega arith) c.index_mut.ensures.value in (
      (refl, λ w. refl),
      record {
        writes_back = tt;
        value = read;
        at = record {
          here = all_at (λ z. IsSome z.seat) zones c.args.zone c.index_mut.result.now c.requires.pass.zones_here read;
          place = numbered_at (λ z. z.place) zones (length c.args.zones.now.origins.items) c.args.zone c.index_mut.result.now c.requires.pass.zone_places c.requires.within read;
        };
        known = sym (ap (λ (k : Option Known). unwrap_or k (known_at None)) (mapped_at (λ z. known_at z.seat) zones c.args.zone c.index_mut.result.now read));
      },
    )
