use Rattle.std.proofs.Common.{◌∙◌, ◌++◌, sym, subst, filter_map, flat_map}
use Rattle.zone_answer.specs.Responses.{addresses, name_from, owned_rows}
use Rattle.zone_answer.specs.Sections.{addresses_of}
use Rattle.zone_answer.specs.Standing.{Shows, ShowsSome}
use Rattle.zone_answer.proofs.AddressLaws.{each_more}
use Rattle.zone_answer.proofs.addresses.push_each.Goals as goal

pub loop-octets-preserved : goal.loop-octets-preserved
loop-octets-preserved g c = record {
  shown = subst (λ s. ShowsSome (g.V.Reading.holds s)) (sym c.push_named.ensures.same) c.loop-octets.invariant.shown;
  same = c.push_named.ensures.same ∙ c.loop-octets.invariant.same;
  so_far = λ zone had shows has.
      let now = subst (λ s. Shows (g.V.Reading.holds s) zone) (sym c.loop-octets.invariant.same) shows in
      let so = c.loop-octets.invariant.so_far zone had shows has in
      let h = name_from c.args.place in (
        so.0 ++ owned_rows (addresses_of c.args.origin.now zone (h c.in-Some.octets.now)),
        c.in_ok-push_named.ensures.adds zone now so.0 so.1,
        each_more c.args.origin.now zone h c.in-Some.octets.now c.next.new.self c.loop-octets.records (had ++ owned_rows (flat_map (addresses c.args.origin.now zone) (filter_map h c.args.set.now.records))) so.0 c.in-Some.ensures.next so.2,
      );
}
