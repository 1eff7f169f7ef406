use Rattle.std.proofs.Common.{◌≡◌, ◌∙◌, ℕ, List, ◌++◌, refl, sym, ap, subst, filter_map, flat_map, false}
use Rattle.std.specs.BTreeSet.{contains}
use Rattle.std.specs.List.{list_any}
use Rattle.zone_model.specs.Names.{Name, name_cmp, same_name}
use Rattle.zone_answer.specs.Responses.{addresses, name_from, once, owned_rows}
use Rattle.zone_answer.specs.Standing.{Shows, ShowsSome}
use Rattle.zone_answer.proofs.AddressLaws.{none_seen, once_more, unseen}
use Rattle.zone_answer.proofs.addresses.push_once.Goals as goal

pub loop-octets-init : goal.loop-octets-init
loop-octets-init g c = record {
  shown = c.requires.shown;
  same = refl;
  so_far = λ zone had shows has.
      let h = name_from c.args.place in
      let empty : (x : Name) → contains name_cmp c.new-gone_to.result x ≡ false = λ x. ap (λ (l : List Name). list_any (same_name x) l) c.new-gone_to.ensures.empty in (
        had,
        has,
        ap (λ (l : List Name). had ++ owned_rows (flat_map (addresses c.args.origin.now zone) l)) (none_seen (contains name_cmp c.new-gone_to.result) (filter_map h c.args.set.now.records) empty)
            ∙ ap (λ (l : List (List ℕ)). had ++ owned_rows (flat_map (addresses c.args.origin.now zone) (unseen (contains name_cmp c.new-gone_to.result) (filter_map h l)))) (sym c.records-records.ensures),
      );
}

pub loop-octets-preserved : goal.loop-octets-preserved
loop-octets-preserved g c = record {
  shown = subst (λ s. ShowsSome (g.V.Reading.holds s)) (sym c.push_new.ensures.same) c.loop-octets.invariant.shown;
  same = c.push_new.ensures.same ∙ c.loop-octets.invariant.same;
  so_far = λ zone had shows has.
      let now = subst (λ s. Shows (g.V.Reading.holds s) zone) (sym c.loop-octets.invariant.same) shows in
      let so = c.loop-octets.invariant.so_far zone had shows has in
      let h = name_from c.args.place in
      once_more c.args.origin.now zone h c.in-Some.octets.now c.next.new.self c.loop-octets.records (contains name_cmp c.loop-octets.gone_to) (contains name_cmp c.push_new.new.gone_to) (g.S.RowSink.has c.loop-octets.rows) (g.S.RowSink.has c.push_new.new.rows)
      (had ++ owned_rows (flat_map (addresses c.args.origin.now zone) (once (filter_map h c.args.set.now.records)))) so.0 c.in-Some.ensures.next (c.in_ok-push_new.ensures.adds zone now) so.1 so.2;
}
