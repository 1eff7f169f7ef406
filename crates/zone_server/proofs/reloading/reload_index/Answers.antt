use Rattle.std.proofs.Common.{◌≡◌, ◌∙◌, IfOk, ap, map, subst, sym}
use Rattle.zone_model.specs.Names.{Name}
use Rattle.zone_model.specs.Versions.{Version}
use Rattle.zone_change.specs.Views.{operation_view}
use Rattle.zone_diff.specs.Blocks.{changes}
use Rattle.zone_diff.specs.Differences.{difference}
use Rattle.zone_diff.specs.declared.Serial.TheVariants.{Keep}
use Rattle.qp_multi.specs.Passes.{known_at}
use Rattle.job_commands.specs.Commands.{OpensAt}
use Rattle.job_commands.proofs.ShowLaws.{seat_told}
use Rattle.zone_server.specs.Reloads.{MakesZone}
use Rattle.zone_server.proofs.ReloadLaws.{before, looked_opening, looked_opens, makes_by, ok_is, reloading_by, reloading_none, tells_before}
use Rattle.zone_server.proofs.reloading.reload_index.Goals as goal

pub returns-in_default-clause-reloading : goal.returns-in_default-clause-reloading
returns-in_default-clause-reloading g c = λ s opened_with.
    let zone = c.args.zone.now in
    let tells : Version → Type 0 = λ v. IfOk c.difference_of-version.result.told (λ list. map operation_view list.items ≡ difference Keep v zone.pairs) in
    reloading_none zone.origin zone.pairs c.requires.zone (known_at c.args.pass.now.seat) (known_at c.difference_of-version.new.pass.seat) (seat_told c.args.pass.now.seat c.requires.here) c.requires.opens tells c.difference_of-version.result.version c.difference_of-version.ensures.shown
    s opened_with.index.origin_is opened_with.opening (seat_told c.difference_of-version.new.pass.seat c.difference_of-version.ensures.stays.here)

pub exchange-requires : goal.exchange-requires
exchange-requires g c = record {
  here = c.difference_of-version.ensures.stays.here;
  place = c.difference_of-version.ensures.stays.place ∙ c.requires.place;
  opens =
      let zone = c.args.zone.now in
      let tells : Version → Type 0 = λ v. IfOk c.difference_of-version.result.told (λ list. map operation_view list.items ≡ difference Keep v zone.pairs) in
      subst (λ (o : Name). OpensAt o (known_at c.difference_of-version.new.pass.seat)) (sym c.origin.ensures)
      (looked_opens zone.origin zone.pairs c.requires.zone (known_at c.args.pass.now.seat) (known_at c.difference_of-version.new.pass.seat) (seat_told c.args.pass.now.seat c.requires.here) c.requires.opens tells c.difference_of-version.result.version c.difference_of-version.ensures.shown);
  makes =
      let zone = c.args.zone.now in
      let old = known_at c.args.pass.now.seat in
      let looked = known_at c.difference_of-version.new.pass.seat in
      let heard = seat_told c.args.pass.now.seat c.requires.here in
      let tells : Version → Type 0 = λ v. IfOk c.difference_of-version.result.told (λ list. map operation_view list.items ≡ difference Keep v zone.pairs) in
      let number = c.difference_of-version.result.version in
      let shown = c.difference_of-version.ensures.shown in
      let was = before zone.origin zone.pairs c.requires.zone old looked heard c.requires.opens tells number shown in
      let listed = ok_is (λ list. map operation_view list.items ≡ difference Keep was zone.pairs) c.difference_of-version.result.told c.in-Ok.operations c.in-Ok.is (tells_before zone.origin zone.pairs c.requires.zone old looked heard c.requires.opens tells number shown) in
      subst (λ (o : Name). MakesZone o (changes (map operation_view c.deref.result.now)) looked number) (sym c.origin.ensures)
      (makes_by zone.origin zone.pairs c.requires.zone old looked heard c.requires.opens tells number shown (map operation_view c.deref.result.now) (ap (map operation_view) c.deref.ensures.value ∙ listed));
}

pub returns-clause-reloading : goal.returns-clause-reloading
returns-clause-reloading g c = λ s opened_with.
    let zone = c.args.zone.now in
    let old = known_at c.args.pass.now.seat in
    let looked = known_at c.difference_of-version.new.pass.seat in
    let heard = seat_told c.args.pass.now.seat c.requires.here in
    let tells : Version → Type 0 = λ v. IfOk c.difference_of-version.result.told (λ list. map operation_view list.items ≡ difference Keep v zone.pairs) in
    let number = c.difference_of-version.result.version in
    let shown = c.difference_of-version.ensures.shown in
    let was = before zone.origin zone.pairs c.requires.zone old looked heard c.requires.opens tells number shown in
    let listed = ok_is (λ list. map operation_view list.items ≡ difference Keep was zone.pairs) c.difference_of-version.result.told c.in-Ok.operations c.in-Ok.is (tells_before zone.origin zone.pairs c.requires.zone old looked heard c.requires.opens tells number shown) in
    reloading_by zone.origin zone.pairs c.requires.zone old looked heard c.requires.opens tells number shown s opened_with.index.origin_is opened_with.opening
    (map operation_view c.deref.result.now) (ap (map operation_view) c.deref.ensures.value ∙ listed) (known_at c.exchange.new.pass.seat) c.exchange.result
    (c.exchange.ensures.ran s (record {
      index = record { origin_is = opened_with.index.origin_is ∙ sym c.origin.ensures; chunks = opened_with.index.chunks; passes = opened_with.index.passes };
      opening = looked_opening zone.origin zone.pairs c.requires.zone old looked heard c.requires.opens tells number shown s opened_with.index.origin_is opened_with.opening;
    }))
