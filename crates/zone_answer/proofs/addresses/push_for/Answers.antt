use Rattle.std.proofs.Common.{◌≡◌, ◌∙◌, List, ◌++◌, sym, ap, subst, arith, append-nil, filter_map, flat_map, OnOk, None, Some}
use Rattle.zone_model.specs.Rows.{rows_of}
use Rattle.zone_answer.specs.Parts.{Adds}
use Rattle.zone_answer.specs.Responses.{OwnedSet, addresses, addresses_for, name_from, octets_before, owned_rows}
use Rattle.zone_answer.proofs.AddressLaws.{few_addresses, no_addresses, no_set_names, once_addresses}
use Rattle.zone_answer.proofs.ServerLaws.{server_addresses}
use Rattle.zone_answer.proofs.addresses.push_for.Goals as goal
use Rattle.zone_answer.proofs.addresses.push_for.Goals.{then-place-eq0-via-then-place-eq0, then-place-eq0-via-else-place-eq0+then-len-lt2}

pub returns-in_default-clause-adds : goal.returns-in_default-clause-adds
returns-in_default-clause-adds g c zone shows rows has =
    let none : octets_before c.args.set.now.rtype ≡ None = ap octets_before (sym c.rtype.ensures) ∙ sym c.octets_before.ensures ∙ c.in_default.is in
    let nothing = no_addresses c.args.origin.now zone (rows_of c.args.owner.now c.args.set.now) (no_set_names c.args.owner.now c.args.set.now none) in
    subst (g.S.RowSink.has c.args.rows.now) (sym (ap (λ (l : List OwnedSet). rows ++ owned_rows l) nothing ∙ append-nil rows)) has

pub returns-then-place-eq0-clause-adds : goal.returns-then-place-eq0-clause-adds
returns-then-place-eq0-clause-adds g c zone shows =
    let place : octets_before c.args.set.now.rtype ≡ Some c.in-Some.place = ap octets_before (sym c.rtype.ensures) ∙ sym c.octets_before.ensures ∙ c.in-Some.is in
    let once : flat_map (addresses c.args.origin.now zone) (filter_map (name_from c.in-Some.place) c.args.set.now.records) ≡ addresses_for c.args.origin.now zone (rows_of c.args.owner.now c.args.set.now) =
    elim c.then-place-eq0.branch [
      | then-place-eq0-via-then-place-eq0 w ↦ server_addresses c.args.origin.now zone c.in-Some.place c.args.owner.now c.args.set.now place w.if-place-eq0.true c.requires.rising
      | then-place-eq0-via-else-place-eq0+then-len-lt2 w ↦ few_addresses c.args.origin.now zone c.in-Some.place c.args.owner.now c.args.set.now place (omega (arith, w.len.ensures, w.if-len-lt2.true))
    ] in
    subst (λ (l : List OwnedSet). OnOk c.push_each.result (Adds (g.S.RowSink.has c.args.rows.now) (g.S.RowSink.has c.push_each.new.rows) (owned_rows l))) once (c.push_each.ensures.adds zone shows)

pub returns-clause-adds : goal.returns-clause-adds
returns-clause-adds g c zone shows =
    let place : octets_before c.args.set.now.rtype ≡ Some c.in-Some.place = ap octets_before (sym c.rtype.ensures) ∙ sym c.octets_before.ensures ∙ c.in-Some.is in
    subst (λ (l : List OwnedSet). OnOk c.push_once.result (Adds (g.S.RowSink.has c.args.rows.now) (g.S.RowSink.has c.push_once.new.rows) (owned_rows l)))
    (once_addresses c.args.origin.now zone c.in-Some.place c.args.owner.now c.args.set.now place) (c.push_once.ensures.adds zone shows)
