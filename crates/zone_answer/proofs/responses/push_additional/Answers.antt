use Rattle.std.proofs.Common.{◌≡◌, ◌∙◌, ℕ, [], List, ◌++◌, sym, ap, subst, append-nil, filter_map, flat_map, Option, Some, None, Result, Ok, Err, OnOk}
use Rattle.zone_model.specs.Names.{Name}
use Rattle.zone_model.specs.Records.{rrset_of}
use Rattle.zone_model.specs.Rows.{Row, rows_of}
use Rattle.zone_model.specs.Versions.{Version}
use Rattle.zone_answer.specs.Answers.{node}
use Rattle.zone_answer.specs.Responses.{OwnedSet, addresses, addresses_for, named_by, once, owned_rows}
use Rattle.zone_answer.specs.Sections.{AreCounted}
use Rattle.zone_answer.specs.Standing.{Shows}
use Rattle.zone_answer.proofs.AddressLaws.{no_addresses, no_alias_names}
use Rattle.zone_answer.proofs.ServerLaws.{node_set_rises}
use Rattle.zone_answer.proofs.HeaderLaws.{all_aliases, found_names, known, no_names}
use Rattle.zone_answer.proofs.responses.push_additional.Goals as goal

-- nothing more was handed on
still : (has : List Row → Type 0) (count aliases : ℕ) (last : Option Name) (origin : Name) (version : Version) (given : List Row) → AreCounted has count aliases last given → filter_map named_by given ≡ [] → AreCounted has count aliases last (given ++ owned_rows (addresses_for origin version given))
still has count aliases last origin version given counted none =
    subst (AreCounted has count aliases last) (sym (ap (λ (l : List OwnedSet). given ++ owned_rows l) (no_addresses origin version given none) ∙ append-nil given)) counted

on_ok : {T E : Type 0} (r : Result T E) {P Q : Type 0} → (P → Q) → OnOk r P → OnOk r Q
on_ok (Ok x) f p = f p
on_ok (Err e) f p = p

pub returns-in_default-clause-adds : goal.returns-in_default-clause-adds
returns-in_default-clause-adds g c zone given shows ends counted =
    still (g.S.RowSink.has c.args.rows.now.rows) c.args.rows.now.count c.args.rows.now.aliases c.args.rows.now.last c.args.origin.now zone given counted (no_names zone c.args.rtype given ends (sym c.octets_before.ensures ∙ c.in_default.is))

pub returns-then-rows-clause-adds : goal.returns-then-rows-clause-adds
returns-then-rows-clause-adds g c zone given shows ends counted =
    still (g.S.RowSink.has c.args.rows.now.rows) c.args.rows.now.count c.args.rows.now.aliases c.args.rows.now.last c.args.origin.now zone given counted
    (no_alias_names given (all_aliases given (sym counted.counted ∙ c.if-rows.true ∙ counted.aliases_counted)))

pub returns-in_default-last-clause-adds : goal.returns-in_default-last-clause-adds
returns-in_default-last-clause-adds g c zone given shows ends counted =
    let k = known (g.S.RowSink.has c.args.rows.now.rows) c.args.rows.now.count c.args.rows.now.aliases c.args.rows.now.last zone c.args.rtype given counted ends c.if-rows.false in
    let never : Some k.owner ≡ None = sym k.last_is ∙ c.in_default-last.is in absurd cc

pub returns-in_default-node-clause-adds : goal.returns-in_default-node-clause-adds
returns-in_default-node-clause-adds g c zone given shows ends counted =
    let k = known (g.S.RowSink.has c.args.rows.now.rows) c.args.rows.now.count c.args.rows.now.aliases c.args.rows.now.last zone c.args.rtype given counted ends c.if-rows.false in
    let same : k.owner ≡ c.in-Some-last.owner = (let e : Some k.owner ≡ Some c.in-Some-last.owner = sym k.last_is ∙ c.in-Some-last.is in cc) in
    let never : Some k.entry ≡ None = sym k.node_is ∙ ap (node zone) same ∙ c.in_default-node.ensures.node zone shows in absurd cc

pub returns-in-Some-find_set-clause-adds : goal.returns-in-Some-find_set-clause-adds
returns-in-Some-find_set-clause-adds g c zone given shows ends counted =
    let k = known (g.S.RowSink.has c.args.rows.now.rows) c.args.rows.now.count c.args.rows.now.aliases c.args.rows.now.last zone c.args.rtype given counted ends c.if-rows.false in
    let n = c.in-Some-node.ensures.node zone shows in
    let seen = c.view.ensures n.0 n.2 in
    let names = found_names zone c.args.rtype given c.args.rows.now.last k c.in-Some-last.owner n.0 c.view.result c.in-Some-find_set.set c.in-Some-last.is n.1 seen c.in-Some-find_set.ensures in
    let sets : addresses_for c.args.origin.now zone given ≡ addresses_for c.args.origin.now zone (rows_of c.in-Some-last.owner c.in-Some-find_set.set) = ap (λ (l : List Name). flat_map (addresses c.args.origin.now zone) (once l)) names in
    let now = subst (λ s. Shows (g.V.Reading.holds s) zone) (sym c.node.ensures.same) shows in
    on_ok c.push_for.result (λ adds. subst (λ (l : List OwnedSet). AreCounted (g.S.RowSink.has c.push_for.new.rows.rows) c.push_for.new.rows.count c.push_for.new.rows.aliases c.push_for.new.rows.last (given ++ owned_rows l)) (sym sets) (adds given counted))
    (c.push_for.ensures.adds zone now)

pub returns-in-None-clause-adds : goal.returns-in-None-clause-adds
returns-in-None-clause-adds g c zone given shows ends counted =
    let k = known (g.S.RowSink.has c.args.rows.now.rows) c.args.rows.now.count c.args.rows.now.aliases c.args.rows.now.last zone c.args.rtype given counted ends c.if-rows.false in
    let n = c.in-Some-node.ensures.node zone shows in
    let seen = c.view.ensures n.0 n.2 in
    let same : k.owner ≡ c.in-Some-last.owner = (let e : Some k.owner ≡ Some c.in-Some-last.owner = sym k.last_is ∙ c.in-Some-last.is in cc) in
    let again : k.entry ≡ n.0 = (let e : Some k.entry ≡ Some n.0 = sym k.node_is ∙ ap (node zone) same ∙ n.1 in cc) in
    let never : Some k.set ≡ None = sym k.set_is ∙ ap (rrset_of c.args.rtype) (again ∙ sym seen) ∙ c.in-None.ensures in absurd cc

pub push_for-requires-clause-rising : goal.push_for-requires-clause-rising
push_for-requires-clause-rising g c =
    let zone = c.requires.shown.0 in
    let shows = c.requires.shown.1 in
    let n = c.in-Some-node.ensures.node zone shows in
    let seen = c.view.ensures n.0 n.2 in
    node_set_rises zone c.in-Some-last.owner c.args.rtype n.0 c.in-Some-find_set.set shows.version_is n.1 (ap (rrset_of c.args.rtype) (sym seen) ∙ c.in-Some-find_set.ensures)
