use Rattle.std.proofs.Common.{rules, ◌≡◌, ◌∙◌, [], ◌++◌, Option, refl, sym, subst, arith, length-take-le}
use Rattle.outer_io.specs.Bytes.{GrowsByFront}
use Rattle.zone_model.specs.Rows.{Directives}
use Rattle.zone_model.specs.Dumps.{rows_at, owner_lines}
use Rattle.zone_dump.specs.Walks.{Faces, GivesFirst, GivesNext}
use Rattle.zone_dump.specs.Writing.{Passes}
use Rattle.zone_dump.proofs.WalkLaws.{faces_all, some_item, goes_first, goes_more, goes_stops, goes_end, goes_cut}
use Rattle.zone_dump.proofs.WritingLaws.{on_any_err}
use Rattle.zone_dump.proofs.dumping.push_all.Goals as goal

pub names-init : goal.names-init
names-init g c =
    let stands = g.V.Reading.stands c.args.version.now c.iter-iter.result in
    let had = c.args.lines.now in
    record {
      same = c.iter-iter.ensures.same;
      directives = refl;
      later = omega arith;
      quiet = refl;
      goes_on = λ zone shows.
          goes_first stands (g.K.Sink.held c.args.sink.now) had.text.items had.count had.directives zone (faces_all (g.V.Reading.holds c.args.version.now) stands zone shows c.iter-iter.ensures.start);
    }

pub returns-in_default-clause-count : goal.returns-in_default-clause-count
returns-in_default-clause-count g c zone shows =
    let stands = g.V.Reading.stands in
    let held = g.K.Sink.held in
    let had = c.args.lines.now in
    let lines = c.names.lines in
    let on = c.names.invariant.goes_on zone shows in
    let faces = subst (λ v. Faces (stands v c.names.iter) on.left) (sym c.names.invariant.same) on.faces in
    let none : on.left ≡ [] = subst (GivesNext (stands c.names.version c.next_item.new.iter) on.left c.next_item.new.item) c.in_default.is (c.next_item.ensures.next on.left faces) in
    (goes_end (stands c.args.version.now c.names.iter) (held c.args.sink.now) (held c.names.sink) had.text.items lines.text.items had.count lines.count had.directives zone on none).1

pub returns-in_default-clause-passes : goal.returns-in_default-clause-passes
returns-in_default-clause-passes g c =
    record {
      ok = λ zone shows.
          let stands = g.V.Reading.stands in
          let held = g.K.Sink.held in
          let had = c.args.lines.now in
          let lines = c.names.lines in
          let on = c.names.invariant.goes_on zone shows in
          let faces = subst (λ v. Faces (stands v c.names.iter) on.left) (sym c.names.invariant.same) on.faces in
          let none : on.left ≡ [] = subst (GivesNext (stands c.names.version c.next_item.new.iter) on.left c.next_item.new.item) c.in_default.is (c.next_item.ensures.next on.left faces) in
          (goes_end (stands c.args.version.now c.names.iter) (held c.args.sink.now) (held c.names.sink) had.text.items lines.text.items had.count lines.count had.directives zone on none).0;
      err = λ zone shows. tt;
    }

pub slice_bounds-push_item-end : goal.slice_bounds-push_item-end
slice_bounds-push_item-end g c =
    let on = c.names.invariant.goes_on c.requires.can.shown.0 c.requires.can.shown.1 in
    let faces = subst (λ v. Faces (g.V.Reading.stands v c.names.iter) on.left) (sym c.names.invariant.same) on.faces in
    let first = c.in-Some.ensures.next on.left faces in
    first.within

pub slice_bounds-push_item-end-in-names : goal.slice_bounds-push_item-end-in-names
slice_bounds-push_item-end-in-names g c =
    let on = c.names.invariant.goes_on c.requires.can.shown.0 c.requires.can.shown.1 in
    let faces = subst (λ v. Faces (g.V.Reading.stands v c.names.iter) on.left) (sym c.names.invariant.same) on.faces in
    let first = c.in-Some.ensures.next on.left faces in
    sym (length-take-le c.in-Some.len c.next_item.new.item first.within)

pub push_item-requires : goal.push_item-requires
push_item-requires g c =
    let on = c.names.invariant.goes_on c.requires.can.shown.0 c.requires.can.shown.1 in
    let faces = subst (λ v. Faces (g.V.Reading.stands v c.names.iter) on.left) (sym c.names.invariant.same) on.faces in
    some_item (g.V.Reading.stands c.names.version c.next_item.new.iter) on.left c.next_item.new.item c.in-Some.len (c.in-Some.ensures.next on.left faces)

pub returns-in_err-push_item-clause-passes : goal.returns-in_err-push_item-clause-passes
returns-in_err-push_item-clause-passes g c =
    record {
      ok = search rules;
      err = λ zone shows.
          let stands = g.V.Reading.stands in
          let held = g.K.Sink.held in
          let had = c.args.lines.now in
          let lines = c.names.lines in
          let item = c.next_item.new.item in
          let len = c.in-Some.len in
          let on = c.names.invariant.goes_on zone shows in
          let faces = subst (λ v. Faces (stands v c.names.iter) on.left) (sym c.names.invariant.same) on.faces in
          let first = subst (λ v. GivesFirst (stands v c.next_item.new.iter) on.left item len) c.names.invariant.same (c.in-Some.ensures.next on.left faces) in
          on_any_err c.from_residual.result
          (goes_stops (stands c.args.version.now c.names.iter) (stands c.args.version.now c.next_item.new.iter) (held c.args.sink.now) (held c.names.sink) (held c.push_item.new.sink) had.text.items lines.text.items had.count lines.count had.directives zone item len on first
          (λ owner entry is. subst (λ (d : Option Directives). GrowsByFront (held c.names.sink) (held c.push_item.new.sink) (lines.text.items ++ owner_lines d (rows_at (owner, entry)))) c.names.invariant.directives (c.in_err-push_item.ensures.passes.err owner entry is)));
    }

pub names-preserved : goal.names-preserved
names-preserved g c =
    let stands = g.V.Reading.stands in
    let held = g.K.Sink.held in
    let had = c.args.lines.now in
    let lines = c.names.lines in
    let new = c.push_item.new.self in
    let item = c.next_item.new.item in
    let len = c.in-Some.len in
    record {
      same = c.next_item.ensures.same ∙ c.names.invariant.same;
      directives = c.push_item.ensures.directives ∙ c.names.invariant.directives;
      later = omega (arith, c.names.invariant.later, c.push_item.ensures.faults.later);
      quiet = c.in_ok-push_item.ensures.faults.quiet (λ e. cc) ∙ c.names.invariant.quiet;
      goes_on = λ zone shows.
          let on = c.names.invariant.goes_on zone shows in
          let faces = subst (λ v. Faces (stands v c.names.iter) on.left) (sym c.names.invariant.same) on.faces in
          let first = subst (λ v. GivesFirst (stands v c.next_item.new.iter) on.left item len) c.names.invariant.same (c.in-Some.ensures.next on.left faces) in
          goes_more (stands c.args.version.now c.names.iter) (stands c.args.version.now c.next_item.new.iter) (held c.args.sink.now) (held c.names.sink) (held c.push_item.new.sink) had.text.items lines.text.items new.text.items had.count lines.count new.count had.directives zone item len on first
          (λ owner entry is. subst (λ (d : Option Directives). Passes (held c.names.sink) (held c.push_item.new.sink) lines.text.items new.text.items (owner_lines d (rows_at (owner, entry)))) c.names.invariant.directives (c.in_ok-push_item.ensures.passes.ok owner entry is))
          c.in_ok-push_item.ensures.count;
    }

pub returns-clause-passes : goal.returns-clause-passes
returns-clause-passes g c =
    record {
      ok = λ zone shows. tt;
      err = λ zone shows.
          let held = g.K.Sink.held in
          let had = c.args.lines.now in
          let lines = c.names.lines in
          goes_cut (g.V.Reading.stands c.args.version.now c.names.iter) (held c.args.sink.now) (held c.names.sink) had.text.items lines.text.items had.count lines.count had.directives zone (c.names.invariant.goes_on zone shows);
    }
