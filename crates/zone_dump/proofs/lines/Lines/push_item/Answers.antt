use Rattle.std.proofs.Common.{rules, ◌≡◌, ◌∙◌, ℕ, List, ◌++◌, length, true, false, refl, ap, subst, arith}
use Rattle.std.specs.List.{flat_map}
use Rattle.outer_io.specs.Bytes.{GrowsByFront}
use Rattle.zone_model.specs.Records.{Entry}
use Rattle.zone_model.specs.Rows.{rows_of}
use Rattle.zone_model.specs.Dumps.{rows_at}
use Rattle.zone_dump.specs.Files.{lines_from}
use Rattle.zone_dump.specs.Writing.{Passes}
use Rattle.zone_dump.proofs.LineLaws.{sets_lines, sets_lines-first, have_others, count_first, item_begun, rows_seen, seen_records, lines_seen}
use Rattle.zone_dump.proofs.WritingLaws.{part_start, part_more, part_end, part_stops, on_any_err}
use Rattle.zone_dump.proofs.lines.Lines.push_item.Goals as goal

pub of-sets-requires : goal.of-sets-requires
of-sets-requires g c =
    (c.requires.1, item_begun c.args.item.now c.in-Some.owner c.requires.0 c.requires.1 c.in-Some.ensures.name c.in-Some.ensures.found c.requires.2)

pub loop-set-init : goal.loop-set-init
loop-set-init g c =
    let had = c.args.self.now in
    record {
      directives = refl;
      later = omega arith;
      quiet = refl;
      records = seen_records c.args.item.now c.in-Some.owner c.of-sets.result c.in-Some.ensures.name c.in-Some.ensures.found c.of-sets.ensures c.requires.0 c.requires.1 c.requires.2;
      part = part_start (g.K.Sink.held c.args.sink.now) had.text.items (sets_lines had.directives true c.in-Some.owner c.of-sets.result);
      number = refl;
    }

pub returns-in_err-push_set-clause-passes : goal.returns-in_err-push_set-clause-passes
returns-in_err-push_set-clause-passes g c =
    record {
      ok = search rules;
      err =
          let held = g.K.Sink.held in
          let l = c.loop-set in
          let had = c.args.self.now in
          let owner = c.in-Some.owner in
          let set = c.in-Some-next.set in
          let all = c.of-sets.result in
          let front : GrowsByFront (held c.args.sink.now) (held c.push_set.new.sink) (had.text.items ++ sets_lines had.directives true owner all) =
          part_stops (held c.args.sink.now) (held l.sink) (held c.push_set.new.sink) had.text.items l.self.text.items (sets_lines had.directives true owner all) (sets_lines had.directives l.first owner l.sets)
          (lines_from l.self.directives l.first (rows_of owner set)) (sets_lines had.directives false owner c.next.new.self) l.invariant.part
          (sets_lines-first had.directives l.self.directives l.first owner l.sets c.next.new.self set l.invariant.directives c.in-Some-next.ensures l.invariant.records) c.in_err-push_set.ensures.passes.err in
          on_any_err c.from_residual.result (λ name entry is.
          subst (λ (text : List ℕ). GrowsByFront (held c.args.sink.now) (held c.push_set.new.sink) (had.text.items ++ text))
          (lines_seen had.directives (flat_map (rows_of owner) all) (rows_at (name, entry)) (rows_seen c.args.item.now owner all c.in-Some.ensures.name c.in-Some.ensures.found c.of-sets.ensures name entry is)) front);
    }

pub loop-set-preserved : goal.loop-set-preserved
loop-set-preserved g c =
    let held = g.K.Sink.held in
    let l = c.loop-set in
    let had = c.args.self.now in
    let owner = c.in-Some.owner in
    let set = c.in-Some-next.set in
    let all = c.of-sets.result in
    record {
      directives = c.push_set.ensures.directives ∙ l.invariant.directives;
      later = omega (arith, l.invariant.later, c.push_set.ensures.faults.later);
      quiet = c.in_ok-push_set.ensures.faults.quiet (λ e. cc) ∙ l.invariant.quiet;
      records = have_others l.sets c.next.new.self set c.in-Some-next.ensures l.invariant.records;
      part =
          part_more (held c.args.sink.now) (held l.sink) (held c.push_set.new.sink) had.text.items l.self.text.items c.push_set.new.self.text.items (sets_lines had.directives true owner all)
          (sets_lines had.directives l.first owner l.sets) (lines_from l.self.directives l.first (rows_of owner set)) (sets_lines had.directives false owner c.next.new.self) l.invariant.part
          (sets_lines-first had.directives l.self.directives l.first owner l.sets c.next.new.self set l.invariant.directives c.in-Some-next.ensures l.invariant.records) c.in_ok-push_set.ensures.passes.ok;
      number = omega (arith, l.invariant.number, c.in_ok-push_set.ensures.count, count_first owner l.sets c.next.new.self set c.in-Some-next.ensures);
    }

pub returns-clause-count : goal.returns-clause-count
returns-clause-count g c name entry is =
    let owner = c.in-Some.owner in
    let seen = rows_seen c.args.item.now owner c.of-sets.result c.in-Some.ensures.name c.in-Some.ensures.found c.of-sets.ensures name entry is in
    let none : length (flat_map (rows_of owner) c.loop-set.sets) ≡ 0 = ap (λ (sets : Entry). length (flat_map (rows_of owner) sets)) c.in_default-next.ensures in
    omega (arith, c.loop-set.invariant.number, none, ap length seen)

pub returns-clause-passes : goal.returns-clause-passes
returns-clause-passes g c =
    record {
      ok = λ name entry is.
          let held = g.K.Sink.held in
          let l = c.loop-set in
          let had = c.args.self.now in
          let owner = c.in-Some.owner in
          let all = c.of-sets.result in
          let seen = rows_seen c.args.item.now owner all c.in-Some.ensures.name c.in-Some.ensures.found c.of-sets.ensures name entry is in
          subst (Passes (held c.args.sink.now) (held l.sink) had.text.items l.self.text.items) (lines_seen had.directives (flat_map (rows_of owner) all) (rows_at (name, entry)) seen)
          (part_end (held c.args.sink.now) (held l.sink) had.text.items l.self.text.items (sets_lines had.directives true owner all) (sets_lines had.directives l.first owner l.sets) l.invariant.part
          (ap (λ (sets : Entry). sets_lines had.directives l.first owner sets) c.in_default-next.ensures));
      err = tt;
    }
