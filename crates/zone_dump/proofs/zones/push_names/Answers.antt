use Rattle.std.proofs.Common.{rules, ◌≡◌, ◌+◌, ◌∙◌, ◌++◌, length, Option, ap, subst, arith, length-append}
use Rattle.outer_io.specs.Bytes.{GrowsByFront}
use Rattle.zone_model.specs.Rows.{Directives}
use Rattle.zone_model.specs.Dumps.{rows_at, all_rows, record_count, owner_lines, version_lines}
use Rattle.zone_dump.specs.Writing.{Passes}
use Rattle.zone_dump.proofs.WritingLaws.{part_more, part_stops, on_any_err}
use Rattle.zone_dump.proofs.zones.push_names.Goals as goal

pub names-preserved : goal.names-preserved
names-preserved g c =
    let held = g.K.Sink.held in
    let l = c.names in
    let had = c.args.lines.now in
    let new = c.push_item.new.self in
    let left = c.next.new.self in
    let (pair, first, is, short) = c.in-Some.ensures in
    let all : record_count l.left ≡ length (rows_at pair) + record_count left = ap record_count first ∙ length-append (rows_at pair) (all_rows left) in
    record {
      directives = c.push_item.ensures.directives ∙ l.invariant.directives;
      later = omega (arith, l.invariant.later, c.push_item.ensures.faults.later);
      quiet = c.in_ok-push_item.ensures.faults.quiet (λ e. cc) ∙ l.invariant.quiet;
      part =
          part_more (held c.args.sink.now) (held l.sink) (held c.push_item.new.sink) had.text.items l.lines.text.items new.text.items (version_lines had.directives c.args.left) (version_lines had.directives l.left)
          (owner_lines had.directives (rows_at pair)) (version_lines had.directives left) l.invariant.part (ap (version_lines had.directives) first)
          (subst (λ (d : Option Directives). Passes (held l.sink) (held c.push_item.new.sink) l.lines.text.items new.text.items (owner_lines d (rows_at pair))) l.invariant.directives (c.in_ok-push_item.ensures.passes.ok pair.0 pair.1 is));
      number = omega (arith, l.invariant.number, c.in_ok-push_item.ensures.count pair.0 pair.1 is, all);
    }

pub returns-in_err-push_item-clause-passes : goal.returns-in_err-push_item-clause-passes
returns-in_err-push_item-clause-passes g c =
    record {
      ok = search rules;
      err =
          let held = g.K.Sink.held in
          let l = c.names in
          let had = c.args.lines.now in
          let left = c.next.new.self in
          let (pair, first, is, short) = c.in-Some.ensures in
          on_any_err c.from_residual.result
          (part_stops (held c.args.sink.now) (held l.sink) (held c.push_item.new.sink) had.text.items l.lines.text.items (version_lines had.directives c.args.left) (version_lines had.directives l.left) (owner_lines had.directives (rows_at pair))
          (version_lines had.directives left) l.invariant.part (ap (version_lines had.directives) first)
          (subst (λ (d : Option Directives). GrowsByFront (held l.sink) (held c.push_item.new.sink) (l.lines.text.items ++ owner_lines d (rows_at pair))) l.invariant.directives (c.in_err-push_item.ensures.passes.err pair.0 pair.1 is)));
    }
