use Rattle.std.proofs.Common.{rules, ◌∙◌, ℕ, List, false, refl, sym, subst, arith}
use Rattle.zone_model.specs.Rows.{rows_of, line_text}
use Rattle.zone_dump.specs.Files.{lines_from}
use Rattle.zone_dump.specs.Writing.{PassesPart}
use Rattle.zone_dump.proofs.LineLaws.{set_line}
use Rattle.zone_dump.proofs.WritingLaws.{part_start, part_more, part_stops, on_any_err}
use Rattle.zone_dump.proofs.lines.Lines.push_set.Goals as goal

pub loop-octets-init : goal.loop-octets-init
loop-octets-init g c =
    let held = g.K.Sink.held c.args.sink.now in
    let set = c.args.set.now in
    let had = c.args.self.now in
    let lines = λ (records : List (List ℕ)). lines_from had.directives c.args.first (rows_of c.args.owner.now (record set { records = records })) in
    record {
      directives = refl;
      later = omega arith;
      quiet = refl;
      part = subst (λ (records : List (List ℕ)). PassesPart held held had.text.items had.text.items (lines set.records) (lines records)) (sym c.records-records.ensures) (part_start held had.text.items (lines set.records));
    }

pub returns-in_err-push_record-clause-passes : goal.returns-in_err-push_record-clause-passes
returns-in_err-push_record-clause-passes g c =
    record {
      ok = search rules;
      err =
          let held = g.K.Sink.held in
          let l = c.loop-octets in
          let set = c.args.set.now in
          let had = c.args.self.now in
          let octets = c.in-Some-next.octets.now in
          let owner = c.args.owner.now in
          on_any_err c.from_residual.result
          (part_stops (held c.args.sink.now) (held l.sink) (held c.push_record.new.sink) had.text.items l.self.text.items (lines_from had.directives c.args.first (rows_of owner set))
          (lines_from had.directives l.is_first (rows_of owner (record set { records = l.records }))) (line_text l.self.directives l.is_first (record { owner = owner; rtype = set.rtype; ttl = set.ttl; octets = octets }))
          (lines_from had.directives false (rows_of owner (record set { records = c.next.new.self }))) l.invariant.part (set_line had.directives l.self.directives l.is_first owner set octets l.records c.next.new.self l.invariant.directives c.in-Some-next.ensures.next)
          c.in_err-push_record.ensures.passes.err);
    }

pub loop-octets-preserved : goal.loop-octets-preserved
loop-octets-preserved g c =
    let held = g.K.Sink.held in
    let l = c.loop-octets in
    let set = c.args.set.now in
    let had = c.args.self.now in
    let octets = c.in-Some-next.octets.now in
    let owner = c.args.owner.now in
    record {
      directives = c.push_record.ensures.same.0 ∙ l.invariant.directives;
      later = omega (arith, l.invariant.later, c.push_record.ensures.faults.later);
      quiet = c.in_ok-push_record.ensures.faults.quiet (λ e. cc) ∙ l.invariant.quiet;
      part =
          part_more (held c.args.sink.now) (held l.sink) (held c.push_record.new.sink) had.text.items l.self.text.items c.push_record.new.self.text.items (lines_from had.directives c.args.first (rows_of owner set))
          (lines_from had.directives l.is_first (rows_of owner (record set { records = l.records }))) (line_text l.self.directives l.is_first (record { owner = owner; rtype = set.rtype; ttl = set.ttl; octets = octets }))
          (lines_from had.directives false (rows_of owner (record set { records = c.next.new.self }))) l.invariant.part (set_line had.directives l.self.directives l.is_first owner set octets l.records c.next.new.self l.invariant.directives c.in-Some-next.ensures.next)
          c.in_ok-push_record.ensures.passes.ok;
    }
