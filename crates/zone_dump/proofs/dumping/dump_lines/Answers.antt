use Rattle.std.proofs.Common.{rules, subst}
use Rattle.outer_io.specs.Bytes.{Grows, GrowsByFront}
use Rattle.zone_model.specs.Dumps.{version_lines}
use Rattle.zone_dump.proofs.LineLaws.{file_from}
use Rattle.zone_dump.proofs.WritingLaws.{front_end, on_any_err, on_err_more, on_ok_more}
use Rattle.zone_dump.proofs.ZoneLaws.{passes_all}
use Rattle.zone_dump.proofs.dumping.dump_lines.Goals as goal

pub returns-in_err-push_all-clause-written : goal.returns-in_err-push_all-clause-written
returns-in_err-push_all-clause-written g c =
    record {
      ok = search rules;
      err = λ zone shows.
          let held = g.K.Sink.held in
          let lines = c.in_ok-lines.lines in
          let is = c.in_ok-lines.ensures in
          on_any_err c.from_residual-in_err-push_all.result
          (subst (GrowsByFront (held c.args.sink.now) (held c.push_all.new.sink)) (file_from c.args.directives lines.directives lines.text.items zone is.text is.directives) (c.in_err-push_all.ensures.passes.err zone shows));
    }

pub returns-clause-written : goal.returns-clause-written
returns-clause-written g c =
    let held = g.K.Sink.held in
    let lines = c.in_ok-lines.lines in
    let is = c.in_ok-lines.ensures in
    let has = c.push_all.new.lines.text.items in
    record {
      ok = λ zone shows.
          on_ok_more c.finish.result (λ grown.
          subst (Grows (held c.args.sink.now) (held c.finish.new.sink)) (file_from c.args.directives lines.directives lines.text.items zone is.text is.directives)
          (passes_all (held c.args.sink.now) (held c.push_all.new.sink) (held c.finish.new.sink) lines.text.items has (version_lines lines.directives zone) (c.in_ok-push_all.ensures.passes.ok zone shows) grown)) c.finish.ensures.ok;
      err = λ zone shows.
          on_err_more c.finish.result (λ front.
          subst (GrowsByFront (held c.args.sink.now) (held c.finish.new.sink)) (file_from c.args.directives lines.directives lines.text.items zone is.text is.directives)
          (front_end (held c.args.sink.now) (held c.push_all.new.sink) (held c.finish.new.sink) lines.text.items has (version_lines lines.directives zone) (c.in_ok-push_all.ensures.passes.ok zone shows) front)) c.finish.ensures.err;
    }
