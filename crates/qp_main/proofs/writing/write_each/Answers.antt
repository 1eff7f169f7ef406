use Rattle.std.proofs.Common.{◌∙◌, [], subst}
use Rattle.std.proofs.lemmas.Result.{err_from_is_err_and}
use Rattle.outer_io.specs.Bytes.{Grows, GrowsByFront}
use Rattle.zone_dump.proofs.WritingLaws.{part_more, part_stops}
use Rattle.qp_main.proofs.WritingLemmas.{each_left, passes_by}
use Rattle.qp_main.proofs.writing.write_each.Goals as goal

pub returns-in_err-write_all-clause-err : goal.returns-in_err-write_all-clause-err
returns-in_err-write_all-clause-err g c =
    let p = err_from_is_err_and c.from_residual.result c.from_residual.ensures.1 in
    let front = subst (GrowsByFront (g.K.Sink.held c.loop-text.sink) (g.K.Sink.held c.write_all.new.sink)) c.deref.ensures.value c.in_err-write_all.ensures.err in
    let left = each_left c.args.texts.now c.loop-text.text-index c.text-item.result c.loop-text-test.true c.text-item.is in
    rw p.1 (part_stops _ _ _ [] [] _ _ c.text-item.result.items _ c.loop-text.invariant.part left front)

pub loop-text-preserved : goal.loop-text-preserved
loop-text-preserved g c =
    let grown = subst (Grows (g.K.Sink.held c.loop-text.sink) (g.K.Sink.held c.write_all.new.sink)) c.deref.ensures.value c.in_ok-write_all.ensures.ok in
    let left = each_left c.args.texts.now c.loop-text.text-index c.text-item.result c.loop-text-test.true c.text-item.is in
    record {
      part = part_more _ _ _ [] [] [] _ _ c.text-item.result.items _ c.loop-text.invariant.part left (passes_by _ _ c.text-item.result.items grown);
      quiet = c.in_ok-write_all.ensures.quiet ∙ c.loop-text.invariant.quiet;
    }
