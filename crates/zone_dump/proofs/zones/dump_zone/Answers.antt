use Rattle.std.proofs.Common.{subst}
use Rattle.outer_io.specs.Bytes.{Grows, GrowsByFront}
use Rattle.zone_model.specs.Dumps.{version_lines}
use Rattle.zone_dump.proofs.WritingLaws.{front_end, on_any_err, on_err_more, on_ok_more}
use Rattle.zone_dump.proofs.ZoneLaws.{passes_all, zone_text}
use Rattle.zone_dump.proofs.zones.dump_zone.Goals as goal

pub returns-in_err-push_names-clause-err : goal.returns-in_err-push_names-clause-err
returns-in_err-push_names-clause-err g c =
    let held = g.K.Sink.held in
    let zone = c.args.zone.now in
    let lines = c.in_ok-lines.lines in
    let is = c.in_ok-lines.ensures in
    let directives = c.directives_of-directives.result in
    on_any_err c.from_residual-in_err-push_names.result
    (subst (GrowsByFront (held c.args.sink.now) (held c.push_names.new.sink)) (zone_text c.args.style zone.origin zone.pairs c.items.result directives lines.directives lines.text.items c.items.ensures c.directives_of-directives.ensures is.text is.directives) c.in_err-push_names.ensures.passes.err)

pub returns-clause-ok : goal.returns-clause-ok
returns-clause-ok g c =
    let held = g.K.Sink.held in
    let zone = c.args.zone.now in
    let lines = c.in_ok-lines.lines in
    let is = c.in_ok-lines.ensures in
    let directives = c.directives_of-directives.result in
    let has = c.push_names.new.lines.text.items in
    on_ok_more c.finish.result (λ grown.
    subst (Grows (held c.args.sink.now) (held c.finish.new.sink)) (zone_text c.args.style zone.origin zone.pairs c.items.result directives lines.directives lines.text.items c.items.ensures c.directives_of-directives.ensures is.text is.directives)
    (passes_all (held c.args.sink.now) (held c.push_names.new.sink) (held c.finish.new.sink) lines.text.items has (version_lines lines.directives c.items.result) c.in_ok-push_names.ensures.passes.ok grown)) c.finish.ensures.ok

pub returns-clause-err : goal.returns-clause-err
returns-clause-err g c =
    let held = g.K.Sink.held in
    let zone = c.args.zone.now in
    let lines = c.in_ok-lines.lines in
    let is = c.in_ok-lines.ensures in
    let directives = c.directives_of-directives.result in
    let has = c.push_names.new.lines.text.items in
    on_err_more c.finish.result (λ front.
    subst (GrowsByFront (held c.args.sink.now) (held c.finish.new.sink)) (zone_text c.args.style zone.origin zone.pairs c.items.result directives lines.directives lines.text.items c.items.ensures c.directives_of-directives.ensures is.text is.directives)
    (front_end (held c.args.sink.now) (held c.push_names.new.sink) (held c.finish.new.sink) lines.text.items has (version_lines lines.directives c.items.result) c.in_ok-push_names.ensures.passes.ok front)) c.finish.ensures.err
