use Rattle.std.proofs.Common.{◌∙◌, ℕ, List, Option, ap, sym, subst}
use Rattle.std.specs.Prelude.{OnOk, OnErr}
use Rattle.outer_io.specs.Bytes.{Grows, GrowsByFront}
use Rattle.zone_model.specs.Rows.{Directives}
use Rattle.zone_model.specs.Versions.{Version}
use Rattle.zone_answer.specs.Standing.{Shows}
use Rattle.zone_dump.specs.Files.{file_text}
use Rattle.zone_dump.proofs.LineLaws.{file_is_dump}
use Rattle.zone_dump.proofs.dumping.dump_to.Goals as goal

pub returns-clause-written : goal.returns-clause-written
returns-clause-written g c =
    let held = g.K.Sink.held in
    let old = held c.args.sink.now in
    let new = held c.dump_lines.new.sink in
    let again = λ (zone : Version) (shows : Shows (g.V.Reading.holds c.args.version.now) zone). subst (λ v. Shows (g.V.Reading.holds v) zone) (sym c.directives_for-directives.ensures.same) shows in
    let file = λ (zone : Version) (shows : Shows (g.V.Reading.holds c.args.version.now) zone).
    ap (λ (d : Option Directives). file_text d zone) (c.directives_for-directives.ensures.directives zone shows) ∙ file_is_dump c.args.style c.args.origin.now zone in
    record {
      ok = λ zone shows. subst (λ (text : List ℕ). OnOk c.dump_lines.result (Grows old new text)) (file zone shows) (c.dump_lines.ensures.written.ok zone (again zone shows));
      err = λ zone shows. subst (λ (text : List ℕ). OnErr c.dump_lines.result (GrowsByFront old new text)) (file zone shows) (c.dump_lines.ensures.written.err zone (again zone shows));
    }
