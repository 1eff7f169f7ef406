use Rattle.std.proofs.Common.{◌≡◌, true, false}
use Rattle.job_script.proofs.parts.find_cut.Goals as goal
use Rattle.std.proofs.Common.{◌∙◌, sym, ap, arith}
use Rattle.std.specs.List.{slice_range}
use Rattle.std.specs.Str.{bytes_eq}
use Rattle.zone_text.proofs.CutLemmas.{next_place}
use Rattle.job_model.specs.Jobs.{is_cut}
use Rattle.job_script.proofs.PartsLemmas.{cut_here, never_cut, searched_more}

-- src/parts.rt:28:13
pub returns-then-eq : goal.returns-then-eq
returns-then-eq c =
    let bytes = c.args.bytes.now in
    let line = slice_range bytes c.loop-at.at c.line_at-upto.result.0 in
    let cuts : is_cut line ≡ true = ap (bytes_eq line) (sym c.as_slice.ensures) ∙ sym c.if-eq.ensures in
    record {
      cut = cut_here bytes line c.loop-at.at c.line_at-upto.result.1 c.loop-at.line c.loop-at.invariant.begins c.line_at-upto.ensures.lines cuts c.loop-at.invariant.none c.loop-at.invariant.count c.line_at-upto.ensures.on c.line_at-upto.ensures.inside c.loop-at.invariant.few;
    }

-- src/parts.rt:25:5
pub loop-at-preserved : goal.loop-at-preserved
loop-at-preserved c =
    let bytes = c.args.bytes.now in
    let next = c.line_at-upto.result.1 in
    let line = slice_range bytes c.loop-at.at c.line_at-upto.result.0 in
    let goes_on : is_cut line ≡ false = ap (bytes_eq line) (sym c.as_slice.ensures) ∙ sym c.if-eq.ensures in
    searched_more bytes line c.loop-at.at next c.loop-at.line c.loop-at.invariant (next_place bytes next c.line_at-upto.ensures.inside (let on = c.line_at-upto.ensures.on in omega arith) c.line_at-upto.ensures.fed) c.line_at-upto.ensures.lines goes_on c.line_at-upto.ensures.on c.line_at-upto.ensures.inside

-- src/parts.rt:19:1
pub returns : goal.returns
returns c =
    record { cut = never_cut c.args.bytes.now c.loop-at.at c.loop-at.line c.loop-at-test.false c.loop-at.invariant.inside c.loop-at.invariant.none c.loop-at.invariant.count c.loop-at.invariant.few }
