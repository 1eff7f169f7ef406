use Rattle.std.proofs.Common.{◌∙◌, ℕ, List, ap₂, sym}
use Rattle.zone_model.specs.Lines.{lines_of}
use Rattle.zone_model.specs.Refusals.{Refused}
use Rattle.job_model.specs.Jobs.{script_of}
use Rattle.job_model.specs.declared.ScriptKind.{ScriptKind}
use Rattle.job_script.specs.Views.{job_view}
use Rattle.qp_main.proofs.DueLemmas.{script_said}
use Rattle.qp_main.proofs.StopLemmas.{job_script_stops}
use Rattle.qp_main.proofs.input.Input.job.Goals as goal

pub returns-in-Err-Refused-clause-stops : goal.returns-in-Err-Refused-clause-stops
returns-in-Err-Refused-clause-stops c =
    let e : Refused ScriptKind = record { line = c.in-Err-Refused.line; kind = c.in-Err-Refused.kind } in
    let said = script_said job_view c.in-Err-Refused.field-0 e.line e.kind (script_of c.args.origin.now c.first_line.result (lines_of c.script_bytes.result.now)) c.in-Err-Refused.field-0-is c.in-Err-Refused.ensures.reads in
    job_script_stops c.args.origin.now c.args.self.now e c.refuse.result c.refuse.ensures
    (ap₂ (λ (n : ℕ) (ls : List (List ℕ)). script_of c.args.origin.now n ls) (sym c.first_line.ensures.first) (sym c.script_bytes.ensures.lines) ∙ said)
