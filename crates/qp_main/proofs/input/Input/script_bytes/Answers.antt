use Rattle.std.proofs.Common.{◌≡◌, ◌∙◌, ◌-◌, ◌^◌, ◌≤◌, List, ℕ, length, take, drop, sym, ap, subst}
use Rattle.zone_model.specs.Lines.{lines_of}
use Rattle.job_model.specs.Jobs.{script_lines}
use Rattle.qp_main.proofs.ReportingLemmas.{lines_behind}
use Rattle.qp_main.proofs.input.Input.script_bytes.Goals as goal

pub returns-clause-lines : goal.returns-clause-lines
returns-clause-lines c =
    let from = c.self.inside.script_from in
    subst (λ (b : List ℕ). lines_of (take (length b - from) (drop from b)) ≡ script_lines c.args.self.now) (sym c.as_slice.ensures.value)
    (lines_behind c.self.inside.bytes.items c.self.invariant.1 ∙ ap script_lines c.self.view_is)

pub returns-clause-whole : goal.returns-clause-whole
returns-clause-whole c = subst (λ (b : List ℕ). length b ≤ 2 ^ 24) c.self.view_is c.self.invariant.0
