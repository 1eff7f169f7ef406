use Rattle.std.proofs.Common.{◌≡◌, ◌∙◌, ◌-◌, ℕ, List, take, sym, ap, arith}
use Rattle.std.specs.Str.{bytes_eq}
use Rattle.job_model.specs.Jobs.{is_cut}
use Rattle.live_session.proofs.CutLaws.{first_is}
use Rattle.live_session.proofs.zone.is_cut.Goals as goal

pub returns : goal.returns
returns c = λ text one.
    let line = c.args.line.now in
    let upto = c.line_at-upto.result.0 in
    let same : take upto line ≡ text = ap (λ (k : ℕ). take k line) (let e : upto ≡ upto - 0 = omega arith in e) ∙ first_is (sym c.line_at-upto.ensures.lines ∙ one) in
    c.eq.ensures ∙ ap (λ (l : List ℕ). bytes_eq (take upto line) l) c.as_slice.ensures ∙ ap is_cut same
