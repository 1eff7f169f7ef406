use Rattle.std.proofs.Common.{rules, ◌≡◌, ◌∙◌, ◌++◌, ◌+◌, ◌∷◌, [], ℕ, List, OnOk, ap, sym, subst, arith}
use Rattle.std.proofs.lemmas.Fmt.{decimal_digit}
use Rattle.job_report.proofs.marks.push_between.Goals as goal

pub returns-then-number-lt10 : goal.returns-then-number-lt10
returns-then-number-lt10 c =
    let old = c.args.out.now.items in
    let digit = decimal_digit c.args.number (omega arith) in
    subst (λ (l : List ℕ). OnOk c.push_three.result (c.push_three.new.out.items ≡ l))
    (ap (λ (l : List ℕ). old ++ c.args.before ∷ (l ++ c.args.behind ∷ [])) (sym digit))
    (search (rules, c.push_three.ensures))
