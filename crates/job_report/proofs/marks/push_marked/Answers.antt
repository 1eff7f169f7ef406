use Rattle.std.proofs.Common.{rules, ◌≡◌, ◌∙◌, ◌++◌, ◌+◌, ◌∷◌, [], ℕ, List, OnOk, append_assoc, ap, sym, subst, arith}
use Rattle.std.proofs.lemmas.Fmt.{decimal_digit}
use Rattle.job_report.proofs.marks.push_marked.Goals as goal

pub returns-then-number-lt10 : goal.returns-then-number-lt10
returns-then-number-lt10 c =
    let old = c.args.out.now.items in
    let digit = decimal_digit c.args.number (omega arith) in
    subst (λ (l : List ℕ). OnOk c.push_both.result (c.push_both.new.out.items ≡ l))
    (sym (append_assoc old ((48 + c.args.number) ∷ []) (c.args.mark ∷ [])) ∙ ap (λ (l : List ℕ). old ++ l ++ c.args.mark ∷ []) (sym digit))
    (search (rules, c.push_both.ensures))
