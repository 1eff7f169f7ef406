use Rattle.std.proofs.Common.{◌≡◌, ◌∙◌, ap, ℕ, List, ◌++◌, arith, sym, subst}
use Rattle.zone_diff.specs.Held.{Holds}
use Rattle.zone_diff.specs.Texts.{closing}
use Rattle.zone_diff.proofs.HeldLemmas.{ends}
use Rattle.zone_diff.proofs.text.DiffText.end_full.Goals as goal

pub returns-clause-held : goal.returns-clause-held
returns-clause-held c operations begun =
    let s = c.args.self.now in
    let none : s.room ≡ 0 = omega arith in
    let text : c.extend_from_slice.new.self.items ≡ s.out.items ++ closing s.style = c.in_ok-extend_from_slice.ensures.items ∙ ap (λ (l : List ℕ). s.out.items ++ l) c.closing.ensures in
    subst (λ (t : List ℕ). Holds s.style s.origin t s.room operations) (sym text) (ends s.style s.origin s.out.items s.room operations none begun)
