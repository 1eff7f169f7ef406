use Rattle.std.proofs.Common.{◌∙◌, ◌++◌, ℕ, List, ap, codes}
use Rattle.job_model.specs.Loads.{name_text}
use Rattle.job_make.proofs.LoadLemmas.{names_first, names_more}
use Rattle.job_make.proofs.text.push_names.Goals as goal

pub loop-name-init : goal.loop-name-init
loop-name-init c = names_first c.args.out.now.items

pub loop-name-preserved : goal.loop-name-preserved
loop-name-preserved c =
    names_more c.args.out.now.items c.loop-name.out.items c.extend_from_slice.new.self.items c.loop-name.name c.loop-name.invariant
    (c.in_ok-extend_from_slice.ensures.items ∙ ap (λ (t : List ℕ). t ++ codes " A 10.0.0.1\n") (c.in_ok-push_name.ensures ∙ ap (λ (n : ℕ). c.loop-name.out.items ++ name_text n) c.from.ensures))
