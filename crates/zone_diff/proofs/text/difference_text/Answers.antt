use Rattle.std.proofs.Common.{◌∙◌, ℕ, eqb, length, ap, List, []}
use Rattle.std.proofs.lemmas.Result.{IfOk-weaker}
use Rattle.zone_model.specs.Names.{Name}
use Rattle.zone_model.specs.Versions.{Operation}
use Rattle.zone_diff.specs.Differences.{difference}
use Rattle.zone_diff.specs.Held.{HoldsFor}
use Rattle.zone_diff.specs.Sinks.{Aim}
use Rattle.zone_diff.specs.Texts.{text_in}
use Rattle.zone_diff.proofs.HeldLemmas.{nothing_written}
use Rattle.zone_diff.proofs.text.difference_text.Goals as goal

pub returns : goal.returns
returns c =
    let aim : Aim = record { style = c.args.style; origin = c.origin.result.now } in
    let operations : List Operation = difference c.args.serial c.args.before.pairs c.args.after.pairs in
    let s = c.push_difference.new.sink in
    let held : HoldsFor s.style s.origin s.out.items s.room aim operations = c.in_ok-push_difference.ensures aim [] c.new-text.ensures in record {
      text = IfOk-weaker c.finish.result _ _ (λ text written. written aim operations held ∙ ap (λ (n : Name). text_in c.args.style n operations) c.origin.ensures) c.finish.ensures;
      nothing = IfOk-weaker c.finish.result _ _ (λ text written. ap (λ (l : List ℕ). eqb (length l) 0) (written aim operations held) ∙ nothing_written c.args.style c.origin.result.now operations) c.finish.ensures;
    }
