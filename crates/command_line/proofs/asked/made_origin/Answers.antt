use Rattle.std.proofs.Common.{◌≡◌, ◌∙◌, [], Ok, refl, ap, codes}
use Rattle.zone_model.specs.NameText.{completed, fitting, labels_from, name_of, onto, pieces_from}
use Rattle.job_model.specs.Loads.{made_origin}
use Rattle.command_line.proofs.asked.made_origin.Goals as goal

example_is : name_of (codes "example") [] ≡ Ok made_origin
unfolding name_of pieces_from labels_from onto completed fitting
example_is = refl

pub unreachable-requires : goal.unreachable-requires
unreachable-requires c =
    let e = c.read.ensures ∙ ap (name_of (codes "example")) c.root.ensures ∙ example_is in
    absurd (cc (e, c.in-Err.is))

pub returns : goal.returns
returns c =
    let e = c.read.ensures ∙ ap (name_of (codes "example")) c.root.ensures ∙ example_is in
    cc (e, c.in-Ok.is)
