use Rattle.std.proofs.Common.{rules, ◌∙◌, [], ◌∷◌, length, sym, ap, subst}
use Rattle.std.specs.List.{slice_get}
use Rattle.std.proofs.lemmas.List.{length-map}
use Rattle.zone_table.specs.Openings.{origins_of}
use Rattle.zone_table.specs.Passes.{IsPassOf}
use Rattle.zone_table.proofs.Lists.{all_at, at_seam}
use Rattle.zone_tests.proofs.OpeningLaws.{empty_rise}
use Rattle.zone_tests.proofs.nested.run.Goals as goal

pub open-requires-clause-zones : goal.open-requires-clause-zones
open-requires-clause-zones g c = record {
  differ = record { some = search rules; few = search rules; different = c.requires.different };
  begin = record { rising = empty_rise c.args.items.now c.requires.empty; lawful = λ k d inside. tt };
}

pub walk-requires-clause-pass : goal.walk-requires-clause-pass
walk-requires-clause-pass g c =
    subst (λ os. IsPassOf os c.in_ok-pass.pass) (sym c.in-Ok.ensures.opened.origins)
    (all_at (IsPassOf (origins_of c.args.items.now)) c.in-Ok.passes.items (length c.pop.new.self.items) c.in_ok-pass.pass c.in-Ok.ensures.opened.passes.passes
    (ap (λ ps. slice_get ps (length c.pop.new.self.items)) c.in_ok-pass.ensures.items ∙ at_seam c.pop.new.self.items c.in_ok-pass.pass []))

pub walk-requires-clause-two : goal.walk-requires-clause-two
walk-requires-clause-two g c = ap length c.in-Ok.ensures.opened.origins ∙ length-map c.args.items.now (λ z. z.origin) ∙ c.requires.two
