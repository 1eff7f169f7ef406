use Rattle.std.proofs.Common.{◌∙◌, sym, ap, subst}
use Rattle.master_file.specs.Owned.{kept_view, IsKept}
use Rattle.master_file.proofs.OwnedLemmas.{kept_stands}
use Rattle.master_file.proofs.owned.Owned.check.Goals as goal

pub returns-in-Single : goal.returns-in-Single
returns-in-Single c = kept_stands c.in-Single.field-0.items c.args.self.now (subst IsKept c.in-Single.is c.self.invariant) (ap kept_view (sym c.in-Single.is) ∙ c.self.view_is)
