use Rattle.std.proofs.Common.{◌≡◌, ◌∙◌, sym, ap, subst}
use Rattle.shared_cells.specs.declared.view.Progress.TheVariants as progress
use Rattle.shared_cells.specs.Views.{with_progress}
use Rattle.shared_cells.specs.Steps.{Accounts}
use Rattle.qp_multi.specs.Passes.{Known, Pinned, known_at}
use Rattle.qp_multi.proofs.CloseLaws.{takes_last}
use Rattle.qp_multi.proofs.index.Index.take_last.Goals as goal

pub returns-clause-gathers : goal.returns-clause-gathers
returns-clause-gathers g c =
    let before = c.account.ensures.accounted in
    let after = c.account-2.ensures.accounted in
    let s : Known = c.hold-snapshot.result.seat.place.me.0 in
    let w : Known = known_at c.account-2.new.self.seat in
    let is : w ≡ with_progress s progress.Idle = c.account-2.ensures.same ∙ c.release-pass.ensures.left in (
      _,
      takes_last _ _ (known_at c.args.pass.seat) s w _ before.0 after.0 before.1
          (subst (λ (x : Known). Pinned g.L.Law.lawful x s c.hold-snapshot.result.seat.version) c.account.ensures.same c.hold-snapshot.ensures.pinned)
          (ap (λ (x : Known). x.seen) is) (ap (λ (x : Known). x.pass) is)
          (subst (λ (x : Known). Accounts c.args.self.now.shared.table.shared.key.passes x after.0) (sym c.account-2.ensures.same) after.1),
    )
