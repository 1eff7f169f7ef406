use Rattle.std.proofs.Common.{◌≡◌, ◌∙◌, sym, ap, subst}
use Rattle.shared_cells.specs.declared.view.Progress.TheVariants as progress
use Rattle.shared_cells.specs.Views.{with_progress}
use Rattle.qp_multi.specs.Passes.{known_at, Pinned}
use Rattle.zone_table.specs.Tables.{IsAmong}
use Rattle.zone_table.proofs.KnownLaws.{pinned_left}
use Rattle.zone_table.proofs.LookLaws.{asked}
use Rattle.zone_table.proofs.pass.ZonesPass.attached.Goals as goal

pub returns-clause-pass : goal.returns-clause-pass
returns-clause-pass g c =
    let q = c.query-query.result in
    let new = c.drop-query.new.self.0 in
    let same = c.count.ensures.same ∙ c.version.ensures.same in
    let left : known_at new.seat ≡ with_progress q.seat.place.me.0 progress.Idle = c.drop-query.ensures.left ∙ ap (λ x. with_progress x.seat.place.me.0 progress.Idle) same in
    let pinned = pinned_left IsAmong (known_at c.args.self.now.table.seat) q.seat.place.me.0 (known_at new.seat) progress.Idle q.seat.version c.query-query.ensures.pinned left in
    asked c.args.zones.now.origins.items c.args.self.now c.requires.pass new c.drop-query.ensures.here
    (c.drop-query.ensures.place ∙ ap (λ x. x.place) same ∙ c.query-query.ensures.place ∙ c.requires.pass.table_place) pinned.grows

pub returns-clause-version : goal.returns-clause-version
returns-clause-version g c =
    let q = c.query-query.result in
    let left : known_at c.drop-query.new.self.0.seat ≡ with_progress q.seat.place.me.0 progress.Idle = c.drop-query.ensures.left ∙ ap (λ x. with_progress x.seat.place.me.0 progress.Idle) (c.count.ensures.same ∙ c.version.ensures.same) in
    let pinned = pinned_left IsAmong (known_at c.args.self.now.table.seat) q.seat.place.me.0 (known_at c.drop-query.new.self.0.seat) progress.Idle q.seat.version c.query-query.ensures.pinned left in
    subst (Pinned IsAmong (known_at c.args.self.now.table.seat) (known_at c.drop-query.new.self.0.seat)) (sym c.version.ensures.number) pinned
