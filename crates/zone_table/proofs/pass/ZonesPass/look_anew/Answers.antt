use Rattle.std.proofs.Common.{◌≡◌, ◌∙◌, List, refl, sym, ap, subst}
use Rattle.zone_model.specs.Names.{Name}
use Rattle.shared_cells.specs.declared.view.Progress.TheVariants as progress
use Rattle.shared_cells.specs.Views.{with_progress}
use Rattle.qp_multi.specs.Passes.{Known, known_at, version_seen, Pinned}
use Rattle.zone_table.specs.Remembered.{AreAttached}
use Rattle.zone_table.specs.Tables.{IsAmong}
use Rattle.zone_table.proofs.KnownLaws.{pinned_left}
use Rattle.zone_table.proofs.LookLaws.{looked}
use Rattle.zone_table.proofs.pass.ZonesPass.look_anew.Goals as goal

pub returns : goal.returns
returns g c =
    let p = c.args.self.now in
    let origins = c.args.zones.now.origins.items in
    let q = c.query-query.result in
    let own = c.query-query.ensures.pinned in
    let es = version_seen q.seat.place.me.0.seen in
    let new = c.drop-query.new.self.0 in
    let same = c.version.ensures.same ∙ c.of-self.ensures.same in
    let left : known_at new.seat ≡ with_progress q.seat.place.me.0 progress.Idle = c.drop-query.ensures.left ∙ ap (λ x. with_progress x.seat.place.me.0 progress.Idle) same in
    let pinned = pinned_left IsAmong (known_at p.table.seat) q.seat.place.me.0 (known_at new.seat) progress.Idle q.seat.version own left in
    let number = c.version.ensures.number ∙ ap (λ x. x.seat.version) c.of-self.ensures.same in
    let are = subst (λ (v : Known). AreAttached origins (version_seen v.seen) c.of-self.result.attached) (sym left)
    (subst (λ (names : List Name). AreAttached names es c.of-self.result.attached) c.deref.ensures.value (c.of-self.ensures.attached es c.query-query.ensures.reads.holds)) in
    let place = c.drop-query.ensures.place ∙ ap (λ x. x.place) same ∙ c.query-query.ensures.place ∙ c.requires.pass.table_place in
    record {
      pass = looked origins p c.requires.pass new c.drop-query.ensures.here place pinned.grows c.of-self.result q.seat.version pinned.version c.of-self.ensures.version are;
      others = refl {a = p.zones};
      version = subst (Pinned IsAmong (known_at p.table.seat) (known_at new.seat)) (sym number) pinned;
      attached = are;
    }
