use Rattle.std.proofs.Common.{ℕ, ◌+◌, sym, refl, ◌∙◌, subst}
use mathlib.Core.Option.{none}
use Rattle.atomic_table.specs.Table.{step}
use Rattle.pin_core.specs.Words.{pin_at}
use Rattle.shared_cells.specs.Steps.{Marks}
use Rattle.shared_cells.proofs.Images.{pin_word}
use Rattle.shared_cells.proofs.RoundLaws.{may_scan_pass, may_help_pass, scanned_pass, helped_pass}
use Rattle.shared_cells.proofs.round.mark_pass.Goals as goal

pub load-found-requires : goal.load-found-requires
load-found-requires g c =
    let r = c.requires in
    (r.table, pin_word _ _ _ c.args.shared.now.wide r.can.few, may_scan_pass g.L.HistoryLaw.applied g.L.HistoryLaw.lawful g.L.HistoryLaw.permitted g.L.HistoryLaw.stands _ _ _ _ _ r.can.told r.can.pass_fits)

pub compare_exchange-found-requires : goal.compare_exchange-found-requires
compare_exchange-found-requires g c =
    let r = c.requires in
    let m = c.args.place.now.me in
    let m1 = c.load-found.new.seat.me in
    let scan = step {S = Unit {0}} c.args.shared.now.table.shared.table_id.slots (pin_at c.args.pass) 0 0 none in
    let first = subst (λ (x : ℕ). Marks m.0 c.args.pass x m1.0) c.if-found-ne-ENTERING.false (scanned_pass scan m m1 c.args.pass c.load-found.result refl c.load-found.ensures.2) in (
      c.load-found.ensures.0 ∙ r.table,
      pin_word _ _ _ c.args.shared.now.wide r.can.few,
      may_help_pass g.L.HistoryLaw.applied g.L.HistoryLaw.lawful g.L.HistoryLaw.permitted g.L.HistoryLaw.stands _ _ _ m m1 c.args.pass c.args.word first r.can.told r.can.pass_fits r.can.word,
    )

pub returns-clause-marked : goal.returns-clause-marked
returns-clause-marked g c =
    let r = c.requires in
    let m = c.args.place.now.me in
    let m1 = c.load-found.new.seat.me in
    let m2 = c.compare_exchange-found.new.seat.me in
    let slots = c.args.shared.now.table.shared.table_id.slots in
    let scan = step {S = Unit {0}} slots (pin_at c.args.pass) 0 0 none in
    let help = step {S = Unit {0}} slots (pin_at c.args.pass) 1 (c.args.word + 2) none in
    let first = subst (λ (x : ℕ). Marks m.0 c.args.pass x m1.0) c.if-found-ne-ENTERING.false (scanned_pass scan m m1 c.args.pass c.load-found.result refl c.load-found.ensures.2) in
    subst (λ (x : ℕ). Marks m.0 c.args.pass x m2.0) (sym c.pin_after_exchange.ensures) (helped_pass help m m1 m2 c.args.pass c.compare_exchange-found.result refl first r.can.pass_fits c.compare_exchange-found.ensures.2)
