use Rattle.std.proofs.Common.{◌+◌, ℕ, sym, subst, ◌∙◌}
use mathlib.Core.Option.{none}
use Rattle.atomic_table.specs.Table.{step}
use Rattle.pin_core.specs.Words.{pin_at}
use Rattle.shared_cells.specs.Steps.{Settles}
use Rattle.shared_cells.proofs.Images.{some_word, pin_word}
use Rattle.shared_cells.proofs.Seats.{idle_is}
use Rattle.shared_cells.proofs.Passes.{may_enter, glances_next, settles_next, pins_so}
use Rattle.shared_cells.proofs.pinned.take_pin.Goals as goal

pub store-requires : goal.store-requires
store-requires g c =
    let pass = c.requires.pass in
    (c.requires.table, pin_word _ _ _ c.args.shared.now.wide pass.few, may_enter g.L.HistoryLaw.applied g.L.HistoryLaw.lawful g.L.HistoryLaw.permitted g.L.HistoryLaw.stands _ _ _ _ _ pass.pass pass.off_turn pass.told (idle_is c.args.place.now.me.0.progress c.requires.idle))

pub load-word-requires : goal.load-word-requires
load-word-requires g c =
    let pass = c.requires.pass in
    let s = c.store.ensures in
    (s.0 ∙ c.requires.table, some_word _ _ c.args.shared.now.wide, glances_next g.L.HistoryLaw.applied g.L.HistoryLaw.lawful g.L.HistoryLaw.permitted g.L.HistoryLaw.stands _ _ _ c.args.number c.args.place.now.me c.store.new.seat.me s.2 pass.pass pass.off_turn pass.told)

pub compare_exchange-found-requires : goal.compare_exchange-found-requires
compare_exchange-found-requires g c =
    let pass = c.requires.pass in
    let s = c.store.ensures in
    let l = c.load-word.ensures in (
      l.0 ∙ s.0 ∙ c.requires.table,
      pin_word _ _ _ c.args.shared.now.wide pass.few,
      settles_next g.L.HistoryLaw.applied g.L.HistoryLaw.lawful g.L.HistoryLaw.permitted g.L.HistoryLaw.stands _ _ _ c.args.number c.load-word.result c.args.place.now.me c.store.new.seat.me c.load-word.new.seat.me s.2 l.2.0 pass.pass pass.off_turn pass.told,
    )

pub returns-clause-settled : goal.returns-clause-settled
returns-clause-settled g c =
    let v = c.args.place.now in
    let first = step {S = Unit {0}} c.args.shared.now.table.shared.table_id.slots (pin_at c.args.number) 1 (c.load-word.result + 2) none in
    subst (λ (n : ℕ). Settles g.L.HistoryLaw.applied g.L.HistoryLaw.lawful g.L.HistoryLaw.permitted g.L.HistoryLaw.stands v.me.0 n c.compare_exchange-found.new.seat.me.0) (sym c.pin_after_exchange.ensures)
    (pins_so g.L.HistoryLaw.applied g.L.HistoryLaw.lawful g.L.HistoryLaw.permitted g.L.HistoryLaw.stands c.args.shared.now.table.shared.key c.load-word.result c.compare_exchange-found.result first v.me c.store.new.seat.me c.load-word.new.seat.me c.compare_exchange-found.new.seat.me
    c.store.ensures.2 c.load-word.ensures.2.0 c.compare_exchange-found.ensures.2)
