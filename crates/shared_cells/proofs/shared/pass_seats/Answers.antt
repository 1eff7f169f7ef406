use Rattle.std.proofs.Common.{◌≡◌, ◌<◌, ℕ, [], sym, ap, ◌∙◌, subst, map}
use Rattle.std.specs.List.{All}
use Rattle.std.proofs.lemmas.List.Elements.{All-push}
use Rattle.atomic_table.specs.Table.{Splits}
use Rattle.shared_cells.specs.Views.{with_new_pass, new_pass_of, pass_view}
use Rattle.shared_cells.specs.Rule.{IsSoundTable}
use Rattle.shared_cells.proofs.Images.{some_word}
use Rattle.shared_cells.proofs.Lists.{map_more}
use Rattle.shared_cells.proofs.Starts.{splits_new}
use Rattle.shared_cells.proofs.shared.pass_seats.Goals as goal

pub split_seat-place-requires : goal.split_seat-place-requires
split_seat-place-requires g c =
    let shared = c.args.shared.now.table.shared in
    let made = c.loop-number.invariant.1 in (
      c.loop-number.invariant.0 ∙ c.requires.table,
      some_word _ _ c.args.shared.now.wide,
      subst (λ m. Splits (IsSoundTable g.L.HistoryLaw.applied g.L.HistoryLaw.lawful g.L.HistoryLaw.permitted g.L.HistoryLaw.stands shared.key) c.loop-number.place.id m.0 (with_new_pass m.0) (new_pass_of m.0)) (sym made)
          (splits_new g.L.HistoryLaw.applied g.L.HistoryLaw.lawful g.L.HistoryLaw.permitted g.L.HistoryLaw.stands shared.key _ c.loop-number.number (subst (λ (n : ℕ). c.loop-number.number < n) c.requires.passes c.loop-number-test.true)),
    )

pub loop-number-preserved : goal.loop-number-preserved
loop-number-preserved g c =
    let shared = c.args.shared.now.table.shared in
    let kept = c.loop-number.invariant in
    let step = c.split_seat-place.ensures in
    let items = c.in_ok-push.ensures.items in (
      step.0 ∙ kept.0,
      step.2 ∙ ap (λ m. (with_new_pass m.0, m.1)) kept.1,
      ap (map (λ seat. seat.place.me.0)) items ∙ map_more (λ seat. seat.place.me.0) (λ number. pass_view number shared.key.chunks) _ _ c.loop-number.number kept.2 (ap (λ m. m.0) (step.4 ∙ ap (λ m. (new_pass_of m.0, [])) kept.1)),
      subst (All (λ seat. seat.place.table_id ≡ shared.table_id)) (sym items) (All-push (λ seat. seat.place.table_id ≡ shared.table_id) _ _ kept.3 (step.3 ∙ kept.0 ∙ c.requires.table)),
    )
