use Rattle.std.proofs.Common.{rules, false, ◌≡◌, ◌∙◌, ◌+◌, ◌*◌, ◌∷◌, length, sym, ap, subst}
use Rattle.std.specs.Prelude.{IsSome}
use Rattle.std.specs.List.{AllByRecursion}
use Rattle.job_model.specs.Commands.{InTurn}
use Rattle.job_script.specs.Views.{worker_view, workers_view}
use Rattle.qp_multi.specs.Passes.{known_at}
use Rattle.std.proofs.lemmas.List.{length-map, nil_from_length}
use Rattle.std.proofs.lemmas.Result.{IfOk-weaker}
use Rattle.report_laws.specs.Changes.{AllAsked}
use Rattle.job_commands.specs.Calls.{AllHeard}
use Rattle.job_commands.specs.Commands.{OpensAt, known_in}
use Rattle.job_commands.specs.Closings.{Gathers}
use Rattle.job_commands.proofs.CallLaws.{any_ok}
use Rattle.job_commands.proofs.ShowLaws.{seat_told}
use Rattle.job_commands.proofs.GatherLaws.{gathers_main, first_taken, all_taken, at_ok}
use Rattle.job_threads.proofs.GatherLaws.{gathers_worker, gathers_done}
use Rattle.job_threads.proofs.job.+workers.Goals as goal

pub returns-in_default-clause-ran : goal.returns-in_default-clause-ran
returns-in_default-clause-ran g t c = λ s index new.
    let none = nil_from_length c.args.workers.now c.in_default.ensures.cases in
    let first = first_taken c.args.passes.items c.remove-asks.new.self.items c.remove-asks.result (search rules) c.remove-asks.ensures.value c.remove-asks.ensures.items in
    gathers_main s (known_in c.args.passes.items) (known_in c.remove-asks.new.self.items) (known_at c.remove-asks.result.seat) (workers_view c.args.workers.now) c.new.result.items (ap known_in first)
    (length-map c.args.passes.items (λ p. known_at p.seat) ∙ c.requires.can.count ∙ ap (λ l. 2 * length l + 1) none) (ap workers_view none) c.new.ensures.items new

pub join-done-requires-after_bounds : goal.join-done-requires-after_bounds
join-done-requires-after_bounds g t c =
    let passes = c.args.passes.items in
    let front = c.remove-asks.new.self.items in
    let split = ap workers_view c.in-Some.ensures.cases.0 in
    let turn = subst (AllByRecursion (InTurn false)) split c.requires.can.in_turn in
    let said = subst (AllByRecursion (AllByRecursion (AllAsked c.args.origin.now))) split c.requires.can.said in
    let last = first_taken passes front c.remove-asks.result (search rules) c.remove-asks.ensures.value c.remove-asks.ensures.items in
    let next = first_taken front c.remove-spare.new.self.items c.remove-spare.result (search rules) c.remove-spare.ensures.value c.remove-spare.ensures.items in
    let here = all_taken passes front c.remove-asks.result (λ p. (IsSome p.seat) × (p.place ≡ c.args.index.now.place)) last c.requires.can.here in
    let second = all_taken front c.remove-spare.new.self.items c.remove-spare.result (λ p. (IsSome p.seat) × (p.place ≡ c.args.index.now.place)) next here.1 in
    let opens = all_taken passes front c.remove-asks.result (λ p. OpensAt c.args.origin.now (known_at p.seat)) last c.requires.can.opens in
    let opens_next = all_taken front c.remove-spare.new.self.items c.remove-spare.result (λ p. OpensAt c.args.origin.now (known_at p.seat)) next opens.1 in
    λ κs bounds. (
      (record { here = (here.0.0, second.0.0); places = (here.0.1, second.0.1); opens = opens.0 }, (record { in_turn = turn.0; said = said.0 }, search rules)),
      (search rules, (search rules, (search rules, (search rules, (search rules, (record { count = search rules; here = second.1; opens = opens_next.1; in_turn = turn.1; said = said.1 }, search rules)))))),
    )

pub returns-clause-ran : goal.returns-clause-ran
returns-clause-ran g t c = λ s index new.
    let first = c.join-done.ensures.first.1 in
    let second = c.join-done.ensures.second in
    let done = c.in_ok-done.field-0 in
    let others = c.in_ok-others.field-0 in
    let passes = c.args.passes.items in
    let front = c.remove-asks.new.self.items in
    let rest = c.remove-spare.new.self.items in
    let asks = c.remove-asks.result in
    let spare = c.remove-spare.result in
    let split = ap workers_view c.in-Some.ensures.cases.0 in
    let both = first_taken passes front asks (search rules) c.remove-asks.ensures.value c.remove-asks.ensures.items
    ∙ ap (λ l. asks ∷ l) (first_taken front rest spare (search rules) c.remove-spare.ensures.value c.remove-spare.ensures.items) in
    let main = (at_ok _ others _ c.in_ok-others.was second.0).main in
    gathers_done c.with_done.result (λ g. g.outcomes.items) (λ g. known_in g.passes.items) (λ g. known_at g.main.seat) s _ _ _ _ _ (known_at done.asks.seat)
    (IfOk-weaker c.with_done.result _ _ (λ _ h. h.0) c.with_done.ensures.gathers) (IfOk-weaker c.with_done.result _ _ (λ _ h. h.1) c.with_done.ensures.gathers) c.with_done.ensures.learnt
    (λ after learnt. subst (λ ws. Gathers s (known_in passes) ws (done.outcomes ∷ others.outcomes.items) (known_at done.asks.seat ∷ known_at done.spare.seat ∷ known_in others.passes.items) after) (sym split)
    (gathers_worker s c.args.origin.now c.args.index.now.shared.table.shared.key index (known_in passes) (known_in rest) (known_at asks.seat) (known_at spare.seat) (workers_view c.in-Some.others.now) others.outcomes.items (known_in others.passes.items) (known_at others.main.seat) after
    (known_at done.asks.seat) (known_at done.spare.seat) (worker_view c.in-Some.worker.now) done.outcomes (ap known_in both) new
    (λ those. at_ok _ others _ c.in_ok-others.was (second.1.0 s index those))
    (λ n opened_with begins. at_ok _ done _ c.in_ok-done.was (first.0 s n opened_with begins)) (seat_told others.main.seat main.0) learnt))

pub returns-in_default-clause-heard : goal.returns-in_default-clause-heard
returns-in_default-clause-heard g t c =
    subst (λ ws. AllHeard (g.G.Gate.hears c.args.gate.now) c.args.number (workers_view ws)) (sym (nil_from_length c.args.workers.now c.in_default.ensures.cases)) tt

pub returns-clause-heard : goal.returns-clause-heard
returns-clause-heard g t c =
    any_ok c.with_done.result
    (subst (λ ws. AllHeard (g.G.Gate.hears c.args.gate.now) c.args.number (workers_view ws)) (sym c.in-Some.ensures.cases.0) (
      at_ok _ c.in_ok-done.field-0 _ c.in_ok-done.was c.join-done.ensures.first.1.1,
      subst (λ n. AllHeard (g.G.Gate.hears c.args.gate.now) n (workers_view c.in-Some.others.now)) c.saturating_add-next.ensures (at_ok _ c.in_ok-others.field-0 _ c.in_ok-others.was c.join-done.ensures.second.1.1),
    ))
