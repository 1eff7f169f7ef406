use Rattle.std.proofs.Common.{rules, ◌≡◌, ◌∙◌, ◌∷◌, Some, length, map, ap, sym, subst}
use Rattle.std.specs.Prelude.{IsSome}
use Rattle.std.proofs.lemmas.List.{length-map}
use Rattle.std.proofs.lemmas.List.Elements.{All-pop}
use Rattle.job_script.specs.Views.{command_view}
use Rattle.job_report.proofs.ReportLemmas.{if_ok}
use Rattle.feed_core.specs.Feeds.{Takings, new_seat}
use Rattle.qp_multi.specs.Passes.{known_at}
use Rattle.job_commands.specs.Commands.{OpensAt, known_in}
use Rattle.feed_threads.specs.Feeds.{FedHeard, commands_at, commands_served, outcomes_served}
use Rattle.job_commands.proofs.ShowLaws.{seat_told}
use Rattle.job_commands.proofs.GatherLaws.{gathers_main, gathers_server, first_taken, all_taken, at_ok}
use Rattle.feed_threads.proofs.ServeLaws.{gathers_served}
use Rattle.feed_threads.proofs.feeding.+serving.Goals as goal

pub returns-in_default-clause-ran : goal.returns-in_default-clause-ran
returns-in_default-clause-ran g t c = λ s index new.
    let alone : length c.args.passes.items ≡ 1 = search (rules, c.requires.can.count, c.in_default.ensures) in
    let commands = map command_view c.args.commands.now in
    let first = first_taken c.args.passes.items c.remove-pass.new.self.items c.remove-pass.result (search rules) c.remove-pass.ensures.value c.remove-pass.ensures.items in
    gathers_main s (known_in c.args.passes.items) (known_in c.remove-pass.new.self.items) (known_at c.remove-pass.result.seat) (commands_served commands c.new.result.items) (outcomes_served c.new.result.items) (ap known_in first)
    (length-map c.args.passes.items (λ p. known_at p.seat) ∙ alone) (ap (commands_served commands) c.new.ensures.items) (ap outcomes_served c.new.ensures.items) new

pub join-done-requires-after_bounds : goal.join-done-requires-after_bounds
join-done-requires-after_bounds g t c =
    let passes = c.args.passes.items in
    let front = c.remove-pass.new.self.items in
    let first = first_taken passes front c.remove-pass.result (search rules) c.remove-pass.ensures.value c.remove-pass.ensures.items in
    let here = all_taken passes front c.remove-pass.result (λ p. (IsSome p.seat) × (p.place ≡ c.args.index.now.place)) first c.requires.can.here in
    let opens = all_taken passes front c.remove-pass.result (λ p. OpensAt c.args.origin.now (known_at p.seat)) first c.requires.can.opens in
    let seat = All-pop (λ (t : Takings). t ≡ new_seat c.args.feed.now) c.args.seats.items c.pop.new.self.items (Some c.in-Some.seat) c.in-Some.ensures.items c.requires.can.seats in
    λ κs bounds. (
      (record { here = here.0.0; place = here.0.1; opens = opens.0; seat = seat.1 }, (c.requires.can.commands, search rules)),
      (search rules, (search rules, (search rules, (search rules, (search rules, (record { count = search rules; here = here.1; opens = opens.1; seats = seat.0; commands = c.requires.can.commands }, search rules)))))),
    )

pub returns-clause-ran : goal.returns-clause-ran
returns-clause-ran g t c = λ s index new.
    let second = c.join-done.ensures.second in
    let done = c.in_ok-done.field-0 in
    let others = c.in_ok-others.field-0 in
    let passes = c.args.passes.items in
    let front = c.remove-pass.new.self.items in
    let pass = c.remove-pass.result in
    let first = first_taken passes front pass (search rules) c.remove-pass.ensures.value c.remove-pass.ensures.items in
    let commands = map command_view c.args.commands.now in
    let main = (at_ok _ others _ c.in_ok-others.was second.0).passes.main in
    gathers_served c.with_served.result (λ g. g.served.items) (λ g. known_in g.passes.items) (λ g. known_at g.main.seat) s (known_in passes) commands (done.served ∷ others.served.items)
    (known_at done.pass.seat ∷ known_in others.passes.items) (known_at others.main.seat) (known_at done.pass.seat) (if_ok c.with_served.result (λ _ h. h.0) c.with_served.ensures.gathers) (if_ok c.with_served.result (λ _ h. h.2) c.with_served.ensures.gathers) c.with_served.ensures.learnt
    (λ after learnt. gathers_server s c.args.origin.now c.args.index.now.shared.table.shared.key index (known_in passes) (known_in front) (known_at pass.seat) (commands_served commands others.served.items) (outcomes_served others.served.items) (known_in others.passes.items)
    (known_at others.main.seat) after (known_at done.pass.seat) (commands_at commands done.served.numbers.items) done.served.outcomes (ap known_in first) new
    (λ those. at_ok _ others _ c.in_ok-others.was (second.1.0 s index those))
    (λ n opened_with begins. at_ok _ done _ c.in_ok-done.was (c.join-done.ensures.first.1.0 s n opened_with begins)) (seat_told others.main.seat main.0) learnt)

pub returns-in_default-clause-heard : goal.returns-in_default-clause-heard
returns-in_default-clause-heard g t c = subst (FedHeard (g.G.Gate.hears c.args.gate.now) c.args.worker) (sym c.new.ensures.items) tt

pub returns-clause-heard : goal.returns-clause-heard
returns-clause-heard g t c =
    let mine = at_ok _ c.in_ok-done.field-0 _ c.in_ok-done.was c.join-done.ensures.first.1.1 in
    let theirs = at_ok _ c.in_ok-others.field-0 _ c.in_ok-others.was c.join-done.ensures.second.1.1 in
    if_ok c.with_served.result
    (λ x e. subst (FedHeard (g.G.Gate.hears c.args.gate.now) c.args.worker) (sym e.0) (mine, subst (λ n. FedHeard (g.G.Gate.hears c.args.gate.now) n c.in_ok-others.field-0.served.items) c.saturating_add-next.ensures theirs))
    c.with_served.ensures.gathers
