use Rattle.std.proofs.Common.{rules, true, ◌≡◌, ◌∙◌, ◌-◌, ◌<◌, ℕ, List, length, map, arith, sym, ap, subst}
use Rattle.std.specs.List.{All, Any}
use Rattle.std.specs.List.Sorted.{IsStrictlyIncreasing}
use Rattle.std.proofs.lemmas.List.{length-map, length-replicate}
use Rattle.zone_model.specs.Names.{Name}
use Rattle.job_script.specs.Views.{command_view}
use Rattle.feed_core.specs.Feeds.{StandsOnce, Takings, lists_of, new_seat}
use Rattle.qp_multi.specs.Closings.{AreAll}
use Rattle.qp_multi.specs.Passes.{known_at}
use Rattle.feed_threads.specs.Feeds.{AreInOrder, commands_served, numbers_served, outcomes_served}
use Rattle.job_commands.specs.Runs.{IsRun}
use Rattle.feed_threads.proofs.FedRunLaws.{fed_run}
use Rattle.feed_threads.proofs.HeardLaws.{all_told}
use Rattle.feed_threads.proofs.ServeLaws.{seats_of_feed, lists_served, some_done}
use Rattle.feed_threads.proofs.feeding.run_feed.Goals as goal

pub close-end-requires-clause-seats : goal.close-end-requires-clause-seats
close-end-requires-clause-seats g c =
    subst (λ (seats : List Takings). All (λ seat. seat.feed ≡ c.in_ok-feed.feed) seats) (sym c.in_ok-served.ensures.back.seats) (seats_of_feed c.in_ok-feed.feed c.in_ok-served.field-0.served.items)

pub in_order-requires-clause-taken : goal.in_order-requires-clause-taken
in_order-requires-clause-taken g c =
    let lists : lists_of c.in_ok-served.field-0.seats.items ≡ numbers_served c.in_ok-served.field-0.served.items = ap lists_of c.in_ok-served.ensures.back.seats ∙ lists_served c.in_ok-feed.feed c.in_ok-served.field-0.served.items in
    let closed = c.close-end.ensures.taken in
    record {
      once = λ number some below. subst (λ (l : List (List ℕ)). StandsOnce l number) lists (closed.once number some below);
      below = subst (λ (l : List (List ℕ)). All (All (λ number. (0 < number) × (number < c.close-end.result))) l) lists closed.below;
      rising = subst (λ (l : List (List ℕ)). All IsStrictlyIncreasing l) lists closed.rising;
    }

pub returns : goal.returns
returns g c = record {
  ran = λ s zone index opens new.
      let before = map (λ p. known_at p.seat) c.args.passes.items in
      let gathered = c.in_ok-served.field-0 in
      let served = gathered.served.items in
      let commands = map command_view c.args.commands.now in
      let last = c.in_ok-last.last in
      let many : length served ≡ c.args.workers = c.in_ok-served.ensures.back.many ∙ ap length c.in_ok-feed.ensures.seats ∙ length-replicate c.args.workers (new_seat c.in_ok-feed.feed) in
      let some : 0 < length served = omega (arith, many, c.requires.can.workers.0) in
      let long : c.in_ok-feed.feed.count ≡ length c.args.commands.now = search rules in
      let counted = long ∙ sym (length-map c.args.commands.now command_view) in
      let whole = c.close-end.ensures.done (subst (λ (seats : List Takings). Any (λ seat. seat.done ≡ true) seats) (sym c.in_ok-served.ensures.back.seats) (some_done c.in_ok-feed.feed served some)) in
      let ends : c.close-end.result - 1 ≡ length commands = omega (arith, whole, counted) in
      let order = subst (λ (n : ℕ). AreInOrder n served c.in_ok-in_order.field-0.items) ends c.in_ok-in_order.ensures in
      let handed = length-map c.args.passes.items (λ p. known_at p.seat) ∙ sym c.requires.size in
      let all = subst (λ n. AreAll n before) (sym c.requires.size) c.requires.all in
      let run = c.in_ok-last.ensures s zone before _ _ (c.in_ok-served.ensures.ran s index new) handed all opens in
      fed_run s.chunks c.args.workers c.args.origin.now zone commands served c.in_ok-in_order.field-0.items last.version last.names last.nodes many order
      (subst (λ (n : ℕ). IsRun s.chunks n c.args.origin.now zone (commands_served commands served) (outcomes_served served) last.version last.names last.nodes) (index.passes ∙ c.requires.size ∙ c.requires.can.passes)
      (subst (λ (o : Name). IsRun s.chunks s.passes o zone (commands_served commands served) (outcomes_served served) last.version last.names last.nodes) index.origin_is run));
  heard =
      let served = c.in_ok-served.field-0.served.items in
      let many : length served ≡ c.args.workers = c.in_ok-served.ensures.back.many ∙ ap length c.in_ok-feed.ensures.seats ∙ length-replicate c.args.workers (new_seat c.in_ok-feed.feed) in
      let some : 0 < length served = omega (arith, many, c.requires.can.workers.0) in
      let long : c.in_ok-feed.feed.count ≡ length c.args.commands.now = search rules in
      let whole = c.close-end.ensures.done (subst (λ (seats : List Takings). Any (λ seat. seat.done ≡ true) seats) (sym c.in_ok-served.ensures.back.seats) (some_done c.in_ok-feed.feed served some)) in
      let ends : c.close-end.result - 1 ≡ length c.args.commands.now = omega (arith, whole, long) in
      let order = subst (λ (n : ℕ). AreInOrder n served c.in_ok-in_order.field-0.items) ends c.in_ok-in_order.ensures in
      all_told (g.G.Gate.hears c.args.gate.now) (length c.args.commands.now) c.args.workers served c.in_ok-in_order.field-0.items many (omega (arith, many, c.requires.can.workers.1)) c.in_ok-served.ensures.heard order;
}
