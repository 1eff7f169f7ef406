use Rattle.std.proofs.Common.{sym, subst}
use Rattle.feed_threads.specs.Feeds.{numbered}
use Rattle.feed_threads.proofs.OrderLaws.{Placing, placing_begins, placing_next, last_place}
use Rattle.feed_threads.proofs.ordering.place_served.Goals as goal

pub loop-outcome-init : goal.loop-outcome-init
loop-outcome-init c = placing_begins c.args.places.now c.args.worker c.args.served.numbers.items c.args.served.outcomes.list.items c.requires.alike c.requires.rising c.requires.free c.requires.none

pub overflow_sub-number : goal.overflow_sub-number
overflow_sub-number c =
    (last_place (numbered c.args.served) c.args.places.now c.loop-outcome.places c.args.worker c.in-Some-pop.number c.loop-outcome.numbers.items c.pop-in-Some.new.self.items c.loop-outcome.list.items c.in-Some-pop.ensures.items c.loop-outcome.invariant).0

pub place_one-requires : goal.place_one-requires
place_one-requires c =
    (last_place (numbered c.args.served) c.args.places.now c.loop-outcome.places c.args.worker c.in-Some-pop.number c.loop-outcome.numbers.items c.pop-in-Some.new.self.items c.loop-outcome.list.items c.in-Some-pop.ensures.items c.loop-outcome.invariant).1

pub loop-outcome-preserved : goal.loop-outcome-preserved
loop-outcome-preserved c =
    subst (Placing (numbered c.args.served) c.args.places.now c.args.worker c.pop-in-Some.new.self.items c.pop.new.self.items) (sym c.place_one.ensures)
    (placing_next (numbered c.args.served) c.args.places.now c.loop-outcome.places c.args.worker c.in-Some-pop.number c.loop-outcome.numbers.items c.pop-in-Some.new.self.items c.loop-outcome.list.items c.pop.new.self.items c.in-Some.outcome
    c.in-Some-pop.ensures.items c.in-Some.ensures.items c.loop-outcome.invariant)
