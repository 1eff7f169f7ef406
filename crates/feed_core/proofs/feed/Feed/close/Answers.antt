use Rattle.std.proofs.Common.{rules, ◌+◌, sym, ap, arith}
use Rattle.feed_core.specs.Feeds.{lists_of}
use Rattle.feed_core.proofs.Closing.{stands_once, all_below, all_taken, whole_count_taken, all_rising}
use Rattle.feed_core.proofs.feed.Feed.close.Goals as goal

pub gathered-whole-requires-clause-some : goal.gathered-whole-requires-clause-some
gathered-whole-requires-clause-some g c = omega (arith, ap (λ f. f.seats) c.self.view_is)

pub next_number-requires-clause-part : goal.next_number-requires-clause-part
next_number-requires-clause-part g c = record {
  part = omega (arith, c.gathered-whole.ensures.parts, c.args.seats.ok.0, ap (λ f. f.seats) c.self.view_is);
  filled = c.gathered-whole.ensures.filled;
  marked = c.gathered-whole.ensures.marked;
  mark = search rules;
}

pub returns-in-Some-clause-taken : goal.returns-in-Some-clause-taken
returns-in-Some-clause-taken g c =
    let lists = lists_of c.args.seats.items in
    let all = all_taken c.args.self c.args.seats.items c.gathered-whole.result c.in-Some.number c.gathered-whole.ensures (omega (arith, c.args.seats.ok.0)) c.in-Some.ensures.taken.all in record {
      within = search rules;
      once = stands_once lists c.in-Some.number all;
      below = all_below lists c.in-Some.number all;
      rising = all_rising c.args.seats.items c.gathered-whole.ensures.rising;
    }

pub returns-clause-taken : goal.returns-clause-taken
returns-clause-taken g c =
    let lists = lists_of c.args.seats.items in
    let all = whole_count_taken c.args.self c.args.seats.items c.gathered-whole.result c.self.inside.count c.gathered-whole.ensures (omega (arith, c.args.seats.ok.0)) (sym (ap (λ f. f.count) c.self.view_is)) c.in-None.ensures.taken.all in record {
      within = search rules;
      once = stands_once lists (c.self.inside.count + 1) all;
      below = all_below lists (c.self.inside.count + 1) all;
      rising = all_rising c.args.seats.items c.gathered-whole.ensures.rising;
    }
