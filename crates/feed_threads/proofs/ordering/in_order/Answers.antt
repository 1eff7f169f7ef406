use Rattle.std.proofs.Common.{rules, ◌≡◌, ◌∙◌, ◌+◌, ◌<◌, ◌≤◌, ℕ, List, [], length, sym, ap, subst}
use Rattle.std.specs.List.{AllByRecursion}
use Rattle.std.proofs.lemmas.List.{with_items_is}
use Rattle.feed_threads.specs.Feeds.{IsBy, IsFree, numbered, served_by}
use Rattle.feed_threads.specs.declared.ordering.Served.{Served}
use Rattle.feed_threads.proofs.OrderLaws.{Places, Ordering, ordering_begins, next_alike, next_rising, next_none, next_free, ordering_next, ordering_full, ordered}
use Rattle.feed_threads.proofs.ordering.in_order.Goals as goal

pub loop-one-init : goal.loop-one-init
loop-one-init c = ordering_begins c.args.served.items c.args.end c.in_ok-places.places.items c.in_ok-places.ensures

pub place_served-requires : goal.place_served-requires
place_served-requires c =
    let long : c.len.result ≡ length c.pop.new.self.items = c.len.ensures ∙ c.pop.new.self.ok.0 in
    record {
      alike = next_alike c.args.served.items c.loop-one.served.items c.pop.new.self.items c.args.end c.in-Some.one c.loop-one.places.items c.in-Some.ensures.items c.requires.taken c.requires.alike c.loop-one.invariant;
      rising = next_rising c.args.served.items c.loop-one.served.items c.pop.new.self.items c.args.end c.in-Some.one c.loop-one.places.items c.in-Some.ensures.items c.requires.taken c.requires.alike c.loop-one.invariant;
      free = subst (λ (l : Places). AllByRecursion (IsFree l) c.in-Some.one.numbers.items) (sym c.deref_mut.ensures.value)
          (next_free c.args.served.items c.loop-one.served.items c.pop.new.self.items c.args.end c.in-Some.one c.loop-one.places.items c.in-Some.ensures.items c.requires.taken c.requires.alike c.loop-one.invariant);
      none = subst (λ (l : Places). served_by (c.len.result + 1) 1 l ≡ []) (sym c.deref_mut.ensures.value)
          (subst (λ (n : ℕ). served_by (n + 1) 1 c.loop-one.places.items ≡ []) (sym long)
          (next_none c.args.served.items c.loop-one.served.items c.pop.new.self.items c.args.end c.in-Some.one c.loop-one.places.items c.in-Some.ensures.items c.requires.taken c.requires.alike c.loop-one.invariant));
    }

pub loop-one-preserved : goal.loop-one-preserved
loop-one-preserved c =
    let rest = c.pop.new.self.items in
    let was = c.deref_mut.ensures.value in
    let worker : c.len.result + 1 ≡ length rest + 1 = ap (λ (n : ℕ). n + 1) (c.len.ensures ∙ c.pop.new.self.ok.0) in
    let placed = c.place_served.ensures in
    let new = c.place_served.new.places in
    let same : length c.place_served.new.places ≡ length c.loop-one.places.items = search (rules, placed, was) in
    subst (λ (l : Places). Ordering c.args.served.items c.args.end rest l) (sym (with_items_is c.loop-one.places new (same ∙ sym c.loop-one.places.ok.0)))
    (ordering_next c.args.served.items c.loop-one.served.items rest c.args.end c.in-Some.one c.loop-one.places.items c.in-Some.ensures.items c.requires.taken c.requires.alike c.loop-one.invariant new same
    (subst (λ (n : ℕ). served_by n 1 new ≡ numbered c.in-Some.one) worker placed.mine)
    (λ other differs. placed.others other (λ e. differs (e ∙ worker)) ∙ ap (served_by other 1) was)
    (λ low high less most by. placed.workers low high (subst (λ (n : ℕ). low < n) (sym worker) less) (subst (λ (n : ℕ). n ≤ high) (sym worker) most) (subst (λ (l : Places). AllByRecursion (IsBy low high) l) (sym was) by)))

pub all_placed-requires : goal.all_placed-requires
all_placed-requires c =
    let empty : c.loop-one.served.items ≡ [] = search (rules, c.in_default.ensures) in
    ordering_full c.args.served.items c.args.end c.loop-one.places.items c.requires.some c.requires.taken c.requires.alike (subst (λ (l : List Served). Ordering c.args.served.items c.args.end l c.loop-one.places.items) empty c.loop-one.invariant)

pub returns : goal.returns
returns c =
    let empty : c.loop-one.served.items ≡ [] = search (rules, c.in_default.ensures) in
    ordered c.args.served.items c.args.end c.loop-one.places.items c.requires.some c.requires.taken c.requires.alike (subst (λ (l : List Served). Ordering c.args.served.items c.args.end l c.loop-one.places.items) empty c.loop-one.invariant) c.all_placed.result c.all_placed.ensures
