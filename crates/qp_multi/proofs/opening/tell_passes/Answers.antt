use Rattle.std.proofs.Common.{◌≡◌, ◌∙◌, ◌+◌, ◌-◌, ◌<◌, [], length, map, slice_index_or, vec_len, refl, sym, ap, subst, arith, length-append}
use Rattle.std.specs.Prelude.{IsSome}
use Rattle.std.specs.List.{All}
use Rattle.std.proofs.lemmas.List.Elements.{All-push, All-take}
use Rattle.shared_cells.specs.History.{IsPartOf}
use Rattle.shared_cells.specs.Views.{number_of}
use Rattle.qp_multi.specs.Closings.{IsThere}
use Rattle.qp_multi.specs.Passes.{Known, commits_in, first_version, known_at, pinned_in}
use Rattle.qp_multi.specs.Openings.{SeesFirst}
use Rattle.qp_multi.proofs.TellLaws.{none_longer, sees_first, fewer_left, last_number, there_more}
use Rattle.qp_multi.proofs.opening.tell_passes.Goals as goal

pub loop-seat-preserved : goal.loop-seat-preserved
loop-seat-preserved g c =
    let table = c.args.shared.now.table.shared.table_id in
    let inv = c.loop-seat.invariant in
    let note = c.note-note.ensures in
    let pop = c.pop.ensures in
    let seat = c.in-Some.seat in
    let v : Known = c.loop-seat.turn.place.me.0 in
    let w : Known = c.learn-seat.result.place.me.0 in
    let some : 0 < vec_len c.loop-seat.seats = pop.variant.0 (subst IsSome (sym c.in-Some.is) refl) in
    let value = pop.value seat some in
    let popped : seat ≡ slice_index_or c.loop-seat.seats.items (vec_len c.loop-seat.seats - 1) seat = cc in
    let unseen : length seat.place.me.0.seen.history ≡ 0 = ap (λ s. length s.place.me.0.seen.history) popped ∙ inv.unseen (vec_len c.loop-seat.seats - 1) seat (omega arith) in
    let done = inv.unused (vec_len c.loop-seat.seats - 1) seat (omega arith) in
    let told_none : length v.seen.history ≡ 0 = ap (λ (x : Known). length x.seen.history) inv.known ∙ c.requires.turn.1 in
    let told : c.note-note.result.place.me.0.seen ≡ v.seen = ap (λ (x : Known). x.seen) note.note in
    let none : length w.seen.history ≡ 0 =
    ap (λ (x : Known). length x.seen.history) c.learn-seat.ensures.learnt.0
    ∙ none_longer seat.place.me.0.seen.history c.note-note.result.place.me.0.seen.history unseen (ap (λ s. length s.history) told ∙ told_none) in
    let part : IsPartOf w.seen v.seen = subst (IsPartOf w.seen) told c.learn-seat.ensures.learnt.2 in
    let sees : SeesFirst (first_version c.args.turn.now.place.me.0.seen) w = subst (λ (x : Known). SeesFirst (first_version x.seen) w) inv.known (sees_first v w c.loop-seat.turn.told part none) in
    let items = c.in_ok-push.ensures.items in
    let long : vec_len c.loop-seat.seats ≡ length c.loop-seat.seats.items = omega (arith, c.loop-seat.seats.ok.0) in
    let left = fewer_left c.pop.new.self.items c.loop-seat.seats.items c.args.seats.items (vec_len c.loop-seat.seats) long some inv.rest pop.rest in
    let numbered : number_of w.pass ≡ length c.pop.new.self.items + 1 =
    ap (λ (x : Known). number_of x.pass) c.learn-seat.ensures.learnt.0
    ∙ ap (λ s. number_of s.place.me.0.pass) popped
    ∙ last_number (λ s. number_of s.place.me.0.pass) c.loop-seat.seats.items c.args.seats.items (vec_len c.loop-seat.seats) c.args.shared.now.table.shared.key.passes seat long some (let m = inv.many in omega (arith, long)) inv.rest c.requires.seats.numbered
    ∙ sym left.0 in
    record {
      table = note.table.0 ∙ inv.table;
      known = note.same.0 ∙ inv.known;
      count = note.same.2 ∙ inv.count;
      here = subst (All (λ s. s.place.table_id ≡ table)) (sym pop.rest) (All-take (λ s. s.place.table_id ≡ table) (vec_len c.loop-seat.seats - 1) c.loop-seat.seats.items inv.here);
      unseen = subst (All (λ s. length s.place.me.0.seen.history ≡ 0)) (sym pop.rest) (All-take (λ s. length s.place.me.0.seen.history ≡ 0) (vec_len c.loop-seat.seats - 1) c.loop-seat.seats.items inv.unseen);
      unused = subst (All (λ s. (commits_in s.place.me.0.pass ≡ []) × (pinned_in s.place.me.0.pass ≡ []))) (sym pop.rest) (All-take (λ s. (commits_in s.place.me.0.pass ≡ []) × (pinned_in s.place.me.0.pass ≡ [])) (vec_len c.loop-seat.seats - 1) c.loop-seat.seats.items inv.unused);
      idle = subst (All (λ p. (commits_in (known_at p.seat).pass ≡ []) × (pinned_in (known_at p.seat).pass ≡ []))) (sym items)
          (All-push (λ p. (commits_in (known_at p.seat).pass ≡ []) × (pinned_in (known_at p.seat).pass ≡ [])) c.loop-seat.passes.items _ inv.idle (
            ap (λ (x : Known). commits_in x.pass) c.learn-seat.ensures.learnt.0 ∙ ap (λ s. commits_in s.place.me.0.pass) popped ∙ done.0,
            ap (λ (x : Known). pinned_in x.pass) c.learn-seat.ensures.learnt.0 ∙ ap (λ s. pinned_in s.place.me.0.pass) popped ∙ done.1,
          ));
      told = subst (All (λ p. (IsSome p.seat) × (p.place ≡ c.args.place) × (SeesFirst (first_version c.args.turn.now.place.me.0.seen) (known_at p.seat)))) (sym items)
          (All-push (λ p. (IsSome p.seat) × (p.place ≡ c.args.place) × (SeesFirst (first_version c.args.turn.now.place.me.0.seen) (known_at p.seat))) c.loop-seat.passes.items _ inv.told (refl, refl, sees));
      many =
          let more = ap (λ ps. length ps) items ∙ length-append c.loop-seat.passes.items _ in
          let fewer = ap (λ ss. length ss) c.in-Some.ensures.items ∙ length-append c.pop.new.self.items _ in
          let all = inv.many in omega arith;
      rest = left.1;
      all = λ number some small. subst (λ ps. IsThere (map (λ p. known_at p.seat) ps) number) (sym items)
          (there_more (λ p. known_at p.seat) c.loop-seat.passes.items _ (length c.pop.new.self.items) (length c.args.seats.items) numbered
          (λ n more few. inv.all n (let k = left.0 in omega (arith, long)) few) number some small);
    }
