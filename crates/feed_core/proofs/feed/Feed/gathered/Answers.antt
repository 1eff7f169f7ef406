use Rattle.std.proofs.Common.{◌≡◌, ◌<◌, ◌∙◌, sym, ap, subst, append_assoc, [], ◌∷◌, ◌++◌, Some, lit<, arith}
use Rattle.std.proofs.lemmas.List.Elements.{All-pop}
use Rattle.feed_core.specs.Feeds.{Takings}
use Rattle.feed_core.proofs.Closing.{gathers}
use Rattle.feed_core.proofs.Keeping.{joins_keep}
use Rattle.feed_core.proofs.feed.Feed.gathered.Goals as goal

pub absorb-requires-clause-rule : goal.absorb-requires-clause-rule
absorb-requires-clause-rule c =
    let out = c.loop-seat.invariant in
    joins_keep _ _ _ _ (subst (λ n. 0 < n) (sym out.4.parts) out.1) (subst (λ n. 0 < n) (sym c.into_pass.ensures.parts) (lit< tt))

pub loop-seat-preserved : goal.loop-seat-preserved
loop-seat-preserved c =
    let out = c.loop-seat.invariant in
    let seat = c.in-Some-pop.seat in
    let rest = c.pop-in-loop-seat.new.self.items in
    let items : c.loop-seat.seats.items ≡ rest ++ seat ∷ [] = c.in-Some-pop.ensures.items in
    let feeds = All-pop (λ (s : Takings). s.feed ≡ c.args.self.now) c.loop-seat.seats.items rest (Some seat) items out.3 in (
      seat ∷ out.0,
      omega arith,
      out.2 ∙ ap (λ l. l ++ out.0) items ∙ append_assoc rest (seat ∷ []) out.0,
      feeds.0,
      gathers c.args.self.now out.0 seat _ _ _ out.4 c.into_pass.ensures feeds.1 c.absorb.ensures.queue c.absorb.ensures.rule,
    )
