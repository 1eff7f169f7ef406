use Rattle.std.proofs.Common.{rules, ◌≡◌, ◌∙◌, subst}
use Rattle.std.specs.Prelude.{IsSome}
use Rattle.qp_multi.specs.Passes.{known_at, Learnt}
use Rattle.job_threads.proofs.GatherLaws.{two_more, two_views}
use Rattle.job_threads.proofs.job.with_done.Goals as goal

pub returns-clause-back : goal.returns-clause-back
returns-clause-back g c = record {
  main = search rules;
  here = two_more c.note-seen.new.self c.args.done.spare c.args.others.passes.items _ _ (λ p. (IsSome p.seat) × (p.place ≡ c.args.index.now.place)) c.in_ok-insert.ensures.items c.in_ok-insert-2.ensures.items
      (c.note-seen.ensures.back.here, c.note-seen.ensures.back.place ∙ c.requires.done.places.0) (c.requires.done.here.1, c.requires.done.places.1) c.requires.others.here;
}

pub returns-clause-gathers : goal.returns-clause-gathers
returns-clause-gathers g c = (
  search rules,
  two_views c.note-seen.new.self c.args.done.spare c.args.others.passes.items _ _ (λ p. known_at p.seat) (known_at c.args.done.asks.seat) c.in_ok-insert.ensures.items c.in_ok-insert-2.ensures.items c.note-seen.ensures.same,
)

pub returns-clause-learnt : goal.returns-clause-learnt
returns-clause-learnt g c = subst (Learnt (known_at c.args.others.main.seat) (known_at c.learn.new.self.seat)) c.note-seen.ensures.told c.learn.ensures.learnt
