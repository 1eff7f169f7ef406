-- What a take leaves of what a seat can take.
use Rattle.std.proofs.Common.{ℕ, Bool, ◌<◌, ap, arith, Option, Some, None, MatchOption, IfSome, length}
use Rattle.std.proofs.lemmas.List.{length_push}
use Rattle.crossbeam_queue.specs.Passes.{Pass, view}
use Rattle.feed_core.specs.declared.knowledge.Knowledge.{Knowledge}
use Rattle.feed_core.specs.Steps.{TakesNumber, FindsNone}
use Rattle.feed_core.specs.Feeds.{IsSeated, takings_of, remaining}
use Rattle.feed_core.proofs.Lists.{few_below}

pub fewer : (old new : Pass ℕ Knowledge) (before after : Bool) (taken : Option ℕ) → IsSeated old before → MatchOption taken (FindsNone (view old) (view new)) (λ number. TakesNumber (view old) number (view new))
    → IfSome taken (λ _. remaining (takings_of new after) < remaining (takings_of old before))
fewer old new before after None seated told = tt
fewer old new before after (Some number) seated told =
    let few = few_below (view old).taken number told.within.0 seated.rising told.above in
    let within = told.within.1 in
    let put = ap (λ v. v.put) told.after in
    let long = ap (λ v. length v.taken) told.after in
    omega (arith, length_push (view old).taken number)
