use Rattle.std.proofs.Common.{◌∙◌, List, ℕ, ◌++◌, length, ap, sym}
use Rattle.std.proofs.lemmas.Result.{on_ok_weaker}
use Rattle.dns_name.proofs.PrintLemmas.{in_front, named_text}
use Rattle.dns_name.proofs.print.push_name.Goals as goal

pub push_front-requires : goal.push_front-requires
push_front-requires c =
    (_, in_front c.args.name.now c.in-Some.origin.now c.wire.result.now _ c.wire.ensures.name c.wire.ensures.wire (ap (λ (l : List ℕ). length l) c.wire-in-Some.ensures.wire) (sym c.is_under.ensures ∙ c.if-is_under.true))

pub returns-in-Some-clause-ok : goal.returns-in-Some-clause-ok
returns-in-Some-clause-ok c =
    on_ok_weaker c.push_front.result (λ printed.
    printed _ (in_front c.args.name.now c.in-Some.origin.now c.wire.result.now _ c.wire.ensures.name c.wire.ensures.wire (ap (λ (l : List ℕ). length l) c.wire-in-Some.ensures.wire) (sym c.is_under.ensures ∙ c.if-is_under.true))
    ∙ ap (λ (l : List ℕ). c.args.out.now.items ++ l) (sym (named_text c.args.origin c.in-Some.origin c.args.name.now c.in-Some.is (sym c.is_under.ensures ∙ c.if-is_under.true)))) c.push_front.ensures.ok
