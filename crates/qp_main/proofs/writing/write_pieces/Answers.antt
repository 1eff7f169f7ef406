use Rattle.std.proofs.Common.{List, ℕ, Vec, Global, subst}
use Rattle.std.proofs.lemmas.Result.{on_err_weaker}
use Rattle.std.specs.List.{flat_map}
use Rattle.outer_io.specs.Bytes.{Grows, GrowsByFront}
use Rattle.qp_main.proofs.WritingLemmas.{front_behind}
use Rattle.qp_main.proofs.writing.write_pieces.Goals as goal

pub returns-clause-err : goal.returns-clause-err
returns-clause-err g c =
    let whole = subst (λ (l : List (Vec ℕ Global)). Grows (g.K.Sink.held c.args.sink.now) (g.K.Sink.held c.write_each.new.sink) (flat_map (λ t. t.items) l)) c.deref.ensures.value c.in_ok-write_each.ensures.ok in
    on_err_weaker c.write_all.result
    (λ f. front_behind _ _ _ _ _ whole (subst (GrowsByFront (g.K.Sink.held c.write_each.new.sink) (g.K.Sink.held c.write_all.new.sink)) c.deref-2.ensures.value f))
    c.write_all.ensures.err
