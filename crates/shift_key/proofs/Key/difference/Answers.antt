use Rattle.std.proofs.Common.{ℕ, List, subst, ◌∙◌, arith}
use Rattle.zone_model.specs.Keys.{key_of}
use Rattle.zone_model.proofs.KeyLaws.{length-key_of}
use Rattle.shift_key.specs.Differences.{Agrees}
use Rattle.shift_key.proofs.DifferenceLemmas.{equal_at_end, longer_at_end}
use Rattle.shift_key.proofs.Key.difference.Goals as goal

pub shared_ref_as_front-compare_labels : goal.shared_ref_as_front-compare_labels
shared_ref_as_front-compare_labels c = omega (arith, length-key_of c.self.inside.name c.self.invariant.name, c.self.invariant.laid.len_is)

pub returns-then-end-self-clause-difference : goal.returns-then-end-self-clause-difference
returns-then-end-self-clause-difference c other is begins =
    let agrees = subst (λ (l : List ℕ). Agrees l (key_of other) c.in-Ok.end) (c.self.invariant.laid.front ∙ c.self.view_is) (c.in-Ok.ensures other is begins) in
    equal_at_end c.self.inside.name other c.args.self.now c.self.inside.len c.in-Ok.end c.self.invariant.name is c.self.view_is c.self.invariant.laid.len_is c.if-end-self.true agrees

pub returns-else-end-self-clause-difference : goal.returns-else-end-self-clause-difference
returns-else-end-self-clause-difference c other is begins =
    let agrees = subst (λ (l : List ℕ). Agrees l (key_of other) c.in-Ok.end) (c.self.invariant.laid.front ∙ c.self.view_is) (c.in-Ok.ensures other is begins) in
    longer_at_end c.self.inside.name other c.args.self.now c.self.inside.len c.in-Ok.end c.self.invariant.name is c.self.view_is c.self.invariant.laid.len_is c.if-end-self.false agrees
